-- The term with the leading monomial of a polynomial in normal form.
use Rattle.std.proofs.Common.{◌≡◌, ℕ, ◌<◌, Bool, false, List, length, get_or, subst}
use Rattle.std.proofs.lemmas.List.Elements.{Contains-get_or}
use Rattle.std.specs.declared.cmp.Ordering.{Ordering}
use Rattle.std.specs.declared.cmp.Ordering.TheVariants.{Equal}
use Rattle.rinv_algebra.specs.Ring.{RingOps, RingLaws, IsSame}
use Rattle.rinv_algebra.specs.MonomialOrder.{MonoOrderLaws}
use Rattle.rinv_algebra.specs.Polynomial.{Term, Polynomial, coefficient, is_zero}
use Rattle.rinv_algebra.specs.Leading.{IsLeadingMonomial, leading_monomial, leading_coefficient}
use Rattle.rinv_algebra.proofs.RingFacts as facts
use Rattle.rinv_groebner.proofs.LeadingMonomials.{leading_monomial-leads}
use Rattle.rinv_poly.proofs.Forms.{IsOrdered}
use Rattle.rinv_poly.proofs.NormalFacts.{coefficient-of_term}
use Rattle.rinv_div.proofs.OrderFacts.{both_ge}
use Rattle.rinv_div.proofs.Leads.{lead-vars}

module _ {E : Type 0} (o : RingOps E) (l : RingLaws o) (is_element : E → Bool) (v : ℕ) (cmp : List ℕ → List ℕ → Ordering) (laws : MonoOrderLaws cmp) (ties : (a b : List ℕ) → length a ≡ v → length b ≡ v → cmp a b ≡ Equal → a ≡ b) (f : Polynomial E) (n : IsOrdered o is_element v f) (nonzero : is_zero o f ≡ false) (k : ℕ) (d : Term E) (inside : k < length f) (leads : IsLeadingMonomial o cmp f (get_or f k d).0) where
  pub lead-monomial : (get_or f k d).0 ≡ leading_monomial o cmp f
  lead-monomial =
      let first = leading_monomial-leads o l cmp laws f nonzero in
      let m = leading_monomial o cmp f in
      ties (get_or f k d).0 m (n.terms k d inside).vars (lead-vars o l is_element v cmp laws f n nonzero) (both_ge cmp laws (get_or f k d).0 m (leads.greatest m first.has) (first.greatest (get_or f k d).0 leads.has))

  pub lead-coefficient : IsSame o (get_or f k d).1 (leading_coefficient o cmp f)
  lead-coefficient = subst (λ (m : List ℕ). IsSame o (get_or f k d).1 (coefficient o f m)) lead-monomial (facts.back o l (coefficient-of_term o l is_element v f n (get_or f k d) (Contains-get_or f k d inside)))
