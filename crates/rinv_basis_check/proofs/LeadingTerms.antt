-- The leading term of a polynomial as it is stored, in the order of blocks with these ends.
--   lead-vars                       the leading monomial has all variables
--   lead-monomial, lead-coefficient the term whose monomial is the greatest
--   lead-has                        the leading monomial is one that the polynomial has
use Rattle.std.proofs.Common.{◌≡◌, ℕ, ◌<◌, true, false, List, [], ◌∷◌, length, get_or, map, All, refl, sym, ap, ◌∙◌, subst, nat_lt, IsTrue, true≢false}
use Rattle.std.proofs.lemmas.List.Elements.{All-head, All-tail, Contains-get_or}
use Rattle.std.specs.Ordering.{is_ge, ordering_reverse}
use Rattle.std.specs.declared.cmp.Ordering.{Ordering}
use Rattle.std.specs.declared.cmp.Ordering.TheVariants.{Less, Equal, Greater}
use Rattle.rinv_algebra.specs.Ring.{IsSame}
use Rattle.rinv_algebra.specs.Residue.{residue_ops}
use Rattle.rinv_algebra.specs.BlockEnds.{sizes_from, last_from}
use Rattle.rinv_algebra.specs.Order.{block_order}
use Rattle.rinv_algebra.specs.MonomialOrder.{MonoOrderLaws}
use Rattle.rinv_algebra.specs.Polynomial.{Term, coefficient, has_monomial, is_zero}
use Rattle.rinv_algebra.specs.Leading.{IsLeadingMonomial, leading_monomial, leading_coefficient}
use Rattle.rinv_algebra.proofs.BlockOrder.{block_order_laws}
use Rattle.rinv_algebra.proofs.BlockEnds.{blocks_ties}
use Rattle.rinv_algebra.proofs.ResidueLaws.{residue_laws}
use Rattle.rinv_algebra.proofs.RingFacts as facts
use Rattle.rinv_groebner.proofs.Ascending.{Has}
use Rattle.rinv_groebner.proofs.Greatest.{reduced}
use Rattle.rinv_groebner.proofs.LeadingMonomials.{leading_monomial-leads}
use Rattle.rinv_poly.proofs.Forms.{IsOrdered, IsNormalTerm, ordered-from_normal}
use Rattle.rinv_poly.proofs.NormalFacts.{coefficient-of_term, monomials-ordered, zero-nil}
use Rattle.rinv_defs.specs.System.{Poly}
use Rattle.rinv_form.specs.Forms.{is_stored}

-- where neither is below the other, they tie
both_ge : (cmp : List ℕ → List ℕ → Ordering) → MonoOrderLaws cmp → (a b : List ℕ) → is_ge (cmp a b) ≡ true → is_ge (cmp b a) ≡ true → cmp a b ≡ Equal
both_ge cmp laws a b up down = go (cmp a b) refl
  where
    go : (p : Ordering) → p ≡ cmp a b → cmp a b ≡ Equal
    go Less e = absurd (true≢false (sym up ∙ ap is_ge (sym e)))
    go Equal e = sym e
    go Greater e = absurd (true≢false (sym down ∙ ap is_ge (laws.total.antisymm b a ∙ ap ordering_reverse (sym e))))

module _ (p v : ℕ) (ends : List ℕ) where
  has-vars : (f : Poly) → All (IsNormalTerm (residue_ops p) (λ c. nat_lt c p) v) f → {m : List ℕ} → Has m (map (λ t. t.0) f) → length m ≡ v
  has-vars [] all h = elim h [ ]
  has-vars (t ∷ f) all Has.first = (All-head (IsNormalTerm (residue_ops p) (λ c. nat_lt c p) v) t f all).vars
  has-vars (t ∷ f) all (Has.later h) = has-vars f (All-tail (IsNormalTerm (residue_ops p) (λ c. nat_lt c p) v) t f all) h

  vars-ordered : (h : Poly) → IsOrdered (residue_ops p) (λ c. nat_lt c p) v h → is_zero (residue_ops p) h ≡ false → length (leading_monomial (residue_ops p) (block_order (sizes_from 0 ends)) h) ≡ v
  unfolding leading_monomial
  vars-ordered [] n off = absurd (true≢false (sym (zero-nil (residue_ops p) (residue_laws p) (λ c. nat_lt c p) v) ∙ off))
  vars-ordered (t ∷ f) n off =
      let cmp = block_order (sizes_from 0 ends) in
      rw (monomials-ordered (residue_ops p) (residue_laws p) (λ c. nat_lt c p) v (t ∷ f) n)
      (has-vars (t ∷ f) n.terms (reduced cmp (block_order_laws (sizes_from 0 ends)).total (t.0 ∷ map (λ u. u.0) f) [] Has.first).0)

  module _ (f : Poly) (stored : IsTrue (is_stored p v f)) (nonzero : is_zero (residue_ops p) f ≡ false) where
    pub lead-vars : length (leading_monomial (residue_ops p) (block_order (sizes_from 0 ends)) f) ≡ v
    lead-vars = vars-ordered f (ordered-from_normal (residue_ops p) (λ c. nat_lt c p) v f stored) nonzero

    pub lead-has : has_monomial (residue_ops p) f (leading_monomial (residue_ops p) (block_order (sizes_from 0 ends)) f) ≡ true
    lead-has = (leading_monomial-leads (residue_ops p) (residue_laws p) (block_order (sizes_from 0 ends)) (block_order_laws (sizes_from 0 ends)) f nonzero).has

    module _ (suits : v ≡ last_from 0 ends) (k : ℕ) (d : Term ℕ) (inside : k < length f) (leads : IsLeadingMonomial (residue_ops p) (block_order (sizes_from 0 ends)) f (get_or f k d).0) where
      pub lead-monomial : (get_or f k d).0 ≡ leading_monomial (residue_ops p) (block_order (sizes_from 0 ends)) f
      lead-monomial =
          let cmp = block_order (sizes_from 0 ends) in
          let laws = block_order_laws (sizes_from 0 ends) in
          let n = ordered-from_normal (residue_ops p) (λ c. nat_lt c p) v f stored in
          let first = leading_monomial-leads (residue_ops p) (residue_laws p) cmp laws f nonzero in
          let m = leading_monomial (residue_ops p) cmp f in
          let here : length (get_or f k d).0 ≡ v = (n.terms k d inside).vars in
          blocks_ties ends (get_or f k d).0 m (here ∙ sym lead-vars) (here ∙ suits) (both_ge cmp laws (get_or f k d).0 m (leads.greatest m first.has) (first.greatest (get_or f k d).0 leads.has))

      pub lead-coefficient : IsSame (residue_ops p) (get_or f k d).1 (leading_coefficient (residue_ops p) (block_order (sizes_from 0 ends)) f)
      lead-coefficient =
          let o = residue_ops p in
          let n = ordered-from_normal o (λ c. nat_lt c p) v f stored in
          subst (λ (m : List ℕ). IsSame o (get_or f k d).1 (coefficient o f m)) lead-monomial
          (facts.back o (residue_laws p) (coefficient-of_term o (residue_laws p) (λ c. nat_lt c p) v f n (get_or f k d) (Contains-get_or f k d inside)))
