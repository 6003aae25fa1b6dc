-- What is prepared of the elements: none is zero, and their leading monomials are in all variables and low.
use Rattle.std.proofs.Common.{◌≡◌, ℕ, suc, ◌<◌, ◌≤◌, Bool, true, false, not, List, [], ◌∷◌, length, get_or, map, All, refl, sym, ◌∙◌, ap, subst, inl, inr, arith, IsTrue, true≢false}
use Rattle.std.specs.List.{list_any}
use Rattle.std.proofs.lemmas.Bool.Decides.{nat_tests}
use Rattle.std.proofs.lemmas.List.{get_or-map, length-map}
use Rattle.std.proofs.lemmas.List.Elements.{Contains-get_or}
use Rattle.std.specs.declared.cmp.Ordering.{Ordering}
use Rattle.rinv_algebra.specs.Ring.{RingOps, RingLaws}
use Rattle.rinv_algebra.specs.Monomial.{divides, total_degree, max_degree}
use Rattle.rinv_algebra.specs.Polynomial.{Term, Polynomial, has_monomial, is_zero}
use Rattle.rinv_algebra.specs.Normal.{IsNormal}
use Rattle.rinv_algebra.specs.Leading.{leading_monomial}
use Rattle.rinv_algebra.proofs.Degrees.{total_degree-same}
use Rattle.rinv_algebra.proofs.Same.{coefficient-absent}
use Rattle.rinv_groebner.specs.Division.{is_reducible}
use Rattle.rinv_groebner.proofs.Reducible.{reducible-one}
use Rattle.rinv_poly.proofs.Forms.{ordered-from_normal}
use Rattle.rinv_poly.proofs.NormalFacts.{has-term}
use Rattle.rinv_poly.proofs.Degrees.{searched}
use Rattle.rinv_div.specs.Divisors.{IsDivisor, AreDivisors}
use Rattle.rinv_div.specs.declared.divisors.Divisor.{Divisor}
use Rattle.rinv_buch.specs.declared.elements.Elements.{Elements}
use Rattle.rinv_buch.specs.Elements.{ArePrepared}
use Rattle.rinv_buch.specs.Halting.{CanStep}

module _ {R E : Type 0} (o : RingOps E) (is_element : E → Bool) (v : ℕ) (cmp : List ℕ → List ℕ → Ordering) where
  -- what is prepared of each polynomial
  divisor-at : (hs : List (Polynomial E)) (ds : List (Divisor R E)) → AreDivisors o is_element v cmp hs ds → (k : ℕ) → k < length hs → (d : Divisor R E) × IsDivisor o is_element v cmp (get_or hs k []) d
  divisor-at hs [] a k low = absurd (omega (arith, a.number, low))
  divisor-at hs (d ∷ ds) a k low = (get_or (d ∷ ds) k d, a.each k d (omega (arith, a.number, low)))

  module _ (es : Elements R E) (prepared : ArePrepared o is_element v cmp es) where
    pub prepared-nonzero : (k : ℕ) → k < length es.polys.items → is_zero o (get_or es.polys.items k []) ≡ false
    prepared-nonzero k low = (divisor-at es.polys.items es.divisors.list.items prepared.divisors k low).1.nonzero

    pub prepared-vars : (k : ℕ) → k < length es.polys.items → length (leading_monomial o cmp (get_or es.polys.items k [])) ≡ v
    prepared-vars k low = let d = (divisor-at es.polys.items es.divisors.list.items prepared.divisors k low).1 in ap length (sym d.lead) ∙ d.vars

    leads-vars : All (λ m. length m ≡ v) es.leads.items
    leads-vars k d low =
        let inside : k < length es.polys.items = omega (arith, low, ap length prepared.leads, length-map es.polys.items (leading_monomial o cmp)) in
        ap (λ (ms : List (List ℕ)). length (get_or ms k d)) prepared.leads ∙ ap length (get_or-map (leading_monomial o cmp) es.polys.items k [] d inside) ∙ prepared-vars k inside

module _ {E : Type 0} (o : RingOps E) (cmp : List ℕ → List ℕ → Ordering) where
  -- what a leading monomial divides is reducible, and the other way round
  pub divided-reducible : (list : List (Polynomial E)) → ((k : ℕ) → k < length list → is_zero o (get_or list k []) ≡ false) → (m : List ℕ) → list_any (λ lead. divides lead m) (map (leading_monomial o cmp) list) ≡ is_reducible o cmp list m
  divided-reducible [] nonzero m = refl
  divided-reducible (h ∷ list) nonzero m =
      let here : is_zero o h ≡ false = nonzero 0 (omega arith) in
      let rest = divided-reducible list (λ k low. nonzero (suc k) (omega (arith, low))) m in
      grind (arith, nat_tests, here, rest)

module _ {E : Type 0} (o : RingOps E) (l : RingLaws o) (is_element : E → Bool) (v : ℕ) (cmp : List ℕ → List ℕ → Ordering) where
  -- a monomial of a polynomial in normal form is low
  pub has-low : (f : Polynomial E) → IsNormal o is_element v f → (m : List ℕ) → IsTrue (has_monomial o f m) → total_degree m ≤ max_degree
  has-low f n m has = elim (searched o l m f) [
    | inl there ↦
        let d : Term E = (m, o.zero) in
        let low = (ordered-from_normal o is_element v f n).terms there.0 d there.1 in
        subst (λ (x : ℕ). x ≤ max_degree) (total_degree-same (get_or f there.0 d).0 m (there.2 d)) low.low
    | inr absent ↦ absurd (true≢false (sym has ∙ rw (coefficient-absent o m f absent) (ap not (l.same_refl o.zero))))
  ]

  -- where no term is reducible, no monomial is
  terms-reducible : (list : List (Polynomial E)) (f : Polynomial E) → All (λ t. is_reducible o cmp list t.0 ≡ false) f → (m : List ℕ) → IsTrue (has_monomial o f m) → is_reducible o cmp list m ≡ false
  terms-reducible list f all m has = elim (searched o l m f) [
    | inl there ↦
        let d : Term E = (m, o.zero) in
        let off : is_reducible o cmp list (get_or f there.0 d).0 ≡ false = all there.0 d there.1 in
        sym (reducible-one o cmp list (get_or f there.0 d).0 m (there.2 d)) ∙ off
    | inr absent ↦ absurd (true≢false (sym has ∙ rw (coefficient-absent o m f absent) (ap not (l.same_refl o.zero))))
  ]

  term-has : (f : Polynomial E) → IsNormal o is_element v f → (k : ℕ) (t : Term E) → k < length f → has_monomial o f (get_or f k t).0 ≡ true
  term-has f n k t low = has-term o l is_element v f (ordered-from_normal o is_element v f n) (get_or f k t) (Contains-get_or f k t low)

module _ {R E : Type 0} (o : RingOps E) (l : RingLaws o) (is_element : E → Bool) (v : ℕ) (cmp : List ℕ → List ℕ → Ordering) (es : Elements R E) (prepared : ArePrepared o is_element v cmp es)
    (f : Polynomial E) (normal : IsNormal o is_element v f) (terms : Polynomial E) (of_it : terms ≡ f) where
  divided : (m : List ℕ) → list_any (λ lead. divides lead m) es.leads.items ≡ is_reducible o cmp es.polys.items m
  divided m = ap (list_any (λ (lead : List ℕ). divides lead m)) prepared.leads ∙ divided-reducible o cmp es.polys.items (prepared-nonzero o is_element v cmp es prepared) m

  module _ (leads : List (List ℕ)) (of_them : leads ≡ es.leads.items) (k : ℕ) (t : Term E) (inside : k < length terms) (at : t ≡ get_or terms k t) where
    -- the leading monomials and the monomial of a term have the same number of exponents
    pub leads-fit : All (λ lead. length lead ≡ length t.0) leads
    leads-fit =
        let vars : length t.0 ≡ v = subst (λ (u : Term E). length u.0 ≡ v) (sym (at ∙ ap (λ (g : Polynomial E). get_or g k t) of_it)) ((ordered-from_normal o is_element v f normal).terms k t (omega (arith, inside, ap length of_it))).vars in
        subst (All (λ lead. length lead ≡ length t.0)) (sym of_them) (λ i d low. leads-vars o is_element v cmp es prepared i d low ∙ sym vars)

    -- what one of them divides can be cancelled
    pub can-step : list_any (λ lead. divides lead t.0) leads ≡ true → CanStep o cmp es.polys.items f t.0
    can-step h = record {
      has = subst (λ (u : Term E). has_monomial o f u.0 ≡ true) (sym (at ∙ ap (λ (g : Polynomial E). get_or g k t) of_it)) (term-has o l is_element v cmp f normal k t (omega (arith, inside, ap length of_it)));
      reducible = sym (divided t.0) ∙ ap (list_any (λ (lead : List ℕ). divides lead t.0)) (sym of_them) ∙ h;
    }

    pub not-divided : list_any (λ lead. divides lead t.0) leads ≡ false → list_any (λ lead. divides lead (get_or terms k t).0) es.leads.items ≡ false
    not-divided off = subst (λ (u : Term E). list_any (λ lead. divides lead u.0) es.leads.items ≡ false) at (ap (list_any (λ (lead : List ℕ). divides lead t.0)) (sym of_them) ∙ off)

  -- where none of them divides a term, nothing can be cancelled
  pub cannot-step : All (λ t. list_any (λ lead. divides lead t.0) es.leads.items ≡ false) terms → (m : List ℕ) × CanStep o cmp es.polys.items f m → ⊥
  cannot-step all (m, can) =
      let off : All (λ t. is_reducible o cmp es.polys.items t.0 ≡ false) f = subst (All (λ t. is_reducible o cmp es.polys.items t.0 ≡ false)) of_it (λ k t low. sym (divided (get_or terms k t).0) ∙ all k t low) in
      true≢false (sym can.reducible ∙ terms-reducible o l is_element v cmp es.polys.items f off m can.has)
