-- The monomials of a rest, from the greatest down: the first at whose coefficient there is a value.
--   IsPassed             the coefficients at the first monomials have none
--   passed-more          one monomial more
--   not_below            a monomial whose coefficient has a value is not above one to which all were passed
--   greatest-at, none-left    the first with a value, and no more monomials
--   in-rest              its monomials are those of the rest's terms
use Rattle.std.proofs.Common.{◌≡◌, ◌<◌, ◌≤◌, ◌+◌, ℕ, Bool, true, false, not, List, [], ◌∷◌, ◌++◌, length, get_or, take, map, inl, inr, refl, sym, ◌∙◌, ap, ap₂, subst, arith, true≢false}
use Rattle.std.specs.Prelude.{Contains, IsTrue}
use Rattle.std.proofs.lemmas.Cmp.{alike_right, tied_itself}
use Rattle.std.specs.Ordering.{is_ge, is_lt}
use Rattle.std.specs.declared.cmp.Ordering.{Ordering}
use Rattle.std.specs.declared.cmp.Ordering.TheVariants.{Less, Equal, Greater}
use Rattle.std.proofs.lemmas.Bool.{cases_Bool, cases_order, cases_lt}
use Rattle.std.proofs.lemmas.List.{get_or-map, length-map, get_or_default, take_more}
use Rattle.std.proofs.lemmas.List.Elements.{Contains-get_or}
use Rattle.std.proofs.lemmas.List.MinMax.{ranks_by, IsStrictWeakOrder-flip}
use Rattle.std.proofs.lemmas.List.Sorted.{sorted_far, Contains-permutation, IsPermutation-sym}
use Rattle.rinv_algebra.specs.Ring.{IsSame}
use Rattle.rinv_algebra.specs.Residue.{residue_ops}
use Rattle.rinv_algebra.specs.Monomial.{same_monomial}
use Rattle.rinv_algebra.specs.Order.{grevlex}
use Rattle.rinv_algebra.specs.Polynomial.{Term, poly_ops, coefficient, is_zero}
use Rattle.rinv_algebra.proofs.Grevlex.{grevlex_laws}
use Rattle.rinv_algebra.proofs.MonomialLaws.{same_monomial_sym}
use Rattle.rinv_algebra.proofs.PolynomialLaws.{poly_laws}
use Rattle.rinv_algebra.proofs.ResidueLaws.{residue_laws}
use Rattle.rinv_algebra.proofs.Same.{IsAbsent, coefficient-absent, coefficient-same_monomial}
use Rattle.rinv_theory.proofs.WellOrders.{tied}
use Rattle.rinv_poly.proofs.Degrees.{searched}
use Rattle.rinv_defs.specs.System.{Poly}
use Rattle.rinv_defs.specs.Invariant.{Fraction}
use Rattle.rinv_defs.specs.Generators.{rational_ops, value_at}
use Rattle.rinv_soundness.specs.Rewriting.{SymbolPoly}
use Rattle.rinv_rewrite.specs.Taken.{HasValueAt, HasNoValue, IsGreatestWithValue}
use Rattle.rinv_rewrite.specs.Terms.{AreMonomialsDown}
use Rattle.rinv_rewrite.proofs.CoefficientValues.{nothing-value}

-- what is one monomial compares as one
congruent : (m a b : List ℕ) → same_monomial a b ≡ true → grevlex m a ≡ grevlex m b
congruent m a b e = alike_right grevlex_laws.total a b m (tied grevlex grevlex_laws.total grevlex_laws.kept a b e)

itself : (m : List ℕ) → is_lt (grevlex m m) ≡ false
itself m = ap is_lt (tied_itself grevlex_laws.total m)

not_less : (x : Ordering) → is_lt x ≡ false → IsTrue (is_ge x)
not_less Less e = absurd (true≢false e)
not_less Equal e = refl
not_less Greater e = refl

-- the monomial of one term more
pub monomials-more : (f : SymbolPoly) (k : ℕ) (t : Term Poly) (ms : List (List ℕ)) (m : List ℕ) → k < length f → t ≡ get_or f k t → m ≡ t.0 → ms ≡ map (λ (t : Term Poly). t.0) (take k f) → ms ++ m ∷ [] ≡ map (λ (t : Term Poly). t.0) (take (k + 1) f)
monomials-more f k t ms m inside is mono so_far =
    ap₂ (λ (xs : List (List ℕ)) x. xs ++ x ∷ []) so_far mono ∙ sym (appended (take k f)) ∙ ap (map (λ (t : Term Poly). t.0)) (sym (take_more f k t inside ∙ ap (λ u. take k f ++ u ∷ []) (sym is)))
  where
    appended : (g : SymbolPoly) → map (λ (t : Term Poly). t.0) (g ++ t ∷ []) ≡ map (λ (t : Term Poly). t.0) g ++ t.0 ∷ []
    appended [] = refl
    appended (u ∷ g) = ap (λ (xs : List (List ℕ)). u.0 ∷ xs) (appended g)

module _ (p : ℕ) (cs : List Fraction) (rest : SymbolPoly) where
  -- at the monomials before this place no coefficient has a value
  abbrev pub IsPassed : List (List ℕ) → ℕ → Type 0
  IsPassed ms k = (i : ℕ) (d : List ℕ) → i < k → ¬ (HasValueAt p cs rest (get_or ms i d))

  pub passed-more : (ms : List (List ℕ)) (k : ℕ) (m : List ℕ) → ((d : List ℕ) → get_or ms k d ≡ m) → IsPassed ms k → ¬ (HasValueAt p cs rest m) → IsPassed ms (k + 1)
  passed-more ms k m at so_far none i d low = elim (cases_lt i k) [
    | inl before ↦ so_far i d before
    | inr after ↦ let last : k ≡ i = omega (arith, low, after) in λ h. none (subst (HasValueAt p cs rest) (ap (λ (j : ℕ). get_or ms j d) (sym last) ∙ at d) h)
  ]

  has-same : (a b : List ℕ) → same_monomial a b ≡ true → HasValueAt p cs rest a → HasValueAt p cs rest b
  has-same a b e h = subst (λ (c : Poly). ¬ (IsSame (rational_ops p) (value_at p cs c) (rational_ops p).zero)) (coefficient-same_monomial (poly_ops (residue_ops p)) rest a b e) h

  module _ (ms : List (List ℕ)) (down : AreMonomialsDown rest ms) where
    -- a monomial whose coefficient has a value stands in the list
    placed : (e : List ℕ) → HasValueAt p cs rest e → (j : ℕ) × (j < length ms) × (same_monomial (get_or ms j e) e ≡ true)
    placed e has = elim (searched (poly_ops (residue_ops p)) (poly_laws (residue_ops p) (residue_laws p)) e rest) [
      | inl there ↦ found there.0 there.1 (there.2 (e, []))
      | inr absent ↦ absurd (has (nothing-value p cs (coefficient (poly_ops (residue_ops p)) rest e) (nothing absent)))
    ]
      where
        nothing : IsAbsent e rest → is_zero (residue_ops p) (coefficient (poly_ops (residue_ops p)) rest e) ≡ true
        nothing absent = rw (coefficient-absent (poly_ops (residue_ops p)) e rest absent) ((poly_laws (residue_ops p) (residue_laws p)).same_refl [])

        found : (k : ℕ) → k < length rest → same_monomial (get_or rest k (e, [])).0 e ≡ true → (j : ℕ) × (j < length ms) × (same_monomial (get_or ms j e) e ≡ true)
        found k b s =
            let few : k < length (map (λ (t : Term Poly). t.0) rest) = omega (arith, b, length-map rest (λ (t : Term Poly). t.0)) in
            let is : get_or (map (λ (t : Term Poly). t.0) rest) k e ≡ (get_or rest k (e, [])).0 = get_or-map (λ (t : Term Poly). t.0) rest k (e, []) e b in
            let c : Contains ms (get_or (map (λ (t : Term Poly). t.0) rest) k e) = Contains-permutation (map (λ (t : Term Poly). t.0) rest) ms _ down.monomials (Contains-get_or (map (λ (t : Term Poly). t.0) rest) k e few) in
            at (get_or (map (λ (t : Term Poly). t.0) rest) k e) (ap (λ (m : List ℕ). same_monomial m e) is ∙ s) c
          where
            at : (m : List ℕ) → same_monomial m e ≡ true → Contains ms m → (j : ℕ) × (j < length ms) × (same_monomial (get_or ms j e) e ≡ true)
            at m s (j, b, i) = (j, b, ap (λ (x : List ℕ). same_monomial x e) (get_or_default ms j e m b ∙ i) ∙ s)

    -- and is not above one to which all were passed
    pub not_below : (k : ℕ) (m : List ℕ) → k < length ms → ((d : List ℕ) → get_or ms k d ≡ m) → IsPassed ms k → (e : List ℕ) → HasValueAt p cs rest e → is_lt (grevlex m e) ≡ false
    not_below k m inside at so_far e has =
        let found = placed e has in
        after found.0 found.1 found.2
      where
        one : (j : ℕ) → same_monomial (get_or ms j e) e ≡ true → grevlex m (get_or ms j e) ≡ grevlex m e
        one j s = congruent m (get_or ms j e) e s

        weaker : {j : ℕ} → k < j → k ≤ j
        weaker h = omega (arith, h)

        after : (j : ℕ) → j < length ms → same_monomial (get_or ms j e) e ≡ true → is_lt (grevlex m e) ≡ false
        after j b s = elim (cases_order j k) [
          | inl same ↦ ap is_lt (sym (one j s) ∙ ap (λ (i : ℕ). grevlex m (get_or ms i e)) same ∙ ap (grevlex m) (at e)) ∙ itself m
          | inr (inl before) ↦ absurd (so_far j e before (has-same e (get_or ms j e) (same_monomial_sym (get_or ms j e) e s) has))
          | inr (inr later) ↦ ap is_lt (sym (one j s) ∙ ap (λ (x : List ℕ). grevlex x (get_or ms j e)) (sym (at e))) ∙ sorted_far (λ a b. is_lt (grevlex b a)) (IsStrictWeakOrder-flip (λ a b. is_lt (grevlex a b)) (ranks_by grevlex_laws.total (λ a. a))) ms down.descending k j e (weaker later) b
        ]

    -- the first with a value is the greatest with one
    pub greatest-at : (k : ℕ) (m : List ℕ) → k < length ms → ((d : List ℕ) → get_or ms k d ≡ m) → IsPassed ms k → HasValueAt p cs rest m → IsGreatestWithValue p cs rest m
    greatest-at k m inside at so_far has = record { has = has; greatest = λ e h. not_less (grevlex m e) (not_below k m inside at so_far e h) }

    -- no more monomials: no coefficient has a value
    pub none-left : (k : ℕ) → length ms ≤ k → IsPassed ms k → HasNoValue p cs rest
    none-left k whole so_far e = elim (cases_Bool ((rational_ops p).same (value_at p cs (coefficient (poly_ops (residue_ops p)) rest e)) (rational_ops p).zero)) [
      | inl zero ↦ zero
      | inr off ↦ absurd (lost (λ z. true≢false (sym z ∙ off)))
    ]
      where
        lost : HasValueAt p cs rest e → ⊥
        lost has = let found = placed e has in so_far found.0 e (omega (arith, found.1, whole)) (has-same e (get_or ms found.0 e) (same_monomial_sym (get_or ms found.0 e) e found.2) has)

    -- a monomial of the list is one of the rest
    pub in-rest : (k : ℕ) (m : List ℕ) → k < length ms → ((d : List ℕ) → get_or ms k d ≡ m) → (i : ℕ) × (i < length rest) × ((d : Term Poly) → (get_or rest i d).0 ≡ m)
    in-rest k m inside at =
        let c : Contains (map (λ (t : Term Poly). t.0) rest) m = Contains-permutation ms (map (λ (t : Term Poly). t.0) rest) m (IsPermutation-sym (map (λ (t : Term Poly). t.0) rest) ms down.monomials) (k, inside, at m) in
        here c
      where
        here : Contains (map (λ (t : Term Poly). t.0) rest) m → (i : ℕ) × (i < length rest) × ((d : Term Poly) → (get_or rest i d).0 ≡ m)
        here (i, b, e) =
            let few : i < length rest = omega (arith, b, length-map rest (λ (t : Term Poly). t.0)) in
            (i, few, λ d. sym (get_or-map (λ (t : Term Poly). t.0) rest i d m few) ∙ e)
