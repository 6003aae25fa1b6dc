-- The leading monomials of the kept elements divide all others of the list, and none of them divides another.
--   kept_divides         the leading monomial of each element is a multiple of that of a kept one
--   kept-apart           that of a kept element is no multiple of that of another
use Rattle.std.proofs.Common.{◌≡◌, ◌⊎◌, ℕ, ◌<◌, Bool, true, false, not, ◌&&◌, List, [], length, length-take, take, get_or, refl, sym, ◌∙◌, ap, subst, inl, inr, arith, IsTrue, true≢false}
use Rattle.std.specs.Prelude.{nat_lt, ◌==◌}
use Rattle.std.specs.List.{list_any}
use Rattle.std.specs.declared.cmp.Ordering.{Ordering}
use Rattle.std.proofs.lemmas.Bool.{cases_Bool, eqb-true}
use Rattle.std.proofs.lemmas.Bool.Decides.{nat_tests}
use Rattle.std.proofs.lemmas.List.{get_or-take}
use Rattle.rinv_algebra.specs.Ring.{RingOps}
use Rattle.rinv_algebra.specs.Monomial.{divides}
use Rattle.rinv_algebra.specs.Polynomial.{Polynomial}
use Rattle.rinv_algebra.specs.Leading.{leading_monomial}
use Rattle.rinv_algebra.proofs.MonomialLaws.{same_monomial_sym}
use Rattle.rinv_algebra.proofs.Same.{both}
use Rattle.rinv_theory.proofs.Monoid.{Monomial, monomial, monomials, monomial_sound, monomial_exact}
use Rattle.rinv_theory.proofs.Leads.{MonomialOrder}
use Rattle.rinv_theory.proofs.ListOrders.{order_of}
use Rattle.rinv_theory.proofs.LastVariable.{later, later-nil, later_order, later_well_founded}
use Rattle.rinv_theory.proofs.WellOrders.{IsWellOrder, order_of_well}
use Rattle.rinv_groebner.specs.Reduced.{same_lead, properly_divides, kept}
use Rattle.rinv_groebner.proofs.Ascending.{Has, has_at, place_of}
use Rattle.rinv_groebner.proofs.Kept.{none_passes, kept-in, kept_or, kept-minimal, kept-differ}
use Rattle.rinv_groebner.proofs.Minimal.{Found, kept_divisor}
use Rattle.rinv_groebner.proofs.MonomialLists.{Divisor, divides-divisor, divisor-divides}
use Rattle.rinv_groebner.proofs.Reducible.{first_passing}

-- an order of all monomials with no endless descent
last_order : MonomialOrder monomials
last_order = order_of later later_order

last_well : IsWellOrder last_order
unfolding last_order
last_well = order_of_well later later_order later-nil later_well_founded

module _ {E : Type 0} (o : RingOps E) (cmp : List ℕ → List ℕ → Ordering) (hs : List (Polynomial E)) where
  abbrev lead_of : ℕ → Monomial
  lead_of k = monomial (leading_monomial o cmp (get_or hs k []))

  abbrev Index : Type 0
  Index = (i : ℕ) × (i < length hs)

  abbrev Stays : Index → Type 0
  Stays i = Has (get_or hs i.0 []) (kept o cmp hs)

  abbrev Instead : Index → Type 0
  Instead i = (j : Index) × (s : Monomial) × (monomials.mul s (lead_of j.0) ≡ lead_of i.0) × ((lead_of j.0 ≡ lead_of i.0 → ⊥) ⊎ (j.0 < i.0))

  chosen : (i : Index) → Stays i ⊎ Instead i
  chosen (i, inside) = go (kept_or o cmp hs [] hs i inside)
    where
      proper : (p : ℕ) × (p < length hs) × IsTrue (properly_divides o cmp (get_or hs p []) (get_or hs i [])) × ((j : ℕ) → j < p → properly_divides o cmp (get_or hs j []) (get_or hs i []) ≡ false) → Instead (i, inside)
      proper (p, there, d, before) =
          let parts = both (divides (leading_monomial o cmp (get_or hs p [])) (leading_monomial o cmp (get_or hs i []))) _ d in
          let (s, e) = divides-divisor _ (leading_monomial o cmp (get_or hs i [])) parts.0 in
          ((p, there), s, e, inl (λ q. true≢false (sym parts.1 ∙ ap not (monomial_exact _ _ q))))

      earlier : (p : ℕ) × (p < length (take i hs)) × IsTrue (same_lead o cmp (get_or (take i hs) p []) (get_or hs i [])) × ((j : ℕ) → j < p → same_lead o cmp (get_or (take i hs) j []) (get_or hs i []) ≡ false) → Instead (i, inside)
      earlier (p, there, d, before) =
          let short = length-take i hs in
          let low : p < i = omega (arith, there, short) in
          let same : lead_of p ≡ lead_of i = monomial_sound _ _ (subst (λ (g : Polynomial E). IsTrue (same_lead o cmp g (get_or hs i []))) (get_or-take i hs p [] low) d) in
          ((p, omega (arith, low, inside)), monomials.one, monomials.one_mul _ ∙ same, inr low)

      go : Has (get_or hs i []) (kept o cmp hs) ⊎ (list_any (λ g. properly_divides o cmp g (get_or hs i [])) hs ≡ true) ⊎ (list_any (λ g. same_lead o cmp g (get_or hs i [])) (take i hs) ≡ true) → Stays (i, inside) ⊎ Instead (i, inside)
      go (inl h) = inl h
      go (inr (inl p)) = inr (proper (first_passing (λ g. properly_divides o cmp g (get_or hs i [])) [] hs p))
      go (inr (inr q)) = inr (earlier (first_passing (λ g. same_lead o cmp g (get_or hs i [])) [] (take i hs) q))

  -- the leading monomial of each element is a multiple of that of a kept one
  pub kept_divides : (i : ℕ) → i < length hs → (k : ℕ) × (k < length (kept o cmp hs)) × Divisor (monomial (leading_monomial o cmp (get_or (kept o cmp hs) k []))) (lead_of i)
  kept_divides i inside = go (kept_divisor last_order last_well (λ (i : Index). lead_of i.0) (λ i. i.0) Stays chosen (i, inside))
    where
      go : Found last_order last_well (λ (i : Index). lead_of i.0) (λ i. i.0) Stays chosen (i, inside) → (k : ℕ) × (k < length (kept o cmp hs)) × Divisor (monomial (leading_monomial o cmp (get_or (kept o cmp hs) k []))) (lead_of i)
      go (j, h, s, e) = let (k, there, q) = place_of [] (kept o cmp hs) h in (k, there, (s, ap (λ (g : Polynomial E). monomials.mul s (monomial (leading_monomial o cmp g))) q ∙ e))

  -- the leading monomial of a kept element is no multiple of that of another
  pub kept-apart : (i j : ℕ) → i < length (kept o cmp hs) → j < length (kept o cmp hs) → (i ≡ j → ⊥) → Divisor (monomial (leading_monomial o cmp (get_or (kept o cmp hs) j []))) (monomial (leading_monomial o cmp (get_or (kept o cmp hs) i []))) → ⊥
  kept-apart i j ii jj differ d = elim (cases_Bool (nat_lt i j)) [
    | inl low ↦ true≢false (sym (same_monomial_sym _ _ same) ∙ kept-differ o cmp hs [] hs i j (grind (arith, nat_tests, low)) jj)
    | inr high ↦ true≢false (sym same ∙ kept-differ o cmp hs [] hs j i (above i j differ high) ii)
  ]
    where
      above : (i j : ℕ) → (i ≡ j → ⊥) → nat_lt i j ≡ false → j < i
      above i j differ high = elim (cases_Bool (i == j)) [
        | inl e ↦ absurd (differ (eqb-true i j e))
        | inr e ↦ grind (arith, nat_tests, high, e)
      ]

      not_proper : properly_divides o cmp (get_or (kept o cmp hs) j []) (get_or (kept o cmp hs) i []) ≡ false
      not_proper = none_passes (λ g. properly_divides o cmp g (get_or (kept o cmp hs) i [])) hs (kept-in o cmp hs [] hs (has_at [] (kept o cmp hs) j jj)) (kept-minimal o cmp hs [] hs (has_at [] (kept o cmp hs) i ii))

      second : (a b : Bool) → a ≡ true → (a && not b) ≡ false → b ≡ true
      second true true e h = refl
      second true false e h = absurd (true≢false h)
      second false b e h = absurd (true≢false (sym e))

      same : same_lead o cmp (get_or (kept o cmp hs) j []) (get_or (kept o cmp hs) i []) ≡ true
      same = second (divides (leading_monomial o cmp (get_or (kept o cmp hs) j [])) (leading_monomial o cmp (get_or (kept o cmp hs) i []))) _ (divisor-divides _ _ d) not_proper
