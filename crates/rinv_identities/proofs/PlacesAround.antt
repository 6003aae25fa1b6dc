-- The places of the group's variables and of the space's behind Z.
--   around-places     they are distinct places
--   around-many       how many they are
use Rattle.std.proofs.Common.{◌≡◌, ℕ, ◌+◌, ◌*◌, ◌-◌, ◌<◌, ◌≤◌, List, ◌++◌, length, length-append, get_or, ap, ◌∙◌, inl, inr, arith}
use Rattle.std.specs.Prelude.{◌⊎◌}
use Rattle.std.specs.List.{range_with_len}
use Rattle.std.proofs.lemmas.Bool.{cases_lt}
use Rattle.std.proofs.lemmas.List.{get_or_append_left, get_or-append-add}
use Rattle.std.proofs.lemmas.List.FromFn.{length-range_with_len, get_or-range_with_len}
use Rattle.rinv_sub.specs.Places.{ArePlaces}

module _ (l n : ℕ) where
  -- l places, and n behind n others
  abbrev pub around : List ℕ
  around = range_with_len 0 l ++ range_with_len (l + n) n

  pub around-many : length around ≡ l + n
  around-many = omega (arith, length-append (range_with_len 0 l) (range_with_len (l + n) n), length-range_with_len 0 l, length-range_with_len (l + n) n)

  -- what stands at a place
  around-at : (i d : ℕ) → i < l + n → ((i < l) × (get_or around i d ≡ i)) ⊎ ((l ≤ i) × (get_or around i d ≡ i + n))
  around-at i d few = elim (cases_lt i l) [
    | inl low ↦
        let many = length-range_with_len 0 l in
        let e : 0 + i ≡ i = omega arith in
        inl (low, get_or_append_left (range_with_len 0 l) (range_with_len (l + n) n) d i (omega (arith, low, many)) ∙ get_or-range_with_len 0 l i d low ∙ e)
    | inr high ↦
        let many = length-range_with_len 0 l in
        let e : i ≡ length (range_with_len 0 l) + (i - l) = omega (arith, high, many) in
        let f : l + n + (i - l) ≡ i + n = omega (arith, high) in
        inr (high, ap (λ (j : ℕ). get_or around j d) e ∙ get_or-append-add (range_with_len 0 l) (range_with_len (l + n) n) (i - l) d ∙ get_or-range_with_len (l + n) n (i - l) d (omega (arith, high, few)) ∙ f)
  ]

  pub around-places : (v : ℕ) → v ≡ l + 2 * n → ArePlaces v around
  around-places v whole = record {
    inside = λ i d low. inside-at i d (omega (arith, low, around-many));
    distinct = λ i j d below low e. distinct-at i j d below (omega (arith, low, around-many)) e;
  }
    where
      inside-at : (i d : ℕ) → i < l + n → get_or around i d < v
      inside-at i d few = elim (around-at i d few) [
        | inl (low, e) ↦ omega (arith, low, e, whole)
        | inr (high, e) ↦ omega (arith, few, e, whole)
      ]

      distinct-at : (i j d : ℕ) → i < j → j < l + n → get_or around i d ≡ get_or around j d → ⊥
      distinct-at i j d below few same = elim (around-at i d (omega (arith, below, few))) [
        | inl (low, e) ↦ elim (around-at j d few) [ inl (low', e') ↦ absurd (omega (arith, below, same, e, e')) | inr (high', e') ↦ absurd (omega (arith, below, same, e, e')) ]
        | inr (high, e) ↦ elim (around-at j d few) [ inl (low', e') ↦ absurd (omega (arith, below, high, low')) | inr (high', e') ↦ absurd (omega (arith, below, same, e, e')) ]
      ]
