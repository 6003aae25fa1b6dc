-- The entries of a certificate on pairs, with places counted from 1, settle the pairs of its basis, with places counted from 0.
--   shifted entries      the pairs of the entries, counted from 0
--   paired-listed        a pair that is among the entries is among them
--   all_of_pairs         a test of all pairs of places, at a pair
--   entries_settle       where no entry fails, all pairs are settled
use Rattle.std.proofs.Common.{◌≡◌, ℕ, zero, suc, ◌+◌, ◌-◌, ◌*◌, ◌<◌, ◌≤◌, min, max, Bool, true, false, List, [], ◌∷◌, length, map, get_or, Option, Some, None, refl, sym, ◌∙◌, ap, ap₂, subst, subst₂, arith, true≢false}
use Rattle.std.specs.Prelude.{IsTrue, ◌==◌, ◌&&◌, ◌||◌, not, nat_le, flat_map, zip, if◌then◌else◌}
use Rattle.std.specs.List.{list_all, range_with_len}
use Rattle.std.proofs.lemmas.Bool.Decides.{nat_tests}
use Rattle.std.proofs.lemmas.List.{length-map}
use Rattle.std.proofs.lemmas.List.Folds.{list_all-append}
use Rattle.std.proofs.lemmas.Option.{none-some, unwrap_or-slice_get}
use Rattle.rinv_algebra.specs.Residue.{residue_ops}
use Rattle.rinv_algebra.specs.Monomial.{divides, lcm, coprime}
use Rattle.rinv_algebra.specs.Polynomial.{same}
use Rattle.rinv_algebra.specs.Ideal.{combination}
use Rattle.rinv_algebra.specs.Fits.{product_fits, combination_fits, multiplies_out}
use Rattle.rinv_algebra.specs.Normal.{is_in_variables}
use Rattle.rinv_algebra.specs.Leading.{leading_monomial, multiplier, s_polynomial}
use Rattle.rinv_algebra.proofs.Same.{both, and_true}
use Rattle.rinv_groebner.specs.Settled.{is_listed, AreSettled, AreAllListed}
use Rattle.rinv_defs.specs.System.{Poly, group_count, space_count}
use Rattle.rinv_defs.specs.SystemForm.{are_good, is_good}
use Rattle.rinv_defs.specs.Certificate.{Certificate, PairItem, by_coprime, by_chain, by_quotients}
use Rattle.rinv_defs.specs.Format.{is_pair, is_pair_item}
use Rattle.rinv_defs.specs.Conditions.{elements}
use Rattle.rinv_defs.specs.PairConditions.{stays_below, action_order, leading, element, places, is_paired, reduces_to_zero, settles, is_good_entry, all_pairs, pairs_failure_from, pairs_failure}
use Rattle.rinv_defs.proofs.Tests.{list_all-implies}
use Rattle.rinv_defs.proofs.Sound.{normal_in_variables}

-- the pairs of entries, counted from 0
abbrev pub shifted : List PairItem → List (ℕ × ℕ)
shifted entries = map (λ e. ((places e).0 - 1, (places e).1 - 1)) entries

-- the places of an entry are counted from 1
abbrev from_one : PairItem → Bool
from_one e = nat_le 1 (places e).0 && nat_le 1 (places e).1

-- a pair that is among the entries is among the pairs
pub paired-listed : (entries : List PairItem) (i j : ℕ) → list_all from_one entries ≡ true → 1 ≤ i → 1 ≤ j → is_paired entries i j ≡ true → is_listed (shifted entries) (i - 1) (j - 1) ≡ true
paired-listed [] i j h a b p = absurd (true≢false (sym p))
paired-listed (e ∷ entries) i j h a b p = step (places e).0 (places e).1 i j (is_paired entries i j) (is_listed (shifted entries) (i - 1) (j - 1)) (both (from_one e) _ h).0 a b (paired-listed entries i j (both (from_one e) _ h).1 a b) p
  where
    step : (x y i j : ℕ) (s t : Bool) → (nat_le 1 x && nat_le 1 y) ≡ true → 1 ≤ i → 1 ≤ j → (s ≡ true → t ≡ true) → ((x == min i j && y == max i j) || s) ≡ true → ((x - 1 == min (i - 1) (j - 1) && y - 1 == max (i - 1) (j - 1)) || t) ≡ true
    step x y i j s t n a b later p = grind (arith, nat_tests)

-- ---- tests of all pairs

all_of-flat_map : {X Y : Type 0} (test : Y → Bool) (f : X → List Y) (xs : List X) → list_all test (flat_map f xs) ≡ true → list_all (λ x. list_all test (f x)) xs ≡ true
all_of-flat_map test f [] h = refl
all_of-flat_map test f (x ∷ xs) h = let t = both (list_all test (f x)) (list_all test (flat_map f xs)) (sym (list_all-append test (f x) (flat_map f xs)) ∙ h) in rw t.0 (all_of-flat_map test f xs t.1)

all_of-map : {X Y : Type 0} (test : Y → Bool) (f : X → Y) (xs : List X) → list_all test (map f xs) ≡ true → list_all (λ x. test (f x)) xs ≡ true
all_of-map test f [] h = refl
all_of-map test f (x ∷ xs) h = let t = both (test (f x)) _ h in rw t.0 (all_of-map test f xs t.1)

all_of-range : (test : ℕ → Bool) (a n k : ℕ) → k < n → list_all test (range_with_len a n) ≡ true → test (a + k) ≡ true
all_of-range test a zero k low h = absurd (omega arith)
all_of-range test a (suc n) zero low h = ap test (omega arith) ∙ (both (test a) _ h).0
all_of-range test a (suc n) (suc k) low h = let e : a + suc k ≡ a + 1 + k = omega arith in ap test e ∙ all_of-range test (a + 1) n k (omega arith) (both (test a) _ h).1

-- a test of all pairs of places up to b, at a pair
pub all_of_pairs : (test : ℕ × ℕ → Bool) (b i j : ℕ) → 1 ≤ i → i < j → j ≤ b → list_all test (all_pairs b) ≡ true → test (i, j) ≡ true
all_of_pairs test b i j low mid high h =
    let at_j : 1 + (j - 1) ≡ j = omega arith in
    let at_i : 1 + (i - 1) ≡ i = omega arith in
    let column : list_all test (map (λ (i : ℕ). (i, j)) (range_with_len 1 (j - 1))) ≡ true =
    subst (λ (j : ℕ). list_all test (map (λ (i : ℕ). (i, j)) (range_with_len 1 (j - 1))) ≡ true) at_j
    (all_of-range (λ j. list_all test (map (λ (i : ℕ). (i, j)) (range_with_len 1 (j - 1)))) 1 b (j - 1) (omega arith) (all_of-flat_map test (λ j. map (λ (i : ℕ). (i, j)) (range_with_len 1 (j - 1))) (range_with_len 1 b) h)) in
    subst (λ (i : ℕ). test (i, j) ≡ true) at_i (all_of-range (λ i. test (i, j)) 1 (j - 1) (i - 1) (omega arith) (all_of-map test (λ (i : ℕ). (i, j)) (range_with_len 1 (j - 1)) column))

module _ (c : Certificate) where
  -- how many variables the basis has
  abbrev pub all_variables : ℕ
  all_variables = group_count c.system + 2 * space_count c.system

  -- the pairs of the basis are settled
  abbrev pub Settled : List (ℕ × ℕ) → Type 0
  Settled pairs = AreSettled (residue_ops c.system.p) (action_order c.system) all_variables (elements c) pairs

  element-at : (k : ℕ) → element c k ≡ get_or (elements c) (k - 1) []
  element-at k = unwrap_or-slice_get (elements c) (k - 1) []

  lead-at : (k : ℕ) → leading c.system (element c k) ≡ leading_monomial (residue_ops c.system.p) (action_order c.system) (get_or (elements c) (k - 1) [])
  lead-at k = ap (leading c.system) (element-at k)

  quotients_in : (qs : List Poly) → are_good c.system (length c.basis) all_variables qs ≡ true → list_all (is_in_variables all_variables) qs ≡ true
  quotients_in qs h = list_all-implies (is_good c.system all_variables) (is_in_variables all_variables) (normal_in_variables c.system all_variables) qs (both (length qs == length c.basis) _ h).1

  -- one entry more
  one_settles : (earlier : List PairItem) → list_all from_one earlier ≡ true → Settled (shifted earlier) → (e : PairItem) → is_pair_item c.system (length c.basis) e ≡ true → settles c earlier e ≡ true → Settled (shifted (e ∷ earlier))
  unfolding settles reduces_to_zero
  one_settles earlier f r (by_coprime i j) item h =
      let many = length-map c.basis (λ b. b.h) in
      let ascending : i - 1 < j - 1 = grind (arith, nat_tests, item) in
      let inside : j - 1 < length (elements c) = grind (arith, nat_tests, item, many) in
      AreSettled.by_coprime (shifted earlier) (i - 1) (j - 1) r ascending inside (subst₂ (λ a b. IsTrue (coprime a b)) (lead-at i) (lead-at j) h)
  one_settles earlier f r (by_chain i j k) item h =
      let many = length-map c.basis (λ b. b.h) in
      let ascending : i - 1 < j - 1 = grind (arith, nat_tests, item) in
      let inside : j - 1 < length (elements c) = grind (arith, nat_tests, item, many) in
      let third : k - 1 < length (elements c) = grind (arith, nat_tests, item, many) in
      let low_i : 1 ≤ i = grind (arith, nat_tests, item) in
      let low_j : 1 ≤ j = grind (arith, nat_tests, item) in
      let low_k : 1 ≤ k = grind (arith, nat_tests, item) in
      let last : ((divides (leading c.system (element c k)) (lcm (leading c.system (element c i)) (leading c.system (element c j))) && is_paired earlier i k) ≡ true) × (is_paired earlier k j ≡ true) = both _ _ h in
      let first : (divides (leading c.system (element c k)) (lcm (leading c.system (element c i)) (leading c.system (element c j))) ≡ true) × (is_paired earlier i k ≡ true) = both _ _ last.0 in
      AreSettled.by_chain (shifted earlier) (i - 1) (j - 1) (k - 1) r ascending inside (record {
        inside = third;
        divides = sym (ap₂ divides (lead-at k) (ap₂ lcm (lead-at i) (lead-at j))) ∙ first.0;
        with_first = paired-listed earlier i k f low_i low_k first.1;
        with_second = paired-listed earlier k j f low_k low_j last.1;
      })
  one_settles earlier f r (by_quotients i j q) item h =
      let many = length-map c.basis (λ b. b.h) in
      let o = residue_ops c.system.p in
      let cmp = action_order c.system in
      let ascending : i - 1 < j - 1 = grind (arith, nat_tests, item) in
      let inside : j - 1 < length (elements c) = grind (arith, nat_tests, item, many) in
      let form : (is_pair (length c.basis) i j ≡ true) × (are_good c.system (length c.basis) all_variables q ≡ true) = both _ _ item in
      let last = both (product_fits o (multiplier o cmp (element c i) (element c j) ∷ []) (element c i) && product_fits o (multiplier o cmp (element c j) (element c i) ∷ []) (element c j) && multiplies_out o (s_polynomial o cmp (element c i) (element c j)) q (elements c))
      (list_all (stays_below c.system (lcm (leading c.system (element c i)) (leading c.system (element c j)))) (zip q (elements c))) h in
      let out = both (product_fits o (multiplier o cmp (element c i) (element c j) ∷ []) (element c i) && product_fits o (multiplier o cmp (element c j) (element c i) ∷ []) (element c j)) (multiplies_out o (s_polynomial o cmp (element c i) (element c j)) q (elements c)) last.0 in
      let sums = both (combination_fits o q (elements c)) (same o (s_polynomial o cmp (element c i) (element c j)) (combination o q (elements c))) out.1 in
      AreSettled.by_quotients (shifted earlier) (i - 1) (j - 1) q r ascending inside (record {
        in_variables = quotients_in q form.1;
        sums_up = ap (λ f. same o f (combination o q (elements c))) (sym (ap₂ (s_polynomial o cmp) (element-at i) (element-at j))) ∙ sums.1;
        below = ap (λ m. list_all (stays_below c.system m) (zip q (elements c))) (sym (ap₂ lcm (lead-at i) (lead-at j))) ∙ last.1;
      })

  from_one-item : (e : PairItem) → is_pair_item c.system (length c.basis) e ≡ true → from_one e ≡ true
  from_one-item (by_coprime i j) item = grind (arith, nat_tests, item)
  from_one-item (by_chain i j k) item = grind (arith, nat_tests, item)
  from_one-item (by_quotients i j q) item =
      let form : (is_pair (length c.basis) i j ≡ true) × (are_good c.system (length c.basis) all_variables q ≡ true) = both _ _ item in
      let pair = form.0 in
      grind (arith, nat_tests, pair)

  -- where no pair is missing, all are listed
  all_listed : (entries : List PairItem) → list_all from_one entries ≡ true → list_all (λ p. is_paired entries p.0 p.1) (all_pairs (length (elements c))) ≡ true → AreAllListed (elements c) (shifted entries)
  all_listed entries f h i j ascending inside =
      let at_i : suc i - 1 ≡ i = omega arith in
      let at_j : suc j - 1 ≡ j = omega arith in
      subst₂ (λ (i j : ℕ). IsTrue (is_listed (shifted entries) i j)) at_i at_j (paired-listed entries (suc i) (suc j) f (omega arith) (omega arith) (all_of_pairs (λ p. is_paired entries p.0 p.1) (length (elements c)) (suc i) (suc j) (omega arith) (omega arith) (omega arith) h))

  -- all entries
  settled_from : (earlier : List PairItem) (k : ℕ) (entries : List PairItem) → list_all from_one earlier ≡ true → Settled (shifted earlier) → list_all (is_pair_item c.system (length c.basis)) entries ≡ true → pairs_failure_from c earlier k entries ≡ None
      → (pairs : List (ℕ × ℕ)) × Settled pairs × AreAllListed (elements c) pairs
  unfolding pairs_failure_from
  settled_from earlier k [] f r items h = (shifted earlier, r, all_listed earlier f (none_missing (list_all (λ p. is_paired earlier p.0 p.1) (all_pairs (length (elements c)))) k h))
    where
      none_missing : (b : Bool) (k : ℕ) → (if b then None else Some k) ≡ None → b ≡ true
      none_missing true k e = refl
      none_missing false k e = absurd (none-some k (sym e))
  settled_from earlier k (e ∷ entries) f r items h =
      let item = both (is_pair_item c.system (length c.basis) e) (list_all (is_pair_item c.system (length c.basis)) entries) items in
      let good = good_entry (is_good_entry c earlier e) k (pairs_failure_from c (e ∷ earlier) (k + 1) entries) h in
      let parts = both (not (is_paired earlier (places e).0 (places e).1)) (settles c earlier e) good.0 in
      settled_from (e ∷ earlier) (k + 1) entries (and_true (from_one e) (list_all from_one earlier) (from_one-item e item.0) f) (one_settles earlier f r e item.0 parts.1) item.1 good.1
    where
      good_entry : (b : Bool) (k : ℕ) (later : Option ℕ) → (if b then later else Some k) ≡ None → (b ≡ true) × (later ≡ None)
      good_entry true k later e = (refl, e)
      good_entry false k later e = absurd (none-some k (sym e))

  -- where no entry fails, all pairs of the basis are settled
  pub entries_settle : list_all (is_pair_item c.system (length c.basis)) c.pairs ≡ true → pairs_failure c ≡ None → (pairs : List (ℕ × ℕ)) × Settled pairs × AreAllListed (elements c) pairs
  unfolding pairs_failure
  entries_settle items h = settled_from [] 1 c.pairs refl AreSettled.none items h
