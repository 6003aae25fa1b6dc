-- The entries so far, and those that are left.
use Rattle.std.proofs.Common.{◌≡◌, ℕ, zero, suc, ◌+◌, ◌<◌, ◌≤◌, min, max, List, [], ◌∷◌, ◌++◌, length, map, get_or, drop, Bool, true, false, not, ◌&&◌, if◌then◌else◌, Some, None, refl, sym, ap, ap₂, ◌∙◌, subst, arith, IsTrue, add-one, drop-cons}
use Rattle.std.proofs.lemmas.List.{drop_all}
use Rattle.std.proofs.lemmas.Bool.Decides.{nat_tests}
use Rattle.std.specs.List.{list_all, AllByRecursion}
use Rattle.rinv_defs.specs.Certificate.{Certificate, full, PairItem, by_coprime, by_chain, by_quotients}
use Rattle.rinv_defs.specs.Format.{is_pair_item, first_false, format_failure, common_parts, law_parts, basis_parts, parts_of_kind}
use Rattle.rinv_defs.specs.Conditions.{elements}
use Rattle.rinv_defs.specs.PairConditions.{places, is_paired, is_good_entry, settles, all_pairs, pairs_failure_from, pairs_failure}
use Rattle.rinv_defs.proofs.PartCounts.{length-map}
use Rattle.rinv_defs.proofs.Tests.{parts_true, first_false-append_right}
use Rattle.rinv_basis_check.specs.Listed.{is_listed, ArePairsOf}
use Rattle.rinv_basis_check.proofs.Ranges.{one_more_pair}

-- ---- the form of the entries

pub pair_items : (c : Certificate) → c.kind ≡ full → format_failure c ≡ None → list_all (is_pair_item c.system (length c.basis)) c.pairs ≡ true
unfolding format_failure
pair_items c kind form =
    let whole : first_false (common_parts c ++ law_parts c ++ basis_parts c) ≡ None = subst (λ k. first_false (parts_of_kind k c) ≡ None) kind form in
    let parts : AllByRecursion (λ p. IsTrue p.1) (basis_parts c) = parts_true (basis_parts c) (first_false-append_right (common_parts c ++ law_parts c) (basis_parts c) whole) in
    parts.1.1.0

pub test_at : {X : Type 0} (test : X → Bool) (xs : List X) (k : ℕ) (x : X) → k < length xs → x ≡ get_or xs k x → list_all test xs ≡ true → test x ≡ true
test_at test [] k x within is h = absurd (omega (arith, within))
test_at test (y ∷ ys) zero x within is h = ap test is ∙ left (test y) (list_all test ys) h
  where
    left : (a b : Bool) → (a && b) ≡ true → a ≡ true
    left true b e = refl
    left false b e = e
test_at test (y ∷ ys) (suc k) x within is h = test_at test ys k x (omega (arith, within)) is (right (test y) (list_all test ys) h)
  where
    right : (a b : Bool) → (a && b) ≡ true → b ≡ true
    right true b e = e
    right false true e = refl
    right false false e = e

ascending : (s : _) (b : ℕ) (e : PairItem) → is_pair_item s b e ≡ true → (places e).0 < (places e).1
ascending s b (by_coprime i j) h = grind (arith, nat_tests, h)
ascending s b (by_chain i j k) h = grind (arith, nat_tests, h)
ascending s b (by_quotients i j q) h = grind (arith, nat_tests, h)

-- ---- the walk

-- the pairs that are listed are those of the first k entries, and the rest of the entries tells the failure
pub record AreDone (c : Certificate) (listed : List (ℕ × ℕ)) (entries : List PairItem) (k : ℕ) : Type 0 where
  pub earlier : List PairItem
  pub same : ArePairsOf listed earlier
  pub rest : pairs_failure_from c earlier (k + 1) (drop k entries) ≡ pairs_failure c

pub none_done : (c : Certificate) (entries : List PairItem) → entries ≡ c.pairs → AreDone c [] entries 0
unfolding pairs_failure
none_done c entries e = record { earlier = []; same = λ i j. refl; rest = ap (pairs_failure_from c [] 1) e }

split : (entries : List PairItem) (k : ℕ) (e : PairItem) → k < length entries → e ≡ get_or entries k e → drop k entries ≡ e ∷ drop (k + 1) entries
split entries k e within is = rw (add-one, drop-cons entries k e within, ← is) refl

next : (c : Certificate) (earlier : List PairItem) (k : ℕ) (e : PairItem) (es : List PairItem) → pairs_failure_from c earlier k (e ∷ es) ≡ (if is_good_entry c earlier e then pairs_failure_from c (e ∷ earlier) (k + 1) es else Some k)
unfolding pairs_failure_from
next c earlier k e es = refl

pub entry_fails : (c : Certificate) (listed : List (ℕ × ℕ)) (entries : List PairItem) (k : ℕ) (e : PairItem) (d : AreDone c listed entries k) → k < length entries → e ≡ get_or entries k e
    → is_good_entry c d.earlier e ≡ false → pairs_failure c ≡ Some (k + 1)
entry_fails c listed entries k e d within is bad =
    sym d.rest ∙ ap (pairs_failure_from c d.earlier (k + 1)) (split entries k e within is) ∙ next c d.earlier (k + 1) e (drop (k + 1) entries)
    ∙ ap (λ b. if b then pairs_failure_from c (e ∷ d.earlier) (k + 1 + 1) (drop (k + 1) entries) else Some (k + 1)) bad

pub entry_done : (c : Certificate) (listed : List (ℕ × ℕ)) (entries : List PairItem) (k : ℕ) (e : PairItem) (d : AreDone c listed entries k) → k < length entries → e ≡ get_or entries k e
    → (places e).0 < (places e).1 → is_good_entry c d.earlier e ≡ true
    → AreDone c (listed ++ (min (places e).0 (places e).1, max (places e).0 (places e).1) ∷ []) entries (k + 1)
entry_done c listed entries k e d within is low good = record {
  earlier = e ∷ d.earlier;
  same = one_more_pair listed d.earlier e _ _ (ap₂ (λ a b. (a, b)) first second) d.same;
  rest = sym (ap (λ b. if b then pairs_failure_from c (e ∷ d.earlier) (k + 1 + 1) (drop (k + 1) entries) else Some (k + 1)) good) ∙ sym (next c d.earlier (k + 1) e (drop (k + 1) entries))
      ∙ sym (ap (pairs_failure_from c d.earlier (k + 1)) (split entries k e within is)) ∙ d.rest;
}
  where
    first : (places e).0 ≡ min (places e).0 (places e).1
    first = omega (arith, low)

    second : (places e).1 ≡ max (places e).0 (places e).1
    second = omega (arith, low)

-- a good entry has a pair that is not listed
pub entry_fresh : (c : Certificate) (listed : List (ℕ × ℕ)) (earlier : List PairItem) (e : PairItem) → ArePairsOf listed earlier → is_good_entry c earlier e ≡ true → is_listed listed (places e).0 (places e).1 ≡ false
entry_fresh c listed earlier e same good = same (places e).0 (places e).1 ∙ fresh (is_paired earlier (places e).0 (places e).1) (settles c earlier e) good
  where
    fresh : (a b : Bool) → (not a && b) ≡ true → a ≡ false
    fresh true b e = sym e
    fresh false b e = refl

same_tests : {X : Type 0} (p q : X → Bool) → ((x : X) → p x ≡ q x) → (xs : List X) → list_all p xs ≡ list_all q xs
same_tests p q h [] = refl
same_tests p q h (x ∷ xs) = ap₂ (λ a b. a && b) (h x) (same_tests p q h xs)

at_end : (c : Certificate) (earlier : List PairItem) (k : ℕ) → pairs_failure_from c earlier k [] ≡ (if list_all (λ p. is_paired earlier p.0 p.1) (all_pairs (length (elements c))) then None else Some k)
unfolding pairs_failure_from
at_end c earlier k = refl

pub all_done : (c : Certificate) (listed : List (ℕ × ℕ)) (entries : List PairItem) (k count : ℕ) (d : AreDone c listed entries k) → length entries ≤ k → count ≡ length c.basis
    → pairs_failure c ≡ (if list_all (λ p. is_listed listed p.0 p.1) (all_pairs count) then None else Some (k + 1))
all_done c listed entries k count d past is =
    sym d.rest ∙ ap (pairs_failure_from c d.earlier (k + 1)) (drop_all k entries past) ∙ at_end c d.earlier (k + 1)
    ∙ ap (λ b. if b then None else Some (k + 1)) (ap (λ n. list_all (λ p. is_paired d.earlier p.0 p.1) (all_pairs n)) (length-map (λ b. b.h) c.basis ∙ sym is)
    ∙ same_tests (λ p. is_paired d.earlier p.0 p.1) (λ p. is_listed listed p.0 p.1) (λ p. sym (d.same p.0 p.1)) (all_pairs count))

-- an entry, and that it stands in the mapped list
pub entry_at : {A : Type 0} (f : A → PairItem) (xs : List A) (k : ℕ) (x : A) → k < length xs → x ≡ get_or xs k x → f x ≡ get_or (map f xs) k (f x)
entry_at f [] k x within is = absurd (omega (arith, within))
entry_at f (y ∷ ys) zero x within is = ap f is
entry_at f (y ∷ ys) (suc k) x within is = entry_at f ys k x (omega (arith, within)) is

pub entry_ascends : (c : Certificate) (k : ℕ) (e : PairItem) → c.kind ≡ full → format_failure c ≡ None → k < length c.pairs → e ≡ get_or c.pairs k e → (places e).0 < (places e).1
entry_ascends c k e kind form within is = ascending c.system (length c.basis) e (test_at (is_pair_item c.system (length c.basis)) c.pairs k e within is (pair_items c kind form))

pub within_map : {A B : Type 0} (f : A → B) (xs : List A) (k : ℕ) → k < length xs → k < length (map f xs)
within_map f xs k h = rw (length-map f xs) h

pub past_map : {A B : Type 0} (f : A → B) (xs : List A) (k : ℕ) → length xs ≤ k → length (map f xs) ≤ k
past_map f xs k h = rw (length-map f xs) h

-- an entry has its form
pub entry_form : (c : Certificate) (k : ℕ) (e : PairItem) → c.kind ≡ full → format_failure c ≡ None → k < length c.pairs → e ≡ get_or c.pairs k e → is_pair_item c.system (length c.basis) e ≡ true
entry_form c k e kind form within is = test_at (is_pair_item c.system (length c.basis)) c.pairs k e within is (pair_items c kind form)
