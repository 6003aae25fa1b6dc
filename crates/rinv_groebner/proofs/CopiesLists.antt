-- Copies of lists of polynomials in disjoint sets of variables: which polynomials stand in them, and members of their ideals.
--   copy_of, in_copies   an element of the copies is one of some copy, and the other way round
--   copies-nonzero, copies-in_variables    the copies have no zero; their variables
--   copies-members       copies of members of an ideal are members of the copies of the ideal
use Rattle.std.proofs.Common.{◌≡◌, ◌⊎◌, ℕ, zero, suc, ◌+◌, ◌*◌, ◌<◌, ◌≤◌, Bool, not, List, [], ◌∷◌, ◌++◌, map, length, length-append, replicate, refl, sym, ◌∙◌, ap, subst, inl, inr, arith, IsTrue}
use Rattle.std.specs.Prelude.{nat_le, flat_map}
use Rattle.std.specs.List.{list_all, range_with_len}
use Rattle.std.proofs.lemmas.Bool.{cases_order}
use Rattle.std.proofs.lemmas.Bool.Decides.{nat_tests}
use Rattle.std.proofs.lemmas.List.{length-map, length-replicate}
use Rattle.std.proofs.lemmas.List.Folds.{list_all-append}
use Rattle.std.proofs.lemmas.Nat.{row_fits}
use Rattle.rinv_algebra.specs.Ring.{RingOps, RingLaws, IsSame}
use Rattle.rinv_algebra.specs.Polynomial.{Polynomial, poly_ops, is_zero, past}
use Rattle.rinv_algebra.specs.Normal.{is_in_variables}
use Rattle.rinv_algebra.specs.Ideal.{combination, IsMember}
use Rattle.rinv_algebra.proofs.PolynomialLaws.{poly_laws}
use Rattle.rinv_algebra.proofs.RingFacts as facts
use Rattle.rinv_algebra.proofs.Same.{both, and_true}
use Rattle.rinv_theory.proofs.Values.{IsMap}
use Rattle.rinv_theory.proofs.Variables.{past_map}
use Rattle.rinv_groebner.specs.Orders.{AreInVariables}
use Rattle.rinv_groebner.specs.Basis.{AreMembers, AreNonzero}
use Rattle.rinv_groebner.specs.Copies.{copies}
use Rattle.rinv_groebner.proofs.Ascending.{Has, split, has_at}
use Rattle.rinv_groebner.proofs.IdealBases.{all_from, all_has}
use Rattle.rinv_groebner.proofs.Kept.{has-append}
use Rattle.rinv_groebner.proofs.MemberLists.{member_one, member_trans}
use Rattle.rinv_groebner.proofs.PastPolynomials.{is_zero-past}

-- ---- lists

has-left : {X : Type 0} {x : X} (xs ys : List X) → Has x xs → Has x (xs ++ ys)
has-left [] ys h = elim h [ ]
has-left (x ∷ xs) ys Has.first = Has.first
has-left (x ∷ xs) ys (Has.later h) = Has.later (has-left xs ys h)

either_part : {X : Type 0} {x : X} (xs ys : List X) → Has x (xs ++ ys) → Has x xs ⊎ Has x ys
either_part [] ys h = inr h
either_part (x ∷ xs) ys Has.first = inl Has.first
either_part (x ∷ xs) ys (Has.later h) = elim (either_part xs ys h) [ inl k ↦ inl (Has.later k) | inr k ↦ inr k ]

has-map : {X Y : Type 0} (f : X → Y) {x : X} {xs : List X} → Has x xs → Has (f x) (map f xs)
has-map f Has.first = Has.first
has-map f (Has.later h) = Has.later (has-map f h)

map-has : {X Y : Type 0} (f : X → Y) {y : Y} (xs : List X) → Has y (map f xs) → (x : X) × Has x xs × (y ≡ f x)
map-has f [] h = elim h [ ]
map-has f (x ∷ xs) h = elim (split h) [ inl e ↦ (x, Has.first, e) | inr k ↦ (let (z, m, e) = map-has f xs k in (z, Has.later m, e)) ]

-- an element of lists put together is one of some list
part_of : {X : Type 0} (f : ℕ → List X) {x : X} (s c : ℕ) → Has x (flat_map f (range_with_len s c)) → (j : ℕ) × (j < s + c) × Has x (f j)
part_of f s zero h = elim h [ ]
part_of f s (suc c) h = elim (either_part (f s) (flat_map f (range_with_len (s + 1) c)) h) [
  | inl here ↦ (s, (omega arith), here)
  | inr behind ↦ (let (j, low, m) = part_of f (s + 1) c behind in (j, (omega (arith, low)), m))
]

-- and the other way round
in_parts : {X : Type 0} (f : ℕ → List X) {x : X} (s c j : ℕ) → s ≤ j → j < s + c → Has x (f j) → Has x (flat_map f (range_with_len s c))
in_parts f s zero j low high h = absurd (omega (arith, low, high))
in_parts f {x} s (suc c) j low high h = elim (cases_order s j) [
  | inl e ↦ has-left (f s) (flat_map f (range_with_len (s + 1) c)) (subst (λ (i : ℕ). Has x (f i)) (sym e) h)
  | inr (inl below) ↦ has-append (f s) (flat_map f (range_with_len (s + 1) c)) (in_parts f (s + 1) c j (omega (arith, below)) (omega (arith, high)) h)
  | inr (inr above) ↦ absurd (omega (arith, low, above))
]

-- a test that each list passes
parts_pass : {X : Type 0} (test : X → Bool) (f : ℕ → List X) (s c : ℕ) → ((j : ℕ) → j < s + c → IsTrue (list_all test (f j))) → IsTrue (list_all test (flat_map f (range_with_len s c)))
parts_pass test f s zero h = refl
parts_pass test f s (suc c) h = list_all-append test (f s) (flat_map f (range_with_len (s + 1) c)) ∙ and_true (list_all test (f s)) _ (h s (omega arith)) (parts_pass test f (s + 1) c (λ j low. h j (omega (arith, low))))

-- ---- copies

module _ {E : Type 0} (c v : ℕ) (hs : List (Polynomial E)) where
  -- an element of the copies is one of some copy
  pub copy_of : {g : Polynomial E} → Has g (copies c v hs) → (j : ℕ) × (j < c) × (h : Polynomial E) × Has h hs × (g ≡ past (j * v) h)
  copy_of m =
      let (j, low, k) = part_of (λ j. map (past (j * v)) hs) 0 c m in
      let (h, there, e) = map-has (past (j * v)) hs k in
      (j, (omega (arith, low)), h, there, e)

  -- and the other way round
  pub in_copies : (j : ℕ) → j < c → {h : Polynomial E} → Has h hs → Has (past (j * v) h) (copies c v hs)
  in_copies j low m = in_parts (λ j. map (past (j * v)) hs) 0 c j (omega arith) (omega (arith, low)) (has-map (past (j * v)) m)

-- the copies have no zero
pub copies-nonzero : {E : Type 0} (o : RingOps E) (c v : ℕ) (hs : List (Polynomial E)) → AreNonzero o hs → AreNonzero o (copies c v hs)
copies-nonzero {E} o c v hs h = parts_pass (λ h. not (is_zero o h)) (λ j. map (past (j * v)) hs) 0 c (λ j low. copy (j * v) hs h)
  where
    copy : (k : ℕ) (hs : List (Polynomial E)) → AreNonzero o hs → AreNonzero o (map (past k) hs)
    copy k [] h = refl
    copy k (g ∷ hs) h = let parts = both (not (is_zero o g)) _ h in and_true (not (is_zero o (past k g))) _ (ap not (is_zero-past o k g) ∙ parts.0) (copy k hs parts.1)

past-in_variables : {E : Type 0} (k v n : ℕ) (f : Polynomial E) → k + v ≤ n → IsTrue (is_in_variables v f) → IsTrue (is_in_variables n (past k f))
past-in_variables k v n [] low h = refl
past-in_variables k v n ((a, c) ∷ f) low h =
    let parts = both (nat_le (length a) v) (is_in_variables v f) h in
    let size = length-append (replicate k 0) a in
    let zeros = length-replicate {A = ℕ} k 0 in
    let few : length a ≤ v = grind (arith, nat_tests, parts.0) in
    let fits : length (replicate k 0 ++ a) ≤ n = omega (arith, size, zeros, few, low) in
    and_true (nat_le (length (replicate k 0 ++ a)) n) _ (grind (arith, nat_tests, fits)) (past-in_variables k v n f low parts.1)

-- a copy's variables are among those of all
pub copy_fits : (c v n j : ℕ) → j < c → j * v + v ≤ c * v + n
copy_fits c v n j low = let row = row_fits j v c v low (omega arith) in omega (arith, row)

-- the variables of the copies
pub copies-in_variables : {E : Type 0} (c v n : ℕ) (hs : List (Polynomial E)) → AreInVariables v hs → AreInVariables (c * v + n) (copies c v hs)
copies-in_variables {E} c v n hs h = parts_pass (is_in_variables (c * v + n)) (λ j. map (past (j * v)) hs) 0 c (λ j low. copy (j * v) hs (copy_fits c v n j (omega (arith, low))) h)
  where
    copy : (k : ℕ) (hs : List (Polynomial E)) → k + v ≤ c * v + n → AreInVariables v hs → AreInVariables (c * v + n) (map (past k) hs)
    copy k [] low h = refl
    copy k (g ∷ hs) low h = let parts = both (is_in_variables v g) _ h in and_true (is_in_variables (c * v + n) (past k g)) _ (past-in_variables k v (c * v + n) g low parts.0) (copy k hs low parts.1)

module _ {E : Type 0} (o : RingOps E) (l : RingLaws o) where
  -- a member, in later variables, by its cofactors in these
  member-past : (k : ℕ) (fs : List (Polynomial E)) (f : Polynomial E) → IsMember o fs f → IsMember o (map (past k) fs) (past k f)
  unfolding combination
  member-past k fs f m = record {
    cofactors = map (past k) m.cofactors;
    as_many = length-map m.cofactors (past k) ∙ m.as_many ∙ sym (length-map fs (past k));
    sums_up = facts.then (poly_ops o) (poly_laws o l) (σ.same f _ m.sums_up) (images m.cofactors fs);
  }
    where
      σ : IsMap (poly_ops o) (poly_ops o) (past k)
      σ = past_map o l k

      images : (us fs : List (Polynomial E)) → IsSame (poly_ops o) (past k (combination o us fs)) (combination o (map (past k) us) (map (past k) fs))
      images [] fs = (poly_laws o l).same_refl []
      images (u ∷ us) [] = (poly_laws o l).same_refl []
      images (u ∷ us) (f ∷ fs) = facts.then (poly_ops o) (poly_laws o l) (σ.add _ _) (facts.add2 (poly_ops o) (poly_laws o l) (σ.mul u f) (images us fs))

  -- copies of members of an ideal are members of the copies of the ideal
  pub copies-members : (c v : ℕ) (fs hs : List (Polynomial E)) → AreMembers o fs hs → AreMembers o (copies c v fs) (copies c v hs)
  copies-members c v fs hs members = all_from (IsMember o (copies c v fs)) [] (copies c v hs) (λ p inside.
      let (j, low, h, m, e) = copy_of c v hs (has_at [] (copies c v hs) p inside) in
      subst (IsMember o (copies c v fs)) (sym e) (member_trans o l (copies c v fs) (map (past (j * v)) fs) (past (j * v) h) (copy j low)
      (member-past (j * v) fs h (all_has (IsMember o fs) hs members m))))
    where
      copy : (j : ℕ) → j < c → AreMembers o (copies c v fs) (map (past (j * v)) fs)
      copy j low = all_from (IsMember o (copies c v fs)) [] (map (past (j * v)) fs) (λ p inside. member_one o l (in_parts (λ j. map (past (j * v)) fs) 0 c j (omega arith) (omega (arith, low)) (has_at [] (map (past (j * v)) fs) p inside)))
