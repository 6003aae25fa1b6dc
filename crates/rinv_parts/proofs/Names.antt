-- Ranges of variables, and the points that they are.
--   range-split                           a range in two parts
--   range-places                          its numbers are distinct places
--   copies-are, copy-is, moved-are        the group's variables in two copies, in one, and with the space's
--   renamed-product, renamed-inverse, renamed-action    maps of the group under the names of copies
--   below-at                              a number of a list
use Rattle.std.proofs.Common.{◌≡◌, ℕ, zero, suc, ◌+◌, ◌*◌, ◌<◌, ◌≤◌, true, IsTrue, List, [], ◌∷◌, ◌++◌, length, map, get_or, nat_lt, refl, ap, ◌∙◌, subst, subst₂, arith}
use Rattle.std.specs.List.{list_all, range_with_len}
use Rattle.std.proofs.lemmas.List.{map-append}
use Rattle.std.proofs.lemmas.List.FromFn.{length-range_with_len, get_or-range_with_len}
use Rattle.rinv_algebra.specs.Residue.{residue_ops}
use Rattle.rinv_algebra.specs.Polynomial.{variable}
use Rattle.rinv_algebra.specs.Value.{rename, substitute}
use Rattle.rinv_algebra.proofs.Same.{both}
use Rattle.rinv_sub.specs.Places.{ArePlaces}
use Rattle.rinv_defs.specs.System.{System, Poly, at_point, group_count, space_count, group_copy, space_behind, times, inverse_of, moved}
use Rattle.rinv_parts.specs.Points.{AreStored}

pub range-split : (a m n : ℕ) → range_with_len a (m + n) ≡ range_with_len a m ++ range_with_len (a + m) n
range-split a zero n = let e : 0 + n ≡ n = omega arith in let f : a + 0 ≡ a = omega arith in rw (e, f) refl
range-split a (suc m) n =
    let e : suc m + n ≡ suc (m + n) = omega arith in
    let f : a + suc m ≡ a + 1 + m = omega arith in
    rw (e, f) (ap (λ (r : List ℕ). a ∷ r) (range-split (a + 1) m n))

pub range-places : (v start n : ℕ) → start + n ≤ v → ArePlaces v (range_with_len start n)
range-places v start n few = record {
  inside = λ k d low. let many = length-range_with_len start n in rw (get_or-range_with_len start n k d (omega (arith, low, many))) (omega (arith, low, many, few));
  distinct = λ i j d below low e.
      let many = length-range_with_len start n in
      absurd (omega (arith, below, get_or-range_with_len start n i d (omega (arith, low, below, many)), get_or-range_with_len start n j d (omega (arith, low, many)), e));
}

-- the next copy begins where one ends
next-copy : (j l : ℕ) → (j + 1) * l ≡ j * l + l
next-copy j l = omega arith

module _ (s : System) where
  -- the variables from a place on
  abbrev from_place : ℕ → ℕ → List Poly
  from_place start n = map (variable (residue_ops s.p)) (range_with_len start n)

  from-split : (a m n : ℕ) → from_place a (m + n) ≡ from_place a m ++ from_place (a + m) n
  from-split a m n = ap (λ (ks : List ℕ). map (variable (residue_ops s.p)) ks) (range-split a m n) ∙ map-append (variable (residue_ops s.p)) (range_with_len a m) (range_with_len (a + m) n)

  pub copies-are : (j : ℕ) → from_place (j * group_count s) (2 * group_count s) ≡ group_copy s j ++ group_copy s (j + 1)
  copies-are j =
      let l = group_count s in
      let e : 2 * l ≡ l + l = omega arith in
      let f : j * l + l ≡ (j + 1) * l = omega (arith, next-copy j l) in
      rw e (from-split (j * l) l l ∙ ap (λ (m : ℕ). from_place (j * l) l ++ from_place m l) f)

  pub copy-is : from_place 0 (group_count s) ≡ group_copy s 0
  copy-is = let e : 0 * group_count s ≡ 0 = omega arith in rw e refl

  pub moved-are : from_place (group_count s) (group_count s + space_count s) ≡ group_copy s 1 ++ space_behind s 2
  moved-are =
      let l = group_count s in
      let e : 1 * l ≡ l = omega arith in
      let f : 2 * l ≡ l + l = omega arith in
      rw (e, f) (from-split l l (space_count s))

-- polynomials under other names are their values at the points that these are
renamed-at : (p v start n : ℕ) (fs gs items point : List Poly) (s : System) → p ≡ s.p → fs ≡ gs → map (variable (residue_ops s.p)) (range_with_len start n) ≡ point
    → AreStored p v (map (rename (residue_ops p) (range_with_len start n)) fs) items → AreStored s.p v (at_point s point gs) items
renamed-at p v start n fs gs items point s field is at h =
    subst (λ (x : List Poly). AreStored s.p v (map (substitute (residue_ops s.p) x) gs) items) at
    (subst₂ (λ (q : ℕ) (hs : List Poly). AreStored q v (map (rename (residue_ops q) (range_with_len start n)) hs) items) field is h)

pub renamed-product : (s : System) (p v j start n : ℕ) (fs items : List Poly) → p ≡ s.p → start ≡ j * group_count s → n ≡ 2 * group_count s → fs ≡ s.product
    → AreStored p v (map (rename (residue_ops p) (range_with_len start n)) fs) items → AreStored s.p v (times s (group_copy s j) (group_copy s (j + 1))) items
renamed-product s p v j start n fs items field from many is h =
    renamed-at p v start n fs s.product items (group_copy s j ++ group_copy s (j + 1)) s field is (rw (from, many) (copies-are s j)) h

pub renamed-inverse : (s : System) (p v n : ℕ) (fs items : List Poly) → p ≡ s.p → n ≡ group_count s → fs ≡ s.inverse
    → AreStored p v (map (rename (residue_ops p) (range_with_len 0 n)) fs) items → AreStored s.p v (inverse_of s (group_copy s 0)) items
renamed-inverse s p v n fs items field many is h = renamed-at p v 0 n fs s.inverse items (group_copy s 0) s field is (rw many (copy-is s)) h

pub renamed-action : (s : System) (p v start n : ℕ) (fs items : List Poly) → p ≡ s.p → start ≡ group_count s → n ≡ group_count s + space_count s → fs ≡ s.action
    → AreStored p v (map (rename (residue_ops p) (range_with_len start n)) fs) items → AreStored s.p v (moved s (group_copy s 1) (space_behind s 2)) items
renamed-action s p v start n fs items field from many is h = renamed-at p v start n fs s.action items (group_copy s 1 ++ space_behind s 2) s field is (rw (from, many) (moved-are s)) h

pub below-at : (p : ℕ) (ns : List ℕ) (k : ℕ) → k < length ns → list_all (λ x. nat_lt x p) ns ≡ true → IsTrue (nat_lt (get_or ns k 0) p)
below-at p [] k few h = absurd (omega (arith, few))
below-at p (n ∷ ns) zero few h = (both (nat_lt n p) (list_all (λ x. nat_lt x p) ns) h).0
below-at p (n ∷ ns) (suc k) few h = below-at p ns k (omega (arith, few)) (both (nat_lt n p) (list_all (λ x. nat_lt x p) ns) h).1

pub below-over : (p q : ℕ) (ns ms : List ℕ) → p ≡ q → ns ≡ ms → list_all (λ x. nat_lt x q) ms ≡ true → list_all (λ x. nat_lt x p) ns ≡ true
below-over p q ns ms a b h = rw (a, b) h
