-- The JSON value of a certificate has no float, and few levels: so its text is read as the value.
--   IsFlat               no float, and so many levels at most
--   flat_json            the fact
use Rattle.std.proofs.Common.{◌≡◌, ℕ, suc, ◌≤◌, Bool, true, false, List, [], ◌∷◌, ◌++◌, map, zip, max, true≢false, Ordering, Less, Equal, Greater, refl, arith}
use Rattle.std.specs.Prelude.{◌||◌, codes, fold}
use Rattle.std.specs.Ordering.{nat_cmp, match_ordering}
use Rattle.std.specs.Cmp.Lexicographic.{slice_cmp}
use Rattle.std.specs.List.{AllByRecursion}
use Rattle.serde_json.specs.Data.{Data, string, array, object, Items, Members, no_members, member, put, depth, items_depth, members_depth}
use Rattle.serde_json.specs.View.{items_of}
use Rattle.serde_json.specs.Written.{has_float, items_have_float, members_have_float}
use Rattle.rinv_algebra.specs.Polynomial.{Term}
use Rattle.rinv_defs.specs.System.{Poly}
use Rattle.rinv_defs.specs.Invariant.{Fraction}
use Rattle.rinv_defs.specs.Certificate.{Certificate, Kind, invariance, sound, full, BasisItem, PairItem, by_coprime, by_chain, by_quotients, Tied, to_constant, to_generator, TailItem, RelationItem}
use Rattle.rinv_json.specs.Keys.{law_keys}
use Rattle.rinv_json.specs.Written.{whole_data, list_data, tuple_data, term_data, poly_data, tied_data, basis_data, pair_data, tail_data, relation_data, with_members, object_data, further_members, members_of, json_of}

-- no float, and at most n levels
pub record IsFlat (n : ℕ) (d : Data) : Type 0 where
  pub no_float : has_float d ≡ false
  pub levels : depth d ≤ n

record AreFlat (n : ℕ) (ms : Members) : Type 0 where
  no_float : members_have_float ms ≡ false
  levels : members_depth ms ≤ n

neither : (a b : Bool) → a ≡ false → b ≡ false → (a || b) ≡ false
neither a b h k = rw (h, k) refl

both_low : (n a b : ℕ) → a ≤ n → b ≤ n → max a b ≤ n
both_low n a b h k = omega (arith, h, k)

low : (n m : ℕ) (d : Data) → IsFlat n d → n ≤ m → IsFlat m d
low n m d h k = let l : depth d ≤ n = h.levels in record { no_float = h.no_float; levels = omega (arith, l, k) }

-- ---- arrays

record ItemsAreFlat (n : ℕ) (ds : Items) : Type 0 where
  no_float : items_have_float ds ≡ false
  levels : items_depth ds ≤ n

items_flat : (n : ℕ) (ds : List Data) → AllByRecursion (IsFlat n) ds → ItemsAreFlat n (items_of ds)
items_flat n [] h = record { no_float = refl; levels = omega arith }
items_flat n (d ∷ ds) h = let r = items_flat n ds h.1 in record { no_float = neither _ _ h.0.no_float r.no_float; levels = both_low n _ _ h.0.levels r.levels }

tuple_flat : (n : ℕ) (ds : List Data) → AllByRecursion (IsFlat n) ds → IsFlat (suc n) (tuple_data ds)
tuple_flat n ds h = let r = items_flat n ds h in let l : items_depth (items_of ds) ≤ n = r.levels in record { no_float = r.no_float; levels = omega (arith, l) }

each_flat : {A : Type 0} (n : ℕ) (write : A → Data) → ((x : A) → IsFlat n (write x)) → (xs : List A) → AllByRecursion (IsFlat n) (map write xs)
each_flat n write h [] = tt
each_flat n write h (x ∷ xs) = (h x, each_flat n write h xs)

two_flat : (n : ℕ) (a b : Data) → IsFlat n a → IsFlat n b → IsFlat (suc n) (tuple_data (a ∷ b ∷ []))
two_flat n a b h i = tuple_flat n (a ∷ b ∷ []) (h, (i, tt))

three_flat : (n : ℕ) (a b c : Data) → IsFlat n a → IsFlat n b → IsFlat n c → IsFlat (suc n) (tuple_data (a ∷ b ∷ c ∷ []))
three_flat n a b c h i j = tuple_flat n (a ∷ b ∷ c ∷ []) (h, (i, (j, tt)))

four_flat : (n : ℕ) (a b c d : Data) → IsFlat n a → IsFlat n b → IsFlat n c → IsFlat n d → IsFlat (suc n) (tuple_data (a ∷ b ∷ c ∷ d ∷ []))
four_flat n a b c d h i j k = tuple_flat n (a ∷ b ∷ c ∷ d ∷ []) (h, (i, (j, (k, tt))))

list_flat : {A : Type 0} (n : ℕ) (write : A → Data) → ((x : A) → IsFlat n (write x)) → (xs : List A) → IsFlat (suc n) (list_data write xs)
list_flat n write h xs = tuple_flat n (map write xs) (each_flat n write h xs)

-- ---- objects

parts : (a b : Bool) → (a || b) ≡ false → (a ≡ false) × (b ≡ false)
parts true b f = absurd (true≢false f)
parts false b f = (refl, f)

-- a member before, in place of, or behind one that is there
put_at : (n : ℕ) (o : Ordering) (k l : List ℕ) (d e : Data) (ms rest : Members) → IsFlat n d → AreFlat n (member l e ms) → AreFlat n rest
    → AreFlat n (match_ordering o (member k d (member l e ms)) (member l d ms) (member l e rest))
put_at n Less k l d e ms rest h r s = record { no_float = neither _ _ h.no_float r.no_float; levels = both_low n _ _ h.levels r.levels }
put_at n Equal k l d e ms rest h r s =
    let p = parts (has_float e) (members_have_float ms) r.no_float in
    let q : max (depth e) (members_depth ms) ≤ n = r.levels in
    record { no_float = neither _ _ h.no_float p.1; levels = both_low n _ _ h.levels (omega (arith, q)) }
put_at n Greater k l d e ms rest h r s =
    let p = parts (has_float e) (members_have_float ms) r.no_float in
    let q : max (depth e) (members_depth ms) ≤ n = r.levels in
    record { no_float = neither _ _ p.0 s.no_float; levels = both_low n _ _ (omega (arith, q)) s.levels }

rest_flat : (n : ℕ) (l : List ℕ) (e : Data) (ms : Members) → AreFlat n (member l e ms) → AreFlat n ms
rest_flat n l e ms r =
    let q : max (depth e) (members_depth ms) ≤ n = r.levels in
    record { no_float = (parts (has_float e) (members_have_float ms) r.no_float).1; levels = omega (arith, q) }

put_flat : (n : ℕ) (k : List ℕ) (d : Data) (ms : Members) → IsFlat n d → AreFlat n ms → AreFlat n (put k d ms)
put_flat n k d no_members h r = record { no_float = neither _ _ h.no_float refl; levels = both_low n _ _ h.levels (omega arith) }
put_flat n k d (member l e ms) h r = put_at n (slice_cmp nat_cmp k l) k l d e ms (put k d ms) h r (put_flat n k d ms h (rest_flat n l e ms r))

with_flat : (n : ℕ) (found : Members) (ms : List (List ℕ × Data)) → AllByRecursion (λ m. IsFlat n m.1) ms → AreFlat n found → AreFlat n (with_members found ms)
with_flat n found [] h r = r
with_flat n found (m ∷ ms) h r = with_flat n (put m.0 m.1 found) ms h.1 (put_flat n m.0 m.1 found h.0 r)

object_flat : (n : ℕ) (ms : List (List ℕ × Data)) → AllByRecursion (λ m. IsFlat n m.1) ms → IsFlat (suc n) (object_data ms)
object_flat n ms h =
    let r = with_flat n no_members ms h (record { no_float = refl; levels = omega arith }) in
    let l : members_depth (with_members no_members ms) ≤ n = r.levels in
    record { no_float = r.no_float; levels = omega (arith, l) }

zip_flat : (n : ℕ) (keys : List (List ℕ)) (ds : List Data) → AllByRecursion (IsFlat n) ds → AllByRecursion (λ m. IsFlat n m.1) (zip keys ds)
zip_flat n [] ds h = tt
zip_flat n (k ∷ keys) [] h = tt
zip_flat n (k ∷ keys) (d ∷ ds) h = (h.0, zip_flat n keys ds h.1)

-- ---- what a certificate is written with

a_number : (n k : ℕ) → IsFlat n (whole_data k)
a_number n k = record { no_float = refl; levels = omega arith }

a_word : (n : ℕ) (w : List ℕ) → IsFlat n (string w)
a_word n w = record { no_float = refl; levels = omega arith }

numbers : (n : ℕ) (ns : List ℕ) → IsFlat (suc n) (list_data whole_data ns)
numbers n ns = list_flat n whole_data (a_number n) ns

a_term : (n : ℕ) (t : Term ℕ) → IsFlat (suc (suc n)) (term_data t)
a_term n t = two_flat _ _ _ (a_number _ t.1) (numbers n t.0)

a_poly : (n : ℕ) (f : Poly) → IsFlat (suc (suc (suc n))) (poly_data f)
a_poly n f = list_flat (suc (suc n)) term_data (a_term n) f

polys : (n : ℕ) (fs : List Poly) → IsFlat (suc (suc (suc (suc n)))) (list_data poly_data fs)
polys n fs = list_flat (suc (suc (suc n))) poly_data (a_poly n) fs

arrays : (n : ℕ) (xs : List (List Poly)) → IsFlat (suc (suc (suc (suc (suc n))))) (list_data (list_data poly_data) xs)
arrays n xs = list_flat (suc (suc (suc (suc n)))) (list_data poly_data) (polys n) xs

a_fraction : (n : ℕ) (f : Fraction) → IsFlat (suc (suc (suc (suc n)))) (list_data poly_data (f.0 ∷ f.1 ∷ []))
a_fraction n f = polys n (f.0 ∷ f.1 ∷ [])

a_basis_item : (n : ℕ) (b : BasisItem) → IsFlat (suc (suc (suc (suc (suc n))))) (basis_data poly_data b)
a_basis_item n b = two_flat _ _ _ (a_poly _ b.h) (polys n b.cofactors)

a_pair : (n : ℕ) (t : PairItem) → IsFlat (suc (suc (suc (suc (suc n))))) (pair_data poly_data t)
a_pair n (by_coprime i j) = three_flat _ _ _ _ (a_word _ (codes "coprime")) (a_number _ i) (a_number _ j)
a_pair n (by_chain i j k) = four_flat _ _ _ _ _ (a_word _ (codes "chain")) (a_number _ i) (a_number _ j) (a_number _ k)
a_pair n (by_quotients i j q) = four_flat _ _ _ _ _ (a_word _ (codes "quotients")) (a_number _ i) (a_number _ j) (polys n q)

a_tie : (n : ℕ) (t : Tied) → IsFlat (suc n) (tied_data t)
a_tie n (to_constant v) = two_flat _ _ _ (a_word _ (codes "constant")) (a_number _ v)
a_tie n (to_generator k) = two_flat _ _ _ (a_word _ (codes "generator")) (a_number _ k)

a_tail : (n : ℕ) (t : TailItem) → IsFlat (suc (suc (suc (suc n)))) (tail_data poly_data t)
a_tail n t = three_flat _ _ _ _ (numbers _ t.alpha) (a_poly n t.c) (a_tie _ t.tied)

a_relation : (n : ℕ) (r : RelationItem) → IsFlat (suc (suc (suc (suc (suc (suc n)))))) (relation_data poly_data r)
a_relation n r = four_flat _ _ _ _ _ (numbers _ r.a) (a_poly _ r.d) (list_flat _ (tail_data poly_data) (a_tail n) r.tail) (polys _ r.cofactors)

-- the members of an object at this level
abbrev AreLow : List (List ℕ × Data) → Type 0
AreLow ms = AllByRecursion (λ m. IsFlat 8 m.1) ms

laws_low : (ls : List (List (List Poly))) → IsFlat 8 (object_data (zip law_keys (map (list_data (list_data poly_data)) ls)))
laws_low ls = object_flat 7 _ (zip_flat 7 law_keys _ (each_flat 7 (list_data (list_data poly_data)) (λ xs. low 5 7 _ (arrays 0 xs) (omega arith)) ls))

further_low : (k : Kind) (c : Certificate) → AreLow (further_members poly_data k c)
further_low invariance c = tt
further_low sound c = (laws_low c.laws, tt)
further_low full c = (
  laws_low c.laws,
  (list_flat 7 (basis_data poly_data) (λ b. a_basis_item 2 b) c.basis, (arrays 3 c.inputs, (list_flat 7 (pair_data poly_data) (λ t. a_pair 2 t) c.pairs, (list_flat 7 (relation_data poly_data) (λ r. a_relation 1 r) c.relations, tt)))),
)

-- no float, and nine levels
pub flat_json : (c : Certificate) → IsFlat 9 (json_of c)
unfolding json_of
flat_json c = let s = c.system in let ms = members_of poly_data c in object_flat 8 ms (
  a_number 8 1,
  (
    a_word 8 _,
    (
      a_number 8 s.p,
      (
        list_flat 7 string (a_word 7) s.group,
        (
          list_flat 7 string (a_word 7) s.space,
          (
            polys 4 s.ideal,
            (
              numbers 7 s.unit,
              (
                polys 4 s.product,
                (
                  polys 4 s.inverse,
                  (
                    polys 4 s.action,
                    (list_flat 7 (λ f. list_data poly_data (f.0 ∷ f.1 ∷ [])) (λ f. a_fraction 3 f) c.fractions, (arrays 3 c.invariance, further_low c.kind c)),
                  ),
                ),
              ),
            ),
          ),
        ),
      ),
    ),
  ),
)
