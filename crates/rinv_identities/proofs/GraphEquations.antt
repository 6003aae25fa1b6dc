-- The differences Z1 - g1, Z2 - g2, .. one after the other.
--   graph_to         the first k of them
--   graph-more, difference-more, graph-whole    the next one, as it is stored, and all
--   point-stored, point-count        the point by which values on the graph are taken
use Rattle.std.proofs.Common.{◌≡◌, ℕ, ◌+◌, ◌*◌, ◌<◌, List, [], ◌∷◌, ◌++◌, length, length-append, map, take, get_or, refl, sym, ap, ap₂, ◌∙◌, arith}
use Rattle.std.specs.Prelude.{zip}
use Rattle.std.specs.List.{range_with_len}
use Rattle.std.proofs.lemmas.List.{map-append, take_all, length-take-le}
use Rattle.std.proofs.lemmas.List.FromFn.{map-range_with_len_more, length-map-range_with_len}
use Rattle.rinv_algebra.specs.Residue.{residue_ops}
use Rattle.rinv_algebra.specs.Polynomial.{variable, difference}
use Rattle.rinv_algebra.specs.Value.{substitute, rename}
use Rattle.rinv_identities.proofs.PlacesAround.{around}
use Rattle.rinv_sub.proofs.Sums.{take-at}
use Rattle.rinv_defs.specs.System.{System, Poly, group_count, space_count, variables, group_copy, moved, differences}
use Rattle.rinv_defs.specs.Extended.{graph}
use Rattle.rinv_defs.specs.Conditions.{graph_point}
use Rattle.rinv_defs.proofs.PartCounts.{length-map}
use Rattle.rinv_parts.specs.Points.{AreStored, IsStoredIn}
use Rattle.rinv_parts.proofs.Stored.{stored-count}
use Rattle.rinv_parts.proofs.Values.{difference-stored}

zip-push : {A B : Type 0} (xs : List A) (ys : List B) (x : A) (y : B) → length xs ≡ length ys → zip (xs ++ x ∷ []) (ys ++ y ∷ []) ≡ zip xs ys ++ (x, y) ∷ []
zip-push [] [] x y e = refl
zip-push [] (b ∷ ys) x y e = absurd (omega (arith, e))
zip-push (a ∷ xs) [] x y e = absurd (omega (arith, e))
zip-push (a ∷ xs) (b ∷ ys) x y e = ap (λ (r : List _). (a, b) ∷ r) (zip-push xs ys x y (omega (arith, e)))

module _ (s : System) where
  -- the group's variables, and the space's behind Z
  abbrev pub places : List ℕ
  places = around (group_count s) (space_count s)

  -- the moved point's coordinate under these names
  abbrev pub renamed : Poly → Poly
  renamed f = rename (residue_ops s.p) places f

  -- the first k differences
  abbrev pub graph_to : ℕ → List Poly
  graph_to k = differences s (variables s (group_count s) k) (map renamed (take k s.action))

  pub graph-more : (k : ℕ) (f : Poly) → k < length s.action → f ≡ get_or s.action k f
      → graph_to (k + 1) ≡ graph_to k ++ difference (residue_ops s.p) (variable (residue_ops s.p) (group_count s + k)) (renamed f) ∷ []
  graph-more k f few at =
      let o = residue_ops s.p in
      let l = group_count s in
      let zs : variables s l (k + 1) ≡ variables s l k ++ variable o (l + k) ∷ [] = map-range_with_len_more (variable o) l k (l + k) refl in
      let gs : map renamed (take (k + 1) s.action) ≡ map renamed (take k s.action) ++ renamed f ∷ [] = ap (λ (ys : List Poly). map renamed ys) (take-at s.action k f few at) ∙ map-append renamed (take k s.action) (f ∷ []) in
      let many : length (variables s l k) ≡ length (map renamed (take k s.action)) =
      length-map-range_with_len (variable o) l k ∙ sym (length-map renamed (take k s.action) ∙ length-take-le k s.action (omega (arith, few))) in
      ap₂ (λ (xs ys : List Poly). differences s xs ys) zs gs
      ∙ ap (λ (ps : List (Poly × Poly)). map (λ c. difference o c.0 c.1) ps) (zip-push (variables s l k) (map renamed (take k s.action)) (variable o (l + k)) (renamed f) many)
      ∙ map-append (λ (c : Poly × Poly). difference o c.0 c.1) (zip (variables s l k) (map renamed (take k s.action))) ((variable o (l + k), renamed f) ∷ [])

  -- the point that the places are
  point-is : map (variable (residue_ops s.p)) places ≡ group_copy s 0 ++ variables s (group_count s + space_count s) (space_count s)
  point-is =
      let e : 0 * group_count s ≡ 0 = omega arith in
      rw e (map-append (variable (residue_ops s.p)) (range_with_len 0 (group_count s)) (range_with_len (group_count s + space_count s) (space_count s)))

  -- all of them
  pub graph-whole : (k : ℕ) → k ≡ space_count s → length s.action ≡ space_count s → graph_to k ≡ graph s
  unfolding graph
  graph-whole k whole many =
      ap (λ (j : ℕ). differences s (variables s (group_count s) j) (map renamed (take j s.action))) whole
      ∙ ap (λ (fs : List Poly). differences s (variables s (group_count s) (space_count s)) (map renamed fs)) (take_all (space_count s) s.action (omega (arith, many)))
      ∙ ap (λ (x : List Poly). differences s (variables s (group_count s) (space_count s)) (map (substitute (residue_ops s.p) x) s.action)) point-is

  -- the next difference, as it is stored
  pub difference-more : (p v l k : ℕ) (places' : List ℕ) (f z moved r : Poly) → p ≡ s.p → l ≡ group_count s → places' ≡ places
      → IsStoredIn p v (variable (residue_ops p) (l + k)) z → IsStoredIn p v (rename (residue_ops p) places' f) moved → IsStoredIn p v (difference (residue_ops p) z moved) r
      → IsStoredIn s.p v (difference (residue_ops s.p) (variable (residue_ops s.p) (group_count s + k)) (renamed f)) r
  difference-more p v l k places' f z moved r field group are first second third =
      let first' : IsStoredIn s.p v (variable (residue_ops s.p) (group_count s + k)) z = rw (field, group) at first in
      let second' : IsStoredIn s.p v (renamed f) moved = rw (field, are) at second in
      let third' : IsStoredIn s.p v (difference (residue_ops s.p) z moved) r = rw field at third in
      difference-stored s.p v (variable (residue_ops s.p) (group_count s + k)) (renamed f) z moved first' second' r third'.normal third'.value

-- ---- the point on the graph

-- what stands for the group's variables, for Z and for the space's
pub point-stored : (s : System) (p l n v : ℕ) (action items : List Poly) → p ≡ s.p → l ≡ group_count s → n ≡ space_count s → action ≡ s.action
    → AreStored p v (map (variable (residue_ops p)) (range_with_len 0 l) ++ action ++ map (variable (residue_ops p)) (range_with_len l n)) items → AreStored s.p v (graph_point s) items
point-stored s p l n v action items field group space is h =
    let e : 0 * group_count s ≡ 0 = omega arith in
    let f : 1 * group_count s ≡ group_count s = omega arith in
    rw (e, f) (rw (field, group, space, is) at h)

-- how many they are
pub point-count : (p l n v : ℕ) (action items : List Poly) → length action ≡ n
    → AreStored p v (map (variable (residue_ops p)) (range_with_len 0 l) ++ action ++ map (variable (residue_ops p)) (range_with_len l n)) items → length items ≡ l + 2 * n
point-count p l n v action items many h =
    let xs : List Poly = map (variable (residue_ops p)) (range_with_len 0 l) in
    let ys : List Poly = map (variable (residue_ops p)) (range_with_len l n) in
    omega (arith, stored-count p v (xs ++ action ++ ys) items h, length-append (xs ++ action) ys, length-append xs action, length-map-range_with_len (variable (residue_ops p)) 0 l, length-map-range_with_len (variable (residue_ops p)) l n, many)
