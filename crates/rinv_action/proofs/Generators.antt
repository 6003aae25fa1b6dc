-- The generators of the action's ideal, as they are made.
--   graph_at, graph-is       the graph's element at a place; the graph is these
--   places-distinct          the places of the group's variables and of the space's
--   ideal-joined             the generators, of three lists
use Rattle.std.proofs.Common.{◌≡◌, ℕ, zero, suc, ◌+◌, ◌*◌, ◌<◌, ◌≤◌, List, [], ◌∷◌, ◌++◌, length, map, take, take_all, get_or, nat_lt, nat_le, true, ◌&&◌, refl, sym, ap, ap₂, ◌∙◌, subst, arith, All, AllPairs}
use Rattle.std.specs.List.{AllZip, list_all, range_with_len, zip}
use Rattle.std.proofs.lemmas.List.{map-append, length-map, get_or-map}
use Rattle.std.proofs.lemmas.List.Elements.{All-nil, All-cons, All-head, All-tail, All-append, AllZip-push}
use Rattle.std.proofs.lemmas.List.FromFn.{length-range_with_len, get_or-range_with_len, get_or-map-range_with_len, length-map-range_with_len, fill_by_all}
use Rattle.std.proofs.lemmas.List.Kept.{AllPairs-cons}
use Rattle.rinv_algebra.specs.Ring.{IsSame}
use Rattle.rinv_algebra.specs.Residue.{residue_ops}
use Rattle.rinv_algebra.specs.Polynomial.{poly_ops, variable, difference, opposite, past}
use Rattle.rinv_algebra.specs.Normal.{IsNormal}
use Rattle.rinv_algebra.proofs.PolynomialLaws.{poly_laws}
use Rattle.rinv_algebra.proofs.ResidueLaws.{residue_laws}
use Rattle.rinv_algebra.proofs.RingFacts as facts
use Rattle.rinv_algebra.specs.Value.{rename, substitute}
use Rattle.rinv_sub.specs.Places.{ArePlaces}
use Rattle.rinv_sub.proofs.Images.{AllZip-append}
use Rattle.rinv_defs.specs.System.{System, Poly, group_count, space_count, group_copy, variables, moved, differences}
use Rattle.rinv_algebra.proofs.Same.{both}
use Rattle.rinv_defs.specs.SystemForm.{IsSystem, is_good, system_parts}
use Rattle.rinv_defs.specs.Extended.{graph, action_ideal}
use Rattle.rinv_parts.specs.Points.{ArePolynomials, AreStored, IsStoredIn}
use Rattle.rinv_sub.proofs.Sums.{take-at}
use Rattle.rinv_parts.proofs.Names.{range-places}
use Rattle.rinv_reduction.specs.Localised.{all_count}

-- what two lists of one length make, place by place
zipped-at : {A B C : Type 0} (g : A → B → C) (xs : List A) (ys : List B) (k : ℕ) (a : A) (b : B) (z : C) → k < length xs → k < length ys → get_or (map (λ c. g c.0 c.1) (zip xs ys)) k z ≡ g (get_or xs k a) (get_or ys k b)
zipped-at g [] ys k a b z low few = absurd (omega arith)
zipped-at g (x ∷ xs) [] k a b z low few = absurd (omega (arith, few))
zipped-at g (x ∷ xs) (y ∷ ys) zero a b z low few = refl
zipped-at g (x ∷ xs) (y ∷ ys) (suc k) a b z low few = zipped-at g xs ys k a b z (omega (arith, low)) (omega (arith, few))

zipped-length : {A B C : Type 0} (g : A → B → C) (xs : List A) (ys : List B) → length xs ≡ length ys → length (map (λ c. g c.0 c.1) (zip xs ys)) ≡ length xs
zipped-length g [] ys e = refl
zipped-length g (x ∷ xs) [] e = absurd (omega (arith, e))
zipped-length g (x ∷ xs) (y ∷ ys) e = ap suc (zipped-length g xs ys (omega (arith, e)))

-- pairs of two lists, one after the other
pairs-append : {X : Type 0} (R : X → X → Type 0) (xs ys : List X) → AllPairs R xs → AllPairs R ys → All (λ x. All (R x) ys) xs → AllPairs R (xs ++ ys)
pairs-append R [] ys p q h = q
pairs-append R (x ∷ xs) ys p q h =
    AllPairs-cons R x (xs ++ ys) (All-append (R x) xs ys (λ k d within. p zero (suc k) d (omega arith) (omega (arith, within))) (All-head (λ y. All (R y) ys) x xs h))
    (pairs-append R xs ys (λ i j d low within. p (suc i) (suc j) d (omega (arith, low)) (omega (arith, within))) q (All-tail (λ y. All (R y) ys) x xs h))

-- the places of l variables, and of n behind n others
abbrev pub moved_places : ℕ → ℕ → List ℕ
moved_places l n = range_with_len 0 l ++ range_with_len (l + n) n

pub places-distinct : (l n : ℕ) → ArePlaces (l + 2 * n) (moved_places l n)
places-distinct l n =
    let first = range-places (l + 2 * n) 0 l (omega arith) in
    let second = range-places (l + 2 * n) (l + n) n (omega arith) in
    record {
      inside = All-append (λ p. p < l + 2 * n) (range_with_len 0 l) (range_with_len (l + n) n) first.inside second.inside;
      distinct = pairs-append (λ p q. ¬ (p ≡ q)) (range_with_len 0 l) (range_with_len (l + n) n) first.distinct second.distinct apart;
    }
  where
    apart : All (λ p. All (λ q. ¬ (p ≡ q)) (range_with_len (l + n) n)) (range_with_len 0 l)
    apart i d low j e within same =
        let many = length-range_with_len 0 l in
        let few = length-range_with_len (l + n) n in
        absurd (omega (arith, low, within, many, few, get_or-range_with_len 0 l i d (omega (arith, low, many)), get_or-range_with_len (l + n) n j e (omega (arith, within, few)), same))

module _ (s : System) where
  abbrev places : List ℕ
  places = moved_places (group_count s) (space_count s)

  -- the graph's element at a place
  abbrev pub graph_at : ℕ → Poly
  graph_at k = difference (residue_ops s.p) (variable (residue_ops s.p) (group_count s + k)) (rename (residue_ops s.p) (moved_places (group_count s) (space_count s)) (get_or s.action k []))

  point-is : map (variable (residue_ops s.p)) places ≡ group_copy s 0 ++ variables s (group_count s + space_count s) (space_count s)
  point-is = let e : 0 * group_count s ≡ 0 = omega arith in rw e (map-append (variable (residue_ops s.p)) (range_with_len 0 (group_count s)) (range_with_len (group_count s + space_count s) (space_count s)))

  pub graph-is : length s.action ≡ space_count s → graph s ≡ map graph_at (range_with_len 0 (space_count s))
  unfolding graph
  graph-is many = fill_by_all graph_at (differences s zs gs) (space_count s) [] long at
    where
      zs : List Poly
      zs = variables s (group_count s) (space_count s)

      gs : List Poly
      gs = moved s (group_copy s 0) (variables s (group_count s + space_count s) (space_count s))

      zs-length : length zs ≡ space_count s
      zs-length = length-map-range_with_len (variable (residue_ops s.p)) (group_count s) (space_count s)

      gs-length : length gs ≡ space_count s
      gs-length = length-map s.action (substitute (residue_ops s.p) (group_copy s 0 ++ variables s (group_count s + space_count s) (space_count s))) ∙ many

      long : length (differences s zs gs) ≡ space_count s
      long = zipped-length (difference (residue_ops s.p)) zs gs (zs-length ∙ sym gs-length) ∙ zs-length

      at : (k : ℕ) → k < space_count s → get_or (differences s zs gs) k [] ≡ graph_at k
      at k low =
          zipped-at (difference (residue_ops s.p)) zs gs k [] [] [] (omega (arith, low, zs-length)) (omega (arith, low, gs-length))
          ∙ ap₂ (difference (residue_ops s.p)) (get_or-map-range_with_len (variable (residue_ops s.p)) (group_count s) (space_count s) k (group_count s + k) [] low refl)
          (get_or-map (substitute (residue_ops s.p) (group_copy s 0 ++ variables s (group_count s + space_count s) (space_count s))) s.action k [] [] (omega (arith, low, many))
          ∙ ap (λ (point : List Poly). substitute (residue_ops s.p) point (get_or s.action k [])) (sym point-is))

  -- the generators, of three lists
  pub ideal-joined : (v : ℕ) (a b c all : List Poly) → all ≡ (a ++ b) ++ c → AreStored s.p v s.ideal a → AreStored s.p v (graph s) b → AreStored s.p v (map (past (group_count s)) s.section) c → AreStored s.p v (action_ideal s) all
  ideal-joined v a b c all e ha hb hc = subst (AreStored s.p v (action_ideal s)) (sym e)
      (AllZip-append (IsStoredIn s.p v) (s.ideal ++ graph s) (map (past (group_count s)) s.section) (a ++ b) c (AllZip-append (IsStoredIn s.p v) s.ideal (graph s) a b ha hb) hc)

-- ---- lists of polynomials, one after another

-- the next of a list, as it is stored
pub stored-next : (p v : ℕ) (fs : List Poly) (k : ℕ) (f : Poly) (gs : List Poly) (g : Poly) → k < length fs → f ≡ get_or fs k f → AreStored p v (take k fs) gs → IsStoredIn p v f g → AreStored p v (take (k + 1) fs) (gs ++ g ∷ [])
stored-next p v fs k f gs g low here so_far one =
    subst (λ (hs : List Poly). AreStored p v hs (gs ++ g ∷ [])) (sym (take-at fs k f low here)) (AllZip-push (IsStoredIn p v) (take k fs) gs f g so_far one)

-- all of them
pub stored-whole : (p v : ℕ) (fs : List Poly) (k : ℕ) (gs : List Poly) → length fs ≤ k → AreStored p v (take k fs) gs → AreStored p v fs gs
stored-whole p v fs k gs all h = subst (λ (hs : List Poly). AreStored p v hs gs) (take_all k fs all) h

-- an element of a list, over equal numbers
pub normal-at : (p q v w : ℕ) (fs : List Poly) (k : ℕ) (f : Poly) → p ≡ q → v ≡ w → k < length fs → f ≡ get_or fs k f → ArePolynomials q w fs → IsNormal (residue_ops p) (λ c. nat_lt c p) v f
normal-at p q v w fs k f field vars low here h = rw (field, vars) (subst (IsNormal (residue_ops q) (λ c. nat_lt c q) w) (sym here) (h k f low))

-- one polynomial as it is stored, over equal numbers
pub stored-one : (p q v w : ℕ) (f g : Poly) → p ≡ q → v ≡ w → IsNormal (residue_ops p) (λ c. nat_lt c p) v g → IsSame (poly_ops (residue_ops p)) g f → IsStoredIn q w f g
stored-one p q v w f g field vars normal value =
    subst (λ (a : ℕ). IsStoredIn a w f g) field (subst (λ (b : ℕ). IsStoredIn p b f g) vars (record { normal = normal; value = value }))

-- the difference of two that are stored
pub difference-stored : (p v : ℕ) (x y a b g : Poly) → IsSame (poly_ops (residue_ops p)) a x → IsSame (poly_ops (residue_ops p)) b y → IsNormal (residue_ops p) (λ c. nat_lt c p) v g → IsSame (poly_ops (residue_ops p)) g (difference (residue_ops p) a b)
    → IsStoredIn p v (difference (residue_ops p) x y) g
difference-stored p v x y a b g ax by normal value = record {
  normal = normal;
  value =
      let o = poly_ops (residue_ops p) in
      let l = poly_laws (residue_ops p) (residue_laws p) in
      facts.then o l value (l.add_same a x (opposite (residue_ops p) b) (opposite (residue_ops p) y) ax (l.neg_same b y by));
}

-- a polynomial that is another one, as it is stored
pub stored-is : (p v : ℕ) (f h g : Poly) → f ≡ h → IsStoredIn p v f g → IsStoredIn p v h g
stored-is p v f h g e one = subst (λ (x : Poly). IsStoredIn p v x g) e one

-- an element over equal numbers
pub element-over : (s : System) (p v place k : ℕ) (places : List ℕ) (f g : Poly) → p ≡ s.p → v ≡ all_count s → place ≡ group_count s + k → places ≡ moved_places (group_count s) (space_count s) → f ≡ get_or s.action k []
    → IsStoredIn p v (difference (residue_ops p) (variable (residue_ops p) place) (rename (residue_ops p) places f)) g → IsStoredIn s.p (all_count s) (graph_at s k) g
element-over s p v place k places f g field vars here is of one =
    subst (λ (x : Poly). IsStoredIn s.p (all_count s) (difference (residue_ops s.p) (variable (residue_ops s.p) (group_count s + k)) (rename (residue_ops s.p) (moved_places (group_count s) (space_count s)) x)) g) of
    (subst (λ (ks : List ℕ). IsStoredIn s.p (all_count s) (difference (residue_ops s.p) (variable (residue_ops s.p) (group_count s + k)) (rename (residue_ops s.p) ks f)) g) is
    (subst (λ (j : ℕ). IsStoredIn s.p (all_count s) (difference (residue_ops s.p) (variable (residue_ops s.p) j) (rename (residue_ops s.p) places f)) g) here
    (subst (λ (b : ℕ). IsStoredIn s.p b (difference (residue_ops s.p) (variable (residue_ops s.p) place) (rename (residue_ops s.p) places f)) g) vars
    (subst (λ (a : ℕ). IsStoredIn a v (difference (residue_ops a) (variable (residue_ops a) place) (rename (residue_ops a) places f)) g) field one))))

-- the section's polynomials are in normal form
normal-each : (s : System) (fs : List Poly) → list_all (is_good s (space_count s)) fs ≡ true → ArePolynomials s.p (space_count s) fs
normal-each s [] h = All-nil (IsNormal (residue_ops s.p) (λ c. nat_lt c s.p) (space_count s))
normal-each s (f ∷ fs) h = let parts = both (is_good s (space_count s) f) (list_all (is_good s (space_count s)) fs) h in All-cons (IsNormal (residue_ops s.p) (λ c. nat_lt c s.p) (space_count s)) f fs parts.0 (normal-each s fs parts.1)

pub section-normal : (s : System) → IsSystem s → ArePolynomials s.p (space_count s) s.section
section-normal s form = normal-each s s.section (both (list_all (λ part. part.1) (system_parts s) && nat_le (length s.section) 64) (list_all (is_good s (space_count s)) s.section) form).1
