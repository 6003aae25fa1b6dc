-- Lists of cofactors in copies of their variables, and sums of products by them.
--   same-copy            a copy, of the copies that were made
--   over-copies          cofactors by the copies made are cofactors by the copies
--   part-of, list-at      the quotients in a copy, the list at a place
--   quotient-of          a product with a cofactor made is one with the cofactor's copy
--   products-meet, copy-meets    the degrees that are met
--   lists-more, ranged-more, copies-more    one list, one place, one copy more
use Rattle.std.proofs.Common.{◌≡◌, inl, inr, ℕ, zero, suc, ◌+◌, ◌-◌, ◌*◌, ◌<◌, ◌≤◌, not, true≢false, List, [], ◌∷◌, ◌++◌, length, length-append, get_or, take, drop, map, refl, sym, ◌∙◌, ap, subst, subst₂, nat_lt, arith}
use Rattle.std.specs.List.{range_with_len, AllZip}
use Rattle.std.proofs.lemmas.Bool.{cases_lt}
use Rattle.std.proofs.lemmas.List.{length-map, length-take, map_push, get_or-map, get_or-take, get_or-drop, get_or_past, get_or_append_left, get_or-append-add}
use Rattle.std.proofs.lemmas.List.Elements.{AllZip-get_or, AllZip-push, length_all_zip, All-nil, All-append}
use Rattle.std.proofs.lemmas.List.FromFn.{get_or-map-range_with_len, length-range_with_len, map-range_with_len_more}
use Rattle.std.proofs.lemmas.Nat.{row_fits}
use Rattle.rinv_algebra.specs.Ring.{RingOps, RingLaws, IsSame}
use Rattle.rinv_algebra.specs.Residue.{residue_ops}
use Rattle.rinv_algebra.specs.Polynomial.{Polynomial, poly_ops, coefficient, past}
use Rattle.rinv_algebra.specs.Normal.{IsNormal}
use Rattle.rinv_algebra.specs.Ideal.{combination}
use Rattle.rinv_algebra.proofs.PolynomialLaws.{poly_laws}
use Rattle.rinv_algebra.proofs.ResidueLaws.{residue_laws}
use Rattle.rinv_algebra.proofs.RingFacts as facts
use Rattle.rinv_groebner.specs.Division.{AreSame}
use Rattle.rinv_groebner.proofs.UniqueSteps.{same-at}
use Rattle.rinv_sub.proofs.Sums.{take-at}
use Rattle.rinv_ring.specs.Fault.{DegreesMeet}
use Rattle.rinv_ring.specs.declared.fault.RingFault.{RingFault}
use Rattle.rinv_poly.specs.Faults.{MonomialsMeet}
use Rattle.rinv_poly.proofs.Meets.{meet-weaker}
use Rattle.rinv_poly.specs.Combined.{ProductsSumMeet}
use Rattle.rinv_cofactors.specs.Combining.{column, cofactor}
use Rattle.rinv_cofactors.proofs.CombinedSums.{combination-right}
use Rattle.rinv_defs.specs.System.{Poly}
use Rattle.rinv_parts.specs.Points.{ArePolynomials}
use Rattle.rinv_sub.specs.Refusal.{never}
use Rattle.rinv_laws.specs.Proofs.{AreInCopies, CopiesMeet, ProductsMeet, chosen, past_lists, quotients_in}

module _ {E : Type 0} (o : RingOps E) (l : RingLaws o) where
  -- entries of lists that are the same
  columns-same : (ls ms : List (List (Polynomial E))) → AllZip (AreSame o) ls ms → (m : ℕ) → AreSame o (column ls m) (column ms m)
  columns-same [] [] s m = tt
  columns-same [] (b ∷ ms) s m = absurd s
  columns-same (a ∷ ls) [] s m = absurd s
  columns-same (a ∷ ls) (b ∷ ms) s m = (same-at o l a b s.0 m, columns-same ls ms s.1 m)

  pub entries-same : (ls ms : List (List (Polynomial E))) → AllZip (AreSame o) ls ms → (k m : ℕ) → IsSame (poly_ops o) (cofactor ls k m) (cofactor ms k m)
  entries-same [] [] s k m = (poly_laws o l).same_refl _
  entries-same [] (b ∷ ms) s k m = absurd s
  entries-same (a ∷ ls) [] s k m = absurd s
  entries-same (a ∷ ls) (b ∷ ms) s zero m = same-at o l a b s.0 m
  entries-same (a ∷ ls) (b ∷ ms) s (suc k) m = entries-same ls ms s.1 k m

-- an entry of the lists in later variables
entry-past : {E : Type 0} (v : ℕ) (us : List (Polynomial E)) (m : ℕ) → get_or (map (past v) us) m [] ≡ past v (get_or us m [])
entry-past v [] zero = refl
entry-past v [] (suc m) = refl
entry-past v (u ∷ us) zero = refl
entry-past v (u ∷ us) (suc m) = entry-past v us m

pub cofactor-past : (v : ℕ) (lists : List (List Poly)) (k m : ℕ) → cofactor (past_lists v lists) k m ≡ past v (cofactor lists k m)
cofactor-past v [] zero m = entry-past v [] m
cofactor-past v [] (suc k) m = entry-past v [] m
cofactor-past v (us ∷ lists) zero m = entry-past v us m
cofactor-past v (us ∷ lists) (suc k) m = cofactor-past v lists k m

-- a copy, of the copies that were made
pub same-copy : {X : Type 0} (R : X → X → Type 0) (d e : X) (F : ℕ → X) (c : ℕ) (xs : List X) → AllZip R xs (map F (range_with_len 0 c)) → (j : ℕ) → j < c → R (get_or xs j d) (F j)
same-copy R d e F c xs s j low =
    let long : length xs ≡ c = length_all_zip R xs (map F (range_with_len 0 c)) s ∙ length-map (range_with_len 0 c) F ∙ length-range_with_len 0 c in
    subst (R (get_or xs j d)) (get_or-map-range_with_len F 0 c j j e low (omega arith)) (AllZip-get_or R xs (map F (range_with_len 0 c)) j d e s (omega (arith, low, long)))

module _ (p v c n count : ℕ) (F G : ℕ → List (List Poly)) (s : (j : ℕ) → j < c → AllZip (AreSame (residue_ops p)) (F j) (G j)) (qs : List Poly) where
  -- cofactors by the copies made are cofactors by the copies
  pub over-copies : (us : List Poly) → AreInCopies p v c n count F qs us → AreInCopies p v c n count G qs us
  over-copies us h = record {
    number = h.number;
    normal = h.normal;
    rule = λ j m low inside. facts.then (poly_ops (residue_ops p)) (poly_laws (residue_ops p) (residue_laws p)) (h.rule j m low inside)
        (combination-right (residue_ops p) (residue_laws p) (quotients_in count qs j) (column (F j) m) (column (G j) m) (columns-same (residue_ops p) (residue_laws p) (F j) (G j) (s j low) m));
  }

-- zero has no monomial
no-product : (p : ℕ) (f : Poly) (x y : ℕ) → MonomialsMeet (residue_ops p) [] f x y → ⊥
unfolding coefficient
no-product p f x y m = true≢false (sym m.left.has ∙ ap not ((residue_laws p).same_refl ((residue_ops p).zero)))

-- the quotients in a copy, as a part of all
pub part-of : (count j : ℕ) (qs : List Poly) → take (j * count + count - j * count) (drop (j * count) qs) ≡ quotients_in count qs j
part-of count j qs = ap (λ (n : ℕ). take n (drop (j * count) qs)) (size (j * count) count)
  where
    size : (a b : ℕ) → a + b - a ≡ b
    size a b = omega arith

-- a quotient in a copy is one of all
pub quotient-of : (p count j k : ℕ) (qs : List Poly) (f : Poly) (x y : ℕ) → MonomialsMeet (residue_ops p) (get_or (quotients_in count qs j) k []) f x y → (k < count) × MonomialsMeet (residue_ops p) (get_or qs (j * count + k) []) f x y
quotient-of p count j k qs f x y m = elim (cases_lt k count) [
  | inl low ↦ (low, subst (λ (q : Poly). MonomialsMeet (residue_ops p) q f x y) (get_or-take count (drop (j * count) qs) k [] low ∙ get_or-drop (j * count) qs k []) m)
  | inr high ↦ absurd (no-product p f x y (subst (λ (q : Poly). MonomialsMeet (residue_ops p) q f x y) (get_or_past (quotients_in count qs j) k [] (omega (arith, high, length-take count (drop (j * count) qs)))) m))
]

-- ---- one more

-- one list more in a copy
pub lists-more : {W : Type 0} (view : W → List Poly) (p v : ℕ) (all : List (List Poly)) (places : List ℕ) (k place : ℕ) (made : List W) (u : W) → k < length places → place ≡ get_or places k place
    → AllZip (AreSame (residue_ops p)) (map view made) (past_lists v (chosen all (take k places))) → AreSame (residue_ops p) (view u) (map (past v) (get_or all place []))
    → AllZip (AreSame (residue_ops p)) (map view (made ++ u ∷ [])) (past_lists v (chosen all (take (k + 1) places)))
lists-more view p v all places k place made u low at so_far here =
    subst₂ (AllZip (AreSame (residue_ops p))) (sym (map_push view made u))
    (sym (ap (λ (ks : List ℕ). past_lists v (chosen all ks)) (take-at places k place low at) ∙ ap (past_lists v) (map_push (λ i. get_or all i []) (take k places) place) ∙ map_push (λ us. map (past v) us) (chosen all (take k places)) (get_or all place [])))
    (AllZip-push (AreSame (residue_ops p)) (map view made) (past_lists v (chosen all (take k places))) (view u) (map (past v) (get_or all place [])) so_far here)

-- the list at a place
pub list-at : {W X : Type 0} (view : W → X) (d : X) (lists : List W) (place : ℕ) (w : W) → place < length lists → w ≡ get_or lists place w → view w ≡ get_or (map view lists) place d
list-at view d lists place w low at = ap view at ∙ sym (get_or-map view lists place w d low)

-- one more of a range
pub ranged-more : {W X : Type 0} (R : X → X → Type 0) (view : W → X) (F : ℕ → X) (j : ℕ) (made : List W) (w : W) → AllZip R (map view made) (map F (range_with_len 0 j)) → R (view w) (F j) → AllZip R (map view (made ++ w ∷ [])) (map F (range_with_len 0 (j + 1)))
ranged-more R view F j made w so_far here =
    subst₂ (AllZip R) (sym (map_push view made w)) (sym (map-range_with_len_more F 0 j j (omega arith)))
    (AllZip-push R (map view made) (map F (range_with_len 0 j)) (view w) (F j) so_far here)

-- one copy more
module _ (p v n count : ℕ) (F : ℕ → List (List Poly)) (qs : List Poly) where
  pub copies-none : AreInCopies p v 0 n count F qs []
  copies-none = record { number = nothing n; normal = All-nil (IsNormal (residue_ops p) (λ c. nat_lt c p) v); rule = λ j m low inside. absurd (omega (arith, low)) }
    where
      nothing : (n : ℕ) → 0 ≡ 0 * n
      nothing n = omega arith

  pub copies-more : (c : ℕ) (us ws : List Poly) → AreInCopies p v c n count F qs us → length ws ≡ n → ArePolynomials p v ws
      → ((m : ℕ) → m < n → IsSame (poly_ops (residue_ops p)) (get_or ws m []) (combination (residue_ops p) (quotients_in count qs c) (column (F c) m)))
      → AreInCopies p v (c + 1) n count F qs (us ++ ws)
  copies-more c us ws h long normal here = record {
    number = length-append us ws ∙ one_more h.number long;
    normal = All-append (IsNormal (residue_ops p) (λ c. nat_lt c p) v) us ws h.normal normal;
    rule = λ j m low inside. elim (cases_lt j c) [
      | inl before ↦
          let row : j * n + n ≤ c * n = row_fits j n c n before (omega arith) in
          subst (λ (f : Poly). IsSame (poly_ops (residue_ops p)) f (combination (residue_ops p) (quotients_in count qs j) (column (F j) m))) (sym (get_or_append_left us ws [] (j * n + m) (omega (arith, row, inside, h.number)))) (h.rule j m before inside)
      | inr after ↦
          let last : c ≡ j = omega (arith, low, after) in
          subst (λ (i : ℕ). IsSame (poly_ops (residue_ops p)) (get_or (us ++ ws) (i * n + m) []) (combination (residue_ops p) (quotients_in count qs i) (column (F i) m))) last
          (subst (λ (f : Poly). IsSame (poly_ops (residue_ops p)) f (combination (residue_ops p) (quotients_in count qs c) (column (F c) m)))
          (sym (ap (λ (i : ℕ). get_or (us ++ ws) (i + m) []) (sym h.number) ∙ get_or-append-add us ws m [])) (here m inside))
    ];
  }
    where
      one_more : {a b : ℕ} → a ≡ c * n → b ≡ n → a + b ≡ (c + 1) * n
      one_more e f = omega (arith, e, f)

-- a cofactor of a column
column-at : (lists : List (List Poly)) (k m : ℕ) → get_or (column lists m) k [] ≡ cofactor lists k m
column-at [] zero m = nothing m
  where
    nothing : (m : ℕ) → [] ≡ get_or {A = Poly} [] m []
    nothing zero = refl
    nothing (suc m) = refl
column-at [] (suc k) m = nothing m
  where
    nothing : (m : ℕ) → [] ≡ get_or {A = Poly} [] m []
    nothing zero = refl
    nothing (suc m) = refl
column-at (us ∷ lists) zero m = refl
column-at (us ∷ lists) (suc k) m = column-at lists k m

-- the degrees that a sum of products meets: numbers modulo a prime meet none
pub products-meet : (p v : ℕ) (qs : List Poly) (lists : List (List Poly)) (m : ℕ) (fault : RingFault) → DegreesMeet (ProductsSumMeet (residue_ops p) (λ c. nat_lt c p) never v qs (column lists m)) fault → DegreesMeet (ProductsMeet p qs lists) fault
products-meet p v qs lists m fault meets = meet-weaker (ProductsSumMeet (residue_ops p) (λ c. nat_lt c p) never v qs (column lists m)) (ProductsMeet p qs lists) (λ x y h. elim h [
  | inl (k, few, inl at) ↦ record { element = k; given = m; meets = subst (λ (f : Poly). MonomialsMeet (residue_ops p) (get_or qs k []) f x y) (column-at lists k m) at }
  | inl (k, few, inr (inl (n, c, is, none))) ↦ absurd none.meets
  | inl (k, few, inr (inr (terms, worked, none))) ↦ absurd none.meets
  | inr (stored, all, none) ↦ absurd none.meets
]) fault meets

-- and those that one copy meets
pub copy-meets : (p c count : ℕ) (F : ℕ → List (List Poly)) (qs own : List Poly) (j : ℕ) → j < c → own ≡ quotients_in count qs j → (fault : RingFault) → DegreesMeet (ProductsMeet p own (F j)) fault → DegreesMeet (CopiesMeet p c count F qs) fault
copy-meets p c count F qs own j low is fault meets = meet-weaker (ProductsMeet p own (F j)) (CopiesMeet p c count F qs) (λ x y m. record { copy = j; inside = low; products = subst (λ (rs : List Poly). ProductsMeet p rs (F j) x y) is m }) fault meets
