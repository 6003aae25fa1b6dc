-- The cofactors that are made for a law, in its ring, are those of its parts.
--   OfLaw                the ring and the numbers are the law's
--   copies-inside        its ring has the copies of the group's variables
--   made-number, made-kept, made-lengths    how long the lists are that were made
--   law-made, law-meets  the cofactors by the copies that were made, and the degrees that they meet
use Rattle.std.proofs.Common.{◌≡◌, ℕ, zero, suc, ◌+◌, ◌*◌, ◌<◌, ◌≤◌, List, [], ◌∷◌, length, get_or, map, All, sym, ◌∙◌, subst, arith}
use Rattle.std.specs.List.{range_with_len, AllZip}
use Rattle.std.proofs.lemmas.List.{length-map}
use Rattle.std.proofs.lemmas.List.Elements.{All-nil, All-cons, All-head, All-tail, length_all_zip}
use Rattle.std.proofs.lemmas.List.FromFn.{length-range_with_len}
use Rattle.rinv_algebra.specs.Ring.{IsSame}
use Rattle.rinv_algebra.specs.Residue.{residue_ops}
use Rattle.rinv_algebra.specs.Polynomial.{poly_ops, past}
use Rattle.rinv_groebner.specs.Division.{AreSame}
use Rattle.rinv_ring.specs.Fault.{DegreesMeet}
use Rattle.rinv_ring.specs.declared.fault.RingFault.{RingFault}
use Rattle.rinv_poly.proofs.Meets.{meet-weaker}
use Rattle.rinv_defs.specs.System.{System, Poly, group_count}
use Rattle.rinv_defs.specs.Laws.{Law, copies}
use Rattle.rinv_parts.specs.LawNames.{variables_of}
use Rattle.rinv_laws.specs.Proofs.{AreInCopies, CopiesMeet, MakingMeets, in_copy, past_lists}
use Rattle.rinv_laws.proofs.CopiedCofactors.{same-copy, over-copies}
use Rattle.rinv_laws.proofs.ProvedLaws.{copies-making}

-- a ring with v variables over the residues modulo p, w variables of the group, c copies, n polynomials and so many lists
pub record OfLaw (s : System) (law : Law) (lists : List (List Poly)) (p v w c n count : ℕ) : Type 0 where
  pub field : p ≡ s.p
  pub vars : v ≡ variables_of s law
  pub own_vars : w ≡ group_count s
  pub copies_number : c ≡ copies law
  pub given : n ≡ length s.ideal
  pub kept : count ≡ length lists

-- its ring has the copies of the group's variables
pub copies-inside : (s : System) (law : Law) (c w v : ℕ) → c ≡ copies law → w ≡ group_count s → v ≡ variables_of s law → c * w ≤ v
copies-inside s law c w v a b d = subst (λ (k : ℕ). c * w ≤ k) (sym d) (subst (λ (k : ℕ). k * w ≤ variables_of s law) (sym a) (subst (λ (k : ℕ). copies law * k ≤ variables_of s law) (sym b) (omega arith)))

-- ---- the lists that were made

lists-length : {W : Type 0} (view : W → List Poly) (p v n : ℕ) (lists : List (List Poly)) (ws : List W) → AllZip (AreSame (residue_ops p)) (map view ws) (past_lists v lists) → All (λ us. length us ≡ n) lists → All (λ w. length (view w) ≡ n) ws
lists-length view p v n lists [] same h = All-nil (λ w. length (view w) ≡ n)
lists-length view p v n [] (w ∷ ws) same h = absurd same
lists-length view p v n (us ∷ lists) (w ∷ ws) same h = All-cons (λ w. length (view w) ≡ n) w ws
    (length_all_zip (IsSame (poly_ops (residue_ops p))) (view w) (map (past v) us) same.0 ∙ length-map us (past v) ∙ All-head (λ us. length us ≡ n) us lists h)
    (lists-length view p v n lists ws same.1 (All-tail (λ us. length us ≡ n) us lists h))

module _ {V W : Type 0} (view : W → List Poly) (inner : V → List W) (p w : ℕ) (lists : List (List Poly)) where
  abbrev AreMade : ℕ → ℕ → List V → Type 0
  AreMade s c xs = AllZip (AllZip (AreSame (residue_ops p))) (map (λ x. map view (inner x)) xs) (map (λ j. past_lists (j * w) lists) (range_with_len s c))

  pub made-number : (c : ℕ) (xs : List V) → AreMade 0 c xs → length xs ≡ c
  made-number c xs same =
      sym (length-map xs (λ x. map view (inner x))) ∙ length_all_zip (AllZip (AreSame (residue_ops p))) (map (λ x. map view (inner x)) xs) (map (λ j. past_lists (j * w) lists) (range_with_len 0 c)) same
      ∙ length-map (range_with_len 0 c) (λ j. past_lists (j * w) lists) ∙ length-range_with_len 0 c

  pub made-kept : (s c : ℕ) (xs : List V) → AreMade s c xs → All (λ x. length (inner x) ≡ length lists) xs
  made-kept s c [] same = All-nil (λ x. length (inner x) ≡ length lists)
  made-kept s zero (x ∷ xs) same = absurd same
  made-kept s (suc c) (x ∷ xs) same = All-cons (λ x. length (inner x) ≡ length lists) x xs
      (sym (length-map (inner x) view) ∙ length_all_zip (AreSame (residue_ops p)) (map view (inner x)) (past_lists (s * w) lists) same.0 ∙ length-map lists (λ us. map (past (s * w)) us))
      (made-kept (s + 1) c xs same.1)

  pub made-lengths : (n s c : ℕ) (xs : List V) → AreMade s c xs → All (λ us. length us ≡ n) lists → All (λ x. All (λ u. length (view u) ≡ n) (inner x)) xs
  made-lengths n s c [] same h = All-nil (λ x. All (λ u. length (view u) ≡ n) (inner x))
  made-lengths n s zero (x ∷ xs) same h = absurd same
  made-lengths n s (suc c) (x ∷ xs) same h = All-cons (λ x. All (λ u. length (view u) ≡ n) (inner x)) x xs (lists-length view p (s * w) n lists (inner x) same.0 h) (made-lengths n (s + 1) c xs same.1 h)

module _ (s : System) (law : Law) (lists : List (List Poly)) (p v w c n count : ℕ) (e : OfLaw s law lists p v w c n count) (views : List (List (List Poly)))
    (same : AllZip (AllZip (AreSame (residue_ops p))) views (map (λ j. past_lists (j * w) lists) (range_with_len 0 c))) where
  in_each : (j : ℕ) → j < c → AllZip (AreSame (residue_ops p)) (get_or views j []) (past_lists (j * w) lists)
  in_each = same-copy (AllZip (AreSame (residue_ops p))) [] [] (λ j. past_lists (j * w) lists) c views same

  pub law-made : (qs us : List Poly) → AreInCopies p v c n count (λ j. get_or views j []) qs us → AreInCopies s.p (variables_of s law) (copies law) (length s.ideal) (length lists) (λ j. in_copy s j lists) qs us
  law-made qs us h =
      subst (λ (q : ℕ). AreInCopies q (variables_of s law) (copies law) (length s.ideal) (length lists) (λ j. in_copy s j lists) qs us) e.field
      (subst (λ (k : ℕ). AreInCopies p k (copies law) (length s.ideal) (length lists) (λ j. in_copy s j lists) qs us) e.vars
      (subst (λ (k : ℕ). AreInCopies p v k (length s.ideal) (length lists) (λ j. in_copy s j lists) qs us) e.copies_number
      (subst (λ (k : ℕ). AreInCopies p v c k (length lists) (λ j. in_copy s j lists) qs us) e.given
      (subst (λ (k : ℕ). AreInCopies p v c n k (λ j. in_copy s j lists) qs us) e.kept
      (subst (λ (k : ℕ). AreInCopies p v c n count (λ j. past_lists (j * k) lists) qs us) e.own_vars
      (over-copies p v c n count (λ j. get_or views j []) (λ j. past_lists (j * w) lists) in_each qs us h))))))

  law-copies : (j : ℕ) → j < copies law → AllZip (AreSame (residue_ops s.p)) (get_or views j []) (in_copy s j lists)
  law-copies =
      subst (λ (q : ℕ). (j : ℕ) → j < copies law → AllZip (AreSame (residue_ops q)) (get_or views j []) (in_copy s j lists)) e.field
      (subst (λ (k : ℕ). (j : ℕ) → j < k → AllZip (AreSame (residue_ops p)) (get_or views j []) (in_copy s j lists)) e.copies_number
      (subst (λ (k : ℕ). (j : ℕ) → j < c → AllZip (AreSame (residue_ops p)) (get_or views j []) (past_lists (j * k) lists)) e.own_vars in_each))

  pub law-meets : (quotients : List (List Poly)) (k : ℕ) → k < length quotients → (qs : List Poly) → qs ≡ get_or quotients k [] → (fault : RingFault) → DegreesMeet (CopiesMeet p c count (λ j. get_or views j []) qs) fault → DegreesMeet (MakingMeets s law lists quotients) fault
  law-meets quotients k low qs at fault meets = meet-weaker (CopiesMeet p c count (λ j. get_or views j []) qs) (MakingMeets s law lists quotients)
      (λ x y m. copies-making s law lists (λ j. get_or views j []) law-copies quotients k low qs at x y
      (subst (λ (q : ℕ). CopiesMeet q (copies law) (length lists) (λ j. get_or views j []) qs x y) e.field
      (subst (λ (i : ℕ). CopiesMeet p i (length lists) (λ j. get_or views j []) qs x y) e.copies_number
      (subst (λ (i : ℕ). CopiesMeet p c i (λ j. get_or views j []) qs x y) e.kept m))))
      fault meets
