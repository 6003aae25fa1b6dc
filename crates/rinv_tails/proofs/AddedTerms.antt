-- A term is added to a tail.
--   gap-added            where no term has its monomial
--   put-removed, put-replaced    what stands at a place after a sum
--   sum-added            where one has
--   there-meets          the degrees that this may answer
--   added-below          what is below a monomial stays below it
--   added-behind         terms above all others stay as they are
use Rattle.std.proofs.Common.{◌≡◌, ℕ, suc, ◌<◌, ◌+◌, Bool, true, false, cond, List, ◌∷◌, ◌++◌, length, get_or, take, drop, take-append-drop, append_assoc, refl, sym, ◌∙◌, ap, subst, arith, All}
use Rattle.std.specs.Prelude.{insert, remove, slice_set, Contains}
use Rattle.std.proofs.lemmas.List.{set_split}
use Rattle.std.proofs.lemmas.List.Elements.{All-tail, All-cons, All-append}
use Rattle.std.specs.declared.cmp.Ordering.TheVariants.{Less}
use Rattle.rinv_algebra.specs.Residue.{residue_ops}
use Rattle.rinv_algebra.specs.Order.{grevlex}
use Rattle.rinv_algebra.specs.Polynomial.{is_zero}
use Rattle.rinv_algebra.specs.Fraction.{fraction_ops}
use Rattle.rinv_algebra.proofs.Grevlex.{grevlex_laws}
use Rattle.rinv_algebra.proofs.ResidueLaws.{residue_laws}
use Rattle.rinv_ring.specs.Fault.{DegreesMeet}
use Rattle.rinv_ring.specs.Operation.{adds}
use Rattle.rinv_ring.specs.declared.fault.RingFault.{RingFault}
use Rattle.rinv_poly.proofs.Meets.{meet-weaker}
use Rattle.rinv_defs.specs.Invariant.{Fraction}
use Rattle.rinv_defs.specs.Extended.{FractionPoly}
use Rattle.rinv_frac.specs.Fractions.{IsStored}
use Rattle.rinv_frac.specs.Arithmetic.{IsSum}
use Rattle.rinv_frac.specs.Faults.{fractions_meet}
use Rattle.rinv_frac.proofs.Stored.{stored}
use Rattle.rinv_frac.proofs.Values.{zero-value}
use Rattle.rinv_tails.specs.Stored.{IsTailTerm, IsTail}
use Rattle.rinv_tails.specs.Places.{IsThere, IsGap, with_sum}
use Rattle.rinv_tails.specs.Reducing.{AddingMeets, IsAdded, AddsTerm, new, summed, cancelled}
use Rattle.rinv_tails.proofs.Tails.{Below, Above, all-left, all-right, at-place, tail-right, tail-term, tail-append, tail-without, tail-other, tail-between}

module _ (p v : ℕ) where
  pub gap-added : (m : List ℕ) (c : Fraction) (f g : FractionPoly) (k : ℕ) → IsTailTerm p v (m, c) → IsTail p v f → IsGap m f k → g ≡ insert f k (m, c) → AddsTerm p v m c f g
  gap-added m c f g k term tail gap e =
      let whole = sym (take-append-drop k f) in
      let made = tail-between p v (take k f) (drop k f) (m, c) term gap.above gap.below (subst (IsTail p v) whole tail) in
      subst (AddsTerm p v m c f) (sym e) (record { added = new (take k f) (drop k f) whole made; tail = made })

  -- the term at the place of the monomial
  module _ (m : List ℕ) (f : FractionPoly) (k : ℕ) (is : IsThere m f k) (r : List ℕ × Fraction) (here : r ≡ get_or f k r) where
    one : (t : List ℕ × Fraction) → t.0 ≡ m → (m, t.1) ≡ t
    one (n, c) e = ap (λ (x : List ℕ). (x, c)) (sym e)

    pub term-is : (m, r.1) ≡ r
    term-is = one r (ap (λ (t : List ℕ × Fraction). t.0) here ∙ is.same r)

    pub term-split : f ≡ take k f ++ (m, r.1) ∷ drop (k + 1) f
    term-split =
        let j : suc k ≡ k + 1 = omega arith in
        subst (λ (t : List ℕ × Fraction). f ≡ take k f ++ t ∷ drop (k + 1) f) (sym term-is) (subst (λ (i : ℕ). f ≡ take k f ++ r ∷ drop i f) j (at-place f k r is.inside here))

    pub term-stands : Contains f (m, r.1)
    term-stands = subst (Contains f) (sym term-is) (k, is.inside, sym here)

    -- degrees are met as a fraction is added there
    pub there-meets : (c : Fraction) (fault : RingFault) → DegreesMeet (fractions_meet (residue_ops p) adds r.1 c) fault → DegreesMeet (AddingMeets p v m c f) fault
    there-meets c = meet-weaker (fractions_meet (residue_ops p) adds r.1 c) (AddingMeets p v m c f) (λ x y meets. (r.1, term-stands, meets))

  pub sum-added : (m : List ℕ) (c e : Fraction) (r : List ℕ × Fraction) (f g : FractionPoly) (k : ℕ) → IsTail p v f → IsThere m f k → r ≡ get_or f k r → IsStored p v e → IsSum (residue_ops p) r.1 c e → g ≡ with_sum p f k (m, e) → AddsTerm p v m c f g
  sum-added m c e r f g k tail is here good sum made = subst (AddsTerm p v m c f) (sym made) (go (is_zero (residue_ops p) e.0) refl)
    where
      there : Fraction
      there = r.1

      split : f ≡ take k f ++ (m, r.1) ∷ drop (k + 1) f
      split = term-split m f k is r here

      whole : IsTail p v (take k f ++ (m, there) ∷ drop (k + 1) f)
      whole = subst (IsTail p v) split tail

      old : IsTailTerm p v (m, there)
      old = tail-term p v (m, there) (drop (k + 1) f) (tail-right p v (take k f) ((m, there) ∷ drop (k + 1) f) whole)

      go : (z : Bool) → is_zero (residue_ops p) e.0 ≡ z → AddsTerm p v m c f (take k f ++ cond z (drop (k + 1) f) ((m, e) ∷ drop (k + 1) f))
      go true z = record {
        added = cancelled (take k f) (drop (k + 1) f) there e split sum z;
        tail = tail-without p v (take k f) (drop (k + 1) f) (m, there) whole;
      }
      go false z = record {
        added = summed (take k f) (drop (k + 1) f) there e split sum z;
        tail = tail-other p v (take k f) (drop (k + 1) f) m there e (record { vars = old.vars; low = old.low; fraction = good; nonzero = z }) whole;
      }

  -- what is put at a place, by whether the fraction is zero
  module _ (f g : FractionPoly) (k : ℕ) (t : List ℕ × Fraction) (good : IsStored p v t.1) where
    tested : (fraction_ops (residue_ops p)).same t.1 (fraction_ops (residue_ops p)).zero ≡ is_zero (residue_ops p) t.1.0
    tested = zero-value (residue_ops p) (residue_laws p) t.1 (stored p v t.1 good).nonzero

    abbrev put : ℕ → Bool → FractionPoly
    put j z = take k f ++ cond z (drop j f) (t ∷ drop j f)

    next_place : suc k ≡ k + 1
    next_place = omega arith

    pub put-removed : (fraction_ops (residue_ops p)).same t.1 (fraction_ops (residue_ops p)).zero ≡ true → g ≡ remove f k → g ≡ with_sum p f k t
    put-removed z e = e ∙ ap (λ (j : ℕ). put j true) next_place ∙ ap (λ (b : Bool). put (k + 1) b) (sym z ∙ tested)

    pub put-replaced : (fraction_ops (residue_ops p)).same t.1 (fraction_ops (residue_ops p)).zero ≡ false → k < length f → g ≡ slice_set f k t → g ≡ with_sum p f k t
    put-replaced z low e = e ∙ set_split f k t low ∙ ap (λ (j : ℕ). put j false) next_place ∙ ap (λ (b : Bool). put (k + 1) b) (sym z ∙ tested)

  -- ---- what is below a monomial

  pub added-below : (m n : List ℕ) (c : Fraction) (f g : FractionPoly) → grevlex m n ≡ Less → IsAdded p v m c f g → Below n f → Below n g
  added-below m n c f _ less (new before after e tail) below =
      let parts = subst (Below n) e below in
      All-append (λ u. grevlex u.0 n ≡ Less) before ((m, c) ∷ after) (all-left (λ u. grevlex u.0 n ≡ Less) before after parts)
      (All-cons (λ u. grevlex u.0 n ≡ Less) (m, c) after less (all-right (λ u. grevlex u.0 n ≡ Less) before after parts))
  added-below m n c f _ less (summed before after d e w sum nonzero) below =
      let parts = subst (Below n) w below in
      let rest = all-right (λ u. grevlex u.0 n ≡ Less) before ((m, d) ∷ after) parts in
      All-append (λ u. grevlex u.0 n ≡ Less) before ((m, e) ∷ after) (all-left (λ u. grevlex u.0 n ≡ Less) before ((m, d) ∷ after) parts)
      (All-cons (λ u. grevlex u.0 n ≡ Less) (m, e) after less (All-tail (λ u. grevlex u.0 n ≡ Less) (m, d) after rest))
  added-below m n c f _ less (cancelled before after d e w sum none) below =
      let parts = subst (Below n) w below in
      let rest = all-right (λ u. grevlex u.0 n ≡ Less) before ((m, d) ∷ after) parts in
      All-append (λ u. grevlex u.0 n ≡ Less) before after (all-left (λ u. grevlex u.0 n ≡ Less) before ((m, d) ∷ after) parts) (All-tail (λ u. grevlex u.0 n ≡ Less) (m, d) after rest)

  -- what is above n is above all that is below n
  pub over : (n : List ℕ) (done g : FractionPoly) → All (λ t. grevlex n t.0 ≡ Less) done → Below n g → Above done g
  over n done g above below k d within j e inside = grevlex_laws.total.trans (get_or g j e).0 n (get_or done k d).0 (below j e inside) (above k d within)

  -- ---- behind terms that are above

  pub added-behind : (m n : List ℕ) (c : Fraction) (done f g : FractionPoly) → IsTail p v done → All (λ t. grevlex n t.0 ≡ Less) done → grevlex m n ≡ Less → Below n f → IsAdded p v m c f g → IsAdded p v m c (done ++ f) (done ++ g)
  added-behind m n c done f _ good above less below (new before after e tail) =
      let under = added-below m n c f (before ++ (m, c) ∷ after) less (new before after e tail) below in
      let whole = tail-append p v done (before ++ (m, c) ∷ after) good tail (over n done (before ++ (m, c) ∷ after) above under) in
      subst (IsAdded p v m c (done ++ f)) (append_assoc done before ((m, c) ∷ after))
      (new (done ++ before) after (ap (λ (h : FractionPoly). done ++ h) e ∙ sym (append_assoc done before after)) (subst (IsTail p v) (sym (append_assoc done before ((m, c) ∷ after))) whole))
  added-behind m n c done f _ good above less below (summed before after d e w sum nonzero) =
      subst (IsAdded p v m c (done ++ f)) (append_assoc done before ((m, e) ∷ after))
      (summed (done ++ before) after d e (ap (λ (h : FractionPoly). done ++ h) w ∙ sym (append_assoc done before ((m, d) ∷ after))) sum nonzero)
  added-behind m n c done f _ good above less below (cancelled before after d e w sum none) =
      subst (IsAdded p v m c (done ++ f)) (append_assoc done before after)
      (cancelled (done ++ before) after d e (ap (λ (h : FractionPoly). done ++ h) w ∙ sym (append_assoc done before ((m, d) ∷ after))) sum none)
