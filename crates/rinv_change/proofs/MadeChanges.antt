-- The change of a fraction, as it is made.
--   over, stored-over, normal-over    equations of numbers, and what is stored in a ring with such numbers
--   moved-answer                      a polynomial at the moved point
--   past-stored                       a polynomial behind the group's variables
--   product-stored, difference-stored    products and differences of what is stored
--   change-is                         what a change is made of
use Rattle.std.proofs.Common.{◌≡◌, ℕ, ◌∙◌, List, nat_lt, refl, sym, subst, subst₂, inl, inr}
use Rattle.std.specs.Prelude.{Result, Ok, Err, IfOk, IfErr, OnOk, true}
use Rattle.std.specs.Result.{MatchResult}
use Rattle.rinv_algebra.specs.Ring.{IsSame}
use Rattle.rinv_algebra.specs.Residue.{residue_ops}
use Rattle.rinv_algebra.specs.Polynomial.{poly_ops, past, product, difference}
use Rattle.rinv_algebra.specs.Normal.{IsNormal}
use Rattle.rinv_algebra.specs.Value.{substitute}
use Rattle.rinv_algebra.specs.Fits.{substitution_fits}
use Rattle.rinv_algebra.proofs.PolynomialLaws.{poly_laws}
use Rattle.rinv_algebra.proofs.ResidueLaws.{residue_laws}
use Rattle.rinv_algebra.proofs.RingFacts as facts
use Rattle.rinv_ring.specs.Fault.{DegreesMeet}
use Rattle.rinv_ring.specs.Operation.{multiplies}
use Rattle.rinv_ring.specs.declared.fault.RingFault.{RingFault}
use Rattle.rinv_ring.specs.declared.fault.RingFault.TheVariants.{Degree, NoMemory}
use Rattle.rinv_poly.specs.Faults.{MonomialsMeet, polynomials_meet}
use Rattle.rinv_poly.proofs.Meets.{meet-weaker}
use Rattle.rinv_sub.specs.Refusal.{never}
use Rattle.rinv_sub.proofs.Refused.{has-same}
use Rattle.rinv_defs.specs.System.{System, Poly, group_count}
use Rattle.rinv_defs.specs.Invariant.{Fraction, at_moved_point, change}
use Rattle.rinv_parts.specs.Points.{ArePolynomials, IsStoredIn}
use Rattle.rinv_parts.specs.Substitutions.{IsValue, TakenMeets}
use Rattle.rinv_parts.proofs.Stored.{stored-self}
use Rattle.rinv_parts.proofs.Values.{difference-stored, value-answer, weaker}
use Rattle.rinv_change.specs.Asked.{IsChangeRing}
use Rattle.rinv_change.specs.Changes.{ChangingMeets, change_count, in_numerator, in_denominator, in_first, in_second}

-- ---- in a ring of the same numbers

pub normal-over : (p q v w : ℕ) (f : Poly) → p ≡ q → v ≡ w → IsNormal (residue_ops q) (λ c. nat_lt c q) w f → IsNormal (residue_ops p) (λ c. nat_lt c p) v f
normal-over p q v w f a b h = rw (a, b) h

pub stored-over : (p q v w : ℕ) (f g : Poly) → p ≡ q → v ≡ w → IsStoredIn p v f g → IsStoredIn q w f g
stored-over p q v w f g a b h = rw (← a, ← b) h

-- ---- the moved point

at-action : (s : System) (f : Poly) (result : Result Poly RingFault) → ArePolynomials s.p (change_count s) s.action
    → IfOk result (λ r. IsNormal (residue_ops s.p) (λ c. nat_lt c s.p) (change_count s) r) → IfOk result (λ r. IsSame (poly_ops (residue_ops s.p)) r (substitute (residue_ops s.p) s.action f))
    → OnOk result (substitution_fits (residue_ops s.p) s.action f ≡ true) → IfErr result (DegreesMeet (TakenMeets s.p (change_count s) s.action f))
    → MatchResult result (IsStoredIn s.p (change_count s) (at_moved_point s f)) (DegreesMeet (TakenMeets s.p (change_count s) s.action f))
at-action s f result good normal value fits degree =
    let p = s.p in
    let v = change_count s in
    weaker p v (IsValue p v s.action f) (IsStoredIn p v (at_moved_point s f)) (TakenMeets p v s.action f) (TakenMeets p v s.action f) (λ r h. h.stored) (λ m n h. h) result
    (value-answer p v s.action s.action f result (stored-self p v s.action good) normal value fits degree)

pub moved-answer : (s : System) (p v : ℕ) (point : List Poly) (f : Poly) (result : Result Poly RingFault) → p ≡ s.p → v ≡ change_count s → point ≡ s.action → ArePolynomials s.p (change_count s) s.action
    → IfOk result (λ r. IsNormal (residue_ops p) (λ c. nat_lt c p) v r) → IfOk result (λ r. IsSame (poly_ops (residue_ops p)) r (substitute (residue_ops p) point f))
    → OnOk result (substitution_fits (residue_ops p) point f ≡ true) → IfErr result (DegreesMeet (TakenMeets p v point f))
    → MatchResult result (IsStoredIn s.p (change_count s) (at_moved_point s f)) (DegreesMeet (TakenMeets s.p (change_count s) s.action f))
moved-answer s p v point f result a b c good normal value fits degree =
    at-action s f result good
    (subst (λ (q : ℕ). IfOk result (λ r. IsNormal (residue_ops q) (λ c. nat_lt c q) (change_count s) r)) a (subst (λ (w : ℕ). IfOk result (λ r. IsNormal (residue_ops p) (λ c. nat_lt c p) w r)) b normal))
    (subst (λ (q : ℕ). IfOk result (λ r. IsSame (poly_ops (residue_ops q)) r (substitute (residue_ops q) s.action f))) a (subst (λ (x : List Poly). IfOk result (λ r. IsSame (poly_ops (residue_ops p)) r (substitute (residue_ops p) x f))) c value))
    (subst (λ (q : ℕ). OnOk result (substitution_fits (residue_ops q) s.action f ≡ true)) a (subst (λ (x : List Poly). OnOk result (substitution_fits (residue_ops p) x f ≡ true)) c fits))
    (subst (λ (q : ℕ). IfErr result (DegreesMeet (TakenMeets q (change_count s) s.action f))) a (subst (λ (w : ℕ). IfErr result (DegreesMeet (TakenMeets p w s.action f))) b (subst (λ (x : List Poly). IfErr result (DegreesMeet (TakenMeets p v x f))) c degree)))

-- ---- behind the group's variables

pub past-stored : (s : System) (p v k : ℕ) (f r : Poly) → p ≡ s.p → v ≡ change_count s → k ≡ group_count s → IsNormal (residue_ops p) (λ c. nat_lt c p) v r → r ≡ past k f → IsStoredIn s.p (change_count s) (past (group_count s) f) r
past-stored s p v k f r a b c normal is = record {
  normal = normal-over s.p p (change_count s) v r (sym a) (sym b) normal;
  value = facts.of_same (poly_ops (residue_ops s.p)) (poly_laws (residue_ops s.p) (residue_laws s.p)) (is ∙ subst (λ (n : ℕ). past k f ≡ past n f) c refl);
}

pub past-answer : (s : System) (p v k : ℕ) (f : Poly) {e : Type 0} (result : Result Poly e) → p ≡ s.p → v ≡ change_count s → k ≡ group_count s → IfOk result (λ r. IsNormal (residue_ops p) (λ c. nat_lt c p) v r) → IfOk result (λ r. r ≡ past k f)
    → IfOk result (IsStoredIn s.p (change_count s) (past (group_count s) f))
past-answer s p v k f (Ok r) a b c normal is = past-stored s p v k f r a b c normal is
past-answer s p v k f (Err e) a b c normal is = normal

-- ---- products and differences

module _ (p v : ℕ) (f g a b : Poly) (is_a : IsStoredIn p v f a) (is_b : IsStoredIn p v g b) where
  -- residues meet no degrees, so two monomials do
  in-monomials : (x y : ℕ) → polynomials_meet (residue_ops p) (λ c. nat_lt c p) never multiplies a b x y → MonomialsMeet (residue_ops p) f g x y
  in-monomials x y (inl h) = record { left = has-same (residue_ops p) (residue_laws p) a f x is_a.value h.left; right = has-same (residue_ops p) (residue_laws p) b g y is_b.value h.right; over = h.over }
  in-monomials x y (inr (inl (m, c, i, h))) = absurd h.meets
  in-monomials x y (inr (inr (terms, w, h))) = absurd h.meets

  pub product-stored : (result : Result Poly RingFault) → IfOk result (λ r. IsNormal (residue_ops p) (λ c. nat_lt c p) v r) → IfOk result (λ r. IsSame (poly_ops (residue_ops p)) r (product (residue_ops p) a b))
      → IfErr result (DegreesMeet (polynomials_meet (residue_ops p) (λ c. nat_lt c p) never multiplies a b))
      → MatchResult result (IsStoredIn p v (product (residue_ops p) f g)) (DegreesMeet (MonomialsMeet (residue_ops p) f g))
  product-stored (Ok r) normal value degree = record { normal = normal; value = facts.then (poly_ops (residue_ops p)) (poly_laws (residue_ops p) (residue_laws p)) value (facts.mul2 (poly_ops (residue_ops p)) (poly_laws (residue_ops p) (residue_laws p)) is_a.value is_b.value) }
  product-stored (Err (Degree x y)) normal value degree = in-monomials x y degree
  product-stored (Err NoMemory) normal value degree = tt

-- in the ring of changes
pub product-answer : (s : System) (p v : ℕ) → IsChangeRing s p v → (f g a b : Poly) → IsStoredIn s.p (change_count s) f a → IsStoredIn s.p (change_count s) g b
    → (result : Result Poly RingFault) → IfOk result (λ r. IsNormal (residue_ops p) (λ c. nat_lt c p) v r) → IfOk result (λ r. IsSame (poly_ops (residue_ops p)) r (product (residue_ops p) a b))
    → IfErr result (DegreesMeet (polynomials_meet (residue_ops p) (λ c. nat_lt c p) never multiplies a b))
    → MatchResult result (IsStoredIn s.p (change_count s) (product (residue_ops s.p) f g)) (DegreesMeet (MonomialsMeet (residue_ops s.p) f g))
product-answer s p v ring f g a b h k result normal value degree =
    subst₂ (λ (q w : ℕ). MatchResult result (IsStoredIn q w (product (residue_ops q) f g)) (DegreesMeet (MonomialsMeet (residue_ops q) f g))) ring.field ring.vars
    (product-stored p v f g a b (stored-over s.p p (change_count s) v f a (sym ring.field) (sym ring.vars) h) (stored-over s.p p (change_count s) v g b (sym ring.field) (sym ring.vars) k) result normal value degree)

pub difference-answer : (s : System) (p v : ℕ) → IsChangeRing s p v → (f g a b : Poly) → IsStoredIn s.p (change_count s) f a → IsStoredIn s.p (change_count s) g b
    → (r : Poly) → IsNormal (residue_ops p) (λ c. nat_lt c p) v r → IsSame (poly_ops (residue_ops p)) r (difference (residue_ops p) a b) → IsStoredIn s.p (change_count s) (difference (residue_ops s.p) f g) r
difference-answer s p v ring f g a b h k r normal value =
    subst₂ (λ (q w : ℕ). IsStoredIn q w (difference (residue_ops q) f g) r) ring.field ring.vars
    (difference-stored p v f g a b (stored-over s.p p (change_count s) v f a (sym ring.field) (sym ring.vars) h) (stored-over s.p p (change_count s) v g b (sym ring.field) (sym ring.vars) k) r normal value)

-- ---- the change

pub change-is : (s : System) (f : Fraction) → change s f ≡ difference (residue_ops s.p) (product (residue_ops s.p) (at_moved_point s f.0) (past (group_count s) f.1)) (product (residue_ops s.p) (past (group_count s) f.0) (at_moved_point s f.1))
unfolding change
change-is s (n, d) = refl

-- the differences of the products that are made
abbrev pub made_change : System → Poly → Poly → Poly
made_change s n d = difference (residue_ops s.p) (product (residue_ops s.p) (at_moved_point s n) (past (group_count s) d)) (product (residue_ops s.p) (past (group_count s) n) (at_moved_point s d))

pub change-stored : (s : System) (f : Fraction) (n d r : Poly) → n ≡ f.0 → d ≡ f.1 → IsStoredIn s.p (change_count s) (made_change s n d) r → IsStoredIn s.p (change_count s) (change s f) r
change-stored s f n d r a b h = rw (change-is s f, ← a, ← b) h

-- the degrees that it meets
pub taken-numerator : (s : System) (f : Fraction) (n : Poly) → n ≡ f.0 → (fault : RingFault) → DegreesMeet (TakenMeets s.p (change_count s) s.action n) fault → DegreesMeet (ChangingMeets s f) fault
taken-numerator s f n a fault meets = meet-weaker (TakenMeets s.p (change_count s) s.action n) (ChangingMeets s f) (λ x y m. in_numerator (subst (λ (g : Poly). TakenMeets s.p (change_count s) s.action g x y) a m)) fault meets

pub taken-denominator : (s : System) (f : Fraction) (d : Poly) → d ≡ f.1 → (fault : RingFault) → DegreesMeet (TakenMeets s.p (change_count s) s.action d) fault → DegreesMeet (ChangingMeets s f) fault
taken-denominator s f d b fault meets = meet-weaker (TakenMeets s.p (change_count s) s.action d) (ChangingMeets s f) (λ x y m. in_denominator (subst (λ (g : Poly). TakenMeets s.p (change_count s) s.action g x y) b m)) fault meets

module _ (s : System) (f : Fraction) (n d : Poly) (a : n ≡ f.0) (b : d ≡ f.1) (fault : RingFault) where
  pub first-meets : DegreesMeet (MonomialsMeet (residue_ops s.p) (at_moved_point s n) (past (group_count s) d)) fault → DegreesMeet (ChangingMeets s f) fault
  first-meets meets = meet-weaker (MonomialsMeet (residue_ops s.p) (at_moved_point s n) (past (group_count s) d)) (ChangingMeets s f)
      (λ x y m. in_first (subst₂ (λ (g h : Poly). MonomialsMeet (residue_ops s.p) (at_moved_point s g) (past (group_count s) h) x y) a b m)) fault meets

  pub second-meets : DegreesMeet (MonomialsMeet (residue_ops s.p) (past (group_count s) n) (at_moved_point s d)) fault → DegreesMeet (ChangingMeets s f) fault
  second-meets meets = meet-weaker (MonomialsMeet (residue_ops s.p) (past (group_count s) n) (at_moved_point s d)) (ChangingMeets s f)
      (λ x y m. in_second (subst₂ (λ (g h : Poly). MonomialsMeet (residue_ops s.p) (past (group_count s) g) (at_moved_point s h) x y) a b m)) fault meets
