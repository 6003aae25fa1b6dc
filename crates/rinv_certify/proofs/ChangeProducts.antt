-- The products of a change and of its cofactors.
--   moved-value          a polynomial at the moved point
--   change-fits          they fit where each does
--   first-meets, second-meets, sums-meet, changes-meet    the degrees that they meet
--   zip-all              all pairs of two lists
use Rattle.std.proofs.Common.{◌≡◌, ℕ, suc, ◌<◌, Bool, true, List, [], ◌∷◌, length, get_or, zip, refl, sym, ◌∙◌, ap, ap₂, subst, subst₂, nat_lt, arith, inl, inr}
use Rattle.std.specs.Prelude.{Result, IfOk, IfErr, OnOk}
use Rattle.std.specs.Result.{MatchResult}
use Rattle.std.specs.List.{list_all}
use Rattle.rinv_algebra.specs.Ring.{IsSame}
use Rattle.rinv_algebra.specs.Residue.{residue_ops}
use Rattle.rinv_algebra.specs.Polynomial.{poly_ops, past}
use Rattle.rinv_algebra.specs.Normal.{IsNormal}
use Rattle.rinv_algebra.specs.Value.{substitute}
use Rattle.rinv_algebra.specs.Fits.{product_fits, substitution_fits, combination_fits}
use Rattle.rinv_algebra.proofs.Degrees.{product_fits-same}
use Rattle.rinv_algebra.proofs.PolynomialLaws.{poly_laws}
use Rattle.rinv_algebra.proofs.ResidueLaws.{residue_laws}
use Rattle.rinv_algebra.proofs.Same.{and_true}
use Rattle.rinv_groebner.specs.Division.{AreSame}
use Rattle.rinv_ring.specs.Fault.{DegreesMeet}
use Rattle.rinv_ring.specs.declared.fault.RingFault.{RingFault}
use Rattle.rinv_poly.specs.Faults.{MonomialsMeet}
use Rattle.rinv_poly.proofs.Meets.{meet-weaker}
use Rattle.rinv_sub.proofs.Refused.{has-same}
use Rattle.rinv_fits.specs.Sums.{SumsMeet}
use Rattle.rinv_defs.specs.System.{System, Poly, group_count}
use Rattle.rinv_defs.specs.Invariant.{Fraction, at_moved_point}
use Rattle.rinv_parts.specs.Points.{ArePolynomials, AreStored}
use Rattle.rinv_parts.specs.Substitutions.{IsValue, TakenMeets}
use Rattle.rinv_parts.proofs.Stored.{stored-self, stored-same}
use Rattle.rinv_parts.proofs.Values.{value-answer}
use Rattle.rinv_change.specs.Changes.{ChangingMeets, change_count, in_first, in_second}
use Rattle.rinv_change.specs.Cofactors.{ProvesInvariance}
use Rattle.rinv_acceptance.specs.Fits.{change_multiplies}
use Rattle.rinv_generators.specs.Generated.{Generated}
use Rattle.rinv_certify.specs.Meets.{ChangeMeets, ChangeProductsMeet, ChangesMeet}
use Rattle.rinv_certify.specs.Meets.ChangeMeets.{in_change, in_identity}

-- a polynomial at the moved point
pub moved-value : (s : System) (p v : ℕ) (point : List Poly) (f : Poly) (result : Result Poly RingFault) → p ≡ s.p → v ≡ change_count s → point ≡ s.action → ArePolynomials s.p (change_count s) s.action
    → IfOk result (λ r. IsNormal (residue_ops p) (λ c. nat_lt c p) v r) → IfOk result (λ r. IsSame (poly_ops (residue_ops p)) r (substitute (residue_ops p) point f))
    → OnOk result (substitution_fits (residue_ops p) point f ≡ true) → IfErr result (DegreesMeet (TakenMeets p v point f))
    → MatchResult result (IsValue s.p (change_count s) s.action f) (DegreesMeet (TakenMeets s.p (change_count s) s.action f))
moved-value s p v point f result a b c good normal value fits degree =
    value-answer s.p (change_count s) s.action s.action f result (stored-self s.p (change_count s) s.action good)
    (subst (λ (q : ℕ). IfOk result (λ r. IsNormal (residue_ops q) (λ c. nat_lt c q) (change_count s) r)) a (subst (λ (w : ℕ). IfOk result (λ r. IsNormal (residue_ops p) (λ c. nat_lt c p) w r)) b normal))
    (subst (λ (q : ℕ). IfOk result (λ r. IsSame (poly_ops (residue_ops q)) r (substitute (residue_ops q) s.action f))) a (subst (λ (x : List Poly). IfOk result (λ r. IsSame (poly_ops (residue_ops p)) r (substitute (residue_ops p) x f))) c value))
    (subst (λ (q : ℕ). OnOk result (substitution_fits (residue_ops q) s.action f ≡ true)) a (subst (λ (x : List Poly). OnOk result (substitution_fits (residue_ops p) x f ≡ true)) c fits))
    (subst (λ (q : ℕ). IfErr result (DegreesMeet (TakenMeets q (change_count s) s.action f))) a (subst (λ (w : ℕ). IfErr result (DegreesMeet (TakenMeets p w s.action f))) b (subst (λ (x : List Poly). IfErr result (DegreesMeet (TakenMeets p v x f))) c degree)))

-- sums of products depend on the values of the generators alone
pub sums-same : (p : ℕ) (us gs fs : List Poly) → AreSame (residue_ops p) gs fs → combination_fits (residue_ops p) us gs ≡ combination_fits (residue_ops p) us fs
unfolding combination_fits
sums-same p [] gs fs s = refl
sums-same p (u ∷ us) [] [] s = refl
sums-same p (u ∷ us) [] (f ∷ fs) s = absurd s
sums-same p (u ∷ us) (g ∷ gs) [] s = absurd s
sums-same p (u ∷ us) (g ∷ gs) (f ∷ fs) s =
    let rest = sums-same p us gs fs s.1 in
    rw (product_fits-same (residue_ops p) (residue_laws p) u u g f ((poly_laws (residue_ops p) (residue_laws p)).same_refl u) s.0, rest) refl

-- ---- one change

module _ (s : System) (q : ℕ) (field : q ≡ s.p) (n d moved_n moved_d kept_n kept_d : Poly) (is_n : IsValue s.p (change_count s) s.action n moved_n) (is_d : IsValue s.p (change_count s) s.action d moved_d) (at_n : kept_n ≡ past (group_count s) n) (at_d : kept_d ≡ past (group_count s) d) where
  first-fits : product_fits (residue_ops q) moved_n kept_d ≡ true → product_fits (residue_ops s.p) (at_moved_point s n) (past (group_count s) d) ≡ true
  first-fits fits =
      sym (product_fits-same (residue_ops s.p) (residue_laws s.p) moved_n (at_moved_point s n) (past (group_count s) d) (past (group_count s) d) is_n.stored.value ((poly_laws (residue_ops s.p) (residue_laws s.p)).same_refl (past (group_count s) d)))
      ∙ sym (ap₂ (λ (p : ℕ) (f : Poly). product_fits (residue_ops p) moved_n f) field at_d) ∙ fits

  second-fits : product_fits (residue_ops q) kept_n moved_d ≡ true → product_fits (residue_ops s.p) (past (group_count s) n) (at_moved_point s d) ≡ true
  second-fits fits =
      sym (product_fits-same (residue_ops s.p) (residue_laws s.p) (past (group_count s) n) (past (group_count s) n) moved_d (at_moved_point s d) ((poly_laws (residue_ops s.p) (residue_laws s.p)).same_refl (past (group_count s) n)) is_d.stored.value)
      ∙ sym (ap₂ (λ (p : ℕ) (f : Poly). product_fits (residue_ops p) f moved_d) field at_n) ∙ fits

  pub change-fits : (us ideal : List Poly) → AreStored s.p (change_count s) s.ideal ideal → product_fits (residue_ops q) moved_n kept_d ≡ true → product_fits (residue_ops q) kept_n moved_d ≡ true → combination_fits (residue_ops q) us ideal ≡ true → change_multiplies s ((n, d), us) ≡ true
  change-fits us ideal stored one two sums =
      let own : combination_fits (residue_ops s.p) us s.ideal ≡ true = sym (sums-same s.p us ideal s.ideal (stored-same s.p (change_count s) s.ideal ideal stored)) ∙ sym (ap (λ (p : ℕ). combination_fits (residue_ops p) us ideal) field) ∙ sums in
      rw (is_n.fits, first-fits one, is_d.fits, second-fits two, own) refl

-- the degrees of the two products
module _ (s : System) (q : ℕ) (field : q ≡ s.p) (f : Fraction) (n d : Poly) (at_f : n ≡ f.0) (at_g : d ≡ f.1) (moved kept : Poly) (fault : RingFault) where
  pub first-meets : IsValue s.p (change_count s) s.action n moved → kept ≡ past (group_count s) d → DegreesMeet (MonomialsMeet (residue_ops q) moved kept) fault → DegreesMeet (ChangingMeets s f) fault
  first-meets is at m = meet-weaker (MonomialsMeet (residue_ops q) moved kept) (ChangingMeets s f) (λ x y h.
      let here : MonomialsMeet (residue_ops s.p) moved (past (group_count s) f.1) x y = subst₂ (λ (p : ℕ) (g : Poly). MonomialsMeet (residue_ops p) moved g x y) field (at ∙ ap (past (group_count s)) at_g) h in
      in_first (subst (λ (g : Poly). MonomialsMeet (residue_ops s.p) (at_moved_point s g) (past (group_count s) f.1) x y) at_f
      (record { left = has-same (residue_ops s.p) (residue_laws s.p) moved (at_moved_point s n) x is.stored.value here.left; right = here.right; over = here.over }))) fault m

  pub second-meets : IsValue s.p (change_count s) s.action d moved → kept ≡ past (group_count s) n → DegreesMeet (MonomialsMeet (residue_ops q) kept moved) fault → DegreesMeet (ChangingMeets s f) fault
  second-meets is at m = meet-weaker (MonomialsMeet (residue_ops q) kept moved) (ChangingMeets s f) (λ x y h.
      let here : MonomialsMeet (residue_ops s.p) (past (group_count s) f.0) moved x y = subst₂ (λ (p : ℕ) (g : Poly). MonomialsMeet (residue_ops p) g moved x y) field (at ∙ ap (past (group_count s)) at_f) h in
      in_second (subst (λ (g : Poly). MonomialsMeet (residue_ops s.p) (past (group_count s) f.0) (at_moved_point s g) x y) at_g
      (record { left = here.left; right = has-same (residue_ops s.p) (residue_laws s.p) moved (at_moved_point s d) y is.stored.value here.right; over = here.over }))) fault m

-- ---- those of the generators

module _ (g : Generated) where
  -- the degrees of the change of a generator
  pub change-meets : (f : Fraction) (us ideal : List Poly) (x y : ℕ) → ProvesInvariance g.told.system g.group f us → AreStored g.told.system.p (change_count g.told.system) g.told.system.ideal ideal → ChangeProductsMeet g.told.system f us ideal x y → ChangeMeets g f x y
  change-meets f us ideal x y proves stored (inl h) = in_change h
  change-meets f us ideal x y proves stored (inr h) = in_identity us ideal proves (stored-same g.told.system.p (change_count g.told.system) g.told.system.ideal ideal stored) h

  pub changes-meet : (k : ℕ) (f : Fraction) (us ideal : List Poly) (fault : RingFault) → k < length g.fractions → f ≡ get_or g.fractions k f → ProvesInvariance g.told.system g.group f us → AreStored g.told.system.p (change_count g.told.system) g.told.system.ideal ideal
      → DegreesMeet (ChangeProductsMeet g.told.system f us ideal) fault → DegreesMeet (ChangesMeet g) fault
  changes-meet k f us ideal fault h at proves stored m = meet-weaker (ChangeProductsMeet g.told.system f us ideal) (ChangesMeet g) (λ x y e. (f, (k, h, sym at), change-meets f us ideal x y proves stored e)) fault m

-- those of its cofactors
pub sums-meet : (s : System) (f : Fraction) (us ideal : List Poly) (q v : ℕ) (fault : RingFault) → q ≡ s.p → v ≡ change_count s → DegreesMeet (SumsMeet q v us ideal) fault → DegreesMeet (ChangeProductsMeet s f us ideal) fault
sums-meet s f us ideal q v fault field vars m = meet-weaker (SumsMeet q v us ideal) (ChangeProductsMeet s f us ideal) (λ x y h. inr (subst₂ (λ (p w : ℕ). SumsMeet p w us ideal x y) field vars h)) fault m

-- those of the change
pub changing-meets : (s : System) (f : Fraction) (us ideal : List Poly) (fault : RingFault) → DegreesMeet (ChangingMeets s f) fault → DegreesMeet (ChangeProductsMeet s f us ideal) fault
changing-meets s f us ideal fault m = meet-weaker (ChangingMeets s f) (ChangeProductsMeet s f us ideal) (λ x y h. inl h) fault m

-- all pairs of two lists pass a test, place by place
pub zip-all : {A B : Type 0} (test : A × B → Bool) (xs : List A) (ys : List B) (d : A) (e : B) → ((j : ℕ) → j < length xs → test (get_or xs j d, get_or ys j e) ≡ true) → list_all test (zip xs ys) ≡ true
zip-all test [] ys d e h = refl
zip-all test (x ∷ xs) [] d e h = refl
zip-all test (x ∷ xs) (y ∷ ys) d e h = and_true _ _ (h 0 (omega arith)) (zip-all test xs ys d e (λ j l. h (suc j) (omega (arith, l))))
