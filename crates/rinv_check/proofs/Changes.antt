-- The change of a fraction, product by product.
--   change-same                     from the four products to the change
--   fits-moved, fits-left, ..       which of the products does not fit
--   meets-numerator, ..              over numbers modulo a prime Degree comes only where something does not fit
--   shown-same, position_from-agree    the condition depends on the coefficients of the ideal alone
use Rattle.std.proofs.Common.{◌≡◌, ℕ, Bool, true, false, ◌&&◌, List, [], ◌∷◌, ◌++◌, refl, sym, ap, ◌∙◌}
use Rattle.std.specs.Prelude.{zip, not, All, IsTrue}
use Rattle.std.specs.List.{AllZip, position_from, list_all}
use Rattle.std.proofs.lemmas.List.Elements.{All-nil, All-cons}
use Rattle.rinv_algebra.proofs.Same.{both}
use Rattle.std.specs.Prelude.{nat_lt}
use Rattle.rinv_form.specs.Forms.{is_stored, are_stored, is_stored_fraction}
use Rattle.std.proofs.lemmas.List.{length-replicate}
use Rattle.rinv_algebra.specs.Ring.{IsSame}
use Rattle.rinv_algebra.specs.Residue.{residue_ops}
use Rattle.rinv_algebra.specs.Polynomial.{poly_ops, product, same, opposite, past}
use Rattle.rinv_algebra.specs.Value.{substitute}
use Rattle.rinv_algebra.specs.Fits.{product_fits, substitution_fits, multiplies_out}
use Rattle.rinv_algebra.proofs.PolynomialLaws.{poly_laws}
use Rattle.rinv_algebra.proofs.ResidueLaws.{residue_laws}
use Rattle.rinv_algebra.proofs.RingFacts as facts
use Rattle.rinv_algebra.proofs.Products.{and_false}
use Rattle.rinv_algebra.proofs.Degrees.{product_fits-same}
use Rattle.rinv_ring.specs.Fault.{DegreesMeet}
use Rattle.rinv_ring.specs.declared.fault.RingFault.{RingFault}
use Rattle.rinv_ring.specs.declared.fault.RingFault.TheVariants.{Degree, NoMemory}
use Rattle.rinv_defs.specs.System.{System, Poly, group_count}
use Rattle.rinv_defs.specs.Invariant.{Fraction, change}
use Rattle.rinv_defs.specs.Conditions.{invariance_is_shown}
use Rattle.rinv_poly.proofs.Meets.{meet-weaker}
use Rattle.rinv_sub.specs.Refusal.{SubstitutionMeets, never}
use Rattle.rinv_sub.proofs.Misfits.{residues-misfit}
use Rattle.rinv_identities.proofs.GraphValues.{multiplies_out-same}
use Rattle.rinv_identities.proofs.Walks.{position_from-agree}
use Rattle.rinv_check.specs.Setting.{setting, change_fits}
use Rattle.rinv_check.proofs.ShownParts.{each-itself}

-- ---- the products of a change

module _ (p l : ℕ) (action : List Poly) (n d moved_n moved_d : Poly)
    (n_is : IsSame (poly_ops (residue_ops p)) moved_n (substitute (residue_ops p) action n))
    (d_is : IsSame (poly_ops (residue_ops p)) moved_d (substitute (residue_ops p) action d)) where
  -- from the two products to the change
  pub change-same : (left right r : Poly) → IsSame (poly_ops (residue_ops p)) left (product (residue_ops p) moved_n (past l d)) → IsSame (poly_ops (residue_ops p)) right (product (residue_ops p) (past l n) moved_d)
      → IsSame (poly_ops (residue_ops p)) r (left ++ opposite (residue_ops p) right) → IsSame (poly_ops (residue_ops p)) r (change (setting p l action []) (n, d))
  unfolding change
  change-same left right r a b e =
      let laws = poly_laws (residue_ops p) (residue_laws p) in
      let ops = poly_ops (residue_ops p) in
      let a' = facts.then ops laws a (laws.mul_same moved_n (substitute (residue_ops p) action n) (past l d) (past l d) n_is (laws.same_refl (past l d))) in
      let b' = facts.then ops laws b (laws.mul_same (past l n) (past l n) moved_d (substitute (residue_ops p) action d) (laws.same_refl (past l n)) d_is) in
      let here = laws.add_same left (product (residue_ops p) (substitute (residue_ops p) action n) (past l d)) (opposite (residue_ops p) right) (opposite (residue_ops p) (product (residue_ops p) (past l n) (substitute (residue_ops p) action d))) a' (laws.neg_same right (product (residue_ops p) (past l n) (substitute (residue_ops p) action d)) b') in
      facts.then ops laws e (facts.then ops laws here (facts.of_same ops laws (ap (λ (k : ℕ). product (residue_ops p) (substitute (residue_ops p) action n) (past k d) ++ opposite (residue_ops p) (product (residue_ops p) (past k n) (substitute (residue_ops p) action d))) (sym (length-replicate l [])))))

  left-same : product_fits (residue_ops p) moved_n (past l d) ≡ product_fits (residue_ops p) (substitute (residue_ops p) action n) (past l d)
  left-same = let laws = poly_laws (residue_ops p) (residue_laws p) in product_fits-same (residue_ops p) (residue_laws p) moved_n (substitute (residue_ops p) action n) (past l d) (past l d) n_is (laws.same_refl (past l d))

  right-same : product_fits (residue_ops p) (past l n) moved_d ≡ product_fits (residue_ops p) (past l n) (substitute (residue_ops p) action d)
  right-same = let laws = poly_laws (residue_ops p) (residue_laws p) in product_fits-same (residue_ops p) (residue_laws p) (past l n) (past l n) moved_d (substitute (residue_ops p) action d) (laws.same_refl (past l n)) d_is

  -- the products fit where each does
  pub fits-all : substitution_fits (residue_ops p) action n ≡ true → product_fits (residue_ops p) moved_n (past l d) ≡ true → substitution_fits (residue_ops p) action d ≡ true → product_fits (residue_ops p) (past l n) moved_d ≡ true → change_fits p l action n d ≡ true
  fits-all a b c e = rw (a, sym left-same ∙ b, c, sym right-same ∙ e) refl

  -- a product that does not fit
  pub fits-left : product_fits (residue_ops p) moved_n (past l d) ≡ false → change_fits p l action n d ≡ false
  fits-left b = rw (sym left-same ∙ b, and_false (substitution_fits (residue_ops p) action n)) refl

  pub fits-right : product_fits (residue_ops p) (past l n) moved_d ≡ false → change_fits p l action n d ≡ false
  fits-right e = rw (sym right-same ∙ e) (and_false _)

pub fits-numerator : (p l : ℕ) (action : List Poly) (n d : Poly) → substitution_fits (residue_ops p) action n ≡ false → change_fits p l action n d ≡ false
fits-numerator p l action n d a = rw a refl

pub fits-denominator : (p l : ℕ) (action : List Poly) (n d : Poly) → substitution_fits (residue_ops p) action d ≡ false → change_fits p l action n d ≡ false
fits-denominator p l action n d c = rw (c, and_false (substitution_fits (residue_ops p) action n && product_fits (residue_ops p) (substitute (residue_ops p) action n) (past l d))) refl

-- ---- the condition, part by part

module _ (p l : ℕ) (action ideal : List Poly) (n d : Poly) (us : List Poly) where
  -- the condition is that the products fit and the identity multiplies out
  shown-is : invariance_is_shown (setting p l action ideal) (n, d) us ≡ (change_fits p l action n d && multiplies_out (residue_ops p) (change (setting p l action []) (n, d)) us ideal)
  unfolding invariance_is_shown change
  shown-is = rw (length-replicate {A = List ℕ} l []) refl

  pub shown-unfit : change_fits p l action n d ≡ false → invariance_is_shown (setting p l action ideal) (n, d) us ≡ false
  shown-unfit a = shown-is ∙ rw a refl

  pub shown-same : (c : Poly) → change_fits p l action n d ≡ true → IsSame (poly_ops (residue_ops p)) c (change (setting p l action []) (n, d))
      → multiplies_out (residue_ops p) c us ideal ≡ invariance_is_shown (setting p l action ideal) (n, d) us
  shown-same c fits is =
      multiplies_out-same p c (change (setting p l action []) (n, d)) us ideal ideal is (each-itself p ideal)
      ∙ sym (shown-is ∙ ap (λ (b : Bool). b && multiplies_out (residue_ops p) (change (setting p l action []) (n, d)) us ideal) fits)

-- ---- ideals that are the same, place by place

-- the condition depends on the coefficients of the ideal alone
pub shown-ideal : (p l : ℕ) (action gs fs : List Poly) → AllZip (IsSame (poly_ops (residue_ops p))) gs fs → (x : Fraction × List Poly) → invariance_is_shown (setting p l action gs) x.0 x.1 ≡ invariance_is_shown (setting p l action fs) x.0 x.1
shown-ideal p l action gs fs s ((n, d), us) = shown-is p l action gs n d us ∙ ap (λ (b : Bool). change_fits p l action n d && b) (multiplies_out-same p (change (setting p l action []) (n, d)) (change (setting p l action []) (n, d)) us gs fs ((poly_laws (residue_ops p) (residue_laws p)).same_refl (change (setting p l action []) (n, d))) s) ∙ sym (shown-is p l action fs n d us)

-- what is asked of a system is what is asked of these parts of it
pub shown-setting : (s : System) (x : Fraction × List Poly) → invariance_is_shown (setting s.p (group_count s) s.action s.ideal) x.0 x.1 ≡ invariance_is_shown s x.0 x.1
unfolding invariance_is_shown change
shown-setting s ((n, d), us) = rw (length-replicate {A = List ℕ} (group_count s) []) refl

-- a fact that holds whichever degrees meet
pub meets-so : {A B : Type 0} → (A → B) → (e : RingFault) → DegreesMeet (λ _ _. A) e → DegreesMeet (λ _ _. B) e
meets-so f (Degree x y) a = f a
meets-so f NoMemory a = tt

-- ---- over numbers modulo a prime Degree comes only where something does not fit

module _ (p v l : ℕ) (action : List Poly) (n d : Poly) where
  -- in the substitutions, whatever number w of variables the fraction has
  pub meets-numerator : (w : ℕ) → IsTrue (is_stored p w n) → (e : RingFault) → DegreesMeet (SubstitutionMeets (residue_ops p) (λ c. nat_lt c p) never v action n) e → DegreesMeet (λ _ _. change_fits p l action n d ≡ false) e
  meets-numerator w stored e m =
      meet-weaker (SubstitutionMeets (residue_ops p) (λ c. nat_lt c p) never v action n) (λ _ _. change_fits p l action n d ≡ false)
      (λ x y h. fits-numerator p l action n d (residues-misfit p v action n w stored x y h).1) e m

  pub meets-denominator : (w : ℕ) → IsTrue (is_stored p w d) → (e : RingFault) → DegreesMeet (SubstitutionMeets (residue_ops p) (λ c. nat_lt c p) never v action d) e → DegreesMeet (λ _ _. change_fits p l action n d ≡ false) e
  meets-denominator w stored e m =
      meet-weaker (SubstitutionMeets (residue_ops p) (λ c. nat_lt c p) never v action d) (λ _ _. change_fits p l action n d ≡ false)
      (λ x y h. fits-denominator p l action n d (residues-misfit p v action d w stored x y h).1) e m

-- ---- lists

-- a test that holds of all holds of each
all-from_test : {X : Type 0} (test : X → Bool) (xs : List X) → IsTrue (list_all test xs) → All (λ x. IsTrue (test x)) xs
all-from_test test [] h = All-nil (λ x. IsTrue (test x))
all-from_test test (x ∷ xs) h = let t = both (test x) (list_all test xs) h in All-cons (λ x. IsTrue (test x)) x xs t.0 (all-from_test test xs t.1)

-- lists of cofactors have their form, whatever names its numbers go by
pub cofactors-all : (p v n q w m : ℕ) (uss vss : List (List Poly)) → q ≡ p → w ≡ v → m ≡ n → vss ≡ uss → IsTrue (list_all (are_stored p v n) uss) → All (λ us. IsTrue (are_stored q w m us)) vss
cofactors-all p v n q w m uss vss a b c e h = rw (a, b, c, e) (all-from_test (are_stored p v n) uss h)

-- the same of fractions
pub fractions-all : (p v q w : ℕ) (fs gs : List Fraction) → q ≡ p → w ≡ v → gs ≡ fs → IsTrue (list_all (is_stored_fraction p v) fs) → All (λ f. IsTrue (is_stored_fraction q w f)) gs
fractions-all p v q w fs gs a b e h = rw (a, b, e) (all-from_test (is_stored_fraction p v) fs h)

-- the first failure is the system's
pub failure-of_system : (s : System) (q m : ℕ) (action gs : List Poly) (fractions fs : List Fraction) (uss vss : List (List Poly))
    → q ≡ s.p → m ≡ group_count s → action ≡ s.action → fs ≡ fractions → vss ≡ uss → AllZip (IsSame (poly_ops (residue_ops s.p))) gs s.ideal
    → position_from (λ x. not (invariance_is_shown (setting q m action gs) x.0 x.1)) 1 (zip fs vss) ≡ position_from (λ x. not (invariance_is_shown s x.0 x.1)) 1 (zip fractions uss)
failure-of_system s q m action gs fractions fs uss vss a b c d e same =
    rw (a, b, c, d, e)
    (position_from-agree (λ x. not (invariance_is_shown (setting s.p (group_count s) s.action gs) x.0 x.1)) (λ x. not (invariance_is_shown s x.0 x.1))
    (λ x. ap not (shown-ideal s.p (group_count s) s.action gs s.ideal same x ∙ shown-setting s x)) 1 (zip fractions uss))
