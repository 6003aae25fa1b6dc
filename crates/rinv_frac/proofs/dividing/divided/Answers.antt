use Rattle.std.proofs.Common.{◌≡◌, false, subst, sym}
use Rattle.rinv_algebra.specs.Residue.{residue_ops}
use Rattle.rinv_algebra.specs.Polynomial.{is_zero}
use Rattle.rinv_algebra.specs.Fraction.{Fraction}
use Rattle.rinv_algebra.proofs.ResidueField.{residue_field_laws}
use Rattle.rinv_algebra.proofs.ResidueLaws.{residue_laws}
use Rattle.rinv_frac.proofs.DividedParts.{quotient-nonzero, whole-divided, reciprocal-divided, not-divided}
use Rattle.rinv_frac.proofs.Stored.{stored}
use Rattle.rinv_frac.proofs.dividing.divided.Goals as goal

pub returns-in-Some-clause-divided : goal.returns-in-Some-clause-divided
returns-in-Some-clause-divided c =
    let p = c.args.ring.now.coeffs in
    whole-divided (residue_ops p) (residue_laws p) c.f.view_is c.in-Some.whole c.in_ok-divided.divided (rw c.in-Some.is at c.in_ok-whole.ensures.value) c.in_ok-divided.ensures.value

pub one_over-requires-clause-nonzero : goal.one_over-requires-clause-nonzero
one_over-requires-clause-nonzero c =
    let p = c.args.ring.now.coeffs in
    let n = (stored p c.args.ring.now.vars c.args.f c.requires.fraction).nonzero in
    quotient-nonzero (residue_ops p) (residue_laws p) (residue_field_laws p) c.f.inside.den c.in-Some-2.whole c.f.inside.num (subst (λ (x : Fraction _). is_zero (residue_ops p) x.1 ≡ false) (sym c.f.view_is) n) (rw c.in-Some-2.is at c.in_ok-whole-2.ensures.value)

pub returns-in_ok-divided-in-Some-2-clause-divided : goal.returns-in_ok-divided-in-Some-2-clause-divided
returns-in_ok-divided-in-Some-2-clause-divided c =
    let p = c.args.ring.now.coeffs in
    reciprocal-divided (residue_ops p) (residue_laws p) c.f.view_is c.in-Some-2.whole c.in_ok-divided-in-Some-2.divided (rw c.in_default.is at c.in_ok-whole.ensures.none) (rw c.in-Some-2.is at c.in_ok-whole-2.ensures.value) c.in_ok-divided-in-Some-2.ensures.value

pub returns-in-None-clause-divided : goal.returns-in-None-clause-divided
returns-in-None-clause-divided c =
    let p = c.args.ring.now.coeffs in
    not-divided (residue_ops p) (residue_laws p) c.f.view_is (rw c.in_default.is at c.in_ok-whole.ensures.none) (rw c.in-None.is at c.in_ok-whole-2.ensures.none)
