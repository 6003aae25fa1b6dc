use Rattle.std.proofs.Common.{subst}
use Rattle.rinv_algebra.specs.Residue.{residue_ops}
use Rattle.rinv_algebra.specs.Fraction.{Fraction}
use Rattle.rinv_algebra.proofs.ResidueField.{residue_field_laws}
use Rattle.rinv_algebra.proofs.ResidueLaws.{residue_laws}
use Rattle.rinv_frac.specs.Cancelling.{InvertsLead}
use Rattle.rinv_frac.proofs.ScaledParts.{scaled-by_one, scaled-nonzero}
use Rattle.rinv_frac.proofs.Stored.{stored, stored-from}
use Rattle.rinv_frac.proofs.scaling.scaled.Goals as goal

pub returns-then-factor-eq1-clause-scaled : goal.returns-then-factor-eq1-clause-scaled
returns-then-factor-eq1-clause-scaled c =
    let p = c.args.ring.now.coeffs in
    scaled-by_one (residue_ops p) (residue_laws p) (residue_field_laws p) c.args.f c.in_ok-factor.factor c.if-factor-eq1.true (subst (λ (x : Fraction _). InvertsLead (residue_ops p) x.1 c.in_ok-factor.factor) c.f.view_is c.in_ok-factor.ensures.inverse)

pub returns-clause-element : goal.returns-clause-element
returns-clause-element c =
    let p = c.args.ring.now.coeffs in
    let v = c.args.ring.now.vars in
    stored-from p v (c.in_ok-num.num, c.in_ok-den.den) c.in_ok-num.ensures.element c.in_ok-den.ensures.element
    (scaled-nonzero (residue_ops p) (residue_laws p) (residue_field_laws p) c.f.view_is c.in_ok-factor.factor (stored p v c.args.f c.requires).nonzero c.in_ok-factor.ensures.inverse c.in_ok-den.den c.in_ok-den.ensures.value)
