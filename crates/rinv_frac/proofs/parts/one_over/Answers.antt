use Rattle.rinv_algebra.specs.Residue.{residue_ops}
use Rattle.rinv_algebra.proofs.PolynomialLaws.{poly_laws}
use Rattle.rinv_algebra.proofs.ResidueLaws.{residue_laws}
use Rattle.rinv_frac.proofs.parts.one_over.Goals as goal

pub returns-clause-value : goal.returns-clause-value
returns-clause-value c =
    let p = c.args.ring.now.coeffs in
    record { numerator = c.in_ok-num.ensures.value; denominator = (poly_laws (residue_ops p) (residue_laws p)).same_refl c.args.den }
