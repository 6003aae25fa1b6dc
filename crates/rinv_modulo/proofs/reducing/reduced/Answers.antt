use Rattle.rinv_algebra.specs.Residue.{residue_ops}
use Rattle.rinv_algebra.specs.Order.{grevlex}
use Rattle.rinv_algebra.proofs.ResidueLaws.{residue_laws}
use Rattle.rinv_modulo.proofs.Congruences.{congruent-rest}
use Rattle.rinv_modulo.proofs.reducing.reduced.Goals as goal

pub returns : goal.returns
returns c =
    let p = c.args.ring.now.coeffs in
    let d = c.in_ok-rest.ensures.division in
    record { normal = c.in_ok-rest.ensures.rest; congruent = congruent-rest (residue_ops p) (residue_laws p) c.args.basis.now grevlex c.args.f.now c.in_ok-rest.rest d.0 d.1 }
