use Rattle.rinv_parts.proofs.Stored.{stored-self}
use Rattle.rinv_parts.proofs.taken.difference_from.Goals as goal
use Rattle.rinv_algebra.specs.Residue.{residue_ops}
use Rattle.rinv_algebra.specs.Value.{substitute}

pub difference-requires-clause-a : goal.difference-requires-clause-a
difference-requires-clause-a c = (c.in_ok-value.ensures c.args.point.now (stored-self c.args.ring.now.coeffs c.args.ring.now.vars c.args.point.now c.requires.point.normal)).stored.normal

pub returns : goal.returns
returns c x g h k =
    let value = c.in_ok-value.ensures x h in
    record { stored = c.in_ok-part.ensures (substitute (residue_ops c.args.ring.now.coeffs) x c.args.f.now) g value.stored k; fits = value.fits }
