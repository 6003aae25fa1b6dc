use Rattle.rinv_algebra.specs.Residue.{residue_ops}
use Rattle.rinv_algebra.proofs.ResidueLaws.{residue_laws}
use Rattle.rinv_change.proofs.WideLists.{wide-nonzero}
use Rattle.rinv_change.proofs.kept.chosen_basis.Goals as goal

pub divisors_of-requires-clause-nonzero : goal.divisors_of-requires-clause-nonzero
divisors_of-requires-clause-nonzero c =
    let p = c.args.ring.now.coeffs in
    rw c.deref.ensures.value
    (wide-nonzero (residue_ops p) (residue_laws p) c.in_ok-elements.elements.items c.args.polys.now c.args.places.now c.in_ok-elements.ensures.value
    (rw c.requires.field at c.requires.nonzero) c.requires.places)

pub returns-clause-divisors : goal.returns-clause-divisors
returns-clause-divisors c = rw c.deref.ensures.value at c.in_ok-divisors.ensures
