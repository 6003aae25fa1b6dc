use Rattle.rinv_cofactors.proofs.Cofactors.{unit-same}
use Rattle.rinv_cofactors.proofs.units.unit_list.Goals as goal

pub returns-clause-unit : goal.returns-clause-unit
returns-clause-unit g c = unit-same (g.F.Ring.ops c.args.ring.now.coeffs) c.in_ok-list.list.items c.args.count c.args.place c.in_ok-list-2.field-0 c.in_ok-list.ensures.length c.in_ok-list.ensures.zero c.in_ok-list-2.ensures.value
