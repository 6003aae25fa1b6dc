use Rattle.std.proofs.Common.{◌≡◌, take}
use Rattle.rinv_acceptance.specs.Inputs.{unit_row}
use Rattle.rinv_certify.proofs.inputs.row.Given as goal

abbrev pub invariant-places : goal.invariant-places
invariant-places l = l.list.items ≡ take l.k (unit_row l.system.system l.count l.place)
