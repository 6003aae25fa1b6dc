use Rattle.std.proofs.Common.{take}
use Rattle.rinv_parts.specs.Points.{AreStored}
use Rattle.rinv_reduction.specs.Localised.{all_count}
use Rattle.rinv_action.proofs.inputs.group_ideal.Given as goal

abbrev pub invariant-generators : goal.invariant-generators
invariant-generators l = AreStored l.system.system.p (all_count l.system.system) (take l.k l.system.system.ideal) l.ideal.items
