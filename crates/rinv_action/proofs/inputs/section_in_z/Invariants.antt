use Rattle.std.proofs.Common.{map, take}
use Rattle.rinv_algebra.specs.Polynomial.{past}
use Rattle.rinv_defs.specs.System.{group_count}
use Rattle.rinv_parts.specs.Points.{AreStored}
use Rattle.rinv_reduction.specs.Localised.{all_count}
use Rattle.rinv_action.proofs.inputs.section_in_z.Given as goal

abbrev pub invariant-polynomials : goal.invariant-polynomials
invariant-polynomials l = AreStored l.system.system.p (all_count l.system.system) (map (past (group_count l.system.system)) (take l.k l.system.system.section)) l.section.items
