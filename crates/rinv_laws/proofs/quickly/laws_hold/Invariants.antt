use Rattle.std.proofs.Common.{◌<◌}
use Rattle.rinv_defs.specs.Laws.{Law, LawHolds}
use Rattle.rinv_parts.specs.LawNames.{rank}
use Rattle.rinv_laws.proofs.quickly.laws_hold.Given as goal

abbrev pub invariant-laws : goal.invariant-laws
invariant-laws l = (law : Law) → rank law < l.k → LawHolds l.system.system law
