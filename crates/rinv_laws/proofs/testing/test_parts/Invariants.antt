use Rattle.std.proofs.Common.{map}
use Rattle.rinv_parts.specs.LawNames.{law_of}
use Rattle.rinv_laws.proofs.TestedLaws.{Tested}
use Rattle.rinv_laws.proofs.testing.test_parts.Given as goal

abbrev pub invariant-parts : goal.invariant-parts
invariant-parts l = Tested l.system.system l.group.basis (law_of l.own.law) l.place (map (λ qs. qs.items) l.lists.items)
