use Rattle.std.proofs.Common.{map}
use Rattle.rinv_laws.proofs.LawsInTurn.{TestedUpTo}
use Rattle.rinv_laws.proofs.testing.test_laws.Given as goal

abbrev pub invariant-laws : goal.invariant-laws
invariant-laws l = TestedUpTo l.system.system l.group.basis l.k (map (λ parts. map (λ qs. qs.items) parts.items) l.lists.items)
