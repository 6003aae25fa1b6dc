use Rattle.std.proofs.Common.{not}
use Rattle.rinv_defs.specs.Laws.{all_laws}
use Rattle.rinv_defs.specs.Conditions.{law_is_shown}
use Rattle.rinv_cert.specs.Seen.{plain}
use Rattle.rinv_identities.proofs.Walks.{Walks}
use Rattle.rinv_check.proofs.laws.law_failure.Given as goal

abbrev pub invariant-laws : goal.invariant-laws
invariant-laws l = Walks (λ law. not (law_is_shown (plain l.stored) law)) all_laws l.k
