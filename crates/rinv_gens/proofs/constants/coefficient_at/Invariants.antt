use Rattle.rinv_gens.proofs.SearchedTerms.{IsPassed}
use Rattle.rinv_gens.proofs.constants.coefficient_at.Given as goal

abbrev pub invariant-terms : goal.invariant-terms
invariant-terms l = IsPassed l.mono l.f l.k
