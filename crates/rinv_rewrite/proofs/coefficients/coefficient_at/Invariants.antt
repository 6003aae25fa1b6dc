use Rattle.rinv_rewrite.proofs.SearchedCoefficients.{IsPassed}
use Rattle.rinv_rewrite.proofs.coefficients.coefficient_at.Given as goal

abbrev pub invariant-terms : goal.invariant-terms
invariant-terms l = IsPassed l.mono l.f l.k
