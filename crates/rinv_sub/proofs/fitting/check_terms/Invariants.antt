use Rattle.std.specs.Prelude.{⊤}
use Rattle.rinv_sub.proofs.fitting.check_terms.Given as goal

abbrev pub invariant-terms : goal.invariant-terms
invariant-terms g l = ⊤
