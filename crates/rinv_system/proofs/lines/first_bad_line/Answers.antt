use Rattle.std.proofs.Common.{arith, sym, ◌∙◌}
use Rattle.std.proofs.lemmas.Bool.Decides.{nat_tests}
use Rattle.rinv_system.proofs.LineFacts.{HasPassed-end}
use Rattle.rinv_system.proofs.lines.first_bad_line.Goals as goal

pub returns : goal.returns
returns c = let empty = sym c.is_empty.ensures ∙ c.loop-rest-test.false in HasPassed-end _ _ _ (grind (arith, nat_tests, empty)) c.loop-rest.invariant.0
