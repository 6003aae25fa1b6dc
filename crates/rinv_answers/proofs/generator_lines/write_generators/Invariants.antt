use Rattle.std.proofs.Common.{◌≡◌, ◌++◌, take}
use Rattle.rinv_defs.specs.Text.{fraction_lines}
use Rattle.rinv_answers.proofs.generator_lines.write_generators.Given as goal

abbrev pub invariant-lines : goal.invariant-lines
invariant-lines l = l.out.items ≡ l.fn.out.items ++ fraction_lines l.system.system.p l.system.system.space 1 (take l.k l.fractions)
