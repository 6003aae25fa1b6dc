use Rattle.std.proofs.Common.{◌≡◌, ◌++◌, map, take, decimal}
use Rattle.rinv_system.specs.Written.{list_text}
use Rattle.rinv_system.proofs.write.write_numbers.Given as goal

abbrev pub invariant-numbers : goal.invariant-numbers
invariant-numbers l = l.out.items ≡ l.initial.out.items ++ list_text (take l.k (map decimal l.numbers))
