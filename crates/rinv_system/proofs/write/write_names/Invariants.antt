use Rattle.std.proofs.Common.{◌≡◌, ◌++◌, take}
use Rattle.rinv_system.specs.Written.{list_text}
use Rattle.rinv_system.proofs.write.write_names.Given as goal

abbrev pub invariant-names : goal.invariant-names
invariant-names l = l.out.items ≡ l.initial.out.items ++ list_text (take l.k l.names)
