use Rattle.std.proofs.Common.{◌≡◌, take, map, string_bytes}
use Rattle.rinv_form.proofs.names.names_of.Given as goal

abbrev pub invariant-loop-name : goal.invariant-loop-name
invariant-loop-name l = map string_bytes l.words.items ≡ take l.name-index l.names
