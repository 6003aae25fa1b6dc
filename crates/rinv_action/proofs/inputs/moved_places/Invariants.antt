use Rattle.std.proofs.Common.{◌≡◌, ◌+◌, ◌++◌}
use Rattle.std.specs.List.{range_with_len}
use Rattle.rinv_action.proofs.inputs.moved_places.Given as goal

abbrev pub invariant-first : goal.invariant-first
invariant-first l = l.places.items ≡ range_with_len 0 l.k

abbrev pub invariant-second : goal.invariant-second
invariant-second l = l.places.items ≡ range_with_len 0 l.group ++ range_with_len (l.group + l.space) l.k
