use Rattle.std.proofs.Common.{◌≡◌, ◌+◌, ◌++◌}
use Rattle.std.specs.List.{range_with_len}
use Rattle.rinv_identities.proofs.generators.places_around.Given as goal

abbrev pub invariant-group : goal.invariant-group
invariant-group l = l.places.items ≡ range_with_len 0 l.k

abbrev pub invariant-space : goal.invariant-space
invariant-space l = l.places.items ≡ range_with_len 0 l.sizes.group ++ range_with_len (l.sizes.group + l.sizes.space) l.k
