use Rattle.std.proofs.Common.{◌+◌, [], arith}
use Rattle.std.specs.List.{range_with_len}
use Rattle.rinv_identities.proofs.GrowingLists.{places-behind}
use Rattle.rinv_identities.proofs.generators.places_around.Goals as goal

pub group-preserved : goal.group-preserved
group-preserved c = places-behind [] c.group.places.items _ 0 c.group.k _ c.in_ok-push.ensures.items c.group.invariant (omega arith)

pub space-preserved : goal.space-preserved
space-preserved c = places-behind (range_with_len 0 c.args.sizes.now.group) c.space.places.items _ (c.args.sizes.now.group + c.args.sizes.now.space) c.space.k _ c.in_ok-push-2.ensures.items c.space.invariant (omega (arith, c.requires))
