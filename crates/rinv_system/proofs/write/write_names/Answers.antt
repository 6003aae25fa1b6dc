use Rattle.std.proofs.Common.{◌∙◌, arith, refl}
use Rattle.rinv_system.proofs.WrittenLists.{list-step}
use Rattle.rinv_system.proofs.write.write_names.Goals as goal

pub names-preserved : goal.names-preserved
names-preserved c =
    list-step c.args.out.now.items _ _ _ c.args.names.now c.names.k _ _ (omega (arith, c.names-test.true, c.names.auto, c.len-k-end.ensures.len)) refl (c.as_bytes.ensures.value ∙ c.name.ensures) c.names.invariant c.in_ok-separate.ensures c.in_ok-extend_from_slice.ensures.items
