use Rattle.std.proofs.Common.{◌*◌, ℕ, ap}
use Rattle.rinv_check.proofs.StoredSystems.{group-names, space-names, ideal-normal, product-normal, inverse-normal, action-normal}
use Rattle.rinv_check.proofs.named_system.named_system.Goals as goal

pub names_of-requires-clause-form : goal.names_of-requires-clause-form
names_of-requires-clause-form c = rw c.as_slice.ensures (group-names c.args.stored.now c.requires)

pub names_of-requires-2-clause-form : goal.names_of-requires-2-clause-form
names_of-requires-2-clause-form c = rw c.as_slice-2.ensures (space-names c.args.stored.now c.requires)

pub copied-requires : goal.copied-requires
copied-requires c = rw c.as_slice-3.ensures (ideal-normal c.args.stored.now c.requires _ _ c.sizes_in-z.ensures.field c.sizes_in-z.ensures.group)

pub copied-requires-2 : goal.copied-requires-2
copied-requires-2 c = rw c.as_slice-5.ensures (product-normal c.args.stored.now c.requires _ _ c.sizes_in-z.ensures.field (ap (λ (n : ℕ). 2 * n) c.sizes_in-z.ensures.group))

pub copied-requires-3 : goal.copied-requires-3
copied-requires-3 c = rw c.as_slice-6.ensures (inverse-normal c.args.stored.now c.requires _ _ c.sizes_in-z.ensures.field c.sizes_in-z.ensures.group)

pub copied-requires-4 : goal.copied-requires-4
copied-requires-4 c = rw c.as_slice-7.ensures (action-normal c.args.stored.now c.requires _ _ c.sizes_in-z.ensures.field c.sizes_in-z.ensures.whole)
