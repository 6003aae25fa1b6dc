use Rattle.rinv_pool.proofs.Grown.{holds-none}
use Rattle.rinv_pool.proofs.pool.TermPool.with_slots.Goals as goal

pub invariant_of-pool : goal.invariant_of-pool
invariant_of-pool g c = rw (c.new.ensures.items, c.new-2.ensures.items) holds-none
