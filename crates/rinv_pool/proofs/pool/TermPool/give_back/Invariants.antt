use Rattle.std.proofs.Common.{◌≡◌, ◌+◌, length, Some}
use Rattle.rinv_pool.specs.Pools.{Changes, terms_of}
use Rattle.rinv_pool.proofs.pool.TermPool.give_back.Given as goal

-- the run has the terms that are left, and the slots of the others are free
abbrev pub invariant-terms : goal.invariant-terms
invariant-terms g l =
    (l.run ≡ l.initial.run)
    × Changes l.initial.self l.self l.run (Some (terms_of l.self l.run))
    × (l.self.live + length (terms_of l.initial.self l.run) ≡ l.initial.self.live + length (terms_of l.self l.run))
    × (l.self.spare + length (terms_of l.self l.run) ≡ l.initial.self.spare + length (terms_of l.initial.self l.run))
    × (l.self.size ≡ l.initial.self.size)

abbrev pub decreases-terms : goal.decreases-terms
decreases-terms g l = length (terms_of l.self l.run)
