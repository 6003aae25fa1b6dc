use Rattle.std.proofs.Common.{◌≡◌, ◌+◌, ◌∙◌, ap, sym, subst, map, length, List}
use Rattle.rinv_pool.specs.Pools.{Pool}
use Rattle.rinv_pool.specs.Slots.{next_at, term_at}
use Rattle.rinv_pool.specs.Chains.{Holds, row_of}
use Rattle.rinv_pool.proofs.Adding.{holds-seen}
use Rattle.rinv_pool.proofs.Seen.{holds-shown}
use Rattle.rinv_pool.proofs.pool.TermPool.reserve.Goals as goal

pub invariant_of-self-2 : goal.invariant_of-self-2
invariant_of-self-2 g c =
    let s = c.self.inside in
    let rows = map (row_of (next_at s.slots.items) (term_at s.slots.items)) s.runs.items in
    holds-shown _ _ _ _ _ _ _ _
    (c.add_slots.ensures.holds s.spare s.live s.runs.items rows
    (subst (λ (xs : List _). Holds (next_at xs) (term_at xs) (length xs) s.free s.spare s.live s.runs.items rows) (sym c.reserve.ensures.items) c.self.invariant))

pub returns-clause-rows : goal.returns-clause-rows
returns-clause-rows g c =
    let s = c.self.inside in
    let rows = map (row_of (next_at s.slots.items) (term_at s.slots.items)) s.runs.items in
    holds-seen _ _ _ _ _ _ _ _
    (c.add_slots.ensures.holds s.spare s.live s.runs.items rows
    (subst (λ (xs : List _). Holds (next_at xs) (term_at xs) (length xs) s.free s.spare s.live s.runs.items rows) (sym c.reserve.ensures.items) c.self.invariant))
    ∙ ap (λ (p : Pool _). p.rows) c.self.view_is
