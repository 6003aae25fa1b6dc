use Rattle.std.proofs.Common.{◌≡◌, ◌+◌, ◌≤◌, ◌<◌, ◌^◌, ◌∷◌, ◌++◌, [], ap, refl, set, map, length, Some, arith}
use Rattle.rinv_pool.specs.Pools.{Pool, terms_of}
use Rattle.rinv_pool.specs.Slots.{next_at, term_at}
use Rattle.rinv_pool.specs.Chains.{row_of}
use Rattle.rinv_pool.proofs.Adding.{holds-seen}
use Rattle.rinv_pool.proofs.Rows.{change-set, rows-number}
use Rattle.rinv_pool.proofs.Seen.{changes-seen, count-low, holds-shown, link-inside, pool-added, run-at, run-inside, spare-inside}
use Rattle.rinv_pool.proofs.pool.TermPool.push.Goals as goal

pub append-requires-clause-after : goal.append-requires-clause-after
append-requires-clause-after g c =
    let s = c.self.inside in
    let next = next_at s.slots.items in
    let term = term_at s.slots.items in
    let low = run-inside _ c.args.self.now c.run.inside.number c.args.run.now next term s.runs.items c.self.view_is c.run.view_is refl c.requires.in_use in
    let run = run-at s.runs.items c.run.inside.number c.index.result.now c.in-Some.chain low c.index.ensures c.in-Some.is in
    let same : s.spare ≡ c.args.self.now.spare = ap (λ (p : Pool _). p.spare) c.self.view_is in
    link-inside next term (length s.slots.items) s.free s.spare s.live s.runs.items c.run.inside.number c.last_or.result c.in-Some.chain c.self.invariant run c.last_or.ensures
    (spare-inside next term (length s.slots.items) s.free s.spare s.live s.runs.items _ c.self.invariant (omega (arith, same, c.requires.room)))

pub overflow_add-chain : goal.overflow_add-chain
overflow_add-chain g c =
    let s = c.self.inside in
    let next = next_at s.slots.items in
    let term = term_at s.slots.items in
    let low = run-inside _ c.args.self.now c.run.inside.number c.args.run.now next term s.runs.items c.self.view_is c.run.view_is refl c.requires.in_use in
    let run = run-at s.runs.items c.run.inside.number c.index.result.now c.in-Some.chain low c.index.ensures c.in-Some.is in
    let same : s.spare ≡ c.args.self.now.spare = ap (λ (p : Pool _). p.spare) c.self.view_is in
    let count = count-low next term (length s.slots.items) s.free s.spare s.live s.runs.items c.run.inside.number c.in-Some.chain c.self.invariant run in
    record { fits = omega (arith, count, same, c.requires.room, c.self.invariant.whole, c.self.invariant.few) }

pub invariant_of-self : goal.invariant_of-self
invariant_of-self g c =
    let s = c.self.inside in
    let r = c.run.inside.number in
    let next = next_at s.slots.items in
    let term = term_at s.slots.items in
    let low = run-inside _ c.args.self.now r c.args.run.now next term s.runs.items c.self.view_is c.run.view_is refl c.requires.in_use in
    let run = run-at s.runs.items r c.index.result.now c.in-Some.chain low c.index.ensures c.in-Some.is in
    let same : s.spare ≡ c.args.self.now.spare = ap (λ (p : Pool _). p.spare) c.self.view_is in
    holds-shown _ _ _ _ _ _ _ _
    (pool-added next (next_at c.append.new.slots.items) term (term_at c.append.new.slots.items) (length s.slots.items) (length c.append.new.slots.items) s.free c.next_of-next.result s.spare s.live
    s.runs.items r c.last_or.result c.in-Some.chain (record { first = c.first_or-first.result; last = s.free; count = c.in-Some.chain.count + 1 }) c.args.term
    c.self.invariant c.append.ensures.length c.next_of-next.ensures low run c.last_or.ensures c.append.ensures.linked c.append.ensures.next_others
    c.append.ensures.term_here c.append.ensures.term_others c.first_or-first.ensures refl refl (omega (arith, same, c.requires.room)))

pub returns-clause-rows : goal.returns-clause-rows
returns-clause-rows g c =
    let s = c.self.inside in
    let r = c.run.inside.number in
    let next = next_at s.slots.items in
    let term = term_at s.slots.items in
    let low = run-inside _ c.args.self.now r c.args.run.now next term s.runs.items c.self.view_is c.run.view_is refl c.requires.in_use in
    let run = run-at s.runs.items r c.index.result.now c.in-Some.chain low c.index.ensures c.in-Some.is in
    let same : s.spare ≡ c.args.self.now.spare = ap (λ (p : Pool _). p.spare) c.self.view_is in
    changes-seen _ c.args.self.now _ r c.args.run.now s.runs.items _ _ (Some (record { first = c.first_or-first.result; last = s.free; count = c.in-Some.chain.count + 1 })) (λ p n. Some (terms_of p n ++ c.args.term ∷ [])) c.self.view_is c.run.view_is
    (holds-seen _ _ _ _ _ _ _ _
    (pool-added next (next_at c.append.new.slots.items) term (term_at c.append.new.slots.items) (length s.slots.items) (length c.append.new.slots.items) s.free c.next_of-next.result s.spare s.live
    s.runs.items r c.last_or.result c.in-Some.chain (record { first = c.first_or-first.result; last = s.free; count = c.in-Some.chain.count + 1 }) c.args.term
    c.self.invariant c.append.ensures.length c.next_of-next.ensures low run c.last_or.ensures c.append.ensures.linked c.append.ensures.next_others
    c.append.ensures.term_here c.append.ensures.term_others c.first_or-first.ensures refl refl (omega (arith, same, c.requires.room))))
    (change-set s.runs.items (map (row_of next term) s.runs.items) r _ _ (rows-number next term s.runs.items) low)
