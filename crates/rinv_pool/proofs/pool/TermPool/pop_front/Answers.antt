use Rattle.std.proofs.Common.{◌≡◌, ◌+◌, ◌-◌, ◌≤◌, ◌<◌, ◌^◌, ◌∷◌, [], refl, ◌∙◌, set, map, length, Some, arith}
use Rattle.rinv_pool.specs.Slots.{next_at, term_at}
use Rattle.rinv_pool.specs.Chains.{row_of}
use Rattle.rinv_pool.proofs.Adding.{holds-seen}
use Rattle.rinv_pool.proofs.Rows.{change-set, rows-number}
use Rattle.rinv_pool.proofs.Seen.{takes-seen, count-low, first-there, holds-shown, pool-taken, run-at, run-inside}
use Rattle.rinv_pool.proofs.pool.TermPool.pop_front.Goals as goal

pub next_of-next-requires : goal.next_of-next-requires
next_of-next-requires g c =
    let s = c.self.inside in
    let r = c.run.inside.number in
    let next = next_at s.slots.items in
    let term = term_at s.slots.items in
    let low = run-inside _ c.args.self.now r c.args.run.now next term s.runs.items c.self.view_is c.run.view_is refl c.requires.in_use in
    let run = run-at s.runs.items r c.index.result.now c.in-Some.chain low c.index.ensures c.in-Some.is in
    let there = first-there next term (length s.slots.items) s.free s.spare s.live s.runs.items r c.in-Some.chain c.self.invariant run c.if-chain-eq0.false in
    there.4

pub replace-term-requires : goal.replace-term-requires
replace-term-requires g c =
    let s = c.self.inside in
    let r = c.run.inside.number in
    let next = next_at s.slots.items in
    let term = term_at s.slots.items in
    let low = run-inside _ c.args.self.now r c.args.run.now next term s.runs.items c.self.view_is c.run.view_is refl c.requires.in_use in
    let run = run-at s.runs.items r c.index.result.now c.in-Some.chain low c.index.ensures c.in-Some.is in
    let there = first-there next term (length s.slots.items) s.free s.spare s.live s.runs.items r c.in-Some.chain c.self.invariant run c.if-chain-eq0.false in
    there.4

pub overflow_add-self : goal.overflow_add-self
overflow_add-self g c =
    let s = c.self.inside in
    let r = c.run.inside.number in
    let next = next_at s.slots.items in
    let term = term_at s.slots.items in
    let low = run-inside _ c.args.self.now r c.args.run.now next term s.runs.items c.self.view_is c.run.view_is refl c.requires.in_use in
    let run = run-at s.runs.items r c.index.result.now c.in-Some.chain low c.index.ensures c.in-Some.is in
    let there = first-there next term (length s.slots.items) s.free s.spare s.live s.runs.items r c.in-Some.chain c.self.invariant run c.if-chain-eq0.false in
    let some : 1 ≤ c.in-Some.chain.count = there.5 in
    let count = count-low next term (length s.slots.items) s.free s.spare s.live s.runs.items r c.in-Some.chain c.self.invariant run in
    record { fits = omega (arith, some, count, c.self.invariant.whole, c.self.invariant.few) }

pub overflow_sub-self : goal.overflow_sub-self
overflow_sub-self g c =
    let s = c.self.inside in
    let r = c.run.inside.number in
    let next = next_at s.slots.items in
    let term = term_at s.slots.items in
    let low = run-inside _ c.args.self.now r c.args.run.now next term s.runs.items c.self.view_is c.run.view_is refl c.requires.in_use in
    let run = run-at s.runs.items r c.index.result.now c.in-Some.chain low c.index.ensures c.in-Some.is in
    let there = first-there next term (length s.slots.items) s.free s.spare s.live s.runs.items r c.in-Some.chain c.self.invariant run c.if-chain-eq0.false in
    let some : 1 ≤ c.in-Some.chain.count = there.5 in
    let count = count-low next term (length s.slots.items) s.free s.spare s.live s.runs.items r c.in-Some.chain c.self.invariant run in
    omega (arith, some, count)

pub invariant_of-self : goal.invariant_of-self
invariant_of-self g c =
    let s = c.self.inside in
    let r = c.run.inside.number in
    let next = next_at s.slots.items in
    let term = term_at s.slots.items in
    let low = run-inside _ c.args.self.now r c.args.run.now next term s.runs.items c.self.view_is c.run.view_is refl c.requires.in_use in
    let run = run-at s.runs.items r c.index.result.now c.in-Some.chain low c.index.ensures c.in-Some.is in
    let there = first-there next term (length s.slots.items) s.free s.spare s.live s.runs.items r c.in-Some.chain c.self.invariant run c.if-chain-eq0.false in
    holds-shown _ _ _ _ _ _ _ _
    (pool-taken next (next_at c.replace-term.new.slots.items) term (term_at c.replace-term.new.slots.items) (length s.slots.items) (length c.replace-term.new.slots.items) s.free s.spare s.live
    s.runs.items r c.in-Some.chain (record { first = c.next_of-next.result; last = c.in-Some.chain.last; count = c.in-Some.chain.count - 1 }) there.0 there.1
    c.self.invariant c.replace-term.ensures.length low run there.2 there.5 c.replace-term.ensures.next_here c.replace-term.ensures.next_others
    c.replace-term.ensures.term_here c.replace-term.ensures.term_others c.next_of-next.ensures refl refl)

pub returns-clause-term : goal.returns-clause-term
returns-clause-term g c =
    let s = c.self.inside in
    let r = c.run.inside.number in
    let next = next_at s.slots.items in
    let term = term_at s.slots.items in
    let low = run-inside _ c.args.self.now r c.args.run.now next term s.runs.items c.self.view_is c.run.view_is refl c.requires.in_use in
    let run = run-at s.runs.items r c.index.result.now c.in-Some.chain low c.index.ensures c.in-Some.is in
    let there = first-there next term (length s.slots.items) s.free s.spare s.live s.runs.items r c.in-Some.chain c.self.invariant run c.if-chain-eq0.false in
    let some : 1 ≤ c.in-Some.chain.count = there.5 in
    let count = count-low next term (length s.slots.items) s.free s.spare s.live s.runs.items r c.in-Some.chain c.self.invariant run in
    takes-seen _ c.args.self.now _ r c.args.run.now s.runs.items _ _ (Some (record { first = c.next_of-next.result; last = c.in-Some.chain.last; count = c.in-Some.chain.count - 1 })) there.0 there.1 c.replace-term.result _ c.self.view_is c.run.view_is (c.replace-term.ensures.before ∙ there.3)
    (holds-seen _ _ _ _ _ _ _ _
    (pool-taken next (next_at c.replace-term.new.slots.items) term (term_at c.replace-term.new.slots.items) (length s.slots.items) (length c.replace-term.new.slots.items) s.free s.spare s.live
    s.runs.items r c.in-Some.chain (record { first = c.next_of-next.result; last = c.in-Some.chain.last; count = c.in-Some.chain.count - 1 }) there.0 there.1
    c.self.invariant c.replace-term.ensures.length low run there.2 there.5 c.replace-term.ensures.next_here c.replace-term.ensures.next_others
    c.replace-term.ensures.term_here c.replace-term.ensures.term_others c.next_of-next.ensures refl refl))
    there.2
    (change-set s.runs.items (map (row_of next term) s.runs.items) r _ _ (rows-number next term s.runs.items) low)
    (omega (arith, some, count)) refl c.replace-term.ensures.length
