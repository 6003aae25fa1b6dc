use Rattle.std.proofs.Common.{ap, refl, map, length, None, is_some}
use Rattle.rinv_pool.specs.Slots.{next_at, term_at}
use Rattle.rinv_pool.specs.Chains.{row_of}
use Rattle.rinv_pool.proofs.Adding.{holds-seen}
use Rattle.rinv_pool.proofs.Rows.{change-set, rows-number}
use Rattle.rinv_pool.proofs.Seen.{changes-seen, holds-shown, run-inside}
use Rattle.rinv_pool.proofs.Written.{holds-forgotten, row-moved}
use Rattle.rinv_pool.proofs.pool.TermPool.forget.Goals as goal

pub invariant_of-self : goal.invariant_of-self
invariant_of-self g c =
    let s = c.self.inside in
    let r = c.run.inside.number in
    let next = next_at s.slots.items in
    let term = term_at s.slots.items in
    let low = run-inside _ c.args.self.now r c.args.run next term s.runs.items c.self.view_is c.run.view_is refl (ap is_some c.requires) in
    holds-shown _ _ _ _ _ _ _ _
    (holds-forgotten next term (length s.slots.items) s.free s.spare s.live s.runs.items r c.self.invariant (row-moved _ c.args.self.now r c.args.run _ c.self.view_is c.run.view_is c.requires) low)

pub returns-clause-rows : goal.returns-clause-rows
returns-clause-rows g c =
    let s = c.self.inside in
    let r = c.run.inside.number in
    let next = next_at s.slots.items in
    let term = term_at s.slots.items in
    let low = run-inside _ c.args.self.now r c.args.run next term s.runs.items c.self.view_is c.run.view_is refl (ap is_some c.requires) in
    changes-seen _ c.args.self.now _ r c.args.run s.runs.items _ _ None (λ p n. None) c.self.view_is c.run.view_is
    (holds-seen _ _ _ _ _ _ _ _
    (holds-forgotten next term (length s.slots.items) s.free s.spare s.live s.runs.items r c.self.invariant (row-moved _ c.args.self.now r c.args.run _ c.self.view_is c.run.view_is c.requires) low))
    (change-set s.runs.items (map (row_of next term) s.runs.items) r None None (rows-number next term s.runs.items) low)
