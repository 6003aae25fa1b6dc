use Rattle.std.proofs.Common.{◌≡◌, ◌<◌, ◌+◌, ◌-◌, ◌^◌, ◌∙◌, ℕ, [], ap, refl, sym, subst, map, length, Some}
use Rattle.rinv_pool.specs.Pools.{Pool, used}
use Rattle.rinv_pool.specs.Slots.{next_at, term_at}
use Rattle.rinv_pool.specs.Chains.{row_of}
use Rattle.rinv_pool.specs.Runs.{empty_chain}
use Rattle.rinv_pool.proofs.Adding.{holds-seen}
use Rattle.rinv_pool.proofs.Numbers.{used-rows}
use Rattle.rinv_pool.proofs.Rows.{rows-number}
use Rattle.rinv_pool.proofs.Seen.{changes-seen, holds-shown}
use Rattle.rinv_pool.proofs.Written.{change-with, holds-new}
use Rattle.rinv_pool.proofs.pool.TermPool.new_run.Goals as goal

pub unused_number-number-requires : goal.unused_number-number-requires
unused_number-number-requires g c =
    let s = c.self.inside in
    rw c.deref.ensures.value
    (subst (λ (n : ℕ). n < 2 ^ 32 - 1) (ap (λ (p : Pool _). used p.rows) (sym c.self.view_is) ∙ used-rows (next_at s.slots.items) (term_at s.slots.items) s.runs.items) c.requires)

pub invariant_of-self-2 : goal.invariant_of-self-2
invariant_of-self-2 g c =
    let s = c.self.inside in
    let next = next_at s.slots.items in
    let term = term_at s.slots.items in
    let runs = c.deref.ensures.value in
    rw c.in_ok-write_run.ensures.written (holds-shown _ _ _ _ _ _ _ _
    (holds-new next term (length s.slots.items) s.free s.spare s.live s.runs.items c.unused_number-number.result c.self.invariant
    (rw runs at c.unused_number-number.ensures.unused) (rw runs at c.unused_number-number.ensures.within)))

pub returns-clause-rows : goal.returns-clause-rows
returns-clause-rows g c =
    let s = c.self.inside in
    let next = next_at s.slots.items in
    let term = term_at s.slots.items in
    let runs = c.deref.ensures.value in
    let unused = rw runs at c.unused_number-number.ensures.unused in
    let within = rw runs at c.unused_number-number.ensures.within in
    changes-seen _ c.args.self.now _ c.unused_number-number.result c.unused_number-number.result s.runs.items _ _ (Some empty_chain) (λ p n. Some []) c.self.view_is refl
    (rw c.in_ok-write_run.ensures.written (holds-seen _ _ _ _ _ _ _ _
    (holds-new next term (length s.slots.items) s.free s.spare s.live s.runs.items c.unused_number-number.result c.self.invariant unused within)))
    (change-with s.runs.items (map (row_of next term) s.runs.items) c.unused_number-number.result (Some empty_chain) (Some []) (rows-number next term s.runs.items) within)
