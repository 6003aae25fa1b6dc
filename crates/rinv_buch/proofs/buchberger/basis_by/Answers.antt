use Rattle.std.proofs.Common.{List, sym, subst, subst₂, ◌∙◌, arith}
use Rattle.std.proofs.lemmas.Result.{err_from_is_err_and}
use Rattle.rinv_groebner.specs.Basis.{AreNonzero, IsGroebnerBasis}
use Rattle.rinv_groebner.specs.Journal.{Entry, IsComplete}
use Rattle.rinv_groebner.specs.Sparing.{IsSparing}
use Rattle.rinv_groebner.specs.Orders.{OrdersMonomials}
use Rattle.rinv_buch.specs.Kinds.{journal_of}
use Rattle.rinv_buch.specs.Spent.{SpendsOn}
use Rattle.rinv_buch.proofs.SpentTogether.{spends-nothing, spends-entry, limits-refl, limits-trans}
use Rattle.rinv_buch.proofs.HaltFacts.{start-halts}
use Rattle.rinv_buch.proofs.PairsLeft.{turn-less}
use Rattle.rinv_buch.proofs.Takings.{is_taking, entries-fewer}
use Rattle.rinv_buch.proofs.InVariables.{orders-monomials}
use Rattle.rinv_buch.proofs.Endings.{run-complete, run-nonzero, run-basis}
use Rattle.rinv_buch.proofs.buchberger.basis_by.Goals as goal

pub begun-requires-clause-selects : goal.begun-requires-clause-selects
begun-requires-clause-selects g c = subst (λ s. g.S.MonoOrder.fits s c.args.ring.now.vars) (sym c.new-queue.ensures.order) c.requires.selects

pub begun-requires-clause-fresh : goal.begun-requires-clause-fresh
begun-requires-clause-fresh g c = (c.new-queue.ensures.leads, c.new-queue.ensures.waiting)

pub returns-in_err-run-clause-stop : goal.returns-in_err-run-clause-stop
returns-in_err-run-clause-stop g c =
    let p = err_from_is_err_and c.from_residual.result c.from_residual.ensures.1 in
    rw (p.1, p.2) (start-halts (g.F.Ring.ops c.args.ring.now.coeffs) (g.F.Ring.is_element c.args.ring.now.coeffs) (g.F.Ring.too_high c.args.ring.now.coeffs) c.args.ring.now.vars (g.O.MonoOrder.cmp c.args.order.now) c.args.given.now c.args.budget.now
    (spends-nothing c.args.budget.now (omega arith) (omega arith)) _ c.in_err-run.ensures.stop)

pub pairs-init : goal.pairs-init
pairs-init g c =
    let b = c.args.budget.now in
    (c.in_ok-run.ensures.run, rw c.in_ok-run.ensures.empty (spends-nothing b (omega arith) (omega arith)), limits-refl b, c.requires.within, c.begun.ensures.order ∙ c.new-queue.ensures.order)

pub turn-requires-clause-selects : goal.turn-requires-clause-selects
turn-requires-clause-selects g c =
    let takes = c.in-Some.ensures.takes in
    subst (λ s. g.S.MonoOrder.fits s c.args.ring.now.vars) (sym (takes.order ∙ c.pairs.invariant.4)) c.requires.selects

pub turn-requires-clause-taking : goal.turn-requires-clause-taking
turn-requires-clause-taking g c =
    is_taking (g.F.Ring.ops c.args.ring.now.coeffs) (g.F.Ring.is_element c.args.ring.now.coeffs) c.args.ring.now.vars (g.O.MonoOrder.cmp c.args.order.now) c.args.given.now c.in-Some.pair.first c.in-Some.pair.second c.pairs.run c.pairs.queue c.take.new.self c.pairs.invariant.0 c.in-Some.ensures.takes

pub pairs-smaller : goal.pairs-smaller
pairs-smaller g c =
    let run = c.pairs.run in
    let is_run = c.pairs.invariant.0 in
    let turns = c.in_ok-run-2.ensures.turns in
    turn-less (g.F.Ring.ops c.args.ring.now.coeffs) c.args.ring.now.vars (g.O.MonoOrder.cmp c.args.order.now) (g.F.Ring.laws c.args.ring.now.coeffs) (g.F.Ring.is_element c.args.ring.now.coeffs) (g.O.MonoOrder.laws c.args.order.now)
    turns.0 run c.take.new.self c.in_ok-run-2.run' c.turn.new.queue is_run.prepared (c.in_ok-run-2.ensures.run c.args.given.now c.requires.given is_run.journal is_run.sparing).prepared
    (entries-fewer (g.F.Ring.ops c.args.ring.now.coeffs) (g.F.Ring.is_element c.args.ring.now.coeffs) c.args.ring.now.vars (g.O.MonoOrder.cmp c.args.order.now) c.args.given.now c.in-Some.pair.first c.in-Some.pair.second run c.pairs.queue c.take.new.self is_run c.in-Some.ensures.takes) turns.2

pub pairs-preserved : goal.pairs-preserved
pairs-preserved g c =
    let run = c.pairs.run in
    let (is_run, spent, limits, within, order) = c.pairs.invariant in
    let (count, spends, turns) = c.in_ok-run-2.ensures.turns in
    let takes = c.in-Some.ensures.takes in (
      c.in_ok-run-2.ensures.run c.args.given.now c.requires.given is_run.journal is_run.sparing,
      subst (λ (js : List Entry). SpendsOn js 0 c.args.budget.now c.turn.new.budget) (sym turns.journal) (spends-entry (journal_of run.journal.items) turns.entry count spent turns.steps spends),
      limits-trans limits c.in_ok-run-2.ensures.limits,
      c.in_ok-run-2.ensures.still_within,
      turns.order ∙ takes.order ∙ order,
    )

pub returns-clause-complete : goal.returns-clause-complete
returns-clause-complete g c =
    let v = c.args.ring.now.vars in
    let cmp = g.O.MonoOrder.cmp c.args.order.now in
    let order : OrdersMonomials cmp v = orders-monomials v cmp (g.O.MonoOrder.fits c.args.order.now) (g.O.MonoOrder.laws c.args.order.now) (g.O.MonoOrder.ties c.args.order.now) c.requires.suits in
    subst₂ (IsComplete (g.F.Ring.ops c.args.ring.now.coeffs) cmp) (sym c.found.ensures.journal) (sym c.found.ensures.polys)
    (run-complete (g.F.Ring.ops c.args.ring.now.coeffs) (g.F.Ring.laws c.args.ring.now.coeffs) (g.met.F.Field.field_laws c.args.ring.now.coeffs) (g.F.Ring.is_element c.args.ring.now.coeffs) v cmp order c.args.given.now c.requires.given c.pairs.queue c.pairs.run c.pairs.invariant.0 c.in_default.ensures.takes.1)

pub returns-clause-sparing : goal.returns-clause-sparing
returns-clause-sparing g c = subst (IsSparing (g.F.Ring.ops c.args.ring.now.coeffs) (g.O.MonoOrder.cmp c.args.order.now) c.args.given.now) (sym c.found.ensures.journal) c.pairs.invariant.0.sparing

pub returns-clause-nonzero : goal.returns-clause-nonzero
returns-clause-nonzero g c =
    let v = c.args.ring.now.vars in
    let cmp = g.O.MonoOrder.cmp c.args.order.now in
    let order : OrdersMonomials cmp v = orders-monomials v cmp (g.O.MonoOrder.fits c.args.order.now) (g.O.MonoOrder.laws c.args.order.now) (g.O.MonoOrder.ties c.args.order.now) c.requires.suits in
    subst (AreNonzero (g.F.Ring.ops c.args.ring.now.coeffs)) (sym c.found.ensures.polys)
    (run-nonzero (g.F.Ring.ops c.args.ring.now.coeffs) (g.F.Ring.laws c.args.ring.now.coeffs) (g.met.F.Field.field_laws c.args.ring.now.coeffs) (g.F.Ring.is_element c.args.ring.now.coeffs) v cmp order c.args.given.now c.requires.given c.pairs.queue c.pairs.run c.pairs.invariant.0)

pub returns-clause-groebner : goal.returns-clause-groebner
returns-clause-groebner g c =
    let v = c.args.ring.now.vars in
    let cmp = g.O.MonoOrder.cmp c.args.order.now in
    let order : OrdersMonomials cmp v = orders-monomials v cmp (g.O.MonoOrder.fits c.args.order.now) (g.O.MonoOrder.laws c.args.order.now) (g.O.MonoOrder.ties c.args.order.now) c.requires.suits in
    subst (IsGroebnerBasis (g.F.Ring.ops c.args.ring.now.coeffs) cmp v c.args.given.now) (sym c.found.ensures.polys)
    (run-basis (g.F.Ring.ops c.args.ring.now.coeffs) (g.F.Ring.laws c.args.ring.now.coeffs) (g.met.F.Field.field_laws c.args.ring.now.coeffs) (g.F.Ring.is_element c.args.ring.now.coeffs) v cmp order c.args.given.now c.requires.given c.pairs.queue c.pairs.run c.pairs.invariant.0 c.in_default.ensures.takes.1)
