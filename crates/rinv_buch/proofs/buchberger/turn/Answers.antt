use Rattle.rinv_buch.specs.Kinds.{journal_of}
use Rattle.rinv_buch.specs.Causes.{Halts, StopsSo}
use Rattle.rinv_buch.specs.Halting.{HaltsAfter}
use Rattle.rinv_buch.specs.Runs.{steps_with}
use Rattle.std.proofs.lemmas.Result.{IfErr-weaker}
use Rattle.rinv_buch.proofs.SpentTogether.{spends-entry, spends-pair}
use Rattle.rinv_buch.proofs.Thirds.{stops-third}
use Rattle.rinv_buch.proofs.HaltFacts.{halts-idle, halts-in_division, after-halts}
use Rattle.rinv_buch.proofs.buchberger.turn.Goals as goal

pub returns-then-is_out_of_pairs-clause-stop : goal.returns-then-is_out_of_pairs-clause-stop
returns-then-is_out_of_pairs-clause-stop g c = λ given start normal made sparing spent.
    halts-idle (g.F.Ring.ops c.args.ring.now.coeffs) (g.F.Ring.is_element c.args.ring.now.coeffs) (g.F.Ring.too_high c.args.ring.now.coeffs) c.args.ring.now.vars (g.O.MonoOrder.cmp c.args.order.now) given c.args.run.elements.polys.items (journal_of c.args.run.journal.items) made sparing
    start c.args.budget.now c.args.pair.first c.args.pair.second spent c.requires.within (c.is_out_of_pairs.ensures.spent c.if-is_out_of_pairs.true) c.requires.taking.open_pair c.halted_idle.result c.halted_idle.ensures

pub returns-in-Err-clause-stop : goal.returns-in-Err-clause-stop
returns-in-Err-clause-stop g c = λ given start normal made sparing spent.
    let taking = c.requires.taking in
    let no_third = stops-third (g.F.Ring.ops c.args.ring.now.coeffs) (g.O.MonoOrder.cmp c.args.order.now) c.args.run.elements.polys.items (journal_of c.args.run.journal.items) c.args.queue.now c.args.pair.first c.args.pair.second taking.open_pair.ascending taking.open_pair.inside taking.leads taking.taken c.in-Err.stop c.in-Err.ensures.no_third in
    halts-in_division (g.F.Ring.ops c.args.ring.now.coeffs) (g.F.Ring.is_element c.args.ring.now.coeffs) (g.F.Ring.too_high c.args.ring.now.coeffs) c.args.ring.now.vars (g.O.MonoOrder.cmp c.args.order.now) given c.args.run.elements.polys.items (journal_of c.args.run.journal.items) made sparing
    start c.args.budget.now c.settle.new.budget c.args.pair.first c.args.pair.second spent (c.is_out_of_pairs.ensures.left c.if-is_out_of_pairs.false) (g.F.Ring.laws c.args.ring.now.coeffs) taking.open_pair c.in-Err.stop no_third c.in-Err.ensures.stop c.halted_in_division.result c.halted_in_division.ensures

pub returns-clause-stop : goal.returns-clause-stop
returns-clause-stop g c = λ given start normal made sparing spent.
    let o = g.F.Ring.ops c.args.ring.now.coeffs in
    let cmp = g.O.MonoOrder.cmp c.args.order.now in
    let e = g.F.Ring.is_element c.args.ring.now.coeffs in
    let v = c.args.ring.now.vars in
    let too_high = g.F.Ring.too_high c.args.ring.now.coeffs in
    let journal = journal_of c.args.run.journal.items in
    let count = steps_with c.in-Ok.outcome in
    IfErr-weaker c.entered.result (StopsSo (HaltsAfter o cmp given journal count)) (StopsSo (Halts o e too_high v cmp given start c.count_pair.new.budget))
    (λ s p. after-halts o e too_high v cmp given journal count start c.count_pair.new.budget (λ entry of_it. spends-entry journal entry count spent of_it (spends-pair count c.in-Ok.ensures.spent c.count_pair.ensures)) s p)
    (c.entered.ensures.stop given normal made sparing)
