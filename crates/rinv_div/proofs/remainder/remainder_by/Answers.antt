use Rattle.std.proofs.Common.{◌≡◌, [], length, reverse, rules}
use Rattle.std.proofs.lemmas.Result.{err_from_is_err_and}
use Rattle.rinv_div.specs.Rounds.{more_steps}
use Rattle.rinv_div.proofs.Rounds.{round-start, round-front, round-none, round-end}
use Rattle.rinv_div.proofs.remainder.remainder_by.Goals as goal

pub terms-init : goal.terms-init
terms-init g c =
    let left = c.in_ok-left in
    record {
      taken = [];
      round = rw c.new.ensures.items (round-start (g.R.Ring.ops c.args.ring.now.coeffs) (g.R.Ring.laws c.args.ring.now.coeffs) (g.R.Ring.is_element c.args.ring.now.coeffs) c.args.ring.now.vars (g.O.MonoOrder.cmp c.args.order.now) (g.O.MonoOrder.laws c.args.order.now) c.args.basis.now c.args.f.now c.args.steps.now (reverse left.left.items) left.ensures.arranged left.ensures.value (search rules) c.requires.within);
    }

pub turn-requires-clause-terms : goal.turn-requires-clause-terms
turn-requires-clause-terms g c = (round-front c.terms.round.left.items c.pop.new.self.items (c.in-Some.mono, c.in-Some.c) c.in-Some.ensures.items c.terms.invariant.round).turn.whole

pub returns-in_err-next-clause-stop : goal.returns-in_err-next-clause-stop
returns-in_err-next-clause-stop g c =
    let p = err_from_is_err_and c.from_residual-in_err-next.result c.from_residual-in_err-next.ensures.1 in
    rw (p.1, p.2) (c.in_err-next.ensures.stop c.args.f.now c.args.steps.now c.terms.invariant.taken (round-front c.terms.round.left.items c.pop.new.self.items (c.in-Some.mono, c.in-Some.c) c.in-Some.ensures.items c.terms.invariant.round))

pub terms-preserved : goal.terms-preserved
terms-preserved g c =
    let h = c.terms.invariant in
    record {
      taken = more_steps h.taken c.in_ok-next._step;
      round = c.in_ok-next.ensures.next c.args.f.now c.args.steps.now h.taken (round-front c.terms.round.left.items c.pop.new.self.items (c.in-Some.mono, c.in-Some.c) c.in-Some.ensures.items h.round);
    }

pub terms-preserved-in_ok-next : goal.terms-preserved-in_ok-next
terms-preserved-in_ok-next g c =
    let h = c.terms.invariant in
    record {
      taken = more_steps h.taken c.in_ok-next._step;
      round = c.in_ok-next.ensures.next c.args.f.now c.args.steps.now h.taken (round-front c.terms.round.left.items c.pop.new.self.items (c.in-Some.mono, c.in-Some.c) c.in-Some.ensures.items h.round);
    }

pub returns-clause-division : goal.returns-clause-division
returns-clause-division g c =
    let none : length c.terms.round.left.items ≡ 0 = search rules in
    let last : length c.pop.new.self.items ≡ 0 = search rules in
    let l = g.R.Ring.laws c.args.ring.now.coeffs in
    let laws = g.O.MonoOrder.laws c.args.order.now in
    let h = round-none c.terms.round.left.items none c.terms.invariant.round in
    record {
      steps = c.terms.invariant.taken;
      is_division = round-end l laws h c.pop.new.self.items c.in_ok-rest.rest last c.in_ok-rest.ensures.value;
      spent = h.spent;
    }
