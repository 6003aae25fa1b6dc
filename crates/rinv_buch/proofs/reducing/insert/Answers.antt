use Rattle.std.proofs.lemmas.List.Sorted.{IsPermutation-insert}
use Rattle.rinv_algebra.specs.Leading.{leading_monomial}
use Rattle.rinv_buch.proofs.Inserted.{ascend-insert}
use Rattle.rinv_buch.proofs.reducing.insert.Goals as goal

pub returns-clause-ascending : goal.returns-clause-ascending
returns-clause-ascending g c =
    let cmp = g.O.MonoOrder.cmp c.args.order.now in
    ascend-insert cmp (leading_monomial (g.F.Ring.ops c.args.ring.now.coeffs) cmp) c.args.list.now.items c.insert.new.self.items c.place_of-place.result c.args.element c.leading_term.result.0.now
    c.leading_term.ensures.monomial c.in_ok-insert.ensures.items c.requires.ascending (rw c.deref.ensures.value at c.place_of-place.ensures.before) (rw c.deref.ensures.value at c.place_of-place.ensures.after)

pub returns-clause-same : goal.returns-clause-same
returns-clause-same g c = rw c.in_ok-insert.ensures.items (IsPermutation-insert c.args.list.now.items c.place_of-place.result c.args.element)
