use Rattle.std.proofs.Common.{◌∙◌, sym}
use Rattle.rinv_buch.proofs.AddedElements.{nonzeros-more, nonzeros-same}
use Rattle.rinv_buch.proofs.elements.elements_of.Goals as goal
use Rattle.rinv_buch.proofs.elements.elements_of.Goals.{then-not-is_zero+in_ok-copy+in_ok-push, else-not-is_zero}

pub loop-f-preserved : goal.loop-f-preserved
loop-f-preserved g c =
    let o = g.F.Ring.ops c.args.ring.now.coeffs in
    let fs = c.args.given.now in
    let k = c.loop-f.f-index in
    let f = c.f-item.result in
    elim c.if-not-is_zero.branch [
      | then-not-is_zero+in_ok-copy+in_ok-push w ↦ rw w.elements-is (record {
        prepared = w.in_ok-push.ensures.prepared;
        polys = nonzeros-more o fs k f c.loop-f-test.true c.f-item.is w.in_ok-copy.copy c.loop-f.elements.polys.items w.push.new.self.polys.items (sym c.is_zero.ensures ∙ w.if-not-is_zero.true) w.in_ok-copy.ensures c.loop-f.invariant.polys w.in_ok-push.ensures.polys;
      })
      | else-not-is_zero w ↦ rw w.elements-is (record {
        prepared = c.loop-f.invariant.prepared;
        polys = c.loop-f.invariant.polys ∙ nonzeros-same o fs k f c.loop-f-test.true c.f-item.is (sym c.is_zero.ensures ∙ w.if-not-is_zero.false);
      })
    ]
