use Rattle.std.proofs.Common.{◌∙◌}
use Rattle.rinv_identities.proofs.GraphValues.{same-on_graph, unfit-on_graph}
use Rattle.rinv_identities.proofs.on_graph.vanishes_on_graph.Goals as goal

pub returns-in-Err-Degree : goal.returns-in-Err-Degree
returns-in-Err-Degree c s is =
    let g = c.args.graph.now in
    unfit-on_graph s g.whole.coeffs g.whole.vars g.point.items c.deref.result.now c.args.h.now c.args.cofactors.now is.field c.deref.ensures.value is.point g.ring.vars _ _ (rw g.field at c.requires.polynomial)
    (rw c.in-Err-Degree.field-0-is at c.in-Err-Degree.ensures.degree)

pub returns : goal.returns
returns c s is =
    let g = c.args.graph.now in
    c.in_ok-vanishes.ensures
    ∙ same-on_graph s g.whole.coeffs g.whole.vars g.point.items c.deref.result.now c.args.h.now c.args.cofactors.now is.field c.deref.ensures.value is.point g.ideal.items _ c.in-Ok.value c.deref-2.ensures.value is.ideal c.in-Ok.ensures.value c.in-Ok.ensures.fits
