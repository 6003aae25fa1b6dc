use Rattle.rinv_algebra.specs.Polynomial.{variable}
use Rattle.rinv_algebra.specs.Residue.{residue_ops}
use Rattle.rinv_algebra.specs.Value.{rename}
use Rattle.rinv_action.proofs.Generators.{difference-stored}
use Rattle.rinv_action.proofs.inputs.graph_element.Goals as goal

pub returns : goal.returns
returns c =
    let p = c.args.ring.now.coeffs in
    let o = residue_ops p in
    difference-stored p c.args.ring.now.vars (variable o c.args.place) (rename o c.args.places.now c.args.f.now) c.in_ok-variable.variable c.in-Ok.moved c.in-Ok-sub.element c.in_ok-variable.ensures.value c.in-Ok.ensures.value c.in-Ok-sub.ensures.element c.in-Ok-sub.ensures.value
