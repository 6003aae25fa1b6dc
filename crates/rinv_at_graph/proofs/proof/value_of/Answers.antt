use Rattle.std.proofs.Common.{◌∙◌, List, length, sym, ap, subst}
use Rattle.rinv_defs.specs.System.{Poly}
use Rattle.rinv_defs.specs.Conditions.{graph_point}
use Rattle.rinv_parts.specs.Points.{AreStored}
use Rattle.rinv_parts.proofs.Stored.{normal-over, stored-count, stored-normal}
use Rattle.rinv_change.specs.Changes.{change_count}
use Rattle.rinv_at_graph.proofs.ProvedValues.{point-length, value-at}
use Rattle.rinv_at_graph.proofs.proof.value_of.Goals as goal

pub substitute_over_field-requires-clause-coeffs : goal.substitute_over_field-requires-clause-coeffs
substitute_over_field-requires-clause-coeffs c = let g = c.requires.ground.is in g.field ∙ sym g.whole_field

pub substitute_over_field-requires-clause-many : goal.substitute_over_field-requires-clause-many
substitute_over_field-requires-clause-many c =
    let s = c.requires.ground.s in
    let g = c.requires.ground.is in
    ap (λ (fs : List Poly). length fs) c.deref.ensures.value ∙ stored-count s.p (change_count s) (graph_point s) c.args.ground.now.point.items g.point ∙ point-length s g.system ∙ sym g.vars

pub substitute_over_field-requires-clause-images : goal.substitute_over_field-requires-clause-images
substitute_over_field-requires-clause-images c =
    let s = c.requires.ground.s in
    let g = c.requires.ground.is in
    normal-over c.args.ground.now.whole.coeffs s.p c.args.ground.now.whole.vars (change_count s) c.deref.result.now c.args.ground.now.point.items g.whole_field g.whole_vars c.deref.ensures.value
    (stored-normal s.p (change_count s) (graph_point s) c.args.ground.now.point.items g.point)

pub returns-clause-value : goal.returns-clause-value
returns-clause-value c s found g =
    value-at s c.args.ground.now.whole.coeffs c.args.ground.now.whole.vars c.deref.result.now c.args.h.now c.substitute_over_field.result g.whole_field g.whole_vars
    (subst (λ (fs : List Poly). AreStored s.p (change_count s) (graph_point s) fs) (sym c.deref.ensures.value) g.point)
    c.substitute_over_field.ensures.element c.substitute_over_field.ensures.value c.substitute_over_field.ensures.fits c.substitute_over_field.ensures.degree
