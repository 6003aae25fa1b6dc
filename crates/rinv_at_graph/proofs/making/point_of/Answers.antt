use Rattle.std.proofs.Common.{◌∙◌, ◌+◌, ℕ, length, sym, ap, ap₂}
use Rattle.rinv_text.specs.Told.{Told}
use Rattle.rinv_text.proofs.SystemParts.{parts-of}
use Rattle.rinv_parts.proofs.Stored.{normal-over}
use Rattle.rinv_change.specs.Changes.{change_count}
use Rattle.rinv_at_graph.proofs.GroundParts.{point-stored}
use Rattle.rinv_at_graph.proofs.making.point_of.Goals as goal

pub graph_point-requires-clause-vars : goal.graph_point-requires-clause-vars
graph_point-requires-clause-vars c =
    c.requires.vars ∙ sym (ap₂ (λ (i j : ℕ). i + j) (c.len-group.ensures.len ∙ ap (λ (t : Told). length t.system.group) c.system.view_is)
    (c.len-space.ensures.len ∙ ap (λ (t : Told). length t.system.space) c.system.view_is))

pub graph_point-requires-clause-action : goal.graph_point-requires-clause-action
graph_point-requires-clause-action c =
    let s = c.args.system.now.system in
    normal-over c.args.whole.now.coeffs s.p c.args.whole.now.vars (change_count s) c.deref.result.now s.action c.requires.field c.requires.vars
    (c.deref.ensures.value ∙ ap (λ (t : Told). t.system.action) c.system.view_is) (parts-of s c.requires.system).action

pub returns : goal.returns
returns c =
    let s = c.args.system.now.system in
    point-stored s c.args.whole.now.coeffs c.args.whole.now.vars c.len-group.result c.len-space.result c.deref.result.now c.in_ok-point.point.items c.requires.field c.requires.vars
    (c.len-group.ensures.len ∙ ap (λ (t : Told). length t.system.group) c.system.view_is) (c.len-space.ensures.len ∙ ap (λ (t : Told). length t.system.space) c.system.view_is)
    (c.deref.ensures.value ∙ ap (λ (t : Told). t.system.action) c.system.view_is) c.in_ok-point.ensures
