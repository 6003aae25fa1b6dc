use Rattle.std.proofs.Common.{◌∙◌, ◌+◌, List, length, sym, ap}
use Rattle.rinv_defs.specs.System.{Poly, group_count, space_count}
use Rattle.rinv_text.specs.Told.{Told}
use Rattle.rinv_text.proofs.SystemParts.{parts-of}
use Rattle.rinv_parts.proofs.Stored.{normal-over as all-over}
use Rattle.rinv_change.proofs.MadeChanges.{normal-over}
use Rattle.rinv_certify.proofs.ChangeProducts.{moved-value}
use Rattle.rinv_certify.proofs.changes.moved.Goals as goal

pub substitute_over_field-requires-clause-coeffs : goal.substitute_over_field-requires-clause-coeffs
substitute_over_field-requires-clause-coeffs c = c.new-space.ensures.ring ∙ ap (λ (t : Told). t.system.p) c.system.view_is ∙ sym c.requires.ring.field

pub substitute_over_field-requires-clause-polynomial : goal.substitute_over_field-requires-clause-polynomial
substitute_over_field-requires-clause-polynomial c =
    normal-over c.new-space.result.coeffs c.args.system.now.system.p c.new-space.result.vars (space_count c.args.system.now.system) c.args.f.now
    (c.new-space.ensures.ring ∙ ap (λ (t : Told). t.system.p) c.system.view_is)
    (c.new-space.ensures.count ∙ c.len.ensures.len ∙ ap (λ (t : Told). length t.system.space) c.system.view_is) c.requires.polynomial

pub substitute_over_field-requires-clause-many : goal.substitute_over_field-requires-clause-many
substitute_over_field-requires-clause-many c =
    ap (λ (fs : List Poly). length fs) (c.deref.ensures.value ∙ ap (λ (t : Told). t.system.action) c.system.view_is) ∙ (parts-of c.args.system.now.system c.requires.ring.system).action_count
    ∙ sym (c.new-space.ensures.count ∙ c.len.ensures.len ∙ ap (λ (t : Told). length t.system.space) c.system.view_is)

pub substitute_over_field-requires-clause-images : goal.substitute_over_field-requires-clause-images
substitute_over_field-requires-clause-images c =
    let s = c.args.system.now.system in
    all-over c.args.whole.now.coeffs s.p c.args.whole.now.vars (group_count s + space_count s) c.deref.result.now s.action c.requires.ring.field c.requires.ring.vars
    (c.deref.ensures.value ∙ ap (λ (t : Told). t.system.action) c.system.view_is) (parts-of s c.requires.ring.system).action

pub returns : goal.returns
returns c =
    let s = c.args.system.now.system in
    moved-value s c.args.whole.now.coeffs c.args.whole.now.vars c.deref.result.now c.args.f.now c.substitute_over_field.result c.requires.ring.field c.requires.ring.vars
    (c.deref.ensures.value ∙ ap (λ (t : Told). t.system.action) c.system.view_is) (parts-of s c.requires.ring.system).action
    c.substitute_over_field.ensures.element c.substitute_over_field.ensures.value c.substitute_over_field.ensures.fits c.substitute_over_field.ensures.degree
