use Rattle.std.proofs.Common.{◌≡◌, ◌∙◌, length, refl, sym, ap, arith}
use Rattle.rinv_text.specs.Told.{Told}
use Rattle.rinv_text.proofs.SystemParts.{parts-of}
use Rattle.rinv_defs.specs.System.{group_count}
use Rattle.rinv_parts.proofs.Stored.{normal-over, stored-over}
use Rattle.rinv_change.specs.Changes.{change_count}
use Rattle.rinv_certify.proofs.changes.ideal_of.Goals as goal

pub widened_ideal-requires-clause-field : goal.widened_ideal-requires-clause-field
widened_ideal-requires-clause-field c = c.new-group.ensures.ring ∙ ap (λ (t : Told). t.system.p) c.system.view_is ∙ sym c.change_ring-whole.ensures.field

pub widened_ideal-requires-clause-more : goal.widened_ideal-requires-clause-more
widened_ideal-requires-clause-more c =
    let l : c.new-group.result.vars ≡ group_count c.args.system.now.system = c.new-group.ensures.count ∙ c.len.ensures.len ∙ ap (λ (t : Told). length t.system.group) c.system.view_is in
    rw (l, c.change_ring-whole.ensures.vars) (omega arith)

pub widened_ideal-requires-clause-polynomials : goal.widened_ideal-requires-clause-polynomials
widened_ideal-requires-clause-polynomials c =
    let s = c.args.system.now.system in
    normal-over c.change_ring-whole.result.coeffs s.p c.new-group.result.vars (group_count s) c.deref.result.now s.ideal c.change_ring-whole.ensures.field
    (c.new-group.ensures.count ∙ c.len.ensures.len ∙ ap (λ (t : Told). length t.system.group) c.system.view_is) (c.deref.ensures.value ∙ ap (λ (t : Told). t.system.ideal) c.system.view_is) (parts-of s c.requires).ideal

pub returns : goal.returns
returns c =
    let s = c.args.system.now.system in
    stored-over s.p c.change_ring-whole.result.coeffs (change_count s) c.change_ring-whole.result.vars s.ideal c.in_ok-ideal.ideal.items c.deref.result.now c.in_ok-ideal.ideal.items (sym c.change_ring-whole.ensures.field) (sym c.change_ring-whole.ensures.vars)
    (sym (c.deref.ensures.value ∙ ap (λ (t : Told). t.system.ideal) c.system.view_is)) refl c.in_ok-ideal.ensures
