use Rattle.std.proofs.Common.{◌≡◌, ◌∙◌, length, sym, ap, arith}
use Rattle.rinv_text.specs.Told.{Told}
use Rattle.rinv_text.proofs.SystemParts.{parts-of}
use Rattle.rinv_parts.proofs.Names.{renamed-inverse}
use Rattle.rinv_parts.proofs.Stored.{normal-over}
use Rattle.rinv_parts.proofs.coordinates.inverse_of_copy.Goals as goal

pub renamed-requires-clause-field : goal.renamed-requires-clause-field
renamed-requires-clause-field c = c.new-from.ensures.ring ∙ ap (λ (t : Told). t.system.p) c.system.view_is ∙ sym c.requires.field

pub renamed-requires-clause-inside : goal.renamed-requires-clause-inside
renamed-requires-clause-inside c =
    let l : c.new-from.result.vars ≡ length c.args.system.now.system.group = c.new-from.ensures.count ∙ c.len.ensures.len ∙ ap (λ (t : Told). length t.system.group) c.system.view_is in
    omega (arith, l, c.requires.inside)

pub renamed-requires-clause-polynomials : goal.renamed-requires-clause-polynomials
renamed-requires-clause-polynomials c =
    normal-over c.args.ring.now.coeffs c.args.system.now.system.p c.new-from.result.vars (length c.args.system.now.system.group) c.deref.result.now c.args.system.now.system.inverse c.requires.field
    (c.new-from.ensures.count ∙ c.len.ensures.len ∙ ap (λ (t : Told). length t.system.group) c.system.view_is)
    (c.deref.ensures.value ∙ ap (λ (t : Told). t.system.inverse) c.system.view_is) (parts-of c.args.system.now.system c.requires.system).inverse

pub returns : goal.returns
returns c =
    renamed-inverse c.args.system.now.system c.args.ring.now.coeffs c.args.ring.now.vars c.new-from.result.vars c.deref.result.now c.in_ok-inverse.inverse.items c.requires.field
    (c.new-from.ensures.count ∙ c.len.ensures.len ∙ ap (λ (t : Told). length t.system.group) c.system.view_is) (c.deref.ensures.value ∙ ap (λ (t : Told). t.system.inverse) c.system.view_is) c.in_ok-inverse.ensures
