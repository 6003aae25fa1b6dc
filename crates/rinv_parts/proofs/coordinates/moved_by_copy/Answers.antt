use Rattle.std.proofs.Common.{◌≡◌, ◌∙◌, ◌+◌, ℕ, length, sym, ap, ap₂, arith}
use Rattle.rinv_text.specs.Told.{Told}
use Rattle.rinv_text.proofs.SystemParts.{parts-of}
use Rattle.rinv_parts.proofs.Names.{renamed-action}
use Rattle.rinv_parts.proofs.Stored.{normal-over}
use Rattle.rinv_parts.proofs.coordinates.moved_by_copy.Goals as goal

pub renamed-requires-clause-field : goal.renamed-requires-clause-field
renamed-requires-clause-field c = c.new-from.ensures.ring ∙ ap (λ (t : Told). t.system.p) c.system.view_is ∙ sym c.requires.field

pub renamed-requires-clause-inside : goal.renamed-requires-clause-inside
renamed-requires-clause-inside c =
    let l : c.len-count.result ≡ length c.args.system.now.system.group = c.len-count.ensures.len ∙ ap (λ (t : Told). length t.system.group) c.system.view_is in
    let n : c.len.result ≡ length c.args.system.now.system.space = c.len.ensures.len ∙ ap (λ (t : Told). length t.system.space) c.system.view_is in
    omega (arith, c.new-from.ensures.count, l, n, c.requires.inside)

pub renamed-requires-clause-polynomials : goal.renamed-requires-clause-polynomials
renamed-requires-clause-polynomials c =
    let l = c.len-count.ensures.len ∙ ap (λ (t : Told). length t.system.group) c.system.view_is in
    let n = c.len.ensures.len ∙ ap (λ (t : Told). length t.system.space) c.system.view_is in
    normal-over c.args.ring.now.coeffs c.args.system.now.system.p c.new-from.result.vars (length c.args.system.now.system.group + length c.args.system.now.system.space) c.deref.result.now c.args.system.now.system.action c.requires.field
    (c.new-from.ensures.count ∙ ap₂ (λ (i j : ℕ). i + j) l n)
    (c.deref.ensures.value ∙ ap (λ (t : Told). t.system.action) c.system.view_is) (parts-of c.args.system.now.system c.requires.system).action

pub returns : goal.returns
returns c =
    let l = c.len-count.ensures.len ∙ ap (λ (t : Told). length t.system.group) c.system.view_is in
    let n = c.len.ensures.len ∙ ap (λ (t : Told). length t.system.space) c.system.view_is in
    renamed-action c.args.system.now.system c.args.ring.now.coeffs c.args.ring.now.vars c.len-count.result c.new-from.result.vars c.deref.result.now c.in_ok-moved.moved.items c.requires.field
    l (c.new-from.ensures.count ∙ ap₂ (λ (i j : ℕ). i + j) l n) (c.deref.ensures.value ∙ ap (λ (t : Told). t.system.action) c.system.view_is) c.in_ok-moved.ensures
