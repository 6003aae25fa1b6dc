use Rattle.std.proofs.Common.{◌≡◌, ◌∙◌, ◌*◌, ℕ, length, sym, ap}
use Rattle.rinv_text.specs.Told.{Told}
use Rattle.rinv_text.proofs.SystemParts.{parts-of}
use Rattle.rinv_parts.proofs.Names.{renamed-product}
use Rattle.rinv_parts.proofs.Stored.{normal-over}
use Rattle.rinv_parts.proofs.coordinates.product_of_copies.Goals as goal

pub renamed-requires-clause-field : goal.renamed-requires-clause-field
renamed-requires-clause-field c = c.new-from.ensures.ring ∙ ap (λ (t : Told). t.system.p) c.system.view_is ∙ sym c.requires.field

pub renamed-requires-clause-inside : goal.renamed-requires-clause-inside
renamed-requires-clause-inside c = let l = c.len-count.ensures.len ∙ ap (λ (t : Told). length t.system.group) c.system.view_is in rw (c.new-from.ensures.count, l) c.requires.inside

pub renamed-requires-clause-polynomials : goal.renamed-requires-clause-polynomials
renamed-requires-clause-polynomials c =
    normal-over c.args.ring.now.coeffs c.args.system.now.system.p c.new-from.result.vars (2 * length c.args.system.now.system.group) c.deref.result.now c.args.system.now.system.product c.requires.field
    (c.new-from.ensures.count ∙ ap (λ (n : ℕ). 2 * n) (c.len-count.ensures.len ∙ ap (λ (t : Told). length t.system.group) c.system.view_is))
    (c.deref.ensures.value ∙ ap (λ (t : Told). t.system.product) c.system.view_is) (parts-of c.args.system.now.system c.requires.system).product

pub returns : goal.returns
returns c =
    let l : c.len-count.result ≡ length c.args.system.now.system.group = c.len-count.ensures.len ∙ ap (λ (t : Told). length t.system.group) c.system.view_is in
    renamed-product c.args.system.now.system c.args.ring.now.coeffs c.args.ring.now.vars c.args.copy (c.args.copy * c.len-count.result) c.new-from.result.vars c.deref.result.now c.in_ok-product.product.items c.requires.field
    (ap (λ (n : ℕ). c.args.copy * n) l) (c.new-from.ensures.count ∙ ap (λ (n : ℕ). 2 * n) l) (c.deref.ensures.value ∙ ap (λ (t : Told). t.system.product) c.system.view_is) c.in_ok-product.ensures
