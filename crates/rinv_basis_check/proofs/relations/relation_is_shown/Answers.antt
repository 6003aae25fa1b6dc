use Rattle.std.proofs.Common.{◌≡◌, ℕ, IsTrue, refl, sym, ap, ◌∙◌, subst, arith}
use Rattle.rinv_algebra.specs.Ring.{IsSame}
use Rattle.rinv_algebra.specs.Residue.{residue_ops}
use Rattle.rinv_algebra.specs.Polynomial.{poly_ops}
use Rattle.rinv_defs.specs.System.{Poly}
use Rattle.rinv_defs.specs.Conditions.{vanishes_on_graph}
use Rattle.rinv_defs.specs.RelationConditions.{relation_of}
use Rattle.rinv_cert.specs.Seen.{relation_item_by}
use Rattle.rinv_cert.proofs.Same.{map-same}
use Rattle.rinv_form.specs.Forms.{is_stored}
use Rattle.rinv_basis_check.specs.Relations.{AreRingsOf}
use Rattle.rinv_basis_check.proofs.RelationForms.{form-in, unfit-fails, tail-fails, graph-decides}
use Rattle.rinv_basis_check.proofs.ValuesOfSame.{vanishes-same}
use Rattle.rinv_basis_check.proofs.relations.relation_is_shown.Goals as goal

pub relation_rings-rings-requires : goal.relation_rings-rings-requires
relation_rings-rings-requires c = c.requires.sizes

pub relation_polynomial-requires : goal.relation_polynomial-requires
relation_polynomial-requires c =
    let r = c.relation_rings-rings.result in
    form-in c.args.sizes.now r c.args.relation.now (r.field ∙ c.relation_rings-rings.ensures.field) c.relation_rings-rings.ensures.space c.requires.form

pub returns-in_default : goal.returns-in_default
returns-in_default c = λ cert is ef gr.
    let r = c.relation_rings-rings in
    let are : AreRingsOf cert.system r.result = record { field = r.ensures.field ∙ is.field; group = r.ensures.group ∙ is.group; space = r.ensures.space ∙ is.space } in
    let fits = c.in_ok-polynomial.ensures.fits cert.system are in
    unfit-fails cert (relation_item_by (λ f. f) c.args.relation.now) (rw c.in_default.is at fits)

pub returns-then-not-branch : goal.returns-then-not-branch
returns-then-not-branch c = λ cert is ef gr.
    let r = c.relation_rings-rings in
    let are : AreRingsOf cert.system r.result = record { field = r.ensures.field ∙ is.field; group = r.ensures.group ∙ is.group; space = r.ensures.space ∙ is.space } in
    let fits = c.in_ok-polynomial.ensures.fits cert.system are in
    tail-fails cert (relation_item_by (λ f. f) c.args.relation.now) (rw c.in-Some.is at fits) (sym c.if-not-branch.true ∙ c.in_ok-are_tails.ensures cert is ef)

pub vanishes_on_graph-requires-clause-polynomial : goal.vanishes_on_graph-requires-clause-polynomial
vanishes_on_graph-requires-clause-polynomial c =
    let r = c.relation_rings-rings.result in
    let element : IsTrue (is_stored r.graph.coeffs r.graph.vars c.in-Some.polynomial) = rw c.in-Some.is at c.in_ok-polynomial.ensures.element in
    let vars = r.vars in
    let group = c.relation_rings-rings.ensures.group in
    let space = c.relation_rings-rings.ensures.space in
    let same : r.graph.vars ≡ c.args.graph.now.ring.vars = omega (arith, vars, group, space, c.requires.sizes, c.requires.ring) in
    let field : r.graph.coeffs ≡ c.args.graph.now.ring.coeffs = c.relation_rings-rings.ensures.field ∙ sym c.requires.field in
    subst (λ (p : ℕ). IsTrue (is_stored p c.args.graph.now.ring.vars c.in-Some.polynomial)) field (subst (λ (v : ℕ). IsTrue (is_stored r.graph.coeffs v c.in-Some.polynomial)) same element)

pub returns : goal.returns
returns c = λ cert is ef gr.
    let r = c.relation_rings-rings in
    let x = c.args.relation.now in
    let are : AreRingsOf cert.system r.result = record { field = r.ensures.field ∙ is.field; group = r.ensures.group ∙ is.group; space = r.ensures.space ∙ is.space } in
    let fits = c.in_ok-polynomial.ensures.fits cert.system are in
    let value = c.in_ok-polynomial.ensures.value cert.system are in
    let is_value : IsSame (poly_ops (residue_ops cert.system.p)) c.in-Some.polynomial (relation_of cert.system (relation_item_by (λ f. f) x)) = rw c.in-Some.is at value in
    c.in_ok-holds.ensures cert.system gr ∙ vanishes-same cert.system c.in-Some.polynomial (relation_of cert.system (relation_item_by (λ f. f) x)) c.as_slice.result.now is_value
    ∙ ap (vanishes_on_graph cert.system (relation_of cert.system (relation_item_by (λ f. f) x))) (c.as_slice.ensures ∙ ap (λ y. y.3) c.relation.view_is ∙ sym (map-same (λ (f : Poly). f) (λ f. refl) x.3))
    ∙ graph-decides cert (relation_item_by (λ f. f) x) (rw c.in-Some.is at fits) (sym c.if-not-branch.false ∙ c.in_ok-are_tails.ensures cert is ef)
