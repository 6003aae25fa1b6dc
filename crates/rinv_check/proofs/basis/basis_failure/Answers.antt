use Rattle.std.proofs.Common.{◌≡◌, ◌∙◌, false, not, List, Some, length, sym, ap, subst, arith, IsTrue}
use Rattle.rinv_defs.specs.System.{Poly}
use Rattle.rinv_defs.specs.Conditions.{vanishes_on_graph}
use Rattle.rinv_cert.specs.Seen.{kind_of, plain}
use Rattle.rinv_form.specs.Forms.{is_stored, are_stored}
use Rattle.rinv_parts.proofs.Stored.{stored-count}
use Rattle.rinv_identities.proofs.Walks.{walk-stop, walk-end}
use Rattle.rinv_check.proofs.BasisParts.{element-polynomial, element-cofactors, basis-walk}
use Rattle.rinv_check.proofs.basis.basis_failure.Goals as goal

pub vanishes_on_graph-requires-clause-polynomial : goal.vanishes_on_graph-requires-clause-polynomial
vanishes_on_graph-requires-clause-polynomial c =
    subst (λ (x : Poly × List Poly). IsTrue (is_stored c.args.graph.now.ring.coeffs c.args.graph.now.ring.vars x.0)) (sym c.element.view_is)
    (element-polynomial c.args.stored.now (ap kind_of c.requires.kind) c.requires.form c.elements.k c.index-basis-k.result (let t = c.elements-test.true in let e = ap length c.as_slice-basis.ensures in omega (arith, t, e)) (rw c.as_slice-basis.ensures at c.index-basis-k.is) _ _ (c.args.graph.now.field ∙ c.requires.graph.field) c.requires.graph.ring)

pub vanishes_on_graph-requires-clause-cofactors : goal.vanishes_on_graph-requires-clause-cofactors
vanishes_on_graph-requires-clause-cofactors c =
    rw c.as_slice-cofactors.ensures
    (subst (λ (x : Poly × List Poly). IsTrue (are_stored c.args.graph.now.whole.coeffs c.args.graph.now.whole.vars (length c.args.graph.now.ideal.items) x.1)) (sym c.element.view_is)
    (element-cofactors c.args.stored.now (ap kind_of c.requires.kind) c.requires.form c.elements.k c.index-basis-k.result (let t = c.elements-test.true in let e = ap length c.as_slice-basis.ensures in omega (arith, t, e)) (rw c.as_slice-basis.ensures at c.index-basis-k.is) _ _ _ c.requires.graph.field c.requires.graph.whole (stored-count _ _ _ _ c.requires.graph.ideal)))

pub returns-then-not-vanishes : goal.returns-then-not-vanishes
returns-then-not-vanishes c =
    let s = (plain c.args.stored.now).system in
    let fails : vanishes_on_graph s c.element.inside.h c.element.inside.cofactors ≡ false = rw c.as_slice-cofactors.ensures at (sym (c.in_ok-vanishes.ensures s c.requires.graph) ∙ c.if-not-vanishes.true) in
    ap Some c.in-Ok.ensures.1
    ∙ sym (walk-stop (λ (b : Poly × List Poly). not (vanishes_on_graph (plain c.args.stored.now).system b.0 b.1)) c.args.stored.now.basis c.elements.k c.index-basis-k.result (let t = c.elements-test.true in let e = ap length c.as_slice-basis.ensures in omega (arith, t, e)) (rw c.as_slice-basis.ensures at c.index-basis-k.is)
    (ap not (subst (λ (x : Poly × List Poly). vanishes_on_graph s x.0 x.1 ≡ false) c.element.view_is fails)) (rw c.as_slice-basis.ensures at c.elements.invariant))
    ∙ basis-walk c.args.stored.now (ap kind_of c.requires.kind) c.requires.form

pub returns : goal.returns
returns c =
    sym (walk-end (λ (b : Poly × List Poly). not (vanishes_on_graph (plain c.args.stored.now).system b.0 b.1)) c.args.stored.now.basis c.elements.k (let t = c.elements-test.false in let e = ap length c.as_slice-basis.ensures in omega (arith, t, e)) (rw c.as_slice-basis.ensures at c.elements.invariant))
    ∙ basis-walk c.args.stored.now (ap kind_of c.requires.kind) c.requires.form
