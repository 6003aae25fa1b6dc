use Rattle.std.proofs.Common.{ℕ, List, Bool, not, Some, sym, ap, ◌∙◌}
use Rattle.std.proofs.lemmas.List.Elements.{length_all_zip}
use Rattle.rinv_defs.specs.System.{Poly}
use Rattle.rinv_defs.specs.RelationConditions.{relation_is_shown}
use Rattle.rinv_cert.specs.declared.certificate.Tied.{Tied}
use Rattle.rinv_cert.specs.Seen.{plain, kind_of, relation_item_by}
use Rattle.rinv_parts.specs.Points.{IsStoredIn}
use Rattle.rinv_identities.proofs.Walks.{walk-more, walk-stop, walk-end}
use Rattle.rinv_basis_check.proofs.RelationForms.{relation-form, relations-walk, fractions-seen, fractions-stored}
use Rattle.rinv_basis_check.proofs.relations.relations_failure.Goals as goal

pub relation_is_shown-requires-clause-form : goal.relation_is_shown-requires-clause-form
relation_is_shown-requires-clause-form c =
    relation-form c.args.stored.now c.sizes_in-sizes.result c.sizes_in-sizes.ensures (ap kind_of c.requires.kind) c.requires.form c.as_slice-relations.result.now c.as_slice-relations.ensures c.relations.k c.index-relations-k.result c.relations-test.true c.index-relations-k.is

pub relation_is_shown-requires-clause-fractions : goal.relation_is_shown-requires-clause-fractions
relation_is_shown-requires-clause-fractions c = rw c.as_slice-fractions.ensures (fractions-stored c.args.stored.now c.sizes_in-sizes.result c.sizes_in-sizes.ensures c.requires.form)

pub relation_is_shown-requires-clause-ideal : goal.relation_is_shown-requires-clause-ideal
relation_is_shown-requires-clause-ideal c =
    let s = (plain c.args.stored.now).system in
    sym (length_all_zip (IsStoredIn s.p c.args.graph.now.whole.vars) s.ideal c.args.graph.now.ideal.items c.requires.graph.ideal) ∙ sym c.sizes_in-sizes.ensures.ideal

pub returns-then-not-branch : goal.returns-then-not-branch
returns-then-not-branch c =
    let cert = plain c.args.stored.now in
    let test : List ℕ × Poly × List (List ℕ × Poly × Tied) × List Poly → Bool = λ r. not (relation_is_shown cert (relation_item_by (λ f. f) r)) in
    let shown = c.in_ok-relation_is_shown.ensures cert c.sizes_in-sizes.ensures (c.as_slice-fractions.ensures ∙ fractions-seen c.args.stored.now) c.requires.graph in
    ap Some c.in-Ok.ensures.1
    ∙ sym (walk-stop test c.as_slice-relations.result.now c.relations.k c.index-relations-k.result c.relations-test.true c.index-relations-k.is (ap not (sym shown ∙ c.if-not-branch.true)) c.relations.invariant)
    ∙ sym (relations-walk c.args.stored.now c.as_slice-relations.result.now c.as_slice-relations.ensures)

pub relations-preserved : goal.relations-preserved
relations-preserved c =
    let cert = plain c.args.stored.now in
    let test : List ℕ × Poly × List (List ℕ × Poly × Tied) × List Poly → Bool = λ r. not (relation_is_shown cert (relation_item_by (λ f. f) r)) in
    let shown = c.in_ok-relation_is_shown.ensures cert c.sizes_in-sizes.ensures (c.as_slice-fractions.ensures ∙ fractions-seen c.args.stored.now) c.requires.graph in
    walk-more test c.as_slice-relations.result.now c.relations.k c.index-relations-k.result c.relations-test.true c.index-relations-k.is (ap not (sym shown ∙ c.if-not-branch.false)) c.relations.invariant

pub returns : goal.returns
returns c =
    let cert = plain c.args.stored.now in
    let test : List ℕ × Poly × List (List ℕ × Poly × Tied) × List Poly → Bool = λ r. not (relation_is_shown cert (relation_item_by (λ f. f) r)) in
    sym (walk-end test c.as_slice-relations.result.now c.relations.k c.relations-test.false c.relations.invariant) ∙ sym (relations-walk c.args.stored.now c.as_slice-relations.result.now c.as_slice-relations.ensures)
