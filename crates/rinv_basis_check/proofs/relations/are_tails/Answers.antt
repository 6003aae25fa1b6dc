use Rattle.std.proofs.Common.{◌≡◌, ℕ, ◌≤◌, List, length, true, false, sym, ap, ap₂, ◌∙◌, subst, arith}
use Rattle.std.specs.Ordering.{is_lt}
use Rattle.rinv_algebra.specs.Monomial.{total_degree, max_degree}
use Rattle.rinv_algebra.specs.Order.{grevlex}
use Rattle.rinv_defs.specs.System.{Poly}
use Rattle.rinv_defs.specs.RelationConditions.{is_tied_to}
use Rattle.rinv_cert.specs.Seen.{tied_of, relation_item_by}
use Rattle.rinv_form.specs.Forms.{is_stored}
use Rattle.rinv_basis_check.specs.Relations.{tails_are, is_tied_among}
use Rattle.rinv_basis_check.proofs.RelationForms.{relation-parts, term-form, exponents-count, exponents-low, tied-among}
use Rattle.rinv_basis_check.proofs.TailTests.{above-stops, untied-stops, shown-all}
use Rattle.rinv_basis_check.proofs.relations.are_tails.Goals as goal

pub is_below-requires-clause-count : goal.is_below-requires-clause-count
is_below-requires-clause-count c =
    let z = c.args.sizes.now in
    let x = c.args.relation.now in
    let part = term-form z x c.requires.form c.as_slice-tail.result.now (c.as_slice-tail.ensures ∙ ap (λ y. y.2) c.relation.view_is) c.tail.k c.index-tail-k.result c.tail-test.true c.index-tail-k.is in
    ap length (ap (λ y. y.0) c.term.view_is) ∙ exponents-count z.space c.index-tail-k.result.0 part.alpha ∙ sym (ap length (ap (λ y. y.0) c.relation.view_is) ∙ exponents-count z.space x.0 (relation-parts z x c.requires.form).lead)

pub is_below-requires-clause-few : goal.is_below-requires-clause-few
is_below-requires-clause-few c =
    let z = c.args.sizes.now in
    let x = c.args.relation.now in
    let long : length c.relation.inside.a ≡ z.space = ap length (ap (λ y. y.0) c.relation.view_is) ∙ exponents-count z.space x.0 (relation-parts z x c.requires.form).lead in
    let few = c.args.rings.now.few in
    let space = c.requires.space in
    omega (arith, long, few, space)

pub is_below-requires-clause-low : goal.is_below-requires-clause-low
is_below-requires-clause-low c =
    let z = c.args.sizes.now in
    let x = c.args.relation.now in
    let part = term-form z x c.requires.form c.as_slice-tail.result.now (c.as_slice-tail.ensures ∙ ap (λ y. y.2) c.relation.view_is) c.tail.k c.index-tail-k.result c.tail-test.true c.index-tail-k.is in
    subst (λ (a : List ℕ). total_degree a ≤ max_degree) (sym (ap (λ y. y.0) c.term.view_is)) (exponents-low z.space c.index-tail-k.result.0 part.alpha)

pub returns-then-not-branch : goal.returns-then-not-branch
returns-then-not-branch c = λ cert is ef.
    let x = c.args.relation.now in
    subst (λ us. false ≡ tails_are cert (relation_item_by (λ f. f) (x.0, x.1, us, x.3))) (c.as_slice-tail.ensures ∙ ap (λ y. y.2) c.relation.view_is)
    (above-stops cert x.0 x.1 c.as_slice-tail.result.now c.tail.k c.index-tail-k.result c.tail-test.true c.index-tail-k.is x.3
    (sym c.if-not-branch.true ∙ c.in_ok-is_below.ensures ∙ ap₂ (λ (a b : List ℕ). is_lt (grevlex a b)) (ap (λ y. y.0) c.term.view_is) (ap (λ y. y.0) c.relation.view_is)))

pub is_tied_to-requires-clause-numerator : goal.is_tied_to-requires-clause-numerator
is_tied_to-requires-clause-numerator c =
    let z = c.args.sizes.now in
    let part = term-form z c.args.relation.now c.requires.form c.as_slice-tail.result.now (c.as_slice-tail.ensures ∙ ap (λ y. y.2) c.relation.view_is) c.tail.k c.index-tail-k.result c.tail-test.true c.index-tail-k.is in
    rw (c.requires.rings, c.requires.space) (subst (λ (f : Poly). is_stored z.field z.space f ≡ true) (sym (ap (λ y. y.1) c.term.view_is)) part.coefficient)

pub is_tied_to-requires-clause-tied : goal.is_tied_to-requires-clause-tied
is_tied_to-requires-clause-tied c =
    let z = c.args.sizes.now in
    let part = term-form z c.args.relation.now c.requires.form c.as_slice-tail.result.now (c.as_slice-tail.ensures ∙ ap (λ y. y.2) c.relation.view_is) c.tail.k c.index-tail-k.result c.tail-test.true c.index-tail-k.is in
    subst (λ t. is_tied_among c.args.rings.now.space.coeffs (length c.args.fractions.now) t ≡ true) (sym (ap (λ y. y.2) c.term.view_is)) (tied-among z c.args.rings.now.space.coeffs (length c.args.fractions.now) c.requires.rings c.requires.many c.index-tail-k.result.2 part.tied)

pub returns-then-not-branch-2 : goal.returns-then-not-branch-2
returns-then-not-branch-2 c = λ cert is ef.
    let x = c.args.relation.now in
    subst (λ us. false ≡ tails_are cert (relation_item_by (λ f. f) (x.0, x.1, us, x.3))) (c.as_slice-tail.ensures ∙ ap (λ y. y.2) c.relation.view_is)
    (untied-stops cert x.0 x.1 c.as_slice-tail.result.now c.tail.k c.index-tail-k.result c.tail-test.true c.index-tail-k.is x.3
    (sym c.if-not-branch.false ∙ c.in_ok-is_below.ensures ∙ ap₂ (λ (a b : List ℕ). is_lt (grevlex a b)) (ap (λ y. y.0) c.term.view_is) (ap (λ y. y.0) c.relation.view_is))
    (sym c.if-not-branch-2.true ∙ c.in_ok-is_tied_to.ensures cert (c.requires.rings ∙ is.field) ef ∙ ap₂ (λ (d : Poly) y. is_tied_to cert d y.1 (tied_of y.2)) (ap (λ y. y.1) c.relation.view_is) c.term.view_is))

pub returns : goal.returns
returns c = λ cert is ef.
    let x = c.args.relation.now in
    subst (λ us. true ≡ tails_are cert (relation_item_by (λ f. f) (x.0, x.1, us, x.3))) (c.as_slice-tail.ensures ∙ ap (λ y. y.2) c.relation.view_is)
    (shown-all cert x.0 x.1 c.as_slice-tail.result.now x.3 c.tail.k c.tail-test.false (c.tail.invariant cert is ef))
