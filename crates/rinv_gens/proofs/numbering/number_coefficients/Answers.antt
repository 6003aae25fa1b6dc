use Rattle.std.proofs.Common.{◌≡◌, ◌<◌, ◌≤◌, ◌∙◌, List, [], length, get_or, map, take, drop, ◌+◌, ap, subst, arith}
use Rattle.std.specs.List.{AllZip}
use Rattle.std.proofs.lemmas.List.{take_all}
use Rattle.std.proofs.lemmas.List.Elements.{All-nil}
use Rattle.std.proofs.lemmas.Result.{err_from_is_err_and}
use Rattle.rinv_frac.specs.Fractions.{IsStored}
use Rattle.rinv_defs.specs.Extended.{Relation}
use Rattle.rinv_coefficients.specs.Coefficients.{coefficients, new_values}
use Rattle.rinv_coefficients.specs.Ties.{Ties}
use Rattle.rinv_gens.proofs.Tied.{relations-more}
use Rattle.rinv_gens.proofs.Walks.{coefficients-parts, new-none, walk-relation, walk-within}
use Rattle.rinv_gens.proofs.numbering.number_coefficients.Goals as goal

pub relations-init : goal.relations-init
relations-init c =
    rw (c.in_ok-numbered.ensures.items, c.new-fractions.ensures.items)
    (record { fractions = new-none c.args.field.now.base.coeffs []; stored = All-nil (IsStored c.args.field.now.base.coeffs c.args.field.now.base.vars); ties = tt })

pub tied-requires-clause-earlier : goal.tied-requires-clause-earlier
tied-requires-clause-earlier c = c.relations.invariant.stored

pub returns-in_err-relation-clause-degree : goal.returns-in_err-relation-clause-degree
returns-in_err-relation-clause-degree c =
    let r : Relation = c.index.result.now in
    let rs : List Relation = c.args.monic.now in
    let k = c.relations.k in
    let at : r ≡ get_or rs k r = subst (λ (qs : List Relation). r ≡ get_or qs k r) c.monic.view_is c.index.ensures in
    let few : k < length rs = omega (arith, c.relations-test.true, c.len-k-end.ensures, ap (λ (qs : List Relation). length qs) c.monic.view_is) in
    let q = err_from_is_err_and c.from_residual-in_err-relation.result c.from_residual-in_err-relation.ensures.1 in
    rw (q.1, q.2) (walk-within c.args.field.now.base.coeffs (coefficients (take k rs)) (map (λ t. t.1) r.tail) (coefficients (drop (k + 1) rs)) (coefficients rs) c.relations.fractions.items (coefficients-parts rs k r few at) c.relations.invariant.fractions
    c.in_err-relation.field-0.0 c.in_err-relation.ensures.degree)

pub relations-preserved : goal.relations-preserved
relations-preserved c =
    let p = c.args.field.now.base.coeffs in
    let r : Relation = c.index.result.now in
    let rs : List Relation = c.args.monic.now in
    let k = c.relations.k in
    let so_far = c.relations.fractions.items in
    let next = c.tied.new.fractions.items in
    let at : r ≡ get_or rs k r = subst (λ (qs : List Relation). r ≡ get_or qs k r) c.monic.view_is c.index.ensures in
    let few : k < length rs = omega (arith, c.relations-test.true, c.len-k-end.ensures, ap (λ (qs : List Relation). length qs) c.monic.view_is) in
    rw c.in_ok-push.ensures.items (record {
      fractions = walk-relation p rs k r so_far next few at c.relations.invariant.fractions c.in_ok-relation.ensures.fractions;
      stored = c.in_ok-relation.ensures.stored;
      ties = relations-more p so_far (new_values p so_far (map (λ t. t.1) r.tail)) next rs k r c.relations.numbered.items c.in_ok-relation.relation c.in_ok-relation.ensures.fractions few at c.relations.invariant.ties c.in_ok-relation.ensures.ties;
    })

pub returns-clause-fractions : goal.returns-clause-fractions
returns-clause-fractions c =
    let rs : List Relation = c.args.monic.now in
    let whole : length rs ≤ c.relations.k = omega (arith, c.relations-test.false, c.len-k-end.ensures, ap (λ (qs : List Relation). length qs) c.monic.view_is) in
    subst (λ (qs : List Relation). c.relations.fractions.items ≡ new_values c.args.field.now.base.coeffs [] (coefficients qs)) (take_all c.relations.k rs whole) c.relations.invariant.fractions

pub returns-clause-stored : goal.returns-clause-stored
returns-clause-stored c = c.relations.invariant.stored

pub returns-clause-relations : goal.returns-clause-relations
returns-clause-relations c =
    let rs : List Relation = c.args.monic.now in
    let whole : length rs ≤ c.relations.k = omega (arith, c.relations-test.false, c.len-k-end.ensures, ap (λ (qs : List Relation). length qs) c.monic.view_is) in
    subst (λ (qs : List Relation). AllZip (Ties c.args.field.now.base.coeffs c.relations.fractions.items) c.relations.numbered.items qs) (take_all c.relations.k rs whole) c.relations.invariant.ties
