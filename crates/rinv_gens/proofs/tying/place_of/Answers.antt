use Rattle.std.proofs.Common.{◌≡◌, ◌∙◌, List, false, true, sym, subst}
use Rattle.std.proofs.lemmas.List.{get_or_default, take_all}
use Rattle.std.proofs.lemmas.Result.{err_from_is_err_and}
use Rattle.rinv_poly.proofs.Meets.{meet-weaker}
use Rattle.rinv_defs.specs.Generators.{rational_ops}
use Rattle.rinv_defs.specs.Invariant.{Fraction}
use Rattle.rinv_coefficients.specs.Coefficients.{is_among}
use Rattle.rinv_gens.specs.Numbering.{AmongMeets, ComparisonMeets}
use Rattle.rinv_gens.proofs.Walks.{among-more}
use Rattle.rinv_gens.proofs.tying.place_of.Goals as goal

pub fractions-preserved : goal.fractions-preserved
fractions-preserved c =
    among-more c.args.field.now.base.coeffs c.args.fractions.now c.fractions.k c.index-fractions-k.result c.args.c.now c.fractions-test.true c.index-fractions-k.is c.fractions.invariant (sym c.in_ok-same.ensures.value ∙ c.if-same.false)

pub returns-then-same-clause-same : goal.returns-then-same-clause-same
returns-then-same-clause-same c =
    subst (λ (d : Fraction). (rational_ops c.args.field.now.base.coeffs).same d c.args.c.now ≡ true)
    (c.index-fractions-k.is ∙ get_or_default c.args.fractions.now c.fractions.k c.index-fractions-k.result c.args.c.now c.fractions-test.true) (sym c.in_ok-same.ensures.value ∙ c.if-same.true)

pub returns-clause-none : goal.returns-clause-none
returns-clause-none c = subst (λ (cs : List Fraction). is_among c.args.field.now.base.coeffs cs c.args.c.now ≡ false) (take_all c.fractions.k c.args.fractions.now c.fractions-test.false) c.fractions.invariant

pub returns-in_err-same-clause-degree : goal.returns-in_err-same-clause-degree
returns-in_err-same-clause-degree c =
    let p = c.args.field.now.base.coeffs in
    let d = c.index-fractions-k.result in
    let q = err_from_is_err_and c.from_residual.result c.from_residual.ensures.1 in
    rw (q.1, q.2) (meet-weaker (ComparisonMeets p d c.args.c.now) (AmongMeets p c.args.fractions.now c.args.c.now) (λ x y m. (d, (c.fractions.k, c.fractions-test.true, sym c.index-fractions-k.is), m)) c.in_err-same.field-0.0 c.in_err-same.ensures.degree)
