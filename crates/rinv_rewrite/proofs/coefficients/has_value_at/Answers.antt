use Rattle.std.proofs.Common.{◌≡◌, ◌∙◌, ℕ, sym, subst, IsTrue}
use Rattle.std.proofs.lemmas.Result.{err_from_is_err_and}
use Rattle.rinv_algebra.specs.Ring.{IsSame}
use Rattle.rinv_algebra.specs.Residue.{residue_ops}
use Rattle.rinv_algebra.specs.Fraction.{fraction_ops}
use Rattle.rinv_algebra.specs.Polynomial.{coefficient, poly_ops}
use Rattle.rinv_poly.proofs.Meets.{meet-weaker}
use Rattle.rinv_value.specs.Values.{ValueMeets, value_at as valued}
use Rattle.rinv_defs.specs.Generators.{rational_ops}
use Rattle.rinv_rewrite.specs.Needed.{ValueMeetsAt}
use Rattle.rinv_rewrite.specs.Symbols.{is_symbolic}
use Rattle.rinv_rewrite.proofs.CoefficientValues.{value_test, tested-yes, tested-no}
use Rattle.rinv_rewrite.proofs.coefficients.has_value_at.Goals as goal

pub returns-in_err-value-clause-degree : goal.returns-in_err-value-clause-degree
returns-in_err-value-clause-degree c =
    let p = c.args.ring.now.coeffs.coeffs in
    let cs = c.args.fractions.now in
    let f = c.in_ok-coefficient.coefficient in
    let q = err_from_is_err_and c.from_residual-in_err-value.result c.from_residual-in_err-value.ensures.1 in
    rw (q.1, q.2) (meet-weaker (ValueMeets (residue_ops c.args.field.now.base.coeffs) cs f) (ValueMeetsAt p cs c.args.rest.now c.args.mono.now) (λ x y h. record {
      coefficient = f;
      is_coefficient = record { has = c.requires.has; stands = record { element = subst (λ (k : ℕ). IsTrue (is_symbolic p k f)) (sym c.requires.symbols) c.in_ok-coefficient.ensures.element; value = c.in_ok-coefficient.ensures.value } };
      meets = subst (λ (a : ℕ). ValueMeets (residue_ops a) cs f x y) c.requires.field h;
    }) c.in_err-value.field-0.0 c.in_err-value.ensures.degree)

pub returns-clause-yes : goal.returns-clause-yes
returns-clause-yes c =
    let p = c.args.ring.now.coeffs.coeffs in
    let cs = c.args.fractions.now in
    let f = c.in_ok-coefficient.coefficient in
    let v = c.in_ok-value.value in
    let o = poly_ops (residue_ops p) in
    let stands : IsSame (fraction_ops (residue_ops p)) v (valued (residue_ops p) cs f) = subst (λ (a : ℕ). IsSame (fraction_ops (residue_ops a)) v (valued (residue_ops a) cs f)) c.requires.field c.in_ok-value.ensures.value in
    let zero : c.is_zero.result ≡ (rational_ops p).same v (rational_ops p).zero = subst (λ (a : ℕ). c.is_zero.result ≡ (rational_ops a).same v (rational_ops a).zero) c.requires.field c.is_zero.ensures in
    tested-yes p cs c.args.rest.now c.args.mono.now c.is_zero.result (zero ∙ value_test p cs v f (coefficient o c.args.rest.now c.args.mono.now) stands c.in_ok-coefficient.ensures.value)

pub returns-clause-no : goal.returns-clause-no
returns-clause-no c =
    let p = c.args.ring.now.coeffs.coeffs in
    let cs = c.args.fractions.now in
    let f = c.in_ok-coefficient.coefficient in
    let v = c.in_ok-value.value in
    let o = poly_ops (residue_ops p) in
    let stands : IsSame (fraction_ops (residue_ops p)) v (valued (residue_ops p) cs f) = subst (λ (a : ℕ). IsSame (fraction_ops (residue_ops a)) v (valued (residue_ops a) cs f)) c.requires.field c.in_ok-value.ensures.value in
    let zero : c.is_zero.result ≡ (rational_ops p).same v (rational_ops p).zero = subst (λ (a : ℕ). c.is_zero.result ≡ (rational_ops a).same v (rational_ops a).zero) c.requires.field c.is_zero.ensures in
    tested-no p cs c.args.rest.now c.args.mono.now c.is_zero.result (zero ∙ value_test p cs v f (coefficient o c.args.rest.now c.args.mono.now) stands c.in_ok-coefficient.ensures.value)
