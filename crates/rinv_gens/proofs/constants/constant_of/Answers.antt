use Rattle.std.proofs.Common.{◌≡◌, ◌∙◌, refl, sym}
use Rattle.rinv_gens.proofs.NumberValues.{number-found, number-missed}
use Rattle.rinv_gens.proofs.constants.constant_of.Goals as goal

pub returns-then-is_value-clause-value : goal.returns-then-is_value-clause-value
returns-then-is_value-clause-value c =
    let base = c.args.field.now.base in
    let first : c.base-ring.result.now.coeffs ≡ base.coeffs = rw c.base-ring.ensures refl in
    number-found base.coeffs c.base-ring.result.now.coeffs base.vars c.args.c.now c.num-num.result.now c.den-den.result.now c.in_ok-multiple.multiple c.in-Ok.value first c.num-num.ensures c.den-den.ensures c.requires
    c.in_ok-multiple.ensures.value (sym c.in_ok-is_value.ensures ∙ c.if-is_value.true)

pub returns-clause-none : goal.returns-clause-none
returns-clause-none c =
    let base = c.args.field.now.base in
    let first : c.base-ring.result.now.coeffs ≡ base.coeffs = rw c.base-ring.ensures refl in
    let lead = c.leading_term.ensures in
    number-missed base.coeffs c.base-ring.result.now.coeffs base.vars c.args.c.now c.num-num.result.now c.den-den.result.now c.in_ok-multiple.multiple c.leading_term.result.0.now c.coefficient_at-n.result c.leading_term.result.1.now c.in-Ok.value
    first c.num-num.ensures c.den-den.ensures c.requires
    (record { lead = lead.monomial; above = c.coefficient_at-n.ensures.value; below = lead.coefficient; nonzero = lead.nonzero; quotient = rw c.coeffs.ensures at c.in-Ok.ensures.value })
    c.in_ok-multiple.ensures.value (sym c.in_ok-is_value.ensures ∙ c.if-is_value.false)
