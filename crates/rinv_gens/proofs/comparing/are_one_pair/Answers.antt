use Rattle.std.proofs.Common.{◌≡◌, ◌∙◌, refl, sym}
use Rattle.rinv_gens.proofs.Apart.{pair-answer}
use Rattle.rinv_gens.proofs.comparing.are_one_pair.Goals as goal

pub returns-then-numerators : goal.returns-then-numerators
returns-then-numerators c = λ e.
    let base = c.args.field.now.base in
    let first : c.base.result.now.coeffs ≡ base.coeffs = rw c.base.ensures refl in
    let second : c.base-then-numerators.result.now.coeffs ≡ base.coeffs = rw c.base-then-numerators.ensures refl in
    pair-answer base.coeffs c.base.result.now.coeffs c.base-then-numerators.result.now.coeffs base.vars c.args.a.now c.args.b.now c.num.result.now c.num-2.result.now c.den.result.now c.den-then-numerators.result.now
    first second c.num.ensures c.num-2.ensures c.den.ensures c.den-then-numerators.ensures c.requires.left c.requires.right
    (sym c.in_ok-numerators.ensures ∙ c.if-numerators.true) (sym c.in_ok-denominators.ensures ∙ e)
