use Rattle.std.proofs.Common.{◌∙◌, ◌+◌, ◌-◌, ℕ, List, refl, ap, arith}
use Rattle.rinv_algebra.specs.Monomial.{total_degree}
use Rattle.rinv_elim.proofs.ZCoefficients.{part-low}
use Rattle.rinv_elim.proofs.coefficients.part.Goals as goal

pub unreachable-requires : goal.unreachable-requires
unreachable-requires c =
    let none = rw c.in-None.is at c.in_ok-part.ensures.none in
    let high = none.0 refl in
    let low = part-low (c.args.start + c.args.count - c.args.start) c.args.start c.deref.result.now in
    let same = ap (λ (m : List ℕ). total_degree m) (c.deref.ensures.value ∙ c.in_ok-exponents.ensures) in
    omega (arith, high, low, same, c.degree-degree.ensures.limit)
