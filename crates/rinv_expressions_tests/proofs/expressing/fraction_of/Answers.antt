use Rattle.std.proofs.Common.{◌≡◌, ◌∙◌, ℕ, ap, length}
use Rattle.rinv_algebra.specs.Polynomial.{Polynomial}
use Rattle.rinv_defs.specs.System.{space_count}
use Rattle.rinv_frac.specs.Fractions.{IsPart}
use Rattle.rinv_text.specs.Told.{Told}
use Rattle.rinv_expressions_tests.proofs.expressing.fraction_of.Goals as goal

over : (p q v w : ℕ) (f : Polynomial ℕ) → p ≡ q → v ≡ w → IsPart q w f → IsPart p v f
over p q v w f e h is = rw (e, h) is

pub fraction-requires-clause-numerator : goal.fraction-requires-clause-numerator
fraction-requires-clause-numerator c =
    let s = c.args.system.now.system in
    rw c.new-field.ensures (over c.new-ring.result.coeffs s.p c.new-ring.result.vars (space_count s) c.in_ok-num.num (c.new-ring.ensures.ring ∙ ap (λ (t : Told). t.system.p) c.system.view_is) (c.new-ring.ensures.count ∙ c.len.ensures.len ∙ ap (λ (t : Told). length t.system.space) c.system.view_is) c.in_ok-num.ensures)

pub fraction-requires-clause-denominator : goal.fraction-requires-clause-denominator
fraction-requires-clause-denominator c =
    let s = c.args.system.now.system in
    rw c.new-field.ensures (over c.new-ring.result.coeffs s.p c.new-ring.result.vars (space_count s) c.in_ok-den.den (c.new-ring.ensures.ring ∙ ap (λ (t : Told). t.system.p) c.system.view_is) (c.new-ring.ensures.count ∙ c.len.ensures.len ∙ ap (λ (t : Told). length t.system.space) c.system.view_is) c.in_ok-den.ensures)
