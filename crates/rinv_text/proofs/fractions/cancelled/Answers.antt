use Rattle.std.proofs.Common.{refl, sym, ◌∙◌, true≢false}
use Rattle.std.specs.Option.{IsNone}
use Rattle.rinv_frac.proofs.Stored.{stored}
use Rattle.rinv_text.proofs.KeptFractions.{never-zero, cancelled-as, low-as}
use Rattle.rinv_text.proofs.fractions.cancelled.Goals as goal

pub fraction-requires-clause-numerator : goal.fraction-requires-clause-numerator
fraction-requires-clause-numerator c = let (g, s, nonzero) = c.requires in ((rw c.base.ensures at c.in_ok-num.ensures) g.numbers.num_degree g.value.0 s.num).normal

pub fraction-requires-clause-denominator : goal.fraction-requires-clause-denominator
fraction-requires-clause-denominator c = let (g, s, nonzero) = c.requires in ((rw c.base-2.ensures at c.in_ok-den.ensures) g.numbers.den_degree g.value.1 s.den).normal

pub unreachable-requires : goal.unreachable-requires
unreachable-requires c =
    let (g, s, nonzero) = c.requires in
    let none : IsNone c.in_ok-fraction.field-0 = rw c.in_default.is refl in
    true≢false (sym (c.in_ok-fraction.ensures.none.0 none) ∙ never-zero c.args.field.now.base.coeffs c.args.field.now.base.vars g.numbers.num_degree g.numbers.den_degree g.value c.in_ok-num.num c.in_ok-den.den ((rw c.base.ensures at c.in_ok-num.ensures) g.numbers.num_degree g.value.0 s.num) ((rw c.base-2.ensures at c.in_ok-den.ensures) g.numbers.den_degree g.value.1 s.den) nonzero)

pub returns-clause-cancelled : goal.returns-clause-cancelled
returns-clause-cancelled c = λ g s.
    cancelled-as c.args.field.now.base.coeffs c.args.field.now.base.vars g.numbers.num_degree g.numbers.den_degree g.value c.in_ok-num.num c.in_ok-den.den ((rw c.base.ensures at c.in_ok-num.ensures) g.numbers.num_degree g.value.0 s.num) ((rw c.base-2.ensures at c.in_ok-den.ensures) g.numbers.den_degree g.value.1 s.den)
    c.in-Some.fraction c.in_ok-cancelled.cancelled (rw c.in-Some.is at c.in_ok-fraction.ensures.parts) c.in_ok-cancelled.ensures.cancelled

pub returns-clause-low : goal.returns-clause-low
returns-clause-low c = λ g s.
    let parts = stored c.args.field.now.base.coeffs c.args.field.now.base.vars c.in_ok-cancelled.cancelled c.in_ok-cancelled.ensures.element in
    low-as c.args.field.now.base.coeffs c.args.field.now.base.vars g.numbers.num_degree g.numbers.den_degree g.value c.in_ok-num.num c.in_ok-den.den ((rw c.base.ensures at c.in_ok-num.ensures) g.numbers.num_degree g.value.0 s.num) ((rw c.base-2.ensures at c.in_ok-den.ensures) g.numbers.den_degree g.value.1 s.den)
    c.in-Some.fraction c.in_ok-cancelled.cancelled (rw c.in-Some.is at c.in_ok-fraction.ensures.parts) parts.numerator parts.denominator c.in_ok-cancelled.ensures.numerator c.in_ok-cancelled.ensures.denominator
