use Rattle.std.proofs.Common.{◌∙◌, refl, sym, ap, true≢false}
use Rattle.rinv_algebra.specs.Residue.{residue_ops}
use Rattle.rinv_algebra.specs.Polynomial.{is_zero}
use Rattle.rinv_elim.proofs.Solving.{solved-pair}
use Rattle.rinv_elim.proofs.relating.solved.Goals as goal

pub sub-requires-clause-left : goal.sub-requires-clause-left
sub-requires-clause-left c = c.in_ok-zero.ensures.element

pub sub-requires-clause-right : goal.sub-requires-clause-right
sub-requires-clause-right c = rw c.base-ring.ensures c.requires.num

pub copy-requires : goal.copy-requires
copy-requires c = rw c.base-ring.ensures c.requires.den

pub fraction-requires-clause-numerator : goal.fraction-requires-clause-numerator
fraction-requires-clause-numerator c = rw c.base-ring.ensures at c.in-Ok.ensures.element

pub fraction-requires-clause-denominator : goal.fraction-requires-clause-denominator
fraction-requires-clause-denominator c = rw c.in_ok-den.ensures c.requires.den

pub unreachable-requires : goal.unreachable-requires
unreachable-requires c =
    let none = rw c.in_default-made.is at c.in_ok-made.ensures.none in
    absurd (true≢false (sym (none.0 refl) ∙ ap (is_zero (residue_ops c.args.field.now.base.coeffs)) c.in_ok-den.ensures ∙ c.requires.nonzero))

pub returns-clause-solved : goal.returns-clause-solved
returns-clause-solved c =
    let p = c.args.field.now.base.coeffs in
    solved-pair p c.in_ok-zero.zero c.in-Ok.num c.in_ok-den.den c.args.c.now c.args.d.now c.in-Some.fraction c.in_ok-solved.solved (rw c.base-ring.ensures at c.in_ok-zero.ensures.value) (rw c.base-ring.ensures at c.in-Ok.ensures.value) c.in_ok-den.ensures (rw c.in-Some.is at c.in_ok-made.ensures.parts) c.in_ok-solved.ensures.cancelled
