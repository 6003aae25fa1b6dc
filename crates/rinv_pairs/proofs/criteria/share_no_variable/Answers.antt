use Rattle.std.proofs.Common.{◌∙◌, List, ℕ, arith, drop, sym, ap}
use Rattle.std.proofs.lemmas.Bool.Decides.{nat_tests}
use Rattle.std.proofs.lemmas.List.{drop_all}
use Rattle.rinv_algebra.specs.Monomial.{coprime}
use Rattle.rinv_pairs.proofs.Places.{coprime-place}
use Rattle.rinv_pairs.proofs.criteria.share_no_variable.Goals as goal

pub returns-then-exponent_or_zero-gt0 : goal.returns-then-exponent_or_zero-gt0
returns-then-exponent_or_zero-gt0 c = let here = coprime-place c.args.left.now c.args.right.now c.loop-k.k in grind (arith, nat_tests, here)

pub loop-k-preserved : goal.loop-k-preserved
loop-k-preserved c = let here = coprime-place c.args.left.now c.args.right.now c.loop-k.k in grind (arith, nat_tests, here)

pub returns : goal.returns
unfolding coprime
returns c = sym (ap (λ (r : List ℕ). coprime r (drop c.loop-k.k c.args.right.now)) (drop_all c.loop-k.k c.args.left.now (omega arith))) ∙ c.loop-k.invariant
