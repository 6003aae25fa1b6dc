use Rattle.std.proofs.Common.{◌∙◌, List, ℕ, arith, drop, sym, ap}
use Rattle.std.proofs.lemmas.Bool.Decides.{nat_tests}
use Rattle.std.proofs.lemmas.List.{drop_all}
use Rattle.rinv_algebra.specs.Monomial.{divides, lcm}
use Rattle.rinv_pairs.proofs.Places.{divides-place}
use Rattle.rinv_pairs.proofs.criteria.divides_multiple.Goals as goal

pub returns-then-exponent-max : goal.returns-then-exponent-max
returns-then-exponent-max c = let here = divides-place c.args.by.now c.args.left.now c.args.right.now c.loop-k.k in grind (arith, nat_tests, here)

pub loop-k-preserved : goal.loop-k-preserved
loop-k-preserved c = let here = divides-place c.args.by.now c.args.left.now c.args.right.now c.loop-k.k in grind (arith, nat_tests, here)

pub returns : goal.returns
unfolding divides
returns c = sym (ap (λ (r : List ℕ). divides r (lcm (drop c.loop-k.k c.args.left.now) (drop c.loop-k.k c.args.right.now))) (drop_all c.loop-k.k c.args.by.now (omega arith))) ∙ c.loop-k.invariant
