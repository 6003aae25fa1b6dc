use Rattle.std.proofs.Common.{◌≡◌, ℕ, ◌<◌, length, get_or}
use Rattle.rinv_frac.specs.Exponents.{IsLeast}
use Rattle.rinv_frac.proofs.common.least_exponents.Given as goal

abbrev pub invariant-loop-k : goal.invariant-loop-k
invariant-loop-k l = record {
  long : length l.out.items ≡ l.k;
  least : (j : ℕ) → j < l.k → IsLeast l.first l.num l.den j (get_or l.out.items j 0);
}
