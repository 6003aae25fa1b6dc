use Rattle.std.proofs.Common.{◌≡◌, ◌≤◌, take, false}
use Rattle.rinv_algebra.specs.Monomial.{max_degree}
use Rattle.rinv_algebra.specs.Polynomial.{poly_ops, constant}
use Rattle.rinv_algebra.specs.Value.{times_all, factors}
use Rattle.rinv_sub.proofs.FieldDegrees.{IsTop}
use Rattle.rinv_sub.proofs.fitting.check_term.Given as goal

abbrev pub invariant-images : goal.invariant-images
invariant-images g l = let o = g.R.Ring.ops l.ring.coeffs in record {
  low : l.degree ≤ max_degree;
  top : (c : g.row.R-Elem.Denot) → o.same c o.zero ≡ false → IsTop o (g.R.Ring.laws l.ring.coeffs) (times_all (poly_ops o) (constant o c) (factors (take l.k l.images) (take l.k l.mono))) l.degree;
}
