use Rattle.std.proofs.Common.{◌++◌, take, All}
use Rattle.rinv_algebra.specs.Ring.{IsSame}
use Rattle.rinv_algebra.specs.Polynomial.{poly_ops, product}
use Rattle.rinv_algebra.specs.Normal.{IsNormal}
use Rattle.rinv_poly.specs.Terms.{IsTerm, FitWith}
use Rattle.rinv_poly.proofs.pieces.product_by_pieces.Given as goal

abbrev pub invariant-loop-mono : goal.invariant-loop-mono
invariant-loop-mono g l = record {
  normal : IsNormal (g.R.Ring.ops l.coeffs) (g.R.Ring.is_element l.coeffs) l.vars l.sum.items;
  terms : All (IsTerm (g.R.Ring.is_element l.coeffs) l.vars) l.piece.items;
  fits : All (λ s. FitWith s.0 l.b) (take l.mono-index l.a);
  value : IsSame (poly_ops (g.R.Ring.ops l.coeffs)) (l.sum.items ++ l.piece.items) (product (g.R.Ring.ops l.coeffs) (take l.mono-index l.a) l.b);
}
