use Rattle.std.proofs.Common.{◌≡◌, true, take}
use Rattle.std.specs.Prelude.{flat_map}
use Rattle.std.specs.List.{list_all}
use Rattle.rinv_algebra.specs.Ring.{IsSame}
use Rattle.rinv_algebra.specs.Residue.{residue_ops}
use Rattle.rinv_algebra.specs.Polynomial.{poly_ops}
use Rattle.rinv_poly.specs.Sums.{sum_of}
use Rattle.rinv_defs.specs.System.{System}
use Rattle.rinv_parts.specs.Points.{ArePolynomials}
use Rattle.rinv_basis_check.specs.Relations.{AreRingsOf}
use Rattle.rinv_basis_check.proofs.RelationSums.{term_fits, term_of}
use Rattle.rinv_basis_check.proofs.relation.relation_polynomial.Given as goal

abbrev pub invariant-tail : goal.invariant-tail
invariant-tail l = record {
  normal : ArePolynomials l.rings.graph.coeffs l.rings.graph.vars l.summands.items;
  fits : (s : System) → AreRingsOf s l.rings → list_all (term_fits s) (take l.k l.tail) ≡ true;
  sum : (s : System) → AreRingsOf s l.rings → IsSame (poly_ops (residue_ops s.p)) (sum_of l.summands.items) (flat_map (term_of s) (take l.k l.tail));
}
