use Rattle.std.proofs.Common.{◌≡◌, not, take}
use Rattle.std.specs.Prelude.{filter}
use Rattle.rinv_algebra.specs.Residue.{residue_ops}
use Rattle.rinv_algebra.specs.Polynomial.{same}
use Rattle.rinv_defs.specs.System.{space_count}
use Rattle.rinv_parts.specs.Points.{ArePolynomials}
use Rattle.rinv_certify.proofs.raising.factors_but.Given as goal

abbrev pub invariant-factors : goal.invariant-factors
invariant-factors l = let s = l.system.system in record {
  normal : ArePolynomials s.p (space_count s) l.others.items;
  value : l.others.items ≡ filter (λ d. not (same (residue_ops s.p) d l.den)) (take l.k l.factors);
}
