-- The quotients of a value at Z = g that lies in the group's ideal.
use Rattle.std.specs.Prelude.{ℕ, List, IsTrue}
use Rattle.rinv_algebra.specs.Residue.{residue_ops}
use Rattle.rinv_algebra.specs.Polynomial.{is_zero}
use Rattle.rinv_buch.specs.Kinds.{Found}
use Rattle.rinv_defs.specs.System.{System, Poly}
use Rattle.rinv_parts.specs.Points.{ArePolynomials}
use Rattle.rinv_change.specs.Changes.{change_count}
use Rattle.rinv_at_graph.specs.AtGraph.{DividesAtGraph}

-- qs are the quotients of the value of h by the kept elements of the group's basis, which leaves nothing
pub record AreQuotientsAt (s : System) (group : Found ℕ) (h : Poly) (qs : List Poly) : Type 0 where
  pub normal : ArePolynomials s.p (change_count s) qs
  pub rest : Poly
  pub divides : DividesAtGraph s group h qs rest
  pub nothing : IsTrue (is_zero (residue_ops s.p) rest)
