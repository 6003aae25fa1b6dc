-- Systems that differ in the ideal and the section alone.
use Rattle.std.specs.Prelude.{List, All}
use Rattle.rinv_algebra.specs.Residue.{residue_ops}
use Rattle.rinv_algebra.specs.Ideal.{IsMember}
use Rattle.rinv_defs.specs.System.{System, Poly}

-- the system with another ideal and another section
abbrev pub with_ideal : System → List Poly → List Poly → System
with_ideal s ideal section = record { p = s.p; group = s.group; space = s.space; ideal = ideal; unit = s.unit; product = s.product; inverse = s.inverse; action = s.action; section = section }

-- two lists of polynomials generate one ideal
abbrev pub GenerateSame : System → List Poly → List Poly → Type 0
GenerateSame s fs gs = All (IsMember (residue_ops s.p) fs) gs × All (IsMember (residue_ops s.p) gs) fs
