use Rattle.std.proofs.Common.{map, take}
use Rattle.std.specs.List.{range_with_len}
use Rattle.rinv_algebra.specs.Residue.{residue_ops}
use Rattle.rinv_algebra.specs.Value.{rename}
use Rattle.rinv_parts.specs.Points.{AreStored}
use Rattle.rinv_parts.proofs.coordinates.renamed.Given as goal

abbrev pub invariant-polynomials : goal.invariant-polynomials
invariant-polynomials l = AreStored l.ring.coeffs l.ring.vars (map (rename (residue_ops l.ring.coeffs) (range_with_len l.start l.from.vars)) (take l.k l.fs)) l.moved.items
