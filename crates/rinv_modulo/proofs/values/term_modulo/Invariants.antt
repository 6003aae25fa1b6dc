use Rattle.std.proofs.Common.{take}
use Rattle.rinv_algebra.specs.Residue.{residue_ops}
use Rattle.rinv_algebra.specs.Polynomial.{poly_ops, constant}
use Rattle.rinv_algebra.specs.Value.{times_all, factors}
use Rattle.rinv_modulo.specs.Congruence.{StandsFor}
use Rattle.rinv_modulo.proofs.values.term_modulo.Given as goal

abbrev pub invariant-images : goal.invariant-images
invariant-images l = StandsFor l.ring.coeffs l.ring.vars l.basis (times_all (poly_ops (residue_ops l.ring.coeffs)) (constant (residue_ops l.ring.coeffs) l.coefficient) (factors (take l.k l.images) (take l.k l.mono))) l.product
