use Rattle.std.specs.Prelude.{replicate}
use Rattle.rinv_algebra.specs.Residue.{residue_ops}
use Rattle.rinv_algebra.specs.Polynomial.{poly_ops}
use Rattle.rinv_algebra.specs.Value.{times_all}
use Rattle.rinv_modulo.specs.Congruence.{StandsFor}
use Rattle.rinv_modulo.proofs.values.times_power.Given as goal

abbrev pub invariant-powers : goal.invariant-powers
invariant-powers l = StandsFor l.fn.ring.coeffs l.fn.ring.vars l.fn.basis (times_all (poly_ops (residue_ops l.fn.ring.coeffs)) l.fn.f (replicate l.k l.fn.factor)) l.product
