use Rattle.std.proofs.Common.{◌≡◌, length}
use Rattle.std.specs.Prelude.{replicate}
use Rattle.rinv_algebra.specs.Residue.{residue_ops}
use Rattle.rinv_algebra.specs.Polynomial.{poly_ops}
use Rattle.rinv_algebra.specs.Value.{times_all}
use Rattle.rinv_modulo.specs.Congruence.{StandsFor, ArePowersModulo}
use Rattle.rinv_modulo.proofs.tables.powers_modulo.Given as goal

abbrev pub invariant-powers : goal.invariant-powers
invariant-powers l = record {
  many : length l.powers.items ≡ l.k;
  before : ArePowersModulo l.ring.coeffs l.ring.vars l.basis l.f l.powers.items;
  here : StandsFor l.ring.coeffs l.ring.vars l.basis (times_all (poly_ops (residue_ops l.ring.coeffs)) (poly_ops (residue_ops l.ring.coeffs)).one (replicate l.k l.f)) l.power;
}
