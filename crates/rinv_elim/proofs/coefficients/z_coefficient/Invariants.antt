use Rattle.std.proofs.Common.{◌≡◌, take}
use Rattle.rinv_reduction.specs.Localised.{z_coefficient}
use Rattle.rinv_elim.proofs.coefficients.z_coefficient.Given as goal

abbrev pub invariant-each : goal.invariant-each
invariant-each l = l.terms.items ≡ z_coefficient l.system.system (take l.mono-index l.h) l.z
