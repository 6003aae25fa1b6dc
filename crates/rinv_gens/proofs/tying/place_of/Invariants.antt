use Rattle.std.proofs.Common.{◌≡◌, take, false}
use Rattle.rinv_coefficients.specs.Coefficients.{is_among}
use Rattle.rinv_gens.proofs.tying.place_of.Given as goal

abbrev pub invariant-fractions : goal.invariant-fractions
invariant-fractions l = is_among l.field.base.coeffs (take l.k l.fractions) l.c ≡ false
