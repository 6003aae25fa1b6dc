use Rattle.std.proofs.Common.{not, List, Bool}
use Rattle.std.specs.Prelude.{zip}
use Rattle.rinv_defs.specs.System.{Poly}
use Rattle.rinv_defs.specs.Invariant.{Fraction}
use Rattle.rinv_defs.specs.Conditions.{invariance_is_shown}
use Rattle.rinv_identities.proofs.Walks.{Walks}
use Rattle.rinv_check.specs.Setting.{setting}
use Rattle.rinv_check.proofs.invariance.first_not_shown.Given as goal

abbrev pub invariant-fractions : goal.invariant-fractions
invariant-fractions l =
    let test : Fraction × List Poly → Bool = λ x. not (invariance_is_shown (setting l.rings.whole.coeffs l.rings.group l.action l.ideal) x.0 x.1) in
    Walks test (zip l.fractions l.cofactors) l.k
