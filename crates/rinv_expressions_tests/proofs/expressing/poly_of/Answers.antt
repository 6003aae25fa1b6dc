use Rattle.std.proofs.Common.{subst}
use Rattle.rinv_defs.specs.System.{space_count}
use Rattle.rinv_frac.specs.Fractions.{IsPart}
use Rattle.rinv_text.specs.Told.{Told}
use Rattle.rinv_expressions_tests.proofs.expressing.poly_of.Goals as goal

pub returns-in-Ok : goal.returns-in-Ok
returns-in-Ok c = subst (λ (t : Told). IsPart t.system.p (space_count t.system) c.in-Ok.f) c.system.view_is c.in-Ok.ensures.normal
