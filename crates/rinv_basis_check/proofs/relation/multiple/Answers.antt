use Rattle.std.proofs.Common.{◌≡◌, false, sym, ◌∙◌, subst, arith}
use Rattle.rinv_algebra.specs.Residue.{residue_ops}
use Rattle.rinv_algebra.specs.Fits.{product_fits}
use Rattle.rinv_ring.specs.Fault.{DegreesMeet}
use Rattle.rinv_basis_check.proofs.RelationTerms.{behind-fits, behind-value}
use Rattle.rinv_basis_check.proofs.relation.multiple.Goals as goal

pub overflow_add-before : goal.overflow_add-before
overflow_add-before c = let few = c.args.rings.now.few in record { fits = omega (arith, few, c.vars.ensures) }

pub returns-in-Ok-clause-fits : goal.returns-in-Ok-clause-fits
returns-in-Ok-clause-fits c = λ s are.
    sym c.in-Ok.ensures.fits ∙ behind-fits s c.args.rings.now are c.args.exponents.now c.args.f.now c.in_ok-power.power c.in_ok-behind.behind c.vars.result c.vars.ensures c.in_ok-power.ensures.value c.in_ok-behind.ensures.value

pub returns-in-Ok-clause-value : goal.returns-in-Ok-clause-value
returns-in-Ok-clause-value c = λ s are.
    behind-value s c.args.rings.now are c.args.exponents.now c.args.f.now c.in_ok-power.power c.in_ok-behind.behind c.vars.result c.vars.ensures c.in_ok-power.ensures.value c.in_ok-behind.ensures.value c.in-Ok.product c.in-Ok.ensures.value

pub returns-in-Err-Degree-clause-fits : goal.returns-in-Err-Degree-clause-fits
returns-in-Err-Degree-clause-fits c = λ s are.
    let p = c.args.rings.now.graph.coeffs in
    let off : product_fits (residue_ops p) c.in_ok-power.power c.in_ok-behind.behind ≡ false = subst (DegreesMeet (λ _ _. product_fits (residue_ops p) c.in_ok-power.power c.in_ok-behind.behind ≡ false)) c.in-Err-Degree.field-0-is c.in-Err-Degree.ensures.degree in
    sym off ∙ behind-fits s c.args.rings.now are c.args.exponents.now c.args.f.now c.in_ok-power.power c.in_ok-behind.behind c.vars.result c.vars.ensures c.in_ok-power.ensures.value c.in_ok-behind.ensures.value
