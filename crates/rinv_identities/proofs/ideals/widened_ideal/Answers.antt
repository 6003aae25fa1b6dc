use Rattle.std.proofs.Common.{List, subst}
use Rattle.std.proofs.lemmas.List.{take_all}
use Rattle.rinv_defs.specs.System.{Poly}
use Rattle.rinv_parts.specs.Points.{AreStored}
use Rattle.rinv_identities.proofs.GrowingLists.{stored-taken}
use Rattle.rinv_identities.proofs.ideals.widened_ideal.Goals as goal

pub polynomials-init : goal.polynomials-init
polynomials-init c = rw c.new-wide.ensures.items tt

pub polynomials-preserved : goal.polynomials-preserved
polynomials-preserved c =
    rw c.in_ok-push.ensures.items (stored-taken c.args.to.now.coeffs c.args.to.now.vars c.args.fs.now c.polynomials.k c.index-fs-k.result c.polynomials.wide.items c.in_ok-f.f c.polynomials-test.true c.index-fs-k.is c.polynomials.invariant
    (record { normal = c.in_ok-f.ensures.element; value = c.in_ok-f.ensures.value }))

pub returns : goal.returns
returns c = subst (λ (fs : List Poly). AreStored c.args.to.now.coeffs c.args.to.now.vars fs c.polynomials.wide.items) (take_all c.polynomials.k c.args.fs.now c.polynomials-test.false) c.polynomials.invariant
