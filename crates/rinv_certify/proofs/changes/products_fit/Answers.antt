use Rattle.std.proofs.Common.{◌∙◌, sym, subst, subst₂, true, ◌≡◌, refl}
use Rattle.std.proofs.lemmas.Result.{err_from_is_err_and}
use Rattle.rinv_frac.specs.Fractions.{IsPart}
use Rattle.rinv_frac.proofs.Stored.{stored}
use Rattle.rinv_defs.specs.System.{Poly, space_count}
use Rattle.rinv_parts.proofs.Stored.{stored-count, stored-normal, normal-over as all-over}
use Rattle.rinv_change.specs.Changes.{change_count}
use Rattle.rinv_change.proofs.MadeChanges.{normal-over, taken-denominator, taken-numerator}
use Rattle.rinv_acceptance.specs.Fits.{change_multiplies}
use Rattle.rinv_certify.proofs.ChangeProducts.{change-fits, changing-meets, first-meets, second-meets, sums-meet}
use Rattle.rinv_certify.proofs.changes.products_fit.Goals as goal

pub moved-requires-clause-polynomial : goal.moved-requires-clause-polynomial
moved-requires-clause-polynomial c =
    let s = c.args.system.now.system in
    let f = c.args.fraction.now in
    let own = stored s.p (space_count s) f c.requires.fraction in
    subst (IsPart s.p (space_count s)) (sym c.num-num.ensures) own.numerator

pub behind-requires-clause-polynomial : goal.behind-requires-clause-polynomial
behind-requires-clause-polynomial c =
    let s = c.args.system.now.system in
    let f = c.args.fraction.now in
    let own = stored s.p (space_count s) f c.requires.fraction in
    subst (IsPart s.p (space_count s)) (sym c.den-den.ensures) own.denominator

pub moved-requires-2-clause-polynomial : goal.moved-requires-2-clause-polynomial
moved-requires-2-clause-polynomial c =
    let s = c.args.system.now.system in
    let f = c.args.fraction.now in
    let own = stored s.p (space_count s) f c.requires.fraction in
    subst (IsPart s.p (space_count s)) (sym c.den-den.ensures) own.denominator

pub behind-requires-2-clause-polynomial : goal.behind-requires-2-clause-polynomial
behind-requires-2-clause-polynomial c =
    let s = c.args.system.now.system in
    let f = c.args.fraction.now in
    let own = stored s.p (space_count s) f c.requires.fraction in
    subst (IsPart s.p (space_count s)) (sym c.num-num.ensures) own.numerator

pub check_product-requires-clause-left : goal.check_product-requires-clause-left
check_product-requires-clause-left c =
    let s = c.args.system.now.system in
    let ring = c.change_ring-whole.ensures in
    normal-over c.change_ring-whole.result.coeffs s.p c.change_ring-whole.result.vars (change_count s) c.in_ok-moved_num.moved_num ring.field ring.vars c.in_ok-moved_num.ensures.stored.normal

pub check_product-requires-2-clause-right : goal.check_product-requires-2-clause-right
check_product-requires-2-clause-right c =
    let s = c.args.system.now.system in
    let ring = c.change_ring-whole.ensures in
    normal-over c.change_ring-whole.result.coeffs s.p c.change_ring-whole.result.vars (change_count s) c.in_ok-moved_den.moved_den ring.field ring.vars c.in_ok-moved_den.ensures.stored.normal

pub check_sums-requires-clause-many : goal.check_sums-requires-clause-many
check_sums-requires-clause-many c =
    let s = c.args.system.now.system in
    c.requires.number ∙ sym (stored-count s.p (change_count s) s.ideal c.args.ideal.now c.requires.ideal)

pub check_sums-requires-clause-cofactors : goal.check_sums-requires-clause-cofactors
check_sums-requires-clause-cofactors c =
    let s = c.args.system.now.system in
    let ring = c.change_ring-whole.ensures in
    all-over c.change_ring-whole.result.coeffs s.p c.change_ring-whole.result.vars (change_count s) c.args.cofactors.now c.args.cofactors.now ring.field ring.vars refl c.requires.cofactors

pub check_sums-requires-clause-generators : goal.check_sums-requires-clause-generators
check_sums-requires-clause-generators c =
    let s = c.args.system.now.system in
    let ring = c.change_ring-whole.ensures in
    all-over c.change_ring-whole.result.coeffs s.p c.change_ring-whole.result.vars (change_count s) c.args.ideal.now c.args.ideal.now ring.field ring.vars refl (stored-normal s.p (change_count s) s.ideal c.args.ideal.now c.requires.ideal)

pub returns-in_err-moved_num-clause-degree : goal.returns-in_err-moved_num-clause-degree
returns-in_err-moved_num-clause-degree c =
    let s = c.args.system.now.system in
    let f = c.args.fraction.now in
    let fault = c.in_err-moved_num.field-0.0 in
    let q = err_from_is_err_and c.from_residual.result c.from_residual.ensures.1 in
    rw (q.1, q.2) (changing-meets s f c.args.cofactors.now c.args.ideal.now fault (taken-numerator s f c.num-num.result.now c.num-num.ensures fault c.in_err-moved_num.ensures))

pub returns-in_err-moved_den-clause-degree : goal.returns-in_err-moved_den-clause-degree
returns-in_err-moved_den-clause-degree c =
    let s = c.args.system.now.system in
    let f = c.args.fraction.now in
    let fault = c.in_err-moved_den.field-0.0 in
    let q = err_from_is_err_and c.from_residual-in_err-moved_den.result c.from_residual-in_err-moved_den.ensures.1 in
    rw (q.1, q.2) (changing-meets s f c.args.cofactors.now c.args.ideal.now fault (taken-denominator s f c.den-den.result.now c.den-den.ensures fault c.in_err-moved_den.ensures))

pub returns-in_err-check_product-clause-degree : goal.returns-in_err-check_product-clause-degree
returns-in_err-check_product-clause-degree c =
    let s = c.args.system.now.system in
    let f = c.args.fraction.now in
    let ring = c.change_ring-whole.ensures in
    let fault = c.in_err-check_product.field-0.0 in
    let q = err_from_is_err_and c.from_residual-in_err-check_product.result c.from_residual-in_err-check_product.ensures.1 in
    rw (q.1, q.2) (changing-meets s f c.args.cofactors.now c.args.ideal.now fault
    (first-meets s c.change_ring-whole.result.coeffs ring.field f c.num-num.result.now c.den-den.result.now c.num-num.ensures c.den-den.ensures c.in_ok-moved_num.moved_num c.in_ok-kept_den.kept_den fault c.in_ok-moved_num.ensures c.in_ok-kept_den.ensures.value c.in_err-check_product.ensures.degree))

pub returns-in_err-check_product-2-clause-degree : goal.returns-in_err-check_product-2-clause-degree
returns-in_err-check_product-2-clause-degree c =
    let s = c.args.system.now.system in
    let f = c.args.fraction.now in
    let ring = c.change_ring-whole.ensures in
    let fault = c.in_err-check_product-2.field-0.0 in
    let q = err_from_is_err_and c.from_residual-in_err-check_product-2.result c.from_residual-in_err-check_product-2.ensures.1 in
    rw (q.1, q.2) (changing-meets s f c.args.cofactors.now c.args.ideal.now fault
    (second-meets s c.change_ring-whole.result.coeffs ring.field f c.num-num.result.now c.den-den.result.now c.num-num.ensures c.den-den.ensures c.in_ok-moved_den.moved_den c.in_ok-kept_num.kept_num fault c.in_ok-moved_den.ensures c.in_ok-kept_num.ensures.value c.in_err-check_product-2.ensures.degree))

pub returns-in_err-check_sums-clause-degree : goal.returns-in_err-check_sums-clause-degree
returns-in_err-check_sums-clause-degree c =
    let s = c.args.system.now.system in
    let ring = c.change_ring-whole.ensures in
    let fault = c.in_err-check_sums.field-0.0 in
    let q = err_from_is_err_and c.from_residual-in_err-check_sums.result c.from_residual-in_err-check_sums.ensures.1 in
    rw (q.1, q.2) (sums-meet s c.args.fraction.now c.args.cofactors.now c.args.ideal.now c.change_ring-whole.result.coeffs c.change_ring-whole.result.vars fault ring.field ring.vars c.in_err-check_sums.ensures.degree)

pub returns-clause-fits : goal.returns-clause-fits
returns-clause-fits c =
    let s = c.args.system.now.system in
    let f = c.args.fraction.now in
    let ring = c.change_ring-whole.ensures in
    subst₂ (λ (n d : Poly). change_multiplies s ((n, d), c.args.cofactors.now) ≡ true) c.num-num.ensures c.den-den.ensures
    (change-fits s c.change_ring-whole.result.coeffs ring.field c.num-num.result.now c.den-den.result.now c.in_ok-moved_num.moved_num c.in_ok-moved_den.moved_den c.in_ok-kept_num.kept_num c.in_ok-kept_den.kept_den c.in_ok-moved_num.ensures c.in_ok-moved_den.ensures c.in_ok-kept_num.ensures.value c.in_ok-kept_den.ensures.value
    c.args.cofactors.now c.args.ideal.now c.requires.ideal c.in_ok-check_product.ensures.fits c.in_ok-check_product-2.ensures.fits c.in_ok-check_sums.ensures.fits)
