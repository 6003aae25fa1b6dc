use Rattle.std.proofs.Common.{◌≡◌, ◌∙◌, ◌<◌, ◌-◌, length, get_or, sym, ap, subst, arith}
use Rattle.std.proofs.lemmas.Result.{err_from_is_err_and}
use Rattle.rinv_frac.specs.Fractions.{IsPart, IsStored}
use Rattle.rinv_frac.proofs.Stored.{stored}
use Rattle.rinv_text.specs.Told.{Told}
use Rattle.rinv_defs.specs.System.{space_count}
use Rattle.rinv_change.proofs.MadeChanges.{normal-over}
use Rattle.rinv_generators.specs.Generated.{Generated, IsGenerators}
use Rattle.rinv_certify.proofs.Taken.{holds-at}
use Rattle.rinv_certify.proofs.TieProducts.{den-meets, generator-fits, num-meets}
use Rattle.rinv_certify.proofs.ties.products_fit.Goals as goal

pub check_product-requires-clause-left : goal.check_product-requires-clause-left
check_product-requires-clause-left c =
    let g = c.args.gens.now in
    let s = g.told.system in
    let n = space_count s in
    let told : c.gens.inside.system ≡ g.told = ap (λ (x : Generated). x.told) c.gens.view_is in
    let field = c.new-space.ensures.ring ∙ ap (λ (t : Told). t.system.p) (c.system.view_is ∙ told) in
    let vars = c.new-space.ensures.count ∙ c.len.ensures.len ∙ ap (λ (t : Told). length t.system.space) (c.system.view_is ∙ told) in
    normal-over c.new-space.result.coeffs s.p c.new-space.result.vars n c.args.c.now field vars c.requires.numerator

pub check_product-requires-clause-right : goal.check_product-requires-clause-right
check_product-requires-clause-right c =
    let g = c.args.gens.now in
    let s = g.told.system in
    let n = space_count s in
    let told : c.gens.inside.system ≡ g.told = ap (λ (x : Generated). x.told) c.gens.view_is in
    let field = c.new-space.ensures.ring ∙ ap (λ (t : Told). t.system.p) (c.system.view_is ∙ told) in
    let vars = c.new-space.ensures.count ∙ c.len.ensures.len ∙ ap (λ (t : Told). length t.system.space) (c.system.view_is ∙ told) in
    let f = c.index-fractions-place.result in
    let many : c.as_slice-fractions.result.now ≡ g.fractions = c.as_slice-fractions.ensures.value ∙ ap (λ (x : Generated). x.fractions) c.gens.view_is in
    let inside : c.args.k - 1 < length g.fractions = omega (arith, c.requires.first, c.requires.last) in
    let at : f ≡ get_or g.fractions (c.args.k - 1) f = c.index-fractions-place.is ∙ ap (λ fs. get_or fs (c.args.k - 1) f) many in
    let own = stored s.p n f (holds-at (IsStored s.p n) g.fractions (c.args.k - 1) f (subst IsGenerators c.gens.view_is c.gens.invariant).stored inside at) in
    normal-over c.new-space.result.coeffs s.p c.new-space.result.vars n c.den-den.result.now field vars (subst (IsPart s.p n) (sym c.den-den.ensures) own.denominator)

pub returns-in_err-check_product-clause-degree : goal.returns-in_err-check_product-clause-degree
returns-in_err-check_product-clause-degree c =
    let g = c.args.gens.now in
    let s = g.told.system in
    let told : c.gens.inside.system ≡ g.told = ap (λ (x : Generated). x.told) c.gens.view_is in
    let field = c.new-space.ensures.ring ∙ ap (λ (t : Told). t.system.p) (c.system.view_is ∙ told) in
    let f = c.index-fractions-place.result in
    let many : c.as_slice-fractions.result.now ≡ g.fractions = c.as_slice-fractions.ensures.value ∙ ap (λ (x : Generated). x.fractions) c.gens.view_is in
    let inside : c.args.k - 1 < length g.fractions = omega (arith, c.requires.first, c.requires.last) in
    let at : f ≡ get_or g.fractions (c.args.k - 1) f = c.index-fractions-place.is ∙ ap (λ fs. get_or fs (c.args.k - 1) f) many in
    let q = err_from_is_err_and c.from_residual.result c.from_residual.ensures.1 in
    rw (q.1, q.2) (den-meets g c.new-space.result.coeffs field c.args.d.now c.args.c.now c.args.k f inside at c.num-num.result.now c.den-den.result.now c.num-num.ensures c.den-den.ensures c.in_err-check_product.field-0.0 c.in_err-check_product.ensures.degree)

pub check_product-requires-2-clause-left : goal.check_product-requires-2-clause-left
check_product-requires-2-clause-left c =
    let g = c.args.gens.now in
    let s = g.told.system in
    let n = space_count s in
    let told : c.gens.inside.system ≡ g.told = ap (λ (x : Generated). x.told) c.gens.view_is in
    let field = c.new-space.ensures.ring ∙ ap (λ (t : Told). t.system.p) (c.system.view_is ∙ told) in
    let vars = c.new-space.ensures.count ∙ c.len.ensures.len ∙ ap (λ (t : Told). length t.system.space) (c.system.view_is ∙ told) in
    normal-over c.new-space.result.coeffs s.p c.new-space.result.vars n c.args.d.now field vars c.requires.denominator

pub check_product-requires-2-clause-right : goal.check_product-requires-2-clause-right
check_product-requires-2-clause-right c =
    let g = c.args.gens.now in
    let s = g.told.system in
    let n = space_count s in
    let told : c.gens.inside.system ≡ g.told = ap (λ (x : Generated). x.told) c.gens.view_is in
    let field = c.new-space.ensures.ring ∙ ap (λ (t : Told). t.system.p) (c.system.view_is ∙ told) in
    let vars = c.new-space.ensures.count ∙ c.len.ensures.len ∙ ap (λ (t : Told). length t.system.space) (c.system.view_is ∙ told) in
    let f = c.index-fractions-place.result in
    let many : c.as_slice-fractions.result.now ≡ g.fractions = c.as_slice-fractions.ensures.value ∙ ap (λ (x : Generated). x.fractions) c.gens.view_is in
    let inside : c.args.k - 1 < length g.fractions = omega (arith, c.requires.first, c.requires.last) in
    let at : f ≡ get_or g.fractions (c.args.k - 1) f = c.index-fractions-place.is ∙ ap (λ fs. get_or fs (c.args.k - 1) f) many in
    let own = stored s.p n f (holds-at (IsStored s.p n) g.fractions (c.args.k - 1) f (subst IsGenerators c.gens.view_is c.gens.invariant).stored inside at) in
    normal-over c.new-space.result.coeffs s.p c.new-space.result.vars n c.num-num.result.now field vars (subst (IsPart s.p n) (sym c.num-num.ensures) own.numerator)

pub returns-in_err-check_product-2-clause-degree : goal.returns-in_err-check_product-2-clause-degree
returns-in_err-check_product-2-clause-degree c =
    let g = c.args.gens.now in
    let s = g.told.system in
    let told : c.gens.inside.system ≡ g.told = ap (λ (x : Generated). x.told) c.gens.view_is in
    let field = c.new-space.ensures.ring ∙ ap (λ (t : Told). t.system.p) (c.system.view_is ∙ told) in
    let f = c.index-fractions-place.result in
    let many : c.as_slice-fractions.result.now ≡ g.fractions = c.as_slice-fractions.ensures.value ∙ ap (λ (x : Generated). x.fractions) c.gens.view_is in
    let inside : c.args.k - 1 < length g.fractions = omega (arith, c.requires.first, c.requires.last) in
    let at : f ≡ get_or g.fractions (c.args.k - 1) f = c.index-fractions-place.is ∙ ap (λ fs. get_or fs (c.args.k - 1) f) many in
    let q = err_from_is_err_and c.from_residual-in_err-check_product-2.result c.from_residual-in_err-check_product-2.ensures.1 in
    rw (q.1, q.2) (num-meets g c.new-space.result.coeffs field c.args.d.now c.args.c.now c.args.k f inside at c.num-num.result.now c.den-den.result.now c.num-num.ensures c.den-den.ensures c.in_err-check_product-2.field-0.0 c.in_err-check_product-2.ensures.degree)

pub returns-clause-fits : goal.returns-clause-fits
returns-clause-fits c whole common =
    let g = c.args.gens.now in
    let s = g.told.system in
    let told : c.gens.inside.system ≡ g.told = ap (λ (x : Generated). x.told) c.gens.view_is in
    let field = c.new-space.ensures.ring ∙ ap (λ (t : Told). t.system.p) (c.system.view_is ∙ told) in
    let f = c.index-fractions-place.result in
    let many : c.as_slice-fractions.result.now ≡ g.fractions = c.as_slice-fractions.ensures.value ∙ ap (λ (x : Generated). x.fractions) c.gens.view_is in
    let inside : c.args.k - 1 < length g.fractions = omega (arith, c.requires.first, c.requires.last) in
    let at : f ≡ get_or g.fractions (c.args.k - 1) f = c.index-fractions-place.is ∙ ap (λ fs. get_or fs (c.args.k - 1) f) many in
    generator-fits g c.new-space.result.coeffs field c.args.d.now c.args.c.now c.args.k f inside at c.num-num.result.now c.den-den.result.now c.num-num.ensures c.den-den.ensures whole common c.in_ok-check_product.ensures.fits c.in_ok-check_product-2.ensures.fits
