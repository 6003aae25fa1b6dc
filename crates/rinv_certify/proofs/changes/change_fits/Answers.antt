use Rattle.std.proofs.Common.{◌≡◌, ◌∙◌, [], List, length, get_or, map, sym, ap, subst, subst₂, true, arith}
use Rattle.std.proofs.lemmas.List.{get_or_default, length-map}
use Rattle.std.proofs.lemmas.Result.{err_from_is_err_and}
use Rattle.rinv_ring.specs.Fault.{DegreesMeet}
use Rattle.rinv_frac.specs.Fractions.{IsStored}
use Rattle.rinv_text.specs.Told.{Told}
use Rattle.rinv_defs.specs.System.{Poly, space_count}
use Rattle.rinv_defs.specs.Invariant.{Fraction}
use Rattle.rinv_parts.specs.Points.{ArePolynomials, AreStored}
use Rattle.rinv_change.specs.Changes.{change_count}
use Rattle.rinv_change.specs.Cofactors.{ProvesInvariance}
use Rattle.rinv_acceptance.specs.Fits.{change_multiplies}
use Rattle.rinv_generators.specs.Generated.{Generated, IsGenerators}
use Rattle.rinv_certify.specs.Meets.{ChangeProductsMeet}
use Rattle.rinv_certify.proofs.ChangeProducts.{changes-meet}
use Rattle.rinv_certify.proofs.LawDegrees.{seen-at}
use Rattle.rinv_certify.proofs.Taken.{holds-at}
use Rattle.rinv_certify.proofs.WholeParts.{all_zip-long, zip-holds}
use Rattle.rinv_certify.proofs.changes.change_fits.Goals as goal

pub bounds-fractions-k : goal.bounds-fractions-k
bounds-fractions-k c =
    let e = ap (λ xs. length xs) (c.as_slice-fractions.ensures.value ∙ ap (λ (x : Generated). x.fractions) c.gens.view_is) in
    omega (arith, c.requires.inside, e)

pub bounds-proofs-k : goal.bounds-proofs-k
bounds-proofs-k c =
    let g = c.args.gens.now in
    let gens = subst IsGenerators c.gens.view_is c.gens.invariant in
    let many = all_zip-long (ProvesInvariance g.told.system g.group) g.fractions g.proofs gens.proofs in
    let seen : map (λ us. us.items) c.as_slice-proofs.result.now ≡ g.proofs = ap (λ xs. map (λ us. us.items) xs) c.as_slice-proofs.ensures.value ∙ ap (λ (x : Generated). x.proofs) c.gens.view_is in
    let alike = ap (λ xs. length xs) seen in
    let long = length-map c.as_slice-proofs.result.now (λ us. us.items) in
    omega (arith, c.requires.inside, many, alike, long)

pub products_fit-requires-clause-fraction : goal.products_fit-requires-clause-fraction
products_fit-requires-clause-fraction c =
    let g = c.args.gens.now in
    let k = c.args.k in
    let told : c.gens.inside.system ≡ g.told = ap (λ (x : Generated). x.told) c.gens.view_is in
    let gens = subst IsGenerators c.gens.view_is c.gens.invariant in
    let f = c.index-fractions-k.result in
    let at : f ≡ get_or g.fractions k f = c.index-fractions-k.is ∙ ap (λ fs. get_or fs k f) (c.as_slice-fractions.ensures.value ∙ ap (λ (x : Generated). x.fractions) c.gens.view_is) in
    subst (λ (t : Told). IsStored t.system.p (space_count t.system) f) (sym told) (holds-at (IsStored g.told.system.p (space_count g.told.system)) g.fractions k f gens.stored c.requires.inside at)

pub products_fit-requires-clause-number : goal.products_fit-requires-clause-number
products_fit-requires-clause-number c =
    let g = c.args.gens.now in
    let s = g.told.system in
    let k = c.args.k in
    let told : c.gens.inside.system ≡ g.told = ap (λ (x : Generated). x.told) c.gens.view_is in
    let gens = subst IsGenerators c.gens.view_is c.gens.invariant in
    let f = c.index-fractions-k.result in
    let e = c.index-proofs-k.result in
    let at : f ≡ get_or g.fractions k f = c.index-fractions-k.is ∙ ap (λ fs. get_or fs k f) (c.as_slice-fractions.ensures.value ∙ ap (λ (x : Generated). x.fractions) c.gens.view_is) in
    let seen = ap (λ xs. map (λ us. us.items) xs) c.as_slice-proofs.ensures.value ∙ ap (λ (x : Generated). x.proofs) c.gens.view_is in
    let many = all_zip-long (ProvesInvariance s g.group) g.fractions g.proofs gens.proofs in
    let us_at = sym (seen-at (λ us. us.items) c.as_slice-proofs.result.now g.proofs k e seen (omega (arith, c.requires.inside, many)) c.index-proofs-k.is) in
    let proves = zip-holds (ProvesInvariance s g.group) g.fractions g.proofs k f e.items gens.proofs c.requires.inside at us_at in
    ap (λ us. length us) c.as_slice-cofactors.ensures.value ∙ proves.number ∙ ap (λ (t : Told). length t.system.ideal) (sym told)

pub products_fit-requires-clause-cofactors : goal.products_fit-requires-clause-cofactors
products_fit-requires-clause-cofactors c =
    let g = c.args.gens.now in
    let s = g.told.system in
    let k = c.args.k in
    let told : c.gens.inside.system ≡ g.told = ap (λ (x : Generated). x.told) c.gens.view_is in
    let gens = subst IsGenerators c.gens.view_is c.gens.invariant in
    let f = c.index-fractions-k.result in
    let e = c.index-proofs-k.result in
    let at : f ≡ get_or g.fractions k f = c.index-fractions-k.is ∙ ap (λ fs. get_or fs k f) (c.as_slice-fractions.ensures.value ∙ ap (λ (x : Generated). x.fractions) c.gens.view_is) in
    let seen = ap (λ xs. map (λ us. us.items) xs) c.as_slice-proofs.ensures.value ∙ ap (λ (x : Generated). x.proofs) c.gens.view_is in
    let many = all_zip-long (ProvesInvariance s g.group) g.fractions g.proofs gens.proofs in
    let us_at = sym (seen-at (λ us. us.items) c.as_slice-proofs.result.now g.proofs k e seen (omega (arith, c.requires.inside, many)) c.index-proofs-k.is) in
    let proves = zip-holds (ProvesInvariance s g.group) g.fractions g.proofs k f e.items gens.proofs c.requires.inside at us_at in
    subst₂ (λ (t : Told) (us : List Poly). ArePolynomials t.system.p (change_count t.system) us) (sym told) (sym c.as_slice-cofactors.ensures.value) proves.normal

pub products_fit-requires-clause-ideal : goal.products_fit-requires-clause-ideal
products_fit-requires-clause-ideal c =
    let told = ap (λ (x : Generated). x.told) c.gens.view_is in
    subst (λ (t : Told). AreStored t.system.p (change_count t.system) t.system.ideal c.args.ideal.now) (sym told) c.requires.ideal

pub returns-in_err-products_fit-clause-degree : goal.returns-in_err-products_fit-clause-degree
returns-in_err-products_fit-clause-degree c =
    let g = c.args.gens.now in
    let s = g.told.system in
    let k = c.args.k in
    let told : c.gens.inside.system ≡ g.told = ap (λ (x : Generated). x.told) c.gens.view_is in
    let gens = subst IsGenerators c.gens.view_is c.gens.invariant in
    let f = c.index-fractions-k.result in
    let e = c.index-proofs-k.result in
    let at : f ≡ get_or g.fractions k f = c.index-fractions-k.is ∙ ap (λ fs. get_or fs k f) (c.as_slice-fractions.ensures.value ∙ ap (λ (x : Generated). x.fractions) c.gens.view_is) in
    let seen = ap (λ xs. map (λ us. us.items) xs) c.as_slice-proofs.ensures.value ∙ ap (λ (x : Generated). x.proofs) c.gens.view_is in
    let many = all_zip-long (ProvesInvariance s g.group) g.fractions g.proofs gens.proofs in
    let us_at = sym (seen-at (λ us. us.items) c.as_slice-proofs.result.now g.proofs k e seen (omega (arith, c.requires.inside, many)) c.index-proofs-k.is) in
    let proves = zip-holds (ProvesInvariance s g.group) g.fractions g.proofs k f e.items gens.proofs c.requires.inside at us_at in
    let fault = c.in_err-products_fit.field-0.0 in
    let q = err_from_is_err_and c.from_residual.result c.from_residual.ensures.1 in
    rw (q.1, q.2) (changes-meet g k f e.items c.args.ideal.now fault c.requires.inside at proves c.requires.ideal
    (subst₂ (λ (t : Told) (us : List Poly). DegreesMeet (ChangeProductsMeet t.system f us c.args.ideal.now) fault) told c.as_slice-cofactors.ensures.value c.in_err-products_fit.ensures.degree))

pub returns-clause-fits : goal.returns-clause-fits
returns-clause-fits c =
    let g = c.args.gens.now in
    let s = g.told.system in
    let k = c.args.k in
    let told : c.gens.inside.system ≡ g.told = ap (λ (x : Generated). x.told) c.gens.view_is in
    let f = c.index-fractions-k.result in
    let e = c.index-proofs-k.result in
    let at : f ≡ get_or g.fractions k f = c.index-fractions-k.is ∙ ap (λ fs. get_or fs k f) (c.as_slice-fractions.ensures.value ∙ ap (λ (x : Generated). x.fractions) c.gens.view_is) in
    let seen = ap (λ xs. map (λ us. us.items) xs) c.as_slice-proofs.ensures.value ∙ ap (λ (x : Generated). x.proofs) c.gens.view_is in
    let many = all_zip-long (ProvesInvariance s g.group) g.fractions g.proofs (subst IsGenerators c.gens.view_is c.gens.invariant).proofs in
    let us_at = sym (seen-at (λ us. us.items) c.as_slice-proofs.result.now g.proofs k e seen (omega (arith, c.requires.inside, many)) c.index-proofs-k.is) in
    subst₂ (λ (h : Fraction) (us : List Poly). change_multiplies s (h, us) ≡ true) (at ∙ get_or_default g.fractions k f ([], []) c.requires.inside) (us_at ∙ get_or_default g.proofs k e.items [] (omega (arith, c.requires.inside, many)))
    (subst₂ (λ (t : Told) (us : List Poly). change_multiplies t.system (f, us) ≡ true) told c.as_slice-cofactors.ensures.value c.in_ok-products_fit.ensures.fits)
