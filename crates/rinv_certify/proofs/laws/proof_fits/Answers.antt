use Rattle.std.proofs.Common.{◌≡◌, ◌∙◌, List, map, All, true, sym, ap, subst, subst₂}
use Rattle.std.specs.List.{list_all}
use Rattle.std.proofs.lemmas.Result.{err_from_is_err_and}
use Rattle.rinv_algebra.specs.Residue.{residue_ops}
use Rattle.rinv_algebra.specs.Fits.{combination_fits}
use Rattle.rinv_ring.specs.Fault.{DegreesMeet}
use Rattle.rinv_text.specs.Told.{Told}
use Rattle.rinv_defs.specs.System.{Poly, ideal_copies}
use Rattle.rinv_defs.specs.Laws.{copies}
use Rattle.rinv_parts.specs.LawNames.{law_of}
use Rattle.rinv_generators.specs.Generated.{Generated, IsGenerators}
use Rattle.rinv_certify.specs.Meets.{ArraysMeet}
use Rattle.rinv_certify.specs.Parts.{AreCofactors}
use Rattle.rinv_certify.proofs.LawDegrees.{arrays-met, cofactors-of, proof-there, proves-at, seen-at}
use Rattle.rinv_certify.proofs.laws.proof_fits.Goals as goal

pub arrays_fit-requires-clause-arrays : goal.arrays_fit-requires-clause-arrays
arrays_fit-requires-clause-arrays c =
    let g = c.args.gens.now in
    let e = c.index-proofs-k.result in
    let law = law_of e.0 in
    let uss : List (List Poly) = map (λ us. us.items) e.1.items in
    let told : c.gens.inside.system ≡ g.told = ap (λ (x : Generated). x.told) c.gens.view_is in
    let at = seen-at (λ x. (law_of x.0, map (λ us. us.items) x.1.items)) c.as_slice-proofs.result.now g.laws c.args.k e (ap (λ xs. map (λ x. (law_of x.0, map (λ us. us.items) x.1.items)) xs) c.as_slice-proofs.ensures.value ∙ ap (λ (x : Generated). x.laws) c.gens.view_is) c.requires.inside c.index-proofs-k.is in
    let proves = proves-at g c.args.k c.requires.inside law uss at (subst IsGenerators c.gens.view_is c.gens.invariant) in
    subst₂ (λ (t : Told) xs. All (λ us. AreCofactors t.system law us.items) xs) (sym told) (sym c.deref.ensures.value) (cofactors-of (λ us. us.items) g.told.system g.group law e.1.items proves)

pub returns-in_err-arrays_fit-clause-degree : goal.returns-in_err-arrays_fit-clause-degree
returns-in_err-arrays_fit-clause-degree c =
    let g = c.args.gens.now in
    let e = c.index-proofs-k.result in
    let law = law_of e.0 in
    let uss : List (List Poly) = map (λ us. us.items) e.1.items in
    let told : c.gens.inside.system ≡ g.told = ap (λ (x : Generated). x.told) c.gens.view_is in
    let at = seen-at (λ x. (law_of x.0, map (λ us. us.items) x.1.items)) c.as_slice-proofs.result.now g.laws c.args.k e (ap (λ xs. map (λ x. (law_of x.0, map (λ us. us.items) x.1.items)) xs) c.as_slice-proofs.ensures.value ∙ ap (λ (x : Generated). x.laws) c.gens.view_is) c.requires.inside c.index-proofs-k.is in
    let proves = proves-at g c.args.k c.requires.inside law uss at (subst IsGenerators c.gens.view_is c.gens.invariant) in
    let fault = c.in_err-arrays_fit.field-0.0 in
    let q = err_from_is_err_and c.from_residual.result c.from_residual.ensures.1 in
    rw (q.1, q.2) (arrays-met g law uss fault proves (subst₂ (λ (t : Told) xs. DegreesMeet (ArraysMeet t.system law (map (λ us. us.items) xs)) fault) told c.deref.ensures.value c.in_err-arrays_fit.ensures.degree))

pub returns-clause-fits : goal.returns-clause-fits
returns-clause-fits c =
    let g = c.args.gens.now in
    let e = c.index-proofs-k.result in
    let law = law_of e.0 in
    let uss : List (List Poly) = map (λ us. us.items) e.1.items in
    let told : c.gens.inside.system ≡ g.told = ap (λ (x : Generated). x.told) c.gens.view_is in
    let at = seen-at (λ x. (law_of x.0, map (λ us. us.items) x.1.items)) c.as_slice-proofs.result.now g.laws c.args.k e (ap (λ xs. map (λ x. (law_of x.0, map (λ us. us.items) x.1.items)) xs) c.as_slice-proofs.ensures.value ∙ ap (λ (x : Generated). x.laws) c.gens.view_is) c.requires.inside c.index-proofs-k.is in
    proof-there g c.args.k c.requires.inside law uss at (subst₂ (λ (t : Told) xs. list_all (λ us. combination_fits (residue_ops t.system.p) us (ideal_copies t.system (copies law))) (map (λ us. us.items) xs) ≡ true) told c.deref.ensures.value c.in_ok-arrays_fit.ensures.fits)
