use Rattle.std.proofs.Common.{◌≡◌, true, get_or, ap, subst, arith}
use Rattle.std.proofs.lemmas.Result.{err_from_is_err_and}
use Rattle.rinv_ring.specs.Fault.{DegreesMeet}
use Rattle.rinv_text.specs.Told.{Told}
use Rattle.rinv_defs.specs.Conditions.{law_fits}
use Rattle.rinv_parts.specs.declared.law.LawName.TheVariants.{L1}
use Rattle.rinv_parts.specs.LawNames.{law_of}
use Rattle.rinv_laws.proofs.LawsInTurn.{names, rank-listed}
use Rattle.rinv_generators.specs.Generated.{Generated, IsGenerators}
use Rattle.rinv_certify.specs.Meets.{PartsMeet}
use Rattle.rinv_certify.proofs.LawDegrees.{laws-count, parts-met}
use Rattle.rinv_certify.proofs.LawProducts.{law-more, laws-fit}
use Rattle.rinv_certify.proofs.laws.laws_fit.Goals as goal

pub returns-in_err-parts_fit-clause-degree : goal.returns-in_err-parts_fit-clause-degree
returns-in_err-parts_fit-clause-degree c =
    let g = c.args.gens.now in
    let told : c.gens.inside.system ≡ g.told = ap (λ (x : Generated). x.told) c.gens.view_is in
    let law = law_of (get_or names c.laws.k L1) in
    let fault = c.in_err-parts_fit.field-0.0 in
    let q = err_from_is_err_and c.from_residual.result c.from_residual.ensures.1 in
    rw (q.1, q.2) (parts-met g law fault (subst (λ (t : Told). DegreesMeet (PartsMeet t.system law) fault) told c.in_err-parts_fit.ensures.degree))

pub laws-preserved : goal.laws-preserved
laws-preserved c =
    let g = c.args.gens.now in
    let told : c.gens.inside.system ≡ g.told = ap (λ (x : Generated). x.told) c.gens.view_is in
    let law = law_of (get_or names c.laws.k L1) in
    law-more (λ l. law_fits g.told.system l ≡ true) c.laws.k law (rank-listed c.laws.k c.laws-test.true) c.laws.invariant (subst (λ (t : Told). law_fits t.system law ≡ true) told c.in_ok-parts_fit.ensures.fits)

pub returns-clause-fits : goal.returns-clause-fits
returns-clause-fits c =
    let g = c.args.gens.now in
    let many = laws-count (λ us. us.items) (λ uss. uss.items) c.gens.inside.laws.cofactors.items g.laws (ap (λ (x : Generated). x.laws) c.gens.view_is) in
    laws-fit g (subst IsGenerators c.gens.view_is c.gens.invariant) c.laws.k (omega (arith, c.laws-test.false)) c.laws.invariant c.proofs.k (omega (arith, c.proofs-test.false, c.len-count.ensures, many)) c.proofs.invariant
