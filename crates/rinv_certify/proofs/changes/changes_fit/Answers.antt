use Rattle.std.proofs.Common.{◌≡◌, ℕ, [], List, length, get_or, sym, ap, subst₂, true, arith}
use Rattle.rinv_text.specs.Told.{Told}
use Rattle.rinv_defs.specs.System.{Poly}
use Rattle.rinv_parts.specs.Points.{AreStored}
use Rattle.rinv_change.specs.Changes.{change_count}
use Rattle.rinv_acceptance.specs.Fits.{change_multiplies}
use Rattle.rinv_generators.specs.Generated.{Generated}
use Rattle.rinv_certify.proofs.ChangeProducts.{zip-all}
use Rattle.rinv_certify.proofs.LawProducts.{below-more}
use Rattle.rinv_certify.proofs.changes.changes_fit.Goals as goal

pub fractions-init : goal.fractions-init
fractions-init c j h = absurd (omega (arith, h))

pub change_fits-requires-clause-inside : goal.change_fits-requires-clause-inside
change_fits-requires-clause-inside c = let many = ap (λ (x : Generated). length x.fractions) c.gens.view_is in omega (arith, c.fractions-test.true, c.len-count.ensures, many)

pub change_fits-requires-clause-ideal : goal.change_fits-requires-clause-ideal
change_fits-requires-clause-ideal c =
    let told = ap (λ (x : Generated). x.told) c.gens.view_is in
    subst₂ (λ (t : Told) (fs : List Poly). AreStored t.system.p (change_count t.system) t.system.ideal fs) told (sym c.deref.ensures.value) c.in_ok-ideal.ensures

pub fractions-preserved : goal.fractions-preserved
fractions-preserved c =
    let g = c.args.gens.now in
    below-more (λ (j : ℕ). change_multiplies g.told.system (get_or g.fractions j ([], []), get_or g.proofs j []) ≡ true) c.fractions.k c.fractions.invariant c.in_ok-change_fits.ensures.fits

pub returns-clause-fits : goal.returns-clause-fits
returns-clause-fits c =
    let g = c.args.gens.now in
    let many = ap (λ (x : Generated). length x.fractions) c.gens.view_is in
    zip-all (change_multiplies g.told.system) g.fractions g.proofs ([], []) [] (λ j h. c.fractions.invariant j (omega (arith, h, c.fractions-test.false, c.len-count.ensures, many)))
