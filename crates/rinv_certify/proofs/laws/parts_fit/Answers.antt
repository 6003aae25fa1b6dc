use Rattle.std.proofs.Common.{◌≡◌, ◌≤◌, ℕ, true, length, subst, arith}
use Rattle.rinv_defs.specs.Laws.{parts}
use Rattle.rinv_parts.specs.LawNames.{law_of}
use Rattle.rinv_parts.specs.Parts.{part_fits}
use Rattle.rinv_certify.proofs.LawProducts.{below-more, law-made}
use Rattle.rinv_certify.proofs.laws.parts_fit.Goals as goal

pub parts-init : goal.parts-init
parts-init c j h = absurd (omega (arith, h))

pub parts-preserved : goal.parts-preserved
parts-preserved c =
    let s = c.args.system.now.system in
    below-more (λ (j : ℕ). part_fits s (law_of c.args.law) j ≡ true) c.parts.k c.parts.invariant (subst (λ law. part_fits s (law_of law) c.parts.k ≡ true) c.in_ok-parts.ensures.law c.in_ok-part_at.ensures.fits)

pub returns-clause-fits : goal.returns-clause-fits
returns-clause-fits c =
    let s = c.args.system.now.system in
    let past : length (parts s (law_of c.args.law)) ≤ c.parts.k = omega (arith, c.parts-test.false, c.part_count-count.ensures) in
    law-made s (law_of c.args.law) c.parts.k c.requires past c.parts.invariant
