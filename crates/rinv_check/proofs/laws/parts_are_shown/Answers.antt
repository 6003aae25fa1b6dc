use Rattle.std.proofs.Common.{◌≡◌, ◌∙◌, ◌<◌, ◌&&◌, ℕ, List, [], Bool, length, get_or, sym, ap, arith}
use Rattle.rinv_algebra.specs.Residue.{residue_ops}
use Rattle.rinv_algebra.specs.Fits.{multiplies_out}
use Rattle.rinv_defs.specs.System.{Poly}
use Rattle.rinv_defs.specs.Laws.{parts}
use Rattle.rinv_parts.specs.LawNames.{law_of}
use Rattle.rinv_parts.specs.Parts.{part_at, part_fits}
use Rattle.rinv_check.proofs.LawFits.{places-more, places-stuck}
use Rattle.rinv_check.proofs.laws.parts_are_shown.Goals as goal

pub returns-then-not-branch : goal.returns-then-not-branch
returns-then-not-branch c =
    let s = c.args.system.now.system in
    let law = law_of c.args.law_parts.now.law in
    let k = c.parts.k in
    let test : ℕ → Bool = λ j. part_fits s law j && multiplies_out (residue_ops s.p) (part_at s law j) (get_or c.args.lists.now j []) c.args.generators.now in
    let below : k < length (parts s law) = omega (arith, c.parts-test.true, c.part_count-k-end.ensures) in
    let here : c.in_ok-part_is_shown.field-0 ≡ test k =
    c.in_ok-part_is_shown.ensures ∙ ap (λ (us : List Poly). part_fits s law k && multiplies_out (residue_ops s.p) (part_at s law k) us c.args.generators.now) c.cofactors_at-cofactors.ensures
    in
    sym (places-stuck test k (length (parts s law)) below (sym here ∙ c.if-not-branch.true))

pub parts-preserved : goal.parts-preserved
parts-preserved c =
    let s = c.args.system.now.system in
    let law = law_of c.args.law_parts.now.law in
    let k = c.parts.k in
    let test : ℕ → Bool = λ j. part_fits s law j && multiplies_out (residue_ops s.p) (part_at s law j) (get_or c.args.lists.now j []) c.args.generators.now in
    let here : c.in_ok-part_is_shown.field-0 ≡ test k =
    c.in_ok-part_is_shown.ensures ∙ ap (λ (us : List Poly). part_fits s law k && multiplies_out (residue_ops s.p) (part_at s law k) us c.args.generators.now) c.cofactors_at-cofactors.ensures
    in
    places-more test k c.parts.invariant (sym here ∙ c.if-not-branch.false)
