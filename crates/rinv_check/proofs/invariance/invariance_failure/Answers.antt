use Rattle.std.proofs.Common.{◌≡◌, ◌∙◌, ◌+◌, List, length, refl, sym, ap, subst}
use Rattle.rinv_defs.specs.System.{Poly}
use Rattle.rinv_defs.specs.Invariant.{Fraction}
use Rattle.rinv_defs.specs.Conditions.{invariance_failure}
use Rattle.rinv_cert.specs.Seen.{plain}
use Rattle.rinv_parts.specs.Points.{ArePolynomials}
use Rattle.rinv_parts.proofs.Stored.{normal-over, stored-count, stored-normal, stored-over, stored-same}
use Rattle.rinv_identities.proofs.SeenParts.{action-count, action-normal, ideal-normal, same-list}
use Rattle.rinv_check.proofs.Changes.{cofactors-all, fractions-all, failure-of_system}
use Rattle.rinv_check.proofs.StoredFractions.{fractions-are, cofactors-are, fractions-form, cofactors-form, as-many}
use Rattle.rinv_check.proofs.invariance.invariance_failure.Goals as goal

pub widened_ideal-requires-clause-polynomials : goal.widened_ideal-requires-clause-polynomials
widened_ideal-requires-clause-polynomials c =
    let sizes = c.sizes_in-sizes.ensures in
    let s = c.args.stored.now.system in
    normal-over c.new-2.result.coeffs s.field c.new-group.result.vars (length s.group) c.as_slice.result.now s.ideal (c.new-2.ensures.ring ∙ sizes.field) (c.new-group.ensures.count ∙ sizes.group) c.as_slice.ensures
    (ideal-normal c.args.stored.now c.requires)

pub first_not_shown-requires-clause-many : goal.first_not_shown-requires-clause-many
first_not_shown-requires-clause-many c =
    ap (λ (fs : List Poly). length fs) c.as_slice-2.ensures ∙ action-count c.args.stored.now c.requires ∙ sym (c.new.ensures.count ∙ c.sizes_in-sizes.ensures.space)

pub first_not_shown-requires-clause-action : goal.first_not_shown-requires-clause-action
first_not_shown-requires-clause-action c =
    let sizes = c.sizes_in-sizes.ensures in
    let s = c.args.stored.now.system in
    normal-over c.new-2.result.coeffs s.field c.new-2.result.vars (length s.group + length s.space) c.as_slice-2.result.now s.action (c.new-2.ensures.ring ∙ sizes.field) (c.new-2.ensures.count ∙ sizes.whole) c.as_slice-2.ensures
    (action-normal c.args.stored.now c.requires)

pub first_not_shown-requires-clause-ideal : goal.first_not_shown-requires-clause-ideal
first_not_shown-requires-clause-ideal c =
    let r = c.new-2.result in
    subst (ArePolynomials r.coeffs r.vars) (sym c.deref.ensures.value) (stored-normal r.coeffs r.vars _ c.in_ok-ideal.ideal.items c.in_ok-ideal.ensures)

pub first_not_shown-requires-clause-as_many : goal.first_not_shown-requires-clause-as_many
first_not_shown-requires-clause-as_many c =
    ap (λ (uss : List (List Poly)). length uss) c.as_slice-4.ensures ∙ as-many c.args.stored.now c.requires ∙ sym (ap (λ (fs : List Fraction). length fs) c.as_slice-3.ensures)

pub first_not_shown-requires-clause-fractions : goal.first_not_shown-requires-clause-fractions
first_not_shown-requires-clause-fractions c =
    let sizes = c.sizes_in-sizes.ensures in
    let stored = c.args.stored.now in
    fractions-all stored.system.field (length stored.system.space) c.new-2.result.coeffs c.new.result.vars stored.fractions c.as_slice-3.result.now (c.new-2.ensures.ring ∙ sizes.field) (c.new.ensures.count ∙ sizes.space) c.as_slice-3.ensures
    (fractions-form stored c.requires)

pub first_not_shown-requires-clause-cofactors : goal.first_not_shown-requires-clause-cofactors
first_not_shown-requires-clause-cofactors c =
    let sizes = c.sizes_in-sizes.ensures in
    let stored = c.args.stored.now in
    let s = (plain stored).system in
    let r = c.new-2.result in
    let many : length c.deref.result.now ≡ length s.ideal =
    ap (λ (fs : List Poly). length fs) c.deref.ensures.value ∙ stored-count r.coeffs r.vars c.as_slice.result.now c.in_ok-ideal.ideal.items c.in_ok-ideal.ensures
    ∙ ap (λ (fs : List Poly). length fs) (c.as_slice.ensures ∙ sym (same-list stored.system.ideal))
    in
    cofactors-all s.p (length stored.system.group + length stored.system.space) (length s.ideal) r.coeffs r.vars (length c.deref.result.now) stored.invariance c.as_slice-4.result.now (c.new-2.ensures.ring ∙ sizes.field) (c.new-2.ensures.count ∙ sizes.whole) many c.as_slice-4.ensures
    (cofactors-form stored c.requires)

pub returns : goal.returns
unfolding invariance_failure
returns c =
    let sizes = c.sizes_in-sizes.ensures in
    let stored = c.args.stored.now in
    let s = (plain stored).system in
    let r = c.new-2.result in
    let field = c.new-2.ensures.ring ∙ sizes.field in
    let ideal = stored-over s.p r.coeffs r.vars r.vars s.ideal c.deref.result.now c.as_slice.result.now c.in_ok-ideal.ideal.items (sym field) refl (same-list stored.system.ideal ∙ sym c.as_slice.ensures) c.deref.ensures.value c.in_ok-ideal.ensures in
    c.in_ok-failure.ensures
    ∙ failure-of_system s r.coeffs c.sizes_in-sizes.result.group c.as_slice-2.result.now c.deref.result.now (plain stored).fractions c.as_slice-3.result.now (plain stored).invariance c.as_slice-4.result.now
    field sizes.group (c.as_slice-2.ensures ∙ sym (same-list stored.system.action)) (c.as_slice-3.ensures ∙ sym (fractions-are stored.fractions)) (c.as_slice-4.ensures ∙ sym (cofactors-are stored.invariance)) (stored-same s.p r.vars s.ideal c.deref.result.now ideal)
