use Rattle.std.proofs.Common.{sym, refl, ◌∙◌}
use Rattle.rinv_cert.specs.Seen.{system_by}
use Rattle.rinv_cert.proofs.Same.{map-same}
use Rattle.rinv_form.proofs.FirstParts.{lists_failure-sizes, ideal_fails, unit_fails, product_fails, inverse_fails, action_fails, lists_hold}
use Rattle.rinv_form.proofs.system_lists.system_lists.Goals as goal

pub returns-in_default-clause-part : goal.returns-in_default-clause-part
returns-in_default-clause-part c =
    let s = system_by (λ f. f) c.args.system.now in
    ideal_fails s c.args.sizes.now (lists_failure-sizes s c.args.sizes.now c.requires.field c.requires.group c.requires.space c.requires.whole) _ (sym (map-same (λ f. f) (λ f. refl) _)) (sym c.in_default.is ∙ c.in_ok-ideal.ensures)

pub returns-then-not-is_point-clause-part : goal.returns-then-not-is_point-clause-part
returns-then-not-is_point-clause-part c =
    let s = system_by (λ f. f) c.args.system.now in
    unit_fails s c.args.sizes.now (lists_failure-sizes s c.args.sizes.now c.requires.field c.requires.group c.requires.space c.requires.whole) _ _ (sym (map-same (λ f. f) (λ f. refl) _)) (sym c.in-Some.is ∙ c.in_ok-ideal.ensures)
    _ c.as_slice.ensures (sym c.if-not-is_point.ensures)

pub returns-in_default-2-clause-part : goal.returns-in_default-2-clause-part
returns-in_default-2-clause-part c =
    let s = system_by (λ f. f) c.args.system.now in
    product_fails s c.args.sizes.now (lists_failure-sizes s c.args.sizes.now c.requires.field c.requires.group c.requires.space c.requires.whole) _ _ (sym (map-same (λ f. f) (λ f. refl) _)) (sym c.in-Some.is ∙ c.in_ok-ideal.ensures)
    _ c.as_slice.ensures (sym c.if-not-is_point.ensures)
    _ (sym (map-same (λ f. f) (λ f. refl) _)) (sym c.in_default-2.is ∙ c.in_ok-product.ensures)

pub returns-in_default-3-clause-part : goal.returns-in_default-3-clause-part
returns-in_default-3-clause-part c =
    let s = system_by (λ f. f) c.args.system.now in
    inverse_fails s c.args.sizes.now (lists_failure-sizes s c.args.sizes.now c.requires.field c.requires.group c.requires.space c.requires.whole) _ _ (sym (map-same (λ f. f) (λ f. refl) _)) (sym c.in-Some.is ∙ c.in_ok-ideal.ensures)
    _ c.as_slice.ensures (sym c.if-not-is_point.ensures)
    _ (sym (map-same (λ f. f) (λ f. refl) _)) _ (sym c.in-Some-2.is ∙ c.in_ok-product.ensures)
    _ (sym (map-same (λ f. f) (λ f. refl) _)) (sym c.in_default-3.is ∙ c.in_ok-inverse.ensures)

pub returns-in_default-4-clause-part : goal.returns-in_default-4-clause-part
returns-in_default-4-clause-part c =
    let s = system_by (λ f. f) c.args.system.now in
    action_fails s c.args.sizes.now (lists_failure-sizes s c.args.sizes.now c.requires.field c.requires.group c.requires.space c.requires.whole) _ _ (sym (map-same (λ f. f) (λ f. refl) _)) (sym c.in-Some.is ∙ c.in_ok-ideal.ensures)
    _ c.as_slice.ensures (sym c.if-not-is_point.ensures)
    _ (sym (map-same (λ f. f) (λ f. refl) _)) _ (sym c.in-Some-2.is ∙ c.in_ok-product.ensures)
    _ (sym (map-same (λ f. f) (λ f. refl) _)) _ (sym c.in-Some-3.is ∙ c.in_ok-inverse.ensures)
    _ (sym (map-same (λ f. f) (λ f. refl) _)) (sym c.in_default-4.is ∙ c.in_ok-action.ensures)

pub returns-clause-form : goal.returns-clause-form
returns-clause-form c =
    let s = system_by (λ f. f) c.args.system.now in
    lists_hold s c.args.sizes.now (lists_failure-sizes s c.args.sizes.now c.requires.field c.requires.group c.requires.space c.requires.whole) _ _ (sym (map-same (λ f. f) (λ f. refl) _)) (sym c.in-Some.is ∙ c.in_ok-ideal.ensures)
    _ c.as_slice.ensures (sym c.if-not-is_point.ensures)
    _ (sym (map-same (λ f. f) (λ f. refl) _)) _ (sym c.in-Some-2.is ∙ c.in_ok-product.ensures)
    _ (sym (map-same (λ f. f) (λ f. refl) _)) _ (sym c.in-Some-3.is ∙ c.in_ok-inverse.ensures)
    _ (sym (map-same (λ f. f) (λ f. refl) _)) _ (sym c.in-Some-4.is ∙ c.in_ok-action.ensures)
