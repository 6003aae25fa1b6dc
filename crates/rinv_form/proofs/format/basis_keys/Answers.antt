use Rattle.std.proofs.Common.{◌∙◌, sym, refl}
use Rattle.rinv_cert.specs.Seen.{plain}
use Rattle.rinv_cert.proofs.Same.{map-same}
use Rattle.rinv_form.specs.ItemForms.{is_basis_form, is_pair_form, is_relation_form}
use Rattle.rinv_form.proofs.Kept.{kept-some}
use Rattle.rinv_form.proofs.FormatParts.{basis-fails, inputs-fail, pairs-fail, relations-fail, basis-hold, stored-same}
use Rattle.rinv_form.proofs.format.basis_keys.Goals as goal

pub returns-in_default-clause-part : goal.returns-in_default-clause-part
returns-in_default-clause-part c =
    basis-fails (plain c.args.certificate.now) c.args.sizes.now c.requires.sized _ refl (sym c.in_default.is ∙ c.in_ok-basis.ensures)

pub returns-in_default-2-clause-part : goal.returns-in_default-2-clause-part
returns-in_default-2-clause-part c =
    inputs-fail (plain c.args.certificate.now) c.args.sizes.now c.requires.sized _ refl _ (sym c.in-Some.is ∙ c.in_ok-basis.ensures) _ refl _ (sym (map-same _ (map-same (λ f. f) (λ f. refl)) _))
    (sym c.in_default-2.is ∙ c.in_ok-inputs.ensures)

pub returns-in_default-3-clause-part : goal.returns-in_default-3-clause-part
returns-in_default-3-clause-part c =
    pairs-fail (plain c.args.certificate.now) c.args.sizes.now c.requires.sized _ refl _ (sym c.in-Some.is ∙ c.in_ok-basis.ensures) _ refl _ (sym (map-same _ (map-same (λ f. f) (λ f. refl)) _))
    _ (sym c.in-Some-2.is ∙ c.in_ok-inputs.ensures) _ refl (sym c.in_default-3.is ∙ c.in_ok-pairs.ensures)

pub returns-in_default-4-clause-part : goal.returns-in_default-4-clause-part
returns-in_default-4-clause-part c =
    relations-fail (plain c.args.certificate.now) c.args.sizes.now c.requires.sized _ refl _ (sym c.in-Some.is ∙ c.in_ok-basis.ensures) _ refl _ (sym (map-same _ (map-same (λ f. f) (λ f. refl)) _))
    _ (sym c.in-Some-2.is ∙ c.in_ok-inputs.ensures) _ refl _ (sym c.in-Some-3.is ∙ c.in_ok-pairs.ensures) _ refl (sym c.in_default-4.is ∙ c.in_ok-relations.ensures)

pub returns-clause-form : goal.returns-clause-form
returns-clause-form c =
    basis-hold (plain c.args.certificate.now) c.args.sizes.now c.requires.sized _ refl _ (sym c.in-Some.is ∙ c.in_ok-basis.ensures) _ refl _ (sym (map-same _ (map-same (λ f. f) (λ f. refl)) _))
    _ (sym c.in-Some-2.is ∙ c.in_ok-inputs.ensures) _ refl _ (sym c.in-Some-3.is ∙ c.in_ok-pairs.ensures) _ refl _ (sym c.in-Some-4.is ∙ c.in_ok-relations.ensures)

pub returns-clause-basis : goal.returns-clause-basis
returns-clause-basis c = stored-same (is_basis_form c.args.sizes.now) _ _ (sym c.in-Some.is ∙ c.in_ok-basis.ensures)

pub returns-clause-inputs : goal.returns-clause-inputs
returns-clause-inputs c = kept-some _ _ _ (sym c.in-Some-2.is ∙ c.in_ok-inputs.ensures)

pub returns-clause-pairs : goal.returns-clause-pairs
returns-clause-pairs c = stored-same (is_pair_form c.args.sizes.now) _ _ (sym c.in-Some-3.is ∙ c.in_ok-pairs.ensures)

pub returns-clause-relations : goal.returns-clause-relations
returns-clause-relations c = stored-same (is_relation_form c.args.sizes.now) _ _ (sym c.in-Some-4.is ∙ c.in_ok-relations.ensures)
