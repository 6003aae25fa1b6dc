-- The certificate of generators is accepted, where its products are within the limit.
use Rattle.std.proofs.Common.{◌≡◌, true, [], ◌∷◌, ◌++◌, zip, sym, ◌∙◌, ap, subst}
use Rattle.std.specs.List.{list_all}
use Rattle.std.proofs.lemmas.List.Folds.{list_all-append}
use Rattle.rinv_algebra.proofs.Same.{both, and_true}
use Rattle.rinv_defs.specs.Laws.{all_laws}
use Rattle.rinv_defs.specs.Certificate.{Certificate, Kind, sound, full}
use Rattle.rinv_defs.specs.Format.{common_parts, law_parts, format_failure}
use Rattle.rinv_defs.specs.Conditions.{law_failure, invariance_failure}
use Rattle.rinv_defs.specs.Accepted.{first_failure, IsAccepted}
use Rattle.rinv_generators.specs.Generated.{Generated, IsGenerators}
use Rattle.rinv_acceptance.specs.Fits.{all_multiply, law_multiplies, change_multiplies}
use Rattle.rinv_acceptance.proofs.Forms.{first_none, all_conditions}
use Rattle.rinv_certification.specs.Made.{HasCommonPart, IsCertificateOf}
use Rattle.rinv_certification.proofs.CommonParts.{with_keys, common_form, law_form, laws_shown, changes_shown}
use Rattle.rinv_certification.proofs.FullParts.{full_accepted}

module _ (g : Generated) (gens : IsGenerators g) (c : Certificate) where
  -- a certificate is the one with its keys
  with_its_keys : (kind : Kind) → c.kind ≡ kind → HasCommonPart g c → c ≡ with_keys g gens kind c.basis c.inputs c.pairs c.relations
  with_its_keys kind is common =
      ap (λ k. record c { kind = k }) is
      ∙ ap (λ t. record c { kind = kind; system = t }) common.system
      ∙ ap (λ fs. record c { kind = kind; system = record g.told.system { section = [] }; fractions = fs }) common.fractions
      ∙ ap (λ us. record c { kind = kind; system = record g.told.system { section = [] }; fractions = g.fractions; invariance = us }) common.invariance
      ∙ ap (λ ls. record c { kind = kind; system = record g.told.system { section = [] }; fractions = g.fractions; invariance = g.proofs; laws = ls }) common.laws

  abbrev C : Certificate
  C = with_keys g gens sound c.basis c.inputs c.pairs c.relations

  sound_accepted : all_multiply C ≡ true → IsAccepted C
  unfolding all_multiply first_failure format_failure
  sound_accepted fits =
      let a = both (list_all (law_multiplies C) all_laws) (list_all (change_multiplies C.system) (zip g.fractions g.proofs)) fits in
      all_conditions ((1, format_failure C) ∷ (2, law_failure C) ∷ (8, invariance_failure C) ∷ []) (
        first_none (common_parts C ++ law_parts C) (list_all-append (λ p. p.1) (common_parts C) (law_parts C) ∙ and_true _ _ (common_form g gens sound c.basis c.inputs c.pairs c.relations) (law_form g gens sound c.basis c.inputs c.pairs c.relations)),
        (
          laws_shown g gens sound c.basis c.inputs c.pairs c.relations a.0,
          (
            changes_shown g gens sound c.basis c.inputs c.pairs c.relations a.1,
            tt,
          ),
        ),
      )

pub certificate_is_accepted : (g : Generated) (c : Certificate) → IsGenerators g → IsCertificateOf g c → all_multiply c ≡ true → IsAccepted c
certificate_is_accepted g c gens (IsCertificateOf.is_full none kind common basis) fits =
    subst (λ d. all_multiply d ≡ true → IsAccepted d) (sym (with_its_keys g gens c full kind common)) (full_accepted g gens none c basis) fits
certificate_is_accepted g c gens (IsCertificateOf.is_sound some kind common nothing) fits =
    subst (λ d. all_multiply d ≡ true → IsAccepted d) (sym (with_its_keys g gens c sound kind common)) (sound_accepted g gens c) fits
