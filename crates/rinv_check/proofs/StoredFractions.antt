-- The fractions of a stored certificate and their cofactors, in their form.
--   fractions-are, cofactors-are       they are seen as they stand
--   fractions-form, cofactors-form     their form
--   as-many                            a list of cofactors for each fraction
use Rattle.std.proofs.Common.{◌≡◌, ◌+◌, List, length, map, true, ◌==◌, None, refl, ap, ◌∙◌, sym, subst}
use Rattle.std.specs.List.{list_all}
use Rattle.std.proofs.lemmas.Bool.{eqb-true}
use Rattle.rinv_algebra.proofs.Same.{both}
use Rattle.rinv_defs.specs.System.{System, Poly, group_count, space_count}
use Rattle.rinv_defs.specs.SystemForm.{are_good}
use Rattle.rinv_defs.specs.Invariant.{Fraction}
use Rattle.rinv_defs.specs.Format.{format_failure}
use Rattle.rinv_form.specs.Forms.{are_stored, is_stored_fraction}
use Rattle.rinv_form.proofs.FormParts.{form-fractions, form-invariance}
use Rattle.rinv_cert.specs.declared.certificate.CertificateOf.{CertificateOf}
use Rattle.rinv_cert.specs.Seen.{plain}
use Rattle.rinv_cert.proofs.Same.{map-same}

pub fractions-are : (fs : List Fraction) → map (λ x. (x.0, x.1)) fs ≡ fs
fractions-are fs = map-same (λ (x : Fraction). (x.0, x.1)) (λ x. refl) fs

pub cofactors-are : (uss : List (List Poly)) → map (map (λ f. f)) uss ≡ uss
cofactors-are uss = map-same (map (λ f. f)) (map-same (λ f. f) (λ f. refl)) uss

module _ (c : CertificateOf Poly) (form : format_failure (plain c) ≡ None) where
  abbrev s : System
  s = (plain c).system

  pub fractions-form : list_all (is_stored_fraction s.p (space_count s)) c.fractions ≡ true
  fractions-form = subst (λ (fs : List Fraction). list_all (is_stored_fraction s.p (space_count s)) fs ≡ true) (fractions-are c.fractions) (form-fractions (plain c) form)

  two : (length (plain c).invariance ≡ length (plain c).fractions) × (list_all (are_good s (length s.ideal) (group_count s + space_count s)) (plain c).invariance ≡ true)
  two =
      let h = both (length (plain c).invariance == length (plain c).fractions) (list_all (are_good s (length s.ideal) (group_count s + space_count s)) (plain c).invariance) (form-invariance (plain c) form) in
      (eqb-true (length (plain c).invariance) (length (plain c).fractions) h.0, h.1)

  pub cofactors-form : list_all (are_stored s.p (group_count s + space_count s) (length s.ideal)) c.invariance ≡ true
  cofactors-form = subst (λ (uss : List (List Poly)). list_all (are_stored s.p (group_count s + space_count s) (length s.ideal)) uss ≡ true) (cofactors-are c.invariance) two.1

  pub as-many : length c.invariance ≡ length c.fractions
  as-many =
      ap (λ (uss : List (List Poly)). length uss) (sym (cofactors-are c.invariance)) ∙ two.0 ∙ ap (λ (fs : List Fraction). length fs) (fractions-are c.fractions)
