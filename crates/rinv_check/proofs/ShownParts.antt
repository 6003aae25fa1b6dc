-- A part of a law is shown by its cofactors, or does not fit.
--   part-shown, part-unfit
--   stored-list            a list of cofactors in its form
use Rattle.std.proofs.Common.{◌≡◌, ℕ, List, [], ◌∷◌, length, Bool, true, false, ◌&&◌, ◌==◌, IsTrue, nat_lt, sym, ap, ◌∙◌}
use Rattle.std.specs.List.{AllZip, list_all}
use Rattle.std.proofs.lemmas.Bool.{eqb-true}
use Rattle.std.proofs.lemmas.List.Elements.{All-nil, All-cons}
use Rattle.rinv_algebra.specs.Ring.{IsSame}
use Rattle.rinv_algebra.specs.Residue.{residue_ops}
use Rattle.rinv_algebra.specs.Polynomial.{poly_ops}
use Rattle.rinv_algebra.specs.Normal.{IsNormal}
use Rattle.rinv_algebra.specs.Fits.{multiplies_out}
use Rattle.rinv_algebra.proofs.PolynomialLaws.{poly_laws}
use Rattle.rinv_algebra.proofs.ResidueLaws.{residue_laws}
use Rattle.rinv_algebra.proofs.Same.{both}
use Rattle.rinv_defs.specs.System.{System, Poly}
use Rattle.rinv_defs.specs.SystemForm.{IsSystem}
use Rattle.rinv_defs.specs.Laws.{Law}
use Rattle.rinv_form.specs.Forms.{is_stored, are_stored}
use Rattle.rinv_parts.specs.Parts.{IsPart, part_at, part_fits, part_meets}
use Rattle.rinv_parts.specs.Points.{ArePolynomials}
use Rattle.rinv_parts.proofs.Misfits.{part-misfits}
use Rattle.rinv_identities.proofs.GraphValues.{multiplies_out-same}

-- each polynomial is the same as itself
pub each-itself : (p : ℕ) (fs : List Poly) → AllZip (IsSame (poly_ops (residue_ops p))) fs fs
each-itself p [] = tt
each-itself p (f ∷ fs) = ((poly_laws (residue_ops p) (residue_laws p)).same_refl f, each-itself p fs)

module _ (s : System) (law : Law) (k : ℕ) (us generators : List Poly) where
  pub part-shown : (p : ℕ) (part : Poly) → p ≡ s.p → IsPart s law k part
      → multiplies_out (residue_ops p) part us generators ≡ (part_fits s law k && multiplies_out (residue_ops s.p) (part_at s law k) us generators)
  part-shown p part field is =
      rw field (multiplies_out-same s.p part (part_at s law k) us generators generators is.stored.value (each-itself s.p generators))
      ∙ sym (ap (λ (b : Bool). b && multiplies_out (residue_ops s.p) (part_at s law k) us generators) is.fits)

  pub part-unfit : IsSystem s → (x y : ℕ) → part_meets s law k x y → false ≡ (part_fits s law k && multiplies_out (residue_ops s.p) (part_at s law k) us generators)
  part-unfit system x y meets = sym (ap (λ (b : Bool). b && multiplies_out (residue_ops s.p) (part_at s law k) us generators) (part-misfits s system law k x y meets).1)

-- a list of cofactors in its form
pub stored-list : (p v n : ℕ) (us vs : List Poly) → vs ≡ us → IsTrue (are_stored p v n us) → (length vs ≡ n) × ArePolynomials p v vs
stored-list p v n us vs e h =
    let parts = both (length us == n) (list_all (is_stored p v) us) h in
    rw e (eqb-true (length us) n parts.0, all-of us parts.1)
  where
    all-of : (fs : List Poly) → list_all (is_stored p v) fs ≡ true → ArePolynomials p v fs
    all-of [] e = All-nil (IsNormal (residue_ops p) (λ c. nat_lt c p) v)
    all-of (f ∷ fs) e = let t = both (is_stored p v f) (list_all (is_stored p v) fs) e in All-cons (IsNormal (residue_ops p) (λ c. nat_lt c p) v) f fs t.0 (all-of fs t.1)
