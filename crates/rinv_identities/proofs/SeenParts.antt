-- What the form of a stored certificate says of the polynomials that are computed with.
--   ideal-normal, action-normal, action-count    those of the system
--   element-normal, elements-are                 those of the basis
use Rattle.std.proofs.Common.{◌≡◌, ℕ, zero, suc, ◌+◌, ◌*◌, ◌<◌, List, [], ◌∷◌, length, map, get_or, Bool, true, not, nat_lt, None, refl, sym, ap, ◌∙◌, subst, arith}
use Rattle.std.specs.List.{list_all}
use Rattle.rinv_algebra.specs.Residue.{residue_ops}
use Rattle.rinv_algebra.specs.Polynomial.{is_zero}
use Rattle.rinv_algebra.specs.Normal.{IsNormal}
use Rattle.rinv_algebra.proofs.Same.{both}
use Rattle.rinv_defs.specs.System.{Poly, group_count, space_count}
use Rattle.rinv_defs.specs.SystemForm.{is_good, are_good, is_nonzero}
use Rattle.rinv_defs.specs.Certificate.{full}
use Rattle.rinv_defs.specs.Format.{format_failure, is_basis_item}
use Rattle.rinv_cert.specs.declared.certificate.CertificateOf.{CertificateOf}
use Rattle.rinv_cert.specs.Seen.{plain, basis_item_by}
use Rattle.rinv_cert.proofs.Same.{map-same}
use Rattle.rinv_text.proofs.SystemParts.{HasParts, parts-of}
use Rattle.rinv_form.proofs.FormParts.{form-system, form-basis}
use Rattle.rinv_parts.specs.Points.{ArePolynomials}

-- a list whose elements are seen as they are
pub same-list : (fs : List Poly) → map (λ f. f) fs ≡ fs
same-list fs = map-same (λ f. f) (λ f. refl) fs

module _ (c : CertificateOf Poly) (form : format_failure (plain c) ≡ None) where
  pub system-parts : HasParts (plain c).system
  system-parts = parts-of (plain c).system (form-system (plain c) form refl)

  pub ideal-normal : ArePolynomials c.system.field (length c.system.group) c.system.ideal
  ideal-normal = subst (ArePolynomials c.system.field (length c.system.group)) (same-list c.system.ideal) system-parts.ideal

  pub action-normal : ArePolynomials c.system.field (length c.system.group + length c.system.space) c.system.action
  action-normal = subst (ArePolynomials c.system.field (length c.system.group + length c.system.space)) (same-list c.system.action) system-parts.action

  pub action-count : length c.system.action ≡ length c.system.space
  action-count = ap (λ (fs : List Poly). length fs) (sym (same-list c.system.action)) ∙ system-parts.action_count

-- ---- the basis

-- a test that holds of all holds of each
test-at : {A B : Type 0} (f : A → B) (test : B → Bool) (xs : List A) (k : ℕ) (x : A) → k < length xs → x ≡ get_or xs k x → list_all test (map f xs) ≡ true → test (f x) ≡ true
test-at f test [] k x few at h = absurd (omega (arith, few))
test-at f test (y ∷ ys) zero x few at h = subst (λ (z : _). test (f z) ≡ true) (sym at) (both (test (f y)) (list_all test (map f ys)) h).0
test-at f test (y ∷ ys) (suc k) x few at h = test-at f test ys k x (omega (arith, few)) at (both (test (f y)) (list_all test (map f ys)) h).1

-- an element of the basis is in its form
pub element-normal : (c : CertificateOf Poly) → (plain c).kind ≡ full → format_failure (plain c) ≡ None → (bs : List (Poly × List Poly)) (k : ℕ) (b : Poly × List Poly) → bs ≡ c.basis → k < length bs → b ≡ get_or bs k b
    → IsNormal (residue_ops c.system.field) (λ x. nat_lt x c.system.field) (length c.system.group + 2 * length c.system.space) b.0
element-normal c kind form bs k b is few at =
    let s = (plain c).system in
    let v = group_count s + 2 * space_count s in
    let basis : list_all (is_basis_item s) (map (basis_item_by (λ f. f)) bs) ≡ true = rw is (form-basis (plain c) kind form) in
    let item : is_basis_item s (basis_item_by (λ f. f) b) ≡ true = test-at (basis_item_by (λ f. f)) (is_basis_item s) bs k b few at basis in
    let nonzero = both (is_nonzero s v b.0) (are_good s (length s.ideal) (group_count s + space_count s) (map (λ f. f) b.1)) item in
    (both (is_good s v b.0) (not (is_zero (residue_ops s.p) b.0)) nonzero.0).0

-- normal over equal numbers
pub normal-as : (p q v w : ℕ) (f g : Poly) → p ≡ q → v ≡ w → f ≡ g → IsNormal (residue_ops q) (λ x. nat_lt x q) w g → IsNormal (residue_ops p) (λ x. nat_lt x p) v f
normal-as p q v w f g a b c h = rw (a, b, c) h

-- the elements of the basis
pub elements-are : (bs : List (Poly × List Poly)) → map (λ b. b.0) bs ≡ map (λ b. b.h) (map (basis_item_by (λ f. f)) bs)
elements-are [] = refl
elements-are (b ∷ bs) = ap (λ (fs : List Poly). b.0 ∷ fs) (elements-are bs)
