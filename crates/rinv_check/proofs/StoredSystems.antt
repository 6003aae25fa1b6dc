-- The system of a stored certificate.
--   group-names, space-names      its names are names
--   ideal-normal, .., action-normal   its polynomials are stored in their rings
--   system-named                  the system that is made of its parts
use Rattle.std.proofs.Common.{◌≡◌, ℕ, ◌+◌, ◌*◌, List, [], length, map, true, ◌==◌, None, refl, ◌∙◌, subst}
use Rattle.std.specs.List.{list_all}
use Rattle.rinv_algebra.proofs.Same.{both}
use Rattle.rinv_defs.specs.System.{System, Poly, group_count, space_count}
use Rattle.rinv_defs.specs.SystemForm.{is_good}
use Rattle.rinv_defs.specs.Names.{are_names}
use Rattle.rinv_defs.specs.Format.{format_failure}
use Rattle.rinv_text.proofs.NamesInTurn.{are_names-alone}
use Rattle.rinv_cert.specs.declared.certificate.CertificateOf.{CertificateOf}
use Rattle.rinv_cert.specs.Seen.{plain}
use Rattle.rinv_cert.proofs.Same.{map-same}
use Rattle.rinv_form.proofs.FormParts.{form-group_names, form-space_names, form-ideal, form-product, form-inverse, form-action}
use Rattle.rinv_parts.specs.Points.{ArePolynomials}
use Rattle.rinv_check.proofs.BasisParts.{all-normal}

same-polynomials : (fs : List Poly) → map (λ f. f) fs ≡ fs
same-polynomials fs = map-same (λ f. f) (λ f. refl) fs

module _ (c : CertificateOf Poly) (form : format_failure (plain c) ≡ None) where
  abbrev s : System
  s = (plain c).system

  pub group-names : are_names [] c.system.group ≡ true
  group-names = form-group_names (plain c) form

  pub space-names : are_names [] c.system.space ≡ true
  space-names = are_names-alone c.system.group c.system.space (form-space_names (plain c) form)

  -- polynomials of the system in a ring
  stored-in : (p v w : ℕ) (fs : List Poly) → p ≡ s.p → v ≡ w → list_all (is_good s w) (map (λ f. f) fs) ≡ true → ArePolynomials p v fs
  stored-in p v w fs ep ev h = rw (ep, ev) (all-normal s.p w fs (subst (λ (gs : List Poly). list_all (is_good s w) gs ≡ true) (same-polynomials fs) h))

  pub ideal-normal : (p v : ℕ) → p ≡ s.p → v ≡ group_count s → ArePolynomials p v c.system.ideal
  ideal-normal p v ep ev = stored-in p v (group_count s) c.system.ideal ep ev (form-ideal (plain c) form)

  pub product-normal : (p v : ℕ) → p ≡ s.p → v ≡ 2 * group_count s → ArePolynomials p v c.system.product
  product-normal p v ep ev = stored-in p v (2 * group_count s) c.system.product ep ev (both (length s.product == group_count s) (list_all (is_good s (2 * group_count s)) s.product) (form-product (plain c) form)).1

  pub inverse-normal : (p v : ℕ) → p ≡ s.p → v ≡ group_count s → ArePolynomials p v c.system.inverse
  inverse-normal p v ep ev = stored-in p v (group_count s) c.system.inverse ep ev (both (length s.inverse == group_count s) (list_all (is_good s (group_count s)) s.inverse) (form-inverse (plain c) form)).1

  pub action-normal : (p v : ℕ) → p ≡ s.p → v ≡ group_count s + space_count s → ArePolynomials p v c.system.action
  action-normal p v ep ev =
      stored-in p v (group_count s + space_count s) c.system.action ep ev (both (length s.action == space_count s) (list_all (is_good s (group_count s + space_count s)) s.action) (form-action (plain c) form)).1

-- the system that is made of its parts
pub system-named : (c : CertificateOf Poly) (t : System) → t.p ≡ c.system.field → t.group ≡ c.system.group → t.space ≡ c.system.space → t.ideal ≡ c.system.ideal → t.unit ≡ c.system.unit
    → t.product ≡ c.system.product → t.inverse ≡ c.system.inverse → t.action ≡ c.system.action → t.section ≡ [] → t ≡ (plain c).system
system-named c t p g x i u m v a e =
    made t ∙ rw (p, g, x, i, u, m, v, a, e, same-polynomials c.system.ideal, same-polynomials c.system.product, same-polynomials c.system.inverse, same-polynomials c.system.action) refl
  where
    made : (t : System) → t ≡ record { p = t.p; group = t.group; space = t.space; ideal = t.ideal; unit = t.unit; product = t.product; inverse = t.inverse; action = t.action; section = t.section }
    made t = refl
