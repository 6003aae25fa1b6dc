-- The parts of a system in its form, as they are written.
use Rattle.std.proofs.Common.{◌≡◌, ℕ, ◌≤◌, List, length, Bool, ◌&&◌, nat_lt, nat_le, All, subst, sym}
use Rattle.std.specs.List.{list_all}
use Rattle.std.proofs.lemmas.Bool.{leb-true}
use Rattle.std.proofs.lemmas.List.Sums.{AllPass-from_list_all}
use Rattle.std.proofs.lemmas.List.Elements.{All-weaker}
use Rattle.rinv_algebra.specs.Residue.{residue_ops}
use Rattle.rinv_algebra.specs.Normal.{IsNormal}
use Rattle.rinv_algebra.proofs.Same.{both}
use Rattle.rinv_poly.proofs.Forms.{IsNormalTerm, ordered-from_normal}
use Rattle.rinv_defs.specs.System.{System, Poly}
use Rattle.rinv_defs.specs.SystemForm.{IsSystem, is_good, system_parts}
use Rattle.rinv_text.specs.Told.{Told}
use Rattle.rinv_text.proofs.SystemParts.{AreNormal, HasParts, parts-of}
use Rattle.rinv_system.specs.Writing.{AreOver}

-- stored polynomials have so many exponents
pub over-stored : (p v : ℕ) (fs : List Poly) → AreNormal p v fs → All (AreOver v) fs
over-stored p v fs all = All-weaker (IsNormal (residue_ops p) (λ c. nat_lt c p) v) (AreOver v)
    (λ f normal. All-weaker (IsNormalTerm (residue_ops p) (λ c. nat_lt c p) v) (λ t. length t.0 ≡ v) (λ t h. h.vars) f (ordered-from_normal (residue_ops p) (λ c. nat_lt c p) v f normal).terms) fs all

-- the parts of what is seen of a system
pub parts-at : (t u : Told) → t ≡ u → IsSystem u.system → HasParts t.system
parts-at t u is form = parts-of t.system (subst (λ (v : Told). IsSystem v.system) (sym is) form)

-- the section's polynomials, 64 at most
pub section-of : (s : System) → IsSystem s → (length s.section ≤ 64) × AreNormal s.p (length s.space) s.section
section-of s form =
    let outer = both (list_all (λ (part : ℕ × Bool). part.1) (system_parts s) && nat_le (length s.section) 64) (list_all (is_good s (length s.space)) s.section) form in
    let inner = both (list_all (λ (part : ℕ × Bool). part.1) (system_parts s)) (nat_le (length s.section) 64) outer.0 in
    (leb-true (length s.section) 64 inner.1, AllPass-from_list_all (is_good s (length s.space)) s.section outer.1)

pub section-at : (t u : Told) → t ≡ u → IsSystem u.system → AreNormal t.system.p (length t.system.space) t.system.section
section-at t u is form = (section-of t.system (subst (λ (v : Told). IsSystem v.system) (sym is) form)).1
