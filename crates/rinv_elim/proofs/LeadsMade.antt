-- Leading monomials in a ring and an order that are those of the action.
--   lead-is              the leading monomial in Z
--   leads-more           one more
--   free-kept, free-passed    the elements without the group's variables so far
use Rattle.std.proofs.Common.{◌≡◌, ℕ, ◌+◌, ◌<◌, Bool, true, false, cond, List, [], ◌∷◌, ◌++◌, append-nil, length, map, filter, take, get_or, sym, ◌∙◌, ap, subst, All}
use Rattle.std.specs.Prelude.{◌||◌}
use Rattle.std.specs.List.{list_any}
use Rattle.std.specs.declared.cmp.Ordering.{Ordering}
use Rattle.std.proofs.lemmas.List.{map-append}
use Rattle.std.proofs.lemmas.List.Elements.{filter-append}
use Rattle.std.proofs.lemmas.List.Folds.{list_any-append}
use Rattle.rinv_algebra.specs.Residue.{residue_ops}
use Rattle.rinv_algebra.specs.Leading.{leading_monomial}
use Rattle.rinv_algebra.specs.Polynomial.{is_zero, opposite}
use Rattle.rinv_defs.specs.System.{System, Poly}
use Rattle.rinv_defs.specs.Invariant.{Fraction}
use Rattle.rinv_defs.specs.PairConditions.{action_order}
use Rattle.rinv_defs.specs.RelationConditions.{z_part}
use Rattle.rinv_reduction.specs.Localised.{lead_in_z}
use Rattle.rinv_frac.specs.Cancelling.{IsCancelled}
use Rattle.rinv_frac.specs.Fractions.{IsPart, IsStored}
use Rattle.rinv_parts.specs.Points.{ArePolynomials}
use Rattle.rinv_tails.proofs.Tails.{take-at}

pub lead-is : (s : System) (p : ℕ) (cmp : List ℕ → List ℕ → Ordering) (h : Poly) (m z : List ℕ) → p ≡ s.p → cmp ≡ action_order s → m ≡ leading_monomial (residue_ops p) cmp h → z ≡ z_part s m → z ≡ lead_in_z s h
lead-is s p cmp h m z field order is part =
    part ∙ ap (z_part s) (is ∙ ap (λ (q : ℕ). leading_monomial (residue_ops q) cmp h) field ∙ ap (λ (c : List ℕ → List ℕ → Ordering). leading_monomial (residue_ops s.p) c h) order)

pub leads-more : (s : System) (cut : List Poly) (k : ℕ) (h : Poly) (zs more : List (List ℕ)) (z : List ℕ) → k < length cut → h ≡ get_or cut k h → zs ≡ map (lead_in_z s) (take k cut) → more ≡ zs ++ z ∷ [] → z ≡ lead_in_z s h → more ≡ map (lead_in_z s) (take (k + 1) cut)
leads-more s cut k h zs more z low here so_far e is =
    e ∙ ap (λ (ms : List (List ℕ)). ms ++ z ∷ []) so_far ∙ ap (λ (m : List ℕ). map (lead_in_z s) (take k cut) ++ m ∷ []) is
    ∙ sym (ap (λ (hs : List Poly). map (lead_in_z s) hs) (take-at cut k h low here) ∙ map-append (lead_in_z s) (take k cut) (h ∷ []))

module _ {X : Type 0} (test : X → Bool) (xs : List X) (k : ℕ) (x : X) (low : k < length xs) (here : x ≡ get_or xs k x) where
  one-more : (b : Bool) → test x ≡ b → filter test (take (k + 1) xs) ≡ filter test (take k xs) ++ cond b (x ∷ []) []
  one-more b e = ap (filter test) (take-at xs k x low here) ∙ filter-append test (take k xs) (x ∷ []) ∙ ap (λ (c : Bool). filter test (take k xs) ++ cond c (x ∷ []) []) e

  pub free-kept : (ys more : List X) (y : X) → ys ≡ filter test (take k xs) → more ≡ ys ++ y ∷ [] → y ≡ x → test x ≡ true → more ≡ filter test (take (k + 1) xs)
  free-kept ys more y so_far e same passes = e ∙ ap (λ (zs : List X). zs ++ y ∷ []) so_far ∙ ap (λ (z : X). filter test (take k xs) ++ z ∷ []) same ∙ sym (one-more true passes)

  pub free-passed : (ys : List X) → ys ≡ filter test (take k xs) → test x ≡ false → ys ≡ filter test (take (k + 1) xs)
  free-passed ys so_far fails = so_far ∙ sym (append-nil (filter test (take k xs))) ∙ sym (one-more false fails)

-- ---- over equal numbers

pub part-over : (p q v w : ℕ) (f : Poly) → p ≡ q → v ≡ w → IsPart q w f → IsPart p v f
part-over p q v w f field vars h = subst (λ (a : ℕ). IsPart a v f) (sym field) (subst (λ (b : ℕ). IsPart q b f) (sym vars) h)

pub nonzero-over : (p q : ℕ) (f : Poly) → p ≡ q → is_zero (residue_ops q) f ≡ false → is_zero (residue_ops p) f ≡ false
nonzero-over p q f field h = ap (λ (a : ℕ). is_zero (residue_ops a) f) field ∙ h

pub fraction-over : (p q v w : ℕ) (f : Fraction) → p ≡ q → v ≡ w → IsStored q w f → IsStored p v f
fraction-over p q v w f field vars h = subst (λ (a : ℕ). IsStored a v f) (sym field) (subst (λ (b : ℕ). IsStored q b f) (sym vars) h)

pub cancelled-over : (p q : ℕ) (c d g : Poly) (x : Fraction) → p ≡ q → c ≡ g → IsCancelled (residue_ops p) (opposite (residue_ops p) c, d) x → IsCancelled (residue_ops q) (opposite (residue_ops q) g, d) x
cancelled-over p q c d g x field same h = subst (λ (f : Poly). IsCancelled (residue_ops q) (opposite (residue_ops q) f, d) x) same (subst (λ (a : ℕ). IsCancelled (residue_ops a) (opposite (residue_ops a) c, d) x) field h)

-- an element of a list in normal form
pub normal-item : (p q v w : ℕ) (fs : List Poly) (k : ℕ) (f : Poly) → p ≡ q → v ≡ w → k < length fs → f ≡ get_or fs k f → ArePolynomials q w fs → IsPart p v f
normal-item p q v w fs k f field vars low here h = part-over p q v w f field vars (subst (IsPart q w) (sym here) (h k f low))

pub nonzero-item : (p q : ℕ) (fs : List Poly) (k : ℕ) (f : Poly) → p ≡ q → k < length fs → f ≡ get_or fs k f → All (λ h. is_zero (residue_ops q) h ≡ false) fs → is_zero (residue_ops p) f ≡ false
nonzero-item p q fs k f field low here h = nonzero-over p q f field (subst (λ (g : Poly). is_zero (residue_ops q) g ≡ false) (sym here) (h k f low))

-- no element passes so far
pub any-none : {X : Type 0} (test : X → Bool) (xs : List X) (k : ℕ) (x : X) → k < length xs → x ≡ get_or xs k x → list_any test (take k xs) ≡ false → test x ≡ false → list_any test (take (k + 1) xs) ≡ false
any-none test xs k x low here so_far fails =
    ap (list_any test) (take-at xs k x low here) ∙ list_any-append test (take k xs) (x ∷ [])
    ∙ ap (λ (b : Bool). b || list_any test (x ∷ [])) so_far ∙ ap (λ (b : Bool). b || false) fails
