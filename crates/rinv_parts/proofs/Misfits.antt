-- A part of a law meets degrees only where it does not fit.
--   part-misfits      the degrees are over the limit, and a substitution that the law states in the part does not fit
use Rattle.std.proofs.Common.{◌≡◌, ℕ, ◌+◌, ◌-◌, ◌<◌, ◌&&◌, Bool, true, false, List, [], ◌∷◌, length, get_or, nat_lt, sym, ap, ◌∙◌, subst, inl, inr}
use Rattle.std.proofs.lemmas.Bool.{cases_lt}
use Rattle.std.proofs.lemmas.List.{get_or_past}
use Rattle.std.specs.Prelude.{if◌then◌else◌}
use Rattle.rinv_algebra.specs.Residue.{residue_ops}
use Rattle.rinv_algebra.specs.Monomial.{max_degree}
use Rattle.rinv_algebra.specs.Normal.{IsNormal}
use Rattle.rinv_algebra.specs.Fits.{substitution_fits}
use Rattle.rinv_algebra.proofs.Products.{and_false}
use Rattle.rinv_algebra.proofs.ResidueLaws.{residue_laws}
use Rattle.rinv_poly.proofs.Units.{nil-normal}
use Rattle.rinv_sub.proofs.Misfits.{residues-misfit}
use Rattle.rinv_defs.specs.System.{System, Poly}
use Rattle.rinv_defs.specs.SystemForm.{IsSystem}
use Rattle.rinv_defs.specs.Laws.{Law}
use Rattle.rinv_parts.specs.LawNames.{polynomial_variables, variables_of}
use Rattle.rinv_parts.specs.Parts.{part_fits, part_meets}
use Rattle.rinv_parts.specs.Points.{ArePolynomials, Points, vanish, agree, give, give_both, law_points, law_polynomials}
use Rattle.rinv_parts.specs.Substitutions.{Taken, all_fit, OneMeets, taken_at}
use Rattle.rinv_parts.proofs.PartCounts.{polynomials-normal}

-- the polynomials are in w variables
abbrev AllIn : ℕ → ℕ → List Taken → Type 0
AllIn p w [] = Unit {0}
AllIn p w (t ∷ ts) = IsNormal (residue_ops p) (λ c. nat_lt c p) w t.1 × AllIn p w ts

one-misfits : (p v w : ℕ) (ts : List Taken) → AllIn p w ts → (x y : ℕ) → OneMeets p v ts x y → (max_degree < x + y) × (all_fit p ts ≡ false)
one-misfits p v w [] normal x y h = absurd h
one-misfits p v w (t ∷ ts) normal x y (inl h) = let m = residues-misfit p v t.0 t.1 w normal.0 x y h in (m.0, ap (λ (b : Bool). b && all_fit p ts) m.1)
one-misfits p v w (t ∷ ts) normal x y (inr h) = let m = one-misfits p v w ts normal.1 x y h in (m.0, ap (λ (b : Bool). substitution_fits (residue_ops p) t.0 t.1 && b) m.1 ∙ and_false (substitution_fits (residue_ops p) t.0 t.1))

module _ (p w : ℕ) (fs : List Poly) (normal : ArePolynomials p w fs) where
  at-normal : (k : ℕ) → IsNormal (residue_ops p) (λ c. nat_lt c p) w (get_or fs k [])
  at-normal k = elim (cases_lt k (length fs)) [
    | inl low ↦ normal k [] low
    | inr high ↦ subst (IsNormal (residue_ops p) (λ c. nat_lt c p) w) (sym (get_or_past fs k [] high)) (nil-normal (residue_ops p) (residue_laws p) (λ c. nat_lt c p) w)
  ]

  one-in : (b : Bool) (x y : Taken) → AllIn p w (x ∷ []) → AllIn p w (y ∷ []) → AllIn p w ((if b then x else y) ∷ [])
  one-in true x y h k = h
  one-in false x y h k = k

  taken-in : (points : Points) (k : ℕ) → AllIn p w (taken_at fs points k)
  taken-in (vanish x) k = (at-normal k, tt)
  taken-in (agree x y) k = (at-normal k, (at-normal k, tt))
  taken-in (give x z) k = (at-normal k, tt)
  taken-in (give_both x y z) k = one-in (nat_lt k (length fs)) (x, get_or fs k []) (y, get_or fs (k - length fs) []) (at-normal k, tt) (at-normal (k - length fs), tt)

pub part-misfits : (s : System) → IsSystem s → (law : Law) (k x y : ℕ) → part_meets s law k x y → (max_degree < x + y) × (part_fits s law k ≡ false)
part-misfits s system law k x y h =
    let w = polynomial_variables s law in
    let fs = law_polynomials s law in
    one-misfits s.p (variables_of s law) w (taken_at fs (law_points s law) k) (taken-in s.p w fs (polynomials-normal s system law) (law_points s law) k) x y h
