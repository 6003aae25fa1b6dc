-- The space's point, moved by μ: in K[x], in K[Z,x] where Z is kept, and in K[λ,Z,x] where λ becomes λ μ⁻¹.
--   moved_space, moved_both, moved_all    the three maps
--   moved_both-later     on the space's variables the second is the first
--   moved_both-first     it keeps Z
--   moved_all-later      behind the group's variables the third is the second
--   moved_both-kept      a map of the coefficients that keeps Z and the space's variables keeps the second
use Rattle.std.proofs.Common.{◌≡◌, ℕ, ◌+◌, ◌*◌, ◌<◌, List, ◌++◌, length, map, refl, sym, ◌∙◌, ap, ap₂, arith}
use Rattle.std.proofs.lemmas.List.{map-append, length-map, get_or_append_left}
use Rattle.rinv_algebra.specs.Residue.{residue_ops}
use Rattle.rinv_algebra.proofs.ResidueLaws.{residue_laws}
use Rattle.rinv_theory.proofs.CRing.{CRing, Hom}
use Rattle.rinv_theory.proofs.Monoid.{monomials}
use Rattle.rinv_theory.proofs.Of.{Of}
use Rattle.rinv_theory.proofs.Variables.{IsFront}
use Rattle.rinv_soundness.proofs.FirstVariables.{agree_front}
use Rattle.rinv_soundness.proofs.Substituting.{var, move, move-constant, move-variable}
use Rattle.rinv_soundness.proofs.SystemForms.{HasForm}
use Rattle.rinv_defs.specs.System.{System, group_count, space_count}
use Rattle.rinv_invariance.proofs.Points.{Scalar, scalars, PolyClass, poly_terms, natural, at, product, inverse, act, keep-act}
use Rattle.rinv_invariance.proofs.PieceValues.{at-constant, at-variable}
use Rattle.rinv_invariance.proofs.GraphPoints.{length-images, images-first}
use Rattle.rinv_invariance.proofs.Movement.{moving, Moving, still, number, movers, stills, still_over, coefficientwise, coefficientwise-number, coefficientwise-point, coefficientwise-stills, moved-later}

-- a polynomial in the first variables has its value at the first coordinates
pub first_piece : (s : System) {A : Type 0} {𝓐 : CRing A} (κ : Hom (scalars s.p) 𝓐) (a v : List A) (count : ℕ) → length a ≡ count → {x : PolyClass s.p} → Of (poly_terms s.p) (IsFront count) x → (at s κ (a ++ v)).at x ≡ (at s κ a).at x
first_piece s {𝓐 = 𝓐} κ a v count size =
    agree_front (poly_terms s.p) 𝓐 (at s κ (a ++ v)) (at s κ a) count (λ c. at-constant s κ (a ++ v) c ∙ sym (at-constant s κ a c))
    (λ k low. at-variable s κ (a ++ v) k ∙ get_or_append_left a v 𝓐.one k (omega (arith, low, size)) ∙ sym (at-variable s κ a k))

module _ (s : System) where
  -- the space's point, moved
  abbrev pub moved_space : Hom (poly_terms s.p).ring (moving s).ring
  moved_space = at s (number s) (act s (number s) (movers s) (stills s 0 (space_count s)))

  -- behind Z
  abbrev pub moved_both : Hom (poly_terms s.p).ring (moving s).ring
  moved_both = at s (number s) (stills s 0 (space_count s) ++ act s (number s) (movers s) (stills s (space_count s) (space_count s)))

  -- λ μ⁻¹
  abbrev pub away : List (Moving s)
  away = product s (number s) (stills s 0 (group_count s)) (inverse s (number s) (movers s))

  -- behind the group's point, which is taken back, and Z
  abbrev pub moved_all : Hom (poly_terms s.p).ring (moving s).ring
  moved_all = at s (number s) (away ++ (stills s (group_count s) (space_count s) ++ act s (number s) (movers s) (stills s (group_count s + space_count s) (space_count s))))

  -- the variables of the coefficients, moved past the first k
  abbrev pub shifted : ℕ → Hom (moving s).ring (moving s).ring
  shifted k = coefficientwise s (move (residue_ops s.p) (residue_laws s.p) k) (move-constant (residue_ops s.p) (residue_laws s.p) k)

  module _ (φ : Hom (poly_terms s.p).ring (poly_terms s.p).ring) (φ_number : (c : Scalar s.p) → φ.at ((poly_terms s.p).term c monomials.one) ≡ (poly_terms s.p).term c monomials.one) where
    -- a map of the coefficients keeps moved points
    coefficientwise-act : (xs : List (Moving s)) → map (coefficientwise s φ φ_number).at (act s (number s) (movers s) xs) ≡ act s (number s) (movers s) (map (coefficientwise s φ φ_number).at xs)
    coefficientwise-act xs = keep-act s (number s) (number s) (coefficientwise s φ φ_number) (coefficientwise-number s φ φ_number) (movers s) xs ∙ ap (λ m. act s (number s) m (map (coefficientwise s φ φ_number).at xs)) (coefficientwise-point s φ φ_number)

    -- and values at points
    coefficientwise-at : (a b : List (Moving s)) → map (coefficientwise s φ φ_number).at a ≡ b → (x : PolyClass s.p) → (coefficientwise s φ φ_number).at ((at s (number s) a).at x) ≡ (at s (number s) b).at x
    coefficientwise-at a b e x = natural (poly_terms s.p) (number s) (number s) (coefficientwise s φ φ_number) (coefficientwise-number s φ φ_number) a x ∙ ap (λ a. (at s (number s) a).at x) e

    -- where Z and the space's variables are kept
    pub moved_both-kept : ((k : ℕ) → k < 2 * space_count s → φ.at (var (residue_ops s.p) (residue_laws s.p) k) ≡ var (residue_ops s.p) (residue_laws s.p) k) → (x : PolyClass s.p) → (coefficientwise s φ φ_number).at (moved_both.at x) ≡ moved_both.at x
    moved_both-kept e = coefficientwise-at _ _ (
        map-append _ (stills s 0 (space_count s)) _
        ∙ ap₂ ◌++◌ (coefficientwise-stills s φ φ_number 0 0 (space_count s) (λ k low. e (0 + k) (omega (arith, low))))
        (coefficientwise-act _ ∙ ap (act s (number s) (movers s)) (coefficientwise-stills s φ φ_number (space_count s) (space_count s) (space_count s) (λ k low. e (space_count s + k) (omega (arith, low))))))

  moves : (k place other j : ℕ) → k + place ≡ other → (move (residue_ops s.p) (residue_laws s.p) k).at (var (residue_ops s.p) (residue_laws s.p) (place + j)) ≡ var (residue_ops s.p) (residue_laws s.p) (other + j)
  moves k place other j e = let sum : k + (place + j) ≡ other + j = omega (arith, e) in move-variable (residue_ops s.p) (residue_laws s.p) k (place + j) ∙ ap (λ (n : ℕ). var (residue_ops s.p) (residue_laws s.p) n) sum

  shifted-stills : (k place other count : ℕ) → k + place ≡ other → map (shifted k).at (stills s place count) ≡ stills s other count
  shifted-stills k place other count e = coefficientwise-stills s _ (move-constant (residue_ops s.p) (residue_laws s.p) k) place other count (λ j low. moves k place other j e)

  -- on the space's variables
  pub moved_both-later : (x : PolyClass s.p) → moved_both.at ((move (residue_ops s.p) (residue_laws s.p) (space_count s)).at x) ≡ (shifted (space_count s)).at (moved_space.at x)
  moved_both-later x =
      moved-later s (number s) (stills s 0 (space_count s)) _ (space_count s) (length-images s (number s) (still s) (still_over s) 0 (space_count s)) x
      ∙ sym (coefficientwise-at _ (move-constant (residue_ops s.p) (residue_laws s.p) (space_count s)) _ _ (coefficientwise-act _ (move-constant (residue_ops s.p) (residue_laws s.p) (space_count s)) _ ∙ ap (act s (number s) (movers s)) (shifted-stills (space_count s) 0 (space_count s) (space_count s) (omega arith))) x)

  -- on Z
  pub moved_both-first : {x : PolyClass s.p} → Of (poly_terms s.p) (IsFront (space_count s)) x → moved_both.at x ≡ (still s).at x
  moved_both-first r =
      first_piece s (number s) (stills s 0 (space_count s)) _ (space_count s) (length-images s (number s) (still s) (still_over s) 0 (space_count s)) r
      ∙ sym (images-first s (number s) (still s) (still_over s) (space_count s) r)

  -- behind the group's variables
  pub moved_all-later : HasForm s → (x : PolyClass s.p) → moved_all.at ((move (residue_ops s.p) (residue_laws s.p) (group_count s)).at x) ≡ (shifted (group_count s)).at (moved_both.at x)
  moved_all-later form x =
      moved-later s (number s) away _ (group_count s) (length-map s.product _ ∙ form.product_count) x
      ∙ sym (coefficientwise-at _ (move-constant (residue_ops s.p) (residue_laws s.p) (group_count s)) _ _ (
      map-append _ (stills s 0 (space_count s)) _
      ∙ ap₂ ◌++◌ (shifted-stills (group_count s) 0 (group_count s) (space_count s) (omega arith))
      (coefficientwise-act _ (move-constant (residue_ops s.p) (residue_laws s.p) (group_count s)) _ ∙ ap (act s (number s) (movers s)) (shifted-stills (group_count s) (space_count s) (group_count s + space_count s) (space_count s) refl))) x)
