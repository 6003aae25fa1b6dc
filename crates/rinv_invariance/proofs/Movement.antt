-- Polynomials in the coordinates μ of a further point of the group, with polynomials for coefficients: where points are moved by μ.
--   Moving s, moving s   these polynomials, and their ring
--   still, number        polynomials and numbers as constants
--   coordinates          how polynomials in the group's variables become ones in μ
--   movers               the point μ
--   stills place count   the variables from a place on, as constants
--   coefficientwise φ    a map of the coefficients; it keeps numbers and μ
--   moved-later          behind the first coordinates of a point, moved polynomials have their values at the others
use Rattle.std.proofs.Common.{◌≡◌, ℕ, ◌+◌, ◌<◌, List, ◌++◌, length, map, get_or, sym, ◌∙◌, ap, arith}
use Rattle.std.proofs.lemmas.List.{same_lists, get_or-append-add}
use Rattle.rinv_algebra.specs.Residue.{residue_ops}
use Rattle.rinv_algebra.specs.Polynomial.{poly_ops}
use Rattle.rinv_algebra.proofs.ResidueLaws.{residue_laws}
use Rattle.rinv_algebra.proofs.PolynomialLaws.{poly_laws}
use Rattle.rinv_theory.proofs.CRing.{CRing, Hom, compose}
use Rattle.rinv_theory.proofs.Classes.{Class}
use Rattle.rinv_theory.proofs.Monoid.{monomials}
use Rattle.rinv_theory.proofs.TermRing.{TermRing, constants, constants-at}
use Rattle.rinv_theory.proofs.Universal.{agree, change, change-term}
use Rattle.rinv_theory.proofs.Substitution.{agree_variables}
use Rattle.rinv_theory.proofs.Polynomials.{polynomials}
use Rattle.rinv_soundness.proofs.Substituting.{var, move, move-constant, move-variable}
use Rattle.rinv_defs.specs.System.{System, group_count, variables}
use Rattle.rinv_invariance.proofs.Extensions.{Extension, extension}
use Rattle.rinv_invariance.proofs.Points.{Scalar, scalars, PolyClass, poly_terms, map-map, map_agree, at, IsOver, images}
use Rattle.rinv_invariance.proofs.PieceValues.{at-constant, at-variable}
use Rattle.rinv_invariance.proofs.GraphPoints.{images-variable, length-images}

module _ (s : System) where
  -- polynomials in μ, with polynomials for coefficients
  abbrev pub Moving : Type 0
  Moving = Class (poly_ops (poly_ops (residue_ops s.p)))

  -- their ring
  abbrev pub moving : TermRing (poly_terms s.p).ring monomials Moving
  moving = polynomials (poly_ops (residue_ops s.p)) (poly_laws (residue_ops s.p) (residue_laws s.p))

  -- polynomials as constants
  abbrev pub still : Hom (poly_terms s.p).ring moving.ring
  still = constants moving

  -- numbers as constants
  abbrev pub number : Hom (scalars s.p) moving.ring
  number = compose still (constants (poly_terms s.p))

  -- polynomials in μ with numbers for coefficients
  abbrev pub coordinates : Extension (poly_terms s.p) moving
  coordinates = extension (poly_terms s.p) moving (constants (poly_terms s.p))

  -- the map of the polynomials
  abbrev pub in_movers : Hom (poly_terms s.p).ring moving.ring
  in_movers = change (poly_terms s.p) moving (constants (poly_terms s.p))

  -- the point μ
  abbrev pub movers : List Moving
  movers = images s number in_movers (variables s 0 (group_count s))

  -- variables as constants
  abbrev pub stills : ℕ → ℕ → List Moving
  stills place count = images s number still (variables s place count)

  -- a number is a constant
  pub number-at : (c : Scalar s.p) → number.at c ≡ moving.term ((poly_terms s.p).term c monomials.one) monomials.one
  unfolding compose
  number-at c = constants-at moving _ ∙ ap (λ x. moving.term x monomials.one) (constants-at (poly_terms s.p) c)

  -- constants keep numbers
  pub still_over : IsOver s number still
  unfolding compose
  still_over c = ap still.at (sym (constants-at (poly_terms s.p) c))

  -- and so do polynomials in μ
  pub movers_over : IsOver s number in_movers
  movers_over c = change-term (poly_terms s.p) moving (constants (poly_terms s.p)) c monomials.one ∙ ap (λ x. moving.term x monomials.one) (constants-at (poly_terms s.p) c) ∙ sym (number-at c)

  -- images of variables, one by one
  pub images-agree : {A : Type 0} {𝓐 : CRing A} (κ : Hom (scalars s.p) 𝓐) (h g : Hom (poly_terms s.p).ring 𝓐) → IsOver s κ h → IsOver s κ g → (place other count : ℕ)
      → ((k : ℕ) → k < count → h.at (var (residue_ops s.p) (residue_laws s.p) (place + k)) ≡ g.at (var (residue_ops s.p) (residue_laws s.p) (other + k))) → images s κ h (variables s place count) ≡ images s κ g (variables s other count)
  images-agree κ h g h_over g_over place other count e = same_lists _ _ (length-images s κ h h_over place count ∙ sym (length-images s κ g g_over other count)) (λ k d low.
      let within : k < count = omega (arith, low, length-images s κ h h_over place count) in
      images-variable s κ h h_over place count k d within ∙ e k within ∙ sym (images-variable s κ g g_over other count k d within))

  -- a map of the coefficients that keeps numbers
  module _ (φ : Hom (poly_terms s.p).ring (poly_terms s.p).ring) (φ_number : (c : Scalar s.p) → φ.at ((poly_terms s.p).term c monomials.one) ≡ (poly_terms s.p).term c monomials.one) where
    -- at each coefficient
    abbrev pub coefficientwise : Hom moving.ring moving.ring
    coefficientwise = change moving moving φ

    -- of constants
    pub coefficientwise-still : (x : PolyClass s.p) → coefficientwise.at (still.at x) ≡ still.at (φ.at x)
    coefficientwise-still x = ap coefficientwise.at (constants-at moving x) ∙ change-term moving moving φ x monomials.one ∙ sym (constants-at moving (φ.at x))

    -- numbers stay
    pub coefficientwise-number : (c : Scalar s.p) → coefficientwise.at (number.at c) ≡ number.at c
    coefficientwise-number c = ap coefficientwise.at (number-at c) ∙ change-term moving moving φ _ monomials.one ∙ ap (λ x. moving.term x monomials.one) (φ_number c) ∙ sym (number-at c)

    -- polynomials in μ stay
    pub coefficientwise-movers : (x : PolyClass s.p) → coefficientwise.at (in_movers.at x) ≡ in_movers.at x
    coefficientwise-movers = agree (poly_terms s.p) moving.ring (λ x. coefficientwise.at (in_movers.at x)) in_movers.at (λ x y. ap coefficientwise.at (in_movers.add x y) ∙ coefficientwise.add _ _) in_movers.add
        (λ c m. ap coefficientwise.at (at_term c m) ∙ change-term moving moving φ _ m ∙ ap (λ x. moving.term x m) (φ_number c) ∙ sym (at_term c m))
      where
        at_term : (c : Scalar s.p) (m : _) → in_movers.at ((poly_terms s.p).term c m) ≡ moving.term ((poly_terms s.p).term c monomials.one) m
        at_term c m = change-term (poly_terms s.p) moving (constants (poly_terms s.p)) c m ∙ ap (λ x. moving.term x m) (constants-at (poly_terms s.p) c)

    -- the point μ stays
    pub coefficientwise-point : map coefficientwise.at movers ≡ movers
    coefficientwise-point = map-map coefficientwise.at _ (variables s 0 (group_count s)) ∙ map_agree _ _ (λ f. coefficientwise-movers _) (variables s 0 (group_count s))

    coefficientwise_over : IsOver s number (compose coefficientwise still)
    unfolding compose
    coefficientwise_over c = ap coefficientwise.at (still_over c) ∙ coefficientwise-number c

    -- variables that become variables
    pub coefficientwise-stills : (place other count : ℕ) → ((k : ℕ) → k < count → φ.at (var (residue_ops s.p) (residue_laws s.p) (place + k)) ≡ var (residue_ops s.p) (residue_laws s.p) (other + k)) → map coefficientwise.at (stills place count) ≡ stills other count
    unfolding compose
    coefficientwise-stills place other count e =
        map-map coefficientwise.at _ (variables s place count)
        ∙ images-agree number (compose coefficientwise still) still coefficientwise_over still_over place other count (λ k low. coefficientwise-still _ ∙ ap still.at (e k low))

  -- behind the first coordinates of a point, moved polynomials have their values at the others
  pub moved-later : {A : Type 0} {𝓐 : CRing A} (κ : Hom (scalars s.p) 𝓐) (u v : List A) (place : ℕ) → length u ≡ place → (x : PolyClass s.p) → (at s κ (u ++ v)).at ((move (residue_ops s.p) (residue_laws s.p) place).at x) ≡ (at s κ v).at x
  unfolding compose
  moved-later {𝓐 = 𝓐} κ u v place e =
      agree_variables (poly_terms s.p) 𝓐 (compose (at s κ (u ++ v)) (move (residue_ops s.p) (residue_laws s.p) place)) (at s κ v)
      (λ c. ap (at s κ (u ++ v)).at (move-constant (residue_ops s.p) (residue_laws s.p) place c) ∙ at-constant s κ (u ++ v) c ∙ sym (at-constant s κ v c))
      (λ k. ap (at s κ (u ++ v)).at (move-variable (residue_ops s.p) (residue_laws s.p) place k) ∙ at-variable s κ (u ++ v) (place + k)
      ∙ ap (λ (n : ℕ). get_or (u ++ v) (n + k) 𝓐.one) (sym e) ∙ get_or-append-add u v k 𝓐.one ∙ sym (at-variable s κ v k))
