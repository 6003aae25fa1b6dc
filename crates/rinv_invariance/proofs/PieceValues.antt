-- Points that are made of several pieces: the variables of a piece are put its coordinates.
--   at-constant, at-variable    the value of a number, of a variable
--   piece-variable       a variable of a piece
--   piece                the variables of a piece
--   piece-moved          a polynomial that is moved to a piece has its value there
use Rattle.std.proofs.Common.{◌≡◌, ℕ, ◌+◌, ◌<◌, List, ◌++◌, length, map, get_or, refl, sym, ◌∙◌, ap, arith}
use Rattle.std.specs.List.{range_with_len}
use Rattle.std.proofs.lemmas.List.{same_lists, length-map, get_or_append_left, get_or-append-add, get_or_default}
use Rattle.std.proofs.lemmas.List.FromFn.{get_or-map-range_with_len, length-range_with_len}
use Rattle.rinv_algebra.specs.Residue.{residue_ops}
use Rattle.rinv_algebra.specs.Polynomial.{variable}
use Rattle.rinv_algebra.proofs.ResidueLaws.{residue_laws}
use Rattle.rinv_theory.proofs.CRing.{CRing, Hom, compose, mul_one}
use Rattle.rinv_theory.proofs.Monoid.{monomials}
use Rattle.rinv_theory.proofs.Substitution.{substitution-term, substitution-variable, monomial_at-one}
use Rattle.rinv_theory.proofs.Of.{Of}
use Rattle.rinv_theory.proofs.Variables.{IsFront}
use Rattle.rinv_soundness.proofs.FirstVariables.{agree_front}
use Rattle.rinv_soundness.proofs.Substituting.{var, variable-class, move, move-constant, move-variable}
use Rattle.rinv_defs.specs.System.{System, variables}
use Rattle.rinv_invariance.proofs.Points.{Scalar, scalars, PolyClass, poly_terms, poly_class, map-map, at, images}

module _ (s : System) {A : Type 0} {𝓐 : CRing A} (κ : Hom (scalars s.p) 𝓐) where
  -- the value of a number
  pub at-constant : (a : List A) (c : Scalar s.p) → (at s κ a).at ((poly_terms s.p).term c monomials.one) ≡ κ.at c
  at-constant a c = substitution-term (poly_terms s.p) 𝓐 κ a c monomials.one ∙ ap (𝓐.mul (κ.at c)) (monomial_at-one 𝓐 a) ∙ mul_one 𝓐 _

  -- the value of a variable
  pub at-variable : (a : List A) (k : ℕ) → (at s κ a).at (var (residue_ops s.p) (residue_laws s.p) k) ≡ get_or a k 𝓐.one
  at-variable a k = substitution-variable (poly_terms s.p) 𝓐 κ a k

  module _ (u a v : List A) where
    -- a variable of a piece
    pub piece-variable : (place k : ℕ) → length u ≡ place → k < length a → (at s κ (u ++ (a ++ v))).at (var (residue_ops s.p) (residue_laws s.p) (place + k)) ≡ get_or a k 𝓐.one
    piece-variable place k e h = at-variable (u ++ (a ++ v)) (place + k) ∙ ap (λ (n : ℕ). get_or (u ++ (a ++ v)) (n + k) 𝓐.one) (sym e) ∙ get_or-append-add u (a ++ v) k 𝓐.one ∙ get_or_append_left a v 𝓐.one k h

    -- the variables of a piece
    pub piece : (place count : ℕ) → length u ≡ place → length a ≡ count → images s κ (at s κ (u ++ (a ++ v))) (variables s place count) ≡ a
    piece place count e size = map-map _ (variable (residue_ops s.p)) (range_with_len place count) ∙ same_lists _ a long each
      where
        put : ℕ → A
        put j = (at s κ (u ++ (a ++ v))).at (poly_class s.p (variable (residue_ops s.p) j))

        long : length (map put (range_with_len place count)) ≡ length a
        long = length-map (range_with_len place count) put ∙ length-range_with_len place count ∙ sym size

        each : (k : ℕ) (d : A) → k < length (map put (range_with_len place count)) → get_or (map put (range_with_len place count)) k d ≡ get_or a k d
        each k d h =
            let low : k < length a = omega (arith, h, long) in
            let within : k < count = omega (arith, low, size) in
            get_or-map-range_with_len put place count k (place + k) d within refl ∙ ap (at s κ (u ++ (a ++ v))).at (variable-class (residue_ops s.p) (residue_laws s.p) (place + k)) ∙ piece-variable place k e low ∙ get_or_default a k 𝓐.one d low

    -- a polynomial in as many variables as the piece has, moved there
    pub piece-moved : (place count : ℕ) → length u ≡ place → length a ≡ count → {x : PolyClass s.p} → Of (poly_terms s.p) (IsFront count) x → (at s κ (u ++ (a ++ v))).at ((move (residue_ops s.p) (residue_laws s.p) place).at x) ≡ (at s κ a).at x
    unfolding compose
    piece-moved place count e size =
        agree_front (poly_terms s.p) 𝓐 (compose (at s κ (u ++ (a ++ v))) (move (residue_ops s.p) (residue_laws s.p) place)) (at s κ a) count
        (λ c. ap (at s κ (u ++ (a ++ v))).at (move-constant (residue_ops s.p) (residue_laws s.p) place c) ∙ at-constant (u ++ (a ++ v)) c ∙ sym (at-constant a c))
        (λ k h. ap (at s κ (u ++ (a ++ v))).at (move-variable (residue_ops s.p) (residue_laws s.p) place k) ∙ piece-variable place k e (omega (arith, h, size)) ∙ sym (at-variable a k))
