-- Polynomials in the variables past the first k: the moved polynomials.
--   move-move            one move after another
--   moved_passes         a moved polynomial has monomials without the first k variables alone
--   moved_zero           only zero is moved to zero
--   unmoved              a polynomial in the first k + v variables without the first k is a moved one
use Rattle.std.proofs.Common.{◌≡◌, ℕ, ◌+◌, true, refl, sym, ◌∙◌, ap, ap₂, subst, arith, drop, take}
use Rattle.std.proofs.lemmas.List.{drop-take}
use mathlib.Core.Logic.{∥∥₁_elim}
use Rattle.rinv_algebra.specs.Ring.{RingOps, RingLaws}
use Rattle.rinv_theory.proofs.CRing.{CRing, Hom, compose, hom-zero}
use Rattle.rinv_theory.proofs.Monoid.{Monomial, monomial, monomials, monomial_ind}
use Rattle.rinv_theory.proofs.TermRing.{TermRing}
use Rattle.rinv_theory.proofs.Universal.{agree, relabel, relabel-term}
use Rattle.rinv_theory.proofs.Polynomials.{polynomials}
use Rattle.rinv_theory.proofs.Substitution.{agree_variables}
use Rattle.rinv_theory.proofs.Of.{Of, of_any}
use Rattle.rinv_theory.proofs.Places.{front, front-list, back, back-list, back-mul, behind, behind-mul, front_behind}
use Rattle.rinv_theory.proofs.Variables.{IsFront}
use Rattle.rinv_groebner.proofs.Compared.{of_passes}
use Rattle.rinv_soundness.proofs.PlaceFacts.{front-behind, back-behind}
use Rattle.rinv_soundness.proofs.Substituting.{var, move, move-constant, move-variable}

-- one move after another
pub move-move : {E : Type 0} (o : RingOps E) (l : RingLaws o) (j k : ℕ) (x : _) → (move o l j).at ((move o l k).at x) ≡ (move o l (j + k)).at x
unfolding compose
move-move o l j k = agree_variables (polynomials o l) (polynomials o l).ring (compose (move o l j) (move o l k)) (move o l (j + k)) (λ c. ap (move o l j).at (move-constant o l k c) ∙ move-constant o l j c ∙ sym (move-constant o l (j + k) c))
    (λ i. let e : j + (k + i) ≡ (j + k) + i = omega arith in ap (move o l j).at (move-variable o l k i) ∙ move-variable o l j (k + i) ∙ ap (λ (n : ℕ). var o l n) e ∙ sym (move-variable o l (j + k) i))

-- the part past the first k of a part in the first k + v
back_of_front : (k v : ℕ) (m : Monomial) → front v (back k m) ≡ back k (front (k + v) m)
back_of_front k v = monomial_ind (λ m. front v (back k m) ≡ back k (front (k + v) m)) (λ m. monomials.is_set _ _) (λ a. ap (front v) (back-list k a) ∙ front-list v (drop k a) ∙ ap monomial (sym (drop-take k v a)) ∙ sym (ap (back k) (front-list (k + v) a) ∙ back-list k (take (k + v) a)))

-- without the first k variables a monomial is its part past them, moved
only_back : (k : ℕ) (m : Monomial) → front k m ≡ monomials.one → behind k (back k m) ≡ m
only_back k m e = sym (ap (λ x. monomials.mul x (behind k (back k m))) e ∙ monomials.one_mul _) ∙ front_behind k m

module _ {K P : Type 0} {𝓚 : CRing K} (𝓣 : TermRing 𝓚 monomials P) (k : ℕ) where
  abbrev moved : Hom 𝓣.ring 𝓣.ring
  moved = relabel 𝓣 𝓣 (behind k) (behind-mul k)

  moved-of : {Q : Monomial → Type 0} {x : P} → Of 𝓣 Q x → Of 𝓣 (λ m. monomials.same (front k m) monomials.one ≡ true) (moved.at x)
  moved-of Of.none = subst (Of 𝓣 (λ m. monomials.same (front k m) monomials.one ≡ true)) (sym (hom-zero moved)) Of.none
  moved-of (Of.more {f = x} c m q r) =
      subst (Of 𝓣 (λ m. monomials.same (front k m) monomials.one ≡ true)) (ap (λ y. 𝓣.ring.add y (moved.at x)) (sym (relabel-term 𝓣 𝓣 (behind k) (behind-mul k) c m)) ∙ sym (moved.add _ _))
      (Of.more c (behind k m) (ap (λ y. monomials.same y monomials.one) (front-behind k m) ∙ monomials.same_refl monomials.one) (moved-of r))

  -- a moved polynomial has no monomial with the first k variables
  pub moved_passes : (x : P) (e : Monomial) → (𝓣.coefficient (moved.at x) e ≡ 𝓚.zero → ⊥) → front k e ≡ monomials.one
  moved_passes x e nonzero = ∥∥₁_elim (of_any 𝓣 x) (monomials.is_set _ _) (λ o. monomials.same_eq _ _ (of_passes 𝓣 (λ m. monomials.same (front k m) monomials.one) e (moved-of o) nonzero))

  -- a move back
  moved_back : (x : P) → (relabel 𝓣 𝓣 (back k) (back-mul k)).at (moved.at x) ≡ x
  moved_back = agree 𝓣 𝓣.ring (λ x. (relabel 𝓣 𝓣 (back k) (back-mul k)).at (moved.at x)) (λ x. x) (λ x y. ap (relabel 𝓣 𝓣 (back k) (back-mul k)).at (moved.add x y) ∙ (relabel 𝓣 𝓣 (back k) (back-mul k)).add _ _) (λ x y. refl)
      (λ c m. ap (relabel 𝓣 𝓣 (back k) (back-mul k)).at (relabel-term 𝓣 𝓣 (behind k) (behind-mul k) c m) ∙ relabel-term 𝓣 𝓣 (back k) (back-mul k) c (behind k m) ∙ ap (𝓣.term c) (back-behind k m))

  -- only zero is moved to zero
  pub moved_zero : (x : P) → moved.at x ≡ 𝓣.ring.zero → x ≡ 𝓣.ring.zero
  moved_zero x e = sym (moved_back x) ∙ ap (relabel 𝓣 𝓣 (back k) (back-mul k)).at e ∙ hom-zero (relabel 𝓣 𝓣 (back k) (back-mul k))

  -- a polynomial without the first k variables is a moved one
  pub unmoved : (v : ℕ) {x : P} → Of 𝓣 (λ m. IsFront (k + v) m × (monomials.same (front k m) monomials.one ≡ true)) x → (q : P) × Of 𝓣 (IsFront v) q × (moved.at q ≡ x)
  unmoved v Of.none = (𝓣.ring.zero, Of.none, hom-zero moved)
  unmoved v (Of.more {f = x} c m (p, t) r) =
      let (q, o, e) = unmoved v r in (
        𝓣.ring.add (𝓣.term c (back k m)) q,
        Of.more c (back k m) (back_of_front k v m ∙ ap (back k) p) o,
        moved.add _ _ ∙ ap₂ 𝓣.ring.add (relabel-term 𝓣 𝓣 (behind k) (behind-mul k) c (back k m) ∙ ap (𝓣.term c) (only_back k m (monomials.same_eq _ _ t))) e,
      )
