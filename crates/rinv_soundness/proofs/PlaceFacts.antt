-- The parts of monomials in the first k variables, and of monomials past them; coefficients of nested polynomials.
--   back-front           a monomial in the first k variables has no part past them
--   front-behind, back-behind    the parts of a monomial moved past the first k
--   nest-coefficient     a coefficient of a polynomial is one of a coefficient of it nested
--   nest-behind          nested, a polynomial in the later variables is a constant
--   nest-of              nested, a polynomial has monomials in the first k variables alone
--   nest-front           nested, a polynomial in the first k variables has constants for coefficients
use Rattle.std.proofs.Common.{◌≡◌, subst, arith, ◌≤◌, ℕ, zero, suc, Bool, true, false, cond, List, [], ◌∷◌, ◌++◌, take, drop, replicate, refl, sym, ◌∙◌, ap, ap₂, true≢false}
use Rattle.rinv_algebra.specs.Monomial.{same_monomial}
use Rattle.rinv_theory.proofs.CRing.{CRing, Hom, hom-zero}
use Rattle.rinv_theory.proofs.Monoid.{IsOne, Monomial, monomial, monomials, monomial_ind, monomial_sound, monomial-one}
use Rattle.rinv_theory.proofs.TermRing.{TermRing, coefficient-zero, constants, constants-at}
use Rattle.rinv_theory.proofs.Universal.{agree, relabel, relabel-term, change, change-term}
use Rattle.rinv_theory.proofs.Of.{Of}
use Rattle.rinv_theory.proofs.Places.{front, front-list, back, back-list, behind, behind-list, behind-mul, front_behind}
use Rattle.rinv_theory.proofs.Nested.{nest, nest-term}
use Rattle.rinv_theory.proofs.Variables.{IsFront}
use Rattle.rinv_soundness.proofs.FirstVariables.{front-front}

nothing_left : (k : ℕ) (a : List ℕ) → drop k (take k a) ≡ []
nothing_left zero a = refl
nothing_left (suc k) [] = refl
nothing_left (suc k) (x ∷ a) = nothing_left k a

nothing_first : (k : ℕ) (a : List ℕ) → IsOne (take k (replicate k 0 ++ a)) []
unfolding same_monomial
nothing_first zero a = refl
nothing_first (suc k) a = nothing_first k a

all_left : (k : ℕ) (a : List ℕ) → drop k (replicate k 0 ++ a) ≡ a
all_left zero a = refl
all_left (suc k) a = all_left k a

module _ (k : ℕ) where
  -- a monomial in the first k variables has no part past them
  pub back-front : (m : Monomial) → IsFront k m → back k m ≡ monomials.one
  back-front m q = ap (back k) (sym q) ∙ monomial_ind (λ m. back k (front k m) ≡ monomials.one) (λ m. monomials.is_set _ _) (λ a. ap (back k) (front-list k a) ∙ back-list k (take k a) ∙ ap monomial (nothing_left k a) ∙ monomial-one) m

  -- a monomial moved past the first k has no part in them
  pub front-behind : (m : Monomial) → front k (behind k m) ≡ monomials.one
  front-behind = monomial_ind (λ m. front k (behind k m) ≡ monomials.one) (λ m. monomials.is_set _ _) (λ a. ap (front k) (behind-list k a) ∙ front-list k _ ∙ monomial_sound _ [] (nothing_first k a) ∙ monomial-one)

  -- and its part past them is itself
  pub back-behind : (m : Monomial) → back k (behind k m) ≡ m
  back-behind = monomial_ind (λ m. back k (behind k m) ≡ m) (λ m. monomials.is_set _ _) (λ a. ap (back k) (behind-list k a) ∙ back-list k _ ∙ ap monomial (all_left k a))

module _ {K P D S : Type 0} {𝓚 : CRing K} (𝓟 : TermRing 𝓚 monomials P) (𝓓 : TermRing 𝓚 monomials D) (𝓢 : TermRing 𝓓.ring monomials S) (k : ℕ) where
  abbrev inside : P → Monomial → K
  inside x m = 𝓓.coefficient (𝓢.coefficient ((nest 𝓟 𝓓 𝓢 k).at x) (front k m)) (back k m)

  -- a coefficient of a polynomial is one of a coefficient of it nested
  pub nest-coefficient : (x : P) (m : Monomial) → 𝓓.coefficient (𝓢.coefficient ((nest 𝓟 𝓓 𝓢 k).at x) (front k m)) (back k m) ≡ 𝓟.coefficient x m
  nest-coefficient x m = agree 𝓟 𝓚 (λ x. inside x m) (λ x. 𝓟.coefficient x m)
      (λ x y. ap (λ z. 𝓓.coefficient (𝓢.coefficient z (front k m)) (back k m)) ((nest 𝓟 𝓓 𝓢 k).add x y) ∙ ap (λ z. 𝓓.coefficient z (back k m)) (𝓢.coefficient_add _ _ _) ∙ 𝓓.coefficient_add _ _ _)
      (λ x y. 𝓟.coefficient_add x y m) at_term x
    where
      picked : (c : K) (n : Monomial) (a : Bool) → 𝓓.coefficient (cond a (𝓓.term c (back k n)) 𝓓.ring.zero) (back k m) ≡ cond a (cond (monomials.same (back k n) (back k m)) c 𝓚.zero) 𝓚.zero
      picked c n true = 𝓓.coefficient_term c (back k n) (back k m)
      picked c n false = coefficient-zero 𝓓 (back k m)

      whole : (c : K) (n : Monomial) (a b e : Bool) → monomials.same (front k n) (front k m) ≡ a → monomials.same (back k n) (back k m) ≡ b → monomials.same n m ≡ e → cond a (cond b c 𝓚.zero) 𝓚.zero ≡ cond e c 𝓚.zero
      whole c n true true true p q r = refl
      whole c n true true false p q r =
          let one : n ≡ m = sym (front_behind k n) ∙ ap₂ monomials.mul (monomials.same_eq _ _ p) (ap (behind k) (monomials.same_eq _ _ q)) ∙ front_behind k m in
          absurd (true≢false (sym (monomials.same_refl m) ∙ ap (λ x. monomials.same x m) (sym one) ∙ r))
      whole c n a false true p q r = absurd (true≢false (sym (monomials.same_refl (back k m)) ∙ ap (λ x. monomials.same (back k x) (back k m)) (sym (monomials.same_eq n m r)) ∙ q))
      whole c n false b true p q r = absurd (true≢false (sym (monomials.same_refl (front k m)) ∙ ap (λ x. monomials.same (front k x) (front k m)) (sym (monomials.same_eq n m r)) ∙ p))
      whole c n true false false p q r = refl
      whole c n false b false p q r = refl

      at_term : (c : K) (n : Monomial) → inside (𝓟.term c n) m ≡ 𝓟.coefficient (𝓟.term c n) m
      at_term c n =
          ap (λ z. 𝓓.coefficient (𝓢.coefficient z (front k m)) (back k m)) (nest-term 𝓟 𝓓 𝓢 k c n) ∙ ap (λ z. 𝓓.coefficient z (back k m)) (𝓢.coefficient_term _ (front k n) (front k m))
          ∙ picked c n _ ∙ whole c n _ _ _ refl refl refl ∙ sym (𝓟.coefficient_term c n m)

  -- nested, a polynomial in the later variables is a constant
  pub nest-behind : (d : D) → (nest 𝓟 𝓓 𝓢 k).at ((relabel 𝓓 𝓟 (behind k) (behind-mul k)).at d) ≡ 𝓢.term d monomials.one
  nest-behind d = agree 𝓓 𝓢.ring (λ d. (nest 𝓟 𝓓 𝓢 k).at ((relabel 𝓓 𝓟 (behind k) (behind-mul k)).at d)) (λ d. 𝓢.term d monomials.one)
      (λ x y. ap (nest 𝓟 𝓓 𝓢 k).at ((relabel 𝓓 𝓟 (behind k) (behind-mul k)).add x y) ∙ (nest 𝓟 𝓓 𝓢 k).add _ _) (λ x y. sym (𝓢.term_add x y monomials.one))
      (λ c m. ap (nest 𝓟 𝓓 𝓢 k).at (relabel-term 𝓓 𝓟 (behind k) (behind-mul k) c m) ∙ nest-term 𝓟 𝓓 𝓢 k c (behind k m) ∙ ap₂ (λ x y. 𝓢.term (𝓓.term c x) y) (back-behind k m) (front-behind k m)) d

  -- nested, a polynomial has monomials in the first k variables alone
  pub nest-of : {Q : Monomial → Type 0} {x : P} → Of 𝓟 Q x → Of 𝓢 (IsFront k) ((nest 𝓟 𝓓 𝓢 k).at x)
  nest-of Of.none = subst (Of 𝓢 (IsFront k)) (sym (hom-zero (nest 𝓟 𝓓 𝓢 k))) Of.none
  nest-of (Of.more {f = x} c m q r) =
      let same : k ≤ k = omega arith in
      subst (Of 𝓢 (IsFront k)) (ap (λ y. 𝓢.ring.add y ((nest 𝓟 𝓓 𝓢 k).at x)) (sym (nest-term 𝓟 𝓓 𝓢 k c m)) ∙ sym ((nest 𝓟 𝓓 𝓢 k).add _ _)) (Of.more (𝓓.term c (back k m)) (front k m) (front-front k k same m) (nest-of r))

module _ {K P S : Type 0} {𝓚 : CRing K} (𝓟 : TermRing 𝓚 monomials P) (𝓢 : TermRing 𝓟.ring monomials S) where
  -- the coefficients as constants of the inner polynomials
  abbrev pub outer : Hom 𝓟.ring 𝓢.ring
  outer = change 𝓟 𝓢 (constants 𝓟)

  -- its value at a term
  pub outer-term : (c : K) (m : Monomial) → outer.at (𝓟.term c m) ≡ 𝓢.term (𝓟.term c monomials.one) m
  outer-term c m = change-term 𝓟 𝓢 (constants 𝓟) c m ∙ ap (λ x. 𝓢.term x m) (constants-at 𝓟 c)

  -- nested, a polynomial in the first k variables has constants for coefficients
  pub nest-front : (k : ℕ) {x : P} → Of 𝓟 (IsFront k) x → (nest 𝓟 𝓟 𝓢 k).at x ≡ outer.at x
  nest-front k Of.none = hom-zero (nest 𝓟 𝓟 𝓢 k) ∙ sym (hom-zero outer)
  nest-front k (Of.more c m q r) = (nest 𝓟 𝓟 𝓢 k).add _ _ ∙ ap₂ 𝓢.ring.add (nest-term 𝓟 𝓟 𝓢 k c m ∙ ap₂ (λ x y. 𝓢.term (𝓟.term c x) y) (back-front k m q) q ∙ sym (outer-term c m)) (nest-front k r) ∙ sym (outer.add _ _)
