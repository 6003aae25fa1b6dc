-- Polynomials in the first v variables: maps of rings out of them are told apart by these variables alone.
--   front-variable       the part of a variable in the first v variables: itself, or 1
--   front-product, behind_front    products of such polynomials; those moved by k are in the first k + v
--   agree_front          maps that agree at constants and at the first v variables agree on such polynomials
--   congruent_front      maps that are congruent there are congruent on such polynomials
use Rattle.std.proofs.Common.{◌≡◌, ◌⊎◌, ℕ, zero, suc, ◌+◌, ◌<◌, ◌≤◌, [], ◌∷◌, ◌++◌, length, length-append, length-take, List, take, take_all, replicate, refl, sym, ◌∙◌, ap, ap₂, subst, arith, inl, inr}
use Rattle.std.proofs.lemmas.List.{length-replicate}
use mathlib.Core.Logic.{∥∥₁_prop, ∥∥₁_elim, ∥∥₁_map}
use Rattle.rinv_algebra.specs.Monomial.{same_monomial}
use Rattle.rinv_theory.proofs.CRing.{zero_mul, add_neg, add_mul, CRing, Hom, compose, hom-zero}
use Rattle.rinv_theory.proofs.Solver.{ring, reading}
use Rattle.rinv_theory.proofs.Monoid.{IsOne, Monomial, monomial, monomials, monomial_ind, monomial_sound, monomial-one, monoid_map-one}
use Rattle.rinv_theory.proofs.TermRing.{TermRing, term-neg, terms_ind, split_term, monomial-term}
use Rattle.rinv_theory.proofs.Universal.{relabel, relabel-term}
use Rattle.rinv_theory.proofs.Substitution.{variable_monomial, monomial_by_variables, agree_variables}
use Rattle.rinv_theory.proofs.Of.{Of, of-add, of-times, of-term, of-weaken}
use Rattle.rinv_theory.proofs.Ideals.{IsCongruent, congruent-refl, congruent-add, congruent-mul}
use Rattle.rinv_theory.proofs.Places.{front, front-list, front-mul, behind, behind-list, behind-mul}
use Rattle.rinv_theory.proofs.Variables.{IsFront}

-- a number is below another, or not
pub low_or_high : (k v : ℕ) → (k < v) ⊎ (v ≤ k)
low_or_high k zero = inr (omega arith)
low_or_high zero (suc v) = inl (omega arith)
low_or_high (suc k) (suc v) = elim (low_or_high k v) [ inl h ↦ inl (omega arith) | inr h ↦ inr (omega arith) ]

-- a variable among the first v is its own part in them
pub front-variable : (v k : ℕ) → k < v → front v (variable_monomial k) ≡ variable_monomial k
front-variable v k h =
    let short : length (replicate k 0 ++ 1 ∷ []) ≤ v = omega (arith, length-append (replicate {A = ℕ} k 0) (1 ∷ []), length-replicate {A = ℕ} k 0) in
    front-list v _ ∙ ap monomial (take_all v _ short)

zeros : (v k : ℕ) → v ≤ k → IsOne (take v (replicate k 0 ++ 1 ∷ [])) []
unfolding same_monomial
zeros zero k h = refl
zeros (suc v) zero h = absurd (omega arith)
zeros (suc v) (suc k) h = zeros v k (omega arith)

-- another variable has none
pub front-variable_past : (v k : ℕ) → v ≤ k → front v (variable_monomial k) ≡ monomials.one
front-variable_past v k h = front-list v _ ∙ monomial_sound _ [] (zeros v k h) ∙ monomial-one

kept_first : (k v : ℕ) (a : List ℕ) → take (k + v) (replicate k 0 ++ a) ≡ replicate k 0 ++ take v a
kept_first zero v a = let e : 0 + v ≡ v = omega arith in ap (λ (n : ℕ). take n a) e
kept_first (suc k) v a = let e : suc k + v ≡ suc (k + v) = omega arith in ap (λ (n : ℕ). take n (0 ∷ (replicate k 0 ++ a))) e ∙ ap (λ (b : List ℕ). 0 ∷ b) (kept_first k v a)

-- a monomial in the first v variables, moved by k, is in the first k + v
pub behind_front : (k v : ℕ) (m : Monomial) → IsFront v m → IsFront (k + v) (behind k m)
behind_front k v m q = monomial_ind (λ m. front (k + v) (behind k m) ≡ behind k (front v m)) (λ m. monomials.is_set _ _) (λ a. ap (front (k + v)) (behind-list k a) ∙ front-list (k + v) _ ∙ ap monomial (kept_first k v a) ∙ sym (ap (behind k) (front-list v a) ∙ behind-list k (take v a))) m ∙ ap (behind k) q

-- the part in the first v variables is in the first w, where w is no less
pub front-front : (v w : ℕ) → v ≤ w → (m : Monomial) → IsFront w (front v m)
front-front v w h = monomial_ind (λ m. front w (front v m) ≡ front v m) (λ m. monomials.is_set _ _) (λ a. let short : length (take v a) ≤ w = omega (arith, length-take v a, h) in ap (front w) (front-list v a) ∙ front-list w (take v a) ∙ ap monomial (take_all w (take v a) short) ∙ sym (front-list v a))

-- fewer variables are among more
pub front_more : (v w : ℕ) → v ≤ w → (m : Monomial) → IsFront v m → IsFront w m
front_more v w h m q = ap (front w) (sym q) ∙ front-front v w h m ∙ q

module _ {K P : Type 0} {𝓚 : CRing K} (𝓣 : TermRing 𝓚 monomials P) where
  -- the variables past the first v are put 1
  abbrev pub retract : ℕ → Hom 𝓣.ring 𝓣.ring
  retract v = relabel 𝓣 𝓣 (front v) (front-mul v)

  -- that changes no polynomial in the first v variables
  pub retract-front : (v : ℕ) {x : P} → Of 𝓣 (IsFront v) x → (retract v).at x ≡ x
  retract-front v Of.none = hom-zero (retract v)
  retract-front v (Of.more c m q r) = (retract v).add _ _ ∙ ap₂ 𝓣.ring.add (relabel-term 𝓣 𝓣 (front v) (front-mul v) c m ∙ ap (𝓣.term c) q) (retract-front v r)

  -- a product of polynomials in the first v variables
  pub front-product : (v : ℕ) {x y : P} → Of 𝓣 (IsFront v) x → Of 𝓣 (IsFront v) y → Of 𝓣 (IsFront v) (𝓣.ring.mul x y)
  front-product v {y = y} Of.none r = subst (Of 𝓣 (IsFront v)) (sym (zero_mul 𝓣.ring y)) Of.none
  front-product v {y = y} (Of.more c m q s) r = subst (Of 𝓣 (IsFront v)) (sym (add_mul 𝓣.ring _ _ y)) (of-add 𝓣 (of-times 𝓣 c m (λ n p. front-mul v m n ∙ ap₂ monomials.mul q p) r) (front-product v s r))

  -- the opposite has the same monomials
  pub of-opposite : {Q : Monomial → Type 0} {x : P} → Of 𝓣 Q x → Of 𝓣 Q (𝓣.ring.neg x)
  of-opposite {Q} Of.none = subst (Of 𝓣 Q) (sym (add_neg 𝓣.ring 𝓣.ring.zero) ∙ 𝓣.ring.zero_add _) Of.none
  of-opposite {Q} (Of.more {f = x} c m q r) = subst (Of 𝓣 Q) (ap (λ y. 𝓣.ring.add y (𝓣.ring.neg x)) (term-neg 𝓣 c m) ∙ both (𝓣.term c m) x) (Of.more (𝓚.neg c) m q (of-opposite r))
    where
      both : (x y : P) → 𝓣.ring.add (𝓣.ring.neg x) (𝓣.ring.neg y) ≡ 𝓣.ring.neg (𝓣.ring.add x y)
      both x y = ring 𝓣.ring (x ∷ y ∷ []) (search reading depth 30) refl

  -- a polynomial in the first v variables, moved by k
  pub moved_front : (k v : ℕ) {x : P} → Of 𝓣 (IsFront v) x → Of 𝓣 (IsFront (k + v)) ((relabel 𝓣 𝓣 (behind k) (behind-mul k)).at x)
  moved_front k v Of.none = subst (Of 𝓣 (IsFront (k + v))) (sym (hom-zero (relabel 𝓣 𝓣 (behind k) (behind-mul k)))) Of.none
  moved_front k v (Of.more c m q s) =
      subst (Of 𝓣 (IsFront (k + v))) (ap₂ 𝓣.ring.add (sym (relabel-term 𝓣 𝓣 (behind k) (behind-mul k) c m)) refl ∙ sym ((relabel 𝓣 𝓣 (behind k) (behind-mul k)).add _ _))
      (Of.more c (behind k m) (behind_front k v m q) (moved_front k v s))

  -- a constant is in the first v variables, for any v
  pub constant_front : (v : ℕ) (c : K) → Of 𝓣 (IsFront v) (𝓣.term c monomials.one)
  constant_front v c = of-term 𝓣 c monomials.one (monoid_map-one monomials monomials (front v) (front-mul v))

  -- fewer variables are among more
  pub more_variables : (v w : ℕ) → v ≤ w → {x : P} → Of 𝓣 (IsFront v) x → Of 𝓣 (IsFront w) x
  more_variables v w h = of-weaken 𝓣 (front_more v w h)

  -- the monomials become their parts in the first v variables
  pub retract-of : (v : ℕ) {Q Q' : Monomial → Type 0} → ((m : Monomial) → Q m → Q' (front v m)) → {x : P} → Of 𝓣 Q x → Of 𝓣 Q' ((retract v).at x)
  retract-of v {Q' = Q'} w Of.none = subst (Of 𝓣 Q') (sym (hom-zero (retract v))) Of.none
  retract-of v {Q' = Q'} w (Of.more {f = x} c m q r) = subst (Of 𝓣 Q') (ap (λ y. 𝓣.ring.add y ((retract v).at x)) (sym (relabel-term 𝓣 𝓣 (front v) (front-mul v) c m)) ∙ sym ((retract v).add _ _)) (Of.more c (front v m) (w m q) (retract-of v w r))

  retract-constant : (v : ℕ) (c : K) → (retract v).at (𝓣.term c monomials.one) ≡ 𝓣.term c monomials.one
  retract-constant v c = relabel-term 𝓣 𝓣 (front v) (front-mul v) c monomials.one ∙ ap (𝓣.term c) (monoid_map-one monomials monomials (front v) (front-mul v))

  retract-variable : (v k : ℕ) → (retract v).at (𝓣.term 𝓚.one (variable_monomial k)) ≡ 𝓣.term 𝓚.one (front v (variable_monomial k))
  retract-variable v k = relabel-term 𝓣 𝓣 (front v) (front-mul v) 𝓚.one (variable_monomial k)

  module _ {A : Type 0} (𝓐 : CRing A) where
    module _ {I : Type 0} (F : I → A) where
      -- maps of rings that agree at constants and are congruent at variables are congruent
      pub congruent_maps : (φ ψ : Hom 𝓣.ring 𝓐) → ((c : K) → φ.at (𝓣.term c monomials.one) ≡ ψ.at (𝓣.term c monomials.one)) → ((k : ℕ) → IsCongruent 𝓐 F (φ.at (𝓣.term 𝓚.one (variable_monomial k))) (ψ.at (𝓣.term 𝓚.one (variable_monomial k))))
          → (x : P) → ∥ IsCongruent 𝓐 F (φ.at x) (ψ.at x) ∥₁
      congruent_maps φ ψ at_constants at_variables =
          terms_ind 𝓣 (λ x. ∥ Congruent x ∥₁) (λ x. ∥∥₁_prop) ∣ equal _ (hom-zero φ ∙ sym (hom-zero ψ)) ∣₁ (λ c m x i. ∥∥₁_elim (at_monomial m) ∥∥₁_prop (λ j. ∥∥₁_map i (λ i. sum c m x j i)))
        where
          Congruent : P → Type 0
          Congruent x = IsCongruent 𝓐 F (φ.at x) (ψ.at x)

          equal : (x : P) → φ.at x ≡ ψ.at x → Congruent x
          equal x e = subst (IsCongruent 𝓐 F (φ.at x)) e (congruent-refl 𝓐 F (φ.at x))

          times : (x y : P) → Congruent x → Congruent y → Congruent (𝓣.ring.mul x y)
          times x y r s = subst (IsCongruent 𝓐 F (φ.at (𝓣.ring.mul x y))) (sym (ψ.mul x y)) (subst (λ z. IsCongruent 𝓐 F z (𝓐.mul (ψ.at x) (ψ.at y))) (sym (φ.mul x y)) (congruent-mul 𝓐 F _ _ _ _ r s))

          at_monomial : (m : Monomial) → ∥ Congruent (𝓣.term 𝓚.one m) ∥₁
          at_monomial = monomial_by_variables (λ m. ∥ Congruent (𝓣.term 𝓚.one m) ∥₁) (λ m. ∥∥₁_prop) ∣ equal _ (at_constants 𝓚.one) ∣₁ (λ k m i. ∥∥₁_map i (λ i. subst Congruent (monomial-term 𝓣 (variable_monomial k) m 𝓚.one) (times _ _ (at_variables k) i)))

          sum : (c : K) (m : Monomial) (x : P) → Congruent (𝓣.term 𝓚.one m) → Congruent x → Congruent (𝓣.ring.add (𝓣.term c m) x)
          sum c m x j i =
              let here : Congruent (𝓣.term c m) = subst Congruent (sym (split_term 𝓣 c m)) (times _ _ (equal _ (at_constants c)) j) in
              subst (IsCongruent 𝓐 F (φ.at (𝓣.ring.add (𝓣.term c m) x))) (sym (ψ.add _ _)) (subst (λ z. IsCongruent 𝓐 F z (𝓐.add (ψ.at (𝓣.term c m)) (ψ.at x))) (sym (φ.add _ _)) (congruent-add 𝓐 F _ _ _ _ here i))

      -- the same of polynomials in the first v variables, by these
      pub congruent_front : (φ ψ : Hom 𝓣.ring 𝓐) (v : ℕ) → ((c : K) → φ.at (𝓣.term c monomials.one) ≡ ψ.at (𝓣.term c monomials.one)) → ((k : ℕ) → k < v → IsCongruent 𝓐 F (φ.at (𝓣.term 𝓚.one (variable_monomial k))) (ψ.at (𝓣.term 𝓚.one (variable_monomial k))))
          → {x : P} → Of 𝓣 (IsFront v) x → ∥ IsCongruent 𝓐 F (φ.at x) (ψ.at x) ∥₁
      unfolding compose
      congruent_front φ ψ v at_constants at_variables {x} r = subst (λ x. ∥ IsCongruent 𝓐 F (φ.at x) (ψ.at x) ∥₁) (retract-front v r) (congruent_maps (compose φ (retract v)) (compose ψ (retract v))
          (λ c. ap φ.at (retract-constant v c) ∙ at_constants c ∙ ap ψ.at (sym (retract-constant v c))) (λ k. go k (low_or_high k v)) x)
        where
          go : (k : ℕ) → (k < v) ⊎ (v ≤ k) → IsCongruent 𝓐 F (φ.at ((retract v).at (𝓣.term 𝓚.one (variable_monomial k)))) (ψ.at ((retract v).at (𝓣.term 𝓚.one (variable_monomial k))))
          go k (inl h) = let e = retract-variable v k ∙ ap (𝓣.term 𝓚.one) (front-variable v k h) in subst (λ y. IsCongruent 𝓐 F (φ.at y) (ψ.at y)) (sym e) (at_variables k h)
          go k (inr h) = let e = retract-variable v k ∙ ap (𝓣.term 𝓚.one) (front-variable_past v k h) in subst (λ y. IsCongruent 𝓐 F (φ.at y) (ψ.at y)) (sym e) (subst (IsCongruent 𝓐 F (φ.at (𝓣.term 𝓚.one monomials.one))) (at_constants 𝓚.one) (congruent-refl 𝓐 F _))

    -- maps of rings that agree at constants and at the first v variables agree on polynomials in these
    pub agree_front : (φ ψ : Hom 𝓣.ring 𝓐) (v : ℕ) → ((c : K) → φ.at (𝓣.term c monomials.one) ≡ ψ.at (𝓣.term c monomials.one)) → ((k : ℕ) → k < v → φ.at (𝓣.term 𝓚.one (variable_monomial k)) ≡ ψ.at (𝓣.term 𝓚.one (variable_monomial k)))
        → {x : P} → Of 𝓣 (IsFront v) x → φ.at x ≡ ψ.at x
    unfolding compose
    agree_front φ ψ v at_constants at_variables {x} r = ap φ.at (sym (retract-front v r)) ∙ agree_variables 𝓣 𝓐 (compose φ (retract v)) (compose ψ (retract v)) (λ c. ap φ.at (retract-constant v c) ∙ at_constants c ∙ ap ψ.at (sym (retract-constant v c))) (λ k. go k (low_or_high k v)) x ∙ ap ψ.at (retract-front v r)
      where
        go : (k : ℕ) → (k < v) ⊎ (v ≤ k) → φ.at ((retract v).at (𝓣.term 𝓚.one (variable_monomial k))) ≡ ψ.at ((retract v).at (𝓣.term 𝓚.one (variable_monomial k)))
        go k (inl h) = let e = retract-variable v k ∙ ap (𝓣.term 𝓚.one) (front-variable v k h) in ap φ.at e ∙ at_variables k h ∙ ap ψ.at (sym e)
        go k (inr h) = let e = retract-variable v k ∙ ap (𝓣.term 𝓚.one) (front-variable_past v k h) in ap φ.at e ∙ at_constants 𝓚.one ∙ ap ψ.at (sym e)
