-- Polynomials with coefficients from an algebra, and linear maps of algebras at each coefficient.
--   Extension 𝓣 𝓤        the coefficients of 𝓤 are an algebra over those of 𝓣; into is the map of the polynomials
--   itself, extension    of 𝓣 to itself; by a map of the coefficients
--   Linear e h           a map of the algebras that is linear over the coefficients of 𝓣
--   each                 it at each coefficient: each-term, each-add, each-zero, each-neg, each-coefficient
--   each-into            it is linear over the polynomials of 𝓣
--   each_member          it keeps the ideals that polynomials of 𝓣 generate
use Rattle.std.proofs.Common.{◌≡◌, Bool, true, false, cond, refl, sym, ◌∙◌, ap, ap₂, subst}
use Rattle.rinv_theory.proofs.CRing.{CRing, Hom, add_mul, add_cancel}
use Rattle.rinv_theory.proofs.Monoid.{Monoid}
use Rattle.rinv_theory.proofs.TermSums.{IsAdditive}
use Rattle.rinv_theory.proofs.TermRing.{TermRing}
use Rattle.rinv_theory.proofs.Universal.{extend, extend-term, extend-add, agree, adds-zero, change, change-term}
use Rattle.rinv_theory.proofs.Ideals.{In}
use Rattle.rinv_soundness.proofs.Substituting.{identity}

-- the polynomials of 𝓣 among those of 𝓤, whose coefficients are an algebra over those of 𝓣
pub record Extension {K A M P U : Type 0} {𝓚 : CRing K} {𝓐 : CRing A} {𝓜 : Monoid M} (𝓣 : TermRing 𝓚 𝓜 P) (𝓤 : TermRing 𝓐 𝓜 U) : Type 0 where
  pub number : Hom 𝓚 𝓐
  pub into : Hom 𝓣.ring 𝓤.ring
  pub into_term : (c : K) (m : M) → into.at (𝓣.term c m) ≡ 𝓤.term (number.at c) m

-- the polynomials themselves
unfoldable pub itself : {K M P : Type 0} {𝓚 : CRing K} {𝓜 : Monoid M} (𝓣 : TermRing 𝓚 𝓜 P) → Extension 𝓣 𝓣
unfolding identity
itself {𝓚 = 𝓚} 𝓣 = record { number = identity 𝓚; into = identity 𝓣.ring; into_term = λ c m. refl }

-- by a map of the coefficients
unfoldable pub extension : {K A M P U : Type 0} {𝓚 : CRing K} {𝓐 : CRing A} {𝓜 : Monoid M} (𝓣 : TermRing 𝓚 𝓜 P) (𝓤 : TermRing 𝓐 𝓜 U) → Hom 𝓚 𝓐 → Extension 𝓣 𝓤
extension 𝓣 𝓤 κ = record { number = κ; into = change 𝓣 𝓤 κ; into_term = change-term 𝓣 𝓤 κ }

-- a linear map of two algebras
pub record Linear {K A B M P U V : Type 0} {𝓚 : CRing K} {𝓐 : CRing A} {𝓑 : CRing B} {𝓜 : Monoid M} {𝓣 : TermRing 𝓚 𝓜 P} {𝓤 : TermRing 𝓐 𝓜 U} {𝓥 : TermRing 𝓑 𝓜 V} (e : Extension 𝓣 𝓤) (h : Extension 𝓣 𝓥) : Type 0 where
  pub at : A → B
  pub add : (x y : A) → at (𝓐.add x y) ≡ 𝓑.add (at x) (at y)
  pub scale : (x : A) (c : K) → at (𝓐.mul x (e.number.at c)) ≡ 𝓑.mul (at x) (h.number.at c)

module _ {K A B M P U V : Type 0} {𝓚 : CRing K} {𝓐 : CRing A} {𝓑 : CRing B} {𝓜 : Monoid M} {𝓣 : TermRing 𝓚 𝓜 P} {𝓤 : TermRing 𝓐 𝓜 U} {𝓥 : TermRing 𝓑 𝓜 V} {e : Extension 𝓣 𝓤} {h : Extension 𝓣 𝓥} (φ : Linear e h) where
  -- it keeps zero
  pub linear-zero : φ.at 𝓐.zero ≡ 𝓑.zero
  linear-zero = add_cancel 𝓑 _ _ (φ.at 𝓐.zero) (sym (φ.add 𝓐.zero 𝓐.zero) ∙ ap φ.at (𝓐.zero_add 𝓐.zero) ∙ sym (𝓑.zero_add _))

  each_term : A → M → V
  each_term a m = 𝓥.term (φ.at a) m

  each_term-additive : IsAdditive 𝓐 𝓥.ring each_term
  unfolding each_term
  each_term-additive a b m = ap (λ x. 𝓥.term x m) (φ.add a b) ∙ sym (𝓥.term_add _ _ m)

  -- the map at each coefficient
  pub each : U → V
  each x = extend 𝓤 𝓥.ring each_term each_term-additive x

  -- a sum
  pub each-add : (x y : U) → each (𝓤.ring.add x y) ≡ 𝓥.ring.add (each x) (each y)
  unfolding each
  each-add x y = extend-add 𝓤 𝓥.ring each_term each_term-additive x y

  -- a term
  pub each-term : (a : A) (m : M) → each (𝓤.term a m) ≡ 𝓥.term (φ.at a) m
  unfolding each each_term
  each-term a m = extend-term 𝓤 𝓥.ring each_term each_term-additive a m

  -- zero
  pub each-zero : each 𝓤.ring.zero ≡ 𝓥.ring.zero
  each-zero = adds-zero 𝓤 𝓥.ring each each-add

  -- an opposite
  pub each-neg : (x : U) → each (𝓤.ring.neg x) ≡ 𝓥.ring.neg (each x)
  each-neg x = add_cancel 𝓥.ring _ _ (each x) (sym (each-add (𝓤.ring.neg x) x) ∙ ap each (𝓤.ring.neg_add x) ∙ each-zero ∙ sym (𝓥.ring.neg_add (each x)))

  -- no other additive map has these values at terms
  pub each-unique : (f : U → V) → ((x y : U) → f (𝓤.ring.add x y) ≡ 𝓥.ring.add (f x) (f y)) → ((a : A) (m : M) → f (𝓤.term a m) ≡ 𝓥.term (φ.at a) m) → (x : U) → f x ≡ each x
  each-unique f f_add f_term = agree 𝓤 𝓥.ring f each f_add each-add (λ a m. f_term a m ∙ sym (each-term a m))

  -- the coefficients of an image
  pub each-coefficient : (x : U) (n : M) → 𝓥.coefficient (each x) n ≡ φ.at (𝓤.coefficient x n)
  each-coefficient x n =
      agree 𝓤 𝓑 (λ x. 𝓥.coefficient (each x) n) (λ x. φ.at (𝓤.coefficient x n)) (λ x y. ap (λ z. 𝓥.coefficient z n) (each-add x y) ∙ 𝓥.coefficient_add _ _ n) (λ x y. ap φ.at (𝓤.coefficient_add x y n) ∙ φ.add _ _)
      (λ a m. ap (λ z. 𝓥.coefficient z n) (each-term a m) ∙ 𝓥.coefficient_term _ m n ∙ go a (𝓜.same m n) ∙ ap φ.at (sym (𝓤.coefficient_term a m n))) x
    where
      go : (a : A) (b : Bool) → cond b (φ.at a) 𝓑.zero ≡ φ.at (cond b a 𝓐.zero)
      go a true = refl
      go a false = sym linear-zero

  -- multiples by polynomials of 𝓣
  pub each-into : (x : U) (p : P) → each (𝓤.ring.mul x (e.into.at p)) ≡ 𝓥.ring.mul (each x) (h.into.at p)
  each-into x p =
      agree 𝓤 𝓥.ring (λ x. each (𝓤.ring.mul x (e.into.at p))) (λ x. 𝓥.ring.mul (each x) (h.into.at p)) (λ x y. ap each (add_mul 𝓤.ring x y _) ∙ each-add _ _) (λ x y. ap (λ z. 𝓥.ring.mul z (h.into.at p)) (each-add x y) ∙ add_mul 𝓥.ring _ _ _)
      (λ a m. agree 𝓣 𝓥.ring (λ p. each (𝓤.ring.mul (𝓤.term a m) (e.into.at p))) (λ p. 𝓥.ring.mul (each (𝓤.term a m)) (h.into.at p))
      (λ p q. ap each (ap (𝓤.ring.mul (𝓤.term a m)) (e.into.add p q) ∙ 𝓤.ring.mul_add _ _ _) ∙ each-add _ _) (λ p q. ap (𝓥.ring.mul (each (𝓤.term a m))) (h.into.add p q) ∙ 𝓥.ring.mul_add _ _ _)
      (λ c n. at_terms a m c n) p) x
    where
      at_terms : (a : A) (m : M) (c : K) (n : M) → each (𝓤.ring.mul (𝓤.term a m) (e.into.at (𝓣.term c n))) ≡ 𝓥.ring.mul (each (𝓤.term a m)) (h.into.at (𝓣.term c n))
      at_terms a m c n =
          ap each (ap (𝓤.ring.mul (𝓤.term a m)) (e.into_term c n) ∙ 𝓤.term_mul _ _ m n) ∙ each-term _ _ ∙ ap (λ y. 𝓥.term y (𝓜.mul m n)) (φ.scale a c)
          ∙ sym (𝓥.term_mul _ _ m n) ∙ ap₂ 𝓥.ring.mul (sym (each-term a m)) (sym (h.into_term c n))

  -- the ideals that polynomials of 𝓣 generate
  pub each_member : {J : Type 0} (γ : J → P) {f : U} → In 𝓤.ring (λ j. e.into.at (γ j)) f → In 𝓥.ring (λ j. h.into.at (γ j)) (each f)
  each_member γ In.none = subst (In 𝓥.ring (λ j. h.into.at (γ j))) (sym each-zero) In.none
  each_member γ (In.more {f = f} u j r) = subst (In 𝓥.ring (λ j. h.into.at (γ j))) (sym (each-add _ _ ∙ ap (λ x. 𝓥.ring.add x (each f)) (each-into u (γ j)))) (In.more (each u) j (each_member γ r))

-- a map of rings that keeps numbers is linear
unfoldable pub linear : {K A B M P U V : Type 0} {𝓚 : CRing K} {𝓐 : CRing A} {𝓑 : CRing B} {𝓜 : Monoid M} {𝓣 : TermRing 𝓚 𝓜 P} {𝓤 : TermRing 𝓐 𝓜 U} {𝓥 : TermRing 𝓑 𝓜 V} (e : Extension 𝓣 𝓤) (h : Extension 𝓣 𝓥) (f : Hom 𝓐 𝓑)
    → ((c : K) → f.at (e.number.at c) ≡ h.number.at c) → Linear e h
linear {𝓑 = 𝓑} e h f f_number = record { at = f.at; add = f.add; scale = λ x c. f.mul _ _ ∙ ap (𝓑.mul (f.at x)) (f_number c) }
