-- What the theory of bases knows of a ring of polynomials: a ring, its terms and the coefficients. So it serves polynomials over a
-- field, over polynomials and over fractions alike.
--   TermRing 𝓚 𝓜 P       a ring on P with terms: coefficients from 𝓚, monomials from 𝓜
--   spell                the element that a list of terms stands for
--   coefficient-zero, coefficient-neg, coefficient-spell    coefficients of zero, of an opposite, of a list of terms
--   term_zero, term-neg  the term with coefficient zero, with an opposite coefficient
--   constant-term, monomial-term, split_term    a constant, a monomial times a term; a term is a constant times a monomial
--   constants            the coefficients as elements of the ring
--   terms_ind            a fact that holds of zero, and of a term plus what it holds of, holds
use Rattle.std.proofs.Common.{◌≡◌, [], ◌∷◌, ◌++◌, refl, sym, ◌∙◌, ap, ap₂, subst}
use mathlib.Core.Logic.{∥∥₁_elim}
use Rattle.rinv_theory.proofs.CRing.{CRing, Hom, mul_one, add_cancel}
use Rattle.rinv_theory.proofs.Monoid.{Monoid}
use Rattle.rinv_theory.proofs.TermSums.{Terms, pick, coef, total, total-append}

-- a ring of polynomials
pub record TermRing {K M : Type 0} (𝓚 : CRing K) (𝓜 : Monoid M) (P : Type 0) : Type 0 where
  pub ring : CRing P
  pub term : K → M → P
  pub coefficient : P → M → K
  pub term_add : (c d : K) (m : M) → ring.add (term c m) (term d m) ≡ term (𝓚.add c d) m
  pub term_mul : (c d : K) (m n : M) → ring.mul (term c m) (term d n) ≡ term (𝓚.mul c d) (𝓜.mul m n)
  pub term_one : term 𝓚.one 𝓜.one ≡ ring.one
  pub coefficient_add : (x y : P) (e : M) → coefficient (ring.add x y) e ≡ 𝓚.add (coefficient x e) (coefficient y e)
  pub coefficient_term : (c : K) (m e : M) → coefficient (term c m) e ≡ pick 𝓚 𝓜 e c m
  pub coefficient_times : (c : K) (m e : M) (x : P) → coefficient (ring.mul (term c m) x) (𝓜.mul m e) ≡ 𝓚.mul c (coefficient x e)
  pub spelled : (x : P) → ∥ ((p : Terms K M) × (total ring term p ≡ x)) ∥₁
  pub coefficient_ext : (x y : P) → ((e : M) → coefficient x e ≡ coefficient y e) → x ≡ y

module _ {K M P : Type 0} {𝓚 : CRing K} {𝓜 : Monoid M} (𝓣 : TermRing 𝓚 𝓜 P) where
  open 𝓣.ring use {add as ◌+◌, mul as ◌*◌, neg as -◌, zero as 𝟘}

  infixl 60 ◌+◌
  infixl 70 ◌*◌
  infix 80 -◌
  -- the sum of a list of terms
  abbrev pub spell : Terms K M → P
  spell p = total 𝓣.ring 𝓣.term p

  -- zero has no coefficients
  pub coefficient-zero : (e : M) → 𝓣.coefficient 𝟘 e ≡ 𝓚.zero
  coefficient-zero e = add_cancel 𝓚 _ _ (𝓣.coefficient 𝟘 e) (sym (𝓣.coefficient_add 𝟘 𝟘 e) ∙ ap (λ x. 𝓣.coefficient x e) (𝓣.ring.zero_add 𝟘) ∙ sym (𝓚.zero_add _))

  -- the coefficients of an opposite
  pub coefficient-neg : (x : P) (e : M) → 𝓣.coefficient (- x) e ≡ 𝓚.neg (𝓣.coefficient x e)
  coefficient-neg x e = add_cancel 𝓚 _ _ (𝓣.coefficient x e) (sym (𝓣.coefficient_add _ _ e) ∙ ap (λ y. 𝓣.coefficient y e) (𝓣.ring.neg_add x) ∙ coefficient-zero e ∙ sym (𝓚.neg_add _))

  -- the coefficients of a list of terms
  pub coefficient-spell : (p : Terms K M) (e : M) → 𝓣.coefficient (spell p) e ≡ coef 𝓚 𝓜 p e
  coefficient-spell [] e = coefficient-zero e
  coefficient-spell ((m, c) ∷ p) e = 𝓣.coefficient_add _ _ e ∙ ap₂ 𝓚.add (𝓣.coefficient_term c m e) (coefficient-spell p e)

  -- two lists, one after the other
  pub spell-append : (p q : Terms K M) → spell (p ++ q) ≡ spell p + spell q
  spell-append p q = total-append 𝓣.ring 𝓣.term p q

  -- the term with coefficient zero
  pub term_zero : (m : M) → 𝓣.term 𝓚.zero m ≡ 𝟘
  term_zero m = add_cancel 𝓣.ring _ _ (𝓣.term 𝓚.zero m) (𝓣.term_add _ _ m ∙ ap (λ c. 𝓣.term c m) (𝓚.zero_add _) ∙ sym (𝓣.ring.zero_add _))

  -- the term with an opposite coefficient
  pub term-neg : (c : K) (m : M) → 𝓣.term (𝓚.neg c) m ≡ - 𝓣.term c m
  term-neg c m = add_cancel 𝓣.ring _ _ (𝓣.term c m) (𝓣.term_add _ _ m ∙ ap (λ c. 𝓣.term c m) (𝓚.neg_add c) ∙ term_zero m ∙ sym (𝓣.ring.neg_add _))

  -- a constant times a term
  pub constant-term : (c d : K) (m : M) → 𝓣.term c 𝓜.one * 𝓣.term d m ≡ 𝓣.term (𝓚.mul c d) m
  constant-term c d m = 𝓣.term_mul c d 𝓜.one m ∙ ap (𝓣.term (𝓚.mul c d)) (𝓜.one_mul m)

  -- a monomial times a term
  pub monomial-term : (m n : M) (d : K) → 𝓣.term 𝓚.one m * 𝓣.term d n ≡ 𝓣.term d (𝓜.mul m n)
  monomial-term m n d = 𝓣.term_mul 𝓚.one d m n ∙ ap (λ x. 𝓣.term x (𝓜.mul m n)) (𝓚.one_mul d)

  -- a term is a constant times a monomial
  pub split_term : (c : K) (m : M) → 𝓣.term c m ≡ 𝓣.term c 𝓜.one * 𝓣.term 𝓚.one m
  split_term c m = sym (constant-term c 𝓚.one m ∙ ap (λ x. 𝓣.term x m) (mul_one 𝓚 c))

  -- the coefficients, as elements of the ring
  unfoldable pub constants : Hom 𝓚 𝓣.ring
  constants = record {
    at = λ c. 𝓣.term c 𝓜.one;
    add = λ c d. sym (𝓣.term_add c d 𝓜.one);
    mul = λ c d. sym (constant-term c d 𝓜.one);
    one = 𝓣.term_one;
  }

  -- a coefficient as an element of the ring
  pub constants-at : (c : K) → constants.at c ≡ 𝓣.term c 𝓜.one
  unfolding constants
  constants-at c = refl

  -- induction over terms
  pub terms_ind : (Q : P → Type 0) → ((x : P) → IsProp (Q x)) → Q 𝟘 → ((c : K) (m : M) (x : P) → Q x → Q (𝓣.term c m + x)) → (x : P) → Q x
  terms_ind Q Q_prop z s x = ∥∥₁_elim (𝓣.spelled x) (Q_prop x) (λ p. subst Q p.1 (list p.0))
    where
      list : (p : Terms K M) → Q (spell p)
      list [] = z
      list ((m, c) ∷ p) = s c m (spell p) (list p)
