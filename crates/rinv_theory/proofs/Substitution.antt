-- Substitution: the map of polynomials that puts the coordinates of a point for the variables.
--   power 𝓐 x k          x to the k
--   at_point 𝓐 point a   the product of the coordinates, each to its exponent; coordinates past the point's end are 1
--   monomial_at          the same of a monomial, with -mul, -one
--   substitution 𝓣 𝓐 f point    the map of rings; substitution-term, substitution-unique
--   compose-substitution    a map after a substitution puts the images of the coordinates
--   monomial_by_variables   a fact that holds of 1, and of a variable times what it holds of, holds of each monomial
--   substitution-variable   at a variable it is the coordinate
--   agree_variables      maps of rings that agree at constants and at variables are equal
use Rattle.std.proofs.Common.{◌≡◌, ℕ, zero, suc, ◌+◌, List, [], ◌∷◌, ◌++◌, map, replicate, get_or, refl, sym, ◌∙◌, ap, ap₂, subst, arith}
use Rattle.std.proofs.lemmas.Bool.Decides.{nat_tests}
use mathlib.Core.Quot.{lift}
use Rattle.rinv_algebra.specs.Monomial.{same_monomial, monomial_product}
use Rattle.rinv_theory.proofs.CRing.{CRing, Hom, compose, mul_one}
use Rattle.rinv_theory.proofs.Solver.{ring, reading}
use Rattle.rinv_theory.proofs.Monoid.{IsOne, Monomial, monomial, monomials, monomial_ind, monomial_sound, monomial-mul, monomial-one}
use Rattle.rinv_theory.proofs.TermRing.{TermRing, monomial-term}
use Rattle.rinv_theory.proofs.Universal.{evaluation, evaluation-term, evaluation-unique, agree_parts}

module _ {A : Type 0} (𝓐 : CRing A) where
  -- x to the k
  abbrev pub power : A → ℕ → A
  power x zero = 𝓐.one
  power x (suc k) = 𝓐.mul x (power x k)

  -- exponents add up
  pub power-add : (x : A) (j k : ℕ) → power x (j + k) ≡ 𝓐.mul (power x j) (power x k)
  power-add x zero k = let e : 0 + k ≡ k = omega arith in ap (power x) e ∙ sym (𝓐.one_mul _)
  power-add x (suc j) k = let e : suc j + k ≡ suc (j + k) = omega arith in ap (power x) e ∙ ap (𝓐.mul x) (power-add x j k) ∙ sym (𝓐.mul_assoc _ _ _)

  -- the product of the coordinates, each to its exponent
  abbrev pub at_point : List A → List ℕ → A
  at_point [] a = 𝓐.one
  at_point (x ∷ point) [] = 𝓐.one
  at_point (x ∷ point) (k ∷ a) = 𝓐.mul (power x k) (at_point point a)

  at_point-nil : (point : List A) → at_point point [] ≡ 𝓐.one
  at_point-nil [] = refl
  at_point-nil (x ∷ point) = refl

  at_point-mul : (point : List A) (a b : List ℕ) → at_point point (monomial_product a b) ≡ 𝓐.mul (at_point point a) (at_point point b)
  unfolding monomial_product
  at_point-mul [] a b = sym (𝓐.one_mul _)
  at_point-mul (x ∷ point) [] b = sym (𝓐.one_mul _)
  at_point-mul (x ∷ point) (j ∷ a) [] = sym (mul_one 𝓐 _)
  at_point-mul (x ∷ point) (j ∷ a) (k ∷ b) = ap₂ 𝓐.mul (power-add x j k) (at_point-mul point a b) ∙ turned (power x j) (power x k) (at_point point a) (at_point point b)
    where
      turned : (p q r s : A) → 𝓐.mul (𝓐.mul p q) (𝓐.mul r s) ≡ 𝓐.mul (𝓐.mul p r) (𝓐.mul q s)
      turned p q r s = ring 𝓐 (p ∷ q ∷ r ∷ s ∷ []) (search reading depth 30) refl

  power_none : (x : A) (k : ℕ) → k ≡ 0 → power x k ≡ 𝓐.one
  power_none x k e = ap (power x) e

  at_point-same : (point : List A) (a b : List ℕ) → IsOne a b → at_point point a ≡ at_point point b
  unfolding same_monomial
  at_point-same [] a b e = refl
  at_point-same (x ∷ point) [] [] e = refl
  at_point-same (x ∷ point) [] (k ∷ b) e =
      let here : k ≡ 0 = grind (arith, nat_tests) in
      let rest : IsOne [] b = grind (arith, nat_tests) in
      sym (ap₂ 𝓐.mul (power_none x k here) (sym (at_point-same point [] b rest) ∙ at_point-nil point) ∙ 𝓐.one_mul _)
  at_point-same (x ∷ point) (j ∷ a) [] e =
      let here : j ≡ 0 = grind (arith, nat_tests) in
      let rest : IsOne a [] = grind (arith, nat_tests) in
      ap₂ 𝓐.mul (power_none x j here) (at_point-same point a [] rest ∙ at_point-nil point) ∙ 𝓐.one_mul _
  at_point-same (x ∷ point) (j ∷ a) (k ∷ b) e =
      let here : j ≡ k = grind (arith, nat_tests) in
      let rest : IsOne a b = grind (arith, nat_tests) in
      ap₂ 𝓐.mul (ap (power x) here) (at_point-same point a b rest)

  -- the same of a monomial
  pub monomial_at : List A → Monomial → A
  monomial_at point m = lift {r = IsOne} 𝓐.is_set (at_point point) (at_point-same point) m

  -- of an exponent list
  pub monomial_at-list : (point : List A) (a : List ℕ) → monomial_at point (monomial a) ≡ at_point point a
  unfolding monomial_at monomial
  monomial_at-list point a = refl

  -- of a product
  pub monomial_at-mul : (point : List A) (m n : Monomial) → monomial_at point (monomials.mul m n) ≡ 𝓐.mul (monomial_at point m) (monomial_at point n)
  monomial_at-mul point m n =
      monomial_ind (λ m. monomial_at point (monomials.mul m n) ≡ 𝓐.mul (monomial_at point m) (monomial_at point n)) (λ m. 𝓐.is_set _ _)
      (λ a. monomial_ind (λ n. monomial_at point (monomials.mul (monomial a) n) ≡ 𝓐.mul (monomial_at point (monomial a)) (monomial_at point n)) (λ n. 𝓐.is_set _ _)
      (λ b. ap (monomial_at point) (sym (monomial-mul a b)) ∙ monomial_at-list point _ ∙ at_point-mul point a b ∙ ap₂ 𝓐.mul (sym (monomial_at-list point a)) (sym (monomial_at-list point b))) n) m

  -- of 1
  pub monomial_at-one : (point : List A) → monomial_at point monomials.one ≡ 𝓐.one
  monomial_at-one point = ap (monomial_at point) (sym monomial-one) ∙ monomial_at-list point [] ∙ at_point-nil point

  -- of a variable it is the coordinate
  pub at_point-variable : (point : List A) (k : ℕ) → at_point point (replicate k 0 ++ 1 ∷ []) ≡ get_or point k 𝓐.one
  at_point-variable [] k = refl
  at_point-variable (x ∷ point) zero = ap₂ 𝓐.mul (mul_one 𝓐 x) (at_point-nil point) ∙ mul_one 𝓐 x
  at_point-variable (x ∷ point) (suc k) = 𝓐.one_mul _ ∙ at_point-variable point k

-- the image of a product of coordinates
pub hom-monomial_at : {A B : Type 0} {𝓐 : CRing A} {𝓑 : CRing B} (h : Hom 𝓐 𝓑) (point : List A) (m : Monomial) → h.at (monomial_at 𝓐 point m) ≡ monomial_at 𝓑 (map h.at point) m
hom-monomial_at {A = A} {𝓐 = 𝓐} {𝓑 = 𝓑} h point =
    monomial_ind (λ m. h.at (monomial_at 𝓐 point m) ≡ monomial_at 𝓑 (map h.at point) m) (λ m. 𝓑.is_set _ _) (λ a. ap h.at (monomial_at-list 𝓐 point a) ∙ list point a ∙ sym (monomial_at-list 𝓑 (map h.at point) a))
  where
    powers : (x : A) (k : ℕ) → h.at (power 𝓐 x k) ≡ power 𝓑 (h.at x) k
    powers x zero = h.one
    powers x (suc k) = h.mul _ _ ∙ ap (𝓑.mul (h.at x)) (powers x k)

    list : (point : List A) (a : List ℕ) → h.at (at_point 𝓐 point a) ≡ at_point 𝓑 (map h.at point) a
    list [] a = h.one
    list (x ∷ point) [] = h.one
    list (x ∷ point) (k ∷ a) = h.mul _ _ ∙ ap₂ 𝓑.mul (powers x k) (list point a)

module _ {K P A : Type 0} {𝓚 : CRing K} (𝓣 : TermRing 𝓚 monomials P) (𝓐 : CRing A) (f : Hom 𝓚 𝓐) (point : List A) where
  -- the coordinates of the point put for the variables
  pub substitution : Hom 𝓣.ring 𝓐
  substitution = evaluation 𝓣 𝓐 f (monomial_at 𝓐 point) (monomial_at-mul 𝓐 point) (monomial_at-one 𝓐 point)

  -- its value at a term
  pub substitution-term : (c : K) (m : Monomial) → substitution.at (𝓣.term c m) ≡ 𝓐.mul (f.at c) (monomial_at 𝓐 point m)
  unfolding substitution
  substitution-term c m = evaluation-term 𝓣 𝓐 f (monomial_at 𝓐 point) (monomial_at-mul 𝓐 point) (monomial_at-one 𝓐 point) c m

  -- no other map of rings has these values at terms
  pub substitution-unique : (h : Hom 𝓣.ring 𝓐) → ((c : K) (m : Monomial) → h.at (𝓣.term c m) ≡ 𝓐.mul (f.at c) (monomial_at 𝓐 point m)) → (x : P) → h.at x ≡ substitution.at x
  unfolding substitution
  substitution-unique h e x = evaluation-unique 𝓣 𝓐 f (monomial_at 𝓐 point) (monomial_at-mul 𝓐 point) (monomial_at-one 𝓐 point) h e x

-- a map after a substitution puts the images of the coordinates for the variables
pub compose-substitution : {K P A B : Type 0} {𝓚 : CRing K} (𝓣 : TermRing 𝓚 monomials P) (𝓐 : CRing A) (f : Hom 𝓚 𝓐) (point : List A) (𝓑 : CRing B) (h : Hom 𝓐 𝓑) (x : P)
    → h.at ((substitution 𝓣 𝓐 f point).at x) ≡ (substitution 𝓣 𝓑 (compose h f) (map h.at point)).at x
unfolding compose
compose-substitution 𝓣 𝓐 f point 𝓑 h x =
    substitution-unique 𝓣 𝓑 (compose h f) (map h.at point) (compose h (substitution 𝓣 𝓐 f point)) (λ c m. ap h.at (substitution-term 𝓣 𝓐 f point c m) ∙ h.mul _ _ ∙ ap (𝓑.mul (h.at (f.at c))) (hom-monomial_at h point m)) x

-- the variable at a place, from 0
abbrev pub variable_monomial : ℕ → Monomial
variable_monomial k = monomial (replicate k 0 ++ 1 ∷ [])

-- induction over variables
pub monomial_by_variables : (Q : Monomial → Type 0) → ((m : Monomial) → IsProp (Q m)) → Q monomials.one → ((k : ℕ) (m : Monomial) → Q m → Q (monomials.mul (variable_monomial k) m)) → (m : Monomial) → Q m
unfolding same_monomial monomial_product
monomial_by_variables Q Q_prop z s = monomial_ind Q Q_prop (λ a. list a 0)
  where
    zeros : (n : ℕ) → IsOne [] (replicate n 0 ++ [])
    zeros zero = refl
    zeros (suc n) = zeros n

    one_more : (n x : ℕ) (a : List ℕ) → monomial_product (replicate n 0 ++ 1 ∷ []) (replicate n 0 ++ x ∷ a) ≡ replicate n 0 ++ suc x ∷ a
    one_more zero x a = let e : 1 + x ≡ suc x = omega arith in ap (λ (k : ℕ). k ∷ a) e
    one_more (suc n) x a = ap (λ l. 0 ∷ l) (one_more n x a)

    up : (n x : ℕ) (a : List ℕ) → Q (monomial (replicate n 0 ++ x ∷ a)) → Q (monomial (replicate n 0 ++ suc x ∷ a))
    up n x a h = subst Q (sym (monomial-mul _ _) ∙ ap monomial (one_more n x a)) (s n (monomial (replicate n 0 ++ x ∷ a)) h)

    zero_first : (n : ℕ) (a : List ℕ) → replicate (suc n) 0 ++ a ≡ replicate n 0 ++ 0 ∷ a
    zero_first zero a = refl
    zero_first (suc n) a = ap (λ l. 0 ∷ l) (zero_first n a)

    first : (n x : ℕ) (a : List ℕ) → Q (monomial (replicate (suc n) 0 ++ a)) → Q (monomial (replicate n 0 ++ x ∷ a))
    first n zero a h = subst (λ l. Q (monomial l)) (zero_first n a) h
    first n (suc x) a h = up n x a (first n x a h)

    list : (a : List ℕ) (n : ℕ) → Q (monomial (replicate n 0 ++ a))
    list [] n = subst Q (sym monomial-one ∙ monomial_sound [] (replicate n 0 ++ []) (zeros n)) z
    list (x ∷ a) n = first n x a (list a (suc n))

-- maps of rings that agree at constants and at variables are equal
pub agree_variables : {K P A : Type 0} {𝓚 : CRing K} (𝓣 : TermRing 𝓚 monomials P) (𝓐 : CRing A) (f g : Hom 𝓣.ring 𝓐) → ((c : K) → f.at (𝓣.term c monomials.one) ≡ g.at (𝓣.term c monomials.one)) → ((k : ℕ) → f.at (𝓣.term 𝓚.one (variable_monomial k)) ≡ g.at (𝓣.term 𝓚.one (variable_monomial k))) → (x : P) → f.at x ≡ g.at x
agree_variables {𝓚 = 𝓚} 𝓣 𝓐 f g h v = agree_parts 𝓣 𝓐 f g h (monomial_by_variables (λ m. f.at (𝓣.term 𝓚.one m) ≡ g.at (𝓣.term 𝓚.one m)) (λ m. 𝓐.is_set _ _) (h 𝓚.one) (λ k m i.
    ap f.at (sym (monomial-term 𝓣 (variable_monomial k) m 𝓚.one)) ∙ f.mul _ _ ∙ ap₂ 𝓐.mul (v k) i ∙ sym (g.mul _ _) ∙ ap g.at (monomial-term 𝓣 (variable_monomial k) m 𝓚.one)))

-- at a variable a substitution is the coordinate
pub substitution-variable : {K P A : Type 0} {𝓚 : CRing K} (𝓣 : TermRing 𝓚 monomials P) (𝓐 : CRing A) (f : Hom 𝓚 𝓐) (point : List A) (k : ℕ) → (substitution 𝓣 𝓐 f point).at (𝓣.term 𝓚.one (variable_monomial k)) ≡ get_or point k 𝓐.one
substitution-variable {𝓚 = 𝓚} 𝓣 𝓐 f point k = substitution-term 𝓣 𝓐 f point 𝓚.one (variable_monomial k) ∙ ap₂ 𝓐.mul f.one (monomial_at-list 𝓐 point _ ∙ at_point-variable 𝓐 point k) ∙ 𝓐.one_mul _
