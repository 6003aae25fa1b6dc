-- What the theory of polynomials knows of monomials.
--   Monoid M             a commutative, cancelling monoid on M, with a test of equality
--   monoid_map-one       a map that keeps products keeps 1
--   Monomial, monomials  exponent lists, with lists that are one monomial made equal: such a monoid
--   monomial             the monomial of an exponent list
--   monomial_exact       lists with equal monomials are one monomial
use Rattle.std.proofs.Common.{◌≡◌, ℕ, ◌+◌, Bool, true, List, [], IsTrue, get_or, refl, sym, ap, ◌∙◌, arith}
use Rattle.std.specs.Cmp.{both_ways}
use mathlib.Core.Bool.{Bool-set}
use mathlib.Core.Quot.{Quot, mk, sound, ind, Quot-set}
use Rattle.rinv_algebra.specs.Monomial.{same_monomial, monomial_product}
use Rattle.rinv_algebra.proofs.MonomialLaws.{get_or-product, same_at, same_from, same_monomial_refl, same_monomial_sym, same_monomial_trans, same_monomial-product, monomial_product_comm, monomial_product_assoc}
use Rattle.rinv_theory.proofs.Quotient.{lift₂, on_two, ind₂, ind₃, exact, test-first, test-second}

-- a commutative, cancelling monoid with a test of equality
pub record Monoid (M : Type 0) : Type 0 where
  pub mul : M → M → M
  pub one : M
  pub same : M → M → Bool
  pub is_set : IsSet M
  pub mul_assoc : (a b c : M) → mul (mul a b) c ≡ mul a (mul b c)
  pub mul_comm : (a b : M) → mul a b ≡ mul b a
  pub one_mul : (a : M) → mul one a ≡ a
  pub cancel : (a b c : M) → mul a b ≡ mul a c → b ≡ c
  pub same_refl : (a : M) → same a a ≡ true
  pub same_eq : (a b : M) → same a b ≡ true → a ≡ b

-- a map that keeps products keeps 1
pub monoid_map-one : {M N : Type 0} (𝓜 : Monoid M) (𝓝 : Monoid N) (h : M → N) → ((a b : M) → h (𝓜.mul a b) ≡ 𝓝.mul (h a) (h b)) → h 𝓜.one ≡ 𝓝.one
monoid_map-one 𝓜 𝓝 h h_mul = 𝓝.cancel (h 𝓜.one) _ _ (sym (h_mul 𝓜.one 𝓜.one) ∙ ap h (𝓜.one_mul 𝓜.one) ∙ sym (𝓝.one_mul _) ∙ 𝓝.mul_comm _ _)

-- two lists are one monomial
abbrev pub IsOne : List ℕ → List ℕ → Type 0
IsOne a b = IsTrue (same_monomial a b)

product_right : (a b c : List ℕ) → IsOne b c → IsOne (monomial_product a b) (monomial_product a c)
product_right a b c e = same_from _ _ (λ k. get_or-product a b k ∙ ap (λ (x : ℕ). get_or a k 0 + x) (same_at b c e k) ∙ sym (get_or-product a c k))

product_cancel : (a b c : List ℕ) → IsOne (monomial_product a b) (monomial_product a c) → IsOne b c
product_cancel a b c e = same_from b c (λ k. let h = same_at _ _ e k in let u = get_or-product a b k in let v = get_or-product a c k in omega (arith, h, u, v))

-- a factor on the left cancels in the test
pub same_monomial-product_left : (a b c : List ℕ) → same_monomial (monomial_product a b) (monomial_product a c) ≡ same_monomial b c
same_monomial-product_left a b c = both_ways (same_monomial (monomial_product a b) (monomial_product a c)) (same_monomial b c) (product_cancel a b c) (product_right a b c)

-- exponent lists, with lists that are one monomial made equal
abbrev pub Monomial : Type 0
Monomial = Quot IsOne

-- the monomial of an exponent list
unfoldable pub monomial : List ℕ → Monomial
monomial a = mk a

-- the monomials are such a monoid
pub monomials : Monoid Monomial
unfolding monomial_product
monomials = record {
  mul = on_two monomial_product (λ a b c e. same_monomial-product a b c e) product_right;
  one = mk [];
  same = lift₂ Bool-set same_monomial (λ a b c e. test-first same_monomial same_monomial_refl same_monomial_sym same_monomial_trans a b c e) (λ a b c e. test-second same_monomial same_monomial_refl same_monomial_sym same_monomial_trans a b c e);
  is_set = Quot-set;
  mul_assoc = ind₃ _ (λ x y z. Quot-set _ _) (λ a b c. ap mk (monomial_product_assoc a b c));
  mul_comm = ind₂ _ (λ x y. Quot-set _ _) (λ a b. ap mk (monomial_product_comm a b));
  one_mul = ind (λ x. Quot-set _ _) (λ a. refl);
  cancel = ind₃ _ (λ x y z. hlevel (Quot-set {r = IsOne})) (λ a b c e. sound (product_cancel a b c (exact same_monomial same_monomial_refl same_monomial_sym same_monomial_trans _ _ e)));
  same_refl = ind (λ x. Bool-set _ _) same_monomial_refl;
  same_eq = ind₂ _ (λ x y. hlevel (Quot-set {r = IsOne})) (λ a b e. sound e);
}

-- lists that are one monomial have equal monomials
pub monomial_sound : (a b : List ℕ) → IsTrue (same_monomial a b) → monomial a ≡ monomial b
unfolding monomial
monomial_sound a b e = sound e

-- and the other way round
pub monomial_exact : (a b : List ℕ) → monomial a ≡ monomial b → IsTrue (same_monomial a b)
unfolding monomial
monomial_exact a b e = exact same_monomial same_monomial_refl same_monomial_sym same_monomial_trans a b e

-- the monomial of a product
pub monomial-mul : (a b : List ℕ) → monomial (monomial_product a b) ≡ monomials.mul (monomial a) (monomial b)
unfolding monomial monomials
monomial-mul a b = refl

-- the monomial 1
pub monomial-one : monomial [] ≡ monomials.one
unfolding monomial monomials
monomial-one = refl

-- the test of two monomials is that of their lists
pub monomial-same : (a b : List ℕ) → monomials.same (monomial a) (monomial b) ≡ same_monomial a b
unfolding monomial monomials
monomial-same a b = refl

-- a fact of a monomial, by its lists
pub monomial_ind : (P : Monomial → Type 0) → ((m : Monomial) → IsProp (P m)) → ((a : List ℕ) → P (monomial a)) → (m : Monomial) → P m
unfolding monomial
monomial_ind P P_prop h = ind P_prop h
