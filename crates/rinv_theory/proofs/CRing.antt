-- Commutative rings with an honest equality, and their maps.
--   CRing R              a commutative ring on R, as a flat record of operations and laws
--   add_zero, add_neg, mul_one, add_mul    the laws from the other side
--   add_cancel           a summand cancels
--   mul_zero, zero_mul   products with zero
--   add_swap             (a + b) + (c + d) = (a + c) + (b + d)
--   by                   from a = b, an equation that holds up to a multiple of it
--   Hom 𝓐 𝓑              a map of rings, with hom-zero, hom-neg
use Rattle.std.proofs.Common.{◌≡◌, sym, ap, ap₂, ◌∙◌}

-- a commutative ring
pub record CRing (R : Type 0) : Type 0 where
  pub add : R → R → R
  pub mul : R → R → R
  pub neg : R → R
  pub zero : R
  pub one : R
  pub is_set : IsSet R
  pub add_assoc : (a b c : R) → add (add a b) c ≡ add a (add b c)
  pub add_comm : (a b : R) → add a b ≡ add b a
  pub zero_add : (a : R) → add zero a ≡ a
  pub neg_add : (a : R) → add (neg a) a ≡ zero
  pub mul_assoc : (a b c : R) → mul (mul a b) c ≡ mul a (mul b c)
  pub mul_comm : (a b : R) → mul a b ≡ mul b a
  pub one_mul : (a : R) → mul one a ≡ a
  pub mul_add : (a b c : R) → mul a (add b c) ≡ add (mul a b) (mul a c)

module _ {R : Type 0} (𝓡 : CRing R) where
  open 𝓡 use {add, mul, neg, zero, one}

  -- a + 0 = a
  pub add_zero : (a : R) → add a zero ≡ a
  add_zero a = 𝓡.add_comm a zero ∙ 𝓡.zero_add a

  -- a - a = 0
  pub add_neg : (a : R) → add a (neg a) ≡ zero
  add_neg a = 𝓡.add_comm a (neg a) ∙ 𝓡.neg_add a

  -- a * 1 = a
  pub mul_one : (a : R) → mul a one ≡ a
  mul_one a = 𝓡.mul_comm a one ∙ 𝓡.one_mul a

  -- (a + b) * c = a * c + b * c
  pub add_mul : (a b c : R) → mul (add a b) c ≡ add (mul a c) (mul b c)
  add_mul a b c = 𝓡.mul_comm (add a b) c ∙ 𝓡.mul_add c a b ∙ ap₂ add (𝓡.mul_comm c a) (𝓡.mul_comm c b)

  -- a summand on the right cancels
  pub add_cancel : (a b c : R) → add a c ≡ add b c → a ≡ b
  add_cancel a b c e = sym (back a) ∙ ap (λ x. add x (neg c)) e ∙ back b
    where
      back : (x : R) → add (add x c) (neg c) ≡ x
      back x = 𝓡.add_assoc x c (neg c) ∙ ap (add x) (add_neg c) ∙ add_zero x

  -- a * 0 = 0
  pub mul_zero : (a : R) → mul a zero ≡ zero
  mul_zero a = add_cancel (mul a zero) zero (mul a zero) (sym (𝓡.mul_add a zero zero) ∙ ap (mul a) (𝓡.zero_add zero) ∙ sym (𝓡.zero_add (mul a zero)))

  -- 0 * a = 0
  pub zero_mul : (a : R) → mul zero a ≡ zero
  zero_mul a = 𝓡.mul_comm zero a ∙ mul_zero a

  -- the four terms of a sum of sums, changed over
  pub add_swap : (a b c d : R) → add (add a b) (add c d) ≡ add (add a c) (add b d)
  add_swap a b c d =
      𝓡.add_assoc a b (add c d)
      ∙ ap (add a) (sym (𝓡.add_assoc b c d) ∙ ap (λ x. add x d) (𝓡.add_comm b c) ∙ 𝓡.add_assoc c b d)
      ∙ sym (𝓡.add_assoc a c (add b d))

  -- a linear combination: where a = b, and x + k*b = y + k*a, then x = y
  pub by : (a b k x y : R) → a ≡ b → add x (mul k b) ≡ add y (mul k a) → x ≡ y
  by a b k x y e h = add_cancel x y (mul k b) (h ∙ ap (λ z. add y (mul k z)) e)

-- a map of rings
pub record Hom {A B : Type 0} (𝓐 : CRing A) (𝓑 : CRing B) : Type 0 where
  pub at : A → B
  pub add : (x y : A) → at (𝓐.add x y) ≡ 𝓑.add (at x) (at y)
  pub mul : (x y : A) → at (𝓐.mul x y) ≡ 𝓑.mul (at x) (at y)
  pub one : at 𝓐.one ≡ 𝓑.one

module _ {A B : Type 0} {𝓐 : CRing A} {𝓑 : CRing B} (h : Hom 𝓐 𝓑) where
  -- a map keeps zero
  pub hom-zero : h.at 𝓐.zero ≡ 𝓑.zero
  hom-zero = add_cancel 𝓑 _ _ (h.at 𝓐.zero) (sym (h.add _ _) ∙ ap h.at (𝓐.zero_add _) ∙ sym (𝓑.zero_add _))

  -- a map keeps opposites
  pub hom-neg : (x : A) → h.at (𝓐.neg x) ≡ 𝓑.neg (h.at x)
  hom-neg x = add_cancel 𝓑 _ _ (h.at x) (sym (h.add _ _) ∙ ap h.at (𝓐.neg_add x) ∙ hom-zero ∙ sym (𝓑.neg_add _))

-- the one map after the other
unfoldable pub compose : {A B C : Type 0} {𝓐 : CRing A} {𝓑 : CRing B} {𝓒 : CRing C} → Hom 𝓑 𝓒 → Hom 𝓐 𝓑 → Hom 𝓐 𝓒
compose g f = record {
  at = λ x. g.at (f.at x);
  add = λ x y. ap g.at (f.add x y) ∙ g.add _ _;
  mul = λ x y. ap g.at (f.mul x y) ∙ g.mul _ _;
  one = ap g.at f.one ∙ g.one;
}
