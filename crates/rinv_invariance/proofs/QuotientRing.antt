-- The quotient of a ring by an ideal.
--   IsEqualModulo 𝓐 F    the difference is a member of the ideal
--   quotient_ring 𝓐 F    the ring of the classes; quotient_map is the map to it
--   quotient-zero, quotient-member    the class is zero exactly where the element is a member
--   quotient-exact       equal classes have elements that are equal modulo the ideal
use Rattle.std.proofs.Common.{◌≡◌, [], ◌∷◌, refl, sym, ap, subst}
use mathlib.Core.Logic.{∥∥₁_elim, ∥∥₁_map, ∥∥₁_prop}
use mathlib.Core.Quot.Quotient
use mathlib.Core.Quot.{Setoid, Quot, mk, sound, ind, Quot-set}
use Rattle.rinv_theory.proofs.CRing.{CRing, Hom}
use Rattle.rinv_theory.proofs.Solver.{ring, reading}
use Rattle.rinv_theory.proofs.Quotient.{on_one, on_two, ind₂, ind₃}
use Rattle.rinv_theory.proofs.Ideals.{In, in-add, in-neg, IsCongruent, congruent-refl, congruent-add, congruent-mul}

module _ {A I : Type 0} (𝓐 : CRing A) (F : I → A) where
  open 𝓐 use {add as ◌+◌, mul as ◌*◌, neg as -◌}

  infixl 60 ◌+◌
  infixl 70 ◌*◌
  infix 80 -◌
  -- the difference is a member
  abbrev pub IsEqualModulo : A → A → Type 0
  IsEqualModulo x y = ∥ IsCongruent 𝓐 F x y ∥₁

  -- the classes
  abbrev pub QuotientBy : Type 0
  QuotientBy = Quot IsEqualModulo

  eq-refl : (x : A) → IsEqualModulo x x
  eq-refl x = ∣ congruent-refl 𝓐 F x ∣₁

  eq-add : (x x' y y' : A) → IsEqualModulo x x' → IsEqualModulo y y' → IsEqualModulo (x + y) (x' + y')
  eq-add x x' y y' r s = ∥∥₁_elim r ∥∥₁_prop (λ i. ∥∥₁_map s (λ j. congruent-add 𝓐 F x x' y y' i j))

  eq-mul : (x x' y y' : A) → IsEqualModulo x x' → IsEqualModulo y y' → IsEqualModulo (x * y) (x' * y')
  eq-mul x x' y y' r s = ∥∥₁_elim r ∥∥₁_prop (λ i. ∥∥₁_map s (λ j. congruent-mul 𝓐 F x x' y y' i j))

  eq-neg : (x y : A) → IsEqualModulo x y → IsEqualModulo (- x) (- y)
  eq-neg x y r = ∥∥₁_map r (λ i. subst (In 𝓐 F) (turn x y) (in-neg 𝓐 F i))
    where
      turn : (x y : A) → - (x + - y) ≡ - x + - (- y)
      turn x y = ring 𝓐 (x ∷ y ∷ []) (search reading depth 30) refl

  eq-sym : (x y : A) → IsEqualModulo x y → IsEqualModulo y x
  eq-sym x y r = ∥∥₁_map r (λ i. subst (In 𝓐 F) (turn x y) (in-neg 𝓐 F i))
    where
      turn : (x y : A) → - (x + - y) ≡ y + - x
      turn x y = ring 𝓐 (x ∷ y ∷ []) (search reading depth 30) refl

  eq-trans : (x y z : A) → IsEqualModulo x y → IsEqualModulo y z → IsEqualModulo x z
  eq-trans x y z r s = ∥∥₁_elim r ∥∥₁_prop (λ i. ∥∥₁_map s (λ j. subst (In 𝓐 F) (join x y z) (in-add 𝓐 F i j)))
    where
      join : (x y z : A) → x + - y + (y + - z) ≡ x + - z
      join x y z = ring 𝓐 (x ∷ y ∷ z ∷ []) (search reading depth 30) refl

  -- the ring of the classes
  pub quotient_ring : CRing QuotientBy
  quotient_ring = record {
    add = on_two 𝓐.add (λ x x' y r. eq-add x x' y y r (eq-refl y)) (λ x y y' r. eq-add x x y y' (eq-refl x) r);
    mul = on_two 𝓐.mul (λ x x' y r. eq-mul x x' y y r (eq-refl y)) (λ x y y' r. eq-mul x x y y' (eq-refl x) r);
    neg = on_one 𝓐.neg eq-neg;
    zero = mk 𝓐.zero;
    one = mk 𝓐.one;
    is_set = Quot-set;
    add_assoc = ind₃ _ (λ x y z. Quot-set _ _) (λ x y z. ap mk (𝓐.add_assoc x y z));
    add_comm = ind₂ _ (λ x y. Quot-set _ _) (λ x y. ap mk (𝓐.add_comm x y));
    zero_add = ind (λ x. Quot-set _ _) (λ x. ap mk (𝓐.zero_add x));
    neg_add = ind (λ x. Quot-set _ _) (λ x. ap mk (𝓐.neg_add x));
    mul_assoc = ind₃ _ (λ x y z. Quot-set _ _) (λ x y z. ap mk (𝓐.mul_assoc x y z));
    mul_comm = ind₂ _ (λ x y. Quot-set _ _) (λ x y. ap mk (𝓐.mul_comm x y));
    one_mul = ind (λ x. Quot-set _ _) (λ x. ap mk (𝓐.one_mul x));
    mul_add = ind₃ _ (λ x y z. Quot-set _ _) (λ x y z. ap mk (𝓐.mul_add x y z));
  }

  -- the map to it
  pub quotient_map : Hom 𝓐 quotient_ring
  unfolding quotient_ring
  quotient_map = record { at = λ x. mk x; add = λ x y. refl; mul = λ x y. refl; one = refl }

  -- the class of a member is zero
  pub quotient-zero : {x : A} → In 𝓐 F x → quotient_map.at x ≡ quotient_ring.zero
  unfolding quotient_map quotient_ring
  quotient-zero {x} i = sound ∣ subst (In 𝓐 F) (sym (minus_zero x)) i ∣₁
    where
      minus_zero : (x : A) → x + - 𝓐.zero ≡ x
      minus_zero x = ring 𝓐 (x ∷ []) (search reading depth 30) refl

  -- equal classes have elements that are equal modulo the ideal
  pub quotient-exact : (x y : A) → quotient_map.at x ≡ quotient_map.at y → IsEqualModulo x y
  unfolding quotient_map
  quotient-exact x y e = Quotient.exact setoid (λ a b. ∥∥₁_prop) e
    where
      setoid : Setoid {0, 0} A
      setoid = record { r = IsEqualModulo; iseqv = record { refl = eq-refl; symm = eq-sym; trans = eq-trans } }

  -- an element whose class is zero is a member
  pub quotient-member : (x : A) → quotient_map.at x ≡ quotient_ring.zero → ∥ In 𝓐 F x ∥₁
  unfolding quotient_map quotient_ring
  quotient-member x e = ∥∥₁_map (quotient-exact x 𝓐.zero e) (λ i. subst (In 𝓐 F) (minus_zero x) i)
    where
      minus_zero : (x : A) → x + - 𝓐.zero ≡ x
      minus_zero x = ring 𝓐 (x ∷ []) (search reading depth 30) refl
