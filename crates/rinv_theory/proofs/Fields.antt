-- A field of the code: its classes are a field, polynomials over it have no zero divisors, and fractions of these are a field.
--   class_domain         the classes of a field have no zero divisors
--   class_inverse        a class that is not zero has an inverse
--   poly_domain          polynomials over a field are a domain
--   product-zero         a product of formal sums is zero only where a factor is
--   fraction_laws, fraction_field    fractions of polynomials over a field are a ring and a field
use Rattle.std.proofs.Common.{◌≡◌, ◌⊎◌, Bool, true, false, [], refl, sym, ◌∙◌, ap, inl, inr, true≢false}
use mathlib.Core.HLevel.{Σ_prop_path}
use Rattle.rinv_algebra.specs.Ring.{RingOps, RingLaws, FieldLaws, IsSame}
use Rattle.rinv_algebra.specs.Polynomial.{Polynomial, poly_ops, product}
use Rattle.rinv_algebra.specs.Fraction.{fraction_ops}
use Rattle.rinv_algebra.proofs.PolynomialLaws.{poly_laws}
use Rattle.rinv_theory.proofs.CRing.{CRing, mul_one, mul_zero}
use Rattle.rinv_theory.proofs.Classes.{Class, class, class_ring, class_sound, class_exact, class_ind, class_dec, class-mul, class-zero, class-one}
use Rattle.rinv_theory.proofs.Polynomials.{polynomials, poly_ring}
use Rattle.rinv_theory.proofs.Domain.{IsDomain, polynomial_domain}
use Rattle.rinv_theory.proofs.ListOrders.{order_of}
use Rattle.rinv_theory.proofs.LastVariable.{later, later_order}
use Rattle.rinv_theory.proofs.FractionLaws.{pair_laws, pair_field}

-- two inverses of an element are equal
inverse_unique : {A : Type 0} (𝓐 : CRing A) (x y z : A) → 𝓐.mul y x ≡ 𝓐.one → 𝓐.mul z x ≡ 𝓐.one → y ≡ z
inverse_unique 𝓐 x y z h k = sym (mul_one 𝓐 y) ∙ ap (𝓐.mul y) (sym k ∙ 𝓐.mul_comm _ _) ∙ sym (𝓐.mul_assoc _ _ _) ∙ ap (λ w. 𝓐.mul w z) h ∙ 𝓐.one_mul z

module _ {E : Type 0} (o : RingOps E) (l : RingLaws o) (f : FieldLaws o) where
  abbrev Inverse : Class o → Type 0
  Inverse x = (y : Class o) × ((class_ring o l).mul y x ≡ (class_ring o l).one)

  inverse_prop : (x : Class o) → IsProp (Inverse x)
  inverse_prop x y z = Σ_prop_path (λ y. (class_ring o l).is_set _ _) (inverse_unique (class_ring o l) x y.0 z.0 y.1 z.1)

  -- a class that is not zero has an inverse
  pub class_inverse : (x : Class o) → (x ≡ (class_ring o l).zero → ⊥) → Inverse x
  class_inverse = class_ind o l (λ x. (x ≡ (class_ring o l).zero → ⊥) → Inverse x) (λ x. hlevel (inverse_prop x)) (λ a n. found a (f.invertible a (λ s. n (class_sound o l a o.zero s ∙ class-zero o l))))
    where
      found : (a : E) → (y : E) × IsSame o (o.mul a y) o.one → Inverse (class o a)
      found a (y, h) = (class o y, (class_ring o l).mul_comm _ _ ∙ sym (class-mul o l a y) ∙ class_sound o l _ o.one h ∙ class-one o l)

  -- the classes have no zero divisors
  pub class_domain : IsDomain (class_ring o l)
  class_domain = record {
    one_zero = λ e. f.one_differs (class_exact o l _ _ (class-one o l ∙ e ∙ sym (class-zero o l)));
    no_divisors = λ a b e n. go a b e (class_inverse b n);
  }
    where
      go : (a b : Class o) → (class_ring o l).mul a b ≡ (class_ring o l).zero → Inverse b → a ≡ (class_ring o l).zero
      go a b e (y, h) = sym (mul_one (class_ring o l) a) ∙ ap ((class_ring o l).mul a) (sym h ∙ (class_ring o l).mul_comm _ _) ∙ sym ((class_ring o l).mul_assoc _ _ _) ∙ ap (λ z. (class_ring o l).mul z y) e ∙ (class_ring o l).mul_comm _ _ ∙ mul_zero (class_ring o l) y

  -- polynomials have no zero divisors
  pub poly_domain : IsDomain (poly_ring o l)
  poly_domain = polynomial_domain (polynomials o l) (order_of later later_order) (class_dec o l) class_domain

  -- a product of formal sums is zero only where a factor is
  pub product-zero : (g h : Polynomial E) → IsSame (poly_ops o) (product o g h) [] → IsSame (poly_ops o) g [] ⊎ IsSame (poly_ops o) h []
  product-zero g h e = go ((poly_ops o).same h []) refl
    where
      zero : (f : Polynomial E) → class (poly_ops o) f ≡ (poly_ring o l).zero → IsSame (poly_ops o) f []
      zero f z = class_exact (poly_ops o) (poly_laws o l) f [] (z ∙ sym (class-zero (poly_ops o) (poly_laws o l)))

      go : (b : Bool) → (poly_ops o).same h [] ≡ b → IsSame (poly_ops o) g [] ⊎ IsSame (poly_ops o) h []
      go true s = inr s
      go false s = inl (zero g (poly_domain.no_divisors _ _ (sym (class-mul (poly_ops o) (poly_laws o l) g h) ∙ class_sound (poly_ops o) (poly_laws o l) _ [] e ∙ class-zero (poly_ops o) (poly_laws o l)) (λ z. true≢false (sym (zero h z) ∙ s))))

  -- fractions of polynomials are a ring
  abbrev pub fraction_laws : RingLaws (fraction_ops o)
  fraction_laws = pair_laws (poly_ops o) (poly_laws o l) poly_domain

  -- and a field
  pub fraction_field : FieldLaws (fraction_ops o)
  fraction_field = pair_field (poly_ops o) (poly_laws o l) poly_domain
