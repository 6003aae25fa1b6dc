-- Values of formal sums, as contracts have them, are the substitution of honest rings; so they are maps of rings, and compose.
--   IsMap o b h          h keeps sameness, sums, products and one: class_map is the map of the classes
--   map_after            one such map after another
--   map_of_class         what a map of the classes does to values is such a map
--   class-value          the class of a value is the substitution's value at the class
--   constant_map, value_map    constants, and the value at a point, are such maps
--   value-constant, value-variable    of a constant it is its image, of a variable the coordinate
--   value-substitute     the value of a substitution is the value at the values of the images
use Rattle.std.proofs.Common.{◌≡◌, ℕ, zero, suc, List, [], ◌∷◌, ◌++◌, map, replicate, get_or, refl, sym, ◌∙◌, ap, ap₂}
use mathlib.Core.Quot.{lift}
use Rattle.rinv_algebra.specs.Ring.{RingOps, RingLaws, IsSame}
use Rattle.rinv_algebra.specs.Polynomial.{Polynomial, poly_ops, constant, variable}
use Rattle.rinv_algebra.specs.Value.{factors, times_all, value, substitute}
use Rattle.rinv_algebra.proofs.PolynomialLaws.{poly_laws}
use Rattle.rinv_algebra.proofs.RingFacts as facts
use Rattle.rinv_theory.proofs.CRing.{Hom, hom-zero, compose, mul_one}
use Rattle.rinv_theory.proofs.Quotient.{ind₂}
use Rattle.rinv_theory.proofs.Classes.{Class, class, class_ring, class_sound, class_exact, class_ind, class-add, class-mul, class-zero, class-one}
use Rattle.rinv_theory.proofs.Monoid.{monomial, monomials}
use Rattle.rinv_theory.proofs.TermRing.{constants, constants-at}
use Rattle.rinv_theory.proofs.Polynomials.{polynomials, poly_ring, term_at, class-cons, class-term, class-constant}
use Rattle.rinv_theory.proofs.Substitution.{power, at_point, monomial_at, monomial_at-list, monomial_at-one, at_point-variable, variable_monomial, substitution, substitution-term, substitution-unique, compose-substitution}

-- a map of rings, up to sameness
pub record IsMap {E B : Type 0} (o : RingOps E) (b : RingOps B) (h : E → B) : Type 0 where
  pub same : (x y : E) → IsSame o x y → IsSame b (h x) (h y)
  pub add : (x y : E) → IsSame b (h (o.add x y)) (b.add (h x) (h y))
  pub mul : (x y : E) → IsSame b (h (o.mul x y)) (b.mul (h x) (h y))
  pub one : IsSame b (h o.one) b.one

-- the one map after the other
pub map_after : {E B C : Type 0} (o : RingOps E) (b : RingOps B) (c : RingOps C) (m : RingLaws c) (h : E → B) (g : B → C) → IsMap o b h → IsMap b c g → IsMap o c (λ x. g (h x))
map_after o b c m h g i j = record {
  same = λ x y s. j.same _ _ (i.same x y s);
  add = λ x y. facts.then c m (j.same _ _ (i.add x y)) (j.add _ _);
  mul = λ x y. facts.then c m (j.same _ _ (i.mul x y)) (j.mul _ _);
  one = facts.then c m (j.same _ _ i.one) j.one;
}

module _ {E B : Type 0} (o : RingOps E) (l : RingLaws o) (b : RingOps B) (m : RingLaws b) where
  -- the map of the classes
  pub class_map : (h : E → B) → IsMap o b h → Hom (class_ring o l) (class_ring b m)
  unfolding class_ring
  class_map h i = record {
    at = λ x. lift {r = IsSame o} (class_ring b m).is_set (λ x. class b (h x)) (λ x y s. class_sound b m _ _ (i.same x y s)) x;
    add = ind₂ _ (λ x y. (class_ring b m).is_set _ _) (λ x y. class_sound b m _ _ (i.add x y) ∙ class-add b m _ _);
    mul = ind₂ _ (λ x y. (class_ring b m).is_set _ _) (λ x y. class_sound b m _ _ (i.mul x y) ∙ class-mul b m _ _);
    one = class_sound b m _ _ i.one ∙ class-one b m;
  }

  -- at a class
  pub class_map-at : (h : E → B) (i : IsMap o b h) (x : E) → (class_map h i).at (class o x) ≡ class b (h x)
  unfolding class_map class
  class_map-at h i x = refl

  -- what a map of the classes does to values is a map up to sameness
  pub map_of_class : (h : E → B) (φ : Hom (class_ring o l) (class_ring b m)) → ((x : E) → class b (h x) ≡ φ.at (class o x)) → IsMap o b h
  map_of_class h φ e = record {
    same = λ x y s. class_exact b m _ _ (e x ∙ ap φ.at (class_sound o l x y s) ∙ sym (e y));
    add = λ x y. class_exact b m _ _ (e _ ∙ ap φ.at (class-add o l x y) ∙ φ.add _ _ ∙ ap₂ (class_ring b m).add (sym (e x)) (sym (e y)) ∙ sym (class-add b m _ _));
    mul = λ x y. class_exact b m _ _ (e _ ∙ ap φ.at (class-mul o l x y) ∙ φ.mul _ _ ∙ ap₂ (class_ring b m).mul (sym (e x)) (sym (e y)) ∙ sym (class-mul b m _ _));
    one = class_exact b m _ _ (e _ ∙ ap φ.at (class-one o l) ∙ φ.one ∙ sym (class-one b m));
  }

module _ {E B : Type 0} (o : RingOps E) (l : RingLaws o) (b : RingOps B) (m : RingLaws b) where
  times_all-append : (x : B) (ys zs : List B) → times_all b x (ys ++ zs) ≡ times_all b (times_all b x ys) zs
  unfolding times_all
  times_all-append x [] zs = refl
  times_all-append x (y ∷ ys) zs = times_all-append (b.mul x y) ys zs

  class-times_power : (x y : B) (k : ℕ) → class b (times_all b x (replicate k y)) ≡ (class_ring b m).mul (class b x) (power (class_ring b m) (class b y) k)
  unfolding times_all
  class-times_power x y zero = sym (mul_one (class_ring b m) _)
  class-times_power x y (suc k) = class-times_power (b.mul x y) y k ∙ ap (λ z. (class_ring b m).mul z (power (class_ring b m) (class b y) k)) (class-mul b m x y) ∙ (class_ring b m).mul_assoc _ _ _

  class-times_factors : (x : B) (point : List B) (a : List ℕ) → class b (times_all b x (factors point a)) ≡ (class_ring b m).mul (class b x) (at_point (class_ring b m) (map (class b) point) a)
  unfolding times_all factors
  class-times_factors x [] a = sym (mul_one (class_ring b m) _)
  class-times_factors x (y ∷ point) [] = sym (mul_one (class_ring b m) _)
  class-times_factors x (y ∷ point) (k ∷ a) =
      ap (class b) (times_all-append x (replicate k y) (factors point a))
      ∙ class-times_factors (times_all b x (replicate k y)) point a
      ∙ ap (λ z. (class_ring b m).mul z (at_point (class_ring b m) (map (class b) point) a)) (class-times_power x y k)
      ∙ (class_ring b m).mul_assoc _ _ _

  -- the substitution of the classes of a point
  abbrev pub class_substitution : (h : E → B) → IsMap o b h → List B → Hom (poly_ring o l) (class_ring b m)
  class_substitution h i point = substitution (polynomials o l) (class_ring b m) (class_map o l b m h i) (map (class b) point)

  -- the class of a value
  pub class-value : (h : E → B) (i : IsMap o b h) (point : List B) (f : Polynomial E) → class b (value b h point f) ≡ (class_substitution h i point).at (class (poly_ops o) f)
  unfolding value
  class-value h i point [] = class-zero b m ∙ sym (hom-zero (class_substitution h i point)) ∙ ap (class_substitution h i point).at (sym (class-zero (poly_ops o) (poly_laws o l)))
  class-value h i point ((a, c) ∷ f) =
      class-add b m _ _
      ∙ ap₂ (class_ring b m).add first (class-value h i point f)
      ∙ sym ((class_substitution h i point).add _ _)
      ∙ ap (class_substitution h i point).at (sym (class-cons o l c a f))
    where
      first : class b (times_all b (h c) (factors point a)) ≡ (class_substitution h i point).at (term_at o l (class o c) (monomial a))
      first =
          class-times_factors (h c) point a
          ∙ ap₂ (class_ring b m).mul (sym (class_map-at o l b m h i c)) (sym (monomial_at-list (class_ring b m) (map (class b) point) a))
          ∙ sym (substitution-term (polynomials o l) (class_ring b m) (class_map o l b m h i) (map (class b) point) (class o c) (monomial a))

  -- the value at a point is a map of rings
  pub value_map : (h : E → B) → IsMap o b h → (point : List B) → IsMap (poly_ops o) b (value b h point)
  value_map h i point = map_of_class (poly_ops o) (poly_laws o l) b m (value b h point) (class_substitution h i point) (class-value h i point)

module _ {E : Type 0} (o : RingOps E) (l : RingLaws o) where
  -- constants are a map of rings
  pub constant_map : IsMap o (poly_ops o) (constant o)
  constant_map = map_of_class o l (poly_ops o) (poly_laws o l) (constant o) (constants (polynomials o l)) (λ c. class-constant o l c ∙ sym (constants-at (polynomials o l) (class o c)))

  module _ {B : Type 0} (b : RingOps B) (m : RingLaws b) (h : E → B) (i : IsMap o b h) (point : List B) where
    abbrev at_classes : Hom (poly_ring o l) (class_ring b m)
    at_classes = class_substitution o l b m h i point

    values-class : (images : List (Polynomial E)) → map at_classes.at (map (class (poly_ops o)) images) ≡ map (class b) (map (value b h point) images)
    values-class [] = refl
    values-class (f ∷ images) = ap₂ ◌∷◌ (sym (class-value o l b m h i point f)) (values-class images)

    -- the value of a constant
    pub value-constant : (c : E) → IsSame b (value b h point (constant o c)) (h c)
    value-constant c = class_exact b m _ _ (
        class-value o l b m h i point (constant o c) ∙ ap at_classes.at (class-constant o l c)
        ∙ substitution-term (polynomials o l) (class_ring b m) (class_map o l b m h i) (map (class b) point) (class o c) monomials.one
        ∙ ap₂ (class_ring b m).mul (class_map-at o l b m h i c) (monomial_at-one (class_ring b m) (map (class b) point)) ∙ mul_one (class_ring b m) _)

    get_or-class : (point : List B) (k : ℕ) → get_or (map (class b) point) k (class_ring b m).one ≡ class b (get_or point k b.one)
    get_or-class [] zero = sym (class-one b m)
    get_or-class [] (suc k) = sym (class-one b m)
    get_or-class (x ∷ point) zero = refl
    get_or-class (x ∷ point) (suc k) = get_or-class point k

    -- the value of a variable is the coordinate
    pub value-variable : (k : ℕ) → IsSame b (value b h point (variable o k)) (get_or point k b.one)
    value-variable k = class_exact b m _ _ (
        class-value o l b m h i point (variable o k) ∙ ap at_classes.at (class-term o l o.one (replicate k 0 ++ 1 ∷ []))
        ∙ substitution-term (polynomials o l) (class_ring b m) (class_map o l b m h i) (map (class b) point) (class o o.one) (variable_monomial k)
        ∙ ap₂ (class_ring b m).mul (class_map-at o l b m h i o.one ∙ class_sound b m _ _ i.one ∙ class-one b m) (monomial_at-list (class_ring b m) (map (class b) point) (replicate k 0 ++ 1 ∷ []) ∙ at_point-variable (class_ring b m) (map (class b) point) k)
        ∙ (class_ring b m).one_mul _ ∙ get_or-class point k)

    at_constant : (x : Class o) → at_classes.at ((class_map o l (poly_ops o) (poly_laws o l) (constant o) constant_map).at x) ≡ (class_map o l b m h i).at x
    at_constant = class_ind o l _ (λ x. (class_ring b m).is_set _ _) (λ c.
        ap at_classes.at (class_map-at o l (poly_ops o) (poly_laws o l) (constant o) constant_map c) ∙ sym (class-value o l b m h i point (constant o c))
        ∙ class_sound b m _ _ (value-constant c) ∙ sym (class_map-at o l b m h i c))

    -- the value of a substitution is the value at the values of the images
    pub value-substitute : (images : List (Polynomial E)) (f : Polynomial E) → IsSame b (value b h point (substitute o images f)) (value b h (map (value b h point) images) f)
    unfolding compose
    value-substitute images f = class_exact b m _ _ (
        class-value o l b m h i point (substitute o images f)
        ∙ ap at_classes.at (class-value o l (poly_ops o) (poly_laws o l) (constant o) constant_map images f)
        ∙ compose-substitution (polynomials o l) (poly_ring o l) put (map (class (poly_ops o)) images) (class_ring b m) at_classes (class (poly_ops o) f)
        ∙ substitution-unique (polynomials o l) (class_ring b m) (class_map o l b m h i) (map (class b) (map (value b h point) images)) (substitution (polynomials o l) (class_ring b m) (compose at_classes put) (map at_classes.at (map (class (poly_ops o)) images)))
        (λ c k. substitution-term (polynomials o l) (class_ring b m) (compose at_classes put) (map at_classes.at (map (class (poly_ops o)) images)) c k
        ∙ ap₂ (class_ring b m).mul (at_constant c) (ap (λ p. monomial_at (class_ring b m) p k) (values-class images))) (class (poly_ops o) f)
        ∙ sym (class-value o l b m h i (map (value b h point) images) f))
      where
        put : Hom (class_ring o l) (poly_ring o l)
        put = class_map o l (poly_ops o) (poly_laws o l) (constant o) constant_map
