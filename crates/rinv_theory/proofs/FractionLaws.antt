-- Fractions over a ring of the code without zero divisors: they are a ring and a field, up to sameness of value.
--   pair_ops q           the operations: pairs, in which a denominator zero is read as 0/1
--   pair_laws, pair_field    the laws of a ring and of a field
--   as_pair-fraction     a pair whose denominator is not zero is read as itself
--   pair_same-fractions  two such have one value exactly where n*e = m*d
--   over_one_map, over_one-exact    f/1 is a map of rings, and injective
--   pair-times_denominator    a fraction times its denominator is its numerator
use Rattle.std.proofs.Common.{◌≡◌, Bool, true, false, cond, IsTrue, [], ◌∷◌, refl, sym, ◌∙◌, ap, ap₂, subst₂, true≢false}
use Rattle.std.specs.Prelude.{if◌then◌else◌}
use Rattle.rinv_algebra.specs.Ring.{RingOps, RingLaws, FieldLaws, IsSame}
use Rattle.rinv_algebra.proofs.RingFacts as facts
use Rattle.rinv_theory.proofs.CRing.{CRing, by, add_neg, add_cancel}
use Rattle.rinv_theory.proofs.Solver.{ring, reading}
use Rattle.rinv_theory.proofs.Classes.{class, class_ring, class_sound, class_exact, class-mul, class-zero, class-one}
use Rattle.rinv_theory.proofs.AlikeSolver.{alike_ring, alike_by, alike_reading}
use Rattle.rinv_theory.proofs.Domain.{IsDomain}
use Rattle.rinv_theory.proofs.Values.{IsMap}

-- from n/d = n'/d' and n'/d' = m/e, with d' not zero, n/d = m/e
cross_trans : {D : Type 0} (𝓓 : CRing D) → IsDomain 𝓓 → (n d n' d' m e : D) → (d' ≡ 𝓓.zero → ⊥) → 𝓓.mul n d' ≡ 𝓓.mul n' d → 𝓓.mul n' e ≡ 𝓓.mul m d' → 𝓓.mul n e ≡ 𝓓.mul m d
cross_trans 𝓓 domain n d n' d' m e nonzero h k = add_cancel 𝓓 _ _ (𝓓.neg (𝓓.mul m d)) (domain.no_divisors _ d' zero nonzero ∙ sym (add_neg 𝓓 _))
  where
    zero : 𝓓.mul (𝓓.add (𝓓.mul n e) (𝓓.neg (𝓓.mul m d))) d' ≡ 𝓓.zero
    zero = by 𝓓 (𝓓.mul n d') (𝓓.mul n' d) e _ _ h (by 𝓓 (𝓓.mul n' e) (𝓓.mul m d') d _ _ k (ring 𝓓 (n ∷ d ∷ n' ∷ d' ∷ m ∷ e ∷ []) (search reading depth 30) refl))

module _ {D : Type 0} (q : RingOps D) where
  -- a numerator and a denominator
  abbrev pub Pair : Type 0
  Pair = D × D

  -- a/1
  abbrev pub whole : D → Pair
  whole a = (a, q.one)

  -- the pair itself; one whose denominator is zero is read as 0/1
  abbrev pub as_pair : Pair → Pair
  as_pair f = if q.same f.1 q.zero then whole q.zero else f

  -- n/d and m/e have one value: n*e = m*d
  abbrev pub pair_same : Pair → Pair → Bool
  pair_same f g = q.same (q.mul f.0 g.1) (q.mul g.0 f.1)

  -- (n*e + m*d)/(d*e)
  abbrev pub pair_sum : Pair → Pair → Pair
  pair_sum f g = (q.add (q.mul f.0 g.1) (q.mul g.0 f.1), q.mul f.1 g.1)

  -- (n*m)/(d*e)
  abbrev pub pair_product : Pair → Pair → Pair
  pair_product f g = (q.mul f.0 g.0, q.mul f.1 g.1)

  -- the fractions
  abbrev pub pair_ops : RingOps Pair
  pair_ops = record {
    same = λ f g. pair_same (as_pair f) (as_pair g);
    zero = whole q.zero;
    one = whole q.one;
    add = λ f g. pair_sum (as_pair f) (as_pair g);
    mul = λ f g. pair_product (as_pair f) (as_pair g);
    neg = λ f. (q.neg f.0, f.1);
  }

  -- the denominator is not zero
  abbrev pub IsFraction : Pair → Type 0
  IsFraction f = q.same f.1 q.zero ≡ false

  -- such a pair is read as itself
  pub as_pair-fraction : (f : Pair) → IsFraction f → as_pair f ≡ f
  as_pair-fraction f e = ap (λ (b : Bool). cond b (whole q.zero) f) e

  -- two fractions have one value exactly where n*e = m*d
  pub pair_same-fractions : (f g : Pair) → IsFraction f → IsFraction g → pair_ops.same f g ≡ pair_same f g
  pair_same-fractions f g e h = ap₂ pair_same (as_pair-fraction f e) (as_pair-fraction g h)

  module _ (l : RingLaws q) (domain : IsDomain (class_ring q l)) where
    nonzero : (a : D) → q.same a q.zero ≡ false → class q a ≡ (class_ring q l).zero → ⊥
    nonzero a h e = true≢false (sym (class_exact q l a q.zero (e ∙ sym (class-zero q l))) ∙ h)

    apart : (a : D) → (class q a ≡ (class_ring q l).zero → ⊥) → (b : Bool) → q.same a q.zero ≡ b → b ≡ false
    apart a n true h = absurd (n (class_sound q l a q.zero h ∙ class-zero q l))
    apart a n false h = refl

    one_apart : q.same q.one q.zero ≡ false
    one_apart = apart q.one (λ e. domain.one_zero (sym (class-one q l) ∙ e)) (q.same q.one q.zero) refl

    product_apart : (a b : D) → q.same a q.zero ≡ false → q.same b q.zero ≡ false → q.same (q.mul a b) q.zero ≡ false
    product_apart a b h k = apart (q.mul a b) (λ e. nonzero a h (domain.no_divisors _ _ (sym (class-mul q l a b) ∙ e) (nonzero b k))) (q.same (q.mul a b) q.zero) refl

    -- what a pair is read as is a fraction
    pub as_pair-is : (f : Pair) → IsFraction (as_pair f)
    as_pair-is f = go (q.same f.1 q.zero) refl
      where
        go : (b : Bool) → q.same f.1 q.zero ≡ b → IsFraction (cond b (whole q.zero) f)
        go true e = one_apart
        go false e = e

    -- and so its denominator is not zero
    pub as_pair-nonzero : (f : Pair) → class q (as_pair f).1 ≡ (class_ring q l).zero → ⊥
    as_pair-nonzero f = nonzero (as_pair f).1 (as_pair-is f)

    whole-read : (a : D) → as_pair (whole a) ≡ whole a
    whole-read a = as_pair-fraction (whole a) one_apart

    sum-read : (f g : Pair) → as_pair (pair_sum (as_pair f) (as_pair g)) ≡ pair_sum (as_pair f) (as_pair g)
    sum-read f g = as_pair-fraction _ (product_apart (as_pair f).1 (as_pair g).1 (as_pair-is f) (as_pair-is g))

    product-read : (f g : Pair) → as_pair (pair_product (as_pair f) (as_pair g)) ≡ pair_product (as_pair f) (as_pair g)
    product-read f g = as_pair-fraction _ (product_apart (as_pair f).1 (as_pair g).1 (as_pair-is f) (as_pair-is g))

    neg-denominator : (f : Pair) → (as_pair (pair_ops.neg f)).1 ≡ (as_pair f).1
    neg-denominator f = go (q.same f.1 q.zero)
      where
        go : (b : Bool) → (cond b (whole q.zero) (pair_ops.neg f)).1 ≡ (cond b (whole q.zero) f).1
        go true = refl
        go false = refl

    neg-numerator : (f : Pair) → IsSame q (as_pair (pair_ops.neg f)).0 (q.neg (as_pair f).0)
    neg-numerator f = go (q.same f.1 q.zero)
      where
        go : (b : Bool) → IsSame q (cond b (whole q.zero) (pair_ops.neg f)).0 (q.neg (cond b (whole q.zero) f).0)
        go true = alike_ring q l [] (search alike_reading depth 30) refl
        go false = l.same_refl _

    -- laws of pairs as they stand
    abbrev IsValue : Pair → Pair → Type 0
    IsValue f g = IsTrue (pair_same f g)

    -- and of what pairs are read as
    read : {f g f' g' : Pair} → f' ≡ f → g' ≡ g → IsValue f g → IsValue f' g'
    read e h s = subst₂ IsValue (sym e) (sym h) s

    value_trans : (x y z : Pair) → IsFraction y → IsValue x y → IsValue y z → IsValue x z
    value_trans x y z f h k = class_exact q l _ _ (class-mul q l x.0 z.1 ∙ cross_trans (class_ring q l) domain _ _ _ _ _ _ (nonzero y.1 f) (crossed x y h) (crossed y z k) ∙ sym (class-mul q l z.0 x.1))
      where
        crossed : (x y : Pair) → IsValue x y → (class_ring q l).mul (class q x.0) (class q y.1) ≡ (class_ring q l).mul (class q y.0) (class q x.1)
        crossed x y h = sym (class-mul q l x.0 y.1) ∙ class_sound q l _ _ h ∙ class-mul q l y.0 x.1

    value-sum : (x x' y y' : Pair) → IsValue x x' → IsValue y y' → IsValue (pair_sum x y) (pair_sum x' y')
    value-sum x x' y y' h k =
        alike_by q l (q.mul x.0 x'.1) (q.mul x'.0 x.1) (q.mul y.1 y'.1) _ _ h
        (alike_by q l (q.mul y.0 y'.1) (q.mul y'.0 y.1) (q.mul x.1 x'.1) _ _ k
        (alike_ring q l (x.0 ∷ x.1 ∷ x'.0 ∷ x'.1 ∷ y.0 ∷ y.1 ∷ y'.0 ∷ y'.1 ∷ []) (search alike_reading depth 30) refl))

    value-product : (x x' y y' : Pair) → IsValue x x' → IsValue y y' → IsValue (pair_product x y) (pair_product x' y')
    value-product x x' y y' h k =
        alike_by q l (q.mul x.0 x'.1) (q.mul x'.0 x.1) (q.mul y.0 y'.1) _ _ h
        (alike_by q l (q.mul y.0 y'.1) (q.mul y'.0 y.1) (q.mul x'.0 x.1) _ _ k
        (alike_ring q l (x.0 ∷ x.1 ∷ x'.0 ∷ x'.1 ∷ y.0 ∷ y.1 ∷ y'.0 ∷ y'.1 ∷ []) (search alike_reading depth 30) refl))

    value-neg : (n d m e n' m' : D) → IsSame q n' (q.neg n) → IsSame q m' (q.neg m) → IsValue (n, d) (m, e) → IsValue (n', d) (m', e)
    value-neg n d m e n' m' h k s =
        facts.then q l (l.mul_same n' (q.neg n) e e h (l.same_refl e))
        (facts.then q l (alike_by q l (q.mul n e) (q.mul m d) (q.neg q.one) _ _ s (alike_ring q l (n ∷ d ∷ m ∷ e ∷ []) (search alike_reading depth 30) refl))
        (l.mul_same (q.neg m) m' d d (l.same_sym m' (q.neg m) k) (l.same_refl d)))

    sum_comm : (x y : Pair) → IsValue (pair_sum x y) (pair_sum y x)
    sum_comm x y = alike_ring q l (x.0 ∷ x.1 ∷ y.0 ∷ y.1 ∷ []) (search alike_reading depth 30) refl

    sum_assoc : (x y z : Pair) → IsValue (pair_sum (pair_sum x y) z) (pair_sum x (pair_sum y z))
    sum_assoc x y z = alike_ring q l (x.0 ∷ x.1 ∷ y.0 ∷ y.1 ∷ z.0 ∷ z.1 ∷ []) (search alike_reading depth 30) refl

    sum_zero : (x : Pair) → IsValue (pair_sum x (whole q.zero)) x
    sum_zero x = alike_ring q l (x.0 ∷ x.1 ∷ []) (search alike_reading depth 30) refl

    sum_neg : (x : Pair) (n : D) → IsSame q n (q.neg x.0) → IsValue (pair_sum x (n, x.1)) (whole q.zero)
    sum_neg x n h = alike_by q l n (q.neg x.0) x.1 _ _ h (alike_ring q l (x.0 ∷ x.1 ∷ n ∷ []) (search alike_reading depth 30) refl)

    product_comm : (x y : Pair) → IsValue (pair_product x y) (pair_product y x)
    product_comm x y = alike_ring q l (x.0 ∷ x.1 ∷ y.0 ∷ y.1 ∷ []) (search alike_reading depth 30) refl

    product_assoc : (x y z : Pair) → IsValue (pair_product (pair_product x y) z) (pair_product x (pair_product y z))
    product_assoc x y z = alike_ring q l (x.0 ∷ x.1 ∷ y.0 ∷ y.1 ∷ z.0 ∷ z.1 ∷ []) (search alike_reading depth 30) refl

    product_one : (x : Pair) → IsValue (pair_product x (whole q.one)) x
    product_one x = alike_ring q l (x.0 ∷ x.1 ∷ []) (search alike_reading depth 30) refl

    product_sum : (x y z : Pair) → IsValue (pair_product x (pair_sum y z)) (pair_sum (pair_product x y) (pair_product x z))
    product_sum x y z = alike_ring q l (x.0 ∷ x.1 ∷ y.0 ∷ y.1 ∷ z.0 ∷ z.1 ∷ []) (search alike_reading depth 30) refl

    -- what the negative of a pair is read as
    neg-read : (f : Pair) → as_pair (pair_ops.neg f) ≡ ((as_pair (pair_ops.neg f)).0, (as_pair f).1)
    neg-read f = ap (λ d. ((as_pair (pair_ops.neg f)).0, d)) (neg-denominator f)

    -- fractions are a ring
    pub pair_laws : RingLaws pair_ops
    pair_laws = record {
      same_refl = λ f. l.same_refl _;
      same_sym = λ f g h. l.same_sym _ _ h;
      same_trans = λ f g k h s. value_trans (as_pair f) (as_pair g) (as_pair k) (as_pair-is g) h s;
      add_same = λ f f' g g' h s. read (sum-read f g) (sum-read f' g') (value-sum (as_pair f) (as_pair f') (as_pair g) (as_pair g') h s);
      mul_same = λ f f' g g' h s. read (product-read f g) (product-read f' g') (value-product (as_pair f) (as_pair f') (as_pair g) (as_pair g') h s);
      neg_same = λ f g h. read (neg-read f) (neg-read g) (value-neg (as_pair f).0 (as_pair f).1 (as_pair g).0 (as_pair g).1 _ _ (neg-numerator f) (neg-numerator g) h);
      add_comm = λ f g. read (sum-read f g) (sum-read g f) (sum_comm (as_pair f) (as_pair g));
      add_assoc = λ f g k. read (sum-read (pair_ops.add f g) k ∙ ap (λ x. pair_sum x (as_pair k)) (sum-read f g)) (sum-read f (pair_ops.add g k) ∙ ap (pair_sum (as_pair f)) (sum-read g k)) (sum_assoc (as_pair f) (as_pair g) (as_pair k));
      add_zero = λ f. read (sum-read f pair_ops.zero ∙ ap (pair_sum (as_pair f)) (whole-read q.zero)) refl (sum_zero (as_pair f));
      add_neg = λ f. read (sum-read f (pair_ops.neg f) ∙ ap (pair_sum (as_pair f)) (neg-read f)) (whole-read q.zero) (sum_neg (as_pair f) _ (neg-numerator f));
      mul_comm = λ f g. read (product-read f g) (product-read g f) (product_comm (as_pair f) (as_pair g));
      mul_assoc = λ f g k. read (product-read (pair_ops.mul f g) k ∙ ap (λ x. pair_product x (as_pair k)) (product-read f g)) (product-read f (pair_ops.mul g k) ∙ ap (pair_product (as_pair f)) (product-read g k)) (product_assoc (as_pair f) (as_pair g) (as_pair k));
      mul_one = λ f. read (product-read f pair_ops.one ∙ ap (pair_product (as_pair f)) (whole-read q.one)) refl (product_one (as_pair f));
      mul_add = λ f g k. read (product-read f (pair_ops.add g k) ∙ ap (pair_product (as_pair f)) (sum-read g k)) (sum-read (pair_ops.mul f g) (pair_ops.mul f k) ∙ ap₂ pair_sum (product-read f g) (product-read f k)) (product_sum (as_pair f) (as_pair g) (as_pair k));
    }

    -- and a field
    pub pair_field : FieldLaws pair_ops
    pair_field = record {
      one_differs = λ s. true≢false (sym (facts.then q l (alike_ring q l [] (search alike_reading depth 30) refl) (facts.then q l (unread s) (alike_ring q l [] (search alike_reading depth 30) refl))) ∙ one_apart);
      invertible = λ f n. (((as_pair f).1, (as_pair f).0), turned f (not_zero f n (q.same (as_pair f).0 q.zero) refl));
    }
      where
        unread : IsSame pair_ops pair_ops.one pair_ops.zero → IsValue (whole q.one) (whole q.zero)
        unread s = subst₂ IsValue (whole-read q.one) (whole-read q.zero) s

        zero_value : (x : Pair) → IsSame q x.0 q.zero → IsValue x (whole q.zero)
        zero_value x h = alike_by q l x.0 q.zero q.one _ _ h (alike_ring q l (x.0 ∷ x.1 ∷ []) (search alike_reading depth 30) refl)

        not_zero : (f : Pair) → ¬ (IsSame pair_ops f pair_ops.zero) → (b : Bool) → q.same (as_pair f).0 q.zero ≡ b → b ≡ false
        not_zero f n true h = absurd (n (read refl (whole-read q.zero) (zero_value (as_pair f) h)))
        not_zero f n false h = refl

        inverse_value : (x : Pair) → IsValue (pair_product x (x.1, x.0)) (whole q.one)
        inverse_value x = alike_ring q l (x.0 ∷ x.1 ∷ []) (search alike_reading depth 30) refl

        turned : (f : Pair) → IsFraction ((as_pair f).1, (as_pair f).0) → IsSame pair_ops (pair_ops.mul f ((as_pair f).1, (as_pair f).0)) pair_ops.one
        turned f e = read (product-read f _ ∙ ap (pair_product (as_pair f)) (as_pair-fraction _ e)) (whole-read q.one) (inverse_value (as_pair f))

    -- a/1 is a map of rings
    pub over_one_map : IsMap q pair_ops whole
    over_one_map = record {
      same = λ x y s. read (whole-read x) (whole-read y) (l.mul_same x y q.one q.one s (l.same_refl q.one));
      add = λ x y. read (whole-read (q.add x y)) (sum-read (whole x) (whole y) ∙ ap₂ pair_sum (whole-read x) (whole-read y)) (alike_ring q l (x ∷ y ∷ []) (search alike_reading depth 30) refl);
      mul = λ x y. read (whole-read (q.mul x y)) (product-read (whole x) (whole y) ∙ ap₂ pair_product (whole-read x) (whole-read y)) (alike_ring q l (x ∷ y ∷ []) (search alike_reading depth 30) refl);
      one = read refl refl (l.same_refl _);
    }

    -- and injective
    pub over_one-exact : (x y : D) → IsSame pair_ops (whole x) (whole y) → IsSame q x y
    over_one-exact x y s = facts.then q l (facts.back q l (l.mul_one x)) (facts.then q l (subst₂ IsValue (whole-read x) (whole-read y) s) (l.mul_one y))

    -- a pair has the value of what it is read as
    pub as_pair-same : (f : Pair) → IsSame pair_ops f (as_pair f)
    as_pair-same f = read refl (as_pair-fraction (as_pair f) (as_pair-is f)) (l.same_refl _)

    -- a fraction times its denominator is its numerator
    pub pair-times_denominator : (f : Pair) → IsSame pair_ops (pair_ops.mul (whole (as_pair f).1) f) (whole (as_pair f).0)
    pair-times_denominator f = read (product-read (whole (as_pair f).1) f ∙ ap (λ x. pair_product x (as_pair f)) (whole-read (as_pair f).1)) (whole-read (as_pair f).0) (cleared (as_pair f))
      where
        cleared : (x : Pair) → IsValue (pair_product (whole x.1) x) (whole x.0)
        cleared x = alike_ring q l (x.0 ∷ x.1 ∷ []) (search alike_reading depth 30) refl
