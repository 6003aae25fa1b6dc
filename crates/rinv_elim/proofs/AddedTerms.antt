-- Tails as lists of terms, and what the adding of terms does to them.
--   AreTails             terms that descend, with fractions that are not zero
--   added-one, added-all the tail after a term, or a multiple of another tail, is added
use Rattle.std.proofs.Common.{◌≡◌, ℕ, zero, suc, true, false, List, [], ◌∷◌, ◌++◌, get_or, refl, sym, ◌∙◌, ap, ap₂, subst, arith}
use Rattle.std.specs.Prelude.{All, AllPairs}
use Rattle.std.specs.declared.cmp.Ordering.TheVariants.{Less}
use Rattle.std.proofs.lemmas.List.Elements.{All-head, All-tail}
use Rattle.rinv_algebra.specs.Ring.{RingOps, RingLaws}
use Rattle.rinv_algebra.specs.Residue.{residue_ops}
use Rattle.rinv_algebra.specs.Monomial.{monomial_product}
use Rattle.rinv_algebra.specs.Order.{grevlex}
use Rattle.rinv_algebra.specs.Polynomial.{poly_ops, is_zero}
use Rattle.rinv_algebra.specs.Fraction.{fraction_product}
use Rattle.rinv_algebra.proofs.PolynomialLaws.{poly_laws}
use Rattle.rinv_theory.proofs.CRing.{CRing}
use Rattle.rinv_theory.proofs.Solver.{ring, reading}
use Rattle.rinv_theory.proofs.TermRing.{term_zero}
use Rattle.rinv_theory.proofs.Classes.{Class, class, class_sound, class-add, class-mul, class-zero}
use Rattle.rinv_theory.proofs.Monoid.{monomial, monomial-mul}
use Rattle.rinv_theory.proofs.Polynomials.{class-cons, class-term}
use Rattle.rinv_theory.proofs.Fields.{fraction_laws}
use Rattle.rinv_theory.proofs.FractionLaws.{as_pair-fraction}
use Rattle.rinv_soundness.proofs.ExtendedIdeals.{ops, laws, field}
use Rattle.rinv_defs.specs.System.{System, space_count}
use Rattle.rinv_defs.specs.Invariant.{Fraction}
use Rattle.rinv_defs.specs.Generators.{rational_ops}
use Rattle.rinv_defs.specs.Extended.{FractionPoly}
use Rattle.rinv_invariance.proofs.RelationClasses.{rationals, over_terms}
use Rattle.rinv_frac.specs.declared.uncancelled.Joining.TheVariants.{Sum}
use Rattle.rinv_frac.specs.Arithmetic.{uncancelled, IsSum, IsProduct}
use Rattle.rinv_frac.proofs.Stored.{stored}
use Rattle.rinv_frac.proofs.Values.{zero-value}
use Rattle.rinv_frac.proofs.CancelledValues.{cancelled-value}
use Rattle.rinv_frac.proofs.Sums.{sum-value, joined-nonzero, product-nonzero}
use Rattle.rinv_tails.specs.Stored.{IsTail}
use Rattle.rinv_tails.specs.Reducing.{IsAdded, new, summed, cancelled, AreAdded, start, next}

module _ (s : System) where
  abbrev pub Q : RingOps Fraction
  Q = rational_ops s.p

  abbrev pub q_laws : RingLaws Q
  q_laws = fraction_laws (ops s) (laws s) (field s)

  -- ---- tails

  -- a fraction that is not zero
  pub record IsTermLike (t : List ℕ × Fraction) : Type 0 where
    pub denominator : is_zero (residue_ops s.p) t.1.1 ≡ false
    pub nonzero : is_zero (residue_ops s.p) t.1.0 ≡ false

  -- the monomials of the list are below m
  abbrev pub AreBelow : List ℕ → FractionPoly → Type 0
  AreBelow m [] = Unit {0}
  AreBelow m (u ∷ f) = (grevlex u.0 m ≡ Less) × AreBelow m f

  -- terms that descend, with fractions that are not zero
  abbrev pub AreTails : FractionPoly → Type 0
  AreTails [] = Unit {0}
  AreTails (t ∷ f) = IsTermLike t × (AreBelow t.0 f × AreTails f)

  -- denominators that are not zero
  abbrev pub AreFractions : FractionPoly → Type 0
  AreFractions [] = Unit {0}
  AreFractions (t ∷ f) = (is_zero (residue_ops s.p) t.1.1 ≡ false) × AreFractions f

  below_from : (m : List ℕ) (f : FractionPoly) → All (λ u. grevlex u.0 m ≡ Less) f → AreBelow m f
  below_from m [] h = tt
  below_from m (u ∷ f) h = (All-head (λ (u : List ℕ × Fraction). grevlex u.0 m ≡ Less) u f h, below_from m f (All-tail (λ (u : List ℕ × Fraction). grevlex u.0 m ≡ Less) u f h))

  tails_from : (f : FractionPoly) → All IsTermLike f → AllPairs (λ t u. grevlex u.0 t.0 ≡ Less) f → AreTails f
  tails_from [] a b = tt
  tails_from (t ∷ f) a b = (All-head IsTermLike t f a, (below_from t.0 f (λ k d within. b zero (suc k) d (omega arith) (omega (arith, within))), tails_from f (All-tail IsTermLike t f a) (λ i j d low within. b (suc i) (suc j) d (omega (arith, low)) (omega (arith, within)))))

  -- a tail as it is stored is one
  pub stored-tails : (f : FractionPoly) → IsTail s.p (space_count s) f → AreTails f
  stored-tails f t = tails_from f (λ k d within. let x = t.terms k d within in record { denominator = (stored s.p (space_count s) (get_or f k d).1 x.fraction).nonzero; nonzero = x.nonzero }) t.descending

  pub fractions-of : (f : FractionPoly) → AreTails f → AreFractions f
  fractions-of [] h = tt
  fractions-of (t ∷ f) h = (h.0.denominator, fractions-of f h.1.1)

  pub fractions-split : (f g : FractionPoly) → AreFractions (f ++ g) → AreFractions f × AreFractions g
  fractions-split [] g h = (tt, h)
  fractions-split (t ∷ f) g h = let r = fractions-split f g h.1 in ((h.0, r.0), r.1)

  below-without : (m : List ℕ) (f g : FractionPoly) (t : List ℕ × Fraction) → AreBelow m (f ++ t ∷ g) → AreBelow m (f ++ g)
  below-without m [] g t h = h.1
  below-without m (u ∷ f) g t h = (h.0, below-without m f g t h.1)

  below-other : (m : List ℕ) (f g : FractionPoly) (n : List ℕ) (d e : Fraction) → AreBelow m (f ++ (n, d) ∷ g) → AreBelow m (f ++ (n, e) ∷ g)
  below-other m [] g n d e h = h
  below-other m (u ∷ f) g n d e h = (h.0, below-other m f g n d e h.1)

  -- without a term
  pub tails-without : (f g : FractionPoly) (t : List ℕ × Fraction) → AreTails (f ++ t ∷ g) → AreTails (f ++ g)
  tails-without [] g t h = h.1.1
  tails-without (u ∷ f) g t h = (h.0, (below-without u.0 f g t h.1.0, tails-without f g t h.1.1))

  -- with another fraction
  tails-other : (f g : FractionPoly) (n : List ℕ) (d e : Fraction) → IsTermLike (n, e) → AreTails (f ++ (n, d) ∷ g) → AreTails (f ++ (n, e) ∷ g)
  tails-other [] g n d e like h = (like, h.1)
  tails-other (u ∷ f) g n d e like h = (h.0, (below-other u.0 f g n d e h.1.0, tails-other f g n d e like h.1.1))

  -- the term there
  pub tails-term : (f g : FractionPoly) (t : List ℕ × Fraction) → AreTails (f ++ t ∷ g) → IsTermLike t
  tails-term [] g t h = h.0
  tails-term (u ∷ f) g t h = tails-term f g t h.1.1

  -- ---- classes

  abbrev pub R : CRing (Class (poly_ops Q))
  R = (over_terms s).ring

  abbrev pub cls : FractionPoly → Class (poly_ops Q)
  cls f = class (poly_ops Q) f

  abbrev pub term : Fraction → List ℕ → Class (poly_ops Q)
  term c m = (over_terms s).term (class Q c) (monomial m)

  pub class-middle : (f g : FractionPoly) (m : List ℕ) (c : Fraction) → cls (f ++ (m, c) ∷ g) ≡ R.add (cls f) (R.add (term c m) (cls g))
  class-middle f g m c = class-add (poly_ops Q) (poly_laws Q q_laws) f ((m, c) ∷ g) ∙ ap (R.add (cls f)) (class-cons Q q_laws c m g)

  pub class-joined : (f g : FractionPoly) → cls (f ++ g) ≡ R.add (cls f) (cls g)
  class-joined f g = class-add (poly_ops Q) (poly_laws Q q_laws) f g

  -- a sum and a product as they are made
  pub sum-made : (d c e : Fraction) → is_zero (residue_ops s.p) d.1 ≡ false → is_zero (residue_ops s.p) c.1 ≡ false → IsSum (residue_ops s.p) d c e → (is_zero (residue_ops s.p) e.1 ≡ false) × (class Q e ≡ (rationals s).add (class Q d) (class Q c))
  sum-made d c e dn cn h =
      let k = cancelled-value (residue_ops s.p) (laws s) (field s) (uncancelled (residue_ops s.p) Sum d c) e (joined-nonzero (residue_ops s.p) (laws s) (field s) Sum d c dn cn) h in
      (k.nonzero, class_sound Q q_laws e (uncancelled (residue_ops s.p) Sum d c) k.value ∙ class_sound Q q_laws _ _ (sum-value (residue_ops s.p) (laws s) (field s) d c dn cn) ∙ class-add Q q_laws d c)

  pub product-made : (d c e : Fraction) → is_zero (residue_ops s.p) d.1 ≡ false → is_zero (residue_ops s.p) c.1 ≡ false → IsProduct (residue_ops s.p) d c e → (is_zero (residue_ops s.p) e.1 ≡ false) × (class Q e ≡ (rationals s).mul (class Q d) (class Q c))
  product-made d c e dn cn h =
      let k = cancelled-value (residue_ops s.p) (laws s) (field s) (fraction_product (residue_ops s.p) d c) e (product-nonzero (residue_ops s.p) (laws s) (field s) d.1 c.1 dn cn) h in
      (k.nonzero, class_sound Q q_laws e (fraction_product (residue_ops s.p) d c) k.value ∙ ap (class Q) (sym (ap₂ (fraction_product (residue_ops s.p)) (as_pair-fraction (poly_ops (residue_ops s.p)) d dn) (as_pair-fraction (poly_ops (residue_ops s.p)) c cn))) ∙ class-mul Q q_laws d c)

  no_class : (e : Fraction) → is_zero (residue_ops s.p) e.1 ≡ false → is_zero (residue_ops s.p) e.0 ≡ true → class Q e ≡ (rationals s).zero
  no_class e n z = class_sound Q q_laws e Q.zero (zero-value (residue_ops s.p) (laws s) e n ∙ z) ∙ class-zero Q q_laws

  -- ---- one term

  -- a tail with this class
  abbrev pub IsTailOf : FractionPoly → Class (poly_ops Q) → Type 0
  IsTailOf g x = AreTails g × (cls g ≡ x)

  pub added-one : (m : List ℕ) (c : Fraction) (f g : FractionPoly) → is_zero (residue_ops s.p) c.1 ≡ false → AreTails f → IsAdded s.p (space_count s) m c f g → IsTailOf g (R.add (cls f) (term c m))
  added-one m c f _ cn h (new before after e tail) =
      (stored-tails (before ++ (m, c) ∷ after) tail, class-middle before after m c ∙ moved (cls before) (term c m) (cls after) ∙ ap (λ x. R.add x (term c m)) (sym (class-joined before after) ∙ ap cls (sym e)))
    where
      moved : (b t a : Class (poly_ops Q)) → R.add b (R.add t a) ≡ R.add (R.add b a) t
      moved b t a = ring R (b ∷ t ∷ a ∷ []) (search reading depth 30) refl
  added-one m c f _ cn h (summed before after d e w sum nonzero) =
      let there = subst AreTails w h in
      let made = sum-made d c e (tails-term before after (m, d) there).denominator cn sum in (
        tails-other before after m d e (record { denominator = made.0; nonzero = nonzero }) there,
        class-middle before after m e ∙ ap (λ x. R.add (cls before) (R.add x (cls after))) (ap (λ y. (over_terms s).term y (monomial m)) made.1 ∙ sym ((over_terms s).term_add (class Q d) (class Q c) (monomial m)))
            ∙ moved (cls before) (term d m) (term c m) (cls after) ∙ ap (λ x. R.add x (term c m)) (sym (class-middle before after m d) ∙ ap cls (sym w)),
      )
    where
      moved : (b t u a : Class (poly_ops Q)) → R.add b (R.add (R.add t u) a) ≡ R.add (R.add b (R.add t a)) u
      moved b t u a = ring R (b ∷ t ∷ u ∷ a ∷ []) (search reading depth 30) refl
  added-one m c f _ cn h (cancelled before after d e w sum none) =
      let there = subst AreTails w h in
      let made = sum-made d c e (tails-term before after (m, d) there).denominator cn sum in
      let nothing : R.add (term d m) (term c m) ≡ R.zero = (over_terms s).term_add (class Q d) (class Q c) (monomial m) ∙ ap (λ y. (over_terms s).term y (monomial m)) (sym made.1 ∙ no_class e made.0 none) ∙ term_zero (over_terms s) (monomial m) in (
        tails-without before after (m, d) there,
        class-joined before after ∙ ap (λ x. R.add (cls before) x) (sym (R.zero_add (cls after))) ∙ ap (λ x. R.add (cls before) (R.add x (cls after))) (sym nothing)
            ∙ moved (cls before) (term d m) (term c m) (cls after) ∙ ap (λ x. R.add x (term c m)) (sym (class-middle before after m d) ∙ ap cls (sym w)),
      )
    where
      moved : (b t u a : Class (poly_ops Q)) → R.add b (R.add (R.add t u) a) ≡ R.add (R.add b (R.add t a)) u
      moved b t u a = ring R (b ∷ t ∷ u ∷ a ∷ []) (search reading depth 30) refl

  -- ---- a multiple of a tail

  pub added-all : (n : List ℕ) (c : Fraction) (f terms g : FractionPoly) → is_zero (residue_ops s.p) c.1 ≡ false → AreFractions terms → AreTails f → AreAdded s.p (space_count s) n c f terms g → IsTailOf g (R.add (cls f) (R.mul (term c n) (cls terms)))
  added-all n c f _ _ cn dens h start = (h, nothing (cls f) (term c n) ∙ ap (λ x. R.add (cls f) (R.mul (term c n) x)) (sym (class-zero (poly_ops Q) (poly_laws Q q_laws))))
    where
      nothing : (x t : Class (poly_ops Q)) → x ≡ R.add x (R.mul t R.zero)
      nothing x t = ring R (x ∷ t ∷ []) (search reading depth 30) refl
  added-all n c f _ _ cn dens h (next terms t g k d so_far made added) =
      let parts = fractions-split terms (t ∷ []) dens in
      let rest = added-all n c f terms g cn parts.0 h so_far in
      let product = product-made c t.1 d cn parts.1.0 made in
      let one = added-one (monomial_product n t.0) d g k product.0 rest.0 added in (
        one.0,
        one.1 ∙ ap₂ R.add rest.1 (ap₂ (λ x y. (over_terms s).term x y) product.1 (monomial-mul n t.0) ∙ sym ((over_terms s).term_mul (class Q c) (class Q t.1) (monomial n) (monomial t.0)))
            ∙ joined (cls f) (term c n) (cls terms) (term t.1 t.0) ∙ ap (λ x. R.add (cls f) (R.mul (term c n) x)) (ap (R.add (cls terms)) (sym (class-term Q q_laws t.1 t.0)) ∙ sym (class-joined terms (t ∷ []))),
      )
    where
      joined : (f x a b : Class (poly_ops Q)) → R.add (R.add f (R.mul x a)) (R.mul x b) ≡ R.add f (R.mul x (R.add a b))
      joined f x a b = ring R (f ∷ x ∷ a ∷ b ∷ []) (search reading depth 30) refl
