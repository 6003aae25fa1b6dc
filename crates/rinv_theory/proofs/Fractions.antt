-- A field of fractions of an honest ring, by what one needs to know of it; and polynomials over it without denominators.
--   IsFractions 𝓓 𝓕      each element of 𝓕 is a quotient of elements of 𝓓, which are in it
--   fractions            the classes of fractions are a field of fractions
--   polynomial_fractions the same of fractions of polynomials over a field; -into: a polynomial there is it over 1
--   Cleared              a multiple of a polynomial by an element of 𝓓, written without denominators
--   clear                each polynomial has such a multiple, with the same monomials
--   constant_cancels     a factor from 𝓓 that is not zero cancels
use Rattle.std.proofs.Common.{◌≡◌, [], ◌∷◌, refl, sym, ◌∙◌, ap, ap₂, subst}
use mathlib.Core.Logic.{∥∥₁_prop, ∥∥₁_elim, ∥∥₁_map}
use Rattle.rinv_algebra.specs.Ring.{RingOps, RingLaws, FieldLaws}
use Rattle.rinv_algebra.specs.Polynomial.{Polynomial, poly_ops}
use Rattle.rinv_algebra.specs.Fraction.{fraction_ops, over_one as over_one_of}
use Rattle.rinv_algebra.proofs.PolynomialLaws.{poly_laws}
use Rattle.rinv_theory.proofs.CRing.{CRing, Hom, hom-zero, mul_zero}
use Rattle.rinv_theory.proofs.Solver.{ring, reading}
use Rattle.rinv_theory.proofs.Monoid.{Monoid}
use Rattle.rinv_theory.proofs.Classes.{Class, class, class_ring, class_sound, class_exact, class_ind, class-mul}
use Rattle.rinv_theory.proofs.Polynomials.{poly_ring}
use Rattle.rinv_theory.proofs.Domain.{IsDomain}
use Rattle.rinv_theory.proofs.TermRing.{TermRing, constant-term}
use Rattle.rinv_theory.proofs.Of.{Of, of-add, of-times, of-term}
use Rattle.rinv_theory.proofs.Universal.{change, change-term}
use Rattle.rinv_theory.proofs.Values.{class_map, class_map-at}
use Rattle.rinv_theory.proofs.Fields.{class_inverse, poly_domain, fraction_laws}
use Rattle.rinv_theory.proofs.FractionLaws.{whole, pair_ops, pair_laws, pair_field, over_one_map, over_one-exact, as_pair, as_pair-nonzero, pair-times_denominator}

-- a field of fractions
pub record IsFractions {D F : Type 0} (𝓓 : CRing D) (𝓕 : CRing F) : Type 0 where
  pub into : Hom 𝓓 𝓕
  pub injective : (a b : D) → into.at a ≡ into.at b → a ≡ b
  pub inverse : (d : D) → (d ≡ 𝓓.zero → ⊥) → (x : F) × (𝓕.mul x (into.at d) ≡ 𝓕.one)
  pub quotient : (x : F) → ∥ ((n d : D) × (d ≡ 𝓓.zero → ⊥) × (𝓕.mul (into.at d) x ≡ into.at n)) ∥₁

module _ {D : Type 0} (q : RingOps D) (l : RingLaws q) (domain : IsDomain (class_ring q l)) where
  abbrev fraction_ring : CRing (Class (pair_ops q))
  fraction_ring = class_ring (pair_ops q) (pair_laws q l domain)

  abbrev over_one : Hom (class_ring q l) fraction_ring
  over_one = class_map q l (pair_ops q) (pair_laws q l domain) (whole q) (over_one_map q l domain)

  over_one-class : (a : D) → over_one.at (class q a) ≡ class (pair_ops q) (whole q a)
  over_one-class a = class_map-at q l (pair_ops q) (pair_laws q l domain) (whole q) (over_one_map q l domain) a

  over_one_injective : (x y : Class q) → over_one.at x ≡ over_one.at y → x ≡ y
  over_one_injective x y = class_ind q l (λ x. over_one.at x ≡ over_one.at y → x ≡ y) (λ x. hlevel ((class_ring q l).is_set)) (λ a. class_ind q l (λ y. over_one.at (class q a) ≡ over_one.at y → class q a ≡ y) (λ y. hlevel ((class_ring q l).is_set))
      (λ b e. class_sound q l a b (over_one-exact q l domain a b (class_exact (pair_ops q) (pair_laws q l domain) _ _ (sym (over_one-class a) ∙ e ∙ over_one-class b)))) y) x

  -- the classes of fractions are a field of fractions
  pub fractions : IsFractions (class_ring q l) fraction_ring
  fractions = record {
    into = over_one;
    injective = over_one_injective;
    inverse = λ d n. class_inverse (pair_ops q) (pair_laws q l domain) (pair_field q l domain) (over_one.at d) (λ e. n (over_one_injective d _ (e ∙ sym (hom-zero over_one))));
    quotient = class_ind (pair_ops q) (pair_laws q l domain) _ (λ x. ∥∥₁_prop) (λ f. ∣ (
      class q (as_pair q f).0,
      class q (as_pair q f).1,
      as_pair-nonzero q l domain f,
      ap (λ z. fraction_ring.mul z (class (pair_ops q) f)) (over_one-class _) ∙ sym (class-mul (pair_ops q) (pair_laws q l domain) _ f) ∙ class_sound (pair_ops q) (pair_laws q l domain) _ _ (pair-times_denominator q l domain f) ∙ sym (over_one-class _),
    ) ∣₁);
  }

-- the classes of fractions of polynomials over a field, over the polynomials
pub polynomial_fractions : {E : Type 0} (o : RingOps E) (l : RingLaws o) (f : FieldLaws o) → IsFractions (poly_ring o l) (class_ring (fraction_ops o) (fraction_laws o l f))
polynomial_fractions o l f = fractions (poly_ops o) (poly_laws o l) (poly_domain o l f)

-- a polynomial among the fractions: over 1
pub polynomial_fractions-into : {E : Type 0} (o : RingOps E) (l : RingLaws o) (f : FieldLaws o) (x : Polynomial E) → (polynomial_fractions o l f).into.at (class (poly_ops o) x) ≡ class (fraction_ops o) (over_one_of o x)
unfolding polynomial_fractions fractions
polynomial_fractions-into o l f x = over_one-class (poly_ops o) (poly_laws o l) (poly_domain o l f) x

module _ {D F M S V : Type 0} {𝓓 : CRing D} {𝓕 : CRing F} {𝓜 : Monoid M} (domain : IsDomain 𝓓) (fr : IsFractions 𝓓 𝓕) (𝓢 : TermRing 𝓓 𝓜 S) (𝓥 : TermRing 𝓕 𝓜 V) where
  open 𝓥.ring use {add as ◌+◌, mul as ◌*◌, zero as 𝟘}

  infixl 60 ◌+◌
  infixl 70 ◌*◌
  -- a polynomial without denominators, as one over the fractions
  abbrev pub embedding : Hom 𝓢.ring 𝓥.ring
  embedding = change 𝓢 𝓥 fr.into

  -- an element of 𝓓, as a constant over the fractions
  abbrev pub scalar : D → V
  scalar d = 𝓥.term (fr.into.at d) 𝓜.one

  embedding-constant : (d : D) → embedding.at (𝓢.term d 𝓜.one) ≡ scalar d
  embedding-constant d = change-term 𝓢 𝓥 fr.into d 𝓜.one

  scalar-mul : (d e : D) → scalar (𝓓.mul d e) ≡ scalar d * scalar e
  scalar-mul d e = ap (λ x. 𝓥.term x 𝓜.one) (fr.into.mul d e) ∙ sym (constant-term 𝓥 _ _ 𝓜.one)

  -- f times d, written without denominators
  pub record Cleared (Q : M → Type 0) (f : V) : Type 0 where
    pub den : D
    pub nonzero : den ≡ 𝓓.zero → ⊥
    pub poly : S
    pub monomials : Of 𝓢 Q poly
    pub whole : embedding.at poly ≡ scalar den * f

  clear_term : (n d : D) (x : F) (m : M) → 𝓕.mul (fr.into.at d) x ≡ fr.into.at n → embedding.at (𝓢.term n m) ≡ scalar d * 𝓥.term x m
  clear_term n d x m e = change-term 𝓢 𝓥 fr.into n m ∙ ap (λ z. 𝓥.term z m) (sym e) ∙ sym (constant-term 𝓥 _ _ m)

  clear_more : {Q : M → Type 0} (n d : D) (x : F) (m : M) → (d ≡ 𝓓.zero → ⊥) → 𝓕.mul (fr.into.at d) x ≡ fr.into.at n → Q m → {f : V} → Cleared Q f → Cleared Q (𝓥.term x m + f)
  clear_more {Q} n d x m nonzero e q {f} c = record {
    den = 𝓓.mul d c.den;
    nonzero = λ z. nonzero (domain.no_divisors d c.den z c.nonzero);
    poly = 𝓢.ring.add (𝓢.ring.mul (𝓢.term c.den 𝓜.one) (𝓢.term n m)) (𝓢.ring.mul (𝓢.term d 𝓜.one) c.poly);
    monomials = of-add 𝓢 (of-times 𝓢 c.den 𝓜.one (λ k r. subst Q (sym (𝓜.one_mul k)) r) (of-term 𝓢 n m q)) (of-times 𝓢 d 𝓜.one (λ k r. subst Q (sym (𝓜.one_mul k)) r) c.monomials);
    whole =
        embedding.add _ _
        ∙ ap₂ ◌+◌ (embedding.mul _ _ ∙ ap₂ ◌*◌ (embedding-constant c.den) (clear_term n d x m e)) (embedding.mul _ _ ∙ ap₂ ◌*◌ (embedding-constant d) c.whole)
        ∙ collect (scalar d) (scalar c.den) (𝓥.term x m) f ∙ ap (λ z. z * (𝓥.term x m + f)) (sym (scalar-mul d c.den));
  }
    where
      collect : (x y t f : V) → y * (x * t) + x * (y * f) ≡ x * y * (t + f)
      collect x y t f = ring 𝓥.ring (x ∷ y ∷ t ∷ f ∷ []) (search reading depth 30) refl

  -- each polynomial over the fractions has a multiple without denominators
  pub clear : {Q : M → Type 0} {f : V} → Of 𝓥 Q f → ∥ Cleared Q f ∥₁
  clear Of.none = ∣ record { den = 𝓓.one; nonzero = domain.one_zero; poly = 𝓢.ring.zero; monomials = Of.none; whole = hom-zero embedding ∙ sym (mul_zero 𝓥.ring _) } ∣₁
  clear {Q} (Of.more {f = f} x m q r) = ∥∥₁_elim (clear r) ∥∥₁_prop (λ c. ∥∥₁_map (fr.quotient x) (λ (n, d, nonzero, e). clear_more n d x m nonzero e q c))

  -- a factor from 𝓓 that is not zero cancels
  pub constant_cancels : (d : D) → (d ≡ 𝓓.zero → ⊥) → (f : V) → scalar d * f ≡ 𝟘 → f ≡ 𝟘
  constant_cancels d n f e = go (fr.inverse d n)
    where
      go : (x : F) × (𝓕.mul x (fr.into.at d) ≡ 𝓕.one) → f ≡ 𝟘
      go (x, h) =
          sym (𝓥.ring.one_mul f) ∙ ap (λ y. y * f) (sym (constant-term 𝓥 x _ 𝓜.one ∙ ap (λ y. 𝓥.term y 𝓜.one) h ∙ 𝓥.term_one))
          ∙ 𝓥.ring.mul_assoc _ _ _ ∙ ap (λ y. 𝓥.term x 𝓜.one * y) e ∙ mul_zero 𝓥.ring _
