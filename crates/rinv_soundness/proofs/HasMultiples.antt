-- Polynomials in Z over fractions that have a multiple without denominators: d*f, for a nonzero d in the space's variables, is a
-- polynomial h in Z and the space's variables, of which something is asked.
--   HasMultiple n M f    d and h, with the property M of h
--   multiple-of          what is asked of h itself
--   multiple-add, multiple-mul    sums, and products, where M is kept by sums and multiples
--   crossed P Q          P(Z)*Q(x) - P(x)*Q(Z)
--   multiple-lowest      where h is zero for want of certain monomials in Z, so is f
--   multiple-front       f has no other monomials than those in the first n variables
use Rattle.std.proofs.Common.{◌≡◌, ℕ, ◌≤◌, ◌+◌, ◌*◌, [], ◌∷◌, refl, sym, ◌∙◌, ap, ap₂, subst, arith}
use mathlib.Core.Logic.{∥∥₁_elim}
use Rattle.rinv_algebra.specs.Ring.{RingOps, RingLaws, FieldLaws}
use Rattle.rinv_algebra.specs.Polynomial.{poly_ops}
use Rattle.rinv_algebra.specs.Fraction.{fraction_ops}
use Rattle.rinv_algebra.proofs.PolynomialLaws.{poly_laws}
use Rattle.rinv_theory.proofs.CRing.{hom-zero, mul_zero}
use Rattle.rinv_theory.proofs.Solver.{ring, reading}
use Rattle.rinv_theory.proofs.Classes.{class_ring}
use Rattle.rinv_theory.proofs.Monoid.{Monomial, monomials}
use Rattle.rinv_theory.proofs.TermRing.{coefficient-zero}
use Rattle.rinv_theory.proofs.Polynomials.{polynomials, poly_ring, coefficient_at}
use Rattle.rinv_theory.proofs.Of.{Of, of-add, of_any, of-coefficient}
use Rattle.rinv_theory.proofs.Places.{front, back}
use Rattle.rinv_theory.proofs.Variables.{IsFront}
use Rattle.rinv_theory.proofs.Fields.{poly_domain, fraction_laws, fraction_field, class_domain}
use Rattle.rinv_theory.proofs.Fractions.{polynomial_fractions, constant_cancels}
use Rattle.rinv_soundness.proofs.FirstVariables.{front-product, of-opposite, more_variables, moved_front, constant_front}
use Rattle.rinv_soundness.proofs.Substituting.{move}
use Rattle.rinv_soundness.proofs.PlaceFacts.{nest-behind, nest-coefficient, nest-of}
use Rattle.rinv_soundness.proofs.OverFractions.{Inner, Over, over_ring, nested, into, over, constant_over, over-term, over-coefficient, constant_over-coefficient}

module _ {E : Type 0} (o : RingOps E) (l : RingLaws o) (field : FieldLaws o) (n : ℕ) where
  -- in the first v variables
  abbrev pub InVariables : ℕ → Inner o l field → Type 0
  InVariables v x = Of (polynomials o l) (IsFront v) x

  -- d*f is h, and h has the property M
  pub record HasMultiple (M : Inner o l field → Type 0) (f : Over o l field) : Type 0 where
    pub d : Inner o l field
    pub h : Inner o l field
    pub d_in_space : Of (polynomials o l) (IsFront n) d
    pub h_in_both : Of (polynomials o l) (IsFront (2 * n)) h
    pub nonzero : d ≡ (poly_ring o l).zero → ⊥
    pub multiple : (over o l field).at ((nested o l field n).at h) ≡ (over_ring o l field).mul (constant_over o l field d) f
    pub property : M h

  -- polynomials in Z and the space's variables, over fractions
  abbrev pub read : Inner o l field → Over o l field
  read h = (over o l field).at ((nested o l field n).at h)

  -- it keeps sums
  pub read-add : (x y : Inner o l field) → read ((poly_ring o l).add x y) ≡ (over_ring o l field).add (read x) (read y)
  read-add x y = ap (over o l field).at ((nested o l field n).add x y) ∙ (over o l field).add _ _

  -- and products
  pub read-mul : (x y : Inner o l field) → read ((poly_ring o l).mul x y) ≡ (over_ring o l field).mul (read x) (read y)
  read-mul x y = ap (over o l field).at ((nested o l field n).mul x y) ∙ (over o l field).mul _ _

  -- a polynomial in the space's variables is a constant
  pub read-move : (d : Inner o l field) → read ((move o l n).at d) ≡ constant_over o l field d
  read-move d = ap (over o l field).at (nest-behind (polynomials o l) (polynomials o l) (polynomials (poly_ops o) (poly_laws o l)) n d) ∙ over-term o l field d monomials.one

  constant_over-mul : (d e : Inner o l field) → constant_over o l field ((poly_ring o l).mul d e) ≡ (over_ring o l field).mul (constant_over o l field d) (constant_over o l field e)
  constant_over-mul d e = sym (read-move _) ∙ ap read ((move o l n).mul d e) ∙ read-mul _ _ ∙ ap₂ (over_ring o l field).mul (read-move d) (read-move e)

  constant_over-one : constant_over o l field (poly_ring o l).one ≡ (over_ring o l field).one
  constant_over-one = sym (read-move _) ∙ ap read (move o l n).one ∙ ap (over o l field).at (nested o l field n).one ∙ (over o l field).one

  -- a polynomial in the space's variables, behind Z
  pub behind_z : {d : Inner o l field} → InVariables n d → InVariables (2 * n) ((move o l n).at d)
  behind_z {d} r = let e : n + n ≡ 2 * n = omega arith in subst (λ (v : ℕ). InVariables v ((move o l n).at d)) e (moved_front (polynomials o l) n n r)

  -- P(Z)*Q(x) - P(x)*Q(Z)
  abbrev pub crossed : Inner o l field → Inner o l field → Inner o l field
  crossed P Q = (poly_ring o l).add ((poly_ring o l).mul P ((move o l n).at Q)) ((poly_ring o l).neg ((poly_ring o l).mul ((move o l n).at P) Q))

  -- it is in Z and the space's variables
  pub crossed_in : {P Q : Inner o l field} → InVariables n P → InVariables n Q → InVariables (2 * n) (crossed P Q)
  crossed_in {P} {Q} r t =
      let more : n ≤ 2 * n = omega arith in
      of-add (polynomials o l) (front-product (polynomials o l) (2 * n) (more_variables (polynomials o l) n (2 * n) more r) (behind_z t))
      (of-opposite (polynomials o l) (front-product (polynomials o l) (2 * n) (behind_z r) (more_variables (polynomials o l) n (2 * n) more t)))

  -- what is asked of h itself
  pub multiple-of : {M : Inner o l field → Type 0} {h : Inner o l field} → InVariables (2 * n) h → M h → HasMultiple M (read h)
  multiple-of {h = h} r q = record {
    d = (poly_ring o l).one;
    h = h;
    d_in_space = subst (InVariables n) (polynomials o l).term_one (constant_front (polynomials o l) n (class_ring o l).one);
    h_in_both = r;
    nonzero = (poly_domain o l field).one_zero;
    multiple = sym (ap (λ x. (over_ring o l field).mul x (read h)) constant_over-one ∙ (over_ring o l field).one_mul _);
    property = q;
  }

  -- a property that sums keep
  abbrev pub KeepsSums : (Inner o l field → Type 0) → Type 0
  KeepsSums M = (x y : Inner o l field) → M x → M y → M ((poly_ring o l).add x y)

  -- a property that multiples keep
  abbrev pub KeepsMultiples : (Inner o l field → Type 0) → Type 0
  KeepsMultiples M = (u x : Inner o l field) → M x → M ((poly_ring o l).mul u x)

  -- a sum
  pub multiple-add : {M : Inner o l field → Type 0} → KeepsSums M → KeepsMultiples M → {f g : Over o l field} → HasMultiple M f → HasMultiple M g → HasMultiple M ((over_ring o l field).add f g)
  multiple-add sums multiples {f} {g} a b = record {
    d = (poly_ring o l).mul a.d b.d;
    h = (poly_ring o l).add ((poly_ring o l).mul ((move o l n).at b.d) a.h) ((poly_ring o l).mul ((move o l n).at a.d) b.h);
    d_in_space = front-product (polynomials o l) n a.d_in_space b.d_in_space;
    h_in_both = of-add (polynomials o l) (front-product (polynomials o l) (2 * n) (behind_z b.d_in_space) a.h_in_both) (front-product (polynomials o l) (2 * n) (behind_z a.d_in_space) b.h_in_both);
    nonzero = λ e. a.nonzero ((poly_domain o l field).no_divisors a.d b.d e b.nonzero);
    multiple =
        read-add _ _ ∙ ap₂ (over_ring o l field).add (read-mul _ _ ∙ ap₂ (over_ring o l field).mul (read-move b.d) a.multiple) (read-mul _ _ ∙ ap₂ (over_ring o l field).mul (read-move a.d) b.multiple)
        ∙ cross (constant_over o l field a.d) (constant_over o l field b.d) f g ∙ ap (λ x. (over_ring o l field).mul x ((over_ring o l field).add f g)) (sym (constant_over-mul a.d b.d));
    property = sums _ _ (multiples _ _ a.property) (multiples _ _ b.property);
  }
    where
      cross : (x y f g : Over o l field) → (over_ring o l field).add ((over_ring o l field).mul y ((over_ring o l field).mul x f)) ((over_ring o l field).mul x ((over_ring o l field).mul y g)) ≡ (over_ring o l field).mul ((over_ring o l field).mul x y) ((over_ring o l field).add f g)
      cross x y f g = ring (over_ring o l field) (x ∷ y ∷ f ∷ g ∷ []) (search reading depth 30) refl

  -- a product with what has a multiple without denominators
  pub multiple-mul : {M N : Inner o l field → Type 0} → KeepsMultiples M → {u f : Over o l field} → HasMultiple N u → HasMultiple M f → HasMultiple M ((over_ring o l field).mul u f)
  multiple-mul multiples {u} {f} a b = record {
    d = (poly_ring o l).mul a.d b.d;
    h = (poly_ring o l).mul a.h b.h;
    d_in_space = front-product (polynomials o l) n a.d_in_space b.d_in_space;
    h_in_both = front-product (polynomials o l) (2 * n) a.h_in_both b.h_in_both;
    nonzero = λ e. a.nonzero ((poly_domain o l field).no_divisors a.d b.d e b.nonzero);
    multiple = read-mul _ _ ∙ ap₂ (over_ring o l field).mul a.multiple b.multiple ∙ exchange (constant_over o l field a.d) (constant_over o l field b.d) u f ∙ ap (λ x. (over_ring o l field).mul x ((over_ring o l field).mul u f)) (sym (constant_over-mul a.d b.d));
    property = multiples _ _ b.property;
  }
    where
      exchange : (x y u f : Over o l field) → (over_ring o l field).mul ((over_ring o l field).mul x u) ((over_ring o l field).mul y f) ≡ (over_ring o l field).mul ((over_ring o l field).mul x y) ((over_ring o l field).mul u f)
      exchange x y u f = ring (over_ring o l field) (x ∷ y ∷ u ∷ f ∷ []) (search reading depth 30) refl

  module _ {M : Inner o l field → Type 0} {f : Over o l field} (a : HasMultiple M f) where
    into-zero : (x : Inner o l field) → (into o l field).at x ≡ (class_ring (fraction_ops o) (fraction_laws o l field)).zero → x ≡ (poly_ring o l).zero
    into-zero x e = (polynomial_fractions o l field).injective x (poly_ring o l).zero (e ∙ sym (hom-zero (into o l field)))

    -- the coefficients of f, times d, are those of h
    pub multiple-coefficient : (m : Monomial) → (class_ring (fraction_ops o) (fraction_laws o l field)).mul ((into o l field).at a.d) (coefficient_at (fraction_ops o) (fraction_laws o l field) f m) ≡ (into o l field).at (coefficient_at (poly_ops o) (poly_laws o l) ((nested o l field n).at a.h) m)
    multiple-coefficient m = sym (constant_over-coefficient o l field a.d f m) ∙ ap (λ x. coefficient_at (fraction_ops o) (fraction_laws o l field) x m) (sym a.multiple) ∙ over-coefficient o l field _ m

    -- where f lacks a monomial in Z, h lacks all monomials with it
    pub multiple-lacks : (m : Monomial) → coefficient_at (fraction_ops o) (fraction_laws o l field) f (front n m) ≡ (class_ring (fraction_ops o) (fraction_laws o l field)).zero → coefficient_at o l a.h m ≡ (class_ring o l).zero
    multiple-lacks m e =
        sym (nest-coefficient (polynomials o l) (polynomials o l) (polynomials (poly_ops o) (poly_laws o l)) n a.h m)
        ∙ ap (λ x. coefficient_at o l x (back n m)) (into-zero _ (sym (multiple-coefficient (front n m)) ∙ ap ((class_ring (fraction_ops o) (fraction_laws o l field)).mul ((into o l field).at a.d)) e ∙ mul_zero (class_ring (fraction_ops o) (fraction_laws o l field)) _))
        ∙ coefficient-zero (polynomials o l) (back n m)

    -- where h is zero, so is f
    pub multiple-zero : a.h ≡ (poly_ring o l).zero → f ≡ (over_ring o l field).zero
    multiple-zero e = constant_cancels (poly_domain o l field) (polynomial_fractions o l field) (polynomials (poly_ops o) (poly_laws o l)) (polynomials (fraction_ops o) (fraction_laws o l field)) a.d a.nonzero f (sym a.multiple ∙ ap read e ∙ ap (over o l field).at (hom-zero (nested o l field n)) ∙ hom-zero (over o l field))

    -- f has no monomials but those in the first n variables
    pub multiple-front : (m : Monomial) → (IsFront n m → ⊥) → coefficient_at (fraction_ops o) (fraction_laws o l field) f m ≡ (class_ring (fraction_ops o) (fraction_laws o l field)).zero
    multiple-front m off =
        ∥∥₁_elim (of_any (polynomials o l) a.h) ((class_ring (fraction_ops o) (fraction_laws o l field)).is_set _ _) (λ r. cancelled _ ((class_ring (fraction_ops o) (fraction_laws o l field)).mul_comm _ _ ∙ multiple-coefficient m ∙ ap (into o l field).at (of-coefficient (polynomials (poly_ops o) (poly_laws o l)) {Q = IsFront n} m other (nest-of (polynomials o l) (polynomials o l) (polynomials (poly_ops o) (poly_laws o l)) n r)) ∙ hom-zero (into o l field)))
      where
        other : (k : Monomial) → IsFront n k → k ≡ m → ⊥
        other k q e = off (subst (IsFront n) e q)

        cancelled : (c : _) → (class_ring (fraction_ops o) (fraction_laws o l field)).mul c ((into o l field).at a.d) ≡ (class_ring (fraction_ops o) (fraction_laws o l field)).zero → c ≡ (class_ring (fraction_ops o) (fraction_laws o l field)).zero
        cancelled c e = (class_domain (fraction_ops o) (fraction_laws o l field) (fraction_field o l field)).no_divisors c _ e (λ z. a.nonzero (into-zero a.d z))
