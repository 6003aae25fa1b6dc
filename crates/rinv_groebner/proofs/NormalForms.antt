-- Normal forms modulo a Gröbner basis, of formal sums.
--   coefficient-constant    the coefficients of a product with a constant
--   irreducible-coefficient    an irreducible sum has no monomial that is a multiple of a leading monomial
--   normal_form-unique   congruent sums have one normal form, whichever Gröbner bases are taken
--   normal_form-add, normal_form-term    sums, and products with a constant
--   normal_form-zero     a sum is a member exactly where its normal form is zero
--   division-normal_form what a division leaves is a normal form
use Rattle.std.proofs.Common.{◌≡◌, ℕ, Bool, true, false, List, [], ◌∷◌, ◌++◌, get_or, refl, sym, ◌∙◌, ap, ap₂, subst, IsTrue, true≢false}
use Rattle.std.specs.declared.cmp.Ordering.{Ordering}
use Rattle.rinv_algebra.specs.Ring.{RingOps, RingLaws, IsSame}
use Rattle.rinv_algebra.specs.Monomial.{monomial_product}
use Rattle.rinv_algebra.specs.Polynomial.{Polynomial, poly_ops, is_zero, difference, scale, term_product}
use Rattle.rinv_algebra.specs.Ideal.{IsMember}
use Rattle.rinv_algebra.specs.Leading.{leading_monomial}
use Rattle.rinv_algebra.proofs.PolynomialLaws.{poly_laws}
use Rattle.rinv_theory.proofs.CRing.{CRing, add_neg, mul_zero}
use Rattle.rinv_theory.proofs.Solver.{ring, reading}
use Rattle.rinv_theory.proofs.Classes.{class, class_ring, class_sound, class_exact, class_dec, class-add, class-zero}
use Rattle.rinv_theory.proofs.Monoid.{Monoid, Monomial, monomial, monomials, monomial_ind, monomial-mul, monomial-one}
use Rattle.rinv_theory.proofs.Polynomials.{polynomials, poly_ring}
use Rattle.rinv_theory.proofs.TermRing.{TermRing, coefficient-zero}
use Rattle.rinv_theory.proofs.Variables.{in_variables-of}
use Rattle.rinv_groebner.specs.Orders.{OrdersMonomials}
use Rattle.rinv_groebner.specs.Division.{Step, is_reducible, IsIrreducible, Steps, IsDivision}
use Rattle.rinv_groebner.specs.Basis.{AreMembers}
use Rattle.rinv_groebner.specs.Reduced.{IsNormalForm}
use Rattle.rinv_groebner.proofs.Bases.{normal-unique}
use Rattle.rinv_groebner.proofs.Compared.{all_monomials, InFirst, has-coefficient, coefficient-has}
use Rattle.rinv_groebner.proofs.IdealBases.{all_at, in_ideal, first-difference, InIdeal, IsListBasis}
use Rattle.rinv_groebner.proofs.ListElements.{Place}
use Rattle.rinv_groebner.proofs.MemberLists.{member-same, member_zero, member-add, member-subtract, member-term}
use Rattle.rinv_groebner.proofs.Reducible.{place_reducible}
use Rattle.rinv_groebner.proofs.StepClasses.{class-difference, class-term_product}

-- a constant times a polynomial, at a monomial
pub coefficient-constant : {K M P : Type 0} {𝓚 : CRing K} {𝓜 : Monoid M} (𝓣 : TermRing 𝓚 𝓜 P) (c : K) (x : P) (n : M) → 𝓣.coefficient (𝓣.ring.mul (𝓣.term c 𝓜.one) x) n ≡ 𝓚.mul c (𝓣.coefficient x n)
coefficient-constant {𝓜 = 𝓜} 𝓣 c x n = ap (𝓣.coefficient _) (sym (𝓜.one_mul n)) ∙ 𝓣.coefficient_times c 𝓜.one n x

module _ {R : Type 0} (𝓡 : CRing R) where
  open 𝓡 use {add as ◌+◌, mul as ◌*◌, neg as -◌}

  infixl 60 ◌+◌
  infixl 70 ◌*◌
  infix 80 -◌
  moved : (f g r s : R) → f + - g + - (f + - r) + (g + - s) ≡ r + - s
  moved f g r s = ring 𝓡 (f ∷ g ∷ r ∷ s ∷ []) (search reading depth 30) refl

  summed : (f g r s : R) → f + - r + (g + - s) ≡ f + g + - (r + s)
  summed f g r s = ring 𝓡 (f ∷ g ∷ r ∷ s ∷ []) (search reading depth 30) refl

  scaled : (t f r : R) → t * (f + - r) ≡ t * f + - (t * r)
  scaled t f r = ring 𝓡 (t ∷ f ∷ r ∷ []) (search reading depth 30) refl

  taken : (f b x : R) → f + - b + x ≡ f + - (b + - x)
  taken f b x = ring 𝓡 (f ∷ b ∷ x ∷ []) (search reading depth 30) refl

  twice : (x y : R) → x + - (x + - y) ≡ y
  twice x y = ring 𝓡 (x ∷ y ∷ []) (search reading depth 30) refl

  restored : (f r : R) → f + - r + r ≡ f
  restored f r = ring 𝓡 (f ∷ r ∷ []) (search reading depth 30) refl

module _ {E : Type 0} (o : RingOps E) (l : RingLaws o) (cmp : List ℕ → List ℕ → Ordering) where
  -- an irreducible sum has no monomial that is a multiple of a leading monomial
  pub irreducible-coefficient : (hs : List (Polynomial E)) (r : Polynomial E) → IsIrreducible o cmp hs r → (k : Place o hs) (s : Monomial) → (polynomials o l).coefficient (class (poly_ops o) r) (monomials.mul s (monomial (leading_monomial o cmp (get_or hs k.0 [])))) ≡ (class_ring o l).zero
  irreducible-coefficient hs r h k = monomial_ind (λ s. (polynomials o l).coefficient (class (poly_ops o) r) (monomials.mul s (monomial (leading_monomial o cmp (get_or hs k.0 [])))) ≡ (class_ring o l).zero) (λ s. (class_ring o l).is_set _ _)
      (λ a. ap ((polynomials o l).coefficient (class (poly_ops o) r)) (sym (monomial-mul a (leading_monomial o cmp (get_or hs k.0 [])))) ∙ at a (monomial_product a (leading_monomial o cmp (get_or hs k.0 []))) (sym (monomial-mul a (leading_monomial o cmp (get_or hs k.0 [])))) (class_dec o l _))
    where
      at : (a m : List ℕ) → monomials.mul (monomial a) (monomial (leading_monomial o cmp (get_or hs k.0 []))) ≡ monomial m → Dec ((polynomials o l).coefficient (class (poly_ops o) r) (monomial m) ≡ (class_ring o l).zero) → (polynomials o l).coefficient (class (poly_ops o) r) (monomial m) ≡ (class_ring o l).zero
      at a m e (yes z) = z
      at a m e (no n) = absurd (true≢false (sym (place_reducible o cmp hs m k (monomial a, e)) ∙ h m (coefficient-has o l r m n)))

  -- sums of irreducible sums, and their products with a constant, are irreducible
  irreducible-where : (hs : List (Polynomial E)) (r : Polynomial E) → ((m : List ℕ) → is_reducible o cmp hs m ≡ true → (polynomials o l).coefficient (class (poly_ops o) r) (monomial m) ≡ (class_ring o l).zero) → IsIrreducible o cmp hs r
  irreducible-where hs r h m has = go (is_reducible o cmp hs m) refl
    where
      go : (b : Bool) → is_reducible o cmp hs m ≡ b → b ≡ false
      go true e = absurd (has-coefficient o l r m has (h m e))
      go false e = refl

  reducible-zero : (hs : List (Polynomial E)) (r : Polynomial E) → IsIrreducible o cmp hs r → (m : List ℕ) → is_reducible o cmp hs m ≡ true → (polynomials o l).coefficient (class (poly_ops o) r) (monomial m) ≡ (class_ring o l).zero
  reducible-zero hs r h m e = go (class_dec o l _)
    where
      go : Dec ((polynomials o l).coefficient (class (poly_ops o) r) (monomial m) ≡ (class_ring o l).zero) → (polynomials o l).coefficient (class (poly_ops o) r) (monomial m) ≡ (class_ring o l).zero
      go (yes z) = z
      go (no n) = absurd (true≢false (sym e ∙ h m (coefficient-has o l r m n)))

  -- a sum
  pub normal_form-add : (fs hs : List (Polynomial E)) (f g r s : Polynomial E) → IsNormalForm o cmp fs hs f r → IsNormalForm o cmp fs hs g s → IsNormalForm o cmp fs hs (f ++ g) (r ++ s)
  normal_form-add fs hs f g r s p q = record {
    congruent = member-same o l fs (difference o f r ++ difference o g s) (difference o (f ++ g) (r ++ s)) (class_exact (poly_ops o) (poly_laws o l) _ _ (
        class-add (poly_ops o) (poly_laws o l) _ _ ∙ ap₂ (poly_ring o l).add (class-difference o l f r) (class-difference o l g s) ∙ summed (poly_ring o l) _ _ _ _
        ∙ ap₂ (λ x y. (poly_ring o l).add x ((poly_ring o l).neg y)) (sym (class-add (poly_ops o) (poly_laws o l) f g)) (sym (class-add (poly_ops o) (poly_laws o l) r s)) ∙ sym (class-difference o l (f ++ g) (r ++ s))
        )) (member-add o l fs _ _ p.congruent q.congruent);
    irreducible = irreducible-where hs (r ++ s) (λ m e.
        ap (λ x. (polynomials o l).coefficient x (monomial m)) (class-add (poly_ops o) (poly_laws o l) r s) ∙ (polynomials o l).coefficient_add _ _ _
        ∙ ap₂ (class_ring o l).add (reducible-zero hs r p.irreducible m e) (reducible-zero hs s q.irreducible m e) ∙ (class_ring o l).zero_add _);
  }

  -- the class of a product with a constant
  pub class-scale : (c : E) (f : Polynomial E) → class (poly_ops o) (scale o c f) ≡ (poly_ring o l).mul ((polynomials o l).term (class o c) monomials.one) (class (poly_ops o) f)
  class-scale c f = class-term_product o l ([], c) f ∙ ap (λ m. (poly_ring o l).mul ((polynomials o l).term (class o c) m) (class (poly_ops o) f)) monomial-one

  -- a product with a constant
  pub normal_form-scale : (fs hs : List (Polynomial E)) (c : E) (f r : Polynomial E) → IsNormalForm o cmp fs hs f r → IsNormalForm o cmp fs hs (scale o c f) (scale o c r)
  normal_form-scale fs hs c f r p = record {
    congruent = member-same o l fs (scale o c (difference o f r)) (difference o (scale o c f) (scale o c r)) (class_exact (poly_ops o) (poly_laws o l) _ _ (
        class-scale c (difference o f r) ∙ ap ((poly_ring o l).mul _) (class-difference o l f r) ∙ scaled (poly_ring o l) _ _ _
        ∙ ap₂ (λ x y. (poly_ring o l).add x ((poly_ring o l).neg y)) (sym (class-scale c f)) (sym (class-scale c r)) ∙ sym (class-difference o l (scale o c f) (scale o c r))
        )) (member-term o l fs ([], c) (difference o f r) p.congruent);
    irreducible = irreducible-where hs (scale o c r) (λ m e.
        ap (λ x. (polynomials o l).coefficient x (monomial m)) (class-scale c r) ∙ coefficient-constant (polynomials o l) (class o c) _ (monomial m)
        ∙ ap ((class_ring o l).mul (class o c)) (reducible-zero hs r p.irreducible m e) ∙ mul_zero (class_ring o l) _);
  }

  -- cancelling steps take away a member
  pub steps-congruent : (fs hs : List (Polynomial E)) → AreMembers o fs hs → (f : Polynomial E) (steps : List (Step E)) (left : Polynomial E) → Steps o cmp hs f steps left → IsMember o fs (difference o f left)
  steps-congruent fs hs members f steps left (Steps.start left' s) = member_zero o l fs (difference o f left) (class_exact (poly_ops o) (poly_laws o l) _ _ (
      class-difference o l f left ∙ ap (λ x. (poly_ring o l).add (class (poly_ops o) f) ((poly_ring o l).neg x)) (class_sound (poly_ops o) (poly_laws o l) left f s) ∙ add_neg (poly_ring o l) _ ∙ sym (class-zero (poly_ops o) (poly_laws o l))))
  steps-congruent fs hs members f steps left (Steps.next steps' before s left' h step) =
      member-same o l fs (difference o f before ++ multiple) (difference o f left) (class_exact (poly_ops o) (poly_laws o l) _ _ (
      class-add (poly_ops o) (poly_laws o l) _ _ ∙ ap (λ x. (poly_ring o l).add x (class (poly_ops o) multiple)) (class-difference o l f before) ∙ taken (poly_ring o l) _ _ _
      ∙ ap (λ x. (poly_ring o l).add (class (poly_ops o) f) ((poly_ring o l).neg x)) (sym (class-difference o l before multiple) ∙ sym (class_sound (poly_ops o) (poly_laws o l) left _ step.taken)) ∙ sym (class-difference o l f left)
      )) (member-add o l fs _ _ (steps-congruent fs hs members f steps' before h) (member-term o l fs s.multiplier (get_or hs s.place []) (all_at (IsMember o fs) [] hs members s.place step.next.inside)))
    where
      multiple : Polynomial E
      multiple = term_product o s.multiplier (get_or hs s.place [])

  -- what is left of a member is one
  pub steps-member : (fs hs : List (Polynomial E)) → AreMembers o fs hs → (f : Polynomial E) → IsMember o fs f → (steps : List (Step E)) (left : Polynomial E) → Steps o cmp hs f steps left → IsMember o fs left
  steps-member fs hs members f m steps left h = member-same o l fs (difference o f (difference o f left)) left
      (class_exact (poly_ops o) (poly_laws o l) _ _ (class-difference o l f _ ∙ ap (λ x. (poly_ring o l).add (class (poly_ops o) f) ((poly_ring o l).neg x)) (class-difference o l f left) ∙ twice (poly_ring o l) _ _))
      (member-subtract o l fs f _ m (steps-congruent fs hs members f steps left h))

  -- what a division leaves is a normal form
  pub division-normal_form : (fs hs : List (Polynomial E)) → AreMembers o fs hs → (f : Polynomial E) (steps : List (Step E)) (rest : Polynomial E) → IsDivision o cmp hs f steps rest → IsNormalForm o cmp fs hs f rest
  division-normal_form fs hs members f steps rest d = record { congruent = steps-congruent fs hs members f steps rest d.by_steps; irreducible = d.irreducible }

  module _ (v : ℕ) (order : OrdersMonomials cmp v) where
    -- congruent sums have one normal form
    pub normal_form-unique : (fs hs hs' : List (Polynomial E)) → IsListBasis o l v cmp order fs hs → IsListBasis o l v cmp order fs hs'
        → (f g r s : Polynomial E) → InFirst o l v r → InFirst o l v s → IsMember o fs (difference o f g) → IsNormalForm o cmp fs hs f r → IsNormalForm o cmp fs hs' g s → IsSame (poly_ops o) r s
    normal_form-unique fs hs hs' b b' f g r s rf sf m p q = class_exact (poly_ops o) (poly_laws o l) r s (
        normal-unique (polynomials o l) (all_monomials cmp v order) (InIdeal o l v fs) (class_dec o l)
        b b' (class (poly_ops o) r) (class (poly_ops o) s) congruent (irreducible-coefficient hs r p.irreducible) (irreducible-coefficient hs' s q.irreducible))
      where
        member : IsMember o fs (difference o r s)
        member = member-same o l fs (difference o (difference o f g) (difference o f r) ++ difference o g s) (difference o r s) (class_exact (poly_ops o) (poly_laws o l) _ _ (
            class-add (poly_ops o) (poly_laws o l) _ _
            ∙ ap₂ (poly_ring o l).add (class-difference o l _ _ ∙ ap₂ (λ x y. (poly_ring o l).add x ((poly_ring o l).neg y)) (class-difference o l f g) (class-difference o l f r)) (class-difference o l g s)
            ∙ moved (poly_ring o l) _ _ _ _ ∙ sym (class-difference o l r s)
            )) (member-add o l fs _ _ (member-subtract o l fs _ _ m p.congruent) q.congruent)

        congruent : InIdeal o l v fs ((poly_ring o l).add (class (poly_ops o) r) ((poly_ring o l).neg (class (poly_ops o) s)))
        congruent = subst (InIdeal o l v fs) (class-difference o l r s) (in_ideal o l v fs (difference o r s) member (first-difference o l v r s rf sf))

    -- a sum is a member exactly where its normal form is zero
    pub normal_form-zero : (fs hs : List (Polynomial E)) → IsListBasis o l v cmp order fs hs → (f r : Polynomial E) → InFirst o l v r → IsNormalForm o cmp fs hs f r → IsMember o fs f → IsTrue (is_zero o r)
    normal_form-zero fs hs b f r rf p m = normal_form-unique fs hs hs b b f f r [] rf (in_variables-of o l v [] refl) (member_zero o l fs (difference o f f) nothing) p zero_form
      where
        nothing : IsSame (poly_ops o) (difference o f f) []
        nothing = class_exact (poly_ops o) (poly_laws o l) _ _ (class-difference o l f f ∙ add_neg (poly_ring o l) _ ∙ sym (class-zero (poly_ops o) (poly_laws o l)))

        whole : {R : Type 0} (𝓡 : CRing R) (x : R) → 𝓡.add x (𝓡.neg 𝓡.zero) ≡ x
        whole 𝓡 x = ring 𝓡 (x ∷ []) (search reading depth 30) refl

        zero_form : IsNormalForm o cmp fs hs f []
        zero_form = record {
          congruent = member-same o l fs f (difference o f []) (class_exact (poly_ops o) (poly_laws o l) _ _ (sym (whole (poly_ring o l) _) ∙ ap (λ x. (poly_ring o l).add (class (poly_ops o) f) ((poly_ring o l).neg x)) (sym (class-zero (poly_ops o) (poly_laws o l))) ∙ sym (class-difference o l f []))) m;
          irreducible = irreducible-where hs [] (λ m e. ap (λ x. (polynomials o l).coefficient x (monomial m)) (class-zero (poly_ops o) (poly_laws o l)) ∙ coefficient-zero (polynomials o l) _);
        }

  -- a sum with normal form zero is a member
  pub zero-member : (fs hs : List (Polynomial E)) (f r : Polynomial E) → IsNormalForm o cmp fs hs f r → IsTrue (is_zero o r) → IsMember o fs f
  zero-member fs hs f r p z = member-same o l fs (difference o f r ++ r) f (class_exact (poly_ops o) (poly_laws o l) _ _ (
      class-add (poly_ops o) (poly_laws o l) _ _ ∙ ap (λ x. (poly_ring o l).add x (class (poly_ops o) r)) (class-difference o l f r) ∙ restored (poly_ring o l) _ _
      )) (member-add o l fs _ _ p.congruent (member_zero o l fs r z))
