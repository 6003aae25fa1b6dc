-- The steps of a division are determined, and with them the rest: by the coefficients of the polynomial and of the list.
--   step_unique          the next step
--   division_unique      all steps, and the rest
use Rattle.std.proofs.Common.{◌≡◌, ◌⊎◌, ℕ, zero, suc, List, [], ◌∷◌, length, get_or, refl, sym, ◌∙◌, ap, ap₂, ◌||◌, inl, inr, IsTrue, true≢false}
use Rattle.std.specs.Prelude.{IsFalse}
use Rattle.std.specs.declared.cmp.Ordering.{Ordering}
use Rattle.std.proofs.lemmas.Bool.{cases_order}
use Rattle.rinv_algebra.specs.Ring.{RingOps, RingLaws, FieldLaws, IsSame}
use Rattle.rinv_algebra.specs.Polynomial.{Polynomial, poly_ops, coefficient, has_monomial, is_zero}
use Rattle.rinv_algebra.specs.Leading.{leading_monomial, leading_coefficient}
use Rattle.rinv_algebra.proofs.MonomialLaws.{same_monomial_refl}
use Rattle.rinv_algebra.proofs.PolynomialLaws.{poly_laws}
use Rattle.rinv_algebra.proofs.Degrees.{has_monomial-same}
use Rattle.rinv_algebra.proofs.RingFacts as facts
use Rattle.rinv_theory.proofs.CRing.{CRing}
use Rattle.rinv_theory.proofs.Classes.{class, class_ring, class_sound, class_exact, class-mul}
use Rattle.rinv_theory.proofs.Monoid.{IsOne, monomial, monomials, monomial_exact}
use Rattle.rinv_theory.proofs.Polynomials.{polynomials, poly_ring, term_at, class-coefficient}
use Rattle.rinv_groebner.specs.Orders.{OrdersMonomials}
use Rattle.rinv_groebner.specs.Division.{Step, lead_divides, is_reducible, IsIrreducible, IsNext, IsStep, IsSameStep, AreSameSteps, AreSame, IsDivision}
use Rattle.rinv_groebner.proofs.Greatest.{ge-not_less}
use Rattle.rinv_groebner.proofs.Compared.{all_monomials, InFirst, below_less, has_front}
use Rattle.rinv_groebner.proofs.ListElements.{AllFirst, list_elements}
use Rattle.rinv_groebner.proofs.Reducible.{divides-parts, divisor_reducible, lead-same, lead_divides-same}
use Rattle.rinv_groebner.proofs.StepClasses.{step_divisor, step-class, step-first}
use Rattle.rinv_groebner.proofs.Paths.{Path, steps_path}

-- lists that are the same have the same elements
pub same-at : {E : Type 0} (o : RingOps E) (l : RingLaws o) (hs gs : List (Polynomial E)) → AreSame o hs gs → (k : ℕ) → IsSame (poly_ops o) (get_or hs k []) (get_or gs k [])
same-at o l [] [] s zero = (poly_laws o l).same_refl []
same-at o l [] [] s (suc k) = (poly_laws o l).same_refl []
same-at o l [] (g ∷ gs) s k = absurd s
same-at o l (h ∷ hs) [] s k = absurd s
same-at o l (h ∷ hs) (g ∷ gs) s zero = s.0
same-at o l (h ∷ hs) (g ∷ gs) s (suc k) = same-at o l hs gs s.1 k

-- and are as long
pub same-length : {E : Type 0} (o : RingOps E) (hs gs : List (Polynomial E)) → AreSame o hs gs → length hs ≡ length gs
same-length o [] [] s = refl
same-length o [] (g ∷ gs) s = absurd s
same-length o (h ∷ hs) [] s = absurd s
same-length o (h ∷ hs) (g ∷ gs) s = ap suc (same-length o hs gs s.1)

-- a factor with an inverse cancels
factor_cancels : {R : Type 0} (𝓡 : CRing R) (c d x y : R) → 𝓡.mul y x ≡ 𝓡.one → 𝓡.mul c x ≡ 𝓡.mul d x → c ≡ d
factor_cancels {R = R} 𝓡 c d x y inverse e = sym (back c) ∙ ap (λ z. 𝓡.mul y z) e ∙ back d
  where
    back : (c : R) → 𝓡.mul y (𝓡.mul c x) ≡ c
    back c = ap (𝓡.mul y) (𝓡.mul_comm c x) ∙ sym (𝓡.mul_assoc y x c) ∙ ap (λ z. 𝓡.mul z c) inverse ∙ 𝓡.one_mul c

module _ {E : Type 0} (o : RingOps E) (l : RingLaws o) (field : FieldLaws o) (cmp : List ℕ → List ℕ → Ordering) (v : ℕ) (order : OrdersMonomials cmp v) (hs gs : List (Polynomial E)) (first : AllFirst o l v hs) (alike : AreSame o hs gs) where
  reducible-same : (hs gs : List (Polynomial E)) → AllFirst o l v hs → AreSame o hs gs → (m : List ℕ) → is_reducible o cmp hs m ≡ is_reducible o cmp gs m
  reducible-same [] [] r s m = refl
  reducible-same [] (g ∷ gs) r s m = absurd s
  reducible-same (h ∷ hs) [] r s m = absurd s
  reducible-same (h ∷ hs) (g ∷ gs) r s m = ap₂ ◌||◌ (lead_divides-same o cmp l v order h g m m (r 0) s.0 (same_monomial_refl m)) (reducible-same hs gs (λ k. r (suc k)) s.1 m)

  -- what is reducible by the one list is so by the other
  pub reducible_too : (m : List ℕ) → is_reducible o cmp hs m ≡ is_reducible o cmp gs m
  reducible_too m = reducible-same hs gs first alike m

  module _ (f g : Polynomial E) (f_first : InFirst o l v f) (e : IsSame (poly_ops o) f g) where
    next_monomial : (m n : List ℕ) (p q : ℕ) → IsNext o cmp hs f m p → IsNext o cmp gs g n q → monomial m ≡ monomial n
    next_monomial m n p q x y = go ((all_monomials cmp v order).total (monomial m) (monomial n))
      where
        n_has : IsTrue (has_monomial o f n)
        n_has = has_monomial-same o l f g e n ∙ y.has

        m_has : IsTrue (has_monomial o g m)
        m_has = sym (has_monomial-same o l f g e m) ∙ x.has

        n_red : IsTrue (is_reducible o cmp hs n)
        n_red = reducible_too n ∙ divisor_reducible o cmp gs n q y.inside y.divides

        m_red : IsTrue (is_reducible o cmp gs m)
        m_red = sym (reducible_too m) ∙ divisor_reducible o cmp hs m p x.inside x.divides

        go : (all_monomials cmp v order).below (monomial m) (monomial n) ⊎ (monomial m ≡ monomial n) ⊎ (all_monomials cmp v order).below (monomial n) (monomial m) → monomial m ≡ monomial n
        go (inl h) = absurd (ge-not_less cmp order.laws.total m n (x.greatest n n_has n_red) (below_less cmp v order m n (has_front o l v f f_first m x.has) (has_front o l v f f_first n n_has) h))
        go (inr (inl i)) = i
        go (inr (inr h)) = absurd (ge-not_less cmp order.laws.total n m (y.greatest m m_has m_red) (below_less cmp v order n m (has_front o l v f f_first n n_has) (has_front o l v f f_first m x.has) h))

    divides_too : (m n : List ℕ) (k : ℕ) → IsOne m n → lead_divides o cmp (get_or hs k []) m ≡ lead_divides o cmp (get_or gs k []) n
    divides_too m n k i = lead_divides-same o cmp l v order (get_or hs k []) (get_or gs k []) m n (first k) (same-at o l hs gs alike k) i

    next_place : (m n : List ℕ) (p q : ℕ) → IsOne m n → IsNext o cmp hs f m p → IsNext o cmp gs g n q → p ≡ q
    next_place m n p q i x y = elim (cases_order p q) [
      | inl same ↦ same
      | inr (inl below) ↦ absurd (true≢false (sym x.divides ∙ divides_too m n p i ∙ y.first p below))
      | inr (inr above) ↦ absurd (true≢false (sym y.divides ∙ sym (divides_too m n q i) ∙ x.first q above))
    ]

    -- the next step is determined
    pub step_unique : (s t : Step E) (left other : Polynomial E) → IsStep o cmp hs f s left → IsStep o cmp gs g t other → IsSameStep o s t × IsSame (poly_ops o) left other
    step_unique s t left other x y = (record { place = places; monomial = monomial_exact _ _ multipliers; coefficient = class_exact o l _ _ factors }, class_exact (poly_ops o) (poly_laws o l) left other lefts)
      where
        h : Polynomial E
        h = get_or hs s.place []

        k : Polynomial E
        k = get_or gs t.place []

        cancelled : monomial x.cancelled ≡ monomial y.cancelled
        cancelled = next_monomial x.cancelled y.cancelled s.place t.place x.next y.next

        places : s.place ≡ t.place
        places = next_place x.cancelled y.cancelled s.place t.place (monomial_exact _ _ cancelled) x.next y.next

        polynomials_equal : class (poly_ops o) f ≡ class (poly_ops o) g
        polynomials_equal = class_sound (poly_ops o) (poly_laws o l) f g e

        elements : class (poly_ops o) h ≡ class (poly_ops o) k
        elements = class_sound (poly_ops o) (poly_laws o l) _ _ (same-at o l hs gs alike s.place) ∙ ap (λ (p : ℕ). class (poly_ops o) (get_or gs p [])) places

        nonzero : IsFalse (is_zero o h)
        nonzero = (divides-parts o cmp h x.cancelled x.next.divides).0

        leads : monomial (leading_monomial o cmp h) ≡ monomial (leading_monomial o cmp k)
        leads = lead-same o cmp l v order h k (first s.place) (class_exact (poly_ops o) (poly_laws o l) h k elements) nonzero

        multipliers : monomial s.multiplier.0 ≡ monomial t.multiplier.0
        multipliers = monomials.cancel (monomial (leading_monomial o cmp h)) _ _ (
            monomials.mul_comm _ _ ∙ step_divisor o l cmp x ∙ cancelled ∙ sym (step_divisor o l cmp y) ∙ ap (monomials.mul (monomial t.multiplier.0)) (sym leads) ∙ monomials.mul_comm _ _)

        lead_coefficients : class o (leading_coefficient o cmp h) ≡ class o (leading_coefficient o cmp k)
        lead_coefficients = sym (class-coefficient o l h (leading_monomial o cmp h)) ∙ ap₂ (polynomials o l).coefficient elements leads ∙ class-coefficient o l k (leading_monomial o cmp k)

        targets : class o (coefficient o f x.cancelled) ≡ class o (coefficient o g y.cancelled)
        targets = sym (class-coefficient o l f x.cancelled) ∙ ap₂ (polynomials o l).coefficient polynomials_equal cancelled ∙ class-coefficient o l g y.cancelled

        factors : class o s.multiplier.1 ≡ class o t.multiplier.1
        factors = factor_cancels (class_ring o l) _ _ (class o (leading_coefficient o cmp h)) ((list_elements o l field cmp v order hs first).inverse (s.place, nonzero)) ((list_elements o l field cmp v order hs first).inverse_mul (s.place, nonzero)) (
            sym (class-mul o l _ _) ∙ class_sound o l _ _ x.coefficient ∙ targets ∙ sym (class_sound o l _ _ y.coefficient) ∙ class-mul o l _ _ ∙ ap ((class_ring o l).mul (class o t.multiplier.1)) (sym lead_coefficients))

        lefts : class (poly_ops o) left ≡ class (poly_ops o) other
        lefts =
            step-class o l cmp x
            ∙ ap₂ (λ a b. (poly_ring o l).add a ((poly_ring o l).neg b)) polynomials_equal (ap₂ (poly_ring o l).mul (ap₂ (term_at o l) factors multipliers) elements)
            ∙ sym (step-class o l cmp y)

  -- a polynomial with a next step is not irreducible
  next_not_irreducible : (f g : Polynomial E) → IsSame (poly_ops o) f g → (m : List ℕ) (p : ℕ) → IsNext o cmp gs g m p → IsIrreducible o cmp hs f → ⊥
  next_not_irreducible f g e m p n irreducible = true≢false (sym (reducible_too m ∙ divisor_reducible o cmp gs m p n.inside n.divides) ∙ irreducible m (has_monomial-same o l f g e m ∙ n.has))

  next_not_irreducible_other : (f g : Polynomial E) → IsSame (poly_ops o) f g → (m : List ℕ) (p : ℕ) → IsNext o cmp hs f m p → IsIrreducible o cmp gs g → ⊥
  next_not_irreducible_other f g e m p n irreducible = true≢false (sym (sym (reducible_too m) ∙ divisor_reducible o cmp hs m p n.inside n.divides) ∙ irreducible m (sym (has_monomial-same o l f g e m) ∙ n.has))

  chained : (f g left other : Polynomial E) → IsSame (poly_ops o) f g → IsSame (poly_ops o) left f → IsSame (poly_ops o) other g → IsSame (poly_ops o) left other
  chained f g left other e a b = facts.then (poly_ops o) (poly_laws o l) a (facts.then (poly_ops o) (poly_laws o l) e (facts.back (poly_ops o) (poly_laws o l) b))

  paths_unique : {f g left other : Polynomial E} {steps others : List (Step E)} → Path o cmp hs f steps left → Path o cmp gs g others other → InFirst o l v f → IsSame (poly_ops o) f g → IsIrreducible o cmp hs left → IsIrreducible o cmp gs other
      → AreSameSteps o steps others × IsSame (poly_ops o) left other
  paths_unique (Path.stay {f} {left} a) (Path.stay {f = g} {left = other} b) r e i j = (tt, chained f g left other e a b)
  paths_unique (Path.stay {f} {left} a) (Path.take {f = g} t q) r e i j = absurd (next_not_irreducible left g (facts.then (poly_ops o) (poly_laws o l) a e) t.cancelled _ t.next i)
  paths_unique (Path.take {f} t p) (Path.stay {f = g} {left = other} b) r e i j = absurd (next_not_irreducible_other f other (facts.then (poly_ops o) (poly_laws o l) e (facts.back (poly_ops o) (poly_laws o l) b)) t.cancelled _ t.next j)
  paths_unique (Path.take {f} {mid} {s = s} t p) (Path.take {f = g} {mid = between} {s = u} w q) r e i j =
      let one = step_unique f g r e s u mid between t w in
      let rest = paths_unique p q (step-first o l cmp t v order first r) one.1 i j in
      ((one.0, rest.0), rest.1)

  -- all steps of a division are determined, and so is the rest
  pub division_unique : (f g left other : Polynomial E) (steps others : List (Step E)) → InFirst o l v f → IsSame (poly_ops o) f g → IsDivision o cmp hs f steps left → IsDivision o cmp gs g others other
      → AreSameSteps o steps others × IsSame (poly_ops o) left other
  division_unique f g left other steps others r e x y = paths_unique (steps_path o cmp hs l x.by_steps) (steps_path o cmp gs l y.by_steps) r e x.irreducible y.irreducible
