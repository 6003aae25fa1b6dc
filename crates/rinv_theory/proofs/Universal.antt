-- The universal property of a ring of polynomials: a map of the coefficients and a map of the monomials give one map of the
-- polynomials, and no other.
--   extend               the additive map with given values at terms: extend-term, extend-add, extend-spell
--   evaluation           the map of rings: evaluation-term
--   agree, agree_parts   two maps are equal where they are so at terms; at constants and at monomials
--   evaluation-unique    a map with the values of `evaluation` at terms is `evaluation`
--   relabel              the monomials by a map of monoids: relabel-term
--   change               each coefficient by a map, each monomial to itself: change-term, change-coefficient, change_injective
use Rattle.std.proofs.Common.{◌≡◌, Bool, true, false, cond, [], ◌∷◌, ◌++◌, refl, sym, ◌∙◌, ap, ap₂}
use mathlib.Core.Logic.{∥∥₁_elim, ∥∥₁_prop}
use mathlib.Core.HLevel.{Σ_prop_path}
use Rattle.rinv_theory.proofs.CRing.{CRing, Hom, hom-zero, compose, add_zero, add_mul, add_cancel, mul_one}
use Rattle.rinv_theory.proofs.Solver.{ring, reading}
use Rattle.rinv_theory.proofs.Monoid.{Monoid, monoid_map-one}
use Rattle.rinv_theory.proofs.TermSums.{Terms, IsAdditive, total, total-append, total-same}
use Rattle.rinv_theory.proofs.TermRing.{TermRing, spell, spell-append, coefficient-spell, terms_ind, split_term, monomial-term, constants, constants-at}

module _ {K M P A : Type 0} {𝓚 : CRing K} {𝓜 : Monoid M} (𝓣 : TermRing 𝓚 𝓜 P) (𝓐 : CRing A) where
  module _ (φ : K → M → A) (φ_add : IsAdditive 𝓚 𝓐 φ) where
    abbrev Image : P → Type 0
    Image x = (a : A) × ∥ ((p : Terms K M) × (spell 𝓣 p ≡ x) × (total 𝓐 φ p ≡ a)) ∥₁

    one_total : (p q : Terms K M) → spell 𝓣 p ≡ spell 𝓣 q → total 𝓐 φ p ≡ total 𝓐 φ q
    one_total p q e = total-same 𝓚 𝓜 𝓐 φ φ_add p q (λ m. sym (coefficient-spell 𝓣 p m) ∙ ap (λ x. 𝓣.coefficient x m) e ∙ coefficient-spell 𝓣 q m)

    image-prop : (x : P) → IsProp (Image x)
    image-prop x a b = Σ_prop_path (λ a. ∥∥₁_prop) (∥∥₁_elim a.1 (𝓐.is_set _ _) (λ p. ∥∥₁_elim b.1 (𝓐.is_set _ _) (λ q. sym p.2 ∙ one_total p.0 q.0 (p.1 ∙ sym q.1) ∙ q.2)))

    image : (x : P) → Image x
    image x = ∥∥₁_elim (𝓣.spelled x) (image-prop x) (λ p. (total 𝓐 φ p.0, ∣ (p.0, p.1, refl) ∣₁))

    -- the sum over the terms, of an element
    pub extend : P → A
    extend x = (image x).0

    -- at a list of terms it is the sum
    pub extend-spell : (p : Terms K M) → extend (spell 𝓣 p) ≡ total 𝓐 φ p
    unfolding extend
    extend-spell p = ∥∥₁_elim (image (spell 𝓣 p)).1 (𝓐.is_set _ _) (λ q. sym q.2 ∙ one_total q.0 p q.1)

    -- at a term it is φ
    pub extend-term : (c : K) (m : M) → extend (𝓣.term c m) ≡ φ c m
    extend-term c m = ap extend (sym (add_zero 𝓣.ring _)) ∙ extend-spell ((m, c) ∷ []) ∙ add_zero 𝓐 _

    -- it is additive
    pub extend-add : (x y : P) → extend (𝓣.ring.add x y) ≡ 𝓐.add (extend x) (extend y)
    extend-add x y = ∥∥₁_elim (𝓣.spelled x) (𝓐.is_set _ _) (λ p. ∥∥₁_elim (𝓣.spelled y) (𝓐.is_set _ _) (λ q.
        ap extend (sym (spell-append 𝓣 p.0 q.0 ∙ ap₂ 𝓣.ring.add p.1 q.1)) ∙ extend-spell (p.0 ++ q.0) ∙ total-append 𝓐 φ p.0 q.0 ∙ ap₂ 𝓐.add (sym (extend-spell p.0) ∙ ap extend p.1) (sym (extend-spell q.0) ∙ ap extend q.1)))

  -- additive maps
  abbrev pub Adds : (P → A) → Type 0
  Adds f = (x y : P) → f (𝓣.ring.add x y) ≡ 𝓐.add (f x) (f y)

  -- an additive map is zero at zero
  pub adds-zero : (f : P → A) → Adds f → f 𝓣.ring.zero ≡ 𝓐.zero
  adds-zero f h = add_cancel 𝓐 _ _ (f 𝓣.ring.zero) (sym (h 𝓣.ring.zero 𝓣.ring.zero) ∙ ap f (𝓣.ring.zero_add 𝓣.ring.zero) ∙ sym (𝓐.zero_add _))

  -- additive maps that agree at terms are equal
  pub agree : (f g : P → A) → Adds f → Adds g → ((c : K) (m : M) → f (𝓣.term c m) ≡ g (𝓣.term c m)) → (x : P) → f x ≡ g x
  agree f g h k e = terms_ind 𝓣 (λ x. f x ≡ g x) (λ x. 𝓐.is_set _ _) (adds-zero f h ∙ sym (adds-zero g k)) (λ c m x i. h _ _ ∙ ap₂ 𝓐.add (e c m) i ∙ sym (k _ _))

  -- maps of rings that agree at constants and at monomials are equal
  pub agree_parts : (f g : Hom 𝓣.ring 𝓐) → ((c : K) → f.at (𝓣.term c 𝓜.one) ≡ g.at (𝓣.term c 𝓜.one)) → ((m : M) → f.at (𝓣.term 𝓚.one m) ≡ g.at (𝓣.term 𝓚.one m)) → (x : P) → f.at x ≡ g.at x
  agree_parts f g h k = agree f.at g.at f.add g.add (λ c m. ap f.at (split_term 𝓣 c m) ∙ f.mul _ _ ∙ ap₂ 𝓐.mul (h c) (k m) ∙ sym (g.mul _ _) ∙ ap g.at (sym (split_term 𝓣 c m)))

  module _ (f : Hom 𝓚 𝓐) (g : M → A) (g_mul : (m n : M) → g (𝓜.mul m n) ≡ 𝓐.mul (g m) (g n)) (g_one : g 𝓜.one ≡ 𝓐.one) where
    abbrev at_term : K → M → A
    at_term c m = 𝓐.mul (f.at c) (g m)

    at_term-additive : IsAdditive 𝓚 𝓐 at_term
    at_term-additive c d m = ap (λ x. 𝓐.mul x (g m)) (f.add c d) ∙ add_mul 𝓐 _ _ _

    abbrev at_all : P → A
    at_all x = extend at_term at_term-additive x

    at_all-term : (c : K) (m : M) → at_all (𝓣.term c m) ≡ at_term c m
    at_all-term c m = extend-term at_term at_term-additive c m

    at_all-add : Adds at_all
    at_all-add = extend-add at_term at_term-additive

    by_term : (c : K) (m : M) (y : P) → at_all (𝓣.ring.mul (𝓣.term c m) y) ≡ 𝓐.mul (at_term c m) (at_all y)
    by_term c m = agree (λ y. at_all (𝓣.ring.mul (𝓣.term c m) y)) (λ y. 𝓐.mul (at_term c m) (at_all y))
        (λ x y. ap at_all (𝓣.ring.mul_add _ x y) ∙ at_all-add _ _)
        (λ x y. ap (𝓐.mul (at_term c m)) (at_all-add x y) ∙ 𝓐.mul_add _ _ _)
        (λ d n. ap at_all (𝓣.term_mul c d m n) ∙ at_all-term _ _ ∙ ap₂ 𝓐.mul (f.mul c d) (g_mul m n) ∙ turned (f.at c) (f.at d) (g m) (g n) ∙ ap (𝓐.mul (at_term c m)) (sym (at_all-term d n)))
      where
        turned : (a b x y : A) → 𝓐.mul (𝓐.mul a b) (𝓐.mul x y) ≡ 𝓐.mul (𝓐.mul a x) (𝓐.mul b y)
        turned a b x y = ring 𝓐 (a ∷ b ∷ x ∷ y ∷ []) (search reading depth 30) refl

    -- the map of rings with these coefficients and monomials
    pub evaluation : Hom 𝓣.ring 𝓐
    evaluation = record {
      at = at_all;
      add = at_all-add;
      mul = λ x y. agree (λ x. at_all (𝓣.ring.mul x y)) (λ x. 𝓐.mul (at_all x) (at_all y)) (λ a b. ap at_all (add_mul 𝓣.ring a b y) ∙ at_all-add _ _) (λ a b. ap (λ z. 𝓐.mul z (at_all y)) (at_all-add a b) ∙ add_mul 𝓐 _ _ _) (λ c m. by_term c m y ∙ ap (λ z. 𝓐.mul z (at_all y)) (sym (at_all-term c m))) x;
      one = ap at_all (sym 𝓣.term_one) ∙ at_all-term _ _ ∙ ap₂ 𝓐.mul f.one g_one ∙ mul_one 𝓐 _;
    }

    -- its value at a term
    pub evaluation-term : (c : K) (m : M) → evaluation.at (𝓣.term c m) ≡ 𝓐.mul (f.at c) (g m)
    unfolding evaluation
    evaluation-term c m = at_all-term c m

    -- no other map of rings has these values at terms
    pub evaluation-unique : (h : Hom 𝓣.ring 𝓐) → ((c : K) (m : M) → h.at (𝓣.term c m) ≡ 𝓐.mul (f.at c) (g m)) → (x : P) → h.at x ≡ evaluation.at x
    evaluation-unique h e = agree h.at evaluation.at h.add evaluation.add (λ c m. e c m ∙ sym (evaluation-term c m))

-- the polynomials over one ring as polynomials over another
module _ {K L M P R : Type 0} {𝓚 : CRing K} {𝓛 : CRing L} {𝓜 : Monoid M} (𝓣 : TermRing 𝓚 𝓜 P) (𝓡 : TermRing 𝓛 𝓜 R) (φ : Hom 𝓚 𝓛) where
  -- each coefficient by a map, each monomial to itself
  pub change : Hom 𝓣.ring 𝓡.ring
  change = evaluation 𝓣 𝓡.ring (compose (constants 𝓡) φ) (λ m. 𝓡.term 𝓛.one m) (λ m n. sym (monomial-term 𝓡 m n 𝓛.one)) 𝓡.term_one

  -- its value at a term
  pub change-term : (c : K) (m : M) → change.at (𝓣.term c m) ≡ 𝓡.term (φ.at c) m
  unfolding change compose
  change-term c m =
      evaluation-term 𝓣 𝓡.ring (compose (constants 𝓡) φ) (λ m. 𝓡.term 𝓛.one m) (λ m n. sym (monomial-term 𝓡 m n 𝓛.one)) 𝓡.term_one c m
      ∙ ap (λ x. 𝓡.ring.mul x (𝓡.term 𝓛.one m)) (constants-at 𝓡 (φ.at c)) ∙ sym (split_term 𝓡 (φ.at c) m)

  -- the coefficients of an image are the images of the coefficients
  pub change-coefficient : (x : P) (e : M) → 𝓡.coefficient (change.at x) e ≡ φ.at (𝓣.coefficient x e)
  change-coefficient x e =
      agree 𝓣 𝓛 (λ x. 𝓡.coefficient (change.at x) e) (λ x. φ.at (𝓣.coefficient x e)) (λ x y. ap (λ z. 𝓡.coefficient z e) (change.add x y) ∙ 𝓡.coefficient_add _ _ e) (λ x y. ap φ.at (𝓣.coefficient_add x y e) ∙ φ.add _ _)
      (λ c m. ap (λ z. 𝓡.coefficient z e) (change-term c m) ∙ 𝓡.coefficient_term _ m e ∙ go c (𝓜.same m e) ∙ ap φ.at (sym (𝓣.coefficient_term c m e))) x
    where
      go : (c : K) (b : Bool) → cond b (φ.at c) 𝓛.zero ≡ φ.at (cond b c 𝓚.zero)
      go c true = refl
      go c false = sym (hom-zero φ)

  -- where different coefficients have different images, so have different polynomials
  pub change_injective : ((c d : K) → φ.at c ≡ φ.at d → c ≡ d) → (x y : P) → change.at x ≡ change.at y → x ≡ y
  change_injective h x y e = 𝓣.coefficient_ext x y (λ m. h _ _ (sym (change-coefficient x m) ∙ ap (λ z. 𝓡.coefficient z m) e ∙ change-coefficient y m))

-- the monomials by a map of monoids, each coefficient to itself
module _ {K M N P R : Type 0} {𝓚 : CRing K} {𝓜 : Monoid M} {𝓝 : Monoid N} (𝓣 : TermRing 𝓚 𝓜 P) (𝓡 : TermRing 𝓚 𝓝 R) (h : M → N) (h_mul : (m n : M) → h (𝓜.mul m n) ≡ 𝓝.mul (h m) (h n)) where
  relabelled-mul : (m n : M) → 𝓡.term 𝓚.one (h (𝓜.mul m n)) ≡ 𝓡.ring.mul (𝓡.term 𝓚.one (h m)) (𝓡.term 𝓚.one (h n))
  relabelled-mul m n = ap (𝓡.term 𝓚.one) (h_mul m n) ∙ sym (monomial-term 𝓡 (h m) (h n) 𝓚.one)

  relabelled-one : 𝓡.term 𝓚.one (h 𝓜.one) ≡ 𝓡.ring.one
  relabelled-one = ap (𝓡.term 𝓚.one) (monoid_map-one 𝓜 𝓝 h h_mul) ∙ 𝓡.term_one

  -- the map of the polynomials
  pub relabel : Hom 𝓣.ring 𝓡.ring
  relabel = evaluation 𝓣 𝓡.ring (constants 𝓡) (λ m. 𝓡.term 𝓚.one (h m)) relabelled-mul relabelled-one

  -- its value at a term
  pub relabel-term : (c : K) (m : M) → relabel.at (𝓣.term c m) ≡ 𝓡.term c (h m)
  unfolding relabel
  relabel-term c m = evaluation-term 𝓣 𝓡.ring (constants 𝓡) (λ m. 𝓡.term 𝓚.one (h m)) relabelled-mul relabelled-one c m ∙ ap (λ x. 𝓡.ring.mul x (𝓡.term 𝓚.one (h m))) (constants-at 𝓡 c) ∙ sym (split_term 𝓡 c (h m))
