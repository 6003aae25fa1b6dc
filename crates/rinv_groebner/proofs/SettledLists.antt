-- The pairs of a list of polynomials that are settled are good.
--   pair_cases           a pair in a list of pairs is the first, in either order, or behind it
--   nonzero_at           the places of a list without zero
--   settled-good-list    settled pairs are good
--   settled_basis        a list whose pairs are settled is a Gröbner basis
--   all-good             where all pairs of places are good in ascending order, all are
use Rattle.std.proofs.Common.{◌≡◌, ◌⊎◌, ℕ, zero, suc, ◌<◌, Bool, true, false, not, List, [], ◌∷◌, length, get_or, refl, sym, ◌∙◌, ap, ap₂, subst, subst₂, ◌+◌, inl, inr, arith, IsTrue, true≢false}
use Rattle.std.specs.Prelude.{IsFalse, ◌||◌, min, max, zip}
use Rattle.std.specs.List.{list_all}
use Rattle.std.specs.declared.cmp.Ordering.{Ordering}
use Rattle.std.proofs.lemmas.Bool.{cases_Bool, cases_order}
use Rattle.std.proofs.lemmas.Bool.Decides.{nat_tests}
use Rattle.rinv_algebra.specs.Ring.{RingOps, RingLaws, FieldLaws}
use Rattle.rinv_algebra.specs.Monomial.{monomial_product}
use Rattle.rinv_algebra.specs.Polynomial.{Polynomial, poly_ops, is_zero}
use Rattle.rinv_algebra.specs.Normal.{is_in_variables}
use Rattle.rinv_algebra.specs.Ideal.{combination}
use Rattle.rinv_algebra.specs.Leading.{leading_monomial}
use Rattle.rinv_algebra.proofs.PolynomialLaws.{poly_laws}
use Rattle.rinv_algebra.proofs.Same.{both}
use Rattle.rinv_theory.proofs.CRing.{zero_mul}
use Rattle.rinv_theory.proofs.Classes.{Class, class, class_sound, class-zero}
use Rattle.rinv_theory.proofs.Monoid.{Monomial, monomial, monomials, monomial-mul}
use Rattle.rinv_theory.proofs.Polynomials.{polynomials, poly_ring}
use Rattle.rinv_theory.proofs.Of.{of-weaken}
use Rattle.rinv_theory.proofs.Members.{combination-cons}
use Rattle.rinv_theory.proofs.Places.{front-mul}
use Rattle.rinv_theory.proofs.Variables.{IsFront, in_variables-of}
use Rattle.rinv_theory.proofs.Leads.{IsUpTo, lead-of, upto-from, upto-below, mul-upto}
use Rattle.rinv_groebner.specs.Orders.{OrdersMonomials}
use Rattle.rinv_groebner.specs.Basis.{AreNonzero, IsGroebnerBasis}
use Rattle.rinv_groebner.specs.Settled.{is_listed, lcm_at, stays_below, HasQuotients, HasChain, AreCoprime, AreSettled, AreAllListed}
use Rattle.rinv_groebner.proofs.Multiples.{Multiples, multiples-add, multiples-element}
use Rattle.rinv_groebner.proofs.Elements.{IsBelow}
use Rattle.rinv_groebner.proofs.Pairs.{IsGood, good_self, good_sym}
use Rattle.rinv_groebner.proofs.Compared.{all_monomials, InFirst, nonzero-front, class_leads, less_below}
use Rattle.rinv_groebner.proofs.ListElements.{AllFirst, Place, list_elements}
use Rattle.rinv_groebner.proofs.Reducible.{place-inside}
use Rattle.rinv_groebner.proofs.Falls.{is-less}
use Rattle.rinv_groebner.proofs.GoodPairs.{place_equal}
use Rattle.rinv_groebner.proofs.ListBases.{good-list_basis}
use Rattle.rinv_groebner.proofs.PairsOfLists.{quotients-good, coprime-good, chain-good, lcm_front}

-- a pair in a list of pairs is the first, in either order, or behind it
pub pair_cases : (i j a b : ℕ) (pairs : List (ℕ × ℕ)) → IsTrue (is_listed ((i, j) ∷ pairs) a b) → ((a ≡ i) × (b ≡ j)) ⊎ ((a ≡ j) × (b ≡ i)) ⊎ IsTrue (is_listed pairs a b)
pair_cases i j a b pairs h = elim (cases_Bool (is_listed pairs a b)) [
  | inl later ↦ inr (inr later)
  | inr off ↦
      let here : (i ≡ min a b) × (j ≡ max a b) = grind (arith, nat_tests, h, off) in
      elim (cases_order a b) [
        | inl same ↦ inl (omega (arith, here.0, same), omega (arith, here.1, same))
        | inr (inl below) ↦ inl (omega (arith, here.0, below), omega (arith, here.1, below))
        | inr (inr above) ↦ inr (inl (omega (arith, here.1, above), omega (arith, here.0, above)))
      ]
]

-- the places of a list without zero
pub nonzero_at : {E : Type 0} (o : RingOps E) (hs : List (Polynomial E)) → AreNonzero o hs → (k : ℕ) → k < length hs → IsFalse (is_zero o (get_or hs k []))
nonzero_at o [] h k low = absurd (omega arith)
nonzero_at o (f ∷ hs) h zero low = let p = (both (not (is_zero o f)) _ h).0 in grind (arith, nat_tests, p)
nonzero_at o (f ∷ hs) h (suc k) low = nonzero_at o hs (both (not (is_zero o f)) _ h).1 k (omega arith)

first_of_either : (a b : Bool) → a ≡ false → (a || b) ≡ true → b ≡ true
first_of_either a b e h = grind (arith, nat_tests, e, h)

module _ {E : Type 0} (o : RingOps E) (l : RingLaws o) (field : FieldLaws o) (cmp : List ℕ → List ℕ → Ordering) (v : ℕ) (order : OrdersMonomials cmp v) (hs : List (Polynomial E)) (first : AllFirst o l v hs) where
  abbrev BelowIn : Monomial → Class (poly_ops o) → Type 0
  BelowIn m x = IsBelow (list_elements o l field cmp v order hs first) m x

  abbrev Good : Place o hs → Place o hs → Type 0
  Good x y = IsGood (list_elements o l field cmp v order hs first) x y

  -- a quotient times an element stays below
  one_below : (q : Polynomial E) → InFirst o l v q → (p : Place o hs) (m : List ℕ) → IsFront v (monomial m) → IsTrue (stays_below o cmp v hs m (q, get_or hs p.0 [])) → BelowIn (monomial m) ((poly_ring o l).mul (class (poly_ops o) q) (class (poly_ops o) (get_or hs p.0 [])))
  one_below q r p m fm h = go (is_zero o q) refl
    where
      g : Polynomial E
      g = get_or hs p.0 []

      vanishes : is_zero o q ≡ true → (poly_ring o l).zero ≡ (poly_ring o l).mul (class (poly_ops o) q) (class (poly_ops o) g)
      vanishes e = sym (ap (λ x. (poly_ring o l).mul x (class (poly_ops o) g)) (class_sound (poly_ops o) (poly_laws o l) q [] e ∙ class-zero (poly_ops o) (poly_laws o l)) ∙ zero_mul (poly_ring o l) _)

      front_lead : (f : Polynomial E) → InFirst o l v f → IsFalse (is_zero o f) → IsFront v (monomial (leading_monomial o cmp f))
      front_lead f r n = nonzero-front o l v r (monomial (leading_monomial o cmp f)) (class_leads o l v cmp order f r n).nonzero

      product_below : (n : is_zero o q ≡ false) → (all_monomials cmp v order).below (monomials.mul (monomial (leading_monomial o cmp q)) (monomial (leading_monomial o cmp g))) (monomial m)
      product_below n = subst (λ x. (all_monomials cmp v order).below x (monomial m)) (monomial-mul _ _)
          (less_below cmp v order (monomial_product (leading_monomial o cmp q) (leading_monomial o cmp g)) m
          (subst (IsFront v) (sym (monomial-mul _ _)) (front-mul v _ _ ∙ ap₂ monomials.mul (front_lead q r n) (front_lead g (first p.0) p.1)))
          fm (is-less _ (first_of_either (is_zero o q) _ n h)))

      reaches : (n : is_zero o q ≡ false) (k : Monomial) → IsUpTo (all_monomials cmp v order) k (monomial (leading_monomial o cmp q)) → (all_monomials cmp v order).below (monomials.mul k (monomial (leading_monomial o cmp g))) (monomial m)
      reaches n k u = upto-below (all_monomials cmp v order) _ _ _ (subst₂ (IsUpTo (all_monomials cmp v order)) (monomials.mul_comm _ _) (monomials.mul_comm _ _) (mul-upto (all_monomials cmp v order) (monomial (leading_monomial o cmp g)) k _ u)) (product_below n)

      go : (b : Bool) → is_zero o q ≡ b → BelowIn (monomial m) ((poly_ring o l).mul (class (poly_ops o) q) (class (poly_ops o) g))
      go true e = subst (BelowIn (monomial m)) (vanishes e) Multiples.none
      go false n = multiples-element (polynomials o l) (list_elements o l field cmp v order hs first).element (list_elements o l field cmp v order hs first).lead {Q = λ k. IsUpTo (all_monomials cmp v order) k (monomial (leading_monomial o cmp q))} p (reaches n)
          (of-weaken (polynomials o l) (λ k t. upto-from (all_monomials cmp v order) k (monomial (leading_monomial o cmp q)) t.1) (lead-of (polynomials o l) (all_monomials cmp v order) (class_leads o l v cmp order q r n) r))

  module _ (nonzero : AreNonzero o hs) where
    -- and so does the sum; the elements stand in the list from place k on
    sum_below : (qs gs : List (Polynomial E)) (k : ℕ) → k + length gs ≡ length hs → ((j : ℕ) → get_or gs j [] ≡ get_or hs (k + j) []) → (m : List ℕ) → IsFront v (monomial m) → IsTrue (list_all (is_in_variables v) qs) → IsTrue (list_all (stays_below o cmp v hs m) (zip qs gs)) → BelowIn (monomial m) (class (poly_ops o) (combination o qs gs))
    unfolding combination
    sum_below [] gs k len at m fm r h = subst (BelowIn (monomial m)) (sym (class-zero (poly_ops o) (poly_laws o l))) Multiples.none
    sum_below (q ∷ qs) [] k len at m fm r h = subst (BelowIn (monomial m)) (sym (class-zero (poly_ops o) (poly_laws o l))) Multiples.none
    sum_below (q ∷ qs) (g ∷ gs) k len at m fm r h =
        let parts = both (stays_below o cmp v hs m (q, g)) _ h in
        let written = both (is_in_variables v q) _ r in
        let here : g ≡ get_or hs k [] = at 0 ∙ ap (λ (j : ℕ). get_or hs j []) (omega arith) in
        let p : Place o hs = (k, nonzero_at o hs nonzero k (omega (arith, len))) in
        subst (BelowIn (monomial m)) (ap (λ x. (poly_ring o l).add ((poly_ring o l).mul (class (poly_ops o) q) (class (poly_ops o) x)) (class (poly_ops o) (combination o qs gs))) (sym here) ∙ sym (combination-cons o l q g qs gs))
        (multiples-add (polynomials o l) (list_elements o l field cmp v order hs first).element (list_elements o l field cmp v order hs first).lead
        (one_below q (in_variables-of o l v q written.0) p m fm (subst (λ (x : Polynomial E). IsTrue (stays_below o cmp v hs m (q, x))) here parts.0))
        (sum_below qs gs (suc k) (omega (arith, len)) (λ j. at (suc j) ∙ ap (λ (j : ℕ). get_or hs j []) (omega arith)) m fm written.1 parts.1))

    from_start : (j : ℕ) → get_or hs j [] ≡ get_or hs (0 + j) []
    from_start j = ap (λ (j : ℕ). get_or hs j []) (omega arith)

    quotients_settle : (x y : Place o hs) (qs : List (Polynomial E)) → HasQuotients o cmp v hs x.0 y.0 qs → Good x y
    quotients_settle x y qs q = quotients-good o l field cmp v order hs first x y
        (subst (BelowIn (monomial (lcm_at o cmp hs x.0 y.0))) (sym (class_sound (poly_ops o) (poly_laws o l) _ _ q.sums_up)) (sum_below qs hs 0 (omega arith) from_start (lcm_at o cmp hs x.0 y.0) (lcm_front o l field cmp v order hs first x y) q.in_variables q.below))

    -- what a pair more adds: the places are i and j in either order, or the pair is behind it
    pair_more : (i j : ℕ) (pairs : List (ℕ × ℕ)) → ((x y : Place o hs) → x.0 ≡ i → y.0 ≡ j → Good x y) → ((x y : Place o hs) → IsTrue (is_listed pairs x.0 y.0) → Good x y) → (x y : Place o hs) → IsTrue (is_listed ((i, j) ∷ pairs) x.0 y.0) → Good x y
    pair_more i j pairs one rest x y h = elim (pair_cases i j x.0 y.0 pairs h) [
      | inl e ↦ one x y e.0 e.1
      | inr (inl e) ↦ good_sym (list_elements o l field cmp v order hs first) y x (one y x e.1 e.0)
      | inr (inr later) ↦ rest x y later
    ]

    chain_settles : (pairs : List (ℕ × ℕ)) → ((x y : Place o hs) → IsTrue (is_listed pairs x.0 y.0) → Good x y) → (x y : Place o hs) (by : ℕ) → HasChain o cmp hs pairs x.0 y.0 by → Good x y
    chain_settles pairs rest x y by h =
        let z : Place o hs = (by, nonzero_at o hs nonzero by h.inside) in
        chain-good o l field cmp v order hs first x y z h.divides (rest x z h.with_first) (rest z y h.with_second)

    -- settled pairs are good
    pub settled-good-list : {pairs : List (ℕ × ℕ)} → AreSettled o cmp v hs pairs → (x y : Place o hs) → IsTrue (is_listed pairs x.0 y.0) → Good x y
    settled-good-list AreSettled.none x y h = absurd (true≢false (sym h))
    settled-good-list (AreSettled.by_quotients pairs i j qs s low high q) x y h = pair_more i j pairs (λ x y e e'. quotients_settle x y qs (subst₂ (λ (a b : ℕ). HasQuotients o cmp v hs a b qs) (sym e) (sym e') q)) (settled-good-list s) x y h
    settled-good-list (AreSettled.by_coprime pairs i j s low high q) x y h = pair_more i j pairs (λ x y e e'. coprime-good o l field cmp v order hs first x y (subst₂ (AreCoprime o cmp hs) (sym e) (sym e') q)) (settled-good-list s) x y h
    settled-good-list (AreSettled.by_chain pairs i j by s low high q) x y h = pair_more i j pairs (λ x y e e'. chain_settles pairs (settled-good-list s) x y by (subst₂ (λ (a b : ℕ). HasChain o cmp hs pairs a b by) (sym e) (sym e') q)) (settled-good-list s) x y h

  -- where all pairs of places are good in ascending order, all are
  pub all-good : ((x y : Place o hs) → x.0 < y.0 → Good x y) → (x y : Place o hs) → Good x y
  all-good h x y = elim (cases_order x.0 y.0) [
    | inl same ↦ subst (Good x) (place_equal o hs x y same) (good_self (list_elements o l field cmp v order hs first) x)
    | inr (inl below) ↦ h x y below
    | inr (inr above) ↦ good_sym (list_elements o l field cmp v order hs first) y x (h y x above)
  ]

  -- a list without zero whose pairs are settled is a Gröbner basis of its ideal
  pub settled_basis : AreNonzero o hs → {pairs : List (ℕ × ℕ)} → AreSettled o cmp v hs pairs → AreAllListed hs pairs → IsGroebnerBasis o cmp v hs hs
  settled_basis nonzero s all = good-list_basis o l field cmp v order hs first (all-good (λ x y low. settled-good-list nonzero s x y (all x.0 y.0 low (place-inside o cmp hs y))))
