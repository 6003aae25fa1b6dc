-- Which monomials the leading monomials of a list divide, in the list and in the honest ring.
--   divides-parts, parts_divide    a leading monomial divides: the element is not zero, and the lists divide
--   first_divisor        the first element whose leading monomial divides, where one does
--   place_reducible, reducible_place    at places of the list
--   divides-one, reducible-one    however the monomial is written
--   lead_divides-same    it depends on the coefficients and the monomial alone
use Rattle.std.proofs.Common.{◌≡◌, ◌⊎◌, ℕ, zero, suc, ◌<◌, Bool, not, ◌&&◌, List, [], ◌∷◌, length, get_or, refl, sym, ◌∙◌, ap, ap₂, ◌||◌, subst, subst₂, inl, inr, arith, IsTrue, true≢false}
use Rattle.std.specs.Prelude.{IsFalse}
use Rattle.std.specs.List.{list_any}
use Rattle.std.specs.Cmp.{both_ways}
use Rattle.std.proofs.lemmas.Bool.{cases_Bool}
use Rattle.std.proofs.lemmas.Bool.Decides.{nat_tests}
use Rattle.std.proofs.lemmas.List.Folds.{list_any_at}
use Rattle.std.specs.declared.cmp.Ordering.{Ordering}
use Rattle.rinv_algebra.specs.Ring.{RingOps, RingLaws, IsSame}
use Rattle.rinv_algebra.specs.Monomial.{divides}
use Rattle.rinv_algebra.specs.Polynomial.{Polynomial, poly_ops, same, is_zero}
use Rattle.rinv_algebra.specs.Leading.{leading_monomial}
use Rattle.rinv_algebra.proofs.PolynomialLaws.{poly_laws}
use Rattle.rinv_algebra.proofs.MonomialLaws.{same_monomial_sym, same_at}
use Rattle.rinv_algebra.proofs.Degrees.{same-left}
use Rattle.rinv_algebra.proofs.Same.{and_true}
use Rattle.rinv_theory.proofs.Classes.{class, class_sound}
use Rattle.rinv_theory.proofs.Monoid.{IsOne, monomial, monomial_sound}
use Rattle.rinv_theory.proofs.Polynomials.{polynomials}
use Rattle.rinv_theory.proofs.Leads.{Leads, lead-unique}
use Rattle.rinv_groebner.specs.Orders.{OrdersMonomials}
use Rattle.rinv_groebner.specs.Division.{lead_divides, is_reducible}
use Rattle.rinv_groebner.proofs.MonomialLists.{divides_at, divides_from, Divisor, divides-divisor, divisor-divides}
use Rattle.rinv_groebner.proofs.Compared.{all_monomials, InFirst, first-same, class_leads}
use Rattle.rinv_groebner.proofs.ListElements.{Place}

-- the first element that passes a test, where one does
pub first_passing : {X : Type 0} (test : X → Bool) (d : X) (xs : List X) → IsTrue (list_any test xs) → (p : ℕ) × (p < length xs) × IsTrue (test (get_or xs p d)) × ((j : ℕ) → j < p → IsFalse (test (get_or xs j d)))
first_passing test d [] h = absurd (true≢false (sym h))
first_passing test d (x ∷ xs) h = elim (cases_Bool (test x)) [
  | inl t ↦ (0, (omega arith), t, λ j l. absurd (omega arith))
  | inr f ↦
      let rest : IsTrue (list_any test xs) = grind (arith, nat_tests, h, f) in
      let (p, i, t, before) = first_passing test d xs rest in
      (suc p, (omega (arith, i)), t, earlier f before)
]
  where
    earlier : {p : ℕ} → IsFalse (test x) → ((j : ℕ) → j < p → IsFalse (test (get_or xs j d))) → (j : ℕ) → j < suc p → IsFalse (test (get_or (x ∷ xs) j d))
    earlier f before zero l = f
    earlier f before (suc j) l = before j (omega arith)

-- a place is inside the list, or reads the default
pub past_end : {X : Type 0} (xs : List X) (k : ℕ) (d : X) → (k < length xs) ⊎ (get_or xs k d ≡ d)
past_end [] zero d = inr refl
past_end [] (suc k) d = inr refl
past_end (x ∷ xs) zero d = inl (omega arith)
past_end (x ∷ xs) (suc k) d = elim (past_end xs k d) [ inl h ↦ inl (omega (arith, h)) | inr e ↦ inr e ]

-- a divisor of a monomial divides it however it is written
pub divides-one : (c a b : List ℕ) → IsOne a b → divides c a ≡ divides c b
divides-one c a b e = both_ways _ _ (moved a b e) (moved b a (same_monomial_sym a b e))
  where
    moved : (a b : List ℕ) → IsOne a b → IsTrue (divides c a) → IsTrue (divides c b)
    moved a b e d = divides_from c b (λ k. let x = divides_at c a d k in let y = same_at a b e k in omega (arith, x, y))

module _ {E : Type 0} (o : RingOps E) (cmp : List ℕ → List ℕ → Ordering) where
  -- the element is not zero, and its leading monomial divides
  pub divides-parts : (h : Polynomial E) (m : List ℕ) → IsTrue (lead_divides o cmp h m) → IsFalse (is_zero o h) × IsTrue (divides (leading_monomial o cmp h) m)
  divides-parts h m d = (grind (arith, nat_tests, d), grind (arith, nat_tests, d))

  -- and the other way round
  pub parts_divide : (h : Polynomial E) (m : List ℕ) → IsFalse (is_zero o h) → IsTrue (divides (leading_monomial o cmp h) m) → IsTrue (lead_divides o cmp h m)
  parts_divide h m n d = and_true _ _ (ap not n) d

  -- a place of an element that is not zero is one of the list
  pub place-inside : (hs : List (Polynomial E)) (k : Place o hs) → k.0 < length hs
  unfolding same
  place-inside hs (k, n) = elim (past_end hs k []) [ inl h ↦ h | inr e ↦ absurd (true≢false (sym (ap (is_zero o) e) ∙ n)) ]

  -- whether a monomial is reducible does not depend on how it is written
  pub reducible-one : (hs : List (Polynomial E)) (a b : List ℕ) → IsOne a b → is_reducible o cmp hs a ≡ is_reducible o cmp hs b
  reducible-one [] a b e = refl
  reducible-one (h ∷ hs) a b e = ap₂ ◌||◌ (ap (λ (t : Bool). not (is_zero o h) && t) (divides-one (leading_monomial o cmp h) a b e)) (reducible-one hs a b e)

  -- the first element whose leading monomial divides
  pub first_divisor : (hs : List (Polynomial E)) (m : List ℕ) → IsTrue (is_reducible o cmp hs m) → (p : ℕ) × (p < length hs) × IsTrue (lead_divides o cmp (get_or hs p []) m) × ((j : ℕ) → j < p → IsFalse (lead_divides o cmp (get_or hs j []) m))
  first_divisor hs m h = first_passing (λ h. lead_divides o cmp h m) [] hs h

  -- what an element's leading monomial divides is reducible
  pub divisor_reducible : (hs : List (Polynomial E)) (m : List ℕ) (p : ℕ) → p < length hs → IsTrue (lead_divides o cmp (get_or hs p []) m) → IsTrue (is_reducible o cmp hs m)
  divisor_reducible hs m p inside d = list_any_at (λ h. lead_divides o cmp h m) hs p [] inside d

  -- at a place: the monomial is a multiple of the leading monomial
  pub place_reducible : (hs : List (Polynomial E)) (m : List ℕ) (k : Place o hs) → Divisor (monomial (leading_monomial o cmp (get_or hs k.0 []))) (monomial m) → IsTrue (is_reducible o cmp hs m)
  place_reducible hs m k d = divisor_reducible hs m k.0 (place-inside hs k) (parts_divide (get_or hs k.0 []) m k.1 (divisor-divides _ m d))

  -- and the other way round
  pub reducible_place : (hs : List (Polynomial E)) (m : List ℕ) → IsTrue (is_reducible o cmp hs m) → (k : Place o hs) × Divisor (monomial (leading_monomial o cmp (get_or hs k.0 []))) (monomial m)
  reducible_place hs m r =
      let (p, inside, d, before) = first_divisor hs m r in
      let both = divides-parts (get_or hs p []) m d in
      ((p, both.0), divides-divisor _ m both.1)

  module _ (l : RingLaws o) (v : ℕ) (order : OrdersMonomials cmp v) where
    -- whether a polynomial is zero depends on its coefficients alone
    pub is_zero-same : (f g : Polynomial E) → IsSame (poly_ops o) f g → is_zero o f ≡ is_zero o g
    is_zero-same f g s = same-left (poly_ops o) (poly_laws o l) f g [] s

    -- and so does the leading monomial, of polynomials in the first v variables
    pub lead-same : (f g : Polynomial E) → InFirst o l v f → IsSame (poly_ops o) f g → IsFalse (is_zero o f) → monomial (leading_monomial o cmp f) ≡ monomial (leading_monomial o cmp g)
    lead-same f g r s n =
        let leads : Leads (polynomials o l) (all_monomials cmp v order) (class (poly_ops o) g) (monomial (leading_monomial o cmp g)) = class_leads o l v cmp order g (first-same o l v f g s r) (sym (is_zero-same f g s) ∙ n) in
        lead-unique (polynomials o l) (all_monomials cmp v order) (class_leads o l v cmp order f r n)
        (subst (λ x. Leads (polynomials o l) (all_monomials cmp v order) x (monomial (leading_monomial o cmp g))) (sym (class_sound (poly_ops o) (poly_laws o l) f g s)) leads)

    divides_too : (f g : Polynomial E) (a b : List ℕ) → InFirst o l v f → IsSame (poly_ops o) f g → IsOne a b → IsTrue (lead_divides o cmp f a) → IsTrue (lead_divides o cmp g b)
    divides_too f g a b r s e d =
        let both = divides-parts f a d in
        parts_divide g b (sym (is_zero-same f g s) ∙ both.0)
        (divisor-divides _ b (subst₂ Divisor (lead-same f g r s both.0) (monomial_sound a b e) (divides-divisor _ a both.1)))

    -- whether a leading monomial divides depends on the coefficients and the monomial alone
    pub lead_divides-same : (f g : Polynomial E) (a b : List ℕ) → InFirst o l v f → IsSame (poly_ops o) f g → IsOne a b → lead_divides o cmp f a ≡ lead_divides o cmp g b
    lead_divides-same f g a b r s e = both_ways _ _ (divides_too f g a b r s e) (divides_too g f b a (first-same o l v f g s r) ((poly_laws o l).same_sym f g s) (same_monomial_sym a b e))
