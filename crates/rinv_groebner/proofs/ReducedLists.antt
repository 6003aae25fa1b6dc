-- A reduced Gröbner basis, given as a list, in the honest ring; two of one ideal that ascend are the same, element by element.
--   monic-nonzero        a monic element is not zero
--   basis-of             a Gröbner basis of an ideal, by other generators of this ideal
--   list_reduced         the elements are a reduced basis of the ideal
--   reduced-same         reduced bases of one ideal that ascend are the same
use Rattle.std.proofs.Common.{◌≡◌, ℕ, zero, suc, ◌<◌, Bool, true, false, List, [], ◌∷◌, length, map, drop, get_or, refl, sym, ◌∙◌, ap, ap₂, subst, arith, IsTrue, true≢false}
use Rattle.std.specs.Prelude.{IsFalse, ◌==◌}
use Rattle.std.specs.declared.cmp.Ordering.{Ordering}
use Rattle.std.proofs.lemmas.Bool.{eqb-true}
use Rattle.std.proofs.lemmas.Bool.Decides.{nat_tests}
use mathlib.Core.Logic.{∥∥₁_map}
use Rattle.rinv_algebra.specs.Ring.{RingOps, RingLaws, FieldLaws, IsSame}
use Rattle.rinv_algebra.specs.Monomial.{monomial_product}
use Rattle.rinv_algebra.specs.Polynomial.{Polynomial, poly_ops, coefficient, has_monomial, is_zero}
use Rattle.rinv_algebra.specs.Leading.{leading_monomial, leading_coefficient}
use Rattle.rinv_algebra.proofs.PolynomialLaws.{poly_laws}
use Rattle.rinv_algebra.proofs.RingFacts as facts
use Rattle.rinv_algebra.proofs.Same.{same-coefficients}
use Rattle.rinv_theory.proofs.Classes.{Class, class, class_ring, class_sound, class_exact, class_dec, class-one}
use Rattle.rinv_theory.proofs.Monoid.{Monomial, monomial, monomials, monomial_ind, monomial-mul}
use Rattle.rinv_theory.proofs.Polynomials.{polynomials, poly_ring, class-coefficient}
use Rattle.rinv_theory.proofs.Variables.{IsFront}
use Rattle.rinv_groebner.specs.Orders.{OrdersMonomials}
use Rattle.rinv_groebner.specs.Division.{lead_divides, AreSame}
use Rattle.rinv_groebner.specs.Basis.{IsGroebnerBasis, AreMembers, GenerateOneIdeal}
use Rattle.rinv_groebner.specs.Reduced.{IsReducedGroebnerBasis, Ascend}
use Rattle.rinv_groebner.proofs.Ascending.{Has, Bounds, Ascends, ascending-equal}
use Rattle.rinv_groebner.proofs.Bases.{IsReduced, reduced-unique}
use Rattle.rinv_groebner.proofs.Compared.{all_monomials, less_below, coefficient-has, nonzero-front}
use Rattle.rinv_groebner.proofs.FirstVariables.{order_in-well}
use Rattle.rinv_groebner.proofs.IdealBases.{InIdeal, in_ideal-subtract, list_basis, place_lead, place_element}
use Rattle.rinv_groebner.proofs.ListElements.{Place, AllFirst, list-leads}
use Rattle.rinv_groebner.proofs.MemberLists.{member_trans}
use Rattle.rinv_groebner.proofs.MonomialLists.{divisor-divides}
use Rattle.rinv_groebner.proofs.Reducible.{place-inside, parts_divide}

module _ {E : Type 0} (o : RingOps E) (l : RingLaws o) where
  -- members of an ideal of members
  pub members_trans : (fs gs hs : List (Polynomial E)) → AreMembers o fs gs → AreMembers o gs hs → AreMembers o fs hs
  members_trans fs gs [] m n = tt
  members_trans fs gs (h ∷ hs) m n = (member_trans o l fs gs h m n.0, members_trans fs gs hs m n.1)

  module _ (field : FieldLaws o) (cmp : List ℕ → List ℕ → Ordering) where
    -- a monic element is not zero
    pub monic-nonzero : (g : Polynomial E) → IsSame o (leading_coefficient o cmp g) o.one → IsFalse (is_zero o g)
    unfolding coefficient
    monic-nonzero g s = go (is_zero o g) refl
      where
        go : (b : Bool) → is_zero o g ≡ b → b ≡ false
        go true z = absurd (field.one_differs (facts.then o l (facts.back o l s) (same-coefficients o l g [] z (leading_monomial o cmp g))))
        go false z = refl

    module _ (v : ℕ) (order : OrdersMonomials cmp v) where
      -- by other generators of the ideal
      pub basis-of : (fs gs hs : List (Polynomial E)) → GenerateOneIdeal o fs gs → IsGroebnerBasis o cmp v gs hs → IsGroebnerBasis o cmp v fs hs
      basis-of fs gs hs same b = record {
        ideal = (members_trans fs gs hs same.0 b.ideal.0, members_trans hs gs fs b.ideal.1 same.1);
        divided = λ f h m n. b.divided f h (member_trans o l gs fs f same.1 m) n;
      }

      -- the elements are a reduced basis
      pub list_reduced : (fs gs : List (Polynomial E)) → AllFirst o l v gs → IsReducedGroebnerBasis o cmp v fs gs → IsReduced (polynomials o l) (all_monomials cmp v order) (InIdeal o l v fs) {I = Place o gs} (place_lead o cmp gs) (place_element o gs)
      list_reduced fs gs first r = record {
        basis = list_basis o l v cmp order fs gs field first r.basis.ideal.0 r.basis.divided;
        monic = λ k. class-coefficient o l (get_or gs k.0 []) (leading_monomial o cmp (get_or gs k.0 [])) ∙ class_sound o l _ _ (r.monic k.0 (place-inside o cmp gs k)) ∙ class-one o l;
        irreducible = λ i j s. monomial_ind (λ s. ((polynomials o l).coefficient (place_element o gs i) (monomials.mul s (place_lead o cmp gs j)) ≡ (class_ring o l).zero → ⊥) → place_lead o cmp gs j ≡ place_lead o cmp gs i) (λ s. hlevel (monomials.is_set)) (λ a nz. go i j a nz (i.0 == j.0) refl) s;
      }
        where
          go : (i j : Place o gs) (a : List ℕ) → ((polynomials o l).coefficient (place_element o gs i) (monomials.mul (monomial a) (place_lead o cmp gs j)) ≡ (class_ring o l).zero → ⊥) → (b : Bool) → (i.0 == j.0) ≡ b → place_lead o cmp gs j ≡ place_lead o cmp gs i
          go i j a nz true e = ap (λ (k : ℕ). monomial (leading_monomial o cmp (get_or gs k []))) (sym (eqb-true i.0 j.0 e))
          go i j a nz false e =
              let m : List ℕ = monomial_product a (leading_monomial o cmp (get_or gs j.0 [])) in
              let has : IsTrue (has_monomial o (get_or gs i.0 []) m) = coefficient-has o l (get_or gs i.0 []) m (λ z. nz (ap ((polynomials o l).coefficient (place_element o gs i)) (sym (monomial-mul a _)) ∙ z)) in
              let off : IsFalse (lead_divides o cmp (get_or gs j.0 []) m) = r.apart i.0 j.0 (place-inside o cmp gs i) (place-inside o cmp gs j) (λ q. differ i.0 j.0 e q) m has in
              absurd (true≢false (sym (parts_divide o cmp (get_or gs j.0 []) m j.1 (divisor-divides _ m (monomial a, sym (monomial-mul a _)))) ∙ off))
            where
              differ : (i j : ℕ) → (i == j) ≡ false → i ≡ j → ⊥
              differ i j e q = grind (arith, nat_tests, e, q)

      -- ---- in ascending order

      abbrev Pair : Type 0
      Pair = Monomial × Class (poly_ops o)

      abbrev pair : Polynomial E → Pair
      pair g = (monomial (leading_monomial o cmp g), class (poly_ops o) g)

      abbrev LessLead : Pair → Pair → Type 0
      LessLead x y = (all_monomials cmp v order).below x.0 y.0

      has_place : (gs : List (Polynomial E)) (k : ℕ) → k < length gs → Has (pair (get_or gs k [])) (map pair gs)
      has_place [] k h = absurd (omega arith)
      has_place (g ∷ gs) zero h = Has.first
      has_place (g ∷ gs) (suc k) h = Has.later (has_place gs k (omega (arith, h)))

      place_of : (gs : List (Polynomial E)) {z : Pair} → Has z (map pair gs) → (k : ℕ) × (k < length gs) × (pair (get_or gs k []) ≡ z)
      place_of [] h = elim h [ ]
      place_of (g ∷ gs) Has.first = (0, (omega arith), refl)
      place_of (g ∷ gs) (Has.later h) = let (k, inside, e) = place_of gs h in (suc k, (omega (arith, inside)), e)

      bounds : (g : Polynomial E) (gs : List (Polynomial E)) → ((k : ℕ) → k < length gs → LessLead (pair g) (pair (get_or gs k []))) → Bounds LessLead (pair g) (map pair gs)
      bounds g [] h = Bounds.no_more
      bounds g (f ∷ gs) h = Bounds.and (h 0 (omega arith)) (bounds g gs (λ k inside. h (suc k) (omega (arith, inside))))

      ascends : (gs : List (Polynomial E)) → ((i j : ℕ) → i < j → j < length gs → LessLead (pair (get_or gs i [])) (pair (get_or gs j []))) → Ascends LessLead (map pair gs)
      ascends [] h = Ascends.empty
      ascends (g ∷ gs) h = Ascends.begin (bounds g gs (λ k inside. h 0 (suc k) (omega arith) (omega (arith, inside)))) (ascends gs (λ i j below inside. h (suc i) (suc j) (omega (arith, below)) (omega (arith, inside))))

      same_from_map : (gs hs : List (Polynomial E)) → map pair gs ≡ map pair hs → AreSame o gs hs
      same_from_map [] [] e = tt
      same_from_map [] (h ∷ hs) e = absurd (lengths (ap length e))
        where
          lengths : 0 ≡ suc (length (map pair hs)) → ⊥
          lengths q = omega (arith, q)
      same_from_map (g ∷ gs) [] e = absurd (lengths (ap length e))
        where
          lengths : suc (length (map pair gs)) ≡ 0 → ⊥
          lengths q = omega (arith, q)
      same_from_map (g ∷ gs) (h ∷ hs) e = (class_exact (poly_ops o) (poly_laws o l) g h (ap (λ (xs : List Pair). (get_or xs 0 (pair g)).1) e), same_from_map gs hs (ap (drop 1) e))

      module _ (fs gs : List (Polynomial E)) (first : AllFirst o l v gs) (r : IsReducedGroebnerBasis o cmp v fs gs) where
        abbrev place : (k : ℕ) → k < length gs → Place o gs
        place k inside = (k, monic-nonzero (get_or gs k []) (r.monic k inside))

        lead_front : (k : ℕ) → k < length gs → IsFront v (monomial (leading_monomial o cmp (get_or gs k [])))
        lead_front k inside = nonzero-front o l v (first k) (monomial (leading_monomial o cmp (get_or gs k []))) (list-leads o l field cmp v order gs first (place k inside)).nonzero

        pairs-ascend : Ascend o cmp gs → Ascends LessLead (map pair gs)
        pairs-ascend a = ascends gs (λ i j below inside. less_below cmp v order _ _ (lead_front i (omega (arith, below, inside))) (lead_front j inside) (a i j [] below inside))

      pair_set : IsSet Pair
      pair_set = hlevel (monomials.is_set, (poly_ring o l).is_set)

      within : (fs gs hs : List (Polynomial E)) → AllFirst o l v gs → AllFirst o l v hs → IsReducedGroebnerBasis o cmp v fs gs → IsReducedGroebnerBasis o cmp v fs hs → (z : Pair) → Has z (map pair gs) → ∥ Has z (map pair hs) ∥₁
      within fs gs hs first first' r r' z h =
          let (k, inside, e) = place_of gs h in
          ∥∥₁_map (reduced-unique (polynomials o l) (all_monomials cmp v order) (InIdeal o l v fs) (class_dec o l) (order_in-well cmp order.laws v).least (in_ideal-subtract o l v fs) (list_reduced fs gs first r) (list_reduced fs hs first' r') (place fs gs first r k inside))
          (λ c. subst (λ (y : Pair). Has y (map pair hs)) (ap₂ (λ x y. (x, y)) c.1 c.2 ∙ e) (has_place hs c.0.0 (place-inside o cmp hs c.0)))

      -- reduced bases of one ideal that ascend are the same, element by element
      pub reduced-same : (fs fs' gs hs : List (Polynomial E)) → GenerateOneIdeal o fs fs' → AllFirst o l v gs → AllFirst o l v hs → IsReducedGroebnerBasis o cmp v fs gs → IsReducedGroebnerBasis o cmp v fs' hs → Ascend o cmp gs → Ascend o cmp hs → AreSame o gs hs
      reduced-same fs fs' gs hs same first first' r r' a a' = same_from_map gs hs (ascending-equal LessLead (λ x y z. (all_monomials cmp v order).trans x.0 y.0 z.0) (λ x. (all_monomials cmp v order).irreflexive x.0) pair_set (map pair gs) (map pair hs)
          (pairs-ascend fs gs first r a) (pairs-ascend fs hs first' moved a') (within fs gs hs first first' r moved) (within fs hs gs first' first moved r))
        where
          moved : IsReducedGroebnerBasis o cmp v fs hs
          moved = record { basis = basis-of fs fs' hs same r'.basis; monic = r'.monic; apart = r'.apart }
