-- A Gröbner basis, given as a list, in the honest ring.
--   InIdeal fs x         x lies in the ideal of fs, and in the first v variables
--   in_ideal, in_ideal-subtract, in_ideal-constant    members; differences; products with a constant
--   represented          a formal sum in v variables that is a member stands for it
--   IsListBasis, list_basis    the elements of a Gröbner basis that are not zero are a basis of this ideal
use Rattle.std.proofs.Common.{◌≡◌, ℕ, zero, suc, ◌<◌, Bool, true, false, not, List, [], ◌∷◌, length, get_or, refl, sym, ◌∙◌, ap, subst, inl, inr, arith, IsTrue, true≢false}
use Rattle.std.specs.Prelude.{IsFalse}
use Rattle.std.specs.List.{list_all, AllByRecursion}
use Rattle.std.specs.declared.cmp.Ordering.{Ordering}
use mathlib.Core.Bool.{Bool-set}
use mathlib.Core.Logic.{∥∥₁_elim, ∥∥₁_prop, ∥∥₁_map}
use Rattle.rinv_algebra.specs.Ring.{RingOps, RingLaws, FieldLaws}
use Rattle.rinv_algebra.specs.Polynomial.{Polynomial, poly_ops, is_zero, difference}
use Rattle.rinv_algebra.specs.Normal.{is_in_variables}
use Rattle.rinv_algebra.specs.Ideal.{IsMember}
use Rattle.rinv_algebra.specs.Leading.{leading_monomial}
use Rattle.rinv_algebra.proofs.Same.{both}
use Rattle.rinv_algebra.proofs.PolynomialLaws.{poly_laws}
use Rattle.rinv_theory.proofs.CRing.{CRing}
use Rattle.rinv_theory.proofs.Solver.{ring, reading}
use Rattle.rinv_theory.proofs.Classes.{Class, class, class_ring, class_sound, class-zero}
use Rattle.rinv_theory.proofs.Monoid.{Monomial, monomial, monomials}
use Rattle.rinv_theory.proofs.TermRing.{coefficient-zero, term-neg}
use Rattle.rinv_theory.proofs.Polynomials.{polynomials, poly_ring}
use Rattle.rinv_theory.proofs.Of.{Of, of-add, of-times}
use Rattle.rinv_theory.proofs.Ideals.{In, in-add, in-mul, in-neg}
use Rattle.rinv_theory.proofs.Members.{generator, member-in, in-member}
use Rattle.rinv_theory.proofs.Variables.{IsFront, in_variables-of, of-in_variables}
use Rattle.rinv_theory.proofs.Leads.{MonomialOrder, Leads, lead-unique}
use Rattle.rinv_groebner.specs.Orders.{OrdersMonomials}
use Rattle.rinv_groebner.specs.Division.{is_reducible}
use Rattle.rinv_groebner.specs.Basis.{AreMembers, AreNonzero}
use Rattle.rinv_groebner.proofs.Ascending.{Has, split}
use Rattle.rinv_groebner.proofs.Bases.{IsBasis}
use Rattle.rinv_groebner.proofs.Compared.{all_monomials, InFirst, class_leads}
use Rattle.rinv_groebner.proofs.ListElements.{Place, AllFirst, list-leads}
use Rattle.rinv_groebner.proofs.StepClasses.{class-difference}
use Rattle.rinv_groebner.proofs.Reducible.{place-inside, reducible_place, place_reducible}

-- a fact of each element of a list, at a place
pub all_at : {X : Type 0} (P : X → Type 0) (d : X) (xs : List X) → AllByRecursion P xs → (k : ℕ) → k < length xs → P (get_or xs k d)
all_at P d [] all k inside = absurd (omega arith)
all_at P d (x ∷ xs) all zero inside = all.0
all_at P d (x ∷ xs) all (suc k) inside = all_at P d xs all.1 k (omega (arith, inside))

-- and the other way round
pub all_from : {X : Type 0} (P : X → Type 0) (d : X) (xs : List X) → ((k : ℕ) → k < length xs → P (get_or xs k d)) → AllByRecursion P xs
all_from P d [] h = tt
all_from P d (x ∷ xs) h = (h 0 (omega arith), all_from P d xs (λ k inside. h (suc k) (omega (arith, inside))))

-- and of each element
pub all_has : {X : Type 0} (P : X → Type 0) {x : X} (xs : List X) → AllByRecursion P xs → Has x xs → P x
all_has P [] all h = elim h [ ]
all_has P (x ∷ xs) all Has.first = all.0
all_has P (x ∷ xs) all (Has.later h) = all_has P xs all.1 h

-- in a list without zero no element is zero
pub nonzero_has : {E : Type 0} (o : RingOps E) (hs : List (Polynomial E)) → AreNonzero o hs → (h : Polynomial E) → Has h hs → IsFalse (is_zero o h)
nonzero_has o [] n h m = elim m [ ]
nonzero_has o (x ∷ hs) n h m =
    let parts : (not (is_zero o x) ≡ true) × IsTrue (list_all (λ h. not (is_zero o h)) hs) = both (not (is_zero o x)) _ n in
    elim (split m) [ inl e ↦ ap (is_zero o) e ∙ off (is_zero o x) parts.0 | inr k ↦ nonzero_has o hs parts.1 h k ]
  where
    off : (b : Bool) → not b ≡ true → b ≡ false
    off false e = refl
    off true e = absurd (true≢false (sym e))

-- a sum whose class has a greatest monomial is not zero
pub leads-nonzero : {E : Type 0} (o : RingOps E) (l : RingLaws o) (𝓞 : MonomialOrder monomials) (f : Polynomial E) (n : Monomial) → Leads (polynomials o l) 𝓞 (class (poly_ops o) f) n → IsFalse (is_zero o f)
leads-nonzero o l 𝓞 f n r = go (is_zero o f) refl
  where
    go : (b : Bool) → is_zero o f ≡ b → b ≡ false
    go false e = refl
    go true e = absurd (r.nonzero (ap (λ x. (polynomials o l).coefficient x n) (class_sound (poly_ops o) (poly_laws o l) f [] e ∙ class-zero (poly_ops o) (poly_laws o l)) ∙ coefficient-zero (polynomials o l) n))

-- the leading monomial of the element at a place
abbrev pub place_lead : {E : Type 0} (o : RingOps E) (cmp : List ℕ → List ℕ → Ordering) (hs : List (Polynomial E)) → Place o hs → Monomial
place_lead o cmp hs k = monomial (leading_monomial o cmp (get_or hs k.0 []))

-- the element at a place
abbrev pub place_element : {E : Type 0} (o : RingOps E) (hs : List (Polynomial E)) → Place o hs → Class (poly_ops o)
place_element o hs k = class (poly_ops o) (get_or hs k.0 [])

module _ {E : Type 0} (o : RingOps E) (l : RingLaws o) (v : ℕ) where
  -- it lies in the ideal, and in the first v variables
  abbrev pub InIdeal : List (Polynomial E) → Class (poly_ops o) → Type 0
  InIdeal fs x = ∥ (In (poly_ring o l) (generator o l fs) x × Of (polynomials o l) (IsFront v) x) ∥₁

  -- a member in the first v variables
  pub in_ideal : (fs : List (Polynomial E)) (f : Polynomial E) → IsMember o fs f → InFirst o l v f → InIdeal fs (class (poly_ops o) f)
  in_ideal fs f m r = ∣ (member-in o l fs f m, r) ∣₁

  of-neg : {x : Class (poly_ops o)} → Of (polynomials o l) (IsFront v) x → Of (polynomials o l) (IsFront v) ((poly_ring o l).neg x)
  of-neg {x} r =
      subst (Of (polynomials o l) (IsFront v)) (ap (λ y. (poly_ring o l).mul y x) (term-neg (polynomials o l) (class_ring o l).one monomials.one ∙ ap (poly_ring o l).neg (polynomials o l).term_one) ∙ minus_one (poly_ring o l) x)
      (of-times (polynomials o l) ((class_ring o l).neg (class_ring o l).one) monomials.one (λ n q. subst (IsFront v) (sym (monomials.one_mul n)) q) r)
    where
      minus_one : {R : Type 0} (𝓡 : CRing R) (x : R) → 𝓡.mul (𝓡.neg 𝓡.one) x ≡ 𝓡.neg x
      minus_one 𝓡 x = ring 𝓡 (x ∷ []) (search reading depth 30) refl

  -- a difference of sums of terms in the first v variables
  pub first-difference : (f g : Polynomial E) → InFirst o l v f → InFirst o l v g → InFirst o l v (difference o f g)
  first-difference f g r s = subst (Of (polynomials o l) (IsFront v)) (sym (class-difference o l f g)) (of-add (polynomials o l) r (of-neg s))

  -- differences
  pub in_ideal-subtract : (fs : List (Polynomial E)) (x y : Class (poly_ops o)) → InIdeal fs x → InIdeal fs y → InIdeal fs ((poly_ring o l).add x ((poly_ring o l).neg y))
  in_ideal-subtract fs x y m n = ∥∥₁_elim m ∥∥₁_prop (λ p. ∥∥₁_map n (λ q. (in-add (poly_ring o l) (generator o l fs) p.0 (in-neg (poly_ring o l) (generator o l fs) q.0), of-add (polynomials o l) p.1 (of-neg q.1))))

  -- products with a constant
  pub in_ideal-constant : (fs : List (Polynomial E)) (c : Class o) (x : Class (poly_ops o)) → InIdeal fs x → InIdeal fs ((poly_ring o l).mul ((polynomials o l).term c monomials.one) x)
  in_ideal-constant fs c x m = ∥∥₁_map m (λ p. (in-mul (poly_ring o l) (generator o l fs) _ p.0, of-times (polynomials o l) c monomials.one (λ n q. subst (IsFront v) (sym (monomials.one_mul n)) q) p.1))

  -- a formal sum in v variables that is a member stands for it
  pub represented : (fs : List (Polynomial E)) (x : Class (poly_ops o)) → InIdeal fs x → ∥ ((f : Polynomial E) × IsTrue (is_in_variables v f) × IsMember o fs f × (class (poly_ops o) f ≡ x)) ∥₁
  represented fs x m = ∥∥₁_elim m ∥∥₁_prop (λ p. ∥∥₁_elim (of-in_variables o l v p.1) ∥∥₁_prop (λ q. ∥∥₁_map (in-member o l fs p.0 q.0 q.2) (λ r. (q.0, q.1, r, q.2))))

  module _ (cmp : List ℕ → List ℕ → Ordering) (order : OrdersMonomials cmp v) (fs hs : List (Polynomial E)) where
    -- the elements that are not zero are a basis of the ideal
    abbrev pub IsListBasis : Type 0
    IsListBasis = IsBasis (polynomials o l) (all_monomials cmp v order) (InIdeal fs) {I = Place o hs} (place_lead o cmp hs) (place_element o hs)

    -- the leading monomial of each member that is not zero is divided by that of an element
    abbrev pub AreDivided : Type 0
    AreDivided = (f : Polynomial E) → IsTrue (is_in_variables v f) → IsMember o fs f → IsFalse (is_zero o f) → IsTrue (is_reducible o cmp hs (leading_monomial o cmp f))

    -- so it is where the elements are members, and divide the leading monomials of the members
    pub list_basis : FieldLaws o → AllFirst o l v hs → AreMembers o fs hs → AreDivided → IsListBasis
    list_basis field first members divided = record {
      member = λ k. in_ideal fs (get_or hs k.0 []) (all_at (IsMember o fs) [] hs members k.0 (place-inside o cmp hs k)) (first k.0);
      leads = list-leads o l field cmp v order hs first;
      covers = λ x m n r. ∥∥₁_map (represented fs x m) (λ p. found n p.0 p.1 p.2 (subst (λ y. Leads (polynomials o l) (all_monomials cmp v order) y n) (sym p.3) r));
    }
      where
        found : (n : Monomial) (f : Polynomial E) → IsTrue (is_in_variables v f) → IsMember o fs f → Leads (polynomials o l) (all_monomials cmp v order) (class (poly_ops o) f) n → (k : Place o hs) × (s : Monomial) × (monomials.mul s (place_lead o cmp hs k) ≡ n)
        found n f h m r =
            let z = leads-nonzero o l (all_monomials cmp v order) f n r in
            let (k, (s, e)) = reducible_place o cmp hs (leading_monomial o cmp f) (divided f h m z) in
            (k, s, e ∙ lead-unique (polynomials o l) (all_monomials cmp v order) (class_leads o l v cmp order f (in_variables-of o l v f h) z) r)

    -- of sums of terms in v variables, however they are written
    pub divided_first : IsListBasis → (f : Polynomial E) → InFirst o l v f → IsMember o fs f → IsFalse (is_zero o f) → IsTrue (is_reducible o cmp hs (leading_monomial o cmp f))
    divided_first b f r m n = ∥∥₁_elim (b.covers (class (poly_ops o) f) (in_ideal fs f m r) (monomial (leading_monomial o cmp f)) (class_leads o l v cmp order f r n)) (Bool-set _ _) (λ c. place_reducible o cmp hs (leading_monomial o cmp f) c.0 (c.1, c.2))
