-- Elimination, for lists of polynomials.
--   free_lead            where the leading monomial is free of the first variables, each monomial is
--   part_basis           the part of a Gröbner basis that is free is one of the free polynomials of the ideal
--   part-monic, part-apart, part-ascends    what a reduced basis has, its part has
use Rattle.std.proofs.Common.{◌≡◌, ℕ, zero, suc, ◌≤◌, ◌<◌, Bool, true, false, not, cond, List, [], ◌∷◌, length, take, sum, get_or, filter, refl, sym, ◌∙◌, ap, subst, inl, inr, arith, IsTrue, true≢false}
use Rattle.std.specs.Prelude.{IsFalse, ◌==◌, nat_lt}
use Rattle.std.specs.List.{AllPairs}
use Rattle.std.specs.declared.cmp.Ordering.{Ordering}
use Rattle.std.specs.declared.cmp.Ordering.TheVariants.{Less}
use Rattle.std.proofs.lemmas.Bool.{cases_Bool, eqb-true}
use Rattle.std.proofs.lemmas.Bool.Decides.{nat_tests}
use Rattle.std.proofs.lemmas.List.{get_or_default}
use Rattle.std.proofs.lemmas.List.Kept.{AllPairs-filter}
use Rattle.std.proofs.Math.Seq.{take-nil}
use Rattle.std.proofs.lemmas.List.Sums.{sum_by-cons}
use Rattle.rinv_algebra.specs.Ring.{RingOps, RingLaws, FieldLaws, IsSame}
use Rattle.rinv_algebra.specs.Monomial.{divides}
use Rattle.rinv_algebra.specs.Polynomial.{Polynomial, coefficient, has_monomial, is_zero}
use Rattle.rinv_algebra.specs.Ideal.{IsMember}
use Rattle.rinv_algebra.specs.Leading.{leading_monomial, leading_coefficient}
use Rattle.rinv_algebra.proofs.Same.{same-coefficients}
use Rattle.rinv_theory.proofs.Monoid.{monomial}
use Rattle.rinv_theory.proofs.Variables.{in_variables-of}
use Rattle.rinv_groebner.specs.Orders.{OrdersMonomials}
use Rattle.rinv_groebner.specs.Division.{Step, IsDivision, is_reducible, lead_divides}
use Rattle.rinv_groebner.specs.Basis.{AreMembers}
use Rattle.rinv_groebner.specs.Elimination.{is_free, Eliminates, IsFreeOf, free_part, IsEliminationBasis}
use Rattle.rinv_groebner.specs.Reduced.{AreMonic, AreApart, Ascend}
use Rattle.rinv_groebner.proofs.Ascending.{Has, split, has_at, place_of}
use Rattle.rinv_groebner.proofs.Compared.{InFirst}
use Rattle.rinv_groebner.proofs.DivisionLaws.{left-bounded}
use Rattle.rinv_groebner.proofs.Generates.{own_members, steps-first}
use Rattle.rinv_groebner.proofs.Greatest.{has-filter, filter-passes}
use Rattle.rinv_groebner.proofs.IdealBases.{all_from, all_has, IsListBasis, divided_first}
use Rattle.rinv_groebner.proofs.LeadingMonomials.{leading_monomial-leads}
use Rattle.rinv_groebner.proofs.ListElements.{AllFirst}
use Rattle.rinv_groebner.proofs.Removed.{first_from}
use Rattle.rinv_groebner.proofs.MemberLists.{member_zero}
use Rattle.rinv_groebner.proofs.MonomialLists.{Divisor, divisor-divides}
use Rattle.rinv_groebner.proofs.NextSteps.{division_exists}
use Rattle.rinv_groebner.proofs.NormalForms.{steps-member, division-normal_form, zero-member}
use Rattle.rinv_groebner.proofs.Reducible.{reducible_place, place_reducible, place-inside}

-- an element of a filtered list is one of the list
filter-in : {A : Type 0} (test : A → Bool) {x : A} (xs : List A) → Has x (filter test xs) → Has x xs
filter-in test [] h = h
filter-in test {x} (y ∷ xs) h = go (test y) h (λ m. Has.later (filter-in test xs m))
  where
    go : (b : Bool) → Has x (cond b (y ∷ filter test xs) (filter test xs)) → (Has x (filter test xs) → Has x (y ∷ xs)) → Has x (y ∷ xs)
    go true m again = elim (split m) [ inl e ↦ subst (λ z. Has z (y ∷ xs)) (sym e) Has.first | inr k ↦ again k ]
    go false m again = again m

-- a divisor has no greater degree in the first variables
divides-degree : (k : ℕ) (a b : List ℕ) → IsTrue (divides a b) → sum (take k a) ≤ sum (take k b)
unfolding divides
divides-degree zero a b d = omega arith
divides-degree (suc k) [] b d = omega arith
divides-degree (suc k) (x ∷ a) [] d =
    let rest = divides-degree k a [] (grind (arith, nat_tests, d)) in
    let first : x ≡ 0 = grind (arith, nat_tests, d) in
    let none : sum (take k []) ≡ 0 = ap sum (take-nil k) in
    omega (arith, rest, first, none, sum_by-cons (λ (n : ℕ). n) x (take k a))
divides-degree (suc k) (x ∷ a) (y ∷ b) d =
    let rest = divides-degree k a b (grind (arith, nat_tests, d)) in
    let first : x ≤ y = grind (arith, nat_tests, d) in
    omega (arith, rest, first, sum_by-cons (λ (n : ℕ). n) x (take k a), sum_by-cons (λ (n : ℕ). n) y (take k b))

-- so a divisor of a monomial free of them is free
pub divides-free : (k : ℕ) (a b : List ℕ) → IsTrue (divides a b) → IsTrue (is_free k b) → IsTrue (is_free k a)
divides-free k a b d z = let low = divides-degree k a b d in let e : sum (take k b) ≡ 0 = eqb-true _ _ z in ap (λ (n : ℕ). n == 0) {x = sum (take k a)} {y = 0} (omega (arith, low, e))

module _ {E : Type 0} (o : RingOps E) (l : RingLaws o) (cmp : List ℕ → List ℕ → Ordering) (v : ℕ) (order : OrdersMonomials cmp v) where
  module _ (k : ℕ) (eliminates : Eliminates cmp k) where
    -- where the leading monomial is free, each monomial is
    pub free_lead : (f : Polynomial E) → IsFalse (is_zero o f) → IsTrue (is_free k (leading_monomial o cmp f)) → IsFreeOf o k f
    free_lead f n q m has = eliminates m (leading_monomial o cmp f) ((leading_monomial-leads o l cmp order.laws f n).greatest m has) q

    -- zero is free too
    element_free : (h : Polynomial E) → IsTrue (is_free k (leading_monomial o cmp h)) → (b : Bool) → is_zero o h ≡ b → IsFreeOf o k h
    unfolding coefficient
    element_free h q true z m has = absurd (true≢false (sym has ∙ ap not (same-coefficients o l h [] z m)))
    element_free h q false n m has = free_lead h n q m has

    module _ (field : FieldLaws o) (fs hs : List (Polynomial E)) (first : AllFirst o l v hs) (basis : IsListBasis o l v cmp order fs hs) (members : AreMembers o fs hs) where
      abbrev free_lead_of : Polynomial E → Bool
      free_lead_of h = is_free k (leading_monomial o cmp h)

      abbrev ps : List (Polynomial E)
      ps = free_part o cmp k hs

      part_first : AllFirst o l v ps
      part_first = first_from o l v ps (λ h m. let (p, inside, e) = place_of [] hs (filter-in free_lead_of hs m) in subst (InFirst o l v) e (first p))

      part_members : AreMembers o fs ps
      part_members = all_from (IsMember o fs) [] ps (λ p inside. all_has (IsMember o fs) hs members (filter-in free_lead_of hs (has_at [] ps p inside)))

      -- the leading monomial of a free member is divided by that of a free element
      part_reducible : (f : Polynomial E) → InFirst o l v f → IsFreeOf o k f → IsMember o fs f → IsFalse (is_zero o f) → IsTrue (is_reducible o cmp ps (leading_monomial o cmp f))
      part_reducible f r free m n =
          let ((p, z), d) = reducible_place o cmp hs (leading_monomial o cmp f) (divided_first o l v cmp order fs hs basis f r m n) in
          let q : IsTrue (free_lead_of (get_or hs p [])) = divides-free k _ (leading_monomial o cmp f) (divisor-divides _ (leading_monomial o cmp f) d) (free (leading_monomial o cmp f) (leading_monomial-leads o l cmp order.laws f n).has) in
          let (j, there, e) = place_of [] ps (has-filter free_lead_of (has_at [] hs p (place-inside o cmp hs (p, z))) q) in
          place_reducible o cmp ps (leading_monomial o cmp f) (j, ap (is_zero o) e ∙ z) (subst (λ (h : Polynomial E). Divisor (monomial (leading_monomial o cmp h)) (monomial (leading_monomial o cmp f))) (sym e) d)

      part_generates : (f : Polynomial E) → InFirst o l v f → IsFreeOf o k f → IsMember o fs f → (b : Bool) → is_zero o f ≡ b → IsMember o ps f
      part_generates f r free m true z = member_zero o l ps f z
      part_generates f r free m false n = divided (division_exists o l field cmp v order ps part_first f r)
        where
          divided : (steps : List (Step E)) × (rest : Polynomial E) × IsDivision o cmp ps f steps rest → IsMember o ps f
          divided (steps, rest, d) = zero-member o l cmp ps ps f rest (division-normal_form o l cmp ps ps (own_members o l ps) f steps rest d) (none (is_zero o rest) refl)
            where
              rest_first : InFirst o l v rest
              rest_first = steps-first o l cmp v order ps part_first f steps rest d.by_steps r

              rest_member : IsMember o fs rest
              rest_member = steps-member o l cmp fs ps part_members f m steps rest d.by_steps

              rest_free : IsFreeOf o k rest
              rest_free e has = eliminates e (leading_monomial o cmp f) (left-bounded o l cmp ps v order part_first f r rest steps d.by_steps e has) (free (leading_monomial o cmp f) (leading_monomial-leads o l cmp order.laws f n).has)

              none : (b : Bool) → is_zero o rest ≡ b → is_zero o rest ≡ true
              none true z = z
              none false z = absurd (true≢false (sym (part_reducible rest rest_first rest_free rest_member z) ∙ d.irreducible (leading_monomial o cmp rest) (leading_monomial-leads o l cmp order.laws rest z).has))

      -- the part of a Gröbner basis that is free is one of the free polynomials of the ideal
      pub part_basis : IsEliminationBasis o cmp v k fs ps
      part_basis = record {
        free = all_from (IsFreeOf o k) [] ps (λ p inside. element_free (get_or ps p []) (filter-passes free_lead_of hs (has_at [] ps p inside)) (is_zero o (get_or ps p [])) refl);
        members = part_members;
        generate = λ f h free m. part_generates f (in_variables-of o l v f h) free m (is_zero o f) refl;
        divided = λ f h free m n. part_reducible f (in_variables-of o l v f h) free m n;
      }

-- ---- what a reduced basis has, its part has

-- of each pair of places the elements stand in a relation
pairs_at : {X : Type 0} (R : X → X → Type 0) (d : X) (xs : List X) → ((g h : X) → R g h → R h g) → AllPairs R xs → (i j : ℕ) → i < length xs → j < length xs → (i ≡ j → ⊥) → R (get_or xs i d) (get_or xs j d)
pairs_at R d xs turn all i j ii jj differ = elim (cases_Bool (nat_lt i j)) [
  | inl low ↦ all i j d (grind (arith, nat_tests, low)) jj
  | inr high ↦ turn (get_or xs j d) (get_or xs i d) (all j i d (above i j differ high) ii)
]
  where
    above : (i j : ℕ) → (i ≡ j → ⊥) → nat_lt i j ≡ false → j < i
    above i j differ high = elim (cases_Bool (i == j)) [
      | inl e ↦ absurd (differ (eqb-true i j e))
      | inr e ↦ grind (arith, nat_tests, high, e)
    ]

module _ {E : Type 0} (o : RingOps E) (cmp : List ℕ → List ℕ → Ordering) (k : ℕ) (hs : List (Polynomial E)) where
  abbrev Apart : Polynomial E → Polynomial E → Type 0
  Apart g h = (m : List ℕ) → (IsTrue (has_monomial o g m) → IsFalse (lead_divides o cmp h m)) × (IsTrue (has_monomial o h m) → IsFalse (lead_divides o cmp g m))

  -- monic elements
  pub part-monic : AreMonic o cmp hs → AreMonic o cmp (free_part o cmp k hs)
  part-monic monic p inside =
      let (j, there, e) = place_of [] hs (filter-in (λ h. is_free k (leading_monomial o cmp h)) hs (has_at [] (free_part o cmp k hs) p inside)) in
      subst (λ (h : Polynomial E). IsSame o (leading_coefficient o cmp h) o.one) e (monic j there)

  -- elements that are apart
  pub part-apart : AreApart o cmp hs → AreApart o cmp (free_part o cmp k hs)
  part-apart apart i j ii jj differ m has = (pairs_at Apart [] (free_part o cmp k hs) (λ g h r m. ((r m).1, (r m).0)) (AllPairs-filter Apart (λ h. is_free k (leading_monomial o cmp h)) hs whole) i j ii jj differ m).0 has
    where
      whole : AllPairs Apart hs
      whole i j d below inside = subst (λ (g : Polynomial E). Apart g (get_or hs j d)) (get_or_default hs i [] d (omega (arith, below, inside))) (subst (Apart (get_or hs i [])) (get_or_default hs j [] d inside) (λ m. (
        apart i j (omega (arith, below, inside)) inside (λ e. omega (arith, below, e)) m,
        apart j i inside (omega (arith, below, inside)) (λ e. omega (arith, below, e)) m,
      )))

  -- elements that ascend
  pub part-ascends : Ascend o cmp hs → Ascend o cmp (free_part o cmp k hs)
  part-ascends a = AllPairs-filter (λ f g. cmp (leading_monomial o cmp f) (leading_monomial o cmp g) ≡ Less) (λ h. is_free k (leading_monomial o cmp h)) hs a
