-- The elements of a Gröbner basis without the first variables are a Gröbner basis of their own ideal, in all variables.
--   filter-has, list-has    elements of a filtered list
--   free_first, free_nonzero    the elements are sums of terms in v variables, and not zero
--   free-basis           the fact
use Rattle.std.proofs.Common.{◌≡◌, ℕ, zero, suc, ◌+◌, ◌≤◌, ◌<◌, Bool, true, false, max, cond, List, [], ◌∷◌, append-nil, length, take, sum, get_or, filter, refl, sym, ◌∙◌, ap, subst, inl, inr, arith, IsTrue, true≢false}
use Rattle.std.specs.Prelude.{IsFalse, ◌==◌}
use Rattle.std.specs.Ordering.{is_ge, ordering_reverse}
use Rattle.std.specs.declared.cmp.Ordering.{Ordering}
use Rattle.std.specs.declared.cmp.Ordering.TheVariants.{Less}
use Rattle.std.proofs.lemmas.Bool.{eqb-true}
use Rattle.std.proofs.lemmas.List.Sums.{sum_by-cons}
use Rattle.rinv_algebra.specs.Ring.{RingOps, RingLaws, FieldLaws, IsSame}
use Rattle.rinv_algebra.specs.Monomial.{lcm, coprime}
use Rattle.rinv_algebra.specs.Polynomial.{Polynomial, poly_ops, has_monomial, is_zero}
use Rattle.rinv_algebra.specs.Normal.{is_in_variables}
use Rattle.rinv_algebra.specs.Ideal.{IsMember}
use Rattle.rinv_algebra.specs.Leading.{leading_monomial, s_polynomial}
use Rattle.rinv_algebra.proofs.PolynomialLaws.{poly_laws}
use Rattle.rinv_theory.proofs.Classes.{class_sound, class-zero}
use Rattle.rinv_theory.proofs.Monoid.{monomial}
use Rattle.rinv_theory.proofs.Polynomials.{polynomials}
use Rattle.rinv_theory.proofs.Of.{of-weaken}
use Rattle.rinv_groebner.specs.Orders.{OrdersMonomials}
use Rattle.rinv_groebner.specs.Division.{Step, IsDivision}
use Rattle.rinv_groebner.specs.Basis.{AreNonzero, IsGroebnerBasis}
use Rattle.rinv_groebner.specs.Settled.{AreCoprime}
use Rattle.rinv_groebner.specs.Journal.{kept_steps}
use Rattle.rinv_groebner.specs.Elimination.{is_free, Eliminates, IsFreeOf, free_part, IsEliminationBasis}
use Rattle.rinv_groebner.proofs.Ascending.{Has, split, has_at, place_of}
use Rattle.rinv_groebner.proofs.Multiples.{Multiples}
use Rattle.rinv_groebner.proofs.Elements.{IsBelow}
use Rattle.rinv_groebner.proofs.Pairs.{IsGood}
use Rattle.rinv_groebner.proofs.Compared.{all_monomials, InFirst, of_passes, has-coefficient, coefficient-has, has_front, below_less}
use Rattle.rinv_groebner.proofs.DivisionLaws.{left-bounded}
use Rattle.rinv_groebner.proofs.EliminationLists.{part_basis}
use Rattle.rinv_groebner.proofs.Generates.{steps-first}
use Rattle.rinv_groebner.proofs.GoodPairs.{is_below, below-from}
use Rattle.rinv_groebner.proofs.IdealBases.{all_has, list_basis, nonzero_has}
use Rattle.rinv_groebner.proofs.JournalGood.{zero-good}
use Rattle.rinv_groebner.proofs.LeadingMonomials.{leading_monomial-leads}
use Rattle.rinv_groebner.proofs.ListBases.{good-list_basis}
use Rattle.rinv_groebner.proofs.ListElements.{AllFirst, Place, list_elements}
use Rattle.rinv_groebner.proofs.MemberLists.{member-same, member-subtract, member-term}
use Rattle.rinv_groebner.proofs.NextSteps.{division_exists}
use Rattle.rinv_groebner.proofs.NormalForms.{steps-member}
use Rattle.rinv_groebner.proofs.PairsOfLists.{s_polynomial-first, s_polynomial-passes, quotients-good, coprime-good, lcm_front}
use Rattle.rinv_groebner.proofs.Reducible.{place-inside, is_zero-same}
use Rattle.rinv_groebner.proofs.Removed.{first_from}
use Rattle.rinv_groebner.proofs.SettledLists.{all-good}
use Rattle.rinv_cut.proofs.Trimmed.{trimmed, trimmed-in, trimmed-same}

-- an element of a filtered list is one of the list
pub list-has : {A : Type 0} (test : A → Bool) {x : A} (xs : List A) → Has x (filter test xs) → Has x xs
list-has test [] h = h
list-has test {x} (y ∷ xs) h = go (test y) h (λ m. Has.later (list-has test xs m))
  where
    go : (b : Bool) → Has x (cond b (y ∷ filter test xs) (filter test xs)) → (Has x (filter test xs) → Has x (y ∷ xs)) → Has x (y ∷ xs)
    go true m again = elim (split m) [ inl e ↦ subst (λ z. Has z (y ∷ xs)) (sym e) Has.first | inr k ↦ again k ]
    go false m again = again m

-- the degree of a least common multiple in the first variables
lcm-degree : (k : ℕ) (a b : List ℕ) → sum (take k (lcm a b)) ≤ sum (take k a) + sum (take k b)
unfolding lcm
lcm-degree zero a b = omega arith
lcm-degree (suc k) [] b = omega arith
lcm-degree (suc k) (x ∷ a) [] = omega arith
lcm-degree (suc k) (x ∷ a) (y ∷ b) =
    let rest = lcm-degree k a b in
    omega (arith, rest, sum_by-cons (λ (n : ℕ). n) (max x y) (take k (lcm a b)), sum_by-cons (λ (n : ℕ). n) x (take k a), sum_by-cons (λ (n : ℕ). n) y (take k b))

-- so that of monomials free of them is free
lcm-free : (k : ℕ) (a b : List ℕ) → IsTrue (is_free k a) → IsTrue (is_free k b) → IsTrue (is_free k (lcm a b))
lcm-free k a b fa fb =
    let low = lcm-degree k a b in
    let ea : sum (take k a) ≡ 0 = eqb-true _ _ fa in
    let eb : sum (take k b) ≡ 0 = eqb-true _ _ fb in
    ap (λ (n : ℕ). n == 0) {x = sum (take k (lcm a b))} {y = 0} (omega (arith, low, ea, eb))

module _ {E : Type 0} (o : RingOps E) (l : RingLaws o) (field : FieldLaws o) (cmp : List ℕ → List ℕ → Ordering) (v k : ℕ) (order : OrdersMonomials cmp v) (eliminates : Eliminates cmp k)
    (fs hs : List (Polynomial E)) (first : AllFirst o l v hs) (nonzero : AreNonzero o hs) (basis : IsGroebnerBasis o cmp v fs hs) where
  abbrev free_lead_of : Polynomial E → Bool
  free_lead_of h = is_free k (leading_monomial o cmp h)

  abbrev ps : List (Polynomial E)
  ps = free_part o cmp k hs

  pub part : IsEliminationBasis o cmp v k fs (free_part o cmp k hs)
  part = part_basis o l cmp v order k eliminates field fs hs first (list_basis o l v cmp order fs hs field first basis.ideal.0 basis.divided) basis.ideal.0

  pub free_first : AllFirst o l v (free_part o cmp k hs)
  free_first = first_from o l v ps (λ h m. let (p, inside, e) = place_of [] hs (list-has free_lead_of hs m) in subst (InFirst o l v) e (first p))

  pub free_nonzero : (p : ℕ) → p < length (free_part o cmp k hs) → IsFalse (is_zero o (get_or (free_part o cmp k hs) p []))
  free_nonzero p inside = nonzero_has o hs nonzero (get_or ps p []) (list-has free_lead_of hs (has_at [] ps p inside))

  module _ (x y : Place o (free_part o cmp k hs)) where
    abbrev at : Place o ps → Polynomial E
    at z = get_or ps z.0 []

    abbrev lead : Place o ps → List ℕ
    lead z = leading_monomial o cmp (at z)

    abbrev s : Polynomial E
    s = s_polynomial o cmp (at x) (at y)

    lead_free : (z : Place o ps) → IsTrue (is_free k (lead z))
    lead_free z = all_has (IsFreeOf o k) ps part.free (has_at [] ps z.0 (place-inside o cmp ps z)) (lead z) (leading_monomial-leads o l cmp order.laws (at z) z.1).has

    member_at : (z : Place o ps) → IsMember o fs (at z)
    member_at z = all_has (IsMember o fs) ps part.members (has_at [] ps z.0 (place-inside o cmp ps z))

    s_member : IsMember o fs s
    unfolding s_polynomial
    s_member = member-subtract o l fs _ _ (member-term o l fs _ (at x) (member_at x)) (member-term o l fs _ (at y) (member_at y))

    s_first : InFirst o l v s
    s_first = s_polynomial-first o l field cmp v order ps free_first x y

    -- its monomials are below the least common multiple of the leading monomials, so they are free
    s_free : IsFreeOf o k s
    s_free m has = eliminates m (lcm (lead x) (lead y)) (ap is_ge (order.laws.total.antisymm (lcm (lead x) (lead y)) m ∙ ap ordering_reverse less)) (lcm-free k (lead x) (lead y) (lead_free x) (lead_free y))
      where
        below : (all_monomials cmp v order).below (monomial m) (monomial (lcm (lead x) (lead y)))
        below = below-from (all_monomials cmp v order) (monomial (lcm (lead x) (lead y))) (monomial m)
            (of_passes (polynomials o l) (is_below (all_monomials cmp v order) (monomial (lcm (lead x) (lead y)))) (monomial m) (of-weaken (polynomials o l) (λ n q. q.1) (s_polynomial-passes o l field cmp v order ps free_first x y)) (has-coefficient o l s m has))

        less : cmp m (lcm (lead x) (lead y)) ≡ Less
        less = below_less cmp v order m (lcm (lead x) (lead y)) (has_front o l v s s_first m has) (lcm_front o l field cmp v order ps free_first x y) below

    -- what division of a free member by the free elements leaves is zero
    rest_zero : (steps : List (Step E)) (rest : Polynomial E) → IsDivision o cmp ps s steps rest → IsFalse (is_zero o s) → (b : Bool) → is_zero o rest ≡ b → is_zero o rest ≡ true
    rest_zero steps rest d n true z = z
    rest_zero steps rest d n false z = absurd (true≢false (sym (part.divided g g_in g_free g_member (is_zero-same o cmp l v order g rest same ∙ z)) ∙ d.irreducible (leading_monomial o cmp g) (moved (leading_monomial o cmp g) (leading_monomial-leads o l cmp order.laws g (is_zero-same o cmp l v order g rest same ∙ z)).has)))
      where
        rest_first : InFirst o l v rest
        rest_first = steps-first o l cmp v order ps free_first s steps rest d.by_steps s_first

        g : Polynomial E
        g = trimmed o l v rest

        g_in : IsTrue (is_in_variables v g)
        g_in = trimmed-in o l v rest

        same : IsSame (poly_ops o) g rest
        same = trimmed-same o l v rest rest_first

        moved : (m : List ℕ) → IsTrue (has_monomial o g m) → IsTrue (has_monomial o rest m)
        moved m has = coefficient-has o l rest m (λ zero. has-coefficient o l g m has (ap (λ x. (polynomials o l).coefficient x (monomial m)) (class_sound (poly_ops o) (poly_laws o l) g rest same) ∙ zero))

        g_member : IsMember o fs g
        g_member = member-same o l fs rest g ((poly_laws o l).same_sym g rest same) (steps-member o l cmp fs ps part.members s s_member steps rest d.by_steps)

        g_free : IsFreeOf o k g
        g_free m has = eliminates m (leading_monomial o cmp s) (left-bounded o l cmp ps v order free_first s s_first rest steps d.by_steps m (moved m has)) (s_free (leading_monomial o cmp s) (leading_monomial-leads o l cmp order.laws s n).has)

    abbrev Good : Type 0
    Good = IsGood (list_elements o l field cmp v order ps free_first) x y

    pub pair-good : Good
    pair-good = by_coprime (coprime (lead x) (lead y)) refl
      where
        divided : (AreCoprime o cmp ps x.0 y.0 → ⊥) → IsFalse (is_zero o s) → (steps : List (Step E)) × (rest : Polynomial E) × IsDivision o cmp ps s steps rest → Good
        divided not_coprime n (steps, rest, d) =
            zero-good o l field cmp v order ps free_first free_nonzero ps [] (sym (append-nil ps)) x y (place-inside o cmp ps x) (place-inside o cmp ps y) (kept_steps (length steps)) rest
            (record { not_coprime = not_coprime; steps = steps; division = d; counted = refl }) (rest_zero steps rest d n (is_zero o rest) refl)

        by_zero : (AreCoprime o cmp ps x.0 y.0 → ⊥) → (b : Bool) → is_zero o s ≡ b → Good
        by_zero not_coprime true z = quotients-good o l field cmp v order ps free_first x y
            (subst (IsBelow (list_elements o l field cmp v order ps free_first) (monomial (lcm (lead x) (lead y)))) (sym (class_sound (poly_ops o) (poly_laws o l) s [] z ∙ class-zero (poly_ops o) (poly_laws o l))) Multiples.none)
        by_zero not_coprime false n = divided not_coprime n (division_exists o l field cmp v order ps free_first s s_first)

        by_coprime : (b : Bool) → coprime (lead x) (lead y) ≡ b → Good
        by_coprime true e = coprime-good o l field cmp v order ps free_first x y e
        by_coprime false e = by_zero (λ c. true≢false (sym c ∙ e)) (is_zero o s) refl

  -- the elements are a Gröbner basis
  pub free-basis : IsGroebnerBasis o cmp v (free_part o cmp k hs) (free_part o cmp k hs)
  free-basis = good-list_basis o l field cmp v order ps free_first (all-good o l field cmp v order ps free_first (λ x y low. pair-good x y))
