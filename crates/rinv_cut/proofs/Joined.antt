-- A reduced basis of the free elements, and the elements of a reduced basis of the whole ideal that are not free, are together one of the
-- whole ideal.
--   joined-basis         the fact
use Rattle.std.proofs.Common.{◌≡◌, ◌⊎◌, ℕ, ◌<◌, Bool, true, false, not, ◌==◌, List, [], ◌++◌, length, get_or, filter, refl, sym, ◌∙◌, ap, subst, inl, inr, arith, IsTrue, true≢false, AllPairs}
use Rattle.std.specs.Prelude.{IsFalse}
use Rattle.std.specs.Ordering.{is_ge, ordering_reverse}
use Rattle.std.specs.declared.cmp.Ordering.{Ordering}
use Rattle.std.specs.declared.cmp.Ordering.TheVariants.{Less, Equal, Greater}
use Rattle.std.proofs.lemmas.Bool.{eqb-true, cases_order}
use Rattle.std.proofs.lemmas.Cmp.{tied_itself}
use Rattle.std.proofs.lemmas.List.{get_or_default}
use Rattle.std.proofs.lemmas.List.Kept.{AllPairs-filter}
use Rattle.rinv_algebra.specs.Ring.{RingOps, RingLaws, FieldLaws, IsSame}
use Rattle.rinv_algebra.specs.Polynomial.{Polynomial, has_monomial, is_zero}
use Rattle.rinv_algebra.specs.Normal.{is_in_variables}
use Rattle.rinv_algebra.specs.Ideal.{IsMember}
use Rattle.rinv_algebra.specs.Leading.{leading_monomial, leading_coefficient}
use Rattle.rinv_theory.proofs.Monoid.{monomial, monomials}
use Rattle.rinv_theory.proofs.Variables.{IsFront, in_variables-of}
use Rattle.rinv_groebner.specs.Orders.{OrdersMonomials, AreInVariables}
use Rattle.rinv_groebner.specs.Division.{lead_divides, is_reducible}
use Rattle.rinv_groebner.specs.Basis.{AreMembers, AreNonzero, IsGroebnerBasis}
use Rattle.rinv_groebner.specs.Elimination.{is_free, Eliminates, free_part, IsEliminationBasis}
use Rattle.rinv_groebner.specs.Reduced.{IsReducedGroebnerBasis, AreMonic, Ascend}
use Rattle.rinv_groebner.proofs.Ascending.{Has, has_at, place_of}
use Rattle.rinv_groebner.proofs.Compared.{all_monomials, has_front, below_less}
use Rattle.rinv_groebner.proofs.EliminationLists.{divides-free, free_lead}
use Rattle.rinv_groebner.proofs.Generates.{generates, own_members}
use Rattle.rinv_groebner.proofs.Greatest.{has-filter, filter-passes}
use Rattle.rinv_groebner.proofs.IdealBases.{all_from, all_has, AreDivided}
use Rattle.rinv_groebner.proofs.LeadingMonomials.{leading_monomial-leads}
use Rattle.rinv_groebner.proofs.ListElements.{AllFirst, all_first}
use Rattle.rinv_groebner.proofs.MonomialLists.{divisor-divides}
use Rattle.rinv_groebner.proofs.ReducedLists.{members_trans, monic-nonzero}
use Rattle.rinv_groebner.proofs.Reducible.{divides-parts, parts_divide}
use Rattle.rinv_cut.proofs.FreeBasis.{list-has, part, free_nonzero, free-basis}
use Rattle.rinv_cut.proofs.Sorted.{sorted, sorted-has, has-sorted, sorted-ascends}
use Rattle.rinv_cut.proofs.Written.{written-basis}
use Rattle.rinv_cut.proofs.JoinedLists.{differ, has-append, append-left, append-right, filter-joined, pairs-joined, in-has, in-from, has-reducible, reducible-has, lead-trans, monic-has, apart_in, off}

module _ {E : Type 0} (o : RingOps E) (l : RingLaws o) (field : FieldLaws o) (cmp : List ℕ → List ℕ → Ordering) where
  abbrev lead : Polynomial E → List ℕ
  lead h = leading_monomial o cmp h

  nonzero-has : (xs : List (Polynomial E)) → AreMonic o cmp xs → (h : Polynomial E) → Has h xs → IsFalse (is_zero o h)
  nonzero-has xs monic h has = monic-nonzero o l field cmp h (monic-has o cmp xs monic h has)

  module _ (v k : ℕ) (order : OrdersMonomials cmp v) (eliminates : Eliminates cmp k) (fs hs : List (Polynomial E)) (hs_in : AreInVariables v hs) (nonzero : AreNonzero o hs) (basis : IsGroebnerBasis o cmp v fs hs)
      (gs : List (Polynomial E)) (gs_in : AreInVariables v gs) (gs_reduced : IsReducedGroebnerBasis o cmp v (free_part o cmp k hs) gs) (up : Ascend o cmp gs)
      (bs : List (Polynomial E)) (bs_reduced : IsReducedGroebnerBasis o cmp v fs bs) (bs_in : AreInVariables v bs) where
    abbrev is_free_lead : Polynomial E → Bool
    is_free_lead h = is_free k (leading_monomial o cmp h)

    abbrev is_other : Polynomial E → Bool
    is_other h = not (is_free k (leading_monomial o cmp h))

    abbrev ps : List (Polynomial E)
    ps = free_part o cmp k hs

    abbrev ns : List (Polynomial E)
    ns = sorted (leading_monomial o cmp) cmp order.laws.total (filter is_other bs)

    abbrev both_parts : List (Polynomial E)
    both_parts = gs ++ ns

    abbrev hs_first : AllFirst o l v hs
    hs_first = all_first o l v hs hs_in

    elimination : IsEliminationBasis o cmp v k fs ps
    elimination = part o l field cmp v k order eliminates fs hs hs_first nonzero basis

    leads : (h : Polynomial E) → IsFalse (is_zero o h) → IsTrue (has_monomial o h (lead h))
    leads h n = (leading_monomial-leads o l cmp order.laws h n).has

    off-not : (b : Bool) → not b ≡ true → b ≡ false
    off-not true e = absurd (true≢false (sym e))
    off-not false e = refl

    -- ---- the elements that are not free

    ns_of : (h : Polynomial E) → Has h ns → Has h bs × (is_free_lead h ≡ false)
    ns_of h m =
        let f = sorted-has (leading_monomial o cmp) cmp order.laws.total (filter is_other bs) h m in
        (list-has is_other bs f, off-not (is_free_lead h) (filter-passes is_other bs f))

    ns-from : (h : Polynomial E) → Has h bs → is_free_lead h ≡ false → Has h ns
    ns-from h m e = has-sorted (leading_monomial o cmp) cmp order.laws.total (filter is_other bs) h (has-filter is_other m (ap not e))

    bs_nonzero : (h : Polynomial E) → Has h bs → IsFalse (is_zero o h)
    bs_nonzero h m = nonzero-has bs bs_reduced.monic h m

    bs_member : (h : Polynomial E) → Has h bs → IsMember o fs h
    bs_member h m = all_has (IsMember o fs) bs bs_reduced.basis.ideal.0 m

    -- leading monomials of two elements do not tie
    lead_front : (h : Polynomial E) → Has h bs → IsFront v (monomial (lead h))
    lead_front h m = has_front o l v h (in_variables-of o l v h (in-has v bs bs_in m)) (lead h) (leads h (bs_nonzero h m))

    clash : Equal ≡ Less → ⊥
    clash e = cc

    clash_too : Equal ≡ Greater → ⊥
    clash_too e = cc

    untied_at : (i j : ℕ) → i < j → j < length bs → cmp (leading_monomial o cmp (get_or bs i [])) (leading_monomial o cmp (get_or bs j [])) ≡ Equal → ⊥
    untied_at i j below inside tie = go ((all_monomials cmp v order).total (monomial (lead g)) (monomial (lead h)))
      where
        low : i < length bs
        low = omega (arith, below, inside)

        g : Polynomial E
        g = get_or bs i []

        h : Polynomial E
        h = get_or bs j []

        g_has : Has g bs
        g_has = has_at [] bs i low

        h_has : Has h bs
        h_has = has_at [] bs j inside

        go : (all_monomials cmp v order).below (monomial (lead g)) (monomial (lead h)) ⊎ (monomial (lead g) ≡ monomial (lead h)) ⊎ (all_monomials cmp v order).below (monomial (lead h)) (monomial (lead g)) → ⊥
        go (inl b) = clash (sym tie ∙ below_less cmp v order (lead g) (lead h) (lead_front g g_has) (lead_front h h_has) b)
        go (inr (inr b)) = clash_too (sym tie ∙ order.laws.total.antisymm (lead g) (lead h) ∙ ap ordering_reverse (below_less cmp v order (lead h) (lead g) (lead_front h h_has) (lead_front g g_has) b))
        go (inr (inl e)) = true≢false (
            sym (parts_divide o cmp h (lead g) (bs_nonzero h h_has) (divisor-divides (lead h) (lead g) (monomials.one, monomials.one_mul (monomial (lead h)) ∙ sym e)))
            ∙ bs_reduced.apart i j low inside (λ q. omega (arith, below, q)) (lead g) (leads g (bs_nonzero g g_has)))

    untied : AllPairs (λ g h. cmp (leading_monomial o cmp g) (leading_monomial o cmp h) ≡ Equal → ⊥) bs
    untied i j d below inside =
        subst (λ (g : Polynomial E). cmp (leading_monomial o cmp g) (leading_monomial o cmp (get_or bs j d)) ≡ Equal → ⊥) (get_or_default bs i [] d (omega (arith, below, inside)))
        (subst (λ (h : Polynomial E). cmp (leading_monomial o cmp (get_or bs i [])) (leading_monomial o cmp h) ≡ Equal → ⊥) (get_or_default bs j [] d inside) (untied_at i j below inside))

    ns_ascend : Ascend o cmp ns
    ns_ascend = sorted-ascends (leading_monomial o cmp) cmp order.laws.total (filter is_other bs) (AllPairs-filter (λ g h. cmp (leading_monomial o cmp g) (leading_monomial o cmp h) ≡ Equal → ⊥) is_other bs untied)

    -- ---- the elements that are free

    gs_nonzero : (h : Polynomial E) → Has h gs → IsFalse (is_zero o h)
    gs_nonzero h m = nonzero-has gs gs_reduced.monic h m

    gs_member_in : (h : Polynomial E) → Has h gs → IsMember o ps h
    gs_member_in h m = all_has (IsMember o ps) gs gs_reduced.basis.ideal.0 m

    gs_members : AreMembers o fs gs
    gs_members = members_trans o l fs ps gs elimination.members gs_reduced.basis.ideal.0

    -- what the leading monomial of a free element divides, one of these divides
    free_divided : (p : ℕ) → p < length ps → (q : ℕ) × (q < length gs) × IsTrue (lead_divides o cmp (get_or gs q []) (lead (get_or ps p [])))
    free_divided p inside =
        let m = has_at [] ps p inside in
        reducible-has o cmp gs (lead (get_or ps p []))
        (gs_reduced.basis.divided (get_or ps p []) (in-has v hs hs_in (list-has is_free_lead hs m)) (all_has (IsMember o ps) ps (own_members o l ps) m) (free_nonzero o l field cmp v k order eliminates fs hs hs_first nonzero basis p inside))

    gs_free_at : (i : ℕ) → i < length gs → IsTrue (is_free k (leading_monomial o cmp (get_or gs i [])))
    gs_free_at i inside = go (q == i) refl
      where
        h : Polynomial E
        h = get_or gs i []

        h_has : Has h gs
        h_has = has_at [] gs i inside

        by_free : (p : ℕ) × (p < length ps) × IsTrue (lead_divides o cmp (get_or ps p []) (lead h))
        by_free = reducible-has o cmp ps (lead h) ((free-basis o l field cmp v k order eliminates fs hs hs_first nonzero basis).divided h (in-has v gs gs_in h_has) (gs_member_in h h_has) (gs_nonzero h h_has))

        by_own : (q : ℕ) × (q < length gs) × IsTrue (lead_divides o cmp (get_or gs q []) (lead (get_or ps by_free.0 [])))
        by_own = free_divided by_free.0 by_free.1

        q : ℕ
        q = by_own.0

        p_free : IsTrue (is_free_lead (get_or ps by_free.0 []))
        p_free = filter-passes is_free_lead hs (has_at [] ps by_free.0 by_free.1)

        go : (b : Bool) → (q == i) ≡ b → IsTrue (is_free k (lead h))
        go true e = divides-free k (lead h) (lead (get_or ps by_free.0 []))
            (divides-parts o cmp h (lead (get_or ps by_free.0 [])) (subst (λ (j : ℕ). IsTrue (lead_divides o cmp (get_or gs j []) (lead (get_or ps by_free.0 [])))) (eqb-true q i e) by_own.2)).1 p_free
        go false e = absurd (true≢false (sym (lead-trans o cmp (get_or gs q []) (get_or ps by_free.0 []) (lead h) by_own.2 by_free.2) ∙ gs_reduced.apart i q inside by_own.1 (λ same. differ q i e (sym same)) (lead h) (leads h (gs_nonzero h h_has))))

    gs_free : (h : Polynomial E) → Has h gs → IsTrue (is_free_lead h)
    gs_free h m = let (i, inside, e) = place_of [] gs m in subst (λ (g : Polynomial E). IsTrue (is_free_lead g)) e (gs_free_at i inside)

    -- ---- both

    members : AreMembers o fs both_parts
    members = all_from (IsMember o fs) [] both_parts (λ j inside. of_either (get_or both_parts j []) (has-append gs ns (has_at [] both_parts j inside)))
      where
        of_either : (h : Polynomial E) → Has h gs ⊎ Has h ns → IsMember o fs h
        of_either h (inl m) = all_has (IsMember o fs) gs gs_members m
        of_either h (inr m) = bs_member h (ns_of h m).0

    parts_in : AreInVariables v both_parts
    parts_in = in-from v both_parts (λ h m. of_either h (has-append gs ns m))
      where
        of_either : (h : Polynomial E) → Has h gs ⊎ Has h ns → IsTrue (is_in_variables v h)
        of_either h (inl m) = in-has v gs gs_in m
        of_either h (inr m) = in-has v bs bs_in (ns_of h m).0

    divided : AreDivided o l v cmp order fs both_parts
    divided f f_in m n = go (is_free_lead b) refl
      where
        by : (q : ℕ) × (q < length bs) × IsTrue (lead_divides o cmp (get_or bs q []) (lead f))
        by = reducible-has o cmp bs (lead f) (bs_reduced.basis.divided f f_in m n)

        b : Polynomial E
        b = get_or bs by.0 []

        b_has : Has b bs
        b_has = has_at [] bs by.0 by.1

        go : (c : Bool) → is_free_lead b ≡ c → IsTrue (is_reducible o cmp both_parts (lead f))
        go false e = has-reducible o cmp both_parts (lead f) b (append-right gs ns (ns-from b b_has e)) by.2
        go true e =
            let (p, inside, d) = reducible-has o cmp ps (lead b) (elimination.divided b (in-has v bs bs_in b_has) (free_lead o l cmp v order k eliminates b (bs_nonzero b b_has) e) (bs_member b b_has) (bs_nonzero b b_has)) in
            let (q, there, c) = free_divided p inside in
            has-reducible o cmp both_parts (lead f) (get_or gs q []) (append-left {z = get_or gs q []} gs ns (has_at [] gs q there)) (lead-trans o cmp (get_or gs q []) b (lead f) (lead-trans o cmp (get_or gs q []) (get_or ps p []) (lead b) c d) by.2)

    whole_basis : IsGroebnerBasis o cmp v fs both_parts
    whole_basis = record {
      ideal = (
        members,
        members_trans o l both_parts bs fs (all_from (IsMember o both_parts) [] bs (λ j inside. generates o l cmp v order both_parts (all_first o l v both_parts parts_in) field fs members divided (get_or bs j []) (all_first o l v bs bs_in j) (bs_member (get_or bs j []) (has_at [] bs j inside)))) bs_reduced.basis.ideal.1,
      );
      divided = divided;
    }

    monic : AreMonic o cmp both_parts
    monic j inside = of_either (get_or both_parts j []) (has-append gs ns (has_at [] both_parts j inside))
      where
        of_either : (h : Polynomial E) → Has h gs ⊎ Has h ns → IsSame o (leading_coefficient o cmp h) o.one
        of_either h (inl m) = monic-has o cmp gs gs_reduced.monic h m
        of_either h (inr m) = monic-has o cmp bs bs_reduced.monic h (ns_of h m).0

    ascending : Ascend o cmp both_parts
    ascending = pairs-joined (λ f g. cmp (leading_monomial o cmp f) (leading_monomial o cmp g) ≡ Less) gs ns up ns_ascend (λ g h m n. below g h m n (cmp (lead g) (lead h)) refl)
      where
        below : (g h : Polynomial E) → Has g gs → Has h ns → (c : Ordering) → cmp (lead g) (lead h) ≡ c → c ≡ Less
        below g h m n Less e = refl
        below g h m n Equal e = absurd (true≢false (sym (eliminates (lead h) (lead g) (ap is_ge e) (gs_free g m)) ∙ (ns_of h n).1))
        below g h m n Greater e = absurd (true≢false (sym (eliminates (lead h) (lead g) (ap is_ge e) (gs_free g m)) ∙ (ns_of h n).1))

    -- elements at two places are two
    apart_leads : (i j : ℕ) → i < length both_parts → j < length both_parts → (i ≡ j → ⊥) → get_or both_parts i [] ≡ get_or both_parts j [] → ⊥
    apart_leads i j low high n same = elim (cases_order i j) [
      | inl e ↦ n e
      | inr (inl b) ↦ tied (get_or both_parts i []) (get_or both_parts j []) same (ascending i j [] b high)
      | inr (inr a) ↦ tied (get_or both_parts j []) (get_or both_parts i []) (sym same) (ascending j i [] a low)
    ]
      where
        tied : (g h : Polynomial E) → g ≡ h → cmp (lead g) (lead h) ≡ Less → ⊥
        tied g h e less = clash (sym (tied_itself order.laws.total (lead g)) ∙ subst (λ (f : Polynomial E). cmp (lead g) (lead f) ≡ Less) (sym e) less)

    two_apart : (g h : Polynomial E) → (g ≡ h → ⊥) → Has g gs ⊎ Has g ns → Has h gs ⊎ Has h ns → (m : List ℕ) → IsTrue (has_monomial o g m) → IsFalse (lead_divides o cmp h m)
    two_apart g h n (inl a) (inl b) m has = apart_in o cmp gs gs_reduced.apart g h a b n m has
    two_apart g h n (inr a) (inr b) m has = apart_in o cmp bs bs_reduced.apart g h (ns_of g a).0 (ns_of h b).0 n m has
    two_apart g h n (inl a) (inr b) m has = off o cmp h m (λ d. true≢false (sym (divides-free k (lead h) m (divides-parts o cmp h m d).1 (free_lead o l cmp v order k eliminates g (gs_nonzero g a) (gs_free g a) m has)) ∙ (ns_of h b).1))
    two_apart g h n (inr a) (inl b) m has = off o cmp h m (λ d.
        let (q, there, e) = reducible-has o cmp bs (lead h) (bs_reduced.basis.divided h (in-has v gs gs_in b) (all_has (IsMember o fs) gs gs_members b) (gs_nonzero h b)) in
        let free = divides-free k (lead (get_or bs q [])) (lead h) (divides-parts o cmp (get_or bs q []) (lead h) e).1 (gs_free h b) in
        true≢false (sym (lead-trans o cmp (get_or bs q []) h m e d) ∙ apart_in o cmp bs bs_reduced.apart g (get_or bs q []) (ns_of g a).0 (has_at [] bs q there) (λ same. true≢false (sym free ∙ ap is_free_lead (sym same) ∙ (ns_of g a).1)) m has))

    joined-reduced : IsReducedGroebnerBasis o cmp v fs both_parts
    joined-reduced = record {
      basis = whole_basis;
      monic = monic;
      apart = λ i j low high n m has. two_apart (get_or both_parts i []) (get_or both_parts j []) (apart_leads i j low high n) (has-append gs ns (has_at [] both_parts i low)) (has-append gs ns (has_at [] both_parts j high)) m has;
    }

    part-is : gs ≡ free_part o cmp k both_parts
    part-is = sym (filter-joined is_free_lead gs ns gs_free (λ h m. (ns_of h m).1))

    pub joined : (basis : List (Polynomial E)) × IsReducedGroebnerBasis o cmp v fs basis × AreInVariables v basis × Ascend o cmp basis × (gs ≡ free_part o cmp k basis)
    joined = (both_parts, joined-reduced, parts_in, ascending, part-is)

  pub joined-basis : (v k : ℕ) → OrdersMonomials cmp v → Eliminates cmp k → (fs hs gs : List (Polynomial E)) → AreInVariables v hs → AreNonzero o hs → IsGroebnerBasis o cmp v fs hs → AreInVariables v gs → IsReducedGroebnerBasis o cmp v (free_part o cmp k hs) gs → Ascend o cmp gs
      → (basis : List (Polynomial E)) × IsReducedGroebnerBasis o cmp v fs basis × AreInVariables v basis × Ascend o cmp basis × (gs ≡ free_part o cmp k basis)
  joined-basis v k order eliminates fs hs gs hs_in nonzero basis gs_in reduced up =
      let (bs, bs_reduced, bs_in) = written-basis o l field cmp v order fs hs (all_first o l v hs hs_in) nonzero basis in
      joined v k order eliminates fs hs hs_in nonzero basis gs gs_in reduced up bs bs_reduced bs_in
