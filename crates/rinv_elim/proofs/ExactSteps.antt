-- The steps by which a tail is reduced, with the fractions that are made, are cancelling steps by value.
--   exact-division       so the tail that is left is the rest of a division
use Rattle.std.proofs.Common.{◌≡◌, ◌⊎◌, ℕ, ◌<◌, Bool, true, false, cond, not, ◌&&◌, ◌||◌, List, [], ◌∷◌, ◌++◌, length, map, get_or, refl, sym, ◌∙◌, ap, ap₂, subst, inl, inr, arith, IsTrue, true≢false}
use Rattle.std.specs.Prelude.{IsFalse, All, Contains}
use Rattle.std.specs.List.{list_any}
use Rattle.std.specs.Ordering.{is_ge, ordering_reverse}
use Rattle.std.specs.declared.cmp.Ordering.TheVariants.{Less}
use Rattle.std.proofs.lemmas.Bool.{cases_Bool}
use Rattle.std.proofs.lemmas.List.{length-map, get_or-map}
use Rattle.std.proofs.lemmas.List.Elements.{Contains-get_or, Contains-append_right}
use Rattle.std.proofs.lemmas.List.Folds.{list_any_at}
use Rattle.rinv_algebra.specs.Ring.{IsSame}
use Rattle.rinv_algebra.specs.Residue.{residue_ops}
use Rattle.rinv_algebra.specs.Monomial.{same_monomial, divides, quotient, monomial_product}
use Rattle.rinv_algebra.specs.Order.{grevlex}
use Rattle.rinv_algebra.specs.Polynomial.{poly_ops, coefficient, has_monomial, difference, term_product}
use Rattle.rinv_algebra.specs.Leading.{leading_monomial, leading_coefficient}
use Rattle.rinv_algebra.proofs.RingFacts as facts
use Rattle.rinv_algebra.proofs.Same.{IsAbsent, coefficient-absent}
use Rattle.rinv_algebra.proofs.Grevlex.{grevlex_laws}
use Rattle.rinv_algebra.proofs.MonomialLaws.{same_monomial_refl, same_monomial_sym}
use Rattle.rinv_algebra.proofs.PolynomialLaws.{poly_laws}
use Rattle.rinv_theory.proofs.CRing.{mul_one}
use Rattle.rinv_theory.proofs.Solver.{ring, reading}
use Rattle.rinv_theory.proofs.Classes.{Class, class, class_exact, class-one}
use Rattle.rinv_theory.proofs.Monoid.{monomial, monomials, monomial_sound, monomial_exact, monomial-mul}
use Rattle.rinv_theory.proofs.WellOrders.{tied}
use Rattle.rinv_groebner.specs.Division as division
use Rattle.rinv_groebner.specs.Division.{Step, Steps, start, next, IsNext, IsStep, IsDivision, lead_divides}
use Rattle.rinv_groebner.proofs.MonomialLists.{quotient_divisor}
use Rattle.rinv_groebner.proofs.Reducible.{first_passing}
use Rattle.rinv_groebner.proofs.StepClasses.{class-term_product, class-difference}
use Rattle.rinv_soundness.proofs.GeneratorLists.{all_at}
use Rattle.rinv_defs.specs.System.{System, space_count}
use Rattle.rinv_defs.specs.Invariant.{Fraction}
use Rattle.rinv_defs.specs.Extended.{Relation, FractionPoly, relation_poly, is_reducible}
use Rattle.rinv_invariance.proofs.RelationClasses.{rationals, over_terms, relation-class}
use Rattle.rinv_frac.proofs.Values.{zero-value}
use Rattle.rinv_reduction.specs.Localised.{none}
use Rattle.rinv_reduction.proofs.RelationLeads.{relation-nonzero, lead_same, relation-one}
use Rattle.rinv_reduction.proofs.KeptRelations.{divides_same}
use Rattle.rinv_soundness.proofs.ExtendedIdeals.{laws}
use Rattle.rinv_tails.specs.Reducing.{Reduces, begin, step}
use Rattle.rinv_elim.proofs.AddedTerms.{Q, q_laws, R, cls, term, IsTermLike, AreBelow, AreTails, fractions-of, tails-without, tails-term, class-middle, class-joined, added-all}

any-agree : {X : Type 0} (p q : X → Bool) → ((x : X) → p x ≡ q x) → (xs : List X) → list_any p xs ≡ list_any q xs
any-agree p q h [] = refl
any-agree p q h (x ∷ xs) = ap₂ ◌||◌ (h x) (any-agree p q h xs)

module _ (s : System) (rs : List Relation) where
  -- ---- terms of a tail

  differ : (a b : List ℕ) → grevlex a b ≡ Less → same_monomial a b ≡ false
  differ a b l = elim (cases_Bool (same_monomial a b)) [
    | inl e ↦ absurd (true≢false (sym (ap is_ge (tied grevlex grevlex_laws.total grevlex_laws.kept a b e)) ∙ ap is_ge l))
    | inr n ↦ n
  ]

  turned : (a b : List ℕ) → same_monomial a b ≡ false → same_monomial b a ≡ false
  turned a b h = elim (cases_Bool (same_monomial b a)) [
    | inl e ↦ absurd (true≢false (sym (same_monomial_sym b a e) ∙ h))
    | inr n ↦ n
  ]

  absent_below : (m : List ℕ) (f : FractionPoly) → AreBelow s m f → IsAbsent m f
  absent_below m [] h = tt
  absent_below m (u ∷ f) h = (differ u.0 m h.0, absent_below m f h.1)

  below_middle : (m : List ℕ) (f g : FractionPoly) (t : List ℕ × Fraction) → AreBelow s m (f ++ t ∷ g) → grevlex t.0 m ≡ Less
  below_middle m [] g t h = h.0
  below_middle m (u ∷ f) g t h = below_middle m f g t h.1

  coefficient_there : (f g : FractionPoly) (t : List ℕ × Fraction) → AreTails s (f ++ t ∷ g) → IsSame (Q s) (coefficient (Q s) (f ++ t ∷ g) t.0) t.1
  unfolding coefficient
  coefficient_there [] g t h = subst (λ (b : Bool). IsSame (Q s) (cond b ((Q s).add t.1 (coefficient (Q s) g t.0)) (coefficient (Q s) g t.0)) t.1) (sym (same_monomial_refl t.0))
      (subst (λ (y : Fraction). IsSame (Q s) ((Q s).add t.1 y) t.1) (sym (coefficient-absent (Q s) t.0 g (absent_below t.0 g h.1.0))) ((q_laws s).add_zero t.1))
  coefficient_there (u ∷ f) g t h = subst (λ (b : Bool). IsSame (Q s) (cond b ((Q s).add u.1 (coefficient (Q s) (f ++ t ∷ g) t.0)) (coefficient (Q s) (f ++ t ∷ g) t.0)) t.1) (sym (turned t.0 u.0 (differ t.0 u.0 (below_middle u.0 f g t h.1.0))))
      (coefficient_there f g t h.1.1)

  has_there : (f g : FractionPoly) (t : List ℕ × Fraction) → AreTails s (f ++ t ∷ g) → has_monomial (Q s) (f ++ t ∷ g) t.0 ≡ true
  has_there f g t h = elim (cases_Bool ((Q s).same (coefficient (Q s) (f ++ t ∷ g) t.0) (Q s).zero)) [
    | inl e ↦ absurd (true≢false (sym (facts.then (Q s) (q_laws s) (facts.back (Q s) (q_laws s) (coefficient_there f g t h)) e) ∙ zero-value (residue_ops s.p) (laws s) t.1 like.denominator ∙ like.nonzero))
    | inr n ↦ ap not n
  ]
    where
      like : IsTermLike s t
      like = tails-term s f g t h

  lacks : (f : FractionPoly) (e : List ℕ) → IsAbsent e f → has_monomial (Q s) f e ≡ false
  lacks f e a = ap not (ap (λ (x : Fraction). (Q s).same x (Q s).zero) (coefficient-absent (Q s) e f a) ∙ (q_laws s).same_refl (Q s).zero)

  -- ---- reducible monomials

  reducible-same : (a b : List ℕ) → same_monomial a b ≡ true → is_reducible rs a ≡ is_reducible rs b
  reducible-same a b e = any-agree (λ r. divides r.lead a) (λ r. divides r.lead b) (λ r. divides_same r.lead r.lead a b (same_monomial_refl r.lead) e) rs

  under : (t : List ℕ × Fraction) (e : List ℕ) (g : FractionPoly) → AreBelow s t.0 g → IsAbsent e g ⊎ IsTrue (is_ge (grevlex t.0 e))
  under t e [] h = inl tt
  under t e (u ∷ g) h = go (cases_Bool (same_monomial u.0 e)) (under t e g h.1)
    where
      go : (same_monomial u.0 e ≡ true) ⊎ (same_monomial u.0 e ≡ false) → IsAbsent e g ⊎ IsTrue (is_ge (grevlex t.0 e)) → IsAbsent e (u ∷ g) ⊎ IsTrue (is_ge (grevlex t.0 e))
      go (inl i) rest = inr (ap is_ge (grevlex_laws.total.antisymm t.0 e ∙ ap ordering_reverse (sym (grevlex_laws.total.congr u.0 e t.0 (tied grevlex grevlex_laws.total grevlex_laws.kept u.0 e i)) ∙ h.0)))
      go (inr n) (inl a) = inl (n, a)
      go (inr n) (inr k) = inr k

  top : (f g : FractionPoly) (t : List ℕ × Fraction) (e : List ℕ) → ((u : List ℕ × Fraction) → Contains f u → is_reducible rs u.0 ≡ false) → AreTails s (f ++ t ∷ g) → is_reducible rs e ≡ true
      → IsAbsent e (f ++ t ∷ g) ⊎ IsTrue (is_ge (grevlex t.0 e))
  top [] g t e before h red = go (cases_Bool (same_monomial t.0 e)) (under t e g h.1.0)
    where
      go : (same_monomial t.0 e ≡ true) ⊎ (same_monomial t.0 e ≡ false) → IsAbsent e g ⊎ IsTrue (is_ge (grevlex t.0 e)) → IsAbsent e (t ∷ g) ⊎ IsTrue (is_ge (grevlex t.0 e))
      go (inl i) rest = inr (ap is_ge (tied grevlex grevlex_laws.total grevlex_laws.kept t.0 e i))
      go (inr n) (inl a) = inl (n, a)
      go (inr n) (inr k) = inr k
  top (x ∷ f) g t e before h red = go (cases_Bool (same_monomial x.0 e)) (top f g t e (λ u c. before u (Contains-append_right (x ∷ []) f u c)) h.1.1 red)
    where
      go : (same_monomial x.0 e ≡ true) ⊎ (same_monomial x.0 e ≡ false) → IsAbsent e (f ++ t ∷ g) ⊎ IsTrue (is_ge (grevlex t.0 e)) → IsAbsent e (x ∷ f ++ t ∷ g) ⊎ IsTrue (is_ge (grevlex t.0 e))
      go (inl i) rest = absurd (true≢false (sym red ∙ sym (reducible-same x.0 e i) ∙ before x (Contains-get_or (x ∷ f) 0 x (omega arith))))
      go (inr n) (inl a) = inl (n, a)
      go (inr n) (inr k) = inr k

  all_absent : (f : FractionPoly) (e : List ℕ) → ((u : List ℕ × Fraction) → Contains f u → is_reducible rs u.0 ≡ false) → is_reducible rs e ≡ true → IsAbsent e f
  all_absent [] e h red = tt
  all_absent (x ∷ f) e h red = (off (cases_Bool (same_monomial x.0 e)), all_absent f e (λ u c. h u (Contains-append_right (x ∷ []) f u c)) red)
    where
      off : (same_monomial x.0 e ≡ true) ⊎ (same_monomial x.0 e ≡ false) → same_monomial x.0 e ≡ false
      off (inl i) = absurd (true≢false (sym red ∙ sym (reducible-same x.0 e i) ∙ h x (Contains-get_or (x ∷ f) 0 x (omega arith))))
      off (inr n) = n

  module _ (good : (k : ℕ) → k < length rs → AreTails s (get_or rs k none).tail) (below : All (λ r. All (λ t. grevlex t.0 r.lead ≡ Less) r.tail) rs) where
    abbrev hs : List FractionPoly
    hs = map (relation_poly s) rs

    abbrev at : ℕ → Relation
    at k = get_or rs k none

    below_at : (k : ℕ) → k < length rs → All (λ t. grevlex t.0 (at k).lead ≡ Less) (at k).tail
    below_at k low = all_at (λ (r : Relation). All (λ t. grevlex t.0 r.lead ≡ Less) r.tail) rs k none low below

    element : (k : ℕ) → k < length rs → get_or hs k [] ≡ relation_poly s (at k)
    element k low = get_or-map (relation_poly s) rs k none [] low

    lead-is : (k : ℕ) → k < length rs → (m : List ℕ) → lead_divides (Q s) grevlex (get_or hs k []) m ≡ divides (at k).lead m
    lead-is k low m =
        ap (λ (h : FractionPoly). lead_divides (Q s) grevlex h m) (element k low)
        ∙ ap (λ (z : Bool). not z && divides (leading_monomial (Q s) grevlex (relation_poly s (at k))) m) (relation-nonzero s (at k) (below_at k low))
        ∙ divides_same _ _ m m (lead_same s (at k) (below_at k low)) (same_monomial_refl m)

    reducible_from : (m : List ℕ) → division.is_reducible (Q s) grevlex hs m ≡ true → is_reducible rs m ≡ true
    reducible_from m h =
        let (p, low, d, before) = first_passing (λ (h : FractionPoly). lead_divides (Q s) grevlex h m) [] hs h in
        let long = length-map rs (relation_poly s) in
        let l : p < length rs = omega (arith, low, long) in
        list_any_at (λ (r : Relation). divides r.lead m) rs p none l (sym (lead-is p l m) ∙ d)

    -- a step, made so, is a cancelling step
    made_step : (before after h : FractionPoly) (t : List ℕ × Fraction) (place : ℕ) → place < length rs → IsTrue (divides (at place).lead t.0) → ((j : ℕ) → j < place → IsFalse (divides (at j).lead t.0))
        → ((u : List ℕ × Fraction) → Contains before u → is_reducible rs u.0 ≡ false) → AreTails s (before ++ t ∷ after)
        → cls s h ≡ (R s).add (cls s (before ++ after)) ((R s).mul (term s t.1 (quotient t.0 (at place).lead)) (cls s (at place).tail))
        → IsStep (Q s) grevlex hs (before ++ t ∷ after) (record { place = place; multiplier = (quotient t.0 (at place).lead, t.1) }) h
    made_step before after h t place inside divided first greater tails whole = record {
      cancelled = t.0;
      next = record {
        has = has_there before after t tails;
        greatest = greatest;
        inside = let long = length-map rs (relation_poly s) in omega (arith, inside, long);
        divides = lead-is place inside t.0 ∙ divided;
        first = λ j low. lead-is j (omega (arith, low, inside)) t.0 ∙ first j low;
      };
      monomial = subst (λ (f : FractionPoly). IsTrue (same_monomial (monomial_product q (leading_monomial (Q s) grevlex f)) t.0)) (sym (element place inside)) (monomial_exact _ _ (
          monomial-mul q _ ∙ ap (monomials.mul (monomial q)) (monomial_sound _ _ (lead_same s (at place) (below_at place inside))) ∙ quotient_divisor t.0 (at place).lead divided));
      coefficient = subst (λ (f : FractionPoly). IsSame (Q s) ((Q s).mul t.1 (leading_coefficient (Q s) grevlex f)) (coefficient (Q s) (before ++ t ∷ after) t.0)) (sym (element place inside)) (
          facts.then (Q s) (q_laws s) ((q_laws s).mul_same t.1 t.1 _ (Q s).one ((q_laws s).same_refl t.1) (class_exact (Q s) (q_laws s) _ _ (relation-one s (at place) (below_at place inside) ∙ sym (class-one (Q s) (q_laws s)))))
          (facts.then (Q s) (q_laws s) ((q_laws s).mul_one t.1) (facts.back (Q s) (q_laws s) (coefficient_there before after t tails))));
      taken = subst (λ (f : FractionPoly). IsSame (poly_ops (Q s)) h (difference (Q s) (before ++ t ∷ after) (term_product (Q s) (q, t.1) f))) (sym (element place inside)) (class_exact (poly_ops (Q s)) (poly_laws (Q s) (q_laws s)) h _ taken);
    }
      where
        q : List ℕ
        q = quotient t.0 (at place).lead

        greatest : (e : List ℕ) → IsTrue (has_monomial (Q s) (before ++ t ∷ after) e) → IsTrue (division.is_reducible (Q s) grevlex hs e) → IsTrue (is_ge (grevlex t.0 e))
        greatest e has red = elim (top before after t e greater tails (reducible_from e red)) [
          | inl a ↦ absurd (true≢false (sym has ∙ lacks (before ++ t ∷ after) e a))
          | inr g ↦ g
        ]

        lead_term : Class (poly_ops (Q s))
        lead_term = (over_terms s).term (rationals s).one (monomial (at place).lead)

        completed : (R s).mul (term s t.1 q) lead_term ≡ term s t.1 t.0
        completed = (over_terms s).term_mul (class (Q s) t.1) (rationals s).one (monomial q) (monomial (at place).lead) ∙ ap₂ (λ x y. (over_terms s).term x y) (mul_one (rationals s) (class (Q s) t.1)) (quotient_divisor t.0 (at place).lead divided)

        rearranged : (b a x l w : Class (poly_ops (Q s))) → (R s).add ((R s).add b a) ((R s).mul x w) ≡ (R s).add ((R s).add b ((R s).add ((R s).mul x l) a)) ((R s).neg ((R s).mul x ((R s).add l ((R s).neg w))))
        rearranged b a x l w = ring (R s) (b ∷ a ∷ x ∷ l ∷ w ∷ []) (search reading depth 40) refl

        taken : cls s h ≡ cls s (difference (Q s) (before ++ t ∷ after) (term_product (Q s) (q, t.1) (relation_poly s (at place))))
        taken =
            whole ∙ ap (λ x. (R s).add x ((R s).mul (term s t.1 q) (cls s (at place).tail))) (class-joined s before after)
            ∙ rearranged (cls s before) (cls s after) (term s t.1 q) lead_term (cls s (at place).tail)
            ∙ ap₂ (λ x y. (R s).add x ((R s).neg ((R s).mul (term s t.1 q) y))) (ap (λ x. (R s).add (cls s before) ((R s).add x (cls s after))) completed ∙ sym (class-middle s before after t.0 t.1)) (sym (relation-class s (at place)))
            ∙ ap (λ x. (R s).add (cls s (before ++ t ∷ after)) ((R s).neg x)) (sym (class-term_product (Q s) (q_laws s) (q, t.1) (relation_poly s (at place))))
            ∙ sym (class-difference (Q s) (q_laws s) (before ++ t ∷ after) _)

    abbrev Run : FractionPoly → FractionPoly → Type 0
    Run f g = AreTails s g × ((steps : List (Step Fraction)) × Steps (Q s) grevlex hs f steps g)

    exact-run : (f g : FractionPoly) → AreTails s f → Reduces s.p (space_count s) rs f g → Run f g
    exact-run f _ h begin = (h, ([], start f ((poly_laws (Q s) (q_laws s)).same_refl f)))
    exact-run f _ h (step g k t place after_it run added) =
        let r = exact-run f g h run in
        let tails = r.0 in
        let there = subst (AreTails s) after_it.stands tails in
        let more = added-all s (quotient t.0 (at place).lead) t.1 (after_it.before ++ after_it.after) (at place).tail k (tails-term s after_it.before after_it.after t there).denominator (fractions-of s (at place).tail (good place after_it.inside)) (tails-without s after_it.before after_it.after t there) added in
        let one = made_step after_it.before after_it.after k t place after_it.inside after_it.divided after_it.first after_it.greatest there more.1 in
        (more.0, (r.1.0 ++ (record { place = place; multiplier = (quotient t.0 (at place).lead, t.1) }) ∷ [], next r.1.0 g _ k r.1.1 (subst (λ (x : FractionPoly). IsStep (Q s) grevlex hs x (record { place = place; multiplier = (quotient t.0 (at place).lead, t.1) }) k) (sym after_it.stands) one)))

    -- the rest of a division
    pub exact-division : (f g : FractionPoly) → AreTails s f → Reduces s.p (space_count s) rs f g → ((u : List ℕ × Fraction) → Contains g u → is_reducible rs u.0 ≡ false) → AreTails s g × ((steps : List (Step Fraction)) × IsDivision (Q s) grevlex hs f steps g)
    exact-division f g h run whole =
        let r = exact-run f g h run in
        (r.0, (r.1.0, record { by_steps = r.1.1; irreducible = irreducible }))
      where
        irreducible : (m : List ℕ) → IsTrue (has_monomial (Q s) g m) → IsFalse (division.is_reducible (Q s) grevlex hs m)
        irreducible m has = elim (cases_Bool (division.is_reducible (Q s) grevlex hs m)) [
          | inl r ↦ absurd (true≢false (sym has ∙ lacks g m (all_absent g m whole (reducible_from m r))))
          | inr n ↦ n
        ]
