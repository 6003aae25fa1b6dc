-- Two reduced bases of one extended ideal are the same, up to the order of their relations.
--   covered              each lead of the one is a multiple of a lead of the other
--   matched              so it is one of its leads
--   equal_tails          relations with one lead have one tail
--   basis_same           the two are the same
use Rattle.std.proofs.Common.{◌≡◌, ◌⊎◌, ℕ, suc, ◌<◌, ◌≤◌, Bool, true, false, cond, List, [], ◌∷◌, length, length-take, take, map, get_or, refl, sym, ◌∙◌, ap, ap₂, subst, arith, inl, inr, true≢false}
use Rattle.std.specs.Prelude.{All, Contains, IsTrue, IsFalse}
use Rattle.std.specs.List.{list_any}
use Rattle.std.proofs.lemmas.List.Elements.{All-cons, All-nil, Contains-get_or}
use Rattle.std.proofs.lemmas.List.Folds.{list_any_at}
use Rattle.rinv_algebra.specs.Residue.{residue_ops}
use Rattle.rinv_algebra.specs.Monomial.{divides}
use Rattle.rinv_algebra.specs.Polynomial.{poly_ops, has_monomial}
use Rattle.rinv_algebra.proofs.MonomialLaws.{same_from}
use Rattle.rinv_algebra.proofs.ResidueLaws.{residue_laws}
use Rattle.rinv_algebra.proofs.PolynomialLaws.{poly_laws}
use Rattle.rinv_theory.proofs.CRing.{hom-zero}
use Rattle.rinv_theory.proofs.Solver.{ring, reading}
use Rattle.rinv_theory.proofs.Classes.{Class, class, class_exact, class-zero, class-one}
use Rattle.rinv_theory.proofs.Monoid.{Monomial, monomial, monomials, monomial_sound, monomial_exact}
use Rattle.rinv_theory.proofs.TermRing.{coefficient-neg}
use Rattle.rinv_theory.proofs.Ideals.{In}
use Rattle.rinv_theory.proofs.Places.{front, front-list}
use Rattle.rinv_theory.proofs.Fields.{fraction_laws, fraction_field}
use Rattle.rinv_theory.proofs.Variables.{IsFront}
use Rattle.rinv_groebner.proofs.MonomialLists.{divides_at, divides_from, Divisor, divisor-divides, divides-divisor, divisor_trans}
use Rattle.rinv_groebner.proofs.Reducible.{first_passing, divides-one}
use Rattle.rinv_soundness.proofs.FirstVariables.{low_or_high}
use Rattle.rinv_soundness.proofs.Substituting.{move}
use Rattle.rinv_soundness.proofs.GeneratorLists.{all_at}
use Rattle.rinv_soundness.proofs.HasMultiples.{multiple-add, multiple-front}
use Rattle.rinv_soundness.proofs.Ratios.{multiple-neg}
use Rattle.rinv_soundness.proofs.ExtendedIdeals.{ops, laws, field, Extended, extended-has, InIdeal, ideal-add, ideal-mul}
use Rattle.rinv_soundness.proofs.LowestMembers.{IsReducibleBy, any-map, basis-lowest}
use Rattle.rinv_defs.specs.System.{System, group_count, space_count}
use Rattle.rinv_defs.specs.Generators.{rational_ops}
use Rattle.rinv_defs.specs.Extended.{Relation, relation_poly, action_ideal, is_reducible, InExtendedIdeal, IsReducedBasis}
use Rattle.rinv_invariance.specs.Twins.{IsTwin}
use Rattle.rinv_invariance.proofs.Points.{poly_terms}
use Rattle.rinv_invariance.proofs.MovedIdeal.{graph_ideal}
use Rattle.rinv_invariance.proofs.RelationClasses.{rationals, over_terms, coefficient_over, tail_class, relation-class, relation-coefficient, tail-zero}

-- no relation
abbrev pub none : Relation
none = record { lead = []; tail = [] }

-- a monomial divides itself
divides_refl : (a : List ℕ) → IsTrue (divides a a)
divides_refl a = divides_from a a (λ k. omega arith)

-- monomials that divide each other are one
divides_both : (a b : List ℕ) → Divisor (monomial a) (monomial b) → Divisor (monomial b) (monomial a) → monomial a ≡ monomial b
divides_both a b p q = monomial_sound a b (same_from a b (λ k. let x = divides_at a b (divisor-divides a b p) k in let y = divides_at b a (divisor-divides b a q) k in omega (arith, x, y)))

module _ (s : System) where
  module _ (rs : List Relation) (basis : IsReducedBasis s rs) where
    abbrev relation_at : ℕ → Relation
    relation_at k = get_or rs k none

    -- each relation lies in the extended ideal
    member_at : (k : ℕ) → k < length rs → Extended s (action_ideal s) (class (poly_ops (rational_ops s.p)) (relation_poly s (relation_at k)))
    member_at k low = extended-has s _ (all_at (λ r. InExtendedIdeal s (relation_poly s r)) rs k none low basis.members)

    -- multiples of leads are reducible
    reducible_at : (k : ℕ) → k < length rs → (a : List ℕ) → IsTrue (divides (relation_at k).lead a) → IsTrue (is_reducible rs a)
    reducible_at k low a d = list_any_at (λ r. divides r.lead a) rs k none low d

    -- tails have no reducible monomial
    tail-zero_at : (k : ℕ) → k < length rs → (e : List ℕ) → IsTrue (is_reducible rs e) → coefficient_over s (tail_class s (relation_at k)) (monomial e) ≡ (rationals s).zero
    tail-zero_at k low = tail-zero s rs (relation_at k) (all_at (λ r. (m : List ℕ) → IsTrue (has_monomial (rational_ops s.p) r.tail m) → IsFalse (is_reducible rs m)) rs k none low basis.tails_reduced)

    -- a relation has its lead, with the coefficient 1
    lead-one : (k : ℕ) → k < length rs → coefficient_over s (class (poly_ops (rational_ops s.p)) (relation_poly s (relation_at k))) (monomial (relation_at k).lead) ≡ (rationals s).one
    lead-one k low =
        relation-coefficient s (relation_at k) _
        ∙ ap₂ (λ (t : Bool) x. (rationals s).add (cond t (rationals s).one (rationals s).zero) ((rationals s).neg x)) (monomials.same_refl _) (tail-zero_at k low (relation_at k).lead (reducible_at k low _ (divides_refl _)))
        ∙ minus_zero _
      where
        minus_zero : (x : Class (rational_ops s.p)) → (rationals s).add x ((rationals s).neg (rationals s).zero) ≡ x
        minus_zero x = ring (rationals s) (x ∷ []) (search reading depth 30) refl

    -- so its lead is a monomial in Z
    pub lead-front : (k : ℕ) → k < length rs → IsFront (space_count s) (monomial (relation_at k).lead)
    lead-front k low = go (monomials.same (front (space_count s) (monomial (relation_at k).lead)) (monomial (relation_at k).lead)) refl
      where
        one_zero : (rationals s).one ≡ (rationals s).zero → ⊥
        one_zero e = (fraction_field (ops s) (laws s) (field s)).one_differs (class_exact (rational_ops s.p) (fraction_laws (ops s) (laws s) (field s)) _ _ (class-one _ _ ∙ e ∙ sym (class-zero _ _)))

        go : (b : Bool) → monomials.same (front (space_count s) (monomial (relation_at k).lead)) (monomial (relation_at k).lead) ≡ b → IsFront (space_count s) (monomial (relation_at k).lead)
        go true e = monomials.same_eq _ _ e
        go false e = absurd (one_zero (sym (lead-one k low) ∙ multiple-front (ops s) (laws s) (field s) (space_count s) (member_at k low) _ (λ q. true≢false (sym (monomials.same_refl _) ∙ ap (λ m. monomials.same m (monomial (relation_at k).lead)) (sym q) ∙ e))))

    -- no lead divides another
    apart_at : (i k : ℕ) → i < length rs → k < length rs → Divisor (monomial (relation_at i).lead) (monomial (relation_at k).lead) → i ≡ k
    apart_at i k low high d = go (low_or_high i k) (low_or_high k i)
      where
        divided : IsTrue (divides (relation_at i).lead (relation_at k).lead)
        divided = divisor-divides _ _ d

        go : (i < k) ⊎ (k ≤ i) → (k < i) ⊎ (i ≤ k) → i ≡ k
        go (inl h) t = absurd (true≢false (sym divided ∙ (basis.leads_apart i k none h high).0))
        go (inr h) (inl t) = absurd (true≢false (sym divided ∙ (basis.leads_apart k i none t low).1))
        go (inr h) (inr t) = omega (arith, h, t)

  module _ (rs qs : List Relation) (basis : IsReducedBasis s rs) (other : IsReducedBasis s qs) where
    -- a lead is a multiple of a lead of the other
    pub covered : (k : ℕ) → k < length rs → (j : ℕ) × (j < length qs) × Divisor (monomial (get_or qs j none).lead) (monomial (get_or rs k none).lead)
    covered k low = found (first_passing (λ r. divides r.lead short) none qs ((other.leads short few).0 ((basis.leads short few).1 (reducible_at rs basis k low short divided))))
      where
        short : List ℕ
        short = take (space_count s) (get_or rs k none).lead

        few : length short ≤ space_count s
        few = omega (arith, length-take (space_count s) (get_or rs k none).lead)

        one : monomial short ≡ monomial (get_or rs k none).lead
        one = sym (front-list (space_count s) (get_or rs k none).lead) ∙ lead-front rs basis k low

        divided : IsTrue (divides (get_or rs k none).lead short)
        divided = divides-one (get_or rs k none).lead short (get_or rs k none).lead (monomial_exact _ _ one) ∙ divides_refl _

        found : (p : ℕ) × (p < length qs) × IsTrue (divides (get_or qs p none).lead short) × ((j : ℕ) → j < p → IsFalse (divides (get_or qs j none).lead short)) → (j : ℕ) × (j < length qs) × Divisor (monomial (get_or qs j none).lead) (monomial (get_or rs k none).lead)
        found (p, inside, d, before) = (p, inside, subst (Divisor (monomial (get_or qs p none).lead)) one (divides-divisor _ _ d))

  module _ (rs qs : List Relation) (basis : IsReducedBasis s rs) (other : IsReducedBasis s qs) where
    -- a lead is one of the other's
    pub matched : (k : ℕ) → k < length rs → (j : ℕ) × (j < length qs) × (monomial (get_or qs j none).lead ≡ monomial (get_or rs k none).lead)
    matched k low =
        let (j, inside, d) = covered rs qs basis other k low in
        let (i, within, e) = covered qs rs other basis j inside in
        let same : i ≡ k = apart_at rs basis i k within low (divisor_trans _ _ _ e d) in
        (j, inside, divides_both _ _ d (subst (λ (n : ℕ). Divisor (monomial (get_or rs n none).lead) (monomial (get_or qs j none).lead)) same e))

    -- relations with one lead have one tail
    pub equal_tails : (k j : ℕ) → k < length rs → j < length qs → monomial (get_or qs j none).lead ≡ monomial (get_or rs k none).lead → tail_class s (get_or rs k none) ≡ tail_class s (get_or qs j none)
    equal_tails k j low inside e = strip _ _ _ (sym (relation-class s (get_or rs k none)) ∙ difference_zero _ _ nothing ∙ relation-class s (get_or qs j none) ∙ ap (λ m. (over_terms s).ring.add ((over_terms s).term (rationals s).one m) ((over_terms s).ring.neg (tail_class s (get_or qs j none)))) e)
      where
        first : Class (poly_ops (rational_ops s.p))
        first = class (poly_ops (rational_ops s.p)) (relation_poly s (get_or rs k none))

        second : Class (poly_ops (rational_ops s.p))
        second = class (poly_ops (rational_ops s.p)) (relation_poly s (get_or qs j none))

        difference_zero : (x y : Class (poly_ops (rational_ops s.p))) → (over_terms s).ring.add x ((over_terms s).ring.neg y) ≡ (over_terms s).ring.zero → x ≡ y
        difference_zero x y z = sym (back x y) ∙ ap (λ w. (over_terms s).ring.add w y) z ∙ (over_terms s).ring.zero_add y
          where
            back : (x y : Class (poly_ops (rational_ops s.p))) → (over_terms s).ring.add ((over_terms s).ring.add x ((over_terms s).ring.neg y)) y ≡ x
            back x y = ring (over_terms s).ring (x ∷ y ∷ []) (search reading depth 30) refl

        strip : (x y z : Class (poly_ops (rational_ops s.p))) → (over_terms s).ring.add x ((over_terms s).ring.neg y) ≡ (over_terms s).ring.add x ((over_terms s).ring.neg z) → y ≡ z
        strip x y z h = sym (back x y) ∙ ap (λ w. (over_terms s).ring.add x ((over_terms s).ring.neg w)) h ∙ back x z
          where
            back : (x y : Class (poly_ops (rational_ops s.p))) → (over_terms s).ring.add x ((over_terms s).ring.neg ((over_terms s).ring.add x ((over_terms s).ring.neg y))) ≡ y
            back x y = ring (over_terms s).ring (x ∷ y ∷ []) (search reading depth 30) refl

        -- a monomial that a lead of the one divides, a lead of the other divides too
        reducible_there : (a : List ℕ) → IsTrue (list_any (λ r. divides r a) (map (λ r. r.lead) rs)) → IsTrue (is_reducible rs a) × IsTrue (is_reducible qs a)
        reducible_there a h =
            let here : IsTrue (is_reducible rs a) = sym (any-map (λ r. r.lead) (λ r. divides r a) rs) ∙ h in
            let (i, within, d, before) = first_passing (λ r. divides r.lead a) none rs here in
            let (p, far, f) = covered rs qs basis other i within in
            (here, reducible_at qs other p far a (divisor-divides _ _ (divisor_trans _ _ _ f (divides-divisor _ _ d))))

        no_tails : (x y z : Class (rational_ops s.p)) → y ≡ (rationals s).zero → z ≡ (rationals s).zero → (rationals s).add ((rationals s).add x ((rationals s).neg y)) ((rationals s).neg ((rationals s).add x ((rationals s).neg z))) ≡ (rationals s).zero
        no_tails x y z f g = ap₂ (λ y z. (rationals s).add ((rationals s).add x ((rationals s).neg y)) ((rationals s).neg ((rationals s).add x ((rationals s).neg z)))) f g ∙ ring (rationals s) (x ∷ []) (search reading depth 30) refl

        lacks : (m : Monomial) → IsReducibleBy (map (λ r. r.lead) rs) m → coefficient_over s ((over_terms s).ring.add first ((over_terms s).ring.neg second)) m ≡ (rationals s).zero
        lacks m (a, at_m, h) = subst (λ m. coefficient_over s ((over_terms s).ring.add first ((over_terms s).ring.neg second)) m ≡ (rationals s).zero) at_m (
            (over_terms s).coefficient_add _ _ _ ∙ ap₂ (rationals s).add (relation-coefficient s (get_or rs k none) (monomial a)) (coefficient-neg (over_terms s) second (monomial a) ∙ ap (rationals s).neg (relation-coefficient s (get_or qs j none) (monomial a) ∙ ap (λ m. (rationals s).add (cond (monomials.same m (monomial a)) (rationals s).one (rationals s).zero) ((rationals s).neg (coefficient_over s (tail_class s (get_or qs j none)) (monomial a)))) e))
            ∙ no_tails _ _ _ (tail-zero_at rs basis k low a (reducible_there a h).0) (tail-zero_at qs other j inside a (reducible_there a h).1))

        zero_member : InIdeal s (action_ideal s) (poly_terms s.p).ring.zero
        zero_member = ∣ subst (In (poly_terms s.p).ring (graph_ideal s)) (sym (hom-zero (move (residue_ops s.p) (residue_laws s.p) (group_count s)))) In.none ∣₁

        nothing : (over_terms s).ring.add first ((over_terms s).ring.neg second) ≡ (over_terms s).ring.zero
        nothing = basis-lowest s rs basis _ (multiple-add (ops s) (laws s) (field s) (space_count s) (ideal-add s (action_ideal s)) (ideal-mul s (action_ideal s)) (member_at rs basis k low) (multiple-neg (ops s) (laws s) (field s) (space_count s) zero_member (ideal-add s (action_ideal s)) (ideal-mul s (action_ideal s)) (member_at qs other j inside))) lacks

    -- a relation of the other with this lead and this tail
    abbrev pub HasTwin : Relation → Type 0
    HasTwin r = (q : Relation) × Contains qs q × IsTwin s r q

    twin_at : (k : ℕ) → k < length rs → HasTwin (get_or rs k none)
    twin_at k low =
        let (j, inside, e) = matched k low in
        (get_or qs j none, Contains-get_or qs j none inside, (monomial_exact _ _ (sym e), class_exact (poly_ops (rational_ops s.p)) (poly_laws (rational_ops s.p) (fraction_laws (ops s) (laws s) (field s))) _ _ (equal_tails k j low inside e)))

    -- each relation has one
    pub basis_same : All HasTwin rs
    basis_same = from_places rs twin_at
      where
        from_places : (xs : List Relation) → ((k : ℕ) → k < length xs → HasTwin (get_or xs k none)) → All HasTwin xs
        from_places [] h = All-nil HasTwin
        from_places (x ∷ xs) h = All-cons HasTwin x xs (h 0 (omega arith)) (from_places xs (λ k low. h (suc k) (omega (arith, low))))
