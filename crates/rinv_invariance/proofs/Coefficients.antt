-- The coefficients of the relations of a reduced basis are invariant.
--   tail_part            a relation's coefficients, times its denominator
--   coefficient_invariant    a fraction of the value of one is invariant; all_invariant: the same of all relations
use Rattle.std.proofs.Common.{◌≡◌, ℕ, Bool, true, false, cond, List, [], ◌∷◌, map, refl, sym, ◌∙◌, ap, ap₂, subst}
use Rattle.std.specs.Prelude.{All, IsTrue, IsFalse}
use Rattle.std.proofs.lemmas.List.Elements.{All-head, All-tail, All-cons, All-nil}
use mathlib.Core.Logic.{∥∥₁_elim, ∥∥₁_prop}
use Rattle.rinv_algebra.specs.Ring.{IsSame}
use Rattle.rinv_algebra.specs.Polynomial.{coefficient, poly_ops, has_monomial}
use Rattle.rinv_theory.proofs.CRing.{hom-zero, hom-neg, mul_zero}
use Rattle.rinv_theory.proofs.Solver.{ring, reading}
use Rattle.rinv_theory.proofs.Classes.{Class, class, class_sound}
use Rattle.rinv_theory.proofs.Monoid.{Monomial, monomial, monomials}
use Rattle.rinv_theory.proofs.Polynomials.{class-coefficient}
use Rattle.rinv_theory.proofs.Ideals.{In, in-neg}
use Rattle.rinv_theory.proofs.Fields.{fraction_laws}
use Rattle.rinv_theory.proofs.Fractions.{polynomial_fractions}
use Rattle.rinv_theory.proofs.Variables.{in_variables-of}
use Rattle.rinv_soundness.proofs.FirstVariables.{retract-front}
use Rattle.rinv_soundness.proofs.SystemForms.{HasForm, system_form, section_front}
use Rattle.rinv_soundness.proofs.OverFractions.{into}
use Rattle.rinv_soundness.proofs.HasMultiples.{behind_z, multiple-coefficient}
use Rattle.rinv_soundness.proofs.SpatialValues.{fraction-times}
use Rattle.rinv_soundness.proofs.ExtendedIdeals.{ops, laws, field, Extended, extended-has}
use Rattle.rinv_soundness.proofs.LowestMembers.{IsReducibleBy, any-map}
use Rattle.rinv_defs.specs.System.{System, space_count}
use Rattle.rinv_defs.specs.SystemForm.{IsSystem}
use Rattle.rinv_defs.specs.Laws.{AllLawsHold}
use Rattle.rinv_defs.specs.Invariant.{Fraction, IsFraction, IsInvariant}
use Rattle.rinv_defs.specs.Generators.{rational_ops}
use Rattle.rinv_defs.specs.Extended.{Relation, relation_poly, action_ideal, is_reducible, InExtendedIdeal, IsReducedBasis}
use Rattle.rinv_invariance.proofs.RelationClasses.{rationals, rational, coefficient_over, tail_class, relation-coefficient, tail-zero}
use Rattle.rinv_invariance.proofs.Flatness.{Multiples}
use Rattle.rinv_invariance.proofs.Points.{PolyClass, poly_terms, poly_class}
use Rattle.rinv_invariance.proofs.GroupLaws.{laws_at}
use Rattle.rinv_invariance.proofs.Movement.{Moving, moving, still, coordinates}
use Rattle.rinv_invariance.proofs.MovedMaps.{moved_space, moved_all-later}
use Rattle.rinv_invariance.proofs.MovedIdeal as ideal
use Rattle.rinv_invariance.proofs.MovedIdeal.{group_ideal, moved_member}
use Rattle.rinv_invariance.proofs.Parts.{part, part-nested}
use Rattle.rinv_invariance.proofs.Crossed.{turned, parts_member}
use Rattle.rinv_invariance.proofs.MovedBack as back
use Rattle.rinv_invariance.proofs.ByValue.{by_value}
use Rattle.rinv_invariance.proofs.Flattened.{flat_member}
use Rattle.rinv_invariance.proofs.StandardMembers.{retracted, retracted-number, retracted-kept, standard_zero}

module _ (s : System) where
  module _ (r : Relation) (a : Extended s (action_ideal s) (class (poly_ops (rational_ops s.p)) (relation_poly s r))) where
    -- the denominator at the lead, and zero elsewhere
    abbrev at_lead : Monomial → PolyClass s.p
    at_lead b = cond (monomials.same (monomial r.lead) b) a.d (poly_terms s.p).ring.zero

    -- a coefficient of the tail, times the denominator
    abbrev tail_part : Monomial → PolyClass s.p
    tail_part b = (poly_terms s.p).ring.add (at_lead b) ((poly_terms s.p).ring.neg (part s b a.h))

    tail_part-whole : (b : Monomial) → rational s (tail_part b) ≡ (rationals s).mul (rational s a.d) (coefficient_over s (tail_class s r) b)
    tail_part-whole b =
        (into (ops s) (laws s) (field s)).add _ _ ∙ ap₂ (rationals s).add (chosen (monomials.same (monomial r.lead) b)) (hom-neg (into (ops s) (laws s) (field s)) _ ∙ ap (rationals s).neg (ap (rational s) (part-nested s b a.h) ∙ sym (multiple-coefficient (ops s) (laws s) (field s) (space_count s) a b) ∙ ap ((rationals s).mul (rational s a.d)) (relation-coefficient s r b)))
        ∙ take_off _ _ _
      where
        chosen : (t : Bool) → rational s (cond t a.d (poly_terms s.p).ring.zero) ≡ (rationals s).mul (rational s a.d) (cond t (rationals s).one (rationals s).zero)
        chosen true = sym ((rationals s).mul_comm _ _ ∙ (rationals s).one_mul _)
        chosen false = hom-zero (into (ops s) (laws s) (field s)) ∙ sym (mul_zero (rationals s) _)

        take_off : (d c t : Class (rational_ops s.p)) → (rationals s).add ((rationals s).mul d c) ((rationals s).neg ((rationals s).mul d ((rationals s).add c ((rationals s).neg t)))) ≡ (rationals s).mul d t
        take_off d c t = ring (rationals s) (d ∷ c ∷ t ∷ []) (search reading depth 30) refl

    -- crosswise, the denominator itself is nothing
    turned-lead : (t : Bool) → turned s a.d (cond t a.d (poly_terms s.p).ring.zero) ≡ (moving s).ring.zero
    turned-lead true = nothing ((still s).at a.d) ((moved_space s).at a.d)
      where
        nothing : (x y : Moving s) → (moving s).ring.add ((moving s).ring.mul x y) ((moving s).ring.neg ((moving s).ring.mul y x)) ≡ (moving s).ring.zero
        nothing x y = ring (moving s).ring (x ∷ y ∷ []) (search reading depth 30) refl
    turned-lead false = ap₂ (λ x y. (moving s).ring.add ((moving s).ring.mul ((still s).at a.d) x) ((moving s).ring.neg ((moving s).ring.mul ((moved_space s).at a.d) y))) (hom-zero (moved_space s)) (hom-zero (still s)) ∙ nothing ((still s).at a.d) ((moved_space s).at a.d)
      where
        nothing : (x y : Moving s) → (moving s).ring.add ((moving s).ring.mul x (moving s).ring.zero) ((moving s).ring.neg ((moving s).ring.mul y (moving s).ring.zero)) ≡ (moving s).ring.zero
        nothing x y = ring (moving s).ring (x ∷ y ∷ []) (search reading depth 30) refl

    turned-tail : (b : Monomial) → turned s a.d (tail_part b) ≡ (moving s).ring.neg (turned s a.d (part s b a.h))
    turned-tail b =
        ap₂ (λ x y. (moving s).ring.add ((moving s).ring.mul ((still s).at a.d) x) ((moving s).ring.neg ((moving s).ring.mul ((moved_space s).at a.d) y))) ((moved_space s).add _ _ ∙ ap ((moving s).ring.add _) (hom-neg (moved_space s) _)) ((still s).add _ _ ∙ ap ((moving s).ring.add _) (hom-neg (still s) _))
        ∙ spread _ _ _ _ _ _ ∙ ap (λ x. (moving s).ring.add x ((moving s).ring.neg (turned s a.d (part s b a.h)))) (turned-lead (monomials.same (monomial r.lead) b)) ∙ (moving s).ring.zero_add _
      where
        spread : (d e x y u v : Moving s) → (moving s).ring.add ((moving s).ring.mul d ((moving s).ring.add x ((moving s).ring.neg u))) ((moving s).ring.neg ((moving s).ring.mul e ((moving s).ring.add y ((moving s).ring.neg v))))
            ≡ (moving s).ring.add ((moving s).ring.add ((moving s).ring.mul d x) ((moving s).ring.neg ((moving s).ring.mul e y))) ((moving s).ring.neg ((moving s).ring.add ((moving s).ring.mul d u) ((moving s).ring.neg ((moving s).ring.mul e v))))
        spread d e x y u v = ring (moving s).ring (d ∷ e ∷ x ∷ y ∷ u ∷ v ∷ []) (search reading depth 30) refl

    -- where the tail lacks a monomial, the part there is nothing crosswise
    lacking : (b : Monomial) → coefficient_over s (tail_class s r) b ≡ (rationals s).zero → turned s a.d (part s b a.h) ≡ (moving s).ring.zero
    lacking b e = ap (turned s a.d) (only_lead _ _ tail_zero) ∙ turned-lead (monomials.same (monomial r.lead) b)
      where
        tail_zero : tail_part b ≡ (poly_terms s.p).ring.zero
        tail_zero = (polynomial_fractions (ops s) (laws s) (field s)).injective _ _ (tail_part-whole b ∙ ap ((rationals s).mul (rational s a.d)) e ∙ mul_zero (rationals s) _ ∙ sym (hom-zero (into (ops s) (laws s) (field s))))

        only_lead : (x y : PolyClass s.p) → (poly_terms s.p).ring.add x ((poly_terms s.p).ring.neg y) ≡ (poly_terms s.p).ring.zero → y ≡ x
        only_lead x y e = sym ((poly_terms s.p).ring.zero_add y) ∙ ap (λ z. (poly_terms s.p).ring.add z y) (sym e) ∙ back_again x y
          where
            back_again : (x y : PolyClass s.p) → (poly_terms s.p).ring.add ((poly_terms s.p).ring.add x ((poly_terms s.p).ring.neg y)) y ≡ x
            back_again x y = ring (poly_terms s.p).ring (x ∷ y ∷ []) (search reading depth 30) refl

  module _ (rs : List Relation) (system : IsSystem s) (all_laws : AllLawsHold s) (basis : IsReducedBasis s rs) where
    form : HasForm s
    form = system_form s system

    -- fractions of the value of a relation's coefficient are invariant
    abbrev pub IsInvariantAt : Relation → Type 0
    IsInvariantAt r = (m : List ℕ) (f : Fraction) → IsFraction s f → IsSame (rational_ops s.p) f (coefficient (rational_ops s.p) r.tail m) → IsInvariant s f

    -- a fraction of the value of a coefficient is invariant
    pub coefficient_invariant : (r : Relation) → InExtendedIdeal s (relation_poly s r) → ((m : List ℕ) → IsTrue (has_monomial (rational_ops s.p) r.tail m) → IsFalse (is_reducible rs m))
        → IsInvariantAt r
    coefficient_invariant r extended reduced m f is_fraction value = record {
      fraction = is_fraction;
      unchanged = flat_member s form f (∥∥₁_elim parts ∥∥₁_prop (λ q. by_value s form (laws_at s form (back.κ s) all_laws) (poly_class s.p f.0) (poly_class s.p f.1) (tail_part r a (monomial m)) a.d
          (in_variables-of (ops s) (laws s) (space_count s) f.0 is_fraction.numerator) (in_variables-of (ops s) (laws s) (space_count s) f.1 is_fraction.denominator) a.d_in_space a.nonzero equal
          (subst (In (moving s).ring (Multiples (coordinates s) (group_ideal s))) (sym (turned-tail r a (monomial m))) (in-neg (moving s).ring (Multiples (coordinates s) (group_ideal s)) q))));
    }
      where
        a : Extended s (action_ideal s) (class (poly_ops (rational_ops s.p)) (relation_poly s r))
        a = extended-has s (relation_poly s r) extended

        lacks : (b : Monomial) → IsReducibleBy (map (λ r. r.lead) rs) b → turned s a.d (part s b a.h) ≡ (moving s).ring.zero
        lacks b (e, at_b, divided) = lacking r a b (ap (coefficient_over s (tail_class s r)) (sym at_b) ∙ tail-zero s rs r reduced e (sym (any-map (λ r. r.lead) _ rs) ∙ divided))

        parts : ∥ In (moving s).ring (Multiples (coordinates s) (group_ideal s)) (turned s a.d (part s (monomial m) a.h)) ∥₁
        parts = ∥∥₁_elim a.property ∥∥₁_prop (λ i. parts_member s (retracted s) (retracted-number s) (retracted-kept s) (moved_all-later s form) (λ x i. moved_member s form (section_front s system) (laws_at s form (ideal.κ s) all_laws) i)
            (IsReducibleBy (map (λ r. r.lead) rs)) (standard_zero s rs basis) a.d a.h (retract-front (poly_terms s.p) _ (behind_z (ops s) (laws s) (field s) (space_count s) a.d_in_space)) (retract-front (poly_terms s.p) _ a.h_in_both) lacks i (monomial m))

        equal : (poly_terms s.p).ring.mul (poly_class s.p f.0) a.d ≡ (poly_terms s.p).ring.mul (tail_part r a (monomial m)) (poly_class s.p f.1)
        equal = (polynomial_fractions (ops s) (laws s) (field s)).injective _ _ (
            (into (ops s) (laws s) (field s)).mul _ _ ∙ ap (λ x. (rationals s).mul x (rational s a.d)) (sym (fraction-times (ops s) (laws s) (field s) (space_count s) f is_fraction.nonzero)) ∙ turn _ _ _
            ∙ ap (λ x. (rationals s).mul x (rational s (poly_class s.p f.1))) (ap ((rationals s).mul (rational s a.d)) same_value ∙ sym (tail_part-whole r a (monomial m))) ∙ sym ((into (ops s) (laws s) (field s)).mul _ _))
          where
            turn : (d f w : Class (rational_ops s.p)) → (rationals s).mul ((rationals s).mul d f) w ≡ (rationals s).mul ((rationals s).mul w f) d
            turn d f w = ring (rationals s) (d ∷ f ∷ w ∷ []) (search reading depth 30) refl

            same_value : class (rational_ops s.p) f ≡ coefficient_over s (tail_class s r) (monomial m)
            same_value = class_sound (rational_ops s.p) (fraction_laws (ops s) (laws s) (field s)) _ _ value ∙ sym (class-coefficient (rational_ops s.p) (fraction_laws (ops s) (laws s) (field s)) r.tail m)

    each_invariant : (rest : List Relation) → All (λ r. InExtendedIdeal s (relation_poly s r)) rest → All (λ r. (m : List ℕ) → IsTrue (has_monomial (rational_ops s.p) r.tail m) → IsFalse (is_reducible rs m)) rest → All IsInvariantAt rest
    each_invariant [] members reduced = All-nil IsInvariantAt
    each_invariant (r ∷ rest) members reduced = All-cons IsInvariantAt r rest
        (coefficient_invariant r (All-head (λ r. InExtendedIdeal s (relation_poly s r)) r rest members) (All-head (λ r. (m : List ℕ) → IsTrue (has_monomial (rational_ops s.p) r.tail m) → IsFalse (is_reducible rs m)) r rest reduced))
        (each_invariant rest (All-tail (λ r. InExtendedIdeal s (relation_poly s r)) r rest members) (All-tail (λ r. (m : List ℕ) → IsTrue (has_monomial (rational_ops s.p) r.tail m) → IsFalse (is_reducible rs m)) r rest reduced))

    -- of all relations
    pub all_invariant : All IsInvariantAt rs
    all_invariant = each_invariant rs basis.members basis.tails_reduced
