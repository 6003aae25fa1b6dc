-- The section misses the orbits exactly where an element of a Gröbner basis of the action's ideal lies in the space's variables.
--   misses-element       1 in the extended ideal gives such an element
--   element-misses       such an element puts 1 into the extended ideal
use Rattle.std.proofs.Common.{◌≡◌, ℕ, zero, suc, ◌+◌, ◌*◌, ◌<◌, Bool, true, false, not, List, [], ◌∷◌, length, length-append, take, replicate, get_or, refl, sym, ◌∙◌, ap, subst, arith, true≢false, IsTrue}
use Rattle.std.specs.Prelude.{IsFalse, ◌==◌, nat_le}
use Rattle.std.specs.List.{AllByRecursion, list_all, list_any}
use Rattle.std.proofs.lemmas.Bool.{eqb-true}
use Rattle.std.proofs.lemmas.Bool.Decides.{nat_tests}
use Rattle.std.proofs.lemmas.List.{length-replicate}
use Rattle.std.proofs.lemmas.List.Folds.{list_any_at}
use Rattle.rinv_algebra.specs.Residue.{residue_ops}
use Rattle.rinv_algebra.specs.Monomial.{total_degree}
use Rattle.rinv_algebra.specs.Polynomial.{poly_ops, past, is_zero, has_monomial}
use Rattle.rinv_algebra.specs.Normal.{is_in_variables}
use Rattle.rinv_algebra.specs.Leading.{IsLeadingMonomial, leading_monomial}
use Rattle.rinv_algebra.specs.Ideal.{IsMember}
use Rattle.rinv_algebra.specs.MonomialOrder.{MonoOrderLaws}
use Rattle.rinv_algebra.proofs.ResidueLaws.{residue_laws}
use Rattle.rinv_algebra.proofs.BlockOrder.{block_order_laws}
use Rattle.rinv_algebra.proofs.PolynomialLaws.{poly_laws}
use Rattle.rinv_algebra.proofs.Same.{both, and_true}
use Rattle.rinv_theory.proofs.CRing.{hom-zero, mul_one}
use Rattle.rinv_theory.proofs.Classes.{class_sound, class_dec, class-one}
use Rattle.rinv_theory.proofs.Monoid.{Monomial, monomial, monomials, monomial_ind}
use Rattle.rinv_theory.proofs.Of.{Of, of_where}
use Rattle.rinv_theory.proofs.Fields.{fraction_laws}
use Rattle.rinv_theory.proofs.Ideals.{In}
use Rattle.rinv_theory.proofs.Members.{generator, member-in}
use Rattle.rinv_theory.proofs.Nested.{nest_injective}
use Rattle.rinv_theory.proofs.Places.{front}
use Rattle.rinv_theory.proofs.Variables.{IsFront, in_variables-of, past-class}
use Rattle.rinv_groebner.specs.Basis.{IsGroebnerBasis}
use Rattle.rinv_groebner.specs.Division.{lead_divides}
use Rattle.rinv_groebner.specs.Orders.{AreInVariables}
use Rattle.rinv_groebner.proofs.Compared.{has-coefficient, coefficient-has}
use Rattle.rinv_groebner.proofs.LeadingMonomials.{leading_monomial-leads}
use Rattle.rinv_groebner.proofs.Reducible.{first_passing, first_divisor, divides-parts}
use Rattle.rinv_soundness.proofs.Substituting.{move}
use Rattle.rinv_soundness.proofs.OverFractions.{over_ring, over_injective, constant_over, split_over-class, scale-class}
use Rattle.rinv_soundness.proofs.HasMultiples.{behind_z, read-move}
use Rattle.rinv_soundness.proofs.ExtendedIdeals.{ops, laws, field, Extended, has-extended, nonzero-class, class-nonzero}
use Rattle.rinv_defs.specs.System.{System, Poly, group_count, space_count}
use Rattle.rinv_defs.specs.Generators.{rational_ops}
use Rattle.rinv_defs.specs.PairConditions.{action_order}
use Rattle.rinv_defs.specs.Extended.{action_ideal, Misses}
use Rattle.rinv_invariance.specs.InSpace.{leads_in_space}
use Rattle.rinv_invariance.proofs.Points.{scalars, PolyClass, poly_terms, poly_class}
use Rattle.rinv_invariance.proofs.Movement.{moving}
use Rattle.rinv_invariance.proofs.FoundExtended.{found_extended}
use Rattle.rinv_invariance.proofs.SpaceMonomials.{IsWithout, without-total, total-without, without-front, front-without, without-divisor, block_without}
use Rattle.rinv_invariance.proofs.LaterVariables.{move-move, moved_passes, moved_zero, unmoved}

-- the element at a place of a list of which all have a property
all_recursively : {X : Type 0} (P : X → Type 0) (xs : List X) (k : ℕ) (d : X) → k < length xs → AllByRecursion P xs → P (get_or xs k d)
all_recursively P [] k d low h = absurd (omega (arith, low))
all_recursively P (x ∷ xs) zero d low h = h.0
all_recursively P (x ∷ xs) (suc k) d low h = all_recursively P xs k d (omega (arith, low)) h.1

-- the element at a place of a list of which all pass a test
all_pass : {X : Type 0} (test : X → Bool) (xs : List X) (k : ℕ) (d : X) → k < length xs → list_all test xs ≡ true → test (get_or xs k d) ≡ true
all_pass test [] k d low h = absurd (omega (arith, low))
all_pass test (x ∷ xs) zero d low h = (both (test x) _ h).0
all_pass test (x ∷ xs) (suc k) d low h = all_pass test xs k d (omega (arith, low)) (both (test x) _ h).1

-- a polynomial in v variables, behind l others
past_variables : (l v w : ℕ) (f : Poly) → l + v ≡ w → IsTrue (is_in_variables v f) → IsTrue (is_in_variables w (past l f))
past_variables l v w [] e h = refl
past_variables l v w ((m, c) ∷ f) e h =
    let parts = both (nat_le (length m) v) _ h in
    let a = length-append (replicate l 0) m in
    let b = length-replicate {A = ℕ} l 0 in
    and_true _ _ (grind (arith, nat_tests, a, b, e, parts)) (past_variables l v w f e parts.1)

module _ (s : System) where
  -- the number of variables before the space's
  abbrev before : ℕ
  before = group_count s + space_count s

  -- a polynomial in the space's variables, behind all others
  abbrev behind_all : PolyClass s.p → PolyClass s.p
  behind_all x = (move (residue_ops s.p) (residue_laws s.p) before).at x

  order_laws : MonoOrderLaws (action_order s)
  order_laws = block_order_laws (group_count s ∷ space_count s ∷ space_count s ∷ [])

  module _ (hs : List Poly) (basis : IsGroebnerBasis (residue_ops s.p) (action_order s) (group_count s + 2 * space_count s) (action_ideal s) hs) where
    -- 1 in the extended ideal gives such an element
    pub misses-element : Misses s → IsTrue (list_any (leads_in_space s) hs)
    misses-element e = found (first_divisor (residue_ops s.p) (action_order s) hs _ (basis.divided (past (group_count s) e.h) (past_variables (group_count s) (2 * space_count s) (group_count s + 2 * space_count s) e.h refl e.h_in_both) e.member nonzero))
      where
        -- the multiple is the denominator
        whole : poly_class s.p e.h ≡ (move (residue_ops s.p) (residue_laws s.p) (space_count s)).at (poly_class s.p e.d)
        whole = nest_injective (poly_terms s.p) (poly_terms s.p) (moving s) (space_count s) _ _ (over_injective (ops s) (laws s) (field s) _ _ (
            sym (split_over-class (ops s) (laws s) (field s) (space_count s) e.h) ∙ class_sound (poly_ops (rational_ops s.p)) (poly_laws (rational_ops s.p) (fraction_laws (ops s) (laws s) (field s))) _ _ e.multiple ∙ scale-class (ops s) (laws s) (field s) e.d (poly_ops (rational_ops s.p)).one
            ∙ ap ((over_ring (ops s) (laws s) (field s)).mul (constant_over (ops s) (laws s) (field s) (poly_class s.p e.d))) (class-one (poly_ops (rational_ops s.p)) (poly_laws (rational_ops s.p) (fraction_laws (ops s) (laws s) (field s))))
            ∙ mul_one (over_ring (ops s) (laws s) (field s)) _ ∙ sym (read-move (ops s) (laws s) (field s) (space_count s) (poly_class s.p e.d))))

        far : poly_class s.p (past (group_count s) e.h) ≡ behind_all (poly_class s.p e.d)
        far = past-class (residue_ops s.p) (residue_laws s.p) (group_count s) e.h ∙ ap (move (residue_ops s.p) (residue_laws s.p) (group_count s)).at whole ∙ move-move (residue_ops s.p) (residue_laws s.p) (group_count s) (space_count s) (poly_class s.p e.d)

        nonzero : IsFalse (is_zero (residue_ops s.p) (past (group_count s) e.h))
        nonzero = class-nonzero (residue_ops s.p) (residue_laws s.p) _ (λ z. nonzero-class (residue_ops s.p) (residue_laws s.p) e.d e.nonzero (moved_zero (poly_terms s.p) before (poly_class s.p e.d) (sym far ∙ z)))

        leads : IsLeadingMonomial (residue_ops s.p) (action_order s) (past (group_count s) e.h) (leading_monomial (residue_ops s.p) (action_order s) (past (group_count s) e.h))
        leads = leading_monomial-leads (residue_ops s.p) (residue_laws s.p) (action_order s) order_laws (past (group_count s) e.h) nonzero

        -- its monomials have the space's variables alone
        alone : (m : List ℕ) → IsTrue (has_monomial (residue_ops s.p) (past (group_count s) e.h) m) → IsWithout before m
        alone m h = front-without before m (moved_passes (poly_terms s.p) before (poly_class s.p e.d) (monomial m) (λ z. has-coefficient (residue_ops s.p) (residue_laws s.p) (past (group_count s) e.h) m h (ap (λ x. (poly_terms s.p).coefficient x (monomial m)) far ∙ z)))

        without : IsWithout before (leading_monomial (residue_ops s.p) (action_order s) (past (group_count s) e.h))
        without = alone _ leads.has

        found : (p : ℕ) × (p < length hs) × IsTrue (lead_divides (residue_ops s.p) (action_order s) (get_or hs p []) (leading_monomial (residue_ops s.p) (action_order s) (past (group_count s) e.h))) × ((j : ℕ) → j < p → IsFalse (lead_divides (residue_ops s.p) (action_order s) (get_or hs j []) (leading_monomial (residue_ops s.p) (action_order s) (past (group_count s) e.h)))) → IsTrue (list_any (leads_in_space s) hs)
        found (p, inside, d, first) =
            let parts = divides-parts (residue_ops s.p) (action_order s) (get_or hs p []) _ d in
            list_any_at (leads_in_space s) hs p [] inside (and_true _ _ (ap not parts.0) (equal _ (without-total before _ (without-divisor before _ _ parts.1 without))))
          where
            equal : (n : ℕ) → n ≡ 0 → (n == 0) ≡ true
            equal n z = grind (arith, nat_tests)

    -- such an element puts 1 into the extended ideal
    pub element-misses : AreInVariables (group_count s + 2 * space_count s) hs → IsTrue (list_any (leads_in_space s) hs) → Misses s
    element-misses inside some = found (first_passing (leads_in_space s) [] hs some)
      where
        at_place : (p : ℕ) → p < length hs → IsTrue (leads_in_space s (get_or hs p [])) → ∥ Misses s ∥₁
        at_place p low t = has-extended s a _ (class-one (poly_ops (rational_ops s.p)) (poly_laws (rational_ops s.p) (fraction_laws (ops s) (laws s) (field s))))
          where
            parts : (not (is_zero (residue_ops s.p) (get_or hs p [])) ≡ true) × ((total_degree (take before (leading_monomial (residue_ops s.p) (action_order s) (get_or hs p []))) == 0) ≡ true)
            parts = both (not (is_zero (residue_ops s.p) (get_or hs p []))) _ t

            nonzero : IsFalse (is_zero (residue_ops s.p) (get_or hs p []))
            nonzero = go (is_zero (residue_ops s.p) (get_or hs p [])) parts.0
              where
                go : (b : Bool) → not b ≡ true → b ≡ false
                go true e = absurd (true≢false (sym e))
                go false e = refl

            leads : IsLeadingMonomial (residue_ops s.p) (action_order s) (get_or hs p []) (leading_monomial (residue_ops s.p) (action_order s) (get_or hs p []))
            leads = leading_monomial-leads (residue_ops s.p) (residue_laws s.p) (action_order s) order_laws (get_or hs p []) nonzero

            -- its monomials have no other variables
            alone : (e : Monomial) → ((poly_terms s.p).coefficient (poly_class s.p (get_or hs p [])) e ≡ (scalars s.p).zero → ⊥) → front before e ≡ monomials.one
            alone = monomial_ind (λ e. ((poly_terms s.p).coefficient (poly_class s.p (get_or hs p [])) e ≡ (scalars s.p).zero → ⊥) → front before e ≡ monomials.one) (λ e. hlevel (monomials.is_set)) (λ b nz.
                without-front before b (block_without (group_count s) (space_count s) (space_count s ∷ []) _ b (total-without before _ (eqb-true _ _ parts.1)) (leads.greatest b (coefficient-has (residue_ops s.p) (residue_laws s.p) (get_or hs p []) b nz))))

            absent : (e : Monomial) → Dec ((poly_terms s.p).coefficient (poly_class s.p (get_or hs p [])) e ≡ (scalars s.p).zero) → monomials.same (front before e) monomials.one ≡ false → (poly_terms s.p).coefficient (poly_class s.p (get_or hs p [])) e ≡ (scalars s.p).zero
            absent e (yes z) u = z
            absent e (no nz) u = absurd (true≢false (sym (monomials.same_refl monomials.one) ∙ ap (λ m. monomials.same m monomials.one) (sym (alone e nz)) ∙ u))

            in_space : (q : PolyClass s.p) × Of (poly_terms s.p) (IsFront (space_count s)) q × (behind_all q ≡ poly_class s.p (get_or hs p []))
            in_space =
                let e : group_count s + 2 * space_count s ≡ before + space_count s = omega arith in
                unmoved (poly_terms s.p) before (space_count s) (of_where (poly_terms s.p) (λ m. monomials.same (front before m) monomials.one)
                (subst (λ (v : ℕ). Of (poly_terms s.p) (IsFront v) (poly_class s.p (get_or hs p []))) e (in_variables-of (residue_ops s.p) (residue_laws s.p) (group_count s + 2 * space_count s) (get_or hs p []) (all_pass (is_in_variables (group_count s + 2 * space_count s)) hs p [] low inside)))
                (λ e u. absent e (class_dec (residue_ops s.p) (residue_laws s.p) _) u))

            a : Extended s (action_ideal s) (over_ring (ops s) (laws s) (field s)).one
            a = record {
              d = in_space.0;
              h = (move (residue_ops s.p) (residue_laws s.p) (space_count s)).at in_space.0;
              d_in_space = in_space.1;
              h_in_both = behind_z (ops s) (laws s) (field s) (space_count s) in_space.1;
              nonzero = λ z. nonzero-class (residue_ops s.p) (residue_laws s.p) (get_or hs p []) nonzero (sym in_space.2 ∙ ap behind_all z ∙ hom-zero (move (residue_ops s.p) (residue_laws s.p) before));
              multiple = read-move (ops s) (laws s) (field s) (space_count s) in_space.0 ∙ sym (mul_one (over_ring (ops s) (laws s) (field s)) _);
              property = ∣ subst (In (poly_terms s.p).ring (generator (residue_ops s.p) (residue_laws s.p) (action_ideal s))) (sym in_space.2 ∙ sym (move-move (residue_ops s.p) (residue_laws s.p) (group_count s) (space_count s) in_space.0))
                  (member-in (residue_ops s.p) (residue_laws s.p) (action_ideal s) (get_or hs p []) (all_recursively (IsMember (residue_ops s.p) (action_ideal s)) hs p [] low basis.ideal.0)) ∣₁;
            }

        found : (p : ℕ) × (p < length hs) × IsTrue (leads_in_space s (get_or hs p [])) × ((j : ℕ) → j < p → IsFalse (leads_in_space s (get_or hs j []))) → Misses s
        found (p, low, t, first) = found_extended s _ (at_place p low t)
