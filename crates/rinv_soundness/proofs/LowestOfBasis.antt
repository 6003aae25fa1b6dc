-- By the basis of an accepted certificate, a member of the extended ideal without reducible monomials is zero.
--   move-coefficient     a coefficient of a moved polynomial
--   inputs_in            the generators of the group and the graph are sums of multiples of the basis
--   divided_by_basis     the leading monomial of a member is divided by that of an element of the basis
--   certificate-lowest   the fact
use Rattle.std.proofs.Common.{◌≡◌, ℕ, zero, suc, ◌+◌, ◌*◌, ◌<◌, ◌≤◌, Bool, true, false, cond, List, [], ◌∷◌, length, length-append, map, take, None, refl, sym, ◌∙◌, ap, ap₂, subst, arith}
use Rattle.std.specs.Prelude.{IsTrue, IsFalse, ◌==◌, not, sum, zip}
use Rattle.std.specs.List.{list_all, list_any, position_from}
use Rattle.std.proofs.lemmas.Bool.{eqb-true}
use Rattle.std.proofs.lemmas.List.{length-map}
use Rattle.std.proofs.lemmas.List.Sums.{sum_by-cons}
use mathlib.Core.Bool.{Bool-set}
use mathlib.Core.Logic.{∥∥₁_elim}
use Rattle.rinv_algebra.specs.Ring.{RingOps, RingLaws}
use Rattle.rinv_algebra.specs.Residue.{residue_ops}
use Rattle.rinv_algebra.specs.Monomial.{same_monomial, divides, total_degree}
use Rattle.rinv_algebra.specs.Polynomial.{poly_ops, is_zero, same, past}
use Rattle.rinv_algebra.specs.Ideal.{IsMember, combination}
use Rattle.rinv_algebra.specs.Fits.{multiplies_out, combination_fits}
use Rattle.rinv_algebra.specs.Normal.{is_in_variables}
use Rattle.rinv_algebra.specs.Leading.{leading_monomial}
use Rattle.rinv_algebra.proofs.Same.{both, and_true}
use Rattle.rinv_algebra.proofs.BlockOrder.{block_order_laws}
use Rattle.rinv_algebra.proofs.Grevlex.{block_order_ties}
use Rattle.rinv_algebra.proofs.PolynomialLaws.{poly_laws}
use Rattle.rinv_theory.proofs.Classes.{Class, class, class_ring, class_sound, class-zero}
use Rattle.rinv_theory.proofs.Monoid.{IsOne, Monomial, monomial, monomials, monomial_exact, monomial-one}
use Rattle.rinv_theory.proofs.TermRing.{coefficient-zero}
use Rattle.rinv_theory.proofs.Polynomials.{polynomials, poly_ring, coefficient_at, coefficient_at-ext}
use Rattle.rinv_theory.proofs.Of.{Of}
use Rattle.rinv_theory.proofs.Ideals.{In}
use Rattle.rinv_theory.proofs.Members.{generator, member-in, in-member}
use Rattle.rinv_theory.proofs.Places.{front, front-list, back, back-list, behind}
use Rattle.rinv_theory.proofs.Variables.{IsFront, of-in_variables, past-class}
use Rattle.rinv_theory.proofs.Fields.{fraction_laws}
use Rattle.rinv_groebner.specs.Orders.{OrdersMonomials}
use Rattle.rinv_groebner.specs.Division.{is_reducible}
use Rattle.rinv_groebner.proofs.ListElements.{AllFirst, all_first}
use Rattle.rinv_groebner.proofs.Compared.{InFirst, has-coefficient}
use Rattle.rinv_groebner.proofs.LeadingMonomials.{leading_monomial-leads}
use Rattle.rinv_groebner.specs.Settled.{AreAllListed}
use Rattle.rinv_groebner.proofs.Reducible.{place-inside}
use Rattle.rinv_groebner.proofs.ListBases.{good_basis}
use Rattle.rinv_groebner.proofs.SettledLists.{settled-good-list, all-good}
use Rattle.rinv_defs.specs.System.{Poly, group_count, space_count}
use Rattle.rinv_defs.specs.SystemForm.{are_good, is_good, is_nonzero}
use Rattle.rinv_defs.specs.Generators.{rational_ops}
use Rattle.rinv_defs.specs.Certificate.{Certificate, BasisItem}
use Rattle.rinv_defs.specs.Format.{is_basis_item}
use Rattle.rinv_defs.specs.Extended.{graph}
use Rattle.rinv_defs.specs.Conditions.{elements, inputs_failure}
use Rattle.rinv_defs.specs.PairConditions.{action_order}
use Rattle.rinv_defs.specs.RelationConditions.{z_part}
use Rattle.rinv_defs.proofs.Tests.{position_none}
use Rattle.rinv_defs.proofs.Sound.{normal_in_variables}
use Rattle.rinv_soundness.specs.Rewriting.{symbol_relation, symbol_relations}
use Rattle.rinv_soundness.proofs.FirstVariables.{moved_front}
use Rattle.rinv_soundness.proofs.GeneratorLists.{in-lists}
use Rattle.rinv_soundness.proofs.Substituting.{move}
use Rattle.rinv_soundness.proofs.Relabels.{graph_few}
use Rattle.rinv_soundness.proofs.PlaceFacts.{front-behind, back-behind, nest-coefficient, nest-behind}
use Rattle.rinv_soundness.proofs.OverFractions.{over_ring}
use Rattle.rinv_soundness.proofs.HasMultiples.{multiple-lacks, multiple-zero}
use Rattle.rinv_soundness.proofs.ExtendedIdeals.{ops, laws, field, Extended}
use Rattle.rinv_soundness.proofs.ActionIdeals.{generators}
use Rattle.rinv_soundness.proofs.LowestMembers.{IsReducibleBy, any-map}
use Rattle.rinv_soundness.proofs.FullParts.{FullParts}
use Rattle.rinv_soundness.proofs.SettledEntries.{Settled, all_variables, entries_settle}
use Rattle.rinv_soundness.proofs.CoveredLeads.{leads_cover}

module _ {E : Type 0} (o : RingOps E) (l : RingLaws o) (k : ℕ) where
  -- a coefficient of a moved polynomial: it is zero where the monomial has one of the first k variables
  pub move-coefficient : (x : Class (poly_ops o)) (m : Monomial) → coefficient_at o l ((move o l k).at x) m ≡ cond (monomials.same monomials.one (front k m)) (coefficient_at o l x (back k m)) (class_ring o l).zero
  move-coefficient x m =
      sym (nest-coefficient (polynomials o l) (polynomials o l) (polynomials (poly_ops o) (poly_laws o l)) k ((move o l k).at x) m)
      ∙ ap (λ y. coefficient_at o l (coefficient_at (poly_ops o) (poly_laws o l) y (front k m)) (back k m)) (nest-behind (polynomials o l) (polynomials o l) (polynomials (poly_ops o) (poly_laws o l)) k x)
      ∙ ap (λ y. coefficient_at o l y (back k m)) ((polynomials (poly_ops o) (poly_laws o l)).coefficient_term x monomials.one (front k m))
      ∙ go (monomials.same monomials.one (front k m))
    where
      go : (b : Bool) → coefficient_at o l (cond b x (poly_ring o l).zero) (back k m) ≡ cond b (coefficient_at o l x (back k m)) (class_ring o l).zero
      go true = refl
      go false = coefficient-zero (polynomials o l) (back k m)

  -- so only zero is moved to zero
  pub move-zero : (x : Class (poly_ops o)) → (move o l k).at x ≡ (poly_ring o l).zero → x ≡ (poly_ring o l).zero
  move-zero x e = coefficient_at-ext o l x (poly_ring o l).zero (λ m.
      sym (move-coefficient x (behind k m) ∙ ap₂ (λ a b. cond (monomials.same monomials.one a) (coefficient_at o l x b) (class_ring o l).zero) (front-behind k m) (back-behind k m) ∙ ap (λ b. cond b (coefficient_at o l x m) (class_ring o l).zero) (monomials.same_refl monomials.one))
      ∙ ap (λ y. coefficient_at o l y (behind k m)) e ∙ coefficient-zero (polynomials o l) (behind k m) ∙ sym (coefficient-zero (polynomials o l) m))

sum-one : (a : List ℕ) → IsOne a [] → sum a ≡ 0
unfolding same_monomial
sum-one [] e = refl
sum-one (x ∷ a) e = let t = both (x == 0) (same_monomial a []) e in let i = sum-one a t.1 in let z : x ≡ 0 = eqb-true _ _ t.0 in omega (arith, i, z, sum_by-cons (λ (n : ℕ). n) x a)

module _ (c : Certificate) (parts : FullParts c) where
  -- the order of the basis orders the monomials in its variables
  pub basis_order : OrdersMonomials (action_order c.system) (all_variables c)
  basis_order = record {
    laws = block_order_laws (group_count c.system ∷ space_count c.system ∷ space_count c.system ∷ []);
    ties = λ a b la lb. block_order_ties (group_count c.system ∷ space_count c.system ∷ space_count c.system ∷ []) a b (la ∙ sym lb) (omega (arith, la));
  }

  basis_forms : (bs : List BasisItem) → list_all (is_basis_item c.system) bs ≡ true → (list_all (is_in_variables (all_variables c)) (map (λ b. b.h) bs) ≡ true) × (list_all (λ h. not (is_zero (residue_ops c.system.p) h)) (map (λ b. b.h) bs) ≡ true)
  basis_forms [] h = (refl, refl)
  basis_forms (b ∷ bs) h =
      let item = both (is_basis_item c.system b) (list_all (is_basis_item c.system) bs) h in
      let form = both (is_nonzero c.system (all_variables c) b.h) (are_good c.system (length c.system.ideal) (group_count c.system + space_count c.system) b.cofactors) item.0 in
      let good = both (is_good c.system (all_variables c) b.h) (not (is_zero (residue_ops c.system.p) b.h)) form.0 in
      let rest = basis_forms bs item.1 in
      (and_true (is_in_variables (all_variables c) b.h) _ (normal_in_variables c.system (all_variables c) b.h good.0) rest.0, and_true (not (is_zero (residue_ops c.system.p) b.h)) _ good.1 rest.1)

  -- the elements are in these variables
  basis_first : AllFirst (ops c.system) (laws c.system) (all_variables c) (elements c)
  basis_first = all_first (ops c.system) (laws c.system) (all_variables c) (elements c) (basis_forms c.basis parts.basis).0

  shown_in : (fs : List Poly) (uss : List (List Poly)) (start : ℕ) → length fs ≤ length uss → list_all (are_good c.system (length c.basis) (all_variables c)) uss ≡ true → position_from (λ x. not (multiplies_out (residue_ops c.system.p) x.0 x.1 (elements c))) start (zip fs uss) ≡ None
      → (k : ℕ) → k < length fs → In (poly_ring (ops c.system) (laws c.system)) (generator (ops c.system) (laws c.system) (elements c)) (generator (ops c.system) (laws c.system) fs k)
  shown_in [] uss start many forms shown k low = absurd (omega arith)
  shown_in (f ∷ fs) [] start many forms shown k low = absurd (omega (arith, many))
  shown_in (f ∷ fs) (us ∷ uss) start many forms shown zero low =
      let here = position_none (multiplies_out (residue_ops c.system.p) f us (elements c)) start _ shown in
      let sums = both (combination_fits (residue_ops c.system.p) us (elements c)) (same (residue_ops c.system.p) f (combination (residue_ops c.system.p) us (elements c))) here.0 in
      let form = both (are_good c.system (length c.basis) (all_variables c) us) (list_all (are_good c.system (length c.basis) (all_variables c)) uss) forms in
      let count = eqb-true (length us) (length c.basis) (both (length us == length c.basis) (list_all (is_good c.system (all_variables c)) us) form.0).0 in
      member-in (ops c.system) (laws c.system) (elements c) f (record { cofactors = us; as_many = count ∙ sym (length-map c.basis (λ b. b.h)); sums_up = sums.1 })
  shown_in (f ∷ fs) (us ∷ uss) start many forms shown (suc k) low =
      let here = position_none (multiplies_out (residue_ops c.system.p) f us (elements c)) start _ shown in
      let form = both (are_good c.system (length c.basis) (all_variables c) us) (list_all (are_good c.system (length c.basis) (all_variables c)) uss) forms in
      shown_in fs uss (start + 1) (omega (arith, many)) form.1 here.1 k (omega (arith, low))

  -- a generator of the group or the graph is a sum of multiples of the basis
  inputs_in : (k : ℕ) → k < length (generators c.system parts.form) → In (poly_ring (ops c.system) (laws c.system)) (generator (ops c.system) (laws c.system) (elements c)) (generator (ops c.system) (laws c.system) (generators c.system parts.form) k)
  unfolding inputs_failure
  inputs_in = shown_in (generators c.system parts.form) c.inputs 1 (omega (arith, length-append c.system.ideal (graph c.system), graph_few c.system, parts.input_count)) parts.inputs parts.inputs_shown

  -- the leading monomial of a member is divided by that of an element of the basis
  pub divided_by_basis : (f : Poly) → InFirst (ops c.system) (laws c.system) (all_variables c) f → In (poly_ring (ops c.system) (laws c.system)) (generator (ops c.system) (laws c.system) (generators c.system parts.form)) (class (poly_ops (ops c.system)) f) → IsFalse (is_zero (residue_ops c.system.p) f)
      → IsTrue (is_reducible (residue_ops c.system.p) (action_order c.system) (elements c) (leading_monomial (residue_ops c.system.p) (action_order c.system) f))
  divided_by_basis f first r nonzero =
      ∥∥₁_elim (in-member (ops c.system) (laws c.system) (elements c) (in-lists (ops c.system) (laws c.system) (generator (ops c.system) (laws c.system) (elements c)) (generators c.system parts.form) inputs_in r) f refl) (Bool-set _ _) (λ m. with_pairs (entries_settle c parts.pairs parts.pairs_shown) m)
    where
      with_pairs : (pairs : List (ℕ × ℕ)) × Settled c pairs × AreAllListed (elements c) pairs → IsMember (residue_ops c.system.p) (elements c) f → IsTrue (is_reducible (residue_ops c.system.p) (action_order c.system) (elements c) (leading_monomial (residue_ops c.system.p) (action_order c.system) f))
      with_pairs (pairs, settled, listed) m = good_basis (ops c.system) (laws c.system) (field c.system) (action_order c.system) (all_variables c) basis_order (elements c) basis_first
          (all-good (ops c.system) (laws c.system) (field c.system) (action_order c.system) (all_variables c) basis_order (elements c) basis_first (λ x y h. settled-good-list (ops c.system) (laws c.system) (field c.system) (action_order c.system) (all_variables c) basis_order (elements c) basis_first (basis_forms c.basis parts.basis).1 settled x y
          (listed x.0 y.0 h (place-inside (residue_ops c.system.p) (action_order c.system) (elements c) y)))) f first m nonzero

  abbrev Coefficient : Class (poly_ops (rational_ops c.system.p)) → Monomial → Class (rational_ops c.system.p)
  Coefficient x m = coefficient_at (rational_ops c.system.p) (fraction_laws (ops c.system) (laws c.system) (field c.system)) x m

  -- a member without reducible monomials is zero
  pub certificate-lowest : (x : Class (poly_ops (rational_ops c.system.p))) → Extended c.system (generators c.system parts.form) x
      → ((m : Monomial) → IsReducibleBy (map (λ q. q.lead) (symbol_relations c)) m → Coefficient x m ≡ (class_ring (rational_ops c.system.p) (fraction_laws (ops c.system) (laws c.system) (field c.system))).zero) → x ≡ (over_ring (ops c.system) (laws c.system) (field c.system)).zero
  certificate-lowest x a irreducible = multiple-zero (ops c.system) (laws c.system) (field c.system) (space_count c.system) a (∥∥₁_elim (of-in_variables (ops c.system) (laws c.system) (2 * space_count c.system) a.h_in_both) ((poly_ring (ops c.system) (laws c.system)).is_set _ _) (λ (g, g_in, at). at_list g at))
    where
      reducible : (m : List ℕ) → list_any (λ r. divides r.a (z_part c.system m)) c.relations ≡ true → IsReducibleBy (map (λ q. q.lead) (symbol_relations c)) (front (space_count c.system) (back (group_count c.system) (monomial m)))
      reducible m h = (z_part c.system m, sym (ap (front (space_count c.system)) (back-list (group_count c.system) m) ∙ front-list (space_count c.system) _), any-map (λ q. q.lead) (λ l. divides l (z_part c.system m)) (symbol_relations c) ∙ any-map (symbol_relation c.system.p) (λ q. divides q.lead (z_part c.system m)) c.relations ∙ h)

      impossible : (f : Poly) → class (poly_ops (ops c.system)) f ≡ (move (ops c.system) (laws c.system) (group_count c.system)).at a.h → IsFalse (is_zero (residue_ops c.system.p) f) → (b : Bool) → monomials.same monomials.one (front (group_count c.system) (monomial (leading_monomial (residue_ops c.system.p) (action_order c.system) f))) ≡ b → ⊥
      impossible f at nonzero b e = has-coefficient (ops c.system) (laws c.system) f lead (leading_monomial-leads (residue_ops c.system.p) (laws c.system) (action_order c.system) basis_order.laws f nonzero).has (
          ap (λ y. coefficient_at (ops c.system) (laws c.system) y (monomial lead)) at ∙ move-coefficient (ops c.system) (laws c.system) (group_count c.system) a.h (monomial lead) ∙ absent b e)
        where
          lead : List ℕ
          lead = leading_monomial (residue_ops c.system.p) (action_order c.system) f

          zero : Class (ops c.system)
          zero = (class_ring (ops c.system) (laws c.system)).zero

          first : InFirst (ops c.system) (laws c.system) (all_variables c) f
          first = subst (Of (polynomials (ops c.system) (laws c.system)) (IsFront (all_variables c))) (sym at) (moved_front (polynomials (ops c.system) (laws c.system)) (group_count c.system) (2 * space_count c.system) a.h_in_both)

          divided : IsTrue (is_reducible (residue_ops c.system.p) (action_order c.system) (elements c) (leading_monomial (residue_ops c.system.p) (action_order c.system) f))
          divided = ∥∥₁_elim a.property (Bool-set _ _) (λ inside. divided_by_basis f first (subst (In (poly_ring (ops c.system) (laws c.system)) (generator (ops c.system) (laws c.system) (generators c.system parts.form))) (sym at) inside) nonzero)

          absent : (b : Bool) → monomials.same monomials.one (front (group_count c.system) (monomial (leading_monomial (residue_ops c.system.p) (action_order c.system) f))) ≡ b
              → cond (monomials.same monomials.one (front (group_count c.system) (monomial (leading_monomial (residue_ops c.system.p) (action_order c.system) f)))) (coefficient_at (ops c.system) (laws c.system) a.h (back (group_count c.system) (monomial (leading_monomial (residue_ops c.system.p) (action_order c.system) f)))) (class_ring (ops c.system) (laws c.system)).zero ≡ (class_ring (ops c.system) (laws c.system)).zero
          absent false e = ap (λ t. cond t (coefficient_at (ops c.system) (laws c.system) a.h (back (group_count c.system) (monomial (leading_monomial (residue_ops c.system.p) (action_order c.system) f)))) (class_ring (ops c.system) (laws c.system)).zero) e
          absent true e =
              let free : total_degree (take (group_count c.system) (leading_monomial (residue_ops c.system.p) (action_order c.system) f)) ≡ 0 = sum-one _ (monomial_exact (take (group_count c.system) (leading_monomial (residue_ops c.system.p) (action_order c.system) f)) [] (sym (front-list (group_count c.system) _) ∙ sym (monomials.same_eq monomials.one _ e) ∙ sym monomial-one)) in
              ap (λ t. cond t (coefficient_at (ops c.system) (laws c.system) a.h (back (group_count c.system) (monomial (leading_monomial (residue_ops c.system.p) (action_order c.system) f)))) (class_ring (ops c.system) (laws c.system)).zero) e
              ∙ multiple-lacks (ops c.system) (laws c.system) (field c.system) (space_count c.system) a (back (group_count c.system) (monomial (leading_monomial (residue_ops c.system.p) (action_order c.system) f))) (irreducible _ (reducible _ (leads_cover c parts.leads_shown _ divided free)))

      at_list : (g : Poly) → class (poly_ops (ops c.system)) g ≡ a.h → a.h ≡ (poly_ring (ops c.system) (laws c.system)).zero
      at_list g at = go (is_zero (residue_ops c.system.p) (past (group_count c.system) g)) refl
        where
          moved : class (poly_ops (ops c.system)) (past (group_count c.system) g) ≡ (move (ops c.system) (laws c.system) (group_count c.system)).at a.h
          moved = past-class (ops c.system) (laws c.system) (group_count c.system) g ∙ ap (move (ops c.system) (laws c.system) (group_count c.system)).at at

          go : (b : Bool) → is_zero (residue_ops c.system.p) (past (group_count c.system) g) ≡ b → a.h ≡ (poly_ring (ops c.system) (laws c.system)).zero
          go true e = move-zero (ops c.system) (laws c.system) (group_count c.system) a.h (sym moved ∙ class_sound (poly_ops (ops c.system)) (poly_laws (ops c.system) (laws c.system)) _ [] e ∙ class-zero (poly_ops (ops c.system)) (poly_laws (ops c.system) (laws c.system)))
          go false e = absurd (impossible (past (group_count c.system) g) moved e _ refl)
