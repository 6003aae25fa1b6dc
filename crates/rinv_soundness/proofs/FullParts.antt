-- What an accepted certificate of kind `full` shows of its parts: forms and conditions.
--   FullParts c          the form of the system, the forms of basis, inputs, pairs and relations, and that no condition on them fails
--   full_parts           it has them
use Rattle.std.proofs.Common.{◌≡◌, ◌+◌, ◌*◌, length, true, None, subst}
use Rattle.std.specs.Prelude.{IsTrue, ◌==◌, ◌++◌}
use Rattle.std.specs.List.{list_all, AllByRecursion}
use Rattle.std.proofs.lemmas.Bool.{eqb-true}
use Rattle.rinv_algebra.proofs.Same.{both}
use Rattle.rinv_defs.specs.System.{group_count, space_count}
use Rattle.rinv_defs.specs.SystemForm.{system_parts, are_good}
use Rattle.rinv_defs.specs.Certificate.{Certificate, full}
use Rattle.rinv_defs.specs.Format.{fraction_parts, common_parts, law_parts, basis_parts, parts_of_kind, first_false, format_failure, is_basis_item, is_pair_item, is_relation_item}
use Rattle.rinv_defs.specs.Conditions.{inputs_failure}
use Rattle.rinv_defs.specs.PairConditions.{pairs_failure}
use Rattle.rinv_defs.specs.RelationConditions.{relations_failure, leads_failure}
use Rattle.rinv_defs.specs.Accepted.{conditions_of, first_failing, first_failure, IsAccepted}
use Rattle.rinv_defs.proofs.Tests.{parts_true, first_false-append, first_false-append_right, all_of-append}
use Rattle.rinv_defs.proofs.Sound.{none_at}
use Rattle.rinv_soundness.proofs.SystemForms.{HasForm, form_of_parts}

-- the forms of its parts, and the conditions on basis and relations
pub record FullParts (c : Certificate) : Type 0 where
  pub form : HasForm c.system
  pub basis : list_all (is_basis_item c.system) c.basis ≡ true
  pub input_count : length c.inputs ≡ length c.system.ideal + space_count c.system
  pub inputs : list_all (are_good c.system (length c.basis) (group_count c.system + 2 * space_count c.system)) c.inputs ≡ true
  pub pairs : list_all (is_pair_item c.system (length c.basis)) c.pairs ≡ true
  pub relations : list_all (is_relation_item c.system c.fractions) c.relations ≡ true
  pub inputs_shown : inputs_failure c ≡ None
  pub pairs_shown : pairs_failure c ≡ None
  pub relations_shown : relations_failure c ≡ None
  pub leads_shown : leads_failure c ≡ None

-- an accepted certificate of kind `full` has them
pub full_parts : (c : Certificate) → c.kind ≡ full → IsAccepted c → FullParts c
unfolding first_failure format_failure
full_parts c kind accepted =
    let c1 = none_at _ _ _ (subst (λ k. first_failing (conditions_of k c) ≡ None) kind accepted) in
    let c2 = none_at _ _ _ c1.1 in
    let c3 = none_at _ _ _ c2.1 in
    let c4 = none_at _ _ _ c3.1 in
    let c5 = none_at _ _ _ c4.1 in
    let c6 = none_at _ _ _ c5.1 in
    let c7 = none_at _ _ _ c6.1 in
    let form : first_false (common_parts c ++ law_parts c ++ basis_parts c) ≡ None = subst (λ k. first_false (parts_of_kind k c) ≡ None) kind c1.0 in
    let common = first_false-append (common_parts c) (law_parts c) (first_false-append (common_parts c ++ law_parts c) (basis_parts c) form) in
    let parts : AllByRecursion (λ p. IsTrue p.1) (basis_parts c) = parts_true (basis_parts c) (first_false-append_right (common_parts c ++ law_parts c) (basis_parts c) form) in
    let inputs = both (length c.inputs == length c.system.ideal + space_count c.system) (list_all (are_good c.system (length c.basis) (group_count c.system + 2 * space_count c.system)) c.inputs) parts.1.0 in
    record {
      form = form_of_parts c.system (all_of-append (system_parts c.system) (fraction_parts c) (parts_true (common_parts c) common));
      basis = parts.0;
      input_count = eqb-true _ _ inputs.0;
      inputs = inputs.1;
      pairs = parts.1.1.0;
      relations = parts.1.1.1.0;
      inputs_shown = c4.0;
      pairs_shown = c5.0;
      relations_shown = c6.0;
      leads_shown = c7.0;
    }
