-- What the form of a certificate says of its parts.
--   form-field, form-group, form-space, form-ideal, ..     those of every kind
--   form-system                                            all those of a system
--   form-basis, form-inputs, form-pairs, form-relations    those of kind full
use Rattle.std.proofs.Common.{◌≡◌, ◌+◌, ◌*◌, ◌≤◌, [], ◌++◌, length, true, ◌&&◌, ◌==◌, nat_lt, nat_le, IsTrue, None, subst, refl}
use Rattle.std.specs.List.{list_all, AllByRecursion}
use Rattle.std.proofs.lemmas.Bool.{leb-true}
use Rattle.rinv_algebra.specs.Residue.{is_listed}
use Rattle.rinv_algebra.proofs.Same.{both}
use Rattle.rinv_defs.specs.System.{System, group_count, space_count}
use Rattle.rinv_defs.specs.SystemForm.{IsSystem, system_parts, is_good, are_good, is_nonzero}
use Rattle.rinv_defs.specs.Names.{is_between, are_names}
use Rattle.rinv_defs.specs.Certificate.{Certificate, full}
use Rattle.rinv_defs.specs.Format.{first_false, format_failure, parts_of_kind, fraction_parts, common_parts, law_parts, basis_parts, is_basis_item, is_pair_item, is_relation_item}
use Rattle.rinv_defs.proofs.Tests.{parts_true, first_false-append_right, all_of-append}
use Rattle.rinv_defs.proofs.Sound.{common_of_kind}

module _ (c : Certificate) (form : format_failure c ≡ None) where
  common : AllByRecursion (λ p. IsTrue p.1) (common_parts c)
  unfolding format_failure
  common = parts_true (common_parts c) (common_of_kind c.kind c form)

  pub form-field : is_listed c.system.p ≡ true
  form-field = common.0

  pub form-group : length c.system.group ≤ 8
  form-group = let n = length c.system.group in leb-true n 8 (both (nat_le 1 n) (nat_le n 8) (both (is_between 1 8 n) (are_names [] c.system.group) common.1.0).0).1

  pub form-group_names : are_names [] c.system.group ≡ true
  form-group_names = (both (is_between 1 8 (length c.system.group)) (are_names [] c.system.group) common.1.0).1

  pub form-space : length c.system.space ≤ 8
  form-space = let n = length c.system.space in leb-true n 8 (both (nat_le 1 n) (nat_le n 8) (both (is_between 1 8 n) (are_names c.system.group c.system.space) common.1.1.0).0).1

  pub form-space_names : are_names c.system.group c.system.space ≡ true
  form-space_names = (both (is_between 1 8 (length c.system.space)) (are_names c.system.group c.system.space) common.1.1.0).1

  pub form-few : length c.system.ideal ≤ 64
  form-few = leb-true (length c.system.ideal) 64 (both (nat_le (length c.system.ideal) 64) (list_all (is_good c.system (group_count c.system)) c.system.ideal) common.1.1.1.0).0

  pub form-ideal : list_all (is_good c.system (group_count c.system)) c.system.ideal ≡ true
  form-ideal = (both (nat_le (length c.system.ideal) 64) (list_all (is_good c.system (group_count c.system)) c.system.ideal) common.1.1.1.0).1

  pub form-unit : (length c.system.unit == group_count c.system && list_all (λ x. nat_lt x c.system.p) c.system.unit) ≡ true
  form-unit = common.1.1.1.1.0

  pub form-product : are_good c.system (group_count c.system) (2 * group_count c.system) c.system.product ≡ true
  form-product = common.1.1.1.1.1.0

  pub form-inverse : are_good c.system (group_count c.system) (group_count c.system) c.system.inverse ≡ true
  form-inverse = common.1.1.1.1.1.1.0

  pub form-action : are_good c.system (space_count c.system) (group_count c.system + space_count c.system) c.system.action ≡ true
  form-action = common.1.1.1.1.1.1.1.0

  pub form-fractions : list_all (λ f. is_good c.system (space_count c.system) f.0 && is_nonzero c.system (space_count c.system) f.1) c.fractions ≡ true
  form-fractions = common.1.1.1.1.1.1.1.1.0

  pub form-invariance : (length c.invariance == length c.fractions && list_all (are_good c.system (length c.system.ideal) (group_count c.system + space_count c.system)) c.invariance) ≡ true
  form-invariance = common.1.1.1.1.1.1.1.1.1.0

  -- a system without a section
  pub form-system : c.system.section ≡ [] → IsSystem c.system
  form-system none = whole c.system none (all_of-append (system_parts c.system) (fraction_parts c) common)
    where
      whole : (s : System) → s.section ≡ [] → list_all (λ part. part.1) (system_parts s) ≡ true → IsSystem s
      whole s e all = rw (all, e) refl

-- an ideal has at most 64 generators
pub few-generators : (c : Certificate) → first_false (common_parts c) ≡ None → length c.system.ideal ≤ 64
few-generators c none =
    let common : AllByRecursion (λ p. IsTrue p.1) (common_parts c) = parts_true (common_parts c) none in
    leb-true (length c.system.ideal) 64 (both (nat_le (length c.system.ideal) 64) (list_all (is_good c.system (group_count c.system)) c.system.ideal) common.1.1.1.0).0

-- ---- the basis

module _ (c : Certificate) (kind : c.kind ≡ full) (form : format_failure c ≡ None) where
  basis : AllByRecursion (λ p. IsTrue p.1) (basis_parts c)
  unfolding format_failure
  basis =
      let whole : first_false (common_parts c ++ law_parts c ++ basis_parts c) ≡ None = subst (λ k. first_false (parts_of_kind k c) ≡ None) kind form in
      parts_true (basis_parts c) (first_false-append_right (common_parts c ++ law_parts c) (basis_parts c) whole)

  pub form-basis : list_all (is_basis_item c.system) c.basis ≡ true
  form-basis = basis.0

  pub form-inputs : (length c.inputs == length c.system.ideal + space_count c.system && list_all (are_good c.system (length c.basis) (group_count c.system + 2 * space_count c.system)) c.inputs) ≡ true
  form-inputs = basis.1.0

  pub form-pairs : list_all (is_pair_item c.system (length c.basis)) c.pairs ≡ true
  form-pairs = basis.1.1.0

  pub form-relations : list_all (is_relation_item c.system c.fractions) c.relations ≡ true
  form-relations = basis.1.1.1.0
