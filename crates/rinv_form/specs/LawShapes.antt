-- The shapes of the lists of cofactors of the laws, by the sizes of a certificate.
use Rattle.std.specs.Prelude.{ℕ, ◌+◌, ◌*◌, List, zip, length, Bool, ◌&&◌, ◌==◌, Option}
use Rattle.std.specs.List.{list_all}
use Rattle.rinv_defs.specs.System.{Poly}
use Rattle.rinv_defs.specs.Laws.{Law, L1, L2, L3, L4, L5, L6, A1, A2, copies}
use Rattle.rinv_defs.specs.Format.{laws_with_cofactors}
use Rattle.rinv_form.specs.Forms.{are_stored, kept}
use Rattle.rinv_form.specs.declared.sizes.Sizes.{Sizes}

-- how many variables the parts of a law have
abbrev pub shape_variables : Sizes → Law → ℕ
shape_variables z A1 = z.space
shape_variables z A2 = 2 * z.group + z.space
shape_variables z law = copies law * z.group

-- how many parts a law has
abbrev pub shape_parts : Sizes → Law → ℕ
shape_parts z L1 = z.ideal
shape_parts z L2 = z.ideal
shape_parts z L3 = z.ideal
shape_parts z L4 = z.group
shape_parts z L5 = 2 * z.group
shape_parts z L6 = 2 * z.group
shape_parts z A1 = z.space
shape_parts z A2 = z.space

-- for each part of the law, as many cofactors as its ideal has generators
abbrev pub is_law_list : Sizes → Law × List (List Poly) → Bool
is_law_list z (law, arrays) =
    length arrays == shape_parts z law && list_all (are_stored z.field (shape_variables z law) (copies law * z.ideal)) arrays

-- such a list for each law that has cofactors
abbrev pub are_law_lists : Sizes → List (List (List Poly)) → Bool
are_law_lists z lists = length lists == length laws_with_cofactors && list_all (is_law_list z) (zip laws_with_cofactors lists)

-- the lists of cofactors of a law of so many points of the group, for so many parts, where they have their form
abbrev pub group_lists : Sizes → (points parts : ℕ) → List (List Poly) → Option (List (List Poly))
group_lists z points parts lists = kept (length lists == parts && list_all (are_stored z.field (points * z.group) (points * z.ideal)) lists) lists

-- those of the second law of the action, where they have it
abbrev pub action_lists : Sizes → List (List Poly) → Option (List (List Poly))
action_lists z lists = kept (length lists == z.space && list_all (are_stored z.field (2 * z.group + z.space) (2 * z.ideal)) lists) lists
