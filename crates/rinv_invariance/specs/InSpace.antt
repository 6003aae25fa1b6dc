-- Elements of a basis of the action's ideal that lie in the space's variables alone.
use Rattle.std.specs.Prelude.{◌+◌, Bool, not, ◌&&◌, ◌==◌, take}
use Rattle.rinv_algebra.specs.Residue.{residue_ops}
use Rattle.rinv_algebra.specs.Monomial.{total_degree}
use Rattle.rinv_algebra.specs.Polynomial.{is_zero}
use Rattle.rinv_algebra.specs.Leading.{leading_monomial}
use Rattle.rinv_defs.specs.System.{System, Poly, group_count, space_count}
use Rattle.rinv_defs.specs.PairConditions.{action_order}

-- whether h is not zero, and its leading monomial has no variable of the group and no Z
abbrev pub leads_in_space : System → Poly → Bool
leads_in_space s h = not (is_zero (residue_ops s.p) h) && (total_degree (take (group_count s + space_count s) (leading_monomial (residue_ops s.p) (action_order s) h)) == 0)
