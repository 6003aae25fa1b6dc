-- What stands for the variables where Z = g, as it is made in a ring with these numbers.
use Rattle.std.proofs.Common.{◌≡◌, ℕ, ◌*◌, ◌++◌, List, map, arith}
use Rattle.std.specs.List.{range_with_len}
use Rattle.rinv_algebra.specs.Residue.{residue_ops}
use Rattle.rinv_algebra.specs.Polynomial.{variable}
use Rattle.rinv_defs.specs.System.{System, Poly, group_count, space_count}
use Rattle.rinv_defs.specs.Conditions.{graph_point}
use Rattle.rinv_parts.specs.Points.{AreStored}
use Rattle.rinv_change.specs.Changes.{change_count}

pub point-stored : (s : System) (p v l n : ℕ) (action items : List Poly) → p ≡ s.p → v ≡ change_count s → l ≡ group_count s → n ≡ space_count s → action ≡ s.action
    → AreStored p v (map (variable (residue_ops p)) (range_with_len 0 l) ++ action ++ map (variable (residue_ops p)) (range_with_len l n)) items → AreStored s.p (change_count s) (graph_point s) items
point-stored s p v l n action items field vars group space is h =
    let e : 0 * group_count s ≡ 0 = omega arith in
    let f : 1 * group_count s ≡ group_count s = omega arith in
    rw (e, f) (rw (field, vars, group, space, is) at h)
