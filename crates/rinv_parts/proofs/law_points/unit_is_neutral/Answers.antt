use Rattle.std.proofs.Common.{List}
use Rattle.rinv_defs.specs.System.{Poly, group_copy, unit_point}
use Rattle.rinv_parts.proofs.Stored.{stored-joined}
use Rattle.rinv_parts.proofs.law_points.unit_is_neutral.Goals as goal

pub returns : goal.returns
returns c =
    let s = c.args.system.now.system in
    let v = c.args.ring.now.vars in
    let a : List Poly = group_copy s 0 in
    let e : List Poly = unit_point s in (
      stored-joined s.p v e a c.in_ok-unit.unit.items c.in_ok-a.a.items c.in_ok-left.left.items c.in_ok-left.ensures c.in_ok-unit.ensures c.in_ok-a.ensures,
      stored-joined s.p v a e c.in_ok-a-2.a.items c.in_ok-unit-2.unit.items c.in_ok-right.right.items c.in_ok-right.ensures c.in_ok-a-2.ensures c.in_ok-unit-2.ensures,
      c.in_ok-a-3.ensures,
    )
