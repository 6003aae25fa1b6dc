use Rattle.std.proofs.Common.{List}
use Rattle.rinv_defs.specs.System.{Poly, space_behind, unit_point}
use Rattle.rinv_parts.proofs.Stored.{stored-joined}
use Rattle.rinv_parts.proofs.law_points.unit_moves_nothing.Goals as goal

pub returns : goal.returns
returns c =
    let s = c.args.system.now.system in
    let v = c.args.ring.now.vars in
    let e : List Poly = unit_point s in
    let x : List Poly = space_behind s 0 in (
      stored-joined s.p v e x c.in_ok-unit.unit.items c.in_ok-x.x.items c.in_ok-at_unit.at_unit.items c.in_ok-at_unit.ensures c.in_ok-unit.ensures c.in_ok-x.ensures,
      c.in_ok-x-2.ensures,
    )
