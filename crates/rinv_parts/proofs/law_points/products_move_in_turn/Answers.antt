use Rattle.std.proofs.Common.{List}
use Rattle.rinv_defs.specs.System.{Poly, group_copy, space_behind, moved, times}
use Rattle.rinv_parts.proofs.Stored.{stored-joined}
use Rattle.rinv_parts.proofs.law_points.products_move_in_turn.Goals as goal

pub returns : goal.returns
returns c =
    let s = c.args.system.now.system in
    let v = c.args.ring.now.vars in
    let a : List Poly = group_copy s 0 in
    let b : List Poly = group_copy s 1 in
    let x : List Poly = space_behind s 2 in (
      stored-joined s.p v a (moved s b x) c.in_ok-a.a.items c.in_ok-near.near.items c.in_ok-left.left.items c.in_ok-left.ensures c.in_ok-a.ensures c.in_ok-near.ensures,
      stored-joined s.p v (times s a b) x c.in_ok-both.both.items c.in_ok-x.x.items c.in_ok-right.right.items c.in_ok-right.ensures c.in_ok-both.ensures c.in_ok-x.ensures,
    )
