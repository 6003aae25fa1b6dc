use Rattle.std.proofs.Common.{List}
use Rattle.rinv_defs.specs.System.{Poly, group_copy, times}
use Rattle.rinv_parts.proofs.Stored.{stored-joined}
use Rattle.rinv_parts.proofs.law_points.products_are_associative.Goals as goal

pub returns : goal.returns
returns c =
    let s = c.args.system.now.system in
    let v = c.args.ring.now.vars in
    let a : List Poly = group_copy s 0 in
    let b : List Poly = group_copy s 1 in
    let d : List Poly = group_copy s 2 in (
      stored-joined s.p v (times s a b) d c.in_ok-first.first.items c.in_ok-c.c.items c.in_ok-left.left.items c.in_ok-left.ensures c.in_ok-first.ensures c.in_ok-c.ensures,
      stored-joined s.p v a (times s b d) c.in_ok-a.a.items c.in_ok-last.last.items c.in_ok-right.right.items c.in_ok-right.ensures c.in_ok-a.ensures c.in_ok-last.ensures,
    )
