use Rattle.std.proofs.Common.{List}
use Rattle.rinv_defs.specs.System.{Poly, group_copy, inverse_of}
use Rattle.rinv_parts.proofs.Stored.{stored-joined}
use Rattle.rinv_parts.proofs.law_points.inverses_are_inverse.Goals as goal

pub returns : goal.returns
returns c =
    let s = c.args.system.now.system in
    let v = c.args.ring.now.vars in
    let a : List Poly = group_copy s 0 in
    let i : List Poly = inverse_of s a in (
      stored-joined s.p v i a c.in_ok-inverse.inverse.items c.in_ok-a.a.items c.in_ok-left.left.items c.in_ok-left.ensures c.in_ok-inverse.ensures c.in_ok-a.ensures,
      stored-joined s.p v a i c.in_ok-a-2.a.items c.in_ok-inverse-2.inverse.items c.in_ok-right.right.items c.in_ok-right.ensures c.in_ok-a-2.ensures c.in_ok-inverse-2.ensures,
      c.in_ok-unit.ensures,
    )
