use Rattle.std.proofs.Common.{nat_lt, arith}
use Rattle.std.proofs.lemmas.List.{length-take-le}
use Rattle.std.proofs.lemmas.List.Elements.{All-take}
use Rattle.rinv_algebra.specs.BlockEnds.{sizes_from}
use Rattle.rinv_algebra.specs.Order.{block_order}
use Rattle.rinv_algebra.specs.Residue.{residue_ops}
use Rattle.rinv_algebra.specs.Normal.{IsNormal}
use Rattle.rinv_recording.proofs.PaddedLists.{again-number}
use Rattle.rinv_recording.proofs.entries.recorded.Goals as goal

pub quotients_at-requires-clause-polys : goal.quotients_at-requires-clause-polys
quotients_at-requires-clause-polys c =
    let p = c.args.ring.now.coeffs in
    All-take (IsNormal (residue_ops p) (λ n. nat_lt n p) c.args.ring.now.vars) c.args.made c.args.polys.now c.requires.polys

pub quotients_at-requires-clause-inside : goal.quotients_at-requires-clause-inside
quotients_at-requires-clause-inside c =
    let many = length-take-le c.args.made c.args.polys.now (omega (arith, c.requires.room.room)) in
    omega (arith, many, c.requires.room.inside)

pub padded-requires : goal.padded-requires
padded-requires c = c.in_ok-quotients.ensures.quotients.stored

pub returns-clause-again : goal.returns-clause-again
returns-clause-again c = record {
  quotients = c.in_ok-quotients.quotients.items;
  are = c.in_ok-quotients.ensures.quotients;
  recorded = c.in_ok-list.ensures.value;
  normal = c.in_ok-list.ensures.normal;
  multiples = c.in_ok-quotients.ensures.fits;
}

pub returns-clause-number : goal.returns-clause-number
returns-clause-number c =
    again-number c.args.ring.now.coeffs c.args.ring.now.vars (block_order (sizes_from 0 c.args.order.now)) c.args.polys.now c.args.entry.now.first c.args.entry.now.second c.args.made c.args.added
    c.in_ok-quotients.quotients.items c.in_ok-list.list.items c.in_ok-quotients.ensures.quotients c.requires.room.room c.in_ok-list.ensures.value
