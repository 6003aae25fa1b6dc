use Rattle.std.proofs.Common.{length, subst}
use Rattle.rinv_buch.specs.Kinds.{kind_of}
use Rattle.rinv_recording.specs.Divided.{EntryHasRoom}
use Rattle.rinv_recording.proofs.EntryItems.{coprime-item, chain-item, reduced-item}
use Rattle.rinv_recording.proofs.entries.item_of.Goals as goal

pub plain_quotients-requires-clause-room : goal.plain_quotients-requires-clause-room
plain_quotients-requires-clause-room c =
    subst (λ k. EntryHasRoom c.args.entry.now.first c.args.entry.now.second c.args.made (length c.args.polys.now) (kind_of k)) c.in-Reduced.is c.requires.room

pub returns-in-Coprime : goal.returns-in-Coprime
returns-in-Coprime c s set = rw (c.in-Coprime.is, c.in_ok-i.ensures, c.in_ok-j.ensures) (coprime-item s c.args.polys.now c.args.made c.args.entry.now.first c.args.entry.now.second)

pub returns-in_ok-k-in-Chain : goal.returns-in_ok-k-in-Chain
returns-in_ok-k-in-Chain c s set =
    rw (c.in-Chain.is, c.in_ok-i.ensures, c.in_ok-j.ensures, c.in_ok-k-in-Chain.ensures) (chain-item s c.args.polys.now c.args.made c.args.entry.now.first c.args.entry.now.second c.in-Chain.by)

pub returns-in_ok-q-in-Reduced : goal.returns-in_ok-q-in-Reduced
returns-in_ok-q-in-Reduced c s set =
    let room = subst (λ k. EntryHasRoom c.args.entry.now.first c.args.entry.now.second c.args.made (length c.args.polys.now) (kind_of k)) c.in-Reduced.is c.requires.room in
    rw c.in-Reduced.is (reduced-item s c.args.polys.now c.args.made c.args.entry.now.first c.args.entry.now.second c.in_ok-i.i c.in_ok-j.j c.in_ok-i.ensures c.in_ok-j.ensures c.in-Reduced.added c.in_ok-q-in-Reduced.q room (c.in_ok-q-in-Reduced.ensures s set))
