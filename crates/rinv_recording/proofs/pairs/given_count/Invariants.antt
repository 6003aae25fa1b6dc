use Rattle.std.proofs.Common.{◌≡◌, ◌+◌, take}
use Rattle.rinv_buch.specs.Kinds.{journal_of}
use Rattle.rinv_recording.proofs.JournalPlaces.{adding}
use Rattle.rinv_recording.proofs.pairs.given_count.Given as goal

abbrev pub invariant-entries : goal.invariant-entries
invariant-entries l = l.given + adding (take l.k (journal_of l.journal)) ≡ l.count
