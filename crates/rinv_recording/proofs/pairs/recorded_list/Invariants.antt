use Rattle.std.proofs.Common.{map}
use Rattle.rinv_cert.specs.Seen.{pair_item_by}
use Rattle.rinv_recording.proofs.JournalPlaces.{found_of}
use Rattle.rinv_recording.proofs.RecordedSteps.{IsRecordedTo}
use Rattle.rinv_recording.proofs.pairs.recorded_list.Given as goal

abbrev pub invariant-entries : goal.invariant-entries
invariant-entries l =
    IsRecordedTo l.system.system (found_of l.polys l.journal) l.ring.coeffs l.ring.vars l.order-inside.ends.items l.k l.made l.divisors.list.items (map (pair_item_by (λ f. f)) l.items.items)
