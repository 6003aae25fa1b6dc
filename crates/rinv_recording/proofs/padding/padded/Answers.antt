use Rattle.rinv_recording.proofs.PaddedLists.{padded-some}
use Rattle.rinv_recording.proofs.padding.padded.Goals as goal

pub returns-in_ok-list-in-Some-clause-value : goal.returns-in_ok-list-in-Some-clause-value
returns-in_ok-list-in-Some-clause-value c =
    rw c.in-Some.is (padded-some c.args.ring.now.coeffs c.args.quotients.items c.in_ok-begun-in-Some.begun.items c.in_ok-list-in-Some.list.items c.args.count c.in-Some._place c.in_ok-begun-in-Some.ensures.value c.in_ok-list-in-Some.ensures.value)
