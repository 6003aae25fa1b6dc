use Rattle.rinv_change.proofs.asked.asked_of.Goals as goal

pub returns : goal.returns
returns c = record { ring = c.change_ring-ring.ensures; change = c.in_ok-change.ensures; basis = c.in_ok-basis.ensures }
