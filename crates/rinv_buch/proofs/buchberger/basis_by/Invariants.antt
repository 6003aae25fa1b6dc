use Rattle.std.proofs.Common.{◌≡◌}
use Rattle.rinv_buch.specs.Kinds.{journal_of}
use Rattle.rinv_buch.specs.Runs.{IsRun}
use Rattle.rinv_buch.specs.Spent.{IsKept, KeepsLimits, SpendsOn}
use Rattle.rinv_buch.proofs.PairsLeft.{pairs_left}
use Rattle.rinv_buch.proofs.buchberger.basis_by.Given as goal

abbrev pub invariant-pairs : goal.invariant-pairs
invariant-pairs g l =
    IsRun (g.F.Ring.ops l.ring.coeffs) (g.F.Ring.is_element l.ring.coeffs) l.ring.vars (g.O.MonoOrder.cmp l.order) l.given l.queue l.run
    × SpendsOn (journal_of l.run.journal.items) 0 l.fn.budget l.budget × KeepsLimits l.fn.budget l.budget × IsKept l.budget × (l.queue.order ≡ l.selection)

abbrev pub decreases-pairs : goal.decreases-pairs
decreases-pairs g l = pairs_left (g.F.Ring.ops l.ring.coeffs) l.ring.vars (g.O.MonoOrder.cmp l.order) l.run.elements.polys.items (journal_of l.run.journal.items)
