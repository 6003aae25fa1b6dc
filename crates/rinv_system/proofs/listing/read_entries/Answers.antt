use Rattle.std.proofs.Common.{sym, subst}
use Rattle.rinv_system.specs.Forms.{AreEntries}
use Rattle.rinv_system.proofs.ListFacts.{AreEntries-more, IsFirstFault-at}
use Rattle.rinv_system.proofs.listing.read_entries.Goals as goal

pub entries-init : goal.entries-init
entries-init c = subst (AreEntries _ _ _) (sym c.new-found.ensures.items) AreEntries.none

pub returns-in-Err-clause-fault : goal.returns-in-Err-clause-fault
returns-in-Err-clause-fault c = rw c.line_stop.ensures (IsFirstFault-at c.args.field.now c.args.names.now (λ e. e.now) c.args.entries.now c.entries.entry-index _ c.entries.found.items c.in-Err.stop c.entries-test.true c.entries.invariant c.in-Err.ensures.fault)

pub entries-preserved : goal.entries-preserved
entries-preserved c = AreEntries-more c.args.field.now c.args.names.now (λ e. e.now) c.args.entries.now c.entries.entry-index _ c.in-Ok.polynomial c.entries.found.items _ c.entries-test.true c.entries.invariant (record { denotes = c.in-Ok.ensures.value; normal = c.in-Ok.ensures.normal }) c.in_ok-push-in-Ok.ensures.items
