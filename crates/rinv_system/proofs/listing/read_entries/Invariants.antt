use Rattle.std.proofs.Common.{map, take}
use Rattle.rinv_system.specs.Forms.{AreEntries}
use Rattle.rinv_system.proofs.listing.read_entries.Given as goal

abbrev pub invariant-entries : goal.invariant-entries
invariant-entries l = AreEntries l.field l.names (take l.entry-index (map (λ e. e.now) l.entries)) l.found.items
