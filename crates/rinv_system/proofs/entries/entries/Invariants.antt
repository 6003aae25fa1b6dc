use Rattle.std.proofs.Common.{◌≡◌, ◌++◌, map}
use Rattle.std.specs.Option.{option_copied}
use Rattle.rinv_system.specs.Entries.{entries_of}
use Rattle.rinv_system.proofs.EntryFacts.{entries_left, bytes_left}
use Rattle.rinv_system.proofs.entries.entries.Given as goal

abbrev pub invariant-entries : goal.invariant-entries
invariant-entries l = map (λ e. e.now) l.found.items ++ entries_left (option_copied l.rest) ≡ entries_of l.fn.list

abbrev pub decreases-entries : goal.decreases-entries
decreases-entries l = bytes_left (option_copied l.rest)
