use Rattle.std.proofs.Common.{map, ap, ◌∙◌}
use Rattle.rinv_system.proofs.ShortFacts.{All_entries-short}
use Rattle.rinv_system.proofs.listing.read.Goals as goal

pub listed-requires-clause-short : goal.listed-requires-clause-short
listed-requires-clause-short c = All_entries-short (λ e. e.now) c.deref.result.now c.args.rest.now _ (ap (map (λ e. e.now)) c.deref.ensures.value ∙ c.in_ok-entries.ensures) c.requires.short
