use Rattle.std.proofs.Common.{ap, map, ◌∙◌}
use Rattle.rinv_system.specs.Lines.{from_word, to_last_word}
use Rattle.rinv_system.proofs.Mapped.{map_done}
use Rattle.rinv_system.proofs.naming.words.Goals as goal

pub returns : goal.returns
returns c = map_done (λ e. e.now) (λ e. to_last_word (from_word e)) c.deref-entry-items.result.now _ _ c.entries.entry-index c.entries.invariant c.entries-test.false (ap (map (λ e. e.now)) c.deref-entry-items.ensures.value ∙ c.in_ok-entries.ensures)
