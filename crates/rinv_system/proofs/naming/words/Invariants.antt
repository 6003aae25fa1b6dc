use Rattle.std.proofs.Common.{◌≡◌, map, take}
use Rattle.rinv_system.specs.Lines.{from_word, to_last_word}
use Rattle.rinv_system.proofs.naming.words.Given as goal

abbrev pub invariant-entries : goal.invariant-entries
invariant-entries l = map (λ w. w.now) l.words.items ≡ map (λ e. to_last_word (from_word e.now)) (take l.entry-index l.entry-items)
