use Rattle.std.proofs.Common.{◌≡◌, true, take}
use Rattle.std.specs.List.{list_all}
use Rattle.rinv_system.specs.Entries.{is_name_word}
use Rattle.rinv_system.proofs.naming.are_name_words.Given as goal

abbrev pub invariant-words : goal.invariant-words
invariant-words l = list_all (λ w. is_name_word w.now) (take l.word-index l.words) ≡ true
