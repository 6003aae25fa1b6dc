use Rattle.std.proofs.Common.{◌≡◌, map, take}
use Rattle.rinv_system.specs.Forms.{AreNewNames}
use Rattle.rinv_system.proofs.naming.new_names.Given as goal

abbrev pub invariant-words : goal.invariant-words
invariant-words l = (l.names ≡ take l.word-index (map (λ w. w.now) l.words)) × AreNewNames l.earlier (take l.word-index (map (λ w. w.now) l.words))
