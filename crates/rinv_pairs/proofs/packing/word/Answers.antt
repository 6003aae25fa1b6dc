use Rattle.std.proofs.Common.{refl}
use Rattle.rinv_pairs.specs.Packing.{word}
use Rattle.rinv_pairs.proofs.packing.word.Goals as goal

pub returns : goal.returns
unfolding word
returns c = rw (c.part.ensures.value, c.part-2.ensures.value, c.part-3.ensures.value, c.part-4.ensures.value, c.after-fourth.ensures, c.after-third.ensures, c.after-second.ensures) refl
