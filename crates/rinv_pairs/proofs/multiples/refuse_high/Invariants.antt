use Rattle.rinv_pairs.specs.High.{AreLow}
use Rattle.rinv_pairs.proofs.multiples.refuse_high.Given as goal

abbrev pub invariant-loop-i : goal.invariant-loop-i
invariant-loop-i l = AreLow l.leads l.fn.k l.i
