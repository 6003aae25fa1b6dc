use Rattle.std.proofs.Common.{◌≡◌, ◌+◌, ◌^◌, min}
use Rattle.rinv_text.specs.Formal.{max_formal_terms}
use Rattle.rinv_text.proofs.size.terms_power.Given as goal

abbrev pub invariant-loop-k : goal.invariant-loop-k
invariant-loop-k l = l.power ≡ min (l.terms ^ l.k) (max_formal_terms + 1)
