use Rattle.rinv_text.proofs.Definitions.{none-defined}
use Rattle.rinv_text.proofs.defs.Defs.empty.Goals as goal

pub invariant_of-result : goal.invariant_of-result
invariant_of-result c = none-defined _ c.new.ensures.items
