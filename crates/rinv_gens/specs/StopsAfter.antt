-- Why there are no generators of a system, once both runs have ended, as it is told.
use Rattle.std.specs.Prelude.{ℕ}
use Rattle.rinv_text.specs.Told.{Told}
use Rattle.rinv_buch.specs.Kinds.{Found}
use Rattle.rinv_gens.specs.declared.kinds.GenStop.{GenStop}
use Rattle.rinv_gens.specs.declared.relations.RelationStop.{RelationStop}
use Rattle.rinv_gens.specs.Halts.{GenStopsSo}
use Rattle.rinv_gens.specs.Stopped.{RelationsStopSo}

-- where the stop of the relations says what is so, the result does
abbrev pub TellsStop : Told → Found ℕ → RelationStop → GenStop → Type 0
TellsStop told action stop result = RelationsStopSo told.system action stop → GenStopsSo told result
