-- An answer that a limit on degrees cut.
use Rattle.std.specs.Prelude.{ℕ, List}
use Rattle.rinv_ring.specs.declared.fault.RingFault.{RingFault}
use Rattle.rinv_ring.specs.Fault.{DegreesMeet}
use Rattle.rinv_text.specs.Told.{Told}
use Rattle.rinv_script.specs.Queries.{Query}
use Rattle.rinv_lines.specs.declared.stopped.Stopped.{Stopped}
use Rattle.rinv_lines.specs.Stopped.{StopsSo}
use Rattle.rinv_queries.specs.Cuts.{IsMetAt, IsUnanswered}

-- where the answer to the query with this number meets the fault's degrees, what is printed says so
abbrev pub IsCutAt : Told → List Query → ℕ → RingFault → Stopped → Type 0
IsCutAt told queries number fault result = DegreesMeet (IsMetAt told queries number) fault → StopsSo (IsUnanswered told queries) result
