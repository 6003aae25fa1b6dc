-- What a stop of the passage to fractions says.
use Rattle.std.specs.Prelude.{ℕ, ⊤}
use Rattle.rinv_defs.specs.System.{Poly}
use Rattle.rinv_ring.specs.declared.fault.RingFault.{RingFault}
use Rattle.rinv_ring.specs.declared.fault.RingFault.TheVariants.{Degree as DegreeFault, NoMemory as MemoryFault}
use Rattle.rinv_elim.specs.declared.stop.ElimStop.{ElimStop}
use Rattle.rinv_elim.specs.declared.stop.ElimStop.TheVariants.{Whole, Degree, NoMemory}

-- one fact holds of the element that is missed, the other of the degrees that are met
abbrev pub StopsAt : (Poly → Type 0) → (ℕ → ℕ → Type 0) → ElimStop → Type 0
StopsAt P Q (Whole element) = P element
StopsAt P Q (Degree left right) = Q left right
StopsAt P Q NoMemory = ⊤

-- the stop for a fault of the ring
abbrev pub stop_of : RingFault → ElimStop
stop_of (DegreeFault left right) = Degree left right
stop_of MemoryFault = NoMemory
