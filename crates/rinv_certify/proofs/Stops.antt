-- Faults of a ring, as stops.
--   stop-meets           the degrees that a fault carries, and those of the stop
use Rattle.std.proofs.Common.{ℕ}
use Rattle.rinv_ring.specs.Fault.{DegreesMeet}
use Rattle.rinv_ring.specs.declared.fault.RingFault.{RingFault}
use Rattle.rinv_ring.specs.declared.fault.RingFault.TheVariants.{Degree, NoMemory}
use Rattle.rinv_certify.specs.Stopped.{StopsAt, stop_of}

pub stop-meets : (P Q : ℕ → ℕ → Type 0) → ((x y : ℕ) → P x y → Q x y) → (fault : RingFault) → DegreesMeet P fault → StopsAt Q (stop_of fault)
stop-meets P Q f (Degree x y) h = f x y h
stop-meets P Q f NoMemory h = tt
