-- What a stop says.
use Rattle.std.specs.Prelude.{ℕ, ⊤}
use Rattle.rinv_ring.specs.declared.fault.RingFault.{RingFault}
use Rattle.rinv_ring.specs.declared.fault.RingFault.TheVariants.{Degree as RingDegree, NoMemory as RingNoMemory}
use Rattle.rinv_certify.specs.declared.stop.CertifyStop.{CertifyStop}
use Rattle.rinv_certify.specs.declared.stop.CertifyStop.TheVariants.{Degree, NoMemory}

-- the degrees that are told are met
abbrev pub StopsAt : (ℕ → ℕ → Type 0) → CertifyStop → Type 0
StopsAt Meets (Degree x y) = Meets x y
StopsAt Meets NoMemory = ⊤

-- the fault of a ring, as a stop
abbrev pub stop_of : RingFault → CertifyStop
stop_of (RingDegree x y) = Degree x y
stop_of RingNoMemory = NoMemory
