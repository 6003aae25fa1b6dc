-- The fault of a ring, as the test of the laws tells it.
use Rattle.rinv_ring.specs.declared.fault.RingFault.{RingFault}
use Rattle.rinv_ring.specs.declared.fault.RingFault.TheVariants.{Degree as RingDegree, NoMemory as RingNoMemory}
use Rattle.rinv_laws.specs.declared.stop.LawStop.{LawStop}
use Rattle.rinv_laws.specs.declared.stop.LawStop.TheVariants.{Degree, NoMemory}

abbrev pub stop_of : RingFault → LawStop
stop_of (RingDegree x y) = Degree x y
stop_of RingNoMemory = NoMemory
