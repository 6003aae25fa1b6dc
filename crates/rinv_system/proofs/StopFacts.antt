-- What is known of a fault, said of another property.
use Rattle.rinv_system.specs.declared.refused.Code.{Code}
use Rattle.rinv_system.specs.declared.refused.LineStop.{LineStop}
use Rattle.rinv_system.specs.declared.refused.LineStop.TheVariants.{Fault, NoMemory}
use Rattle.rinv_system.specs.Stops.{OnCode}

pub OnCode-weaker : (P Q : Code → Type 0) → ((code : Code) → P code → Q code) → (stop : LineStop) → OnCode P stop → OnCode Q stop
OnCode-weaker P Q f (Fault code) h = f code h
OnCode-weaker P Q f NoMemory h = tt
