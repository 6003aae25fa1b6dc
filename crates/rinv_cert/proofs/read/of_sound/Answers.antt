use Rattle.rinv_cert.proofs.Bodies.{sound-read}
use Rattle.rinv_cert.proofs.read.of_sound.Goals as goal

pub returns-clause-ok : goal.returns-clause-ok
returns-clause-ok c = sound-read _ _ _ c.in_ok-certificate.ensures.ok c.in_ok-laws.ensures.ok
