use Rattle.rinv_cert.proofs.Bodies.{full-read}
use Rattle.rinv_cert.proofs.read.of_full.Goals as goal

pub returns-clause-ok : goal.returns-clause-ok
returns-clause-ok c = full-read _ c.in_ok-certificate.certificate c.in_ok-basis.basis c.in_ok-basis.inputs c.in_ok-basis.pairs c.in_ok-basis.relations c.in_ok-certificate.ensures.ok c.in_ok-basis.ensures.ok
