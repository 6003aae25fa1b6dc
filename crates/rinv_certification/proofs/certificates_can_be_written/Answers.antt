use Rattle.rinv_certification.proofs.Writable.{certificate_writable}
use Rattle.rinv_certification.proofs.certificates_can_be_written.Goals as goal

pub returns : goal.returns
returns g c = certificate_writable c
