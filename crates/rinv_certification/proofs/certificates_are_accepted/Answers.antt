use Rattle.rinv_certification.proofs.Accepted.{certificate_is_accepted}
use Rattle.rinv_certification.proofs.certificates_are_accepted.Goals as goal

pub returns : goal.returns
returns g c = certificate_is_accepted c
