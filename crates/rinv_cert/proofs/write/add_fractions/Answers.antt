use Rattle.rinv_cert.proofs.Written.{fractions-written, arrays-written}
use Rattle.rinv_cert.proofs.write.add_fractions.Goals as goal

pub returns : goal.returns
returns c =
    let x = c.args.certificate.now in
    rw (← arrays-written x.invariance, ← fractions-written x.fractions, ← c.in_ok-add.ensures) c.add-2.ensures
