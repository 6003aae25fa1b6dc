use Rattle.rinv_cert.proofs.Written.{basis-written, arrays-written, pairs-written, relations-written}
use Rattle.rinv_cert.proofs.write.add_basis.Goals as goal

pub returns : goal.returns
returns c =
    let x = c.args.certificate.now in
    rw (
      ← basis-written x.basis,
      ← arrays-written x.inputs,
      ← pairs-written x.pairs,
      ← relations-written x.relations,
      ← c.in_ok-add.ensures,
      ← c.in_ok-add-2.ensures,
      ← c.in_ok-add-3.ensures,
    ) c.add-4.ensures
