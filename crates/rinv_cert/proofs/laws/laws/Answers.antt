use Rattle.std.proofs.Common.{sym}
use Rattle.std.proofs.lemmas.Result.{err_from_is_err_and}
use Rattle.rinv_cert.proofs.Bodies.{law-refused}
use Rattle.rinv_cert.proofs.laws.laws.Goals as goal

pub returns-in_err-list-clause-fault : goal.returns-in_err-list-clause-fault
returns-in_err-list-clause-fault c =
    let p = err_from_is_err_and c.from_residual.result c.from_residual.ensures.1 in
    rw (p.1, p.2) (law-refused _ _ _ _ c.in-Some.ensures (sym c.in-Some-as_object.ensures) c.in_err-list.ensures.fault)
