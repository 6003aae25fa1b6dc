use Rattle.std.proofs.Common.{◌⊎◌, inl}
use Rattle.std.proofs.lemmas.Result.{err_from_is_err_and}
use Rattle.rinv_laws.specs.Faults.{TestMeets}
use Rattle.rinv_laws.specs.Proofs.{ProofsMeet}
use Rattle.rinv_laws.proofs.ProvedLaws.{stops-weaker}
use Rattle.rinv_laws.proofs.proving.check_laws.Goals as goal

pub returns-in_err-quotients-clause-stop : goal.returns-in_err-quotients-clause-stop
returns-in_err-quotients-clause-stop c =
    let s = c.args.system.now.system in
    let found = c.args.group.now.basis in
    let q = err_from_is_err_and c.from_residual.result c.from_residual.ensures.1 in
    rw (q.1, q.2) (stops-weaker s (TestMeets s found) (λ x y. TestMeets s found x y ⊎ ProofsMeet s found x y) (λ x y m. inl m) c.in_err-quotients.field-0.0 c.in_err-quotients.ensures.stop)
