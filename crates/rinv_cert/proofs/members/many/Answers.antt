use Rattle.std.proofs.Common.{◌∙◌, refl}
use Rattle.std.proofs.lemmas.Result.{err_from_is_err_and}
use Rattle.rinv_cert.specs.Faults.{part_word}
use Rattle.rinv_cert.proofs.Entries.{refused_at, many-none, many-some}
use Rattle.rinv_cert.proofs.members.many.Goals as goal

pub returns-in_default-clause-fault : goal.returns-in_default-clause-fault
returns-in_default-clause-fault g c = refused_at _ _ c.args.part _ _ c.refusal.ensures refl (many-none (part_word c.args.part) g.S.Shape.shape _ c.in_default.ensures)

pub returns-in_err-entries-clause-fault : goal.returns-in_err-entries-clause-fault
returns-in_err-entries-clause-fault g c =
    let p = err_from_is_err_and c.from_residual.result c.from_residual.ensures.1 in
    rw (p.1, p.2, many-some (part_word c.args.part) g.S.Shape.shape _ _ c.in-Some.ensures) c.in_err-entries.ensures.fault

pub returns-clause-ok : goal.returns-clause-ok
returns-clause-ok g c = many-some (part_word c.args.part) g.S.Shape.shape _ _ c.in-Some.ensures ∙ c.in_ok-entries.ensures.ok
