use Rattle.std.proofs.Common.{◌∙◌, ◌++◌, arith}
use Rattle.std.proofs.lemmas.Result.{err_from_is_err_and}
use Rattle.rinv_defs.specs.Format.{common_parts, law_parts, basis_parts}
use Rattle.rinv_defs.proofs.Tests.{first_false-append}
use Rattle.rinv_cert.specs.Seen.{plain}
use Rattle.rinv_form.proofs.FirstParts.{stops-first, stops-later, first_false-append as append-holds}
use Rattle.rinv_form.proofs.FormParts.{few-generators}
use Rattle.rinv_form.proofs.FormatParts.{keys-full}
use Rattle.rinv_form.proofs.format.of_full.Goals as goal

pub returns-in_err-stored-clause-part : goal.returns-in_err-stored-clause-part
returns-in_err-stored-clause-part c =
    let q = err_from_is_err_and c.from_residual.result c.from_residual.ensures.1 in
    rw (q.1, q.2) (stops-first (common_parts (plain c.args.certificate.now) ++ law_parts (plain c.args.certificate.now)) (basis_parts (plain c.args.certificate.now)) c.in_err-stored.field-0.0 c.in_err-stored.ensures.part)

pub basis_keys-requires-clause-ideal : goal.basis_keys-requires-clause-ideal
basis_keys-requires-clause-ideal c =
    let few = few-generators (plain c.args.certificate.now) (first_false-append (common_parts (plain c.args.certificate.now)) (law_parts (plain c.args.certificate.now)) c.in_ok-stored.ensures.form) in
    omega (arith, few, c.requires.sized.ideal)

pub returns-in_err-basis-clause-part : goal.returns-in_err-basis-clause-part
returns-in_err-basis-clause-part c =
    let q = err_from_is_err_and c.from_residual-in_err-basis.result c.from_residual-in_err-basis.ensures.1 in
    rw (q.1, q.2)
    (stops-later (common_parts (plain c.args.certificate.now) ++ law_parts (plain c.args.certificate.now)) (basis_parts (plain c.args.certificate.now)) c.in_err-basis.field-0.0 c.in_ok-stored.ensures.form c.in_err-basis.ensures.part)

pub returns-clause-form : goal.returns-clause-form
returns-clause-form c =
    append-holds (common_parts (plain c.args.certificate.now) ++ law_parts (plain c.args.certificate.now)) (basis_parts (plain c.args.certificate.now)) c.in_ok-stored.ensures.form ∙ c.in_ok-basis.ensures.form

pub returns-clause-keys : goal.returns-clause-keys
returns-clause-keys c =
    keys-full c.in_ok-stored.stored c.args.certificate.now c.in_ok-stored.ensures.keys c.in_ok-basis.basis c.in_ok-basis.ensures.basis c.in_ok-basis.inputs c.in_ok-basis.ensures.inputs c.in_ok-basis.pairs c.in_ok-basis.ensures.pairs c.in_ok-basis.relations c.in_ok-basis.ensures.relations
