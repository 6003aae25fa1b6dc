use Rattle.std.proofs.Common.{ap}
use Rattle.std.proofs.lemmas.Result.{err_from_is_err_and}
use Rattle.rinv_defs.specs.Certificate.{invariance, sound, full}
use Rattle.rinv_cert.specs.Seen.{plain, kind_of}
use Rattle.rinv_form.proofs.FormatParts.{frame-stops, keys-trimmed, form-trimmed, stops-whole}
use Rattle.rinv_form.proofs.format.stored.Goals as goal

pub returns-in_err-sizes-clause-part : goal.returns-in_err-sizes-clause-part
returns-in_err-sizes-clause-part c =
    let q = err_from_is_err_and c.from_residual.result c.from_residual.ensures.1 in
    rw (q.1, q.2) (frame-stops (plain c.args.certificate.now) c.in_err-sizes.field-0.0 c.in_err-sizes.ensures.part)

pub returns-in_err-stored-in-Invariance-clause-part : goal.returns-in_err-stored-in-Invariance-clause-part
returns-in_err-stored-in-Invariance-clause-part c =
    let q = err_from_is_err_and c.from_residual-in_err-stored-in-Invariance.result c.from_residual-in_err-stored-in-Invariance.ensures.1 in
    rw (q.1, q.2) (stops-whole invariance (plain c.args.certificate.now) (ap kind_of c.in-Invariance.is) c.in_err-stored-in-Invariance.field-0.0 c.in_err-stored-in-Invariance.ensures.part)

pub returns-in_ok-stored-in-Invariance-clause-keys : goal.returns-in_ok-stored-in-Invariance-clause-keys
returns-in_ok-stored-in-Invariance-clause-keys c = keys-trimmed invariance (plain c.args.certificate.now) (ap kind_of c.in-Invariance.is) _ c.in_ok-stored-in-Invariance.ensures.keys

pub returns-in_ok-stored-in-Invariance-clause-form : goal.returns-in_ok-stored-in-Invariance-clause-form
returns-in_ok-stored-in-Invariance-clause-form c = form-trimmed invariance (plain c.args.certificate.now) (ap kind_of c.in-Invariance.is) _ c.in_ok-stored-in-Invariance.ensures.keys c.in_ok-stored-in-Invariance.ensures.form

pub returns-in_err-stored-in-Sound-clause-part : goal.returns-in_err-stored-in-Sound-clause-part
returns-in_err-stored-in-Sound-clause-part c =
    let q = err_from_is_err_and c.from_residual-in_err-stored-in-Sound.result c.from_residual-in_err-stored-in-Sound.ensures.1 in
    rw (q.1, q.2) (stops-whole sound (plain c.args.certificate.now) (ap kind_of c.in-Sound.is) c.in_err-stored-in-Sound.field-0.0 c.in_err-stored-in-Sound.ensures.part)

pub returns-in_ok-stored-in-Sound-clause-keys : goal.returns-in_ok-stored-in-Sound-clause-keys
returns-in_ok-stored-in-Sound-clause-keys c = keys-trimmed sound (plain c.args.certificate.now) (ap kind_of c.in-Sound.is) _ c.in_ok-stored-in-Sound.ensures.keys

pub returns-in_ok-stored-in-Sound-clause-form : goal.returns-in_ok-stored-in-Sound-clause-form
returns-in_ok-stored-in-Sound-clause-form c = form-trimmed sound (plain c.args.certificate.now) (ap kind_of c.in-Sound.is) _ c.in_ok-stored-in-Sound.ensures.keys c.in_ok-stored-in-Sound.ensures.form

pub returns-in_err-stored-in-Full-clause-part : goal.returns-in_err-stored-in-Full-clause-part
returns-in_err-stored-in-Full-clause-part c =
    let q = err_from_is_err_and c.from_residual-in_err-stored-in-Full.result c.from_residual-in_err-stored-in-Full.ensures.1 in
    rw (q.1, q.2) (stops-whole full (plain c.args.certificate.now) (ap kind_of c.in-Full.is) c.in_err-stored-in-Full.field-0.0 c.in_err-stored-in-Full.ensures.part)

pub returns-in_ok-stored-in-Full-clause-keys : goal.returns-in_ok-stored-in-Full-clause-keys
returns-in_ok-stored-in-Full-clause-keys c = keys-trimmed full (plain c.args.certificate.now) (ap kind_of c.in-Full.is) _ c.in_ok-stored-in-Full.ensures.keys

pub returns-in_ok-stored-in-Full-clause-form : goal.returns-in_ok-stored-in-Full-clause-form
returns-in_ok-stored-in-Full-clause-form c = form-trimmed full (plain c.args.certificate.now) (ap kind_of c.in-Full.is) _ c.in_ok-stored-in-Full.ensures.keys c.in_ok-stored-in-Full.ensures.form
