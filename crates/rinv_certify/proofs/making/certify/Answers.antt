use Rattle.std.proofs.lemmas.Result.{err_from_is_err_and}
use Rattle.rinv_cert.specs.Seen.{plain}
use Rattle.rinv_certification.proofs.Writable.{certificate_writable}
use Rattle.rinv_certify.specs.Meets.{CertificateMeets, ChangesMeet, LawsMeet}
use Rattle.rinv_certify.proofs.Stops.{stop-meets}
use Rattle.rinv_certify.proofs.making.certify.Goals as goal

pub returns-in_err-laws_fit-clause-degree : goal.returns-in_err-laws_fit-clause-degree
returns-in_err-laws_fit-clause-degree c =
    let g = c.args.gens.now in
    let w = err_from_is_err_and c.from_residual-in_err-laws_fit.result c.from_residual-in_err-laws_fit.ensures.1 in
    rw (w.1, w.2) (stop-meets (LawsMeet g) (CertificateMeets g) (λ x y m. CertificateMeets.in_laws m) c.in_err-laws_fit.field-0.0 c.in_err-laws_fit.ensures.degree)

pub returns-in_err-changes_fit-clause-degree : goal.returns-in_err-changes_fit-clause-degree
returns-in_err-changes_fit-clause-degree c =
    let g = c.args.gens.now in
    let w = err_from_is_err_and c.from_residual-in_err-changes_fit.result c.from_residual-in_err-changes_fit.ensures.1 in
    rw (w.1, w.2) (stop-meets (ChangesMeet g) (CertificateMeets g) (λ x y m. CertificateMeets.in_changes m) c.in_err-changes_fit.field-0.0 c.in_err-changes_fit.ensures.degree)

pub returns-then-on_section-clause-writable : goal.returns-then-on_section-clause-writable
returns-then-on_section-clause-writable c =
    certificate_writable c.args.gens.now (plain c.sound-certificate.result) c.sound-certificate.ensures.made c.sound-certificate.ensures.accepted (c.are_few-few.ensures.elements c.if-not-few.false) (c.are_few-few.ensures.fractions c.if-not-few.false)

pub returns-clause-writable : goal.returns-clause-writable
returns-clause-writable c =
    certificate_writable c.args.gens.now (plain c.in_ok-certificate.certificate) c.in_ok-certificate.ensures.made c.in_ok-certificate.ensures.accepted (c.are_few-few.ensures.elements c.if-not-few.false) (c.are_few-few.ensures.fractions c.if-not-few.false)
