use Rattle.std.proofs.Common.{◌∷◌, ◌++◌, [], ◌∙◌, sym, ap, subst}
use Rattle.rinv_json.specs.Denoted.{DenotesCertificate}
use Rattle.rinv_cert.specs.Seen.{plain}
use Rattle.rinv_certificates.proofs.PrintedTexts.{denoted-fed}
use Rattle.rinv_certificates.proofs.text.text_of.Goals as goal

pub returns-clause-text : goal.returns-clause-text
returns-clause-text c = c.in_ok-push.ensures.items ∙ ap (λ bs. bs ++ 10 ∷ []) c.in_ok-text.ensures.text

pub returns-clause-denoted : goal.returns-clause-denoted
returns-clause-denoted c small =
    let d = plain c.args.certificate.now in
    subst (λ bs. DenotesCertificate bs d) (sym (c.in_ok-push.ensures.items ∙ ap (λ bs. bs ++ 10 ∷ []) c.in_ok-text.ensures.text))
    (denoted-fed d small (subst (λ bs. DenotesCertificate bs d) c.in_ok-text.ensures.text (c.in_ok-text.ensures.read_back small)))
