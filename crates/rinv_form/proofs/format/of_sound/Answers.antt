use Rattle.std.proofs.Common.{◌∙◌, sym, refl, arith}
use Rattle.std.proofs.lemmas.Result.{err_from_is_err_and}
use Rattle.rinv_defs.specs.Format.{common_parts, law_parts}
use Rattle.rinv_cert.specs.Seen.{plain}
use Rattle.rinv_cert.proofs.Same.{map-same}
use Rattle.rinv_form.proofs.Kept.{kept-some}
use Rattle.rinv_form.proofs.FirstParts.{stops-first}
use Rattle.rinv_form.proofs.FormParts.{few-generators}
use Rattle.rinv_form.proofs.FormatParts.{laws-fail, laws-hold, keys-sound}
use Rattle.rinv_form.proofs.format.of_sound.Goals as goal

pub returns-in_err-stored-clause-part : goal.returns-in_err-stored-clause-part
returns-in_err-stored-clause-part c =
    let q = err_from_is_err_and c.from_residual.result c.from_residual.ensures.1 in
    rw (q.1, q.2) (stops-first (common_parts (plain c.args.certificate.now)) (law_parts (plain c.args.certificate.now)) c.in_err-stored.field-0.0 c.in_err-stored.ensures.part)

pub law_lists-requires-clause-ideal : goal.law_lists-requires-clause-ideal
law_lists-requires-clause-ideal c = let few = few-generators (plain c.args.certificate.now) c.in_ok-stored.ensures.form in omega (arith, few, c.requires.sized.ideal)

pub returns-in_default-clause-part : goal.returns-in_default-clause-part
returns-in_default-clause-part c =
    laws-fail (plain c.args.certificate.now) c.args.sizes.now c.requires.sized c.in_ok-stored.ensures.form _ (sym (map-same _ (map-same _ (map-same (λ f. f) (λ f. refl))) _)) (sym c.in_default.is ∙ c.in_ok-laws.ensures)

pub returns-clause-form : goal.returns-clause-form
returns-clause-form c =
    laws-hold (plain c.args.certificate.now) c.args.sizes.now c.requires.sized c.in_ok-stored.ensures.form _ (sym (map-same _ (map-same _ (map-same (λ f. f) (λ f. refl))) _)) _ (sym c.in-Some.is ∙ c.in_ok-laws.ensures)

pub returns-clause-keys : goal.returns-clause-keys
returns-clause-keys c = keys-sound c.in_ok-stored.stored c.args.certificate.now c.in_ok-stored.ensures.keys c.in-Some.laws (kept-some _ _ _ (sym c.in-Some.is ∙ c.in_ok-laws.ensures))
