use Rattle.std.proofs.Common.{◌∙◌, sym, refl}
use Rattle.std.proofs.lemmas.Result.{err_from_is_err_and}
use Rattle.rinv_cert.specs.declared.certificate.Kind.TheVariants.{Invariance}
use Rattle.rinv_cert.specs.Seen.{plain}
use Rattle.rinv_cert.proofs.Same.{map-same}
use Rattle.rinv_form.proofs.Kept.{kept-some}
use Rattle.rinv_form.proofs.FormatParts.{system-stops, fractions-fail, invariance-fails, common-hold, keys-invariance}
use Rattle.rinv_form.proofs.format.of_invariance.Goals as goal

pub returns-in_err-system-clause-part : goal.returns-in_err-system-clause-part
returns-in_err-system-clause-part c =
    let q = err_from_is_err_and c.from_residual.result c.from_residual.ensures.1 in
    rw (q.1, q.2) (system-stops (plain c.args.certificate.now) c.in_err-system.field-0.0 c.requires.frame c.in_err-system.ensures.part)

pub returns-in_default-clause-part : goal.returns-in_default-clause-part
returns-in_default-clause-part c =
    fractions-fail (plain c.args.certificate.now) c.args.sizes.now c.requires.sized c.requires.frame c.in_ok-system.ensures.form _ (sym (map-same _ (λ x. refl) _)) (sym c.in_default.is ∙ c.in_ok-fractions.ensures)

pub returns-in_default-2-clause-part : goal.returns-in_default-2-clause-part
returns-in_default-2-clause-part c =
    invariance-fails (plain c.args.certificate.now) c.args.sizes.now c.requires.sized c.requires.frame c.in_ok-system.ensures.form _ _ (sym (map-same _ (λ x. refl) _)) (sym c.in-Some.is ∙ c.in_ok-fractions.ensures)
    _ (sym (map-same _ (map-same (λ f. f) (λ f. refl)) _)) (sym c.in_default-2.is ∙ c.in_ok-invariance.ensures)

pub returns-clause-form : goal.returns-clause-form
returns-clause-form c =
    common-hold (plain c.args.certificate.now) c.args.sizes.now c.requires.sized c.requires.frame c.in_ok-system.ensures.form _ _ (sym (map-same _ (λ x. refl) _)) (sym c.in-Some.is ∙ c.in_ok-fractions.ensures)
    _ (sym (map-same _ (map-same (λ f. f) (λ f. refl)) _)) _ (sym c.in-Some-2.is ∙ c.in_ok-invariance.ensures)

pub returns-clause-keys : goal.returns-clause-keys
returns-clause-keys c =
    keys-invariance
    (record { kind = Invariance; system = c.in_ok-system.system; fractions = c.in-Some.fractions; invariance = c.in-Some-2.invariance; laws = c.new-2.result; basis = c.new-4.result; inputs = c.new-6.result; pairs = c.new-8.result; relations = c.new-10.result })
    c.args.certificate.now refl c.in_ok-system.ensures.same (kept-some _ _ _ (sym c.in-Some.is ∙ c.in_ok-fractions.ensures)) (kept-some _ _ _ (sym c.in-Some-2.is ∙ c.in_ok-invariance.ensures))
    (c.new-2.ensures ∙ c.new.ensures.items) (c.new-4.ensures ∙ c.new-3.ensures.items) (c.new-6.ensures ∙ c.new-5.ensures.items) (c.new-8.ensures ∙ c.new-7.ensures.items) (c.new-10.ensures ∙ c.new-9.ensures.items)
