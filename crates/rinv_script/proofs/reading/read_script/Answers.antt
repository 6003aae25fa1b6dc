use Rattle.std.proofs.Common.{sym, subst, ap, ap₂, ◌∙◌}
use Rattle.rinv_system.specs.LineTexts.{IsText}
use Rattle.rinv_system.specs.Texts.{told_by}
use Rattle.rinv_script.specs.ScriptTexts.{IsScriptLineTaken, is_whole_script}
use Rattle.rinv_script.specs.Kept.{IsKept}
use Rattle.rinv_script.proofs.KeptFacts.{kept-blank}
use Rattle.rinv_script.proofs.ReadFacts.{stored-script}
use Rattle.rinv_script.proofs.reading.read_script.Goals as goal

pub read_text-requires-clause-reached : goal.read_text-requires-clause-reached
read_text-requires-clause-reached c = subst IsKept (sym c.blank.ensures) (kept-blank c.args.form)

pub returns-clause-stored : goal.returns-clause-stored
returns-clause-stored c =
    stored-script c.args.form c.args.bytes.now c.in_ok-draft.draft
    (subst (λ d. IsText IsScriptLineTaken d is_whole_script c.args.bytes.now c.in_ok-draft.draft) c.blank.ensures c.in_ok-draft.ensures.ok) _
    (ap₂ (λ t qs. record { told = t; queries = qs }) (c.in-Some.ensures.1 ∙ ap told_by c.into_parts-system.ensures.system) c.into_parts-system.ensures.queries)
