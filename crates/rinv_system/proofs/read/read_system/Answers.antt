use Rattle.std.proofs.Common.{[], sym, subst}
use Rattle.rinv_system.specs.Drafts.{blank, is_whole}
use Rattle.rinv_system.specs.LineTexts.{AreTaken, IsText}
use Rattle.rinv_system.specs.Texts.{IsLineTaken}
use Rattle.rinv_system.proofs.Formed.{IsSystemText-formed}
use Rattle.rinv_system.proofs.read.read_system.Goals as goal

pub read_text-requires-clause-reached : goal.read_text-requires-clause-reached
read_text-requires-clause-reached c = ([], subst (λ d. AreTaken IsLineTaken blank [] d) (sym c.blank.ensures) AreTaken.none)

pub returns-clause-form : goal.returns-clause-form
returns-clause-form c = IsSystemText-formed c.args.bytes.now _
    (record { draft = c.in_ok-draft.draft; is_text = subst (λ d. IsText IsLineTaken d is_whole c.args.bytes.now c.in_ok-draft.draft) c.blank.ensures c.in_ok-draft.ensures.ok; is = c.in-Some.ensures.1 })
