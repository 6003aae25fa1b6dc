use Rattle.std.proofs.Common.{refl, sym, ◌∙◌}
use Rattle.rinv_system.specs.Forms.{AreNewNames}
use Rattle.rinv_system.proofs.NameFacts.{AreNewNames-more, HasOldName-at, name_word-at}
use Rattle.rinv_system.proofs.naming.new_names.Goals as goal

pub words-init : goal.words-init
words-init c = (c.empty-names.ensures, AreNewNames.none)

pub as_text-text-requires : goal.as_text-text-requires
as_text-text-requires c = name_word-at (λ w. w.now) c.args.words.now _ _ c.words-test.true c.requires

pub returns-then-not-is_new-clause-fault : goal.returns-then-not-is_new-clause-fault
returns-then-not-is_new-clause-fault c =
    (refl, HasOldName-at (λ w. w.now) c.args.words.now c.args.earlier.now c.words.names c.words.word-index _ c.as_text-text.result.now c.words-test.true c.as_text-text.ensures c.words.invariant.0 c.words.invariant.1 (sym c.is_new.ensures ∙ c.if-not-is_new.true))

pub words-preserved : goal.words-preserved
words-preserved c =
    AreNewNames-more (λ w. w.now) c.args.words.now c.args.earlier.now c.words.names c.words.word-index _ c.as_text-text.result.now _ c.words-test.true c.as_text-text.ensures c.words.invariant.0 c.words.invariant.1 (sym c.is_new.ensures ∙ c.if-not-is_new.false) c.in_ok-push_name.ensures
