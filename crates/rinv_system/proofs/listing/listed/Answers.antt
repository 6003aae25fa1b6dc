use Rattle.std.proofs.Common.{◌≡◌, List, ℕ, length, map, sym, ap, subst, ◌∙◌}
use Rattle.std.specs.List.{All, Any}
use Rattle.std.proofs.lemmas.List.{length-map}
use Rattle.std.proofs.lemmas.Result.{err_from_is_err_and}
use Rattle.rinv_system.specs.Entries.{entries_of}
use Rattle.rinv_system.specs.Drafts.{length_fault, names_for}
use Rattle.rinv_system.specs.Forms.{IsSomeExpression, IsFirstFault, IsRestRefused}
use Rattle.rinv_system.proofs.Mapped.{at_yes, at_no}
use Rattle.rinv_system.proofs.Begun.{begun-of_order}
use Rattle.rinv_system.proofs.StopFacts.{OnCode-weaker}
use Rattle.rinv_system.proofs.listing.listed.Goals as goal

pub returns-then-not-grammatical-clause-fault : goal.returns-then-not-grammatical-clause-fault
returns-then-not-grammatical-clause-fault c = λ rest e. IsRestRefused.no_expression c.requires.tells (subst (Any (λ e. ¬ (IsSomeExpression e))) e (at_no _ _ _ c.in_ok-grammatical.ensures c.if-not-grammatical.true))

pub returns-in-Some-clause-fault : goal.returns-in-Some-clause-fault
returns-in-Some-clause-fault c = λ rest e.
    IsRestRefused.wrong_length c.requires.tells (subst (All IsSomeExpression) e (at_yes _ _ _ c.in_ok-grammatical.ensures c.if-not-grammatical.false))
    (ap (λ es. length_fault c.args.draft.now c.args.keyword (length es)) (sym e) ∙ ap (length_fault c.args.draft.now c.args.keyword) (length-map c.args.entries.now (λ e. e.now)) ∙ sym c.in-Some.ensures)

pub names_for-requires-clause-group : goal.names_for-requires-clause-group
names_for-requires-clause-group c = (begun-of_order _ c.requires.reached c.requires.tells c.requires.order).group

pub names_for-requires-clause-space : goal.names_for-requires-clause-space
names_for-requires-clause-space c = (begun-of_order _ c.requires.reached c.requires.tells c.requires.order).space

pub names_for-requires-clause-apart : goal.names_for-requires-clause-apart
names_for-requires-clause-apart c = (begun-of_order _ c.requires.reached c.requires.tells c.requires.order).apart

pub names_for-requires-clause-begun : goal.names_for-requires-clause-begun
names_for-requires-clause-begun c = (begun-of_order _ c.requires.reached c.requires.tells c.requires.order).begun

pub field-requires : goal.field-requires
field-requires c = (begun-of_order _ c.requires.reached c.requires.tells c.requires.order).begun

pub returns-in_err-list-clause-fault : goal.returns-in_err-list-clause-fault
returns-in_err-list-clause-fault c = let p = err_from_is_err_and c.from_residual-in_err-list.result c.from_residual-in_err-list.ensures.1 in rw (p.1, p.2)
    (OnCode-weaker
    (IsFirstFault c.in_ok-names.names (map (λ e. e.now) c.args.entries.now))
    (λ code. (rest : List ℕ) → map (λ e. e.now) c.args.entries.now ≡ entries_of rest → IsRestRefused c.args.draft.now rest c.args.keyword code)
    (λ code h rest e. IsRestRefused.entry_fault c.requires.tells (subst (All IsSomeExpression) e (at_yes _ _ _ c.in_ok-grammatical.ensures c.if-not-grammatical.false))
    (ap (λ es. length_fault c.args.draft.now c.args.keyword (length es)) (sym e) ∙ ap (length_fault c.args.draft.now c.args.keyword) (length-map c.args.entries.now (λ e. e.now)) ∙ sym c.in_default.ensures)
    (subst (λ es. IsFirstFault (names_for c.args.draft.now c.args.keyword) es code) e (subst (λ ns. IsFirstFault ns (map (λ e. e.now) c.args.entries.now) code) c.in_ok-names.ensures h)))
    _ c.in_err-list.ensures.fault)
