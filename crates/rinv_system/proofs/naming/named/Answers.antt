use Rattle.std.proofs.Common.{◌≡◌, ℕ, List, length, map, sym, subst, ap, ◌∙◌}
use Rattle.std.specs.List.{list_all}
use Rattle.std.proofs.lemmas.Result.{err_from_is_err_and}
use Rattle.std.proofs.lemmas.List.{length-map}
use Rattle.std.proofs.lemmas.List.Folds.{list_all-map}
use Rattle.rinv_text.specs.declared.fault.TextCode.TheVariants.{Name}
use Rattle.rinv_system.specs.declared.refused.Code.TheVariants.{Text}
use Rattle.rinv_system.specs.Drafts.{length_fault}
use Rattle.rinv_system.specs.Entries.{is_name_word, words_of}
use Rattle.rinv_system.specs.Forms.{IsRestRefused, IsRestTaken, AreNewNames, HasOldName, with_names}
use Rattle.rinv_system.proofs.StopFacts.{OnCode-weaker}
use Rattle.rinv_system.proofs.naming.named.Goals as goal

pub returns-then-not-are_name_words-clause-fault : goal.returns-then-not-are_name_words-clause-fault
returns-then-not-are_name_words-clause-fault c = λ rest e. IsRestRefused.no_names c.requires (ap (list_all is_name_word) (sym e) ∙ list_all-map is_name_word (λ w. w.now) c.args.words.now ∙ sym c.are_name_words.ensures ∙ c.if-not-are_name_words.true)

pub new_names-requires : goal.new_names-requires
new_names-requires c = list_all-map is_name_word (λ w. w.now) c.args.words.now ∙ sym c.are_name_words.ensures ∙ c.if-not-are_name_words.false

pub returns-in-Some-clause-fault : goal.returns-in-Some-clause-fault
returns-in-Some-clause-fault c = λ rest e. IsRestRefused.many_names c.requires (ap (list_all is_name_word) (sym e) ∙ list_all-map is_name_word (λ w. w.now) c.args.words.now ∙ sym c.are_name_words.ensures ∙ c.if-not-are_name_words.false)
    (ap (λ ws. length_fault c.args.draft.now c.args.keyword (length ws)) (sym e) ∙ ap (length_fault c.args.draft.now c.args.keyword) (length-map c.args.words.now (λ w. w.now)) ∙ sym c.in-Some.ensures)

pub returns-in_err-names-clause-fault : goal.returns-in_err-names-clause-fault
returns-in_err-names-clause-fault c = let p = err_from_is_err_and c.from_residual.result c.from_residual.ensures.1 in rw (p.1, p.2)
    (OnCode-weaker
    (λ code. (code ≡ Text Name) × HasOldName c.args.earlier.now (map (λ w. w.now) c.args.words.now))
    (λ code. (rest : List ℕ) → map (λ w. w.now) c.args.words.now ≡ words_of rest → IsRestRefused c.args.draft.now rest c.args.keyword code)
    (λ code h rest e. subst (IsRestRefused c.args.draft.now rest c.args.keyword) (sym h.0)
    (IsRestRefused.old_name c.requires (ap (list_all is_name_word) (sym e) ∙ list_all-map is_name_word (λ w. w.now) c.args.words.now ∙ sym c.are_name_words.ensures ∙ c.if-not-are_name_words.false)
    (ap (λ ws. length_fault c.args.draft.now c.args.keyword (length ws)) (sym e) ∙ ap (length_fault c.args.draft.now c.args.keyword) (length-map c.args.words.now (λ w. w.now)) ∙ sym c.in_default.ensures)
    (subst (HasOldName c.args.earlier.now) e h.1)))
    _ c.in_err-names.ensures.fault)

pub returns-clause-ok : goal.returns-clause-ok
returns-clause-ok c = λ rest e.
    let ns : c.in_ok-names.names ≡ words_of rest = c.in_ok-names.ensures.names ∙ e in
    subst (λ ws. IsRestTaken c.args.draft.now rest c.args.keyword (with_names c.args.draft.now c.args.keyword ws)) (sym ns)
    (IsRestTaken.some_names c.requires (ap (list_all is_name_word) (sym e) ∙ list_all-map is_name_word (λ w. w.now) c.args.words.now ∙ sym c.are_name_words.ensures ∙ c.if-not-are_name_words.false)
    (ap (λ ws. length_fault c.args.draft.now c.args.keyword (length ws)) (sym e) ∙ ap (length_fault c.args.draft.now c.args.keyword) (length-map c.args.words.now (λ w. w.now)) ∙ sym c.in_default.ensures)
    (subst (AreNewNames c.args.earlier.now) ns c.in_ok-names.ensures.new))
