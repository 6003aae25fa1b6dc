use Rattle.std.proofs.Common.{◌≡◌, [], unwrap_or, sym, ap, ◌∙◌}
use Rattle.std.proofs.lemmas.Result.{IfOk-weaker}
use Rattle.rinv_text.specs.Names.{copies}
use Rattle.rinv_system.specs.Drafts.{group_names, space_names, names_for}
use Rattle.rinv_system.proofs.DraftFacts.{names_for-others, names_for-section}
use Rattle.rinv_system.proofs.draft.Draft.names_for.Goals as goal

pub returns-in_default-keyword : goal.returns-in_default-keyword
returns-in_default-keyword c =
    let group : group_names c.args.self.now ≡ c.in-Some.group = ap group_names (sym c.self.view_is) ∙ ap (λ o. unwrap_or o []) c.in-Some.is in
    let kind = c.in_default-keyword in
    IfOk-weaker _ (λ names. names ≡ copies 1 c.in-Some.group) (λ names. names ≡ names_for c.args.self.now c.args.keyword)
    (λ names e. e ∙ ap (copies 1) (sym group) ∙ sym (names_for-others c.args.self.now c.args.keyword kind.not-Unit kind.not-Product kind.not-Action kind.not-Section))
    c.copies-in_default-keyword.ensures

pub returns-in-Section : goal.returns-in-Section
returns-in-Section c =
    let space : space_names c.args.self.now ≡ c.in-Some-space.space = ap space_names (sym c.self.view_is) ∙ ap (λ o. unwrap_or o []) c.in-Some-space.is in
    IfOk-weaker _ (λ names. names ≡ copies 1 c.in-Some-space.space) (λ names. names ≡ names_for c.args.self.now c.args.keyword)
    (λ names e. e ∙ sym (names_for-section c.args.self.now c.args.keyword c.in-Some-space.space c.in-Section.is space))
    c.copies-in-Section.ensures
