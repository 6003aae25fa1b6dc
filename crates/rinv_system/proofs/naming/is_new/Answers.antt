use Rattle.std.proofs.Common.{sym, ap, ◌∙◌, ◌&&◌}
use Rattle.rinv_text.specs.Names.{is_new_name}
use Rattle.rinv_system.proofs.NameFacts.{is_new_name-append}
use Rattle.rinv_system.proofs.naming.is_new.Goals as goal

pub returns-then-may_add : goal.returns-then-may_add
returns-then-may_add c =
    c.may_add-then-may_add.ensures ∙ sym (is_new_name-append c.args.earlier.now c.args.names.now c.args.word.now ∙ ap (λ b. b && is_new_name c.args.earlier.now c.args.word.now) (sym c.may_add.ensures ∙ c.if-may_add.true))
