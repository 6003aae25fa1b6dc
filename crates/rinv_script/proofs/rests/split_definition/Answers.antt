use Rattle.std.proofs.Common.{ap, take, ◌∙◌}
use Rattle.rinv_system.specs.Lines.{to_last_word}
use Rattle.rinv_script.proofs.RestFacts.{no-sign, has-sign, is-value}
use Rattle.rinv_script.proofs.rests.split_definition.Goals as goal

pub returns-in-Some-clause-sign : goal.returns-in-Some-clause-sign
returns-in-Some-clause-sign c = has-sign _ _ _ _ _ c.len_before.ensures.before c.split_at.ensures.back c.in-Some.ensures.cases.0

pub returns-in-Some-clause-parts : goal.returns-in-Some-clause-parts
returns-in-Some-clause-parts c = (
  c.to_last_word.ensures ∙ ap to_last_word (c.split_at.ensures.front ∙ ap (λ k. take k c.args.rest.now) c.len_before.ensures.before),
  is-value _ _ _ _ _ c.len_before.ensures.before c.split_at.ensures.back c.in-Some.ensures.cases.0,
)

pub returns-in-None-clause-sign : goal.returns-in-None-clause-sign
returns-in-None-clause-sign c = no-sign _ _ _ c.len_before.ensures.before c.split_at.ensures.back c.in-None.ensures.cases
