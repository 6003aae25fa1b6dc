use Rattle.std.proofs.Common.{ap, ◌≤◌, ◌∙◌, not, length, subst, sym, unwrap_or}
use Rattle.rinv_system.specs.Lines.{is_blank}
use Rattle.rinv_system.proofs.LineFacts.{unwrap_or-position, position_or_len-le}
use Rattle.rinv_system.proofs.lines.blanks_before.Goals as goal

pub returns-clause-before : goal.returns-clause-before
returns-clause-before c = c.unwrap_or.ensures ∙ ap (λ o. unwrap_or o (length c.args.bytes.now)) c.word_place.ensures ∙ unwrap_or-position (λ b. not (is_blank b)) c.args.bytes.now

pub returns-clause-within : goal.returns-clause-within
returns-clause-within c = subst (λ n. n ≤ length c.args.bytes.now) (sym (returns-clause-before c)) (position_or_len-le (λ b. not (is_blank b)) c.args.bytes.now)
