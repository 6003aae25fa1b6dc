use Rattle.std.proofs.Common.{sym, ◌∙◌}
use Rattle.rinv_system.proofs.Constants.{constant-none, constant-some}
use Rattle.rinv_system.proofs.listing.constant.Goals as goal

pub returns-then-len-eq0 : goal.returns-then-len-eq0
returns-then-len-eq0 c = constant-none _ _ (sym c.len.ensures ∙ c.if-len-eq0.true)

pub returns-else-len-eq0 : goal.returns-else-len-eq0
returns-else-len-eq0 c = constant-some _ _ _ c.requires.normal (λ e. c.if-len-eq0.false (c.len.ensures ∙ e)) c.coeff.ensures
