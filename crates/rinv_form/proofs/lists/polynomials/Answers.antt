use Rattle.std.proofs.Common.{◌∙◌}
use Rattle.rinv_form.proofs.StoredPolynomials.{counted-kept}
use Rattle.rinv_form.proofs.lists.polynomials.Goals as goal

pub returns : goal.returns
returns c = c.in_ok-stored.ensures ∙ counted-kept _ _ _ _ c.new.ensures.ring c.new.ensures.count _ _
