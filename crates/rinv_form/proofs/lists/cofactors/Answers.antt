use Rattle.std.proofs.Common.{◌∙◌}
use Rattle.rinv_form.proofs.StoredPolynomials.{cofactors-kept}
use Rattle.rinv_form.proofs.lists.cofactors.Goals as goal

pub returns : goal.returns
returns c = c.in_ok-stored.ensures ∙ cofactors-kept _ _ _ _ c.new.ensures.ring c.new.ensures.count _ _ _
