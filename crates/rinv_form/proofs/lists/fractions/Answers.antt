use Rattle.std.proofs.Common.{◌∙◌}
use Rattle.rinv_form.proofs.StoredPolynomials.{fractions-kept}
use Rattle.rinv_form.proofs.lists.fractions.Goals as goal

pub returns : goal.returns
returns c = c.in_ok-stored.ensures ∙ fractions-kept _ _ _ _ c.new.ensures.ring c.new.ensures.count _
