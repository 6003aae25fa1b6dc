use Rattle.std.proofs.Common.{◌∙◌}
use Rattle.rinv_form.proofs.StoredPolynomials.{polynomial-kept}
use Rattle.rinv_form.proofs.lists.polynomial.Goals as goal

pub returns : goal.returns
returns c = c.in_ok-stored.ensures ∙ polynomial-kept _ _ _ _ c.new-ring.ensures.ring c.new-ring.ensures.count _
