use Rattle.std.proofs.Common.{◌∙◌, sym}
use Rattle.rinv_form.proofs.KeptParts.{first-lost}
use Rattle.rinv_form.proofs.StoredPolynomials.{polynomial-kept}
use Rattle.rinv_form.proofs.lists.nonzero.Goals as goal

pub returns-in_default : goal.returns-in_default
returns-in_default c = first-lost _ _ _ _ (sym c.in_default.is ∙ c.in_ok-stored.ensures ∙ polynomial-kept _ _ _ _ c.new-ring.ensures.ring c.new-ring.ensures.count _)
