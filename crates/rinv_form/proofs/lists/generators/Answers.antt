use Rattle.std.proofs.Common.{◌∙◌}
use Rattle.rinv_form.proofs.StoredPolynomials.{generators-kept}
use Rattle.rinv_form.proofs.lists.generators.Goals as goal

pub returns : goal.returns
returns c = c.in_ok-stored.ensures ∙ generators-kept _ _ _ _ c.new-ring.ensures.ring c.new-ring.ensures.count _ _ c.as_slice.ensures c.if-as_slice-gt-MAX_GENERATORS.false
