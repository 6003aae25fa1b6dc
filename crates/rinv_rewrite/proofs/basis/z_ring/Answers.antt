use Rattle.std.proofs.Common.{◌∙◌, length, ap}
use Rattle.rinv_text.specs.Told.{Told}
use Rattle.rinv_rewrite.proofs.basis.z_ring.Goals as goal

pub returns-clause-field : goal.returns-clause-field
returns-clause-field c = ap (λ r. r.coeffs) c.new.ensures.ring ∙ c.new-coeffs.ensures.ring ∙ ap (λ (t : Told). t.system.p) c.system.view_is

pub returns-clause-symbols : goal.returns-clause-symbols
returns-clause-symbols c = ap (λ r. r.vars) c.new.ensures.ring ∙ c.new-coeffs.ensures.count

pub returns-clause-vars : goal.returns-clause-vars
returns-clause-vars c = c.new.ensures.count ∙ c.len.ensures.len ∙ ap (λ (t : Told). length t.system.space) c.system.view_is
