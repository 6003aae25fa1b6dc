use Rattle.std.proofs.Common.{◌∙◌, length, ap}
use Rattle.rinv_text.specs.Told.{Told}
use Rattle.rinv_text.proofs.SystemParts.{parts-of}
use Rattle.rinv_defs.specs.System.{group_count}
use Rattle.rinv_parts.proofs.Stored.{normal-over}
use Rattle.rinv_certify.proofs.laws.generators_of.Goals as goal

pub copied_ideal-requires-clause-polynomials : goal.copied_ideal-requires-clause-polynomials
copied_ideal-requires-clause-polynomials c =
    let s = c.args.system.now.system in
    normal-over c.args.ring.now.coeffs s.p c.new-group.result.vars (group_count s) c.deref.result.now s.ideal c.requires.field (c.new-group.ensures.count ∙ c.len.ensures.len ∙ ap (λ (t : Told). length t.system.group) c.system.view_is)
    (c.deref.ensures.value ∙ ap (λ (t : Told). t.system.ideal) c.system.view_is) (parts-of s c.requires.system).ideal
