use Rattle.std.proofs.Common.{◌∙◌, ◌+◌, ℕ, length, sym, ap, ap₂}
use Rattle.rinv_defs.specs.System.{space_count}
use Rattle.rinv_text.specs.Told.{Told}
use Rattle.rinv_change.proofs.MadeChanges.{normal-over}
use Rattle.rinv_certify.proofs.changes.behind.Goals as goal

pub behind-requires-clause-polynomial : goal.behind-requires-clause-polynomial
behind-requires-clause-polynomial c =
    normal-over c.new-space.result.coeffs c.args.system.now.system.p c.new-space.result.vars (space_count c.args.system.now.system) c.args.f.now
    (c.new-space.ensures.ring ∙ ap (λ (t : Told). t.system.p) c.system.view_is)
    (c.new-space.ensures.count ∙ c.len.ensures.len ∙ ap (λ (t : Told). length t.system.space) c.system.view_is) c.requires.polynomial

pub behind-requires-clause-ring : goal.behind-requires-clause-ring
behind-requires-clause-ring c = c.requires.ring.field ∙ sym (c.new-space.ensures.ring ∙ ap (λ (t : Told). t.system.p) c.system.view_is)

pub behind-requires-clause-count : goal.behind-requires-clause-count
behind-requires-clause-count c =
    c.requires.ring.vars ∙ sym (ap₂ (λ (i j : ℕ). i + j) (c.len-2.ensures.len ∙ ap (λ (t : Told). length t.system.group) c.system.view_is)
    (c.new-space.ensures.count ∙ c.len.ensures.len ∙ ap (λ (t : Told). length t.system.space) c.system.view_is))
