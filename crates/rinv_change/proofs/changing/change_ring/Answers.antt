use Rattle.std.proofs.Common.{◌∙◌, ◌+◌, ℕ, length, ap, ap₂}
use Rattle.rinv_text.specs.Told.{Told}
use Rattle.rinv_change.proofs.changing.change_ring.Goals as goal

pub returns : goal.returns
returns c =
    let l = c.len.ensures.len ∙ ap (λ (t : Told). length t.system.group) c.system.view_is in
    let n = c.len-2.ensures.len ∙ ap (λ (t : Told). length t.system.space) c.system.view_is in
    record {
      system = c.requires;
      field = c.new.ensures.ring ∙ ap (λ (t : Told). t.system.p) c.system.view_is;
      vars = c.new.ensures.count ∙ ap₂ (λ (i j : ℕ). i + j) l n;
    }
