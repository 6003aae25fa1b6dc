use Rattle.std.proofs.Common.{◌≡◌, ◌∙◌, ℕ, List, map, subst₂, ap}
use Rattle.rinv_algebra.specs.Residue.{residue_ops}
use Rattle.rinv_algebra.specs.Polynomial.{constant}
use Rattle.rinv_text.specs.Told.{Told}
use Rattle.rinv_text.proofs.SystemParts.{parts-of}
use Rattle.rinv_parts.specs.Points.{AreStored}
use Rattle.rinv_parts.proofs.Names.{below-over}
use Rattle.rinv_parts.proofs.coordinates.unit_point.Goals as goal

pub constants-requires : goal.constants-requires
constants-requires c =
    below-over c.args.ring.now.coeffs c.args.system.now.system.p c.deref.result.now c.args.system.now.system.unit c.requires.field (c.deref.ensures.value ∙ ap (λ (t : Told). t.system.unit) c.system.view_is)
    (parts-of c.args.system.now.system c.requires.system).unit

pub returns : goal.returns
returns c =
    subst₂ (λ (p : ℕ) (ns : List ℕ). AreStored p c.args.ring.now.vars (map (constant (residue_ops p)) ns) c.in_ok-unit.unit.items)
    c.requires.field (c.deref.ensures.value ∙ ap (λ (t : Told). t.system.unit) c.system.view_is) c.in_ok-unit.ensures
