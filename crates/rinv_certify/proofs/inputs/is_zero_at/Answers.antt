use Rattle.std.proofs.Common.{◌≡◌, ◌∙◌, length, get_or, sym, ap, nat_lt, arith}
use Rattle.rinv_algebra.specs.Residue.{residue_ops}
use Rattle.rinv_algebra.specs.Normal.{IsNormal}
use Rattle.rinv_algebra.specs.Polynomial.{is_zero}
use Rattle.rinv_defs.specs.System.{group_count}
use Rattle.rinv_text.specs.Told.{Told}
use Rattle.rinv_text.proofs.SystemParts.{parts-of}
use Rattle.rinv_change.proofs.MadeChanges.{normal-over}
use Rattle.rinv_certify.proofs.Rows.{zero-left, zero-right}
use Rattle.rinv_certify.proofs.Taken.{holds-at}
use Rattle.rinv_certify.proofs.inputs.is_zero_at.Goals as goal

pub returns-then-k-ideal : goal.returns-then-k-ideal
returns-then-k-ideal c =
    let s = c.args.system.now.system in
    let ideal : length c.as_slice-ideal.result.now ≡ length s.ideal = ap (λ fs. length fs) (c.as_slice-ideal.ensures.value ∙ ap (λ (t : Told). t.system.ideal) c.system.view_is) in
    sym (zero-right s c.args.k c.requires.system (omega (arith, c.if-k-ideal.true, ideal)) c.requires.inside)

pub is_zero-requires : goal.is_zero-requires
is_zero-requires c =
    let s = c.args.system.now.system in
    let ideal = c.as_slice-ideal.ensures.value ∙ ap (λ (t : Told). t.system.ideal) c.system.view_is in
    let f = c.index-ideal-k.result in
    let many : length c.as_slice-ideal.result.now ≡ length s.ideal = ap (λ fs. length fs) ideal in
    normal-over c.new-ring.result.coeffs s.p c.new-ring.result.vars (group_count s) f
    (c.new-ring.ensures.ring ∙ ap (λ (t : Told). t.system.p) c.system.view_is)
    (c.new-ring.ensures.count ∙ c.len.ensures.len ∙ ap (λ (t : Told). length t.system.group) c.system.view_is)
    (holds-at (IsNormal (residue_ops s.p) (λ n. nat_lt n s.p) (group_count s)) s.ideal c.args.k f (parts-of s c.requires.system).ideal (omega (arith, c.if-k-ideal.false, many)) (c.index-ideal-k.is ∙ ap (λ fs. get_or fs c.args.k f) ideal))

pub returns : goal.returns
returns c =
    let s = c.args.system.now.system in
    let ideal = c.as_slice-ideal.ensures.value ∙ ap (λ (t : Told). t.system.ideal) c.system.view_is in
    let f = c.index-ideal-k.result in
    let many : length c.as_slice-ideal.result.now ≡ length s.ideal = ap (λ fs. length fs) ideal in
    c.is_zero.ensures ∙ ap (λ p. is_zero (residue_ops p) f) (c.new-ring.ensures.ring ∙ ap (λ (t : Told). t.system.p) c.system.view_is)
    ∙ zero-left s c.args.k f (omega (arith, c.if-k-ideal.false, many)) (c.index-ideal-k.is ∙ ap (λ fs. get_or fs c.args.k f) ideal)
