use Rattle.std.proofs.Common.{◌≡◌, ◌∙◌, ◌⊎◌, [], inl, ap, length, subst}
use Rattle.rinv_text.specs.Told.{Told}
use Rattle.rinv_coefficients.specs.Coefficients.{coefficients, generators_of}
use Rattle.rinv_gens.specs.Numbering.{WalkMeets}
use Rattle.rinv_gens.specs.declared.kinds.Phase.TheVariants.{Tail}
use Rattle.rinv_generators.specs.Proving.{FractionsMeet}
use Rattle.rinv_generators.proofs.Together.{numbered-over}
use Rattle.rinv_generators.proofs.Stopping.{halts-so}
use Rattle.rinv_generators.proofs.assembling.numbered_of.Goals as goal

pub returns-in-Ok-clause-numbered : goal.returns-in-Ok-clause-numbered
returns-in-Ok-clause-numbered c =
    let s = c.args.system.now.system in
    let base = c.new-field.result.base in
    let p : base.coeffs ≡ s.p = ap (λ r. r.coeffs) c.new-field.ensures ∙ c.new-ring.ensures.ring ∙ ap (λ (t : Told). t.system.p) c.system.view_is in
    let v : base.vars ≡ length s.space = ap (λ r. r.vars) c.new-field.ensures ∙ c.new-ring.ensures.count ∙ c.len.ensures.len ∙ ap (λ (t : Told). length t.system.space) c.system.view_is in
    numbered-over s c.args.monic.now c.in-Ok.numbered.relations.items c.in-Ok.numbered.fractions.items base.coeffs base.vars p v c.in-Ok.ensures.fractions c.in-Ok.ensures.stored c.in-Ok.ensures.relations

pub returns-in-Err-Degree-clause-stop : goal.returns-in-Err-Degree-clause-stop
returns-in-Err-Degree-clause-stop c =
    let s = c.args.system.now.system in
    let group = c.args.group.now.basis in
    let monic = c.args.monic.now in
    let base = c.new-field.result.base in
    let p : base.coeffs ≡ s.p = ap (λ r. r.coeffs) c.new-field.ensures ∙ c.new-ring.ensures.ring ∙ ap (λ (t : Told). t.system.p) c.system.view_is in
    let left = c.in-Err-Degree.left in
    let right = c.in-Err-Degree.right in
    let meets : WalkMeets base.coeffs [] (coefficients monic) left right = rw c.in-Err-Degree.field-0-is at c.in-Err-Degree.ensures.degree in
    halts-so group c.args.action.now Tail (λ x y. WalkMeets s.p [] (coefficients monic) x y ⊎ FractionsMeet s group (generators_of s.p monic) x y) left right
    (inl (subst (λ q. WalkMeets q [] (coefficients monic) left right) p meets)) c.halted.result c.halted.ensures
