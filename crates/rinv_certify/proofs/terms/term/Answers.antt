use Rattle.std.proofs.Common.{◌≡◌, ◌∙◌, ℕ, ◌+◌, length, ap, ap₂, subst₂, nat_lt}
use Rattle.std.proofs.lemmas.Result.{err_from_is_err_and}
use Rattle.rinv_algebra.specs.Residue.{residue_ops}
use Rattle.rinv_algebra.specs.Normal.{IsNormal}
use Rattle.rinv_text.specs.Told.{Told}
use Rattle.rinv_poly.specs.Faults.{MonomialsMeet}
use Rattle.rinv_poly.proofs.Meets.{meet-weaker}
use Rattle.rinv_defs.specs.System.{group_count, space_count}
use Rattle.rinv_change.proofs.MadeChanges.{normal-over}
use Rattle.rinv_certify.specs.Meets.{TermMeets}
use Rattle.rinv_certify.proofs.TermParts.{term-fits, term-meets, term-value}
use Rattle.rinv_certify.proofs.terms.term.Goals as goal

pub behind-requires-clause-polynomial : goal.behind-requires-clause-polynomial
behind-requires-clause-polynomial c =
    normal-over c.new-from.result.coeffs c.args.system.now.system.p c.new-from.result.vars (space_count c.args.system.now.system) c.args.f.now
    (c.new-from.ensures.ring ∙ ap (λ (t : Told). t.system.p) c.system.view_is)
    (c.new-from.ensures.count ∙ c.len-space.ensures.len ∙ ap (λ (t : Told). length t.system.space) c.system.view_is) c.requires.polynomial

pub returns-in_err-term-clause-degree : goal.returns-in_err-term-clause-degree
returns-in_err-term-clause-degree c =
    let s = c.args.system.now.system in
    let q = err_from_is_err_and c.from_residual-in_err-term.result c.from_residual-in_err-term.ensures.1 in
    let before : c.len.result + c.len-space.result ≡ group_count s + space_count s = ap₂ (λ (i j : ℕ). i + j) (c.len.ensures.len ∙ ap (λ (t : Told). length t.system.group) c.system.view_is) (c.len-space.ensures.len ∙ ap (λ (t : Told). length t.system.space) c.system.view_is) in
    rw (q.1, q.2) (meet-weaker (MonomialsMeet (residue_ops c.action_ring-ring.result.coeffs) c.in_ok-power.power c.in_ok-behind.behind) (TermMeets s c.args.a.now c.args.f.now)
    (term-meets s c.action_ring-ring.result.coeffs (c.len.result + c.len-space.result) c.args.a.now c.args.f.now c.in_ok-power.power c.in_ok-behind.behind c.action_ring-ring.ensures.field before c.in_ok-power.ensures.value c.in_ok-behind.ensures.value)
    c.in_err-term.field-0.0 c.in_err-term.ensures.degree)

pub returns-clause-normal : goal.returns-clause-normal
returns-clause-normal c = subst₂ (λ (p v : ℕ). IsNormal (residue_ops p) (λ n. nat_lt n p) v c.in_ok-term.term) c.action_ring-ring.ensures.field c.action_ring-ring.ensures.vars c.in_ok-term.ensures.normal

pub returns-clause-value : goal.returns-clause-value
returns-clause-value c =
    let s = c.args.system.now.system in
    let before : c.len.result + c.len-space.result ≡ group_count s + space_count s = ap₂ (λ (i j : ℕ). i + j) (c.len.ensures.len ∙ ap (λ (t : Told). length t.system.group) c.system.view_is) (c.len-space.ensures.len ∙ ap (λ (t : Told). length t.system.space) c.system.view_is) in
    term-value s c.action_ring-ring.result.coeffs (c.len.result + c.len-space.result) c.args.a.now c.args.f.now c.in_ok-power.power c.in_ok-behind.behind c.action_ring-ring.ensures.field before c.in_ok-power.ensures.value c.in_ok-behind.ensures.value
    c.in_ok-term.term c.in_ok-term.ensures.value

pub returns-clause-fits : goal.returns-clause-fits
returns-clause-fits c =
    let s = c.args.system.now.system in
    let before : c.len.result + c.len-space.result ≡ group_count s + space_count s = ap₂ (λ (i j : ℕ). i + j) (c.len.ensures.len ∙ ap (λ (t : Told). length t.system.group) c.system.view_is) (c.len-space.ensures.len ∙ ap (λ (t : Told). length t.system.space) c.system.view_is) in
    term-fits s c.action_ring-ring.result.coeffs (c.len.result + c.len-space.result) c.args.a.now c.args.f.now c.in_ok-power.power c.in_ok-behind.behind c.action_ring-ring.ensures.field before c.in_ok-power.ensures.value c.in_ok-behind.ensures.value
    c.in_ok-term.ensures.fits
