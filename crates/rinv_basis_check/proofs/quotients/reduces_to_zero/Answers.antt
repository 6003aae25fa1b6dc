use Rattle.std.proofs.Common.{ℕ, ◌+◌, ◌<◌, List, sym, ap, ap₂, ◌∙◌, subst, subst₂, refl}
use Rattle.rinv_algebra.specs.Monomial.{lcm, total_degree, max_degree}
use Rattle.rinv_algebra.specs.Residue.{residue_ops}
use Rattle.rinv_algebra.specs.Fits.{multiplies_out}
use Rattle.rinv_defs.specs.System.{Poly}
use Rattle.rinv_defs.specs.PairConditions.{element}
use Rattle.rinv_mono.specs.Fault.{IsOfDegree}
use Rattle.rinv_basis_check.proofs.PairMultiples.{lcm-swapped}
use Rattle.rinv_basis_check.proofs.StoredElements.{lead-at, lead-has}
use Rattle.rinv_basis_check.proofs.MultiplierTerms.{lead-own, lead-own-length}
use Rattle.rinv_basis_check.proofs.PairReductions.{high-fails, first-fails, second-fails, sum-fails, reduces}
use Rattle.rinv_basis_check.proofs.quotients.reduces_to_zero.Goals as goal

pub lcm-requires : goal.lcm-requires
lcm-requires c =
    let b = c.args.basis.now in
    lead-own-length b c.args.f c.requires.first c.index.result.now c.index.ensures ∙ sym (lead-own-length b c.args.g c.requires.second c.index-2.result.now c.index-2.ensures)

pub returns-in-Err-Degree : goal.returns-in-Err-Degree
returns-in-Err-Degree c = λ cert is.
    let b = c.args.basis.now in
    let over : max_degree < total_degree (lcm c.index.result.now c.index-2.result.now) = subst (IsOfDegree (total_degree (lcm c.index.result.now c.index-2.result.now))) c.in-Err-Degree.field-0-is c.in-Err-Degree.ensures.high in
    high-fails cert (element cert (c.args.f + 1)) (element cert (c.args.g + 1)) c.args.quotients.now (lead-has b cert is c.args.f (c.args.f + 1) refl c.requires.first) (lead-has b cert is c.args.g (c.args.g + 1) refl c.requires.second)
    (subst₂ (λ (x y : List ℕ). max_degree < total_degree (lcm x y)) (lead-own b c.args.f c.requires.first c.index.result.now c.index.ensures ∙ lead-at b cert is c.args.f (c.args.f + 1) refl c.requires.first)
    (lead-own b c.args.g c.requires.second c.index-2.result.now c.index-2.ensures ∙ lead-at b cert is c.args.g (c.args.g + 1) refl c.requires.second) over)

pub returns-in_default : goal.returns-in_default
returns-in_default c = λ cert is. let fits = c.in_ok-left.ensures.fits cert is in first-fails cert (element cert (c.args.f + 1)) (element cert (c.args.g + 1)) c.args.quotients.now (rw c.in_default.is at fits)

pub multiple-requires-2-clause-common : goal.multiple-requires-2-clause-common
multiple-requires-2-clause-common c =
    let b = c.args.basis.now in
    c.in-Ok.ensures.value ∙ ap₂ lcm (lead-own b c.args.f c.requires.first c.index.result.now c.index.ensures) (lead-own b c.args.g c.requires.second c.index-2.result.now c.index-2.ensures) ∙ lcm-swapped _ _

pub returns-in_default-2 : goal.returns-in_default-2
returns-in_default-2 c = λ cert is.
    let left = c.in_ok-left.ensures.fits cert is in
    let right = c.in_ok-right.ensures.fits cert is in
    second-fails cert (element cert (c.args.f + 1)) (element cert (c.args.g + 1)) c.args.quotients.now (rw c.in-Some.is at left) (rw c.in_default-2.is at right)

pub returns-then-not-branch : goal.returns-then-not-branch
returns-then-not-branch c = λ cert is.
    let b = c.args.basis.now in
    let left = c.in_ok-left.ensures.fits cert is in
    let right = c.in_ok-right.ensures.fits cert is in
    let first = c.in_ok-left.ensures.value cert is in
    let second = c.in_ok-right.ensures.value cert is in
    sum-fails cert (element cert (c.args.f + 1)) (element cert (c.args.g + 1)) c.args.quotients.now (rw c.in-Some.is at left) (rw c.in-Some-2.is at right) b.ring.coeffs b.elements.items c.in-Some.left c.in-Some-2.right c.in-Ok-sub.s is.field is.elements (rw c.in-Some.is at first)
    (rw c.in-Some-2.is at second) c.in-Ok-sub.ensures.value
    (sym c.if-not-branch.true ∙ c.in_ok-multiplies_out.ensures ∙ ap (λ (es : List Poly). multiplies_out (residue_ops b.ring.coeffs) c.in-Ok-sub.s c.args.quotients.now es) c.deref.ensures.value)

pub all_stay_below-requires-clause-common : goal.all_stay_below-requires-clause-common
all_stay_below-requires-clause-common c = c.in-Ok.ensures.vars ∙ lead-own-length c.args.basis.now c.args.f c.requires.first c.index.result.now c.index.ensures

pub returns : goal.returns
returns c = λ cert is.
    let b = c.args.basis.now in
    let left = c.in_ok-left.ensures.fits cert is in
    let right = c.in_ok-right.ensures.fits cert is in
    let first = c.in_ok-left.ensures.value cert is in
    let second = c.in_ok-right.ensures.value cert is in
    reduces cert (element cert (c.args.f + 1)) (element cert (c.args.g + 1)) c.args.quotients.now (rw c.in-Some.is at left) (rw c.in-Some-2.is at right) b.ring.coeffs b.elements.items c.in-Some.left c.in-Some-2.right c.in-Ok-sub.s is.field is.elements (rw c.in-Some.is at first)
    (rw c.in-Some-2.is at second) c.in-Ok-sub.ensures.value
    (sym c.if-not-branch.false ∙ c.in_ok-multiplies_out.ensures ∙ ap (λ (es : List Poly). multiplies_out (residue_ops b.ring.coeffs) c.in-Ok-sub.s c.args.quotients.now es) c.deref.ensures.value) c.in-Ok.common
    (c.in-Ok.ensures.value
    ∙ ap₂ lcm (lead-own b c.args.f c.requires.first c.index.result.now c.index.ensures ∙ lead-at b cert is c.args.f (c.args.f + 1) refl c.requires.first)
    (lead-own b c.args.g c.requires.second c.index-2.result.now c.index-2.ensures ∙ lead-at b cert is c.args.g (c.args.g + 1) refl c.requires.second)) c.in_ok-below.below (c.in_ok-below.ensures cert is)
