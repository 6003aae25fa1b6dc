use Rattle.std.proofs.Common.{◌≡◌, ◌∙◌, ℕ, List, map, take, length, subst, sym, ap}
use Rattle.std.specs.List.{range_with_len}
use Rattle.std.proofs.lemmas.List.{take_all}
use Rattle.std.proofs.lemmas.List.FromFn.{length-range_with_len}
use Rattle.rinv_algebra.specs.Ring.{IsSame}
use Rattle.rinv_algebra.specs.Residue.{residue_ops}
use Rattle.rinv_algebra.specs.Polynomial.{poly_ops}
use Rattle.rinv_algebra.specs.Value.{rename}
use Rattle.rinv_sub.specs.Places.{ArePlaces}
use Rattle.rinv_defs.specs.System.{Poly}
use Rattle.rinv_parts.specs.Points.{AreStored}
use Rattle.rinv_parts.proofs.Names.{range-places}
use Rattle.rinv_parts.proofs.Stored.{stored-more}
use Rattle.rinv_parts.proofs.coordinates.renamed.Goals as goal

pub polynomials-init : goal.polynomials-init
polynomials-init c = rw c.new-moved.ensures.items tt

pub rename-requires-clause-many : goal.rename-requires-clause-many
rename-requires-clause-many c =
    let places : c.deref.result.now ≡ range_with_len c.args.start c.args.from.now.vars = c.deref.ensures.value ∙ c.in_ok-places.ensures ∙ ap (range_with_len c.args.start) c.vars.ensures in
    ap (λ (ks : List ℕ). length ks) places ∙ length-range_with_len c.args.start c.args.from.now.vars

pub rename-requires-clause-places : goal.rename-requires-clause-places
rename-requires-clause-places c =
    let places : c.deref.result.now ≡ range_with_len c.args.start c.args.from.now.vars = c.deref.ensures.value ∙ c.in_ok-places.ensures ∙ ap (range_with_len c.args.start) c.vars.ensures in
    subst (ArePlaces c.args.ring.now.vars) (sym places) (range-places c.args.ring.now.vars c.args.start c.args.from.now.vars c.requires.inside)

pub polynomials-preserved : goal.polynomials-preserved
polynomials-preserved c =
    let p = c.args.ring.now.coeffs in
    let o = residue_ops p in
    let f : Poly = c.index-fs-k.result in
    let r : Poly = c.in-Ok.f in
    let places : c.deref.result.now ≡ range_with_len c.args.start c.args.from.now.vars = c.deref.ensures.value ∙ c.in_ok-places.ensures ∙ ap (range_with_len c.args.start) c.vars.ensures in
    rw c.in_ok-push.ensures.items (stored-more p c.args.ring.now.vars (rename o (range_with_len c.args.start c.args.from.now.vars)) c.args.fs.now c.polynomials.k f c.polynomials.moved.items r c.polynomials-test.true c.index-fs-k.is c.polynomials.invariant
    (record { normal = c.in-Ok.ensures.element; value = subst (λ (ks : List ℕ). IsSame (poly_ops o) r (rename o ks f)) places c.in-Ok.ensures.value }))

pub returns : goal.returns
returns c =
    let p = c.args.ring.now.coeffs in
    subst (λ (fs : List Poly). AreStored p c.args.ring.now.vars (map (rename (residue_ops p) (range_with_len c.args.start c.args.from.now.vars)) fs) c.polynomials.moved.items) (take_all c.polynomials.k c.args.fs.now c.polynomials-test.false) c.polynomials.invariant
