use Rattle.std.proofs.Common.{List, [], map, get_or, subst, ap, nat_lt}
use Rattle.std.proofs.lemmas.List.{take_all, get_or_default}
use Rattle.std.proofs.lemmas.List.Elements.{All-push}
use Rattle.rinv_algebra.specs.Residue.{residue_ops}
use Rattle.rinv_algebra.specs.Ring.{IsSame}
use Rattle.rinv_algebra.specs.Polynomial.{poly_ops}
use Rattle.rinv_algebra.specs.Normal.{IsNormal}
use Rattle.rinv_algebra.proofs.ResidueLaws.{residue_laws}
use Rattle.rinv_groebner.specs.Division.{AreSame}
use Rattle.rinv_defs.specs.System.{Poly}
use Rattle.rinv_laws.proofs.CopiedFacts.{mapped-more, chosen-one, chosen-is}
use Rattle.rinv_change.proofs.kept.chosen.Goals as goal

pub widened-requires-clause-polynomial : goal.widened-requires-clause-polynomial
widened-requires-clause-polynomial c =
    let p = c.args.from.now.coeffs in
    let place = get_or c.args.places.now c.places.k 0 in
    chosen-one c.args.polys.now c.args.places.now c.requires.places c.places.k place c.index-polys-place.result c.places-test.true (get_or_default c.args.places.now c.places.k 0 place c.places-test.true) c.index-polys-place.is
    (IsNormal (residue_ops p) (λ c. nat_lt c p) c.args.from.now.vars) c.requires.polynomials

pub places-preserved : goal.places-preserved
places-preserved c =
    let p = c.args.ring.now.coeffs in
    let polys = c.args.polys.now in
    let place = get_or c.args.places.now c.places.k 0 in
    let at = get_or_default c.args.places.now c.places.k 0 place c.places-test.true in
    rw c.in_ok-push.ensures.items (record {
      normal = All-push (IsNormal (residue_ops p) (λ c. nat_lt c p) c.args.ring.now.vars) c.places.list.items c.in_ok-element.element c.places.invariant.normal c.in_ok-element.ensures.element;
      value = mapped-more (residue_ops p) (residue_laws p) (λ i. get_or polys i []) c.args.places.now c.places.k place c.places.list.items c.in_ok-element.element c.places-test.true at c.places.invariant.value
          (subst (λ (g : Poly). IsSame (poly_ops (residue_ops p)) c.in_ok-element.element g)
          (chosen-is polys c.args.places.now c.requires.places c.places.k place c.index-polys-place.result c.places-test.true at c.index-polys-place.is []) c.in_ok-element.ensures.value);
    })

pub returns-clause-value : goal.returns-clause-value
returns-clause-value c =
    let p = c.args.ring.now.coeffs in
    let polys : List Poly = c.args.polys.now in
    subst (λ (gs : List Poly). AreSame (residue_ops p) c.places.list.items gs)
    (ap (λ is. map (λ i. get_or polys i []) is) (take_all c.places.k c.args.places.now c.places-test.false)) c.places.invariant.value
