use Rattle.std.proofs.Common.{◌∙◌, List, [], ℕ, map, get_or, subst}
use Rattle.std.specs.List.{AllZip}
use Rattle.std.proofs.lemmas.List.{take_all, get_or_default}
use Rattle.std.proofs.lemmas.List.Elements.{All-nil, All-push}
use Rattle.rinv_algebra.specs.Residue.{residue_ops}
use Rattle.rinv_algebra.proofs.ResidueLaws.{residue_laws}
use Rattle.rinv_groebner.specs.Division.{AreSame}
use Rattle.rinv_defs.specs.System.{Poly}
use Rattle.rinv_parts.specs.Points.{ArePolynomials}
use Rattle.rinv_laws.specs.Proofs.{chosen}
use Rattle.rinv_laws.proofs.CopiedCofactors.{list-at}
use Rattle.rinv_change.proofs.WideLists.{lists-more}
use Rattle.rinv_change.proofs.cofactors.widened_lists.Goals as goal

pub places-init : goal.places-init
places-init c =
    let p = c.args.to.now.coeffs in
    rw c.in_ok-wide.ensures.items (record { normal = All-nil (λ us. ArePolynomials p c.args.to.now.vars us.items); value = tt })

pub places-preserved : goal.places-preserved
places-preserved c =
    let p = c.args.to.now.coeffs in
    let made = c.places.wide.items in
    let place : ℕ = get_or c.args.places.now c.places.k 0 in
    rw c.in_ok-push.ensures.items (record {
      normal = All-push (λ us. ArePolynomials p c.args.to.now.vars us.items) made c.in_ok-moved.moved c.places.invariant.normal c.in_ok-moved.ensures.normal;
      value = lists-more (residue_ops p) (residue_laws p) (λ us. us.items) (map (λ us. us.items) c.args.lists.now) c.args.places.now c.places.k place made c.in_ok-moved.moved c.places-test.true
          (get_or_default c.args.places.now c.places.k 0 place c.places-test.true) c.places.invariant.value
          (subst (λ (us : List Poly). AreSame (residue_ops p) c.in_ok-moved.moved.items us)
          (c.deref.ensures.value ∙ list-at (λ us. us.items) [] c.args.lists.now place c.index-lists-places.result (c.requires.places c.places.k 0 c.places-test.true) c.index-lists-places.is) c.in_ok-moved.ensures.value);
    })

pub returns-clause-value : goal.returns-clause-value
returns-clause-value c =
    let o = residue_ops c.args.to.now.coeffs in
    subst (λ (ks : List ℕ). AllZip (AreSame o) (map (λ us. us.items) c.places.wide.items) (chosen (map (λ us. us.items) c.args.lists.now) ks)) (take_all c.places.k c.args.places.now c.places-test.false) c.places.invariant.value
