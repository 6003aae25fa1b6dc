use Rattle.std.proofs.Common.{List, subst, nat_lt}
use Rattle.std.proofs.lemmas.List.{take_all}
use Rattle.std.proofs.lemmas.List.Elements.{All-nil, All-push}
use Rattle.rinv_algebra.specs.Residue.{residue_ops}
use Rattle.rinv_algebra.specs.Normal.{IsNormal}
use Rattle.rinv_algebra.proofs.ResidueLaws.{residue_laws}
use Rattle.rinv_groebner.specs.Division.{AreSame}
use Rattle.rinv_defs.specs.System.{Poly}
use Rattle.rinv_change.proofs.WideLists.{same-more}
use Rattle.rinv_change.proofs.cofactors.widened_list.Goals as goal

pub polynomials-init : goal.polynomials-init
polynomials-init c =
    let p = c.args.to.now.coeffs in
    rw c.in_ok-wide.ensures.items (record { normal = All-nil (IsNormal (residue_ops p) (λ n. nat_lt n p) c.args.to.now.vars); value = tt })

pub polynomials-preserved : goal.polynomials-preserved
polynomials-preserved c =
    let p = c.args.to.now.coeffs in
    let made = c.polynomials.wide.items in
    rw c.in_ok-push.ensures.items (record {
      normal = All-push (IsNormal (residue_ops p) (λ n. nat_lt n p) c.args.to.now.vars) made c.in_ok-moved.moved c.polynomials.invariant.normal c.in_ok-moved.ensures.element;
      value = same-more (residue_ops p) (residue_laws p) c.args.list.now c.polynomials.k c.index-list-k.result made c.in_ok-moved.moved c.polynomials-test.true c.index-list-k.is c.polynomials.invariant.value c.in_ok-moved.ensures.value;
    })

pub returns-clause-value : goal.returns-clause-value
returns-clause-value c =
    subst (λ (fs : List Poly). AreSame (residue_ops c.args.to.now.coeffs) c.polynomials.wide.items fs) (take_all c.polynomials.k c.args.list.now c.polynomials-test.false) c.polynomials.invariant.value
