use Rattle.std.proofs.Common.{◌*◌, List, map, subst, nat_lt}
use Rattle.std.proofs.lemmas.List.{take_all}
use Rattle.std.proofs.lemmas.List.Elements.{All-nil, All-push}
use Rattle.rinv_algebra.specs.Residue.{residue_ops}
use Rattle.rinv_algebra.specs.Normal.{IsNormal}
use Rattle.rinv_algebra.specs.Polynomial.{past}
use Rattle.rinv_algebra.proofs.ResidueLaws.{residue_laws}
use Rattle.rinv_groebner.specs.Division.{AreSame}
use Rattle.rinv_defs.specs.System.{Poly}
use Rattle.rinv_laws.proofs.CopiedFacts.{mapped-more}
use Rattle.rinv_laws.proofs.cofactors.list_in_copy.Goals as goal

pub polynomials-init : goal.polynomials-init
polynomials-init c =
    let p = c.args.to.now.coeffs in
    rw c.in_ok-copies.ensures.items (record { normal = All-nil (IsNormal (residue_ops p) (λ n. nat_lt n p) c.args.to.now.vars); value = tt })

pub polynomials-preserved : goal.polynomials-preserved
polynomials-preserved c =
    let p = c.args.to.now.coeffs in
    let made = c.polynomials.copies.items in
    rw c.in_ok-push.ensures.items (record {
      normal = All-push (IsNormal (residue_ops p) (λ n. nat_lt n p) c.args.to.now.vars) made c.in_ok-moved.moved c.polynomials.invariant.normal c.in_ok-moved.ensures.normal;
      value = mapped-more (residue_ops p) (residue_laws p) (past (c.args.copy * c.args.from.now.vars)) c.args.list.now c.polynomials.k c.index-list-k.result made c.in_ok-moved.moved c.polynomials-test.true c.index-list-k.is c.polynomials.invariant.value c.in_ok-moved.ensures.value;
    })

pub returns-clause-value : goal.returns-clause-value
returns-clause-value c =
    let o = residue_ops c.args.to.now.coeffs in
    subst (λ (fs : List Poly). AreSame o c.polynomials.copies.items (map (past (c.args.copy * c.args.from.now.vars)) fs)) (take_all c.polynomials.k c.args.list.now c.polynomials-test.false) c.polynomials.invariant.value
