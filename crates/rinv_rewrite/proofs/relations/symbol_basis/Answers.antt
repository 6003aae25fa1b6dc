use Rattle.std.proofs.Common.{sym, subst}
use Rattle.rinv_coefficients.specs.Ties.{with_symbols}
use Rattle.rinv_rewrite.specs.Symbols.{IsSymbolRelation}
use Rattle.rinv_rewrite.proofs.BasesInSteps.{first_of, next-so_far, start-so_far}
use Rattle.rinv_rewrite.proofs.DivisionRests.{stored_monic, stored_nonzero}
use Rattle.rinv_rewrite.proofs.TiedRelations.{low}
use Rattle.rinv_rewrite.proofs.relations.symbol_basis.Goals as goal

pub relations-init : goal.relations-init
relations-init c = rw (c.in_ok-polys.ensures.items, c.new-divisors.ensures) (start-so_far c.args.ring.now.coeffs.coeffs c.args.ring.now.coeffs.vars c.args.ring.now.vars)

pub relation_poly-requires : goal.relation_poly-requires
relation_poly-requires c = rw c.index-relations-k.is (c.requires c.relations.k c.index-relations-k.result c.relations-test.true)

pub push_monic-requires-clause-nonzero : goal.push_monic-requires-clause-nonzero
push_monic-requires-clause-nonzero c =
    let p = c.args.ring.now.coeffs.coeffs in
    let k = c.args.ring.now.coeffs.vars in
    let n = c.args.ring.now.vars in
    let t = c.index-relations-k.result in
    let form : IsSymbolRelation p k n t = subst (IsSymbolRelation p k n) (sym c.index-relations-k.is) (c.requires c.relations.k t c.relations-test.true) in
    stored_nonzero p n c.in_ok-poly.poly (with_symbols p t) (low p k n t form) c.in_ok-poly.ensures.value

pub push_monic-requires-clause-monic : goal.push_monic-requires-clause-monic
push_monic-requires-clause-monic c =
    let p = c.args.ring.now.coeffs.coeffs in
    let k = c.args.ring.now.coeffs.vars in
    let n = c.args.ring.now.vars in
    let t = c.index-relations-k.result in
    let form : IsSymbolRelation p k n t = subst (IsSymbolRelation p k n) (sym c.index-relations-k.is) (c.requires c.relations.k t c.relations-test.true) in
    stored_monic p n c.in_ok-poly.poly (with_symbols p t) (first_of p k n c.in_ok-poly.poly c.in_ok-poly.ensures.element) (low p k n t form) c.in_ok-poly.ensures.value

pub relations-preserved : goal.relations-preserved
relations-preserved c =
    let p = c.args.ring.now.coeffs.coeffs in
    let k = c.args.ring.now.coeffs.vars in
    let n = c.args.ring.now.vars in
    rw c.in_ok-push.ensures.items (next-so_far p k n c.args.relations.now c.relations.k c.index-relations-k.result c.relations.polys.items c.relations.divisors.list.items c.push_monic.new.self.list.items c.in_ok-poly.poly
    c.relations-test.true c.index-relations-k.is c.relations.invariant c.in_ok-poly.ensures.element c.in_ok-poly.ensures.value c.in_ok-push_monic.ensures)
