use Rattle.std.proofs.Common.{◌≡◌, ◌∙◌, false, true, Bool, take_all, filter, nat_lt, sym, ap, subst, arith}
use Rattle.std.proofs.lemmas.Bool.Decides.{nat_tests}
use Rattle.rinv_algebra.specs.BlockEnds.{sizes_from}
use Rattle.rinv_algebra.specs.Leading.{leading_monomial}
use Rattle.rinv_algebra.specs.Order.{block_order}
use Rattle.rinv_algebra.specs.Residue.{residue_ops}
use Rattle.rinv_algebra.specs.Normal.{IsNormal}
use Rattle.rinv_algebra.specs.Polynomial.{is_zero}
use Rattle.rinv_groebner.specs.Elimination.{is_free}
use Rattle.rinv_defs.specs.System.{Poly, group_count}
use Rattle.rinv_elim.proofs.LeadsMade.{free-kept, free-passed}
use Rattle.rinv_elim.proofs.eliminating.free_elements.Goals as goal

pub elements-init : goal.elements-init
elements-init c = c.new-free.ensures.items

pub leading_term-requires-clause-polynomial : goal.leading_term-requires-clause-polynomial
leading_term-requires-clause-polynomial c =
    let h = c.index-polys-k.result in
    let k = c.elements.k in
    let low = c.elements-test.true in
    let here = c.index-polys-k.is in
    subst (IsNormal (residue_ops c.args.ring.now.coeffs) (λ x. nat_lt x c.args.ring.now.coeffs) c.args.ring.now.vars) (sym here) (c.requires.polys k h low)

pub leading_term-requires-clause-nonzero : goal.leading_term-requires-clause-nonzero
leading_term-requires-clause-nonzero c =
    let h = c.index-polys-k.result in
    let k = c.elements.k in
    let low = c.elements-test.true in
    let here = c.index-polys-k.is in
    subst (λ (g : Poly). is_zero (residue_ops c.args.ring.now.coeffs) g ≡ false) (sym here) (c.requires.nonzero k h low)

pub copy-requires : goal.copy-requires
copy-requires c =
    let h = c.index-polys-k.result in
    let k = c.elements.k in
    let low = c.elements-test.true in
    let here = c.index-polys-k.is in
    subst (IsNormal (residue_ops c.args.ring.now.coeffs) (λ x. nat_lt x c.args.ring.now.coeffs) c.args.ring.now.vars) (sym here) (c.requires.polys k h low)

pub elements-preserved-then-not-is_free : goal.elements-preserved-then-not-is_free
elements-preserved-then-not-is_free c =
    let h = c.index-polys-k.result in
    let k = c.elements.k in
    let low = c.elements-test.true in
    let here = c.index-polys-k.is in
    let p = c.args.ring.now.coeffs in
    let cmp = block_order (sizes_from 0 c.args.order.now) in
    let l = group_count c.args.system.now.system in
    let test : Poly → Bool = λ (g : Poly). is_free l (leading_monomial (residue_ops p) cmp g) in
    let is = ap (is_free l) (sym c.leading_term.ensures.monomial) ∙ sym c.is_free.ensures in
    let off : c.is_free.result ≡ false = grind (arith, nat_tests, c.if-not-is_free.true) in
    free-passed test c.args.polys.now k h low here c.elements.free.items c.elements.invariant (is ∙ off)

pub elements-preserved : goal.elements-preserved
elements-preserved c =
    let h = c.index-polys-k.result in
    let k = c.elements.k in
    let low = c.elements-test.true in
    let here = c.index-polys-k.is in
    let p = c.args.ring.now.coeffs in
    let cmp = block_order (sizes_from 0 c.args.order.now) in
    let l = group_count c.args.system.now.system in
    let test : Poly → Bool = λ (g : Poly). is_free l (leading_monomial (residue_ops p) cmp g) in
    let is = ap (is_free l) (sym c.leading_term.ensures.monomial) ∙ sym c.is_free.ensures in
    let on : c.is_free.result ≡ true = grind (arith, nat_tests, c.if-not-is_free.false) in
    free-kept test c.args.polys.now k h low here c.elements.free.items c.push.new.self.items c.in_ok-copy.copy c.elements.invariant c.in_ok-push.ensures.items c.in_ok-copy.ensures (is ∙ on)

pub returns : goal.returns
returns c =
    let p = c.args.ring.now.coeffs in
    let cmp = block_order (sizes_from 0 c.args.order.now) in
    let l = group_count c.args.system.now.system in
    c.elements.invariant ∙ ap (filter (λ (g : Poly). is_free l (leading_monomial (residue_ops p) cmp g))) (take_all c.elements.k c.args.polys.now c.elements-test.false)
