use Rattle.std.proofs.Common.{◌∙◌, not, List, Some, length, sym, ap, arith}
use Rattle.rinv_algebra.specs.Residue.{residue_ops}
use Rattle.rinv_algebra.specs.Fits.{multiplies_out}
use Rattle.rinv_defs.specs.System.{Poly}
use Rattle.rinv_cert.specs.Seen.{kind_of}
use Rattle.rinv_check.proofs.BasisParts.{inputs-many, input-number, input-normal, elements-normal, generator-normal, inputs-walk}
use Rattle.rinv_check.proofs.PairWalks.{pairs-more, pairs-stop, pairs-end}
use Rattle.rinv_check.proofs.basis.inputs_failure.Goals as goal

pub bounds-inputs-k : goal.bounds-inputs-k
bounds-inputs-k c = (let few = inputs-many c.args.stored.now (ap kind_of c.requires.kind) c.requires.form _ _ c.in_ok-generators.generators.items c.in_ok-generators.ensures in let g = ap length c.as_slice-polynomials.ensures.value in let i = ap length c.as_slice-inputs.ensures in let t = c.generators-test.true in omega (arith, few, g, i, t))

pub multiplies_out-requires-clause-polynomial : goal.multiplies_out-requires-clause-polynomial
multiplies_out-requires-clause-polynomial c =
    generator-normal _ _ _ _ _ c.as_slice-polynomials.result.now c.generators.k c.index-polynomials-k.result (rw (← c.as_slice-polynomials.ensures.value) at c.in_ok-generators.ensures) (c.new-ring.ensures.ring ∙ c.sizes_in-sizes.ensures.field) (c.new-ring.ensures.count ∙ c.sizes_in-sizes.ensures.graph) (omega (arith, c.generators-test.true)) c.index-polynomials-k.is

pub multiplies_out-requires-clause-many : goal.multiplies_out-requires-clause-many
multiplies_out-requires-clause-many c = rw (c.as_slice-array.ensures, c.requires.elements) (input-number c.args.stored.now (ap kind_of c.requires.kind) c.requires.form c.generators.k c.index-inputs-k.result (let few = inputs-many c.args.stored.now (ap kind_of c.requires.kind) c.requires.form _ _ c.in_ok-generators.generators.items c.in_ok-generators.ensures in let g = ap length c.as_slice-polynomials.ensures.value in let t = c.generators-test.true in omega (arith, few, g, t)) (rw c.as_slice-inputs.ensures at c.index-inputs-k.is))

pub multiplies_out-requires-clause-cofactors : goal.multiplies_out-requires-clause-cofactors
multiplies_out-requires-clause-cofactors c = rw c.as_slice-array.ensures (input-normal c.args.stored.now (ap kind_of c.requires.kind) c.requires.form c.generators.k c.index-inputs-k.result (let few = inputs-many c.args.stored.now (ap kind_of c.requires.kind) c.requires.form _ _ c.in_ok-generators.generators.items c.in_ok-generators.ensures in let g = ap length c.as_slice-polynomials.ensures.value in let t = c.generators-test.true in omega (arith, few, g, t)) (rw c.as_slice-inputs.ensures at c.index-inputs-k.is) _ _ (c.new-ring.ensures.ring ∙ c.sizes_in-sizes.ensures.field) (c.new-ring.ensures.count ∙ c.sizes_in-sizes.ensures.graph))

pub multiplies_out-requires-clause-generators : goal.multiplies_out-requires-clause-generators
multiplies_out-requires-clause-generators c = rw c.requires.elements (elements-normal c.args.stored.now (ap kind_of c.requires.kind) c.requires.form _ _ (c.new-ring.ensures.ring ∙ c.sizes_in-sizes.ensures.field) (c.new-ring.ensures.count ∙ c.sizes_in-sizes.ensures.graph))

pub returns-then-not-holds : goal.returns-then-not-holds
returns-then-not-holds c =
    ap Some c.in-Ok.ensures.1
    ∙ sym (pairs-stop (λ (x : Poly × List Poly). not (multiplies_out (residue_ops c.new-ring.result.coeffs) x.0 x.1 c.args.basis.now)) c.as_slice-polynomials.result.now c.as_slice-inputs.result.now c.generators.k c.index-polynomials-k.result c.index-inputs-k.result (omega (arith, c.generators-test.true)) (let few = inputs-many c.args.stored.now (ap kind_of c.requires.kind) c.requires.form _ _ c.in_ok-generators.generators.items c.in_ok-generators.ensures in let g = ap length c.as_slice-polynomials.ensures.value in let i = ap length c.as_slice-inputs.ensures in let t = c.generators-test.true in omega (arith, few, g, i, t))
    c.index-polynomials-k.is c.index-inputs-k.is c.generators.invariant (ap not (rw c.as_slice-array.ensures at (sym c.in_ok-holds.ensures ∙ c.if-not-holds.true))))
    ∙ inputs-walk c.args.stored.now (ap kind_of c.requires.kind) c.requires.form c.new-ring.result.coeffs _ c.args.basis.now c.as_slice-polynomials.result.now c.as_slice-inputs.result.now (c.new-ring.ensures.ring ∙ c.sizes_in-sizes.ensures.field) c.requires.elements c.as_slice-inputs.ensures (rw (← c.as_slice-polynomials.ensures.value) at c.in_ok-generators.ensures)

pub generators-preserved : goal.generators-preserved
generators-preserved c =
    pairs-more (λ (x : Poly × List Poly). not (multiplies_out (residue_ops c.new-ring.result.coeffs) x.0 x.1 c.args.basis.now)) c.as_slice-polynomials.result.now c.as_slice-inputs.result.now c.generators.k c.index-polynomials-k.result c.index-inputs-k.result (omega (arith, c.generators-test.true)) (let few = inputs-many c.args.stored.now (ap kind_of c.requires.kind) c.requires.form _ _ c.in_ok-generators.generators.items c.in_ok-generators.ensures in let g = ap length c.as_slice-polynomials.ensures.value in let i = ap length c.as_slice-inputs.ensures in let t = c.generators-test.true in omega (arith, few, g, i, t))
    c.index-polynomials-k.is c.index-inputs-k.is c.generators.invariant (ap not (rw c.as_slice-array.ensures at (sym c.in_ok-holds.ensures ∙ c.if-not-holds.false)))

pub returns : goal.returns
returns c =
    sym (pairs-end (λ (x : Poly × List Poly). not (multiplies_out (residue_ops c.new-ring.result.coeffs) x.0 x.1 c.args.basis.now)) c.as_slice-polynomials.result.now c.as_slice-inputs.result.now c.generators.k (omega (arith, c.generators-test.false)) c.generators.invariant)
    ∙ inputs-walk c.args.stored.now (ap kind_of c.requires.kind) c.requires.form c.new-ring.result.coeffs _ c.args.basis.now c.as_slice-polynomials.result.now c.as_slice-inputs.result.now (c.new-ring.ensures.ring ∙ c.sizes_in-sizes.ensures.field) c.requires.elements c.as_slice-inputs.ensures (rw (← c.as_slice-polynomials.ensures.value) at c.in_ok-generators.ensures)
