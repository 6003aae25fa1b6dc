use Rattle.std.proofs.Common.{◌≡◌, ◌<◌, ◌≤◌, List, ℕ, [], ap, arith, length, take, get_or, map, ◌∙◌, sym, subst}
use Rattle.std.proofs.lemmas.List.{take_all, get_or-map, length-map}
use Rattle.rinv_algebra.specs.Residue.{residue_ops}
use Rattle.rinv_algebra.specs.Polynomial.{Polynomial, constant}
use Rattle.rinv_algebra.specs.Value.{times_all, factors}
use Rattle.rinv_modulo.specs.Congruence.{ArePowersModulo}
use Rattle.rinv_modulo.proofs.Powers.{stands-self}
use Rattle.rinv_modulo.proofs.TermValues.{block-stands}
use Rattle.rinv_modulo.proofs.values.term_modulo.Goals as goal

pub images-init : goal.images-init
unfolding times_all factors
images-init c = stands-self c.args.ring.now.coeffs c.args.ring.now.vars c.args.basis.now (constant (residue_ops c.args.ring.now.coeffs) c.args.coefficient) c.in_ok-product.product c.in_ok-product.ensures.element c.in_ok-product.ensures.value

pub times_power-requires-clause-powers : goal.times_power-requires-clause-powers
times_power-requires-clause-powers c =
    let p = c.args.ring.now.coeffs in
    let v = c.args.ring.now.vars in
    let hs = c.args.basis.now in
    let images = c.args.images.now in
    let k = c.images.k in
    let f = c.index-images-k.result in
    let few : k < length images = omega (arith, c.images-test.true, c.vars-k-end.ensures, c.requires.many) in
    let long : length (map (λ t. t.items) c.args.tables.now) ≡ length images = c.requires.tables.many in
    let there : k < length c.args.tables.now = omega (arith, few, long, length-map c.args.tables.now (λ t. t.items)) in
    let t = c.index-tables-k.result in
    let at : get_or (map (λ t. t.items) c.args.tables.now) k [] ≡ t.items = get_or-map (λ t. t.items) c.args.tables.now k t [] there ∙ ap (λ t. t.items) (sym c.index-tables-k.is) in
    let known = c.requires.tables.each k f [] few in
    rw c.deref.ensures.value
    (subst (λ (ps : List (Polynomial ℕ)). ArePowersModulo p v hs f ps) at (subst (λ (x : Polynomial ℕ). ArePowersModulo p v hs x (get_or (map (λ t. t.items) c.args.tables.now) k [])) (sym c.index-images-k.is) known))

pub images-preserved : goal.images-preserved
images-preserved c =
    let o = residue_ops c.args.ring.now.coeffs in
    let images = c.args.images.now in
    let m = c.args.mono.now in
    let few : c.images.k < length images = omega (arith, c.images-test.true, c.vars-k-end.ensures, c.requires.many) in
    block-stands c.args.ring.now.coeffs c.args.ring.now.vars c.args.basis.now (constant o c.args.coefficient) c.images.product c.in_ok-product-2.product images m c.images.k c.index-images-k.result few c.requires.many c.images.invariant
    (rw (← c.exponent.ensures, ← c.index-images-k.is) c.in_ok-product-2.ensures)

pub returns : goal.returns
returns c =
    let images = c.args.images.now in
    let m = c.args.mono.now in
    let past : length m ≤ c.images.k = omega (arith, c.images-test.false, c.vars-k-end.ensures) in
    let past' : length images ≤ c.images.k = omega (arith, past, c.requires.many) in
    let whole : factors (take c.images.k images) (take c.images.k m) ≡ factors images m = ap (λ xs. factors xs (take c.images.k m)) (take_all c.images.k images past') ∙ ap (factors images) (take_all c.images.k m past) in
    rw whole at c.images.invariant
