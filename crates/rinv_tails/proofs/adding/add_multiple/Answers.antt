use Rattle.std.proofs.Common.{◌≡◌, ◌∙◌, ◌<◌, ℕ, List, length, get_or, sym, subst, ap, arith}
use Rattle.std.proofs.lemmas.Result.{err_from_is_err_and}
use Rattle.rinv_algebra.specs.Monomial.{monomial_product, quotient, total_degree}
use Rattle.rinv_defs.specs.Extended.{Relation}
use Rattle.rinv_tails.specs.Stored.{IsTailTerm}
use Rattle.rinv_tails.proofs.Multiples.{factor-at, adding-start, adding-more, adding-all, product-meets, sum-meets, product-term, product-length}
use Rattle.rinv_tails.proofs.adding.add_multiple.Goals as goal

pub terms-init : goal.terms-init
terms-init c =
    let field = c.args.field.now.base in
    adding-start field.coeffs field.vars (quotient c.args.mono.now c.args.by.now.lead) c.args.c.now c.args.mono.now c.args.tail.now.items c.args.by.now.tail c.requires.tail c.requires.below

pub mul-requires-clause-right : goal.mul-requires-clause-right
mul-requires-clause-right c =
    let field = c.args.field.now.base in
    let m = c.args.mono.now in
    let r = c.args.by.now in
    let t = c.index.result.now in
    let long = ap (λ (r : Relation). length r.tail) c.by.view_is in
    let low : c.terms.k < length r.tail = omega (arith, c.terms-test.true, c.len-k-end.ensures, long) in
    let here : t ≡ get_or r.tail c.terms.k t = c.index.ensures ∙ ap (λ (r : Relation). get_or r.tail c.terms.k t) c.by.view_is in
    let factor = factor-at field.coeffs field.vars m r c.terms.k t c.requires.term.vars c.requires.term.low c.requires.relation c.requires.divides low here in
    factor.term.fraction

pub product-requires-clause-vars : goal.product-requires-clause-vars
product-requires-clause-vars c =
    let field = c.args.field.now.base in
    let m = c.args.mono.now in
    let r = c.args.by.now in
    let t = c.index.result.now in
    let long = ap (λ (r : Relation). length r.tail) c.by.view_is in
    let low : c.terms.k < length r.tail = omega (arith, c.terms-test.true, c.len-k-end.ensures, long) in
    let here : t ≡ get_or r.tail c.terms.k t = c.index.ensures ∙ ap (λ (r : Relation). get_or r.tail c.terms.k t) c.by.view_is in
    let factor = factor-at field.coeffs field.vars m r c.terms.k t c.requires.term.vars c.requires.term.low c.requires.relation c.requires.divides low here in
    c.in_ok-multiplier.ensures.vars ∙ c.requires.term.vars ∙ sym factor.term.vars

pub product-requires-clause-low : goal.product-requires-clause-low
product-requires-clause-low c =
    let field = c.args.field.now.base in
    let m = c.args.mono.now in
    let r = c.args.by.now in
    let t = c.index.result.now in
    let long = ap (λ (r : Relation). length r.tail) c.by.view_is in
    let low : c.terms.k < length r.tail = omega (arith, c.terms-test.true, c.len-k-end.ensures, long) in
    let here : t ≡ get_or r.tail c.terms.k t = c.index.ensures ∙ ap (λ (r : Relation). get_or r.tail c.terms.k t) c.by.view_is in
    let factor = factor-at field.coeffs field.vars m r c.terms.k t c.requires.term.vars c.requires.term.low c.requires.relation c.requires.divides low here in
    let q = quotient m r.lead in
    let is : c.in_ok-multiplier.multiplier ≡ q = c.in_ok-multiplier.ensures.value ∙ ap (λ (r : Relation). quotient m r.lead) c.by.view_is in
    let e = ap (λ (x : List ℕ). total_degree x) is in
    omega (arith, factor.low, e)

pub add_term-requires-clause-term : goal.add_term-requires-clause-term
add_term-requires-clause-term c =
    let field = c.args.field.now.base in
    let m = c.args.mono.now in
    let r = c.args.by.now in
    let t = c.index.result.now in
    let long = ap (λ (r : Relation). length r.tail) c.by.view_is in
    let low : c.terms.k < length r.tail = omega (arith, c.terms-test.true, c.len-k-end.ensures, long) in
    let here : t ≡ get_or r.tail c.terms.k t = c.index.ensures ∙ ap (λ (r : Relation). get_or r.tail c.terms.k t) c.by.view_is in
    let factor = factor-at field.coeffs field.vars m r c.terms.k t c.requires.term.vars c.requires.term.low c.requires.relation c.requires.divides low here in
    let q = quotient m r.lead in
    let is : c.in_ok-multiplier.multiplier ≡ q = c.in_ok-multiplier.ensures.value ∙ ap (λ (r : Relation). quotient m r.lead) c.by.view_is in
    let at : c.in_ok-at.at ≡ monomial_product q t.0 = c.in_ok-at.ensures ∙ ap (λ (x : List ℕ). monomial_product x t.0) is in
    let many : length q ≡ field.vars = sym (ap (λ (x : List ℕ). length x) is) ∙ c.in_ok-multiplier.ensures.vars ∙ c.requires.term.vars in
    subst (λ (x : List ℕ). IsTailTerm field.coeffs field.vars (x, c.in_ok-multiple.multiple)) (sym at)
    (product-term field.coeffs field.vars m q c.args.c.now c.in_ok-multiple.multiple t c.requires.term factor.term many factor.low (product-length field.vars q t.0 many factor.term.vars) c.in_ok-multiple.ensures.element c.in_ok-multiple.ensures.made)

pub add_term-requires-clause-tail : goal.add_term-requires-clause-tail
add_term-requires-clause-tail c = c.terms.invariant.tail

pub terms-preserved : goal.terms-preserved
terms-preserved c =
    let field = c.args.field.now.base in
    let m = c.args.mono.now in
    let r = c.args.by.now in
    let t = c.index.result.now in
    let long = ap (λ (r : Relation). length r.tail) c.by.view_is in
    let low : c.terms.k < length r.tail = omega (arith, c.terms-test.true, c.len-k-end.ensures, long) in
    let here : t ≡ get_or r.tail c.terms.k t = c.index.ensures ∙ ap (λ (r : Relation). get_or r.tail c.terms.k t) c.by.view_is in
    let factor = factor-at field.coeffs field.vars m r c.terms.k t c.requires.term.vars c.requires.term.low c.requires.relation c.requires.divides low here in
    let q = quotient m r.lead in
    let is : c.in_ok-multiplier.multiplier ≡ q = c.in_ok-multiplier.ensures.value ∙ ap (λ (r : Relation). quotient m r.lead) c.by.view_is in
    let at : c.in_ok-at.at ≡ monomial_product q t.0 = c.in_ok-at.ensures ∙ ap (λ (x : List ℕ). monomial_product x t.0) is in
    adding-more field.coeffs field.vars q c.args.c.now m c.args.tail.now.items r.tail c.terms.k c.terms.tail.items c.add_term.new.tail.items t c.in_ok-multiple.multiple c.in_ok-at.at c.terms.invariant low here c.in_ok-multiple.ensures.made at factor.below c.in_ok-add_term.ensures.added.added c.in_ok-add_term.ensures.added.tail

pub returns-in_err-multiple-clause-degree : goal.returns-in_err-multiple-clause-degree
returns-in_err-multiple-clause-degree c =
    let field = c.args.field.now.base in
    let m = c.args.mono.now in
    let r = c.args.by.now in
    let t = c.index.result.now in
    let long = ap (λ (r : Relation). length r.tail) c.by.view_is in
    let low : c.terms.k < length r.tail = omega (arith, c.terms-test.true, c.len-k-end.ensures, long) in
    let here : t ≡ get_or r.tail c.terms.k t = c.index.ensures ∙ ap (λ (r : Relation). get_or r.tail c.terms.k t) c.by.view_is in
    let factor = factor-at field.coeffs field.vars m r c.terms.k t c.requires.term.vars c.requires.term.low c.requires.relation c.requires.divides low here in
    let q = quotient m r.lead in
    let is : c.in_ok-multiplier.multiplier ≡ q = c.in_ok-multiplier.ensures.value ∙ ap (λ (r : Relation). quotient m r.lead) c.by.view_is in
    let p = err_from_is_err_and c.from_residual-in_err-multiple.result c.from_residual-in_err-multiple.ensures.1 in
    rw (p.1, p.2) (product-meets field.coeffs field.vars q c.args.c.now m c.args.tail.now.items r.tail c.terms.k c.terms.tail.items t c.terms.invariant low here c.in_err-multiple.field-0.0 c.in_err-multiple.ensures.degree)

pub returns-in_err-add_term-clause-degree : goal.returns-in_err-add_term-clause-degree
returns-in_err-add_term-clause-degree c =
    let field = c.args.field.now.base in
    let m = c.args.mono.now in
    let r = c.args.by.now in
    let t = c.index.result.now in
    let long = ap (λ (r : Relation). length r.tail) c.by.view_is in
    let low : c.terms.k < length r.tail = omega (arith, c.terms-test.true, c.len-k-end.ensures, long) in
    let here : t ≡ get_or r.tail c.terms.k t = c.index.ensures ∙ ap (λ (r : Relation). get_or r.tail c.terms.k t) c.by.view_is in
    let factor = factor-at field.coeffs field.vars m r c.terms.k t c.requires.term.vars c.requires.term.low c.requires.relation c.requires.divides low here in
    let q = quotient m r.lead in
    let is : c.in_ok-multiplier.multiplier ≡ q = c.in_ok-multiplier.ensures.value ∙ ap (λ (r : Relation). quotient m r.lead) c.by.view_is in
    let at : c.in_ok-at.at ≡ monomial_product q t.0 = c.in_ok-at.ensures ∙ ap (λ (x : List ℕ). monomial_product x t.0) is in
    let p = err_from_is_err_and c.from_residual-in_err-add_term.result c.from_residual-in_err-add_term.ensures.1 in
    rw (p.1, p.2) (sum-meets field.coeffs field.vars q c.args.c.now m c.args.tail.now.items r.tail c.terms.k c.terms.tail.items t c.terms.invariant low here c.in_ok-at.at c.in_ok-multiple.multiple at c.in_ok-multiple.ensures.made c.in_err-add_term.field-0.0 c.in_err-add_term.ensures.degree)

pub returns-clause-added : goal.returns-clause-added
returns-clause-added c =
    let field = c.args.field.now.base in
    let long = ap (λ (r : Relation). length r.tail) c.by.view_is in
    adding-all field.coeffs field.vars (quotient c.args.mono.now c.args.by.now.lead) c.args.c.now c.args.mono.now c.args.tail.now.items c.args.by.now.tail c.terms.k c.terms.tail.items (omega (arith, c.terms-test.false, c.len-k-end.ensures, long)) c.terms.invariant

pub returns-clause-tail : goal.returns-clause-tail
returns-clause-tail c = c.terms.invariant.tail

pub returns-clause-below : goal.returns-clause-below
returns-clause-below c = c.terms.invariant.below
