use Rattle.std.proofs.Common.{◌≡◌, ◌<◌, ◌≤◌, ◌∙◌, ◌++◌, ℕ, List, length, get_or, map, take, sym, ap, subst, arith}
use Rattle.std.specs.List.{AllZip}
use Rattle.std.proofs.lemmas.List.{get_or-map, length-map, take_all}
use Rattle.std.proofs.lemmas.Result.{err_from_is_err_and}
use Rattle.rinv_frac.specs.Fractions.{IsStored}
use Rattle.rinv_tails.specs.Stored.{IsTailTerm}
use Rattle.rinv_defs.specs.Invariant.{Fraction}
use Rattle.rinv_defs.specs.Extended.{FractionPoly, Relation}
use Rattle.rinv_coefficients.specs.Coefficients.{new_values}
use Rattle.rinv_gens.specs.Symbols.{tied_of}
use Rattle.rinv_gens.proofs.Tied.{IsTiedTerm, terms-more}
use Rattle.rinv_gens.proofs.Walks.{all-with, new-none, walk-meets, walk-more, with-more}
use Rattle.rinv_gens.proofs.tying.tied.Goals as goal

-- a term at its place, and its coefficient among the coefficients
at-coefficient : (tail : FractionPoly) (k : ℕ) (x : List ℕ × Fraction) → k < length tail → x ≡ get_or tail k x → x.1 ≡ get_or (map (λ t. t.1) tail) k x.1
at-coefficient tail k x few at = ap (λ (t : List ℕ × Fraction). t.1) at ∙ sym (get_or-map (λ t. t.1) tail k x x.1 few)

pub terms-init : goal.terms-init
terms-init c = rw c.in_ok-tail.ensures.items (record { fractions = new-none c.args.field.now.base.coeffs c.args.fractions.now.items; stored = c.requires.earlier; ties = tt })

pub symbol_of-requires-clause-fraction : goal.symbol_of-requires-clause-fraction
symbol_of-requires-clause-fraction c =
    let x = c.index.result.now in
    let tail : c.relation.inside.tail.items ≡ c.args.relation.now.tail = ap (λ (q : Relation). q.tail) c.relation.view_is in
    let at : x ≡ get_or c.args.relation.now.tail c.terms.k x = subst (λ (ts : FractionPoly). x ≡ get_or ts c.terms.k x) tail c.index.ensures in
    let few : c.terms.k < length c.args.relation.now.tail = omega (arith, c.terms-test.true, c.len-k-end.ensures, ap (λ (ts : FractionPoly). length ts) tail) in
    (subst (IsTailTerm c.args.field.now.base.coeffs c.args.field.now.base.vars) (sym at) (c.requires.relation.tail.terms c.terms.k x few)).fraction

pub symbol_of-requires-clause-earlier : goal.symbol_of-requires-clause-earlier
symbol_of-requires-clause-earlier c = c.terms.invariant.stored

pub returns-in_err-symbol-clause-degree : goal.returns-in_err-symbol-clause-degree
returns-in_err-symbol-clause-degree c =
    let x = c.index.result.now in
    let list = map (λ (t : List ℕ × Fraction). t.1) c.args.relation.now.tail in
    let tail : c.relation.inside.tail.items ≡ c.args.relation.now.tail = ap (λ (q : Relation). q.tail) c.relation.view_is in
    let at : x ≡ get_or c.args.relation.now.tail c.terms.k x = subst (λ (ts : FractionPoly). x ≡ get_or ts c.terms.k x) tail c.index.ensures in
    let few : c.terms.k < length c.args.relation.now.tail = omega (arith, c.terms-test.true, c.len-k-end.ensures, ap (λ (ts : FractionPoly). length ts) tail) in
    let within : c.terms.k < length list = omega (arith, few, length-map c.args.relation.now.tail (λ t. t.1)) in
    let q = err_from_is_err_and c.from_residual-in_err-symbol.result c.from_residual-in_err-symbol.ensures.1 in
    rw (q.1, q.2) (walk-meets c.args.field.now.base.coeffs c.args.fractions.now.items list c.terms.k x.1 c.terms.fractions.items within (at-coefficient c.args.relation.now.tail c.terms.k x few at) c.terms.invariant.fractions
    c.in_err-symbol.field-0.0 c.in_err-symbol.ensures.degree)

pub terms-preserved : goal.terms-preserved
terms-preserved c =
    let p = c.args.field.now.base.coeffs in
    let x = c.index.result.now in
    let k = c.terms.k in
    let first = c.args.fractions.now.items in
    let so_far = c.terms.fractions.items in
    let next = c.symbol_of.new.fractions.items in
    let list = map (λ (t : List ℕ × Fraction). t.1) c.args.relation.now.tail in
    let tail : c.relation.inside.tail.items ≡ c.args.relation.now.tail = ap (λ (q : Relation). q.tail) c.relation.view_is in
    let at : x ≡ get_or c.args.relation.now.tail k x = subst (λ (ts : FractionPoly). x ≡ get_or ts k x) tail c.index.ensures in
    let few : k < length c.args.relation.now.tail = omega (arith, c.terms-test.true, c.len-k-end.ensures, ap (λ (ts : FractionPoly). length ts) tail) in
    let within : k < length list = omega (arith, few, length-map c.args.relation.now.tail (λ t. t.1)) in
    let own = (subst (IsTailTerm p c.args.field.now.base.vars) (sym at) (c.requires.relation.tail.terms k x few)).fraction in
    let grown : (ds : List Fraction) × (next ≡ so_far ++ ds) = let m = with-more p so_far x.1 in (m.0, c.in_ok-symbol.ensures.fractions ∙ m.1) in
    rw c.in_ok-push.ensures.items (record {
      fractions = walk-more p first list k x.1 so_far next within (at-coefficient c.args.relation.now.tail k x few at) c.terms.invariant.fractions c.in_ok-symbol.ensures.fractions;
      stored = rw c.in_ok-symbol.ensures.fractions (all-with p (IsStored p c.args.field.now.base.vars) so_far x.1 c.terms.invariant.stored own);
      ties = terms-more p (λ t. (t.0, tied_of t.1)) so_far next c.args.relation.now.tail k x c.terms.tail.items (c.in_ok-exponents.exponents, c.in_ok-symbol.symbol) grown few at c.terms.invariant.ties (c.in_ok-exponents.ensures, c.in_ok-symbol.ensures.tied);
    })

pub returns-clause-fractions : goal.returns-clause-fractions
returns-clause-fractions c =
    let p = c.args.field.now.base.coeffs in
    let first = c.args.fractions.now.items in
    let list = map (λ (t : List ℕ × Fraction). t.1) c.args.relation.now.tail in
    let tail : c.relation.inside.tail.items ≡ c.args.relation.now.tail = ap (λ (q : Relation). q.tail) c.relation.view_is in
    let whole : length list ≤ c.terms.k = omega (arith, c.terms-test.false, c.len-k-end.ensures, ap (λ (ts : FractionPoly). length ts) tail, length-map c.args.relation.now.tail (λ t. t.1)) in
    subst (λ (ds : List Fraction). c.terms.fractions.items ≡ first ++ new_values p first ds) (take_all c.terms.k list whole) c.terms.invariant.fractions

pub returns-clause-stored : goal.returns-clause-stored
returns-clause-stored c = c.terms.invariant.stored

pub returns-clause-ties : goal.returns-clause-ties
returns-clause-ties c =
    let p = c.args.field.now.base.coeffs in
    let tail : c.relation.inside.tail.items ≡ c.args.relation.now.tail = ap (λ (q : Relation). q.tail) c.relation.view_is in
    let whole : length c.args.relation.now.tail ≤ c.terms.k = omega (arith, c.terms-test.false, c.len-k-end.ensures, ap (λ (ts : FractionPoly). length ts) tail) in
    record {
      lead = c.in_ok-lead.ensures ∙ ap (λ (q : Relation). q.lead) c.relation.view_is;
      tail = subst (λ (ts : FractionPoly). AllZip (IsTiedTerm p c.terms.fractions.items) (map (λ t. (t.0, tied_of t.1)) c.terms.tail.items) ts) (take_all c.terms.k c.args.relation.now.tail whole) c.terms.invariant.ties;
    }
