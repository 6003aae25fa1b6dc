use Rattle.std.proofs.Common.{◌≡◌, ◌∙◌, ◌∷◌, ◌<◌, length, get_or, sym, subst, arith}
use Rattle.std.proofs.lemmas.List.{get_or_default}
use Rattle.std.proofs.lemmas.Result.{err_from_is_err_and}
use Rattle.rinv_algebra.specs.Monomial.{quotient}
use Rattle.rinv_ring.specs.Fault.{DegreesMeet}
use Rattle.rinv_defs.specs.Extended.{Relation}
use Rattle.rinv_tails.specs.Stored.{none}
use Rattle.rinv_tails.specs.Reducing.{AreAdded, MultipleMeets}
use Rattle.rinv_tails.proofs.Steps.{IsReducing, reducing-start, taken-first, term-falls, front-term, front-left, front-below, settled, replaced, step-meets, reducing-end, whole-steps, whole-tail, whole-below}
use Rattle.rinv_tails.proofs.reducing.reduced_tail.Goals as goal

pub terms-init : goal.terms-init
terms-init c = reducing-start c.args.field.now.base.coeffs c.args.field.now.base.vars c.args.by.now c.args.tail.items c.new-done.result.items c.new-done.ensures.items c.requires.tail

pub first_divisor-requires : goal.first_divisor-requires
first_divisor-requires c =
    let field = c.args.field.now.base in
    let t = c.remove-mono.result in
    let next = c.remove-mono.new.self.items in
    let first : c.terms.left.items ≡ t ∷ next = taken-first c.terms.left.items next t (omega (arith, c.terms-test.true, c.len.ensures, c.terms.left.ok.0)) c.remove-mono.ensures.value c.remove-mono.ensures.items in
    let h = subst (IsReducing field.coeffs field.vars c.args.by.now c.args.tail.items c.terms.done.items) first c.terms.invariant in
    let term = front-term field.coeffs field.vars c.args.by.now c.args.tail.items c.terms.done.items next t h in
    λ k d low. (c.requires.relations k d low).vars ∙ sym term.vars

pub terms-preserved-in_default : goal.terms-preserved-in_default
terms-preserved-in_default c =
    let field = c.args.field.now.base in
    let t = c.remove-mono.result in
    let next = c.remove-mono.new.self.items in
    let first : c.terms.left.items ≡ t ∷ next = taken-first c.terms.left.items next t (omega (arith, c.terms-test.true, c.len.ensures, c.terms.left.ok.0)) c.remove-mono.ensures.value c.remove-mono.ensures.items in
    let h = subst (IsReducing field.coeffs field.vars c.args.by.now c.args.tail.items c.terms.done.items) first c.terms.invariant in
    settled field.coeffs field.vars c.args.by.now c.args.tail.items c.terms.done.items next t h c.push.new.self.items c.in_ok-push.ensures.items (rw c.in_default.is at c.first_divisor.ensures.none)

pub terms-smaller-in_default : goal.terms-smaller-in_default
terms-smaller-in_default c =
    let field = c.args.field.now.base in
    let t = c.remove-mono.result in
    let next = c.remove-mono.new.self.items in
    let first : c.terms.left.items ≡ t ∷ next = taken-first c.terms.left.items next t (omega (arith, c.terms-test.true, c.len.ensures, c.terms.left.ok.0)) c.remove-mono.ensures.value c.remove-mono.ensures.items in
    let h = subst (IsReducing field.coeffs field.vars c.args.by.now c.args.tail.items c.terms.done.items) first c.terms.invariant in
    term-falls field.coeffs field.vars t next c.terms.left.items next first (front-term field.coeffs field.vars c.args.by.now c.args.tail.items c.terms.done.items next t h) (front-below field.coeffs field.vars c.args.by.now c.args.tail.items c.terms.done.items next t h)

pub add_multiple-requires-clause-term : goal.add_multiple-requires-clause-term
add_multiple-requires-clause-term c =
    let field = c.args.field.now.base in
    let t = c.remove-mono.result in
    let next = c.remove-mono.new.self.items in
    let first : c.terms.left.items ≡ t ∷ next = taken-first c.terms.left.items next t (omega (arith, c.terms-test.true, c.len.ensures, c.terms.left.ok.0)) c.remove-mono.ensures.value c.remove-mono.ensures.items in
    let h = subst (IsReducing field.coeffs field.vars c.args.by.now c.args.tail.items c.terms.done.items) first c.terms.invariant in
    front-term field.coeffs field.vars c.args.by.now c.args.tail.items c.terms.done.items next t h

pub add_multiple-requires-clause-tail : goal.add_multiple-requires-clause-tail
add_multiple-requires-clause-tail c =
    let field = c.args.field.now.base in
    let t = c.remove-mono.result in
    let next = c.remove-mono.new.self.items in
    let first : c.terms.left.items ≡ t ∷ next = taken-first c.terms.left.items next t (omega (arith, c.terms-test.true, c.len.ensures, c.terms.left.ok.0)) c.remove-mono.ensures.value c.remove-mono.ensures.items in
    let h = subst (IsReducing field.coeffs field.vars c.args.by.now c.args.tail.items c.terms.done.items) first c.terms.invariant in
    front-left field.coeffs field.vars c.args.by.now c.args.tail.items c.terms.done.items next t h

pub add_multiple-requires-clause-below : goal.add_multiple-requires-clause-below
add_multiple-requires-clause-below c =
    let field = c.args.field.now.base in
    let t = c.remove-mono.result in
    let next = c.remove-mono.new.self.items in
    let first : c.terms.left.items ≡ t ∷ next = taken-first c.terms.left.items next t (omega (arith, c.terms-test.true, c.len.ensures, c.terms.left.ok.0)) c.remove-mono.ensures.value c.remove-mono.ensures.items in
    let h = subst (IsReducing field.coeffs field.vars c.args.by.now c.args.tail.items c.terms.done.items) first c.terms.invariant in
    front-below field.coeffs field.vars c.args.by.now c.args.tail.items c.terms.done.items next t h

pub terms-preserved : goal.terms-preserved
terms-preserved c =
    let field = c.args.field.now.base in
    let t = c.remove-mono.result in
    let next = c.remove-mono.new.self.items in
    let first : c.terms.left.items ≡ t ∷ next = taken-first c.terms.left.items next t (omega (arith, c.terms-test.true, c.len.ensures, c.terms.left.ok.0)) c.remove-mono.ensures.value c.remove-mono.ensures.items in
    let h = subst (IsReducing field.coeffs field.vars c.args.by.now c.args.tail.items c.terms.done.items) first c.terms.invariant in
    let place = c.in-Some.place in
    let inside : place < length c.args.by.now = c.in-Some.ensures.inside in
    let same : c.index-by-place.result ≡ get_or c.args.by.now place none = c.index-by-place.is ∙ get_or_default c.args.by.now place c.index-by-place.result none inside in
    let good = c.requires.relations place none inside in
    let made = c.in_ok-add_multiple.ensures in
    let new = c.add_multiple.new.tail.items in
    let added = subst (λ (r : Relation). AreAdded field.coeffs field.vars (quotient t.0 r.lead) t.1 next r.tail new) same made.added in
    replaced field.coeffs field.vars c.args.by.now c.args.tail.items c.terms.done.items next t h place inside c.in-Some.ensures.divides c.in-Some.ensures.first good new added made.tail made.below

pub terms-smaller : goal.terms-smaller
terms-smaller c =
    let field = c.args.field.now.base in
    let t = c.remove-mono.result in
    let next = c.remove-mono.new.self.items in
    let first : c.terms.left.items ≡ t ∷ next = taken-first c.terms.left.items next t (omega (arith, c.terms-test.true, c.len.ensures, c.terms.left.ok.0)) c.remove-mono.ensures.value c.remove-mono.ensures.items in
    let h = subst (IsReducing field.coeffs field.vars c.args.by.now c.args.tail.items c.terms.done.items) first c.terms.invariant in
    term-falls field.coeffs field.vars t next c.terms.left.items c.add_multiple.new.tail.items first (front-term field.coeffs field.vars c.args.by.now c.args.tail.items c.terms.done.items next t h) c.in_ok-add_multiple.ensures.below

pub returns-in_err-add_multiple-clause-degree : goal.returns-in_err-add_multiple-clause-degree
returns-in_err-add_multiple-clause-degree c =
    let field = c.args.field.now.base in
    let t = c.remove-mono.result in
    let next = c.remove-mono.new.self.items in
    let first : c.terms.left.items ≡ t ∷ next = taken-first c.terms.left.items next t (omega (arith, c.terms-test.true, c.len.ensures, c.terms.left.ok.0)) c.remove-mono.ensures.value c.remove-mono.ensures.items in
    let h = subst (IsReducing field.coeffs field.vars c.args.by.now c.args.tail.items c.terms.done.items) first c.terms.invariant in
    let place = c.in-Some.place in
    let inside : place < length c.args.by.now = c.in-Some.ensures.inside in
    let same : c.index-by-place.result ≡ get_or c.args.by.now place none = c.index-by-place.is ∙ get_or_default c.args.by.now place c.index-by-place.result none inside in
    let good = c.requires.relations place none inside in
    let fault = c.in_err-add_multiple.field-0.0 in
    let meets = subst (λ (r : Relation). DegreesMeet (MultipleMeets field.coeffs field.vars (quotient t.0 r.lead) t.1 r.tail next) fault) same c.in_err-add_multiple.ensures.degree in
    let q = err_from_is_err_and c.from_residual-in_err-add_multiple.result c.from_residual-in_err-add_multiple.ensures.1 in
    rw (q.1, q.2) (step-meets field.coeffs field.vars c.args.by.now c.args.tail.items c.terms.done.items next t h place inside c.in-Some.ensures.divides c.in-Some.ensures.first good fault meets)

pub returns-clause-steps : goal.returns-clause-steps
returns-clause-steps c =
    let field = c.args.field.now.base in
    let end = reducing-end field.coeffs field.vars c.args.by.now c.args.tail.items c.terms.done.items c.terms.left.items (omega (arith, c.terms-test.false, c.len.ensures, c.terms.left.ok.0)) c.terms.invariant in
    whole-steps field.coeffs field.vars c.args.by.now c.args.tail.items c.terms.done.items end

pub returns-clause-irreducible : goal.returns-clause-irreducible
returns-clause-irreducible c = c.terms.invariant.irreducible

pub returns-clause-tail : goal.returns-clause-tail
returns-clause-tail c =
    let field = c.args.field.now.base in
    let end = reducing-end field.coeffs field.vars c.args.by.now c.args.tail.items c.terms.done.items c.terms.left.items (omega (arith, c.terms-test.false, c.len.ensures, c.terms.left.ok.0)) c.terms.invariant in
    whole-tail field.coeffs field.vars c.args.by.now c.args.tail.items c.terms.done.items end

pub returns-clause-below : goal.returns-clause-below
returns-clause-below c =
    let field = c.args.field.now.base in
    let end = reducing-end field.coeffs field.vars c.args.by.now c.args.tail.items c.terms.done.items c.terms.left.items (omega (arith, c.terms-test.false, c.len.ensures, c.terms.left.ok.0)) c.terms.invariant in
    whole-below field.coeffs field.vars c.args.by.now c.args.tail.items c.terms.done.items end
