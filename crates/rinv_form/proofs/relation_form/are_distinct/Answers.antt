use Rattle.std.proofs.Common.{◌≡◌, ◌∙◌, Bool, true, false, not, sym, ap, refl, take_all, arith, map, List, ℕ}
use Rattle.rinv_defs.specs.System.{Poly}
use Rattle.rinv_defs.specs.Format.{are_distinct}
use Rattle.rinv_cert.specs.declared.certificate.Tied.{Tied}
use Rattle.rinv_form.proofs.DistinctLists.{distinct-more, distinct-stop}
use Rattle.rinv_form.proofs.relation_form.are_distinct.Goals as goal

is-there : (new there : Bool) → new ≡ not there → new ≡ false → there ≡ true
is-there new true e h = refl
is-there new false e h = sym h ∙ e

is-not : (new there : Bool) → new ≡ not there → new ≡ true → there ≡ false
is-not new true e h = sym h ∙ e
is-not new false e h = refl

pub terms-init : goal.terms-init
unfolding are_distinct
terms-init c = record { front = rw c.new-earlier.ensures.empty refl; distinct = refl }

pub returns-then-not-is_new : goal.returns-then-not-is_new
returns-then-not-is_new c =
    sym (distinct-stop (λ v. v.items) (λ t. t.0) c.args.count c.args.tail.now c.requires c.terms.k c.index-tail-k.result (omega (arith, c.terms-test.true)) c.index-tail-k.is
    c.in_ok-monomial.monomial (c.in_ok-monomial.ensures.items_if_clones_equal (λ x y h. h) ∙ c.as_slice.ensures ∙ ap (λ (t : List ℕ × Poly × Tied). t.0) c.term.view_is)
    c.terms.earlier.keys c.terms.invariant.front c.terms.invariant.distinct
    (is-there c.in-Ok.is_new _ c.in-Ok.ensures.added c.if-not-is_new.true))

pub terms-preserved : goal.terms-preserved
terms-preserved c =
    let p = distinct-more (λ v. v.items) (λ t. t.0) c.args.count c.args.tail.now c.requires c.terms.k c.index-tail-k.result (omega (arith, c.terms-test.true)) c.index-tail-k.is
    c.in_ok-monomial.monomial (c.in_ok-monomial.ensures.items_if_clones_equal (λ x y h. h) ∙ c.as_slice.ensures ∙ ap (λ (t : List ℕ × Poly × Tied). t.0) c.term.view_is)
    c.terms.earlier.keys c.terms.invariant.front c.terms.invariant.distinct
    (is-not c.in-Ok.is_new _ c.in-Ok.ensures.added c.if-not-is_new.false) c.insert.new.self.keys c.in-Ok.ensures.keys in
    record { front = p.0; distinct = p.1 }

pub returns : goal.returns
returns c = sym (ap (λ (ts : List (List ℕ × Poly × Tied)). are_distinct (map (λ t. t.0) ts)) (sym (take_all c.terms.k c.args.tail.now (omega (arith, c.terms-test.false)))) ∙ c.terms.invariant.distinct)
