use Rattle.std.proofs.Common.{◌≡◌, ◌<◌, ◌∙◌, length, get_or, map, sym, ap, subst, arith}
use Rattle.std.proofs.lemmas.List.{take_all}
use Rattle.rinv_frac.specs.Fractions.{IsPart}
use Rattle.rinv_frac.proofs.Stored.{stored}
use Rattle.rinv_tails.specs.Stored.{IsTailTerm}
use Rattle.rinv_defs.specs.System.{space_count}
use Rattle.rinv_defs.specs.Extended.{Relation}
use Rattle.rinv_acceptance.specs.Denominators.{once}
use Rattle.rinv_certify.proofs.Factors.{once-next}
use Rattle.rinv_certify.proofs.Taken.{holds-at}
use Rattle.rinv_certify.proofs.raising.denominators_once.Goals as goal

pub add_once-requires-clause-polynomial : goal.add_once-requires-clause-polynomial
add_once-requires-clause-polynomial c =
    let s = c.args.system.now.system in
    let x = c.index-tail-k.result in
    let tail : c.as_slice-tail.result.now ≡ c.args.relation.now.tail = c.as_slice-tail.ensures.value ∙ ap (λ (r : Relation). r.tail) c.relation.view_is in
    let inside : c.tail.k < length c.args.relation.now.tail = omega (arith, c.tail-test.true, ap (λ ts. length ts) tail) in
    let t = holds-at (IsTailTerm s.p (space_count s)) c.args.relation.now.tail c.tail.k x c.requires.relation.tail.terms inside (c.index-tail-k.is ∙ ap (λ ts. get_or ts c.tail.k x) tail) in
    subst (IsPart s.p (space_count s)) (sym c.den-den.ensures) (stored s.p (space_count s) x.1 t.fraction).denominator

pub tail-preserved : goal.tail-preserved
tail-preserved c = record {
  normal = c.in_ok-add_once.ensures.normal;
  value = once-next c.args.system.now.system c.as_slice-tail.result.now c.tail.k c.index-tail-k.result c.tail.list.items c.den-den.result.now c.add_once.new.list.items c.tail-test.true c.index-tail-k.is c.tail.invariant.value c.den-den.ensures c.in_ok-add_once.ensures.value;
}

pub returns-clause-value : goal.returns-clause-value
returns-clause-value c =
    let tail : c.as_slice-tail.result.now ≡ c.args.relation.now.tail = c.as_slice-tail.ensures.value ∙ ap (λ (r : Relation). r.tail) c.relation.view_is in
    c.tail.invariant.value ∙ ap (λ ts. once c.args.system.now.system (map (λ t. t.1.1) ts)) (take_all c.tail.k c.as_slice-tail.result.now c.tail-test.false ∙ tail)
