use Rattle.std.proofs.Common.{◌≡◌, List, [], ◌∷◌, length, map, arith}
use Rattle.std.proofs.lemmas.List.{map-append}
use Rattle.std.proofs.lemmas.Result.{err_from_is_err_and}
use Rattle.rinv_defs.specs.System.{Poly}
use Rattle.rinv_defs.specs.Laws.{parts}
use Rattle.rinv_parts.specs.LawNames.{law_of}
use Rattle.rinv_laws.proofs.TestedLaws.{stops-at, tested-holds, tested-more, tested-none, tested-quotients}
use Rattle.rinv_laws.proofs.testing.test_parts.Goals as goal

pub parts-init : goal.parts-init
parts-init c = rw c.new-lists.ensures.items (tested-none c.args.system.now.system c.args.group.now.basis (law_of c.args.own.now.law))

pub parts-preserved : goal.parts-preserved
parts-preserved c =
    let seen : List (List Poly) = map (λ qs. qs.items) c.parts.lists.items in
    let qs : List Poly = c.in_ok-quotients.quotients.items in
    rw (c.in_ok-push.ensures.items, map-append (λ qs. qs.items) c.parts.lists.items (c.in_ok-quotients.quotients ∷ []))
    (tested-more c.args.system.now.system c.args.group.now.basis (law_of c.args.own.now.law) c.parts.place seen qs c.parts.invariant c.in_ok-quotients.ensures.holds c.in_ok-quotients.ensures.normal c.in_ok-quotients.ensures.zero)

pub test_part-requires-clause-inside : goal.test_part-requires-clause-inside
test_part-requires-clause-inside c = omega (arith, c.parts-test.true, c.part_count-place-end.ensures)

pub returns-in_err-quotients-clause-stop : goal.returns-in_err-quotients-clause-stop
returns-in_err-quotients-clause-stop c =
    let q = err_from_is_err_and c.from_residual.result c.from_residual.ensures.1 in
    rw (q.1, q.2) (stops-at c.args.system.now.system c.args.group.now.basis (law_of c.args.own.now.law) c.parts.place (map (λ qs. qs.items) c.parts.lists.items) c.parts.invariant c.requires.before
    (omega (arith, c.parts-test.true, c.part_count-place-end.ensures)) c.in_err-quotients.field-0.0 c.in_err-quotients.ensures.stop)

pub returns-clause-holds : goal.returns-clause-holds
returns-clause-holds c =
    let s = c.args.system.now.system in
    let law = law_of c.args.own.now.law in
    let whole : c.parts.place ≡ length (parts s law) = omega (arith, c.parts-test.false, c.parts.auto.place-end, c.part_count-place-end.ensures) in
    tested-holds s c.args.group.now.basis law c.parts.place (map (λ qs. qs.items) c.parts.lists.items) c.parts.invariant whole

pub returns-clause-quotients : goal.returns-clause-quotients
returns-clause-quotients c =
    let s = c.args.system.now.system in
    let law = law_of c.args.own.now.law in
    let whole : c.parts.place ≡ length (parts s law) = omega (arith, c.parts-test.false, c.parts.auto.place-end, c.part_count-place-end.ensures) in
    tested-quotients s c.args.group.now.basis law c.parts.place (map (λ qs. qs.items) c.parts.lists.items) c.parts.invariant whole
