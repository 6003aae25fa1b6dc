use Rattle.std.proofs.Common.{◌≡◌, ◌<◌, ◌∙◌, ◌∷◌, [], ℕ, List, map, length, get_or, All, sym, ap, subst, subst₂, arith}
use Rattle.std.proofs.lemmas.List.{map-append}
use Rattle.rinv_text.specs.Told.{Told}
use Rattle.rinv_defs.specs.System.{Poly}
use Rattle.rinv_laws.specs.declared.group.GroupBasis.{GroupBasis}
use Rattle.rinv_parts.specs.declared.law.LawName.TheVariants.{L1}
use Rattle.rinv_parts.specs.LawNames.{law_of, rank}
use Rattle.rinv_parts.proofs.Stored.{normal-over as over}
use Rattle.rinv_laws.proofs.GroupCopies.{polys-nonzero, nonzero-over, kept-over}
use Rattle.rinv_laws.proofs.LawsInTurn.{names, rank-listed, TestedUpTo, tested-none, tested-more, tested-hold, tested-all}
use Rattle.rinv_laws.proofs.testing.test_laws.Goals as goal

pub kept_places-requires-clause-polys : goal.kept_places-requires-clause-polys
kept_places-requires-clause-polys c =
    let s = c.args.system.now.system in
    over c.new-ring.result.coeffs s.p c.new-ring.result.vars (length s.group) c.deref.result.now c.args.group.now.basis.polys
    (c.new-ring.ensures.ring ∙ ap (λ (t : Told). t.system.p) c.system.view_is)
    (c.new-ring.ensures.count ∙ c.len.ensures.len ∙ ap (λ (t : Told). length t.system.group) c.system.view_is)
    (c.deref.ensures.value ∙ ap (λ (g : GroupBasis). g.basis.polys) c.group.view_is) c.requires.group.normal

pub kept_places-requires-clause-nonzero : goal.kept_places-requires-clause-nonzero
kept_places-requires-clause-nonzero c =
    let s = c.args.system.now.system in
    nonzero-over c.new-ring.result.coeffs s.p c.deref.result.now c.args.group.now.basis.polys
    (c.new-ring.ensures.ring ∙ ap (λ (t : Told). t.system.p) c.system.view_is)
    (c.deref.ensures.value ∙ ap (λ (g : GroupBasis). g.basis.polys) c.group.view_is)
    (polys-nonzero s c.args.group.now.basis c.args.group.now.reduced.items c.requires.system c.requires.group)

pub laws-init : goal.laws-init
laws-init c = rw c.new-lists.ensures.items (tested-none c.args.system.now.system c.args.group.now.basis)

pub laws-preserved : goal.laws-preserved
laws-preserved c =
    let s = c.args.system.now.system in
    let found = c.args.group.now.basis in
    rw (c.in_ok-push.ensures.items, map-append (λ parts. map (λ qs. qs.items) parts.items) c.laws.lists.items (c.in_ok-quotients.quotients ∷ []))
    (tested-more s found c.laws.k (map (λ parts. map (λ qs. qs.items) parts.items) c.laws.lists.items) (law_of (get_or names c.laws.k L1)) (map (λ qs. qs.items) c.in_ok-quotients.quotients.items)
    (rank-listed c.laws.k c.laws-test.true) c.laws.invariant c.in_ok-quotients.ensures.holds c.in_ok-quotients.ensures.quotients)

pub test_law-requires-clause-inside : goal.test_law-requires-clause-inside
test_law-requires-clause-inside c =
    let polys : c.deref.result.now ≡ c.args.group.now.basis.polys = c.deref.ensures.value ∙ ap (λ (g : GroupBasis). g.basis.polys) c.group.view_is in
    subst₂ (λ (ks : List ℕ) (fs : List Poly). All (λ k. k < length fs) ks) (sym c.deref-in-laws.ensures.value) polys c.in_ok-places.ensures.inside

pub test_law-requires-clause-kept : goal.test_law-requires-clause-kept
test_law-requires-clause-kept c =
    kept-over c.new-ring.result.coeffs c.args.system.now.system.p c.deref.result.now c.args.group.now.basis.polys c.in_ok-places.places.items c.deref-in-laws.result.now
    (c.new-ring.ensures.ring ∙ ap (λ (t : Told). t.system.p) c.system.view_is)
    (c.deref.ensures.value ∙ ap (λ (g : GroupBasis). g.basis.polys) c.group.view_is)
    c.deref-in-laws.ensures.value c.in_ok-places.ensures.kept

pub test_law-requires-clause-before : goal.test_law-requires-clause-before
test_law-requires-clause-before c = λ other low. c.laws.invariant.hold other (subst (λ (n : ℕ). rank other < n) (rank-listed c.laws.k c.laws-test.true) low)

pub returns-clause-hold : goal.returns-clause-hold
returns-clause-hold c =
    let s = c.args.system.now.system in
    let found = c.args.group.now.basis in
    let whole : c.laws.k ≡ 8 = omega (arith, c.laws-test.false, c.laws.auto.k-end) in
    let lists : List (List (List Poly)) = map (λ parts. map (λ qs. qs.items) parts.items) c.laws.lists.items in
    tested-hold s found lists (subst (λ (k : ℕ). TestedUpTo s found k lists) whole c.laws.invariant)

pub returns-clause-quotients : goal.returns-clause-quotients
returns-clause-quotients c =
    let s = c.args.system.now.system in
    let found = c.args.group.now.basis in
    let whole : c.laws.k ≡ 8 = omega (arith, c.laws-test.false, c.laws.auto.k-end) in
    let lists : List (List (List Poly)) = map (λ parts. map (λ qs. qs.items) parts.items) c.laws.lists.items in
    tested-all s found lists (subst (λ (k : ℕ). TestedUpTo s found k lists) whole c.laws.invariant)
