use Rattle.std.proofs.Common.{◌≡◌, ◌∙◌, [], map, length, get_or, sym, ap, subst, arith}
use Rattle.std.specs.Prelude.{IfOk, OnOk}
use Rattle.rinv_groebner.specs.Copies.{copies as copied}
use Rattle.rinv_text.specs.Told.{Told}
use Rattle.rinv_defs.specs.Laws.{LawHolds}
use Rattle.rinv_parts.specs.declared.law.LawName.{LawName}
use Rattle.rinv_parts.specs.LawNames.{law_of, variables_of}
use Rattle.rinv_parts.proofs.Stored.{normal-over}
use Rattle.rinv_laws.specs.declared.group.GroupBasis.{GroupBasis}
use Rattle.rinv_laws.specs.Copied.{AreQuotients}
use Rattle.rinv_laws.specs.Faults.{HoldBefore}
use Rattle.rinv_laws.specs.Tested.{IsCopiedBasis}
use Rattle.rinv_laws.proofs.GroupCopies.{polys-nonzero, nonzero-over}
use Rattle.rinv_laws.proofs.TestedLaws.{basis-is, copies-are}
use Rattle.rinv_laws.proofs.testing.test_law.Goals as goal

pub copied_basis-requires-clause-field : goal.copied_basis-requires-clause-field
copied_basis-requires-clause-field c = c.new-from.ensures.ring ∙ ap (λ (t : Told). t.system.p) c.system.view_is ∙ sym c.in_ok-own.ensures.parts.ring.field

pub copied_basis-requires-clause-inside : goal.copied_basis-requires-clause-inside
copied_basis-requires-clause-inside c =
    let s = c.args.system.now.system in
    let count : c.new-from.result.vars ≡ length s.group = c.new-from.ensures.count ∙ c.len.ensures.len ∙ ap (λ (t : Told). length t.system.group) c.system.view_is in
    let vars : c.in_ok-own.own.ring.vars ≡ variables_of s (law_of c.args.law) = c.in_ok-own.ensures.parts.ring.vars ∙ ap (λ (l : LawName). variables_of s (law_of l)) c.in_ok-own.ensures.law in
    rw (c.copies-copies.ensures, count, vars) (omega arith)

pub copied_basis-requires-clause-polynomials : goal.copied_basis-requires-clause-polynomials
copied_basis-requires-clause-polynomials c =
    let s = c.args.system.now.system in
    normal-over c.new-from.result.coeffs s.p c.new-from.result.vars (length s.group) c.deref.result.now c.args.group.now.basis.polys
    (c.new-from.ensures.ring ∙ ap (λ (t : Told). t.system.p) c.system.view_is)
    (c.new-from.ensures.count ∙ c.len.ensures.len ∙ ap (λ (t : Told). length t.system.group) c.system.view_is)
    (c.deref.ensures.value ∙ ap (λ (g : GroupBasis). g.basis.polys) c.group.view_is) c.requires.group.normal

pub copied_basis-requires-clause-nonzero : goal.copied_basis-requires-clause-nonzero
copied_basis-requires-clause-nonzero c =
    let s = c.args.system.now.system in
    nonzero-over c.new-from.result.coeffs s.p c.deref.result.now c.args.group.now.basis.polys
    (c.new-from.ensures.ring ∙ ap (λ (t : Told). t.system.p) c.system.view_is)
    (c.deref.ensures.value ∙ ap (λ (g : GroupBasis). g.basis.polys) c.group.view_is)
    (polys-nonzero s c.args.group.now.basis c.args.group.now.reduced.items c.requires.system c.requires.group)

pub copied_basis-requires-clause-places : goal.copied_basis-requires-clause-places
copied_basis-requires-clause-places c = rw (c.deref.ensures.value ∙ ap (λ (g : GroupBasis). g.basis.polys) c.group.view_is) c.requires.inside

pub test_parts-requires-clause-basis : goal.test_parts-requires-clause-basis
test_parts-requires-clause-basis c =
    let s = c.args.system.now.system in
    let found = c.args.group.now.basis in
    let law = law_of c.args.law in
    let ring = c.in_ok-own.ensures.parts.ring in
    let count : c.new-from.result.vars ≡ length s.group = c.new-from.ensures.count ∙ c.len.ensures.len ∙ ap (λ (t : Told). length t.system.group) c.system.view_is in
    let polys : c.deref.result.now ≡ found.polys = c.deref.ensures.value ∙ ap (λ (g : GroupBasis). g.basis.polys) c.group.view_is in
    let vars : c.in_ok-own.own.ring.vars ≡ variables_of s law = ring.vars ∙ ap (λ (l : LawName). variables_of s (law_of l)) c.in_ok-own.ensures.law in
    let basis = c.in_ok-basis.basis in
    subst (λ (l : LawName). IsCopiedBasis s found (law_of l) basis) (sym c.in_ok-own.ensures.law)
    (basis-is s found law basis c.in_ok-own.own.ring.coeffs c.in_ok-own.own.ring.vars (copied c.copies-copies.result c.new-from.result.vars (map (λ k. get_or c.deref.result.now k []) c.args.places.now)) ring.field vars
    (copies-are s found law c.copies-copies.result c.new-from.result.vars c.deref.result.now c.args.places.now c.copies-copies.ensures count polys c.requires.kept)
    c.in_ok-basis.ensures.value c.in_ok-basis.ensures.normal c.in_ok-basis.ensures.divisors)

pub test_parts-requires-clause-before : goal.test_parts-requires-clause-before
test_parts-requires-clause-before c = subst (λ (l : LawName). HoldBefore c.args.system.now.system (law_of l)) (sym c.in_ok-own.ensures.law) c.requires.before

pub returns-clause-holds : goal.returns-clause-holds
returns-clause-holds c = subst (λ (l : LawName). OnOk c.test_parts.result (LawHolds c.args.system.now.system (law_of l))) c.in_ok-own.ensures.law c.test_parts.ensures.holds

pub returns-clause-quotients : goal.returns-clause-quotients
returns-clause-quotients c =
    subst (λ (l : LawName). IfOk c.test_parts.result (λ lists. AreQuotients c.args.system.now.system c.args.group.now.basis (law_of l) (map (λ qs. qs.items) lists.items))) c.in_ok-own.ensures.law c.test_parts.ensures.quotients
