use Rattle.std.proofs.Common.{◌≡◌, ◌<◌, List, length, ap, subst, sym, arith, ◌∙◌, get_or}
use Rattle.rinv_defs.specs.System.{Poly}
use Rattle.rinv_cert.specs.Seen.{plain}
use Rattle.rinv_parts.specs.LawNames.{law_of}
use Rattle.rinv_check.specs.LawLists.{AreListsFor}
use Rattle.rinv_check.proofs.LawCofactors.{laws-count, lists-at, no-lists, place-few}
use Rattle.rinv_check.proofs.laws.lists_of.Goals as goal

pub bounds-as_slice-place : goal.bounds-as_slice-place
bounds-as_slice-place c =
    let many = ap (λ (ls : List (List (List Poly))). length ls) c.as_slice.ensures in
    omega (arith, many, laws-count c.args.stored.now (law_of c.args.law) c.requires.kind c.requires.form, place-few (law_of c.args.law) c.in-Some.place c.in-Some.ensures)

pub returns-in-Some : goal.returns-in-Some
returns-in-Some c =
    let stored = c.args.stored.now in
    let law = law_of c.args.law in
    let r : List (List Poly) = c.index-as_slice-place.result in
    let few : c.in-Some.place < length stored.laws = omega (arith, laws-count stored law c.requires.kind c.requires.form, place-few law c.in-Some.place c.in-Some.ensures) in
    let at : r ≡ get_or stored.laws c.in-Some.place r = c.index-as_slice-place.is ∙ ap (λ (ls : List (List (List Poly))). get_or ls c.in-Some.place r) c.as_slice.ensures in
    subst (AreListsFor (plain stored) law) (sym c.as_slice-in-Some.ensures) (lists-at stored law c.in-Some.place r c.in-Some.ensures few at)

pub returns-in-None : goal.returns-in-None
returns-in-None c = no-lists c.args.stored.now (law_of c.args.law) c.in-None.ensures
