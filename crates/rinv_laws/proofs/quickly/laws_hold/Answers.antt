use Rattle.std.proofs.Common.{◌≡◌, ◌<◌, ◌∙◌, ℕ, List, length, get_or, All, sym, ap, subst₂, arith}
use Rattle.rinv_text.specs.Told.{Told}
use Rattle.rinv_defs.specs.System.{Poly}
use Rattle.rinv_laws.specs.declared.group.GroupBasis.{GroupBasis}
use Rattle.rinv_parts.specs.declared.law.LawName.TheVariants.{L1}
use Rattle.rinv_parts.specs.LawNames.{law_of}
use Rattle.rinv_parts.proofs.Stored.{normal-over as over}
use Rattle.rinv_laws.proofs.GroupCopies.{polys-nonzero, nonzero-over, kept-over}
use Rattle.rinv_laws.proofs.LawsInTurn.{names, rank-listed}
use Rattle.rinv_laws.proofs.LawsModulo.{laws-none, laws-more, laws-all}
use Rattle.rinv_laws.proofs.quickly.laws_hold.Goals as goal

pub kept_places-requires-clause-polys : goal.kept_places-requires-clause-polys
kept_places-requires-clause-polys c =
    let s = c.args.system.now.system in
    over c.new-ring.result.coeffs s.p c.new-ring.result.vars (length s.group) c.deref.result.now c.args.group.now.basis.polys
    (c.new-ring.ensures.ring ∙ ap (λ (t : Told). t.system.p) c.system.view_is)
    (c.new-ring.ensures.count ∙ c.len.ensures.len ∙ ap (λ (t : Told). length t.system.group) c.system.view_is)
    (c.deref.ensures.value ∙ ap (λ (g : GroupBasis). g.basis.polys) c.group.view_is) c.requires.group.normal

pub kept_places-requires-clause-nonzero : goal.kept_places-requires-clause-nonzero
kept_places-requires-clause-nonzero c =
    let s = c.args.system.now.system in
    nonzero-over c.new-ring.result.coeffs s.p c.deref.result.now c.args.group.now.basis.polys
    (c.new-ring.ensures.ring ∙ ap (λ (t : Told). t.system.p) c.system.view_is)
    (c.deref.ensures.value ∙ ap (λ (g : GroupBasis). g.basis.polys) c.group.view_is)
    (polys-nonzero s c.args.group.now.basis c.args.group.now.reduced.items c.requires.system c.requires.group)

pub laws-init : goal.laws-init
laws-init c = laws-none c.args.system.now.system

pub laws-preserved : goal.laws-preserved
laws-preserved c =
    laws-more c.args.system.now.system c.laws.k (law_of (get_or names c.laws.k L1)) (rank-listed c.laws.k c.laws-test.true) c.laws.invariant (c.in_ok-holds.ensures c.if-not-holds.false)

pub law_holds-requires-clause-inside : goal.law_holds-requires-clause-inside
law_holds-requires-clause-inside c =
    let polys : c.deref.result.now ≡ c.args.group.now.basis.polys = c.deref.ensures.value ∙ ap (λ (g : GroupBasis). g.basis.polys) c.group.view_is in
    subst₂ (λ (ks : List ℕ) (fs : List Poly). All (λ k. k < length fs) ks) (sym c.deref-in-laws.ensures.value) polys c.in_ok-places.ensures.inside

pub law_holds-requires-clause-kept : goal.law_holds-requires-clause-kept
law_holds-requires-clause-kept c =
    kept-over c.new-ring.result.coeffs c.args.system.now.system.p c.deref.result.now c.args.group.now.basis.polys c.in_ok-places.places.items c.deref-in-laws.result.now
    (c.new-ring.ensures.ring ∙ ap (λ (t : Told). t.system.p) c.system.view_is)
    (c.deref.ensures.value ∙ ap (λ (g : GroupBasis). g.basis.polys) c.group.view_is)
    c.deref-in-laws.ensures.value c.in_ok-places.ensures.kept

pub returns : goal.returns
returns c = λ e. laws-all c.args.system.now.system c.laws.k (omega (arith, c.laws-test.false, c.laws.auto.k-end)) c.laws.invariant
