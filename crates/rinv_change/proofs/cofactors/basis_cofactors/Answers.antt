use Rattle.std.proofs.Common.{◌≡◌, ◌<◌, ◌∙◌, ℕ, List, [], ap, length, map, get_or, All, nat_lt, subst, subst₂, sym, false}
use Rattle.std.proofs.lemmas.List.{length-map}
use Rattle.std.proofs.lemmas.List.Elements.{All-map}
use Rattle.std.proofs.lemmas.Result.{err_from_is_err_and}
use Rattle.rinv_algebra.specs.Residue.{residue_ops}
use Rattle.rinv_algebra.specs.Order.{grevlex}
use Rattle.rinv_algebra.specs.Leading.{leading_monomial}
use Rattle.rinv_algebra.specs.Normal.{IsNormal}
use Rattle.rinv_algebra.specs.Polynomial.{is_zero}
use Rattle.rinv_groebner.specs.Reduced.{kept}
use Rattle.rinv_defs.specs.System.{Poly}
use Rattle.rinv_text.specs.Told.{Told}
use Rattle.rinv_text.proofs.SystemParts.{parts-of}
use Rattle.rinv_buch.specs.Kinds.{Found}
use Rattle.rinv_buch.specs.Reducing.{kept_places}
use Rattle.rinv_parts.specs.Points.{ArePolynomials}
use Rattle.rinv_laws.proofs.BasisOver.{basis-over, combining-over}
use Rattle.rinv_laws.proofs.ProvedLaws.{chosen-keep}
use Rattle.rinv_change.proofs.cofactors.basis_cofactors.Goals as goal

pub combinations-requires-clause-given : goal.combinations-requires-clause-given
combinations-requires-clause-given c =
    let s = c.args.system.now.system in
    (basis-over s c.args.group.now.basis c.args.group.now.reduced.items c.requires.group (parts-of s c.requires.system).ideal c.new-ring.result.coeffs c.new-ring.result.vars c.deref.result.now
    (c.new-ring.ensures.ring ∙ ap (λ (t : Told). t.system.p) c.system.view_is)
    (c.new-ring.ensures.count ∙ c.len.ensures.len ∙ ap (λ (t : Told). length t.system.group) c.system.view_is)
    (c.deref.ensures.value ∙ ap (λ (t : Told). t.system.ideal) c.system.view_is)).given

pub combinations-requires-clause-polys : goal.combinations-requires-clause-polys
combinations-requires-clause-polys c =
    let s = c.args.system.now.system in
    (basis-over s c.args.group.now.basis c.args.group.now.reduced.items c.requires.group (parts-of s c.requires.system).ideal c.new-ring.result.coeffs c.new-ring.result.vars c.deref.result.now
    (c.new-ring.ensures.ring ∙ ap (λ (t : Told). t.system.p) c.system.view_is)
    (c.new-ring.ensures.count ∙ c.len.ensures.len ∙ ap (λ (t : Told). length t.system.group) c.system.view_is)
    (c.deref.ensures.value ∙ ap (λ (t : Told). t.system.ideal) c.system.view_is)).normal

pub combinations-requires-clause-journal : goal.combinations-requires-clause-journal
combinations-requires-clause-journal c =
    let s = c.args.system.now.system in
    (basis-over s c.args.group.now.basis c.args.group.now.reduced.items c.requires.group (parts-of s c.requires.system).ideal c.new-ring.result.coeffs c.new-ring.result.vars c.deref.result.now
    (c.new-ring.ensures.ring ∙ ap (λ (t : Told). t.system.p) c.system.view_is)
    (c.new-ring.ensures.count ∙ c.len.ensures.len ∙ ap (λ (t : Told). length t.system.group) c.system.view_is)
    (c.deref.ensures.value ∙ ap (λ (t : Told). t.system.ideal) c.system.view_is)).journal

pub kept_places-requires-clause-polys : goal.kept_places-requires-clause-polys
kept_places-requires-clause-polys c =
    let s = c.args.system.now.system in
    let polys : c.deref-2.result.now ≡ c.args.group.now.basis.polys = c.deref-2.ensures.value ∙ ap (λ (b : Found ℕ). b.polys) c.found.view_is in
    subst (λ (hs : List Poly). All (IsNormal (residue_ops c.new-ring.result.coeffs) (λ n. nat_lt n c.new-ring.result.coeffs) c.new-ring.result.vars) hs) (sym polys)
    (basis-over s c.args.group.now.basis c.args.group.now.reduced.items c.requires.group (parts-of s c.requires.system).ideal c.new-ring.result.coeffs c.new-ring.result.vars c.deref.result.now
    (c.new-ring.ensures.ring ∙ ap (λ (t : Told). t.system.p) c.system.view_is)
    (c.new-ring.ensures.count ∙ c.len.ensures.len ∙ ap (λ (t : Told). length t.system.group) c.system.view_is)
    (c.deref.ensures.value ∙ ap (λ (t : Told). t.system.ideal) c.system.view_is)).normal

pub kept_places-requires-clause-nonzero : goal.kept_places-requires-clause-nonzero
kept_places-requires-clause-nonzero c =
    let s = c.args.system.now.system in
    let polys : c.deref-2.result.now ≡ c.args.group.now.basis.polys = c.deref-2.ensures.value ∙ ap (λ (b : Found ℕ). b.polys) c.found.view_is in
    subst (λ (hs : List Poly). All (λ h. is_zero (residue_ops c.new-ring.result.coeffs) h ≡ false) hs) (sym polys)
    (basis-over s c.args.group.now.basis c.args.group.now.reduced.items c.requires.group (parts-of s c.requires.system).ideal c.new-ring.result.coeffs c.new-ring.result.vars c.deref.result.now
    (c.new-ring.ensures.ring ∙ ap (λ (t : Told). t.system.p) c.system.view_is)
    (c.new-ring.ensures.count ∙ c.len.ensures.len ∙ ap (λ (t : Told). length t.system.group) c.system.view_is)
    (c.deref.ensures.value ∙ ap (λ (t : Told). t.system.ideal) c.system.view_is)).nonzero

pub returns-clause-normal : goal.returns-clause-normal
returns-clause-normal c =
    let field = c.new-ring.ensures.ring ∙ ap (λ (t : Told). t.system.p) c.system.view_is in
    let vars = c.new-ring.ensures.count ∙ c.len.ensures.len ∙ ap (λ (t : Told). length t.system.group) c.system.view_is in
    subst₂ (λ (p v : ℕ). All (λ us. ArePolynomials p v us.items) c.in_ok-lists.lists.items) field vars c.in_ok-lists.ensures.normal

pub returns-clause-inside : goal.returns-clause-inside
returns-clause-inside c =
    let polys : c.deref-2.result.now ≡ c.args.group.now.basis.polys = c.deref-2.ensures.value ∙ ap (λ (b : Found ℕ). b.polys) c.found.view_is in
    subst (λ (n : ℕ). All (λ k. k < n) c.in_ok-places.places.items) (ap (λ (fs : List Poly). length fs) polys ∙ sym c.in_ok-lists.ensures.number) c.in_ok-places.ensures.inside

pub returns-clause-cofactors : goal.returns-clause-cofactors
returns-clause-cofactors c =
    let s = c.args.system.now.system in
    let field = c.new-ring.ensures.ring ∙ ap (λ (t : Told). t.system.p) c.system.view_is in
    let vars = c.new-ring.ensures.count ∙ c.len.ensures.len ∙ ap (λ (t : Told). length t.system.group) c.system.view_is in
    let ideal : c.deref.result.now ≡ s.ideal = c.deref.ensures.value ∙ ap (λ (t : Told). t.system.ideal) c.system.view_is in
    let polys : c.deref-2.result.now ≡ c.args.group.now.basis.polys = c.deref-2.ensures.value ∙ ap (λ (b : Found ℕ). b.polys) c.found.view_is in
    let p = c.new-ring.result.coeffs in
    let v = c.new-ring.result.vars in
    let made = c.in_ok-lists.ensures in
    let lists = c.in_ok-lists.lists.items in
    let places = c.in_ok-places.places.items in
    chosen-keep s c.args.group.now.basis (map (λ us. us.items) lists) places p v c.deref.result.now field vars ideal (record {
      number = length-map lists (λ us. us.items) ∙ made.number;
      lengths = All-map (λ us. length us ≡ length c.deref.result.now) (λ us. us.items) lists made.lengths;
      normal = All-map (ArePolynomials p v) (λ us. us.items) lists made.normal;
      sums_up = made.sums_up;
      rule = made.rule;
      places_are = c.in_ok-places.ensures.places ∙ ap (λ (hs : List Poly). kept_places (map (leading_monomial (residue_ops p) grevlex) hs)) polys;
      inside = subst (λ (hs : List Poly). All (λ k. k < length hs) places) polys c.in_ok-places.ensures.inside;
      kept = subst (λ (hs : List Poly). map (λ k. get_or hs k []) places ≡ kept (residue_ops p) grevlex hs) polys c.in_ok-places.ensures.kept;
    })

pub returns-in_err-lists-clause-degree : goal.returns-in_err-lists-clause-degree
returns-in_err-lists-clause-degree c =
    let s = c.args.system.now.system in
    let q = err_from_is_err_and c.from_residual.result c.from_residual.ensures.1 in
    rw (q.1, q.2) (combining-over s c.args.group.now.basis c.new-ring.result.coeffs c.new-ring.result.vars c.deref.result.now
    (c.new-ring.ensures.ring ∙ ap (λ (t : Told). t.system.p) c.system.view_is)
    (c.new-ring.ensures.count ∙ c.len.ensures.len ∙ ap (λ (t : Told). length t.system.group) c.system.view_is)
    (c.deref.ensures.value ∙ ap (λ (t : Told). t.system.ideal) c.system.view_is)
    c.in_err-lists.field-0.0 c.in_err-lists.ensures.degree)
