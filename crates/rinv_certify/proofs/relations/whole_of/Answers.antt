use Rattle.std.proofs.Common.{◌≡◌, ◌∙◌, ◌∷◌, [], List, ℕ, length, map, zip, refl, sym, ap, subst, subst₂, nat_lt, true}
use Rattle.std.specs.List.{AllZip}
use Rattle.std.proofs.lemmas.List.Elements.{All-cons}
use Rattle.std.proofs.lemmas.Result.{err_from_is_err_and}
use Rattle.rinv_algebra.specs.Ring.{IsSame}
use Rattle.rinv_algebra.specs.Residue.{residue_ops}
use Rattle.rinv_algebra.specs.Polynomial.{poly_ops, difference, term_product}
use Rattle.rinv_algebra.specs.Normal.{IsNormal}
use Rattle.rinv_algebra.specs.Fits.{product_fits}
use Rattle.rinv_algebra.proofs.Same.{and_true}
use Rattle.rinv_reduction.specs.Localised.{all_count}
use Rattle.rinv_ring.specs.Fault.{DegreesMeet}
use Rattle.rinv_text.specs.Told.{Told}
use Rattle.rinv_poly.specs.Sums.{sum_of}
use Rattle.rinv_defs.specs.System.{System, Poly, space_count}
use Rattle.rinv_defs.specs.Extended.{Relation}
use Rattle.rinv_defs.specs.RelationConditions.{z_power, behind_z}
use Rattle.rinv_cert.specs.Seen.{tail_item_by}
use Rattle.rinv_tails.specs.Stored.{IsStoredRelation}
use Rattle.rinv_parts.specs.Points.{ArePolynomials, IsStoredIn}
use Rattle.rinv_acceptance.specs.Denominators.{once, product_of}
use Rattle.rinv_acceptance.specs.Raised.{IsTailItemOf, denominators}
use Rattle.rinv_generators.specs.Generated.{Generated}
use Rattle.rinv_certify.specs.Meets.{ProductMeets, TailMeets, TermMeets}
use Rattle.rinv_certify.proofs.WholeParts.{denominator-met, lead-met, tail-met, whole-is}
use Rattle.rinv_certify.proofs.relations.whole_of.Goals as goal

pub denominators_once-requires-clause-relation : goal.denominators_once-requires-clause-relation
denominators_once-requires-clause-relation c =
    let told = ap (λ (x : Generated). x.told) c.gens.view_is in
    subst (λ (t : Told). IsStoredRelation t.system.p (space_count t.system) c.args.relation.now) (sym told) c.requires.relation

pub term-requires-clause-exponents : goal.term-requires-clause-exponents
term-requires-clause-exponents c =
    let told = ap (λ (x : Generated). x.told) c.gens.view_is in
    ap (λ (y : Relation). length y.lead) c.relation.view_is ∙ c.requires.relation.vars ∙ ap (λ (t : Told). space_count t.system) (sym told)

pub tail_items-requires-clause-factors : goal.tail_items-requires-clause-factors
tail_items-requires-clause-factors c =
    let told = ap (λ (x : Generated). x.told) c.gens.view_is in
    subst₂ (λ (t : Told) (fs : List Poly). ArePolynomials t.system.p (space_count t.system) fs) told (sym c.deref-2.ensures.value) c.in_ok-factors.ensures.normal

pub tail_items-requires-clause-denominator : goal.tail_items-requires-clause-denominator
tail_items-requires-clause-denominator c =
    let told = ap (λ (x : Generated). x.told) c.gens.view_is in
    subst (λ (t : Told). IsNormal (residue_ops t.system.p) (λ n. nat_lt n t.system.p) (space_count t.system) c.in_ok-d.d) told c.in_ok-d.ensures.normal

pub less_sum-requires-clause-terms : goal.less_sum-requires-clause-terms
less_sum-requires-clause-terms c =
    let told = ap (λ (x : Generated). x.told) c.gens.view_is in
    subst (λ (t : Told). ArePolynomials t.system.p (all_count t.system) c.in_ok-tail.terms.items) (sym told) c.in_ok-tail.ensures.terms

pub returns-in_err-d-clause-degree : goal.returns-in_err-d-clause-degree
returns-in_err-d-clause-degree c =
    let g = c.args.gens.now in
    let r = c.args.relation.now in
    let q = c.args.symbols.now in
    let told : c.gens.inside.system ≡ g.told = ap (λ (x : Generated). x.told) c.gens.view_is in
    let ds = c.in_ok-factors.factors.items in
    let are : ds ≡ once g.told.system (denominators r) = subst (λ (t : Told). c.in_ok-factors.factors.items ≡ once t.system (denominators c.args.relation.now)) told c.in_ok-factors.ensures.value in
    let fault = c.in_err-d.field-0.0 in
    let w = err_from_is_err_and c.from_residual-in_err-d.result c.from_residual-in_err-d.ensures.1 in
    rw (w.1, w.2) (denominator-met g r q ds are fault (subst₂ (λ (t : Told) (fs : List Poly). DegreesMeet (ProductMeets t.system fs) fault) told c.deref.ensures.value c.in_err-d.ensures.degree))

pub returns-in_err-lead-clause-degree : goal.returns-in_err-lead-clause-degree
returns-in_err-lead-clause-degree c =
    let g = c.args.gens.now in
    let s = g.told.system in
    let r = c.args.relation.now in
    let q = c.args.symbols.now in
    let told : c.gens.inside.system ≡ g.told = ap (λ (x : Generated). x.told) c.gens.view_is in
    let ds = c.in_ok-factors.factors.items in
    let are : ds ≡ once s (denominators r) = subst (λ (t : Told). c.in_ok-factors.factors.items ≡ once t.system (denominators c.args.relation.now)) told c.in_ok-factors.ensures.value in
    let d = c.in_ok-d.d in
    let value : IsSame (poly_ops (residue_ops s.p)) d (product_of s ds) = subst₂ (λ (t : Told) (fs : List Poly). IsSame (poly_ops (residue_ops t.system.p)) c.in_ok-d.d (product_of t.system fs)) told c.deref.ensures.value c.in_ok-d.ensures.value in
    let lead = ap (λ (y : Relation). y.lead) c.relation.view_is in
    let fault = c.in_err-lead.field-0.0 in
    let w = err_from_is_err_and c.from_residual-in_err-lead.result c.from_residual-in_err-lead.ensures.1 in
    rw (w.1, w.2) (lead-met g r q ds are fault d value (subst₂ (λ (t : Told) (a : List ℕ). DegreesMeet (TermMeets t.system a d) fault) told lead c.in_err-lead.ensures.degree))

pub returns-in_err-tail-clause-degree : goal.returns-in_err-tail-clause-degree
returns-in_err-tail-clause-degree c =
    let g = c.args.gens.now in
    let s = g.told.system in
    let r = c.args.relation.now in
    let q = c.args.symbols.now in
    let told : c.gens.inside.system ≡ g.told = ap (λ (x : Generated). x.told) c.gens.view_is in
    let ds = c.in_ok-factors.factors.items in
    let are : ds ≡ once s (denominators r) = subst (λ (t : Told). c.in_ok-factors.factors.items ≡ once t.system (denominators c.args.relation.now)) told c.in_ok-factors.ensures.value in
    let d = c.in_ok-d.d in
    let value : IsSame (poly_ops (residue_ops s.p)) d (product_of s ds) = subst₂ (λ (t : Told) (fs : List Poly). IsSame (poly_ops (residue_ops t.system.p)) c.in_ok-d.d (product_of t.system fs)) told c.deref.ensures.value c.in_ok-d.ensures.value in
    let fault = c.in_err-tail.field-0.0 in
    let w = err_from_is_err_and c.from_residual-in_err-tail.result c.from_residual-in_err-tail.ensures.1 in
    rw (w.1, w.2) (tail-met g r q ds are fault d value (subst (λ (fs : List Poly). DegreesMeet (TailMeets g fs d r q) fault) c.deref-2.ensures.value c.in_err-tail.ensures.degree))

pub returns-clause-raised : goal.returns-clause-raised
returns-clause-raised c =
    let g = c.args.gens.now in
    let s = g.told.system in
    let r = c.args.relation.now in
    let q = c.args.symbols.now in
    let told : c.gens.inside.system ≡ g.told = ap (λ (x : Generated). x.told) c.gens.view_is in
    let ds = c.in_ok-factors.factors.items in
    let are : ds ≡ once s (denominators r) = subst (λ (t : Told). c.in_ok-factors.factors.items ≡ once t.system (denominators c.args.relation.now)) told c.in_ok-factors.ensures.value in
    let d = c.in_ok-d.d in
    let value : IsSame (poly_ops (residue_ops s.p)) d (product_of s ds) = subst₂ (λ (t : Told) (fs : List Poly). IsSame (poly_ops (residue_ops t.system.p)) c.in_ok-d.d (product_of t.system fs)) told c.deref.ensures.value c.in_ok-d.ensures.value in
    let lead = ap (λ (y : Relation). y.lead) c.relation.view_is in
    let ts = c.in_ok-tail.tail.items in
    let whole = c.in_ok-whole.whole in
    let first : IsSame (poly_ops (residue_ops s.p)) c.in_ok-lead.lead (term_product (residue_ops s.p) (z_power s r.lead) (behind_z s d)) =
    subst₂ (λ (t : Told) (a : List ℕ). IsSame (poly_ops (residue_ops t.system.p)) c.in_ok-lead.lead (term_product (residue_ops t.system.p) (z_power t.system a) (behind_z t.system c.in_ok-d.d))) told lead c.in_ok-lead.ensures.value in
    let less : IsStoredIn s.p (all_count s) (difference (residue_ops s.p) c.in_ok-lead.lead (sum_of c.in_ok-tail.terms.items)) whole =
    subst (λ (t : Told). IsStoredIn t.system.p (all_count t.system) (difference (residue_ops t.system.p) c.in_ok-lead.lead (sum_of c.in_ok-tail.terms.items)) c.in_ok-whole.whole) told c.in_ok-whole.ensures in
    record {
      raised = record {
        a = refl;
        d = subst (λ (fs : List Poly). IsSame (poly_ops (residue_ops s.p)) d (product_of s fs)) are value;
        tail = subst (λ (fs : List Poly). AllZip (λ x t. IsTailItemOf s fs x.0 x.1 t) (zip r.tail (map (λ y. y.1) q.tail)) (map (tail_item_by (λ f. f)) ts)) (c.deref-2.ensures.value ∙ are) c.in_ok-tail.ensures.items;
      };
      normal = All-cons (IsNormal (residue_ops s.p) (λ n. nat_lt n s.p) (space_count s)) d (map (λ t. t.1) ts) (subst (λ (t : Told). IsNormal (residue_ops t.system.p) (λ n. nat_lt n t.system.p) (space_count t.system) c.in_ok-d.d) told c.in_ok-d.ensures.normal) c.in_ok-tail.ensures.normal;
      whole = record { normal = less.normal; value = whole-is s r d ts c.in_ok-lead.lead whole c.in_ok-tail.terms.items first c.in_ok-tail.ensures.sum less.value };
    }

pub returns-clause-fits : goal.returns-clause-fits
returns-clause-fits c whole common =
    let g = c.args.gens.now in
    let told : c.gens.inside.system ≡ g.told = ap (λ (x : Generated). x.told) c.gens.view_is in
    let lead = ap (λ (y : Relation). y.lead) c.relation.view_is in
    let own = subst₂ (λ (t : Told) (a : List ℕ). product_fits (residue_ops t.system.p) (z_power t.system a ∷ []) (behind_z t.system c.in_ok-d.d) ≡ true) told lead c.in_ok-lead.ensures.fits in
    and_true _ _ (subst (λ (u : System). product_fits (residue_ops u.p) (z_power u c.args.relation.now.lead ∷ []) (behind_z u c.in_ok-d.d) ≡ true) (sym common.system) own) (c.in_ok-tail.ensures.fits whole common)
