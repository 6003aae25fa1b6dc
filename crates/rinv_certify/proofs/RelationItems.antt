-- The items of relations, one after another.
--   at_graph-same, proves-same    values at Z = g, and their cofactors, depend on the value of the polynomial alone
--   whole-vanishes       a relation as it is stored lies in the group's ideal there
--   item-of, item-fits   an item is that of its relation, and its products fit
--   graph-met            the degrees of its cofactors
use Rattle.std.proofs.Common.{◌≡◌, ℕ, ◌<◌, true, List, [], ◌∷◌, length, get_or, map, sym, ◌∙◌, ap, subst, refl}
use Rattle.std.specs.Prelude.{◌&&◌}
use Rattle.rinv_algebra.specs.Ring.{IsSame}
use Rattle.rinv_algebra.specs.Residue.{residue_ops}
use Rattle.rinv_algebra.specs.Polynomial.{poly_ops, constant}
use Rattle.rinv_algebra.specs.Ideal.{IsMember}
use Rattle.rinv_algebra.specs.Fits.{combination_fits}
use Rattle.rinv_algebra.proofs.PolynomialLaws.{poly_laws}
use Rattle.rinv_algebra.proofs.ResidueLaws.{residue_laws}
use Rattle.rinv_algebra.proofs.RingFacts as facts
use Rattle.rinv_algebra.proofs.Same.{and_true}
use Rattle.rinv_theory.proofs.Values.{value_map, constant_map}
use Rattle.rinv_ring.specs.Fault.{DegreesMeet}
use Rattle.rinv_ring.specs.declared.fault.RingFault.{RingFault}
use Rattle.rinv_poly.proofs.Meets.{meet-weaker}
use Rattle.rinv_buch.specs.Kinds.{Found}
use Rattle.rinv_defs.specs.System.{System, Poly, space_count}
use Rattle.rinv_defs.specs.Extended.{Relation}
use Rattle.rinv_defs.specs.Certificate.{Certificate}
use Rattle.rinv_defs.specs.Conditions.{graph_point}
use Rattle.rinv_defs.specs.RelationConditions.{relation_of}
use Rattle.rinv_cert.specs.declared.certificate.Tied.{Tied as StoredTied}
use Rattle.rinv_cert.specs.Seen.{relation_item_by, tail_item_by}
use Rattle.rinv_parts.specs.Points.{ArePolynomials}
use Rattle.rinv_coefficients.specs.Ties.{TiedRelation, Ties}
use Rattle.rinv_acceptance.specs.Fits.{at_graph_multiplies, relation_multiplies}
use Rattle.rinv_at_graph.specs.AtGraph.{AtGraphMeets, IsProved, ProvesAtGraph, at_graph}
use Rattle.rinv_basis_check.proofs.ValuesOfSame.{substitution_fits-same}
use Rattle.rinv_generators.specs.Generated.{Generated, IsGenerators}
use Rattle.rinv_certification.specs.Made.{HasCommonPart, IsRelationItemOf}
use Rattle.rinv_certify.specs.declared.relations.Whole.{Whole}
use Rattle.rinv_certify.specs.Meets.{RelationMeets}
use Rattle.rinv_certify.specs.Wholes.{IsWholeOf, WholeFits, whole_item}
use Rattle.rinv_certify.proofs.BasisItems.{list-same}
use Rattle.rinv_certify.proofs.Vanishing.{relation-vanishes, vanishes-same}

-- ---- values at Z = g

pub at_graph-same : (s : System) (f h : Poly) → IsSame (poly_ops (residue_ops s.p)) f h → IsSame (poly_ops (residue_ops s.p)) (at_graph s f) (at_graph s h)
at_graph-same s f h e =
    let o = residue_ops s.p in
    let l = residue_laws s.p in
    (value_map o l (poly_ops o) (poly_laws o l) (constant o) (constant_map o l) (graph_point s)).same f h e

pub proves-same : (s : System) (found : Found ℕ) (f h : Poly) (us : List Poly) → IsSame (poly_ops (residue_ops s.p)) f h → ProvesAtGraph s found f us → ProvesAtGraph s found h us
proves-same s found f h us e p =
    let o = poly_ops (residue_ops s.p) in
    let laws = poly_laws (residue_ops s.p) (residue_laws s.p) in
    let value = at_graph-same s f h e in
    record {
      number = p.number;
      normal = p.normal;
      sums_up = facts.then o laws (facts.back o laws value) p.sums_up;
      lists = p.lists;
      kept = p.kept;
      quotients = p.quotients;
      rest = p.rest;
      divides = let d = p.divides in record { g = d.g; hs = d.hs; asked = record { value = facts.then o laws d.asked.value value; basis = d.asked.basis }; steps = d.steps; divides = d.divides };
      rule = p.rule;
    }

-- ---- a relation

coefficients-seen : (ts : List (List ℕ × Poly × StoredTied)) → map (λ t. t.c) (map (tail_item_by (λ f. f)) ts) ≡ map (λ t. t.1) ts
coefficients-seen [] = refl
coefficients-seen (t ∷ ts) = ap (λ fs. t.1 ∷ fs) (coefficients-seen ts)

module _ (g : Generated) (r : Relation) (q : TiedRelation) (w : Whole) (made : IsWholeOf g r q w) where
  -- a relation as it is stored lies in the group's ideal at Z = g
  pub whole-vanishes : IsGenerators g → g.told.system.section ≡ [] → (k : ℕ) → k < length g.monic → r ≡ get_or g.monic k r → Ties g.told.system.p g.fractions q r → IsMember (residue_ops g.told.system.p) g.told.system.ideal (at_graph g.told.system w.whole)
  whole-vanishes gens none k inside at ties =
      vanishes-same g.told.system (relation_of g.told.system (whole_item r w)) w.whole (at_graph-same g.told.system (relation_of g.told.system (whole_item r w)) w.whole (facts.back (poly_ops (residue_ops g.told.system.p)) (poly_laws (residue_ops g.told.system.p) (residue_laws g.told.system.p)) made.whole.value))
      (relation-vanishes g gens none k r q (whole_item r w) inside at ties made.raised)

  module _ (us : List Poly) (proved : IsProved g.told.system g.group w.whole us) where
    here : IsRelationItemOf g.told.system g.group r q (relation_item_by (λ f. f) (r.lead, w.d, w.tail.items, us))
    here = record {
      raised = record { a = refl; d = made.raised.d; tail = made.raised.tail };
      cofactors = subst (ProvesAtGraph g.told.system g.group (relation_of g.told.system (whole_item r w))) (sym (list-same us)) (proves-same g.told.system g.group w.whole (relation_of g.told.system (whole_item r w)) us made.whole.value proved.proof);
      normal = subst (λ (fs : List Poly). ArePolynomials g.told.system.p (space_count g.told.system) (w.d ∷ fs)) (sym (coefficients-seen w.tail.items)) made.normal;
    }

    fits-here : (c : Certificate) → HasCommonPart g c → WholeFits c r w → relation_multiplies c (relation_item_by (λ f. f) (r.lead, w.d, w.tail.items, us)) ≡ true
    fits-here c common fits =
        let own : at_graph_multiplies g.told.system (relation_of g.told.system (whole_item r w)) us ≡ true =
        ap (λ b. b && combination_fits (residue_ops g.told.system.p) us g.told.system.ideal) (sym (substitution_fits-same g.told.system.p (graph_point g.told.system) w.whole (relation_of g.told.system (whole_item r w)) made.whole.value)) ∙ proved.fits in
        and_true _ _ fits (subst (λ (s : System). at_graph_multiplies s (relation_of s (whole_item r w)) (map (λ f. f) us) ≡ true) (sym common.system)
        (subst (λ (vs : List Poly). at_graph_multiplies g.told.system (relation_of g.told.system (whole_item r w)) vs ≡ true) (sym (list-same us)) own))

    module _ (a : List ℕ) (d : Poly) (ts : List (List ℕ × Poly × StoredTied)) (vs : List Poly) (ea : a ≡ r.lead) (ed : d ≡ w.d) (et : ts ≡ w.tail.items) (ev : vs ≡ us) where
      -- an item is that of its relation
      pub item-of : IsRelationItemOf g.told.system g.group r q (relation_item_by (λ f. f) (a, d, ts, vs))
      item-of = rw (ea, ed, et, ev) here

      -- and its products fit
      pub item-fits : (c : Certificate) → HasCommonPart g c → WholeFits c r w → relation_multiplies c (relation_item_by (λ f. f) (a, d, ts, vs)) ≡ true
      item-fits c common fits = rw (ea, ed, et, ev) (fits-here c common fits)

  -- the degrees of its cofactors
  pub graph-met : (fault : RingFault) → DegreesMeet (AtGraphMeets g.told.system g.group w.whole) fault → DegreesMeet (RelationMeets g r q) fault
  graph-met fault m = meet-weaker (AtGraphMeets g.told.system g.group w.whole) (RelationMeets g r q) (λ x y h. RelationMeets.at_graph (whole_item r w) w.whole made.raised made.whole h) fault m
