-- What vanishes at Z = g: the elements of the action's basis, and the relations.
--   element-vanishes     an element lies in the group's ideal there
--   vanishes-same        so does what is the same
--   relation-vanishes    so does a relation over the common denominator of its coefficients
use Rattle.std.proofs.Common.{◌≡◌, ℕ, ◌+◌, ◌*◌, ◌<◌, [], ◌∷◌, length, get_or, All, ◌∙◌, sym, subst, arith}
use Rattle.std.specs.declared.cmp.Ordering.TheVariants.{Less}
use Rattle.std.proofs.lemmas.List.{get_or_default}
use Rattle.rinv_algebra.specs.Residue.{residue_ops}
use Rattle.rinv_algebra.specs.Ring.{IsSame}
use Rattle.rinv_algebra.specs.Polynomial.{poly_ops}
use Rattle.rinv_algebra.specs.Ideal.{IsMember}
use Rattle.rinv_algebra.proofs.PolynomialLaws.{poly_laws}
use Rattle.rinv_algebra.proofs.RingFacts as facts
use Rattle.rinv_algebra.specs.Order.{grevlex}
use Rattle.rinv_algebra.proofs.BlockOrder.{block_order_laws}
use Rattle.rinv_algebra.proofs.Grevlex.{block_order_ties}
use Rattle.rinv_algebra.proofs.ResidueLaws.{residue_laws}
use Rattle.rinv_algebra.proofs.ResidueField.{residue_field_laws}
use Rattle.rinv_groebner.specs.Orders.{OrdersMonomials}
use Rattle.rinv_groebner.proofs.ListElements.{AllFirst, all_first}
use Rattle.rinv_groebner.proofs.JournalFacts.{ListFacts, journal-facts}
use Rattle.rinv_defs.specs.System.{System, Poly, group_count, space_count}
use Rattle.rinv_defs.specs.Extended.{Relation, InExtendedIdeal, action_ideal, relation_poly}
use Rattle.rinv_defs.specs.Certificate.{Certificate, full, RelationItem}
use Rattle.rinv_defs.specs.PairConditions.{action_order}
use Rattle.rinv_defs.specs.RelationConditions.{relation_of}
use Rattle.rinv_coefficients.specs.Coefficients.{IsTail}
use Rattle.rinv_coefficients.specs.Ties.{TiedRelation, Ties}
use Rattle.rinv_acceptance.specs.Raised.{IsRaised}
use Rattle.rinv_acceptance.proofs.ActionVariables.{action_in}
use Rattle.rinv_acceptance.proofs.OnGraph.{vanishes_at_graph}
use Rattle.rinv_acceptance.proofs.ClearedRelations.{cleared_vanishes}
use Rattle.rinv_acceptance.proofs.RaisedRelations.{raised_cleared}
use Rattle.rinv_at_graph.specs.AtGraph.{at_graph}
use Rattle.rinv_generators.specs.Generated.{Generated, IsGenerators}
use Rattle.rinv_certify.proofs.Taken.{holds-at}

module _ (g : Generated) (gens : IsGenerators g) (none : g.told.system.section ≡ []) where
  order : OrdersMonomials (action_order g.told.system) (group_count g.told.system + 2 * space_count g.told.system)
  order = record {
    laws = block_order_laws (group_count g.told.system ∷ space_count g.told.system ∷ space_count g.told.system ∷ []);
    ties = λ a b la lb. block_order_ties (group_count g.told.system ∷ space_count g.told.system ∷ space_count g.told.system ∷ []) a b (la ∙ sym lb) (omega (arith, la));
  }

  given_first : AllFirst (residue_ops g.told.system.p) (residue_laws g.told.system.p) (group_count g.told.system + 2 * space_count g.told.system) (action_ideal g.told.system)
  given_first = all_first (residue_ops g.told.system.p) (residue_laws g.told.system.p) (group_count g.told.system + 2 * space_count g.told.system) (action_ideal g.told.system) (action_in g.told.system gens.form none)

  basis : ListFacts (residue_ops g.told.system.p) (residue_laws g.told.system.p) (residue_field_laws g.told.system.p) (action_order g.told.system) (group_count g.told.system + 2 * space_count g.told.system) order (action_ideal g.told.system) given_first g.action.polys
  basis = journal-facts (residue_ops g.told.system.p) (residue_laws g.told.system.p) (residue_field_laws g.told.system.p) (action_order g.told.system) (group_count g.told.system + 2 * space_count g.told.system) order (action_ideal g.told.system) given_first gens.action.journal

  -- an element of the basis lies in the group's ideal at Z = g
  pub element-vanishes : (k : ℕ) (h : Poly) → k < length g.action.polys → h ≡ get_or g.action.polys k h → IsMember (residue_ops g.told.system.p) g.told.system.ideal (at_graph g.told.system h)
  element-vanishes k h inside at =
      vanishes_at_graph g.told.system h gens.form none (subst (IsMember (residue_ops g.told.system.p) (action_ideal g.told.system)) (sym (at ∙ get_or_default g.action.polys k h [] inside)) (basis.members k))

  -- so does a relation
  pub relation-vanishes : (k : ℕ) (r : Relation) (q : TiedRelation) (item : RelationItem) → k < length g.monic → r ≡ get_or g.monic k r → Ties g.told.system.p g.fractions q r → IsRaised g.told.system r q item → IsMember (residue_ops g.told.system.p) g.told.system.ideal (at_graph g.told.system (relation_of g.told.system item))
  relation-vanishes k r q item inside at ties raised =
      let member = holds-at (λ r. InExtendedIdeal g.told.system (relation_poly g.told.system r)) g.monic k r gens.monic.basis.members inside at in
      let lead = holds-at (λ r. length r.lead ≡ space_count g.told.system) g.monic k r gens.monic.leads inside at in
      let tail = holds-at (λ r. IsTail g.told.system r.tail) g.monic k r gens.monic.tails inside at in
      let below = holds-at (λ r. All (λ t. grevlex t.0 r.lead ≡ Less) r.tail) g.monic k r gens.monic.basis.tails_below inside at in
      cleared_vanishes g.told.system gens.form none r item (raised_cleared with_fractions r q item raised ties (λ k d low. record { exponents = tail.exponents k d low; nonzero = (tail.fractions k d low).nonzero; below = below k d low }) lead) member
    where
      with_fractions : Certificate
      with_fractions = record { kind = full; system = g.told.system; fractions = g.fractions; invariance = []; laws = []; basis = []; inputs = []; pairs = []; relations = [] }

-- what is the same as a member is one
pub vanishes-same : (s : System) (f h : Poly) → IsSame (poly_ops (residue_ops s.p)) (at_graph s f) (at_graph s h) → IsMember (residue_ops s.p) s.ideal (at_graph s f) → IsMember (residue_ops s.p) s.ideal (at_graph s h)
vanishes-same s f h e m = record {
  cofactors = m.cofactors;
  as_many = m.as_many;
  sums_up = facts.then (poly_ops (residue_ops s.p)) (poly_laws (residue_ops s.p) (residue_laws s.p)) (facts.back (poly_ops (residue_ops s.p)) (poly_laws (residue_ops s.p) (residue_laws s.p)) e) m.sums_up;
}
