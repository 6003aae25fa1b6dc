-- The relations of a certificate of generators: their form, and what is shown of them.
--   relations_shown      each relation is shown
--   relations_formed     and has its form
--   relation_leads       and the lead of a relation of the reduced basis
use Rattle.std.proofs.Common.{◌≡◌, ℕ, ◌+◌, ◌<◌, ◌≤◌, true, not, List, [], ◌∷◌, length, map, get_or, zip, refl, sym, ◌∙◌, ap, subst}
use Rattle.std.specs.Prelude.{IsFalse, All, ◌&&◌}
use Rattle.std.specs.List.{AllZip, list_all}
use Rattle.std.specs.declared.cmp.Ordering.TheVariants.{Less}
use Rattle.std.proofs.lemmas.List.Elements.{All-head, All-tail, All-nil, All-cons}
use Rattle.rinv_algebra.specs.Residue.{residue_ops}
use Rattle.rinv_algebra.specs.Order.{grevlex}
use Rattle.rinv_algebra.specs.Polynomial.{is_zero}
use Rattle.rinv_algebra.specs.Fits.{product_fits}
use Rattle.rinv_algebra.specs.Monomial.{total_degree, max_degree}
use Rattle.rinv_algebra.proofs.ResidueLaws.{residue_laws}
use Rattle.rinv_algebra.proofs.Same.{both, and_true}
use Rattle.rinv_defs.specs.System.{System, space_count}
use Rattle.rinv_defs.specs.SystemForm.{is_good}
use Rattle.rinv_defs.specs.Invariant.{Fraction, IsFraction}
use Rattle.rinv_defs.specs.Certificate.{Certificate, TailItem, RelationItem}
use Rattle.rinv_defs.specs.Format.{is_relation_item}
use Rattle.rinv_defs.specs.RelationConditions.{relation_of, z_power, behind_z}
use Rattle.rinv_defs.specs.Extended.{Relation, FractionPoly}
use Rattle.rinv_soundness.proofs.ExtendedIdeals.{class-nonzero}
use Rattle.rinv_buch.specs.Kinds.{Found}
use Rattle.rinv_coefficients.specs.Coefficients.{IsOrderedBasis, IsTail}
use Rattle.rinv_coefficients.specs.Ties.{TiedRelation, Ties}
use Rattle.rinv_acceptance.specs.Fits.{at_graph_multiplies, relation_multiplies, tie_multiplies}
use Rattle.rinv_acceptance.specs.Raised.{denominators}
use Rattle.rinv_acceptance.proofs.CommonDenominators.{once-nonzero}
use Rattle.rinv_acceptance.proofs.CoveredBasis.{HaveLeads}
use Rattle.rinv_acceptance.proofs.HeldConditions.{IsShownBy}
use Rattle.rinv_acceptance.proofs.RaisedRelations.{IsTerm, denominator_is, raised_ties, raised_below, raised_forms, raised_distinct}
use Rattle.rinv_acceptance.proofs.Forms.{power_low, relation_form}
use Rattle.rinv_change.specs.Changes.{change_count}
use Rattle.rinv_certification.specs.Made.{IsRelationItemOf}
use Rattle.rinv_certification.proofs.CommonParts.{cofactors_form}

-- what is known of a relation of the reduced basis
pub record RelationFacts (s : System) (r : Relation) : Type 0 where
  pub below : All (λ t. grevlex t.0 r.lead ≡ Less) r.tail
  pub lead : length r.lead ≡ space_count s
  pub tail : IsTail s r.tail

module _ (c : Certificate) (group : Found ℕ) (nonzero : (k : ℕ) → k < length c.fractions → (h : Fraction) → IsFalse (is_zero (residue_ops c.system.p) (get_or c.fractions k h).1)) where
  -- what is shown of one relation
  pub record IsDone (r : Relation) (item : RelationItem) : Type 0 where
    pub lead : item.a ≡ r.lead
    pub shown : IsShownBy c item
    pub form : is_relation_item c.system c.fractions item ≡ true

  module _ (r : Relation) (q : TiedRelation) (item : RelationItem) (facts : RelationFacts c.system r) (ties : Ties c.system.p c.fractions q r) (of : IsRelationItemOf c.system group r q item) (fits : relation_multiplies c item ≡ true) where
    terms : All (IsTerm c r) r.tail
    terms k d low = record { exponents = facts.tail.exponents k d low; nonzero = (facts.tail.fractions k d low).nonzero; below = facts.below k d low }

    denominators_nonzero : (xs : FractionPoly) → All (λ t. IsFraction c.system t.1) xs → list_all (λ d. not (is_zero (residue_ops c.system.p) d)) (map (λ t. t.1.1) xs) ≡ true
    denominators_nonzero [] a = refl
    denominators_nonzero (x ∷ xs) a = and_true _ _ (ap not (All-head (λ t. IsFraction c.system t.1) x xs a).nonzero) (denominators_nonzero xs (All-tail (λ t. IsFraction c.system t.1) x xs a))

    d_nonzero : IsFalse (is_zero (residue_ops c.system.p) item.d)
    d_nonzero = class-nonzero (residue_ops c.system.p) (residue_laws c.system.p) item.d (λ z. once-nonzero c.system (denominators r) (denominators_nonzero r.tail facts.tail.fractions) (sym (denominator_is c r q item of.raised ties terms) ∙ z))

    d_good : is_good c.system (space_count c.system) item.d ≡ true
    d_good = All-head (λ f. is_good c.system (space_count c.system) f ≡ true) item.d (map (λ t. t.c) item.tail) of.normal

    tails_good : list_all (λ t. is_good c.system (space_count c.system) t.c) item.tail ≡ true
    tails_good = each item.tail (All-tail (λ f. is_good c.system (space_count c.system) f ≡ true) item.d (map (λ t. t.c) item.tail) of.normal)
      where
        each : (ts : List TailItem) → All (λ f. is_good c.system (space_count c.system) f ≡ true) (map (λ t. t.c) ts) → list_all (λ t. is_good c.system (space_count c.system) t.c) ts ≡ true
        each [] a = refl
        each (t ∷ ts) a = and_true _ _ (All-head (λ f. is_good c.system (space_count c.system) f ≡ true) t.c (map (λ t. t.c) ts) a) (each ts (All-tail (λ f. is_good c.system (space_count c.system) f ≡ true) t.c (map (λ t. t.c) ts) a))

    low : total_degree item.a ≤ max_degree
    low =
        let x = both (product_fits (residue_ops c.system.p) (z_power c.system item.a ∷ []) (behind_z c.system item.d) && list_all (λ t. product_fits (residue_ops c.system.p) (z_power c.system t.alpha ∷ []) (behind_z c.system t.c) && tie_multiplies c item.d t.c t.tied) item.tail) (at_graph_multiplies c.system (relation_of c.system item) item.cofactors) fits in
        power_low c.system item.a item.d d_nonzero (both (product_fits (residue_ops c.system.p) (z_power c.system item.a ∷ []) (behind_z c.system item.d)) _ x.0).0

    -- the relation is shown, and has its form
    pub relation_done : IsDone r item
    relation_done = record {
      lead = of.raised.a;
      shown = record {
        below = raised_below c r q item of.raised ties terms;
        ties = raised_ties c r q item of.raised ties terms nonzero;
        sums = of.cofactors.sums_up;
      };
      form = relation_form c.system c.fractions item (ap length of.raised.a ∙ facts.lead) (and_true _ _ d_good (ap not d_nonzero)) low
          (raised_forms c r q item of.raised ties terms (subst (λ (a : List ℕ). total_degree a ≤ max_degree) of.raised.a low) tails_good)
          (raised_distinct c r q item of.raised ties terms facts.tail.descending)
          (cofactors_form c.system (change_count c.system) item.cofactors of.cofactors.number of.cofactors.normal);
    }

  done_from : (rs : List Relation) (qs : List TiedRelation) (items : List RelationItem) → All (RelationFacts c.system) rs → AllZip (Ties c.system.p c.fractions) qs rs → AllZip (λ x item. IsRelationItemOf c.system group x.0 x.1 item) (zip rs qs) items → list_all (relation_multiplies c) items ≡ true → AllZip IsDone rs items
  done_from [] [] [] a t z f = tt
  done_from [] [] (item ∷ items) a t z f = absurd z
  done_from [] (q ∷ qs) items a t z f = absurd t
  done_from (r ∷ rs) [] items a t z f = absurd t
  done_from (r ∷ rs) (q ∷ qs) [] a t z f = absurd z
  done_from (r ∷ rs) (q ∷ qs) (item ∷ items) a t z f =
      let fit = both (relation_multiplies c item) _ f in
      (relation_done r q item (All-head (RelationFacts c.system) r rs a) t.0 z.0 fit.0, done_from rs qs items (All-tail (RelationFacts c.system) r rs a) t.1 z.1 fit.1)

  module _ (monic : List Relation) (relations : List TiedRelation) (ordered : IsOrderedBasis c.system monic) (ties : AllZip (Ties c.system.p c.fractions) relations monic) (of : AllZip (λ x item. IsRelationItemOf c.system group x.0 x.1 item) (zip monic relations) c.relations) (fits : list_all (relation_multiplies c) c.relations ≡ true) where
    done : AllZip IsDone monic c.relations
    done = done_from monic relations c.relations (λ k d low. record { below = ordered.basis.tails_below k d low; lead = ordered.leads k d low; tail = ordered.tails k d low }) ties of fits

    -- the leads are those of the reduced basis
    pub relation_leads : HaveLeads monic c.relations
    relation_leads = each monic c.relations done
      where
        each : (rs : List Relation) (items : List RelationItem) → AllZip IsDone rs items → HaveLeads rs items
        each [] [] z = tt
        each [] (item ∷ items) z = absurd z
        each (r ∷ rs) [] z = absurd z
        each (r ∷ rs) (item ∷ items) z = (z.0.lead, each rs items z.1)

    -- each relation is shown
    pub relations_shown : All (IsShownBy c) c.relations
    relations_shown = each monic c.relations done
      where
        each : (rs : List Relation) (items : List RelationItem) → AllZip IsDone rs items → All (IsShownBy c) items
        each [] [] z = All-nil (IsShownBy c)
        each [] (item ∷ items) z = absurd z
        each (r ∷ rs) [] z = absurd z
        each (r ∷ rs) (item ∷ items) z = All-cons (IsShownBy c) item items z.0.shown (each rs items z.1)

    -- and has its form
    pub relations_formed : list_all (is_relation_item c.system c.fractions) c.relations ≡ true
    relations_formed = each monic c.relations done
      where
        each : (rs : List Relation) (items : List RelationItem) → AllZip IsDone rs items → list_all (is_relation_item c.system c.fractions) items ≡ true
        each [] [] z = refl
        each [] (item ∷ items) z = absurd z
        each (r ∷ rs) [] z = absurd z
        each (r ∷ rs) (item ∷ items) z = and_true _ _ z.0.form (each rs items z.1)
