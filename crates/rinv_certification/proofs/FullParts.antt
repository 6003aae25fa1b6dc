-- A certificate of generators of kind `full`: its basis, inputs, pairs and relations.
--   basis_form           these parts have their form
--   full_accepted        it is accepted, where all products fit
use Rattle.std.proofs.Common.{◌≡◌, ℕ, ◌+◌, ◌*◌, ◌<◌, true, not, List, [], ◌∷◌, ◌++◌, append-nil, length, length-append, map, take, get_or, zip, None, refl, sym, ◌∙◌, ap, ap₂, subst, arith, IsTrue}
use Rattle.std.specs.Prelude.{IsFalse, All, ◌&&◌}
use Rattle.std.specs.List.{AllZip, list_all}
use Rattle.std.proofs.lemmas.List.{length-map}
use Rattle.std.proofs.lemmas.List.FromFn.{length-map-range_with_len}
use Rattle.std.proofs.lemmas.List.Folds.{list_all-append}
use Rattle.std.proofs.lemmas.List.Elements.{All-head, All-tail, All-nil, All-cons}
use Rattle.rinv_algebra.specs.Ring.{IsSame}
use Rattle.rinv_algebra.specs.Residue.{residue_ops}
use Rattle.rinv_algebra.specs.Polynomial.{poly_ops, is_zero, past}
use Rattle.rinv_algebra.specs.Normal.{is_in_variables}
use Rattle.rinv_algebra.specs.Ideal.{IsMember, combination}
use Rattle.rinv_algebra.specs.Fits.{combination_fits}
use Rattle.rinv_algebra.proofs.BlockOrder.{block_order_laws}
use Rattle.rinv_algebra.proofs.Grevlex.{block_order_ties}
use Rattle.rinv_algebra.proofs.ResidueLaws.{residue_laws}
use Rattle.rinv_algebra.proofs.ResidueField.{residue_field_laws}
use Rattle.rinv_algebra.proofs.Same.{both, and_true}
use Rattle.rinv_groebner.specs.Orders.{OrdersMonomials}
use Rattle.rinv_groebner.specs.Division.{AreSame}
use Rattle.rinv_groebner.specs.Journal.{Entry, Journal, IsComplete, nonzeros}
use Rattle.rinv_groebner.proofs.ListElements.{AllFirst, all_first}
use Rattle.rinv_groebner.proofs.JournalFacts.{ListFacts, journal-facts}
use Rattle.rinv_defs.specs.System.{System, Poly, group_count, space_count}
use Rattle.rinv_defs.specs.SystemForm.{is_good, are_good}
use Rattle.rinv_defs.specs.Laws.{all_laws}
use Rattle.rinv_defs.specs.Invariant.{Fraction}
use Rattle.rinv_defs.specs.Extended.{action_ideal, graph}
use Rattle.rinv_defs.specs.Certificate.{Certificate, full, BasisItem, PairItem}
use Rattle.rinv_defs.specs.Format.{is_basis_item, is_pair_item, common_parts, law_parts, basis_parts, format_failure}
use Rattle.rinv_defs.specs.Conditions.{elements, law_failure, basis_failure, inputs_failure, invariance_failure}
use Rattle.rinv_defs.specs.PairConditions.{action_order, pairs_failure}
use Rattle.rinv_defs.specs.RelationConditions.{relations_failure, leads_failure}
use Rattle.rinv_defs.specs.Accepted.{first_failure, IsAccepted}
use Rattle.rinv_defs.proofs.Sound.{normal_in_variables}
use Rattle.rinv_defs.proofs.Tests.{not-true}
use Rattle.rinv_soundness.proofs.GeneratorLists.{within_list}
use Rattle.rinv_soundness.proofs.SystemForms.{system_form}
use Rattle.rinv_coefficients.specs.Coefficients.{IsOrderedBasis}
use Rattle.rinv_generators.specs.Generated.{Generated, IsGenerators}
use Rattle.rinv_acceptance.specs.Fits.{all_multiply, law_multiplies, at_graph_multiplies, pair_multiplies, relation_multiplies, change_multiplies}
use Rattle.rinv_acceptance.specs.Inputs.{input_row}
use Rattle.rinv_acceptance.proofs.ActionVariables.{action_in, modulus_listed}
use Rattle.rinv_acceptance.proofs.InputRows.{rows_sum, rows_form}
use Rattle.rinv_acceptance.proofs.JournalPrefixes.{journal_begins}
use Rattle.rinv_acceptance.proofs.JournalItems.{IsItem, items_hold, zip_cut}
use Rattle.rinv_acceptance.proofs.ItemForms.{items_form}
use Rattle.rinv_acceptance.proofs.LawForms.{graph_exact}
use Rattle.rinv_acceptance.proofs.HeldConditions.{SumsOnGraph, basis_holds, inputs_hold, relations_hold}
use Rattle.rinv_acceptance.proofs.CoveredBasis.{leads_hold}
use Rattle.rinv_acceptance.proofs.Forms.{first_none, all_conditions}
use Rattle.rinv_change.specs.Changes.{change_count}
use Rattle.rinv_recording.specs.Recorded.{elements_after, IsPairItemOf}
use Rattle.rinv_certification.specs.Made.{IsBasisItemOf, IsRelationItemOf, HasBasisPart}
use Rattle.rinv_certification.proofs.CommonParts.{equal, cofactors_form, with_keys, common_form, law_form, laws_shown, changes_shown}
use Rattle.rinv_certification.proofs.PairParts.{StandsFor, pair_items}
use Rattle.rinv_certification.proofs.RelationParts.{relation_leads, relations_shown, relations_formed}

-- the elements of the basis are those of the list
pub elements_of : (g : Generated) (c : Certificate) → HasBasisPart g c → elements c ≡ g.action.polys
elements_of g c part = go g.action.polys c.basis part.basis
  where
    go : (hs : List Poly) (bs : List BasisItem) → AllZip (IsBasisItemOf g.told.system g.group) hs bs → map (λ b. b.h) bs ≡ hs
    go [] [] z = refl
    go [] (b ∷ bs) z = absurd z
    go (h ∷ hs) [] z = absurd z
    go (h ∷ hs) (b ∷ bs) z = ap₂ ◌∷◌ z.0.element (go hs bs z.1)

module _ (g : Generated) (gens : IsGenerators g) (none : g.told.system.section ≡ []) (c : Certificate) (part : HasBasisPart g c) where
  abbrev s : System
  s = g.told.system

  -- without its section it is itself
  same_system : ◌≡◌ {A = System} (record g.told.system { section = [] }) g.told.system
  same_system = ap (λ (gs : List Poly). record g.told.system { section = gs }) (sym none)

  abbrev C : Certificate
  C = with_keys g gens full c.basis c.inputs c.pairs c.relations

  abbrev v : ℕ
  v = group_count g.told.system + 2 * space_count g.told.system

  order : OrdersMonomials (action_order g.told.system) v
  order = record {
    laws = block_order_laws (group_count g.told.system ∷ space_count g.told.system ∷ space_count g.told.system ∷ []);
    ties = λ a b la lb. block_order_ties (group_count g.told.system ∷ space_count g.told.system ∷ space_count g.told.system ∷ []) a b (la ∙ sym lb) (omega (arith, la));
  }

  given_first : AllFirst (residue_ops g.told.system.p) (residue_laws g.told.system.p) v (action_ideal g.told.system)
  given_first = all_first (residue_ops g.told.system.p) (residue_laws g.told.system.p) v (action_ideal g.told.system) (action_in g.told.system gens.form none)

  elements_are : elements C ≡ g.action.polys
  elements_are = elements_of g c part

  count : length c.basis ≡ length g.action.polys
  count = sym (length-map c.basis (λ b. b.h)) ∙ ap length elements_are

  final : ListFacts (residue_ops g.told.system.p) (residue_laws g.told.system.p) (residue_field_laws g.told.system.p) (action_order g.told.system) (group_count g.told.system + 2 * space_count g.told.system) order (action_ideal g.told.system) given_first g.action.polys
  final = journal-facts (residue_ops g.told.system.p) (residue_laws g.told.system.p) (residue_field_laws g.told.system.p) (action_order g.told.system) (group_count g.told.system + 2 * space_count g.told.system) order (action_ideal g.told.system) given_first gens.action.journal

  -- ---- the basis

  sums_from : (hs : List Poly) (bs : List BasisItem) → AllZip (IsBasisItemOf g.told.system g.group) hs bs → All (λ b. SumsOnGraph C b.h b.cofactors) bs
  sums_from [] [] z = All-nil (λ (b : BasisItem). SumsOnGraph C b.h b.cofactors)
  sums_from [] (b ∷ bs) z = absurd z
  sums_from (h ∷ hs) [] z = absurd z
  sums_from (h ∷ hs) (b ∷ bs) z = All-cons (λ b. SumsOnGraph C b.h b.cofactors) b bs
      (subst (λ f. SumsOnGraph C f b.cofactors) (sym z.0.element) z.0.cofactors.sums_up) (sums_from hs bs z.1)

  nonzero_all : All (λ h. IsFalse (is_zero (residue_ops g.told.system.p) h)) g.action.polys
  nonzero_all k d low = ap (is_zero (residue_ops g.told.system.p)) (within_list g.action.polys k d [] low) ∙ final.nonzero k low

  items_good : (hs : List Poly) (bs : List BasisItem) → AllZip (IsBasisItemOf g.told.system g.group) hs bs → All (λ h. is_good g.told.system (group_count g.told.system + 2 * space_count g.told.system) h ≡ true) hs → All (λ h. IsFalse (is_zero (residue_ops g.told.system.p) h)) hs → list_all (is_basis_item g.told.system) bs ≡ true
  items_good [] [] z a n = refl
  items_good [] (b ∷ bs) z a n = absurd z
  items_good (h ∷ hs) [] z a n = absurd z
  items_good (h ∷ hs) (b ∷ bs) z a n =
      and_true _ _ (and_true _ _ (and_true _ _ (ap (is_good g.told.system (group_count g.told.system + 2 * space_count g.told.system)) z.0.element ∙ All-head (λ h. is_good g.told.system (group_count g.told.system + 2 * space_count g.told.system) h ≡ true) h hs a)
      (ap not (ap (is_zero (residue_ops g.told.system.p)) z.0.element ∙ All-head (λ h. IsFalse (is_zero (residue_ops g.told.system.p) h)) h hs n)))
      (cofactors_form g.told.system (change_count g.told.system) b.cofactors z.0.cofactors.number z.0.cofactors.normal))
      (items_good hs bs z.1 (All-tail (λ h. is_good g.told.system (group_count g.told.system + 2 * space_count g.told.system) h ≡ true) h hs a) (All-tail (λ h. IsFalse (is_zero (residue_ops g.told.system.p) h)) h hs n))

  -- ---- the inputs

  whole : action_ideal g.told.system ≡ g.told.system.ideal ++ graph g.told.system
  whole = ap (λ (gs : List Poly). g.told.system.ideal ++ graph g.told.system ++ map (past (group_count g.told.system)) gs) none ∙ append-nil (g.told.system.ideal ++ graph g.told.system)

  inputs_sum : (k : ℕ) → k < length (g.told.system.ideal ++ graph g.told.system) → IsSame (poly_ops (residue_ops g.told.system.p)) (get_or (g.told.system.ideal ++ graph g.told.system) k []) (combination (residue_ops g.told.system.p) (get_or c.inputs k []) (elements C))
  inputs_sum k low =
      let (start, more, alike, split) = journal_begins (residue_ops g.told.system.p) (action_order g.told.system) (action_ideal g.told.system) gens.action.journal in
      subst (λ hs. IsSame (poly_ops (residue_ops g.told.system.p)) (get_or (g.told.system.ideal ++ graph g.told.system) k []) (combination (residue_ops g.told.system.p) (get_or c.inputs k []) hs)) (sym elements_are)
      (subst (λ (rows : List (List Poly)). IsSame (poly_ops (residue_ops g.told.system.p)) (get_or (g.told.system.ideal ++ graph g.told.system) k []) (combination (residue_ops g.told.system.p) (get_or rows k []) g.action.polys)) (sym part.inputs)
      (rows_sum g.told.system (g.told.system.ideal ++ graph g.told.system) g.action.polys start more (subst (λ fs. AreSame (residue_ops g.told.system.p) start (nonzeros (residue_ops g.told.system.p) fs)) whole alike) split k low))

  inputs_good : (length c.inputs ≡ length g.told.system.ideal + space_count g.told.system) × (list_all (are_good g.told.system (length g.action.polys) (group_count g.told.system + 2 * space_count g.told.system)) c.inputs ≡ true)
  inputs_good = (
    ap length part.inputs ∙ length-map-range_with_len (input_row g.told.system (length g.action.polys) (g.told.system.ideal ++ graph g.told.system)) 0 (length (g.told.system.ideal ++ graph g.told.system))
        ∙ length-append g.told.system.ideal (graph g.told.system) ∙ ap (λ (n : ℕ). length g.told.system.ideal + n) (graph_exact g.told.system (system_form g.told.system gens.form)),
    ap (list_all (are_good g.told.system (length g.action.polys) (group_count g.told.system + 2 * space_count g.told.system))) part.inputs ∙ rows_form g.told.system (modulus_listed g.told.system gens.form) (length g.action.polys) (g.told.system.ideal ++ graph g.told.system),
  )

  -- ---- the pairs

  stand : AllZip (StandsFor C g.action c.pairs (action_ideal g.told.system) given_first order elements_are gens.action.journal) c.pairs g.action.journal
  stand = pair_items C g.action c.pairs (action_ideal g.told.system) given_first order elements_are gens.action.journal part.pairs.number
      (subst (λ (t : System). (k : ℕ) (e : Entry) (item : PairItem) → k < length c.pairs → e ≡ get_or g.action.journal k e → item ≡ get_or c.pairs k item
      → IsPairItemOf t (take (elements_after t (action_ideal g.told.system) (take k g.action.journal)) g.action.polys) (length g.action.polys) e.first e.second e.kind item) (sym same_system) part.pairs.each)

  journal_here : Journal (residue_ops g.told.system.p) (action_order g.told.system) (action_ideal g.told.system) g.action.journal (elements C)
  journal_here = subst (Journal (residue_ops g.told.system.p) (action_order g.told.system) (action_ideal g.told.system) g.action.journal) (sym elements_are) gens.action.journal

  complete_here : IsComplete (residue_ops g.told.system.p) (action_order g.told.system) g.action.journal (elements C)
  complete_here = subst (IsComplete (residue_ops g.told.system.p) (action_order g.told.system) g.action.journal) (sym elements_are) gens.action.complete

  abbrev Stands : PairItem → Entry → Type 0
  Stands t e = StandsFor C g.action c.pairs (action_ideal g.told.system) given_first order elements_are gens.action.journal t e

  zipped : AllZip (λ t e. IsItem C e t) c.pairs g.action.journal
  zipped = each c.pairs g.action.journal stand
    where
      each : (ts : List PairItem) (es : List Entry) → AllZip Stands ts es → AllZip (λ t e. IsItem C e t) ts es
      each [] [] z = tt
      each [] (e ∷ es) z = absurd z
      each (t ∷ ts) [] z = absurd z
      each (t ∷ ts) (e ∷ es) z = (z.0.item, each ts es z.1)

  pairs_good : list_all (is_pair_item C.system (length (elements C))) c.pairs ≡ true
  pairs_good = items_form C (action_ideal g.told.system) g.action.journal journal_here zipped (λ before after t split.
      (zip_cut Stands before t after g.action.journal (subst (λ (ts : List PairItem). AllZip Stands ts g.action.journal) split stand)).related.good)

  -- ---- the relations

  fractions_nonzero : (k : ℕ) → k < length g.fractions → (h : Fraction) → IsFalse (is_zero (residue_ops g.told.system.p) (get_or g.fractions k h).1)
  fractions_nonzero k low h = not-true _ (both _ _ (gens.stored k h low)).1

  ordered : IsOrderedBasis C.system g.monic
  ordered = subst (λ (t : System). IsOrderedBasis t g.monic) (sym same_system) gens.monic

  relations_of : AllZip (λ x item. IsRelationItemOf C.system g.group x.0 x.1 item) (zip g.monic g.relations) c.relations
  relations_of = subst (λ (t : System). AllZip (λ x item. IsRelationItemOf t g.group x.0 x.1 item) (zip g.monic g.relations) c.relations) (sym same_system) part.relations

  -- ---- the leading monomials

  facts_here : ListFacts (residue_ops g.told.system.p) (residue_laws g.told.system.p) (residue_field_laws g.told.system.p) (action_order g.told.system) (group_count g.told.system + 2 * space_count g.told.system) order (action_ideal g.told.system) given_first (elements C)
  facts_here = subst (ListFacts (residue_ops g.told.system.p) (residue_laws g.told.system.p) (residue_field_laws g.told.system.p) (action_order g.told.system) (group_count g.told.system + 2 * space_count g.told.system) order (action_ideal g.told.system) given_first) (sym elements_are) final

  in_variables : (k : ℕ) → k < length (elements C) → IsTrue (is_in_variables (group_count g.told.system + 2 * space_count g.told.system) (get_or (elements C) k []))
  in_variables = subst (λ (hs : List Poly). (k : ℕ) → k < length hs → IsTrue (is_in_variables (group_count g.told.system + 2 * space_count g.told.system) (get_or hs k []))) (sym elements_are)
      (λ k low. normal_in_variables g.told.system (group_count g.told.system + 2 * space_count g.told.system) (get_or g.action.polys k []) (gens.action.normal k [] low))

  members : (k : ℕ) → IsMember (residue_ops g.told.system.p) (action_ideal C.system) (get_or (elements C) k [])
  members k = subst (λ (t : System). IsMember (residue_ops g.told.system.p) (action_ideal t) (get_or (elements C) k [])) (sym same_system) (facts_here.members k)

  -- ---- the whole

  module _ (fits_relations : list_all (relation_multiplies C) c.relations ≡ true) where
    -- these parts have their form
    pub basis_form : list_all (λ p. p.1) (basis_parts C) ≡ true
    basis_form =
        and_true _ _ (items_good g.action.polys c.basis part.basis gens.action.normal nonzero_all)
        (and_true _ _ (and_true _ _ (equal _ _ inputs_good.0) (subst (λ (n : ℕ). list_all (are_good g.told.system n (group_count g.told.system + 2 * space_count g.told.system)) c.inputs ≡ true) (sym count) inputs_good.1))
        (and_true _ _ (subst (λ (n : ℕ). list_all (is_pair_item C.system n) c.pairs ≡ true) (length-map c.basis (λ b. b.h)) pairs_good)
        (and_true _ _ (relations_formed C g.group fractions_nonzero g.monic g.relations ordered gens.relations relations_of fits_relations) refl)))

    pub full_form : format_failure C ≡ None
    unfolding format_failure
    full_form = first_none (common_parts C ++ law_parts C ++ basis_parts C)
        (list_all-append (λ p. p.1) (common_parts C ++ law_parts C) (basis_parts C) ∙ and_true _ _ (list_all-append (λ p. p.1) (common_parts C) (law_parts C) ∙ and_true _ _ (common_form g gens full c.basis c.inputs c.pairs c.relations) (law_form g gens full c.basis c.inputs c.pairs c.relations)) basis_form)

  -- it is accepted, where all products fit
  pub full_accepted : all_multiply C ≡ true → IsAccepted C
  unfolding all_multiply first_failure graph
  full_accepted fits =
      let a = both (list_all (law_multiplies C) all_laws && list_all (λ b. at_graph_multiplies C.system b.h b.cofactors) c.basis && list_all (λ row. combination_fits (residue_ops C.system.p) row (elements C)) c.inputs && list_all (pair_multiplies C) c.pairs && list_all (relation_multiplies C) c.relations) (list_all (change_multiplies C.system) (zip g.fractions g.proofs)) fits in
      let b = both (list_all (law_multiplies C) all_laws && list_all (λ b. at_graph_multiplies C.system b.h b.cofactors) c.basis && list_all (λ row. combination_fits (residue_ops C.system.p) row (elements C)) c.inputs && list_all (pair_multiplies C) c.pairs) (list_all (relation_multiplies C) c.relations) a.0 in
      let d = both (list_all (law_multiplies C) all_laws && list_all (λ b. at_graph_multiplies C.system b.h b.cofactors) c.basis && list_all (λ row. combination_fits (residue_ops C.system.p) row (elements C)) c.inputs) (list_all (pair_multiplies C) c.pairs) b.0 in
      let e = both (list_all (law_multiplies C) all_laws && list_all (λ b. at_graph_multiplies C.system b.h b.cofactors) c.basis) (list_all (λ row. combination_fits (residue_ops C.system.p) row (elements C)) c.inputs) d.0 in
      let f = both (list_all (law_multiplies C) all_laws) (list_all (λ b. at_graph_multiplies C.system b.h b.cofactors) c.basis) e.0 in
      all_conditions ((1, format_failure C) ∷ (2, law_failure C) ∷ (3, basis_failure C) ∷ (4, inputs_failure C) ∷ (5, pairs_failure C) ∷ (6, relations_failure C) ∷ (7, leads_failure C) ∷ (8, invariance_failure C) ∷ []) (
        full_form b.1,
        (
          laws_shown g gens full c.basis c.inputs c.pairs c.relations f.0,
          (
            basis_holds C f.1 (sums_from g.action.polys c.basis part.basis),
            (
              inputs_hold C e.1 (λ k low high. inputs_sum k low),
              (
                items_hold C (action_ideal g.told.system) g.action.journal journal_here zipped complete_here d.1,
                (
                  relations_hold C b.1 (relations_shown C g.group fractions_nonzero g.monic g.relations ordered gens.relations relations_of b.1),
                  (
                    leads_hold C g.monic ordered.basis (relation_leads C g.group fractions_nonzero g.monic g.relations ordered gens.relations relations_of b.1) in_variables facts_here.nonzero members,
                    (
                      changes_shown g gens full c.basis c.inputs c.pairs c.relations a.1,
                      tt,
                    ),
                  ),
                ),
              ),
            ),
          ),
        ),
      )
