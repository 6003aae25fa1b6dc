-- The division of a value at Z = g by the kept elements of the group's basis, and the cofactors that its quotients make.
--   point-length         how long what stands for the variables is
--   value-at             the value, as it is stored
--   quotients-number     as many quotients as lists
--   divided-at           the quotients of a value in the group's ideal
--   division-meets       the degrees that its division meets
--   value-proved         the sums of products are the cofactors of the value
--   sums-meet            the degrees that they meet
--   identity-meets       those of the cofactors times the ideal
use Rattle.std.proofs.Common.{◌≡◌, ◌<◌, ◌*◌, ◌++◌, length-append, arith, ℕ, Bool, true, false, List, [], ◌∷◌, length, get_or, map, nat_lt, IsTrue, refl, sym, ◌∙◌, ap, subst, subst₂}
use Rattle.std.specs.Prelude.{Result, IfOk, IfErr, OnOk}
use Rattle.std.specs.Result.{MatchResult}
use Rattle.std.specs.List.{range_with_len}
use Rattle.std.proofs.lemmas.List.{length-map}
use Rattle.std.proofs.lemmas.List.Elements.{length_all_zip}
use Rattle.std.proofs.lemmas.List.FromFn.{length-range_with_len, length-map-range_with_len}
use Rattle.rinv_algebra.specs.Ring.{IsSame}
use Rattle.rinv_algebra.specs.Residue.{residue_ops}
use Rattle.rinv_algebra.specs.Order.{grevlex}
use Rattle.rinv_algebra.specs.Polynomial.{poly_ops, is_zero, variable}
use Rattle.rinv_algebra.specs.Normal.{IsNormal}
use Rattle.rinv_algebra.specs.Value.{substitute}
use Rattle.rinv_algebra.specs.Ideal.{IsMember, combination}
use Rattle.rinv_algebra.specs.Fits.{substitution_fits, combination_fits}
use Rattle.rinv_algebra.proofs.Degrees.{product_fits-same}
use Rattle.rinv_algebra.proofs.PolynomialLaws.{poly_laws}
use Rattle.rinv_algebra.proofs.ResidueLaws.{residue_laws}
use Rattle.rinv_algebra.proofs.ResidueField.{residue_field_laws}
use Rattle.rinv_algebra.proofs.RingFacts as facts
use Rattle.rinv_groebner.specs.Orders.{AreInVariables}
use Rattle.rinv_groebner.specs.Division.{Step, AreSame, IsDivision, quotients, quotient_at}
use Rattle.rinv_ring.specs.Fault.{DegreesMeet}
use Rattle.rinv_ring.specs.declared.fault.RingFault.{RingFault}
use Rattle.rinv_poly.proofs.Meets.{meet-weaker}
use Rattle.rinv_sub.specs.Refusal.{CombinationMeets, never}
use Rattle.rinv_fits.specs.Sums.{SumsMeet}
use Rattle.rinv_div.specs.Stops.{Divides, StepsMeet}
use Rattle.rinv_div.proofs.Summed.{identity}
use Rattle.rinv_buch.specs.Kinds.{Found}
use Rattle.rinv_buch.proofs.InVariables.{all-in_variables}
use Rattle.rinv_cofactors.specs.Combining.{column, cofactor}
use Rattle.rinv_cofactors.proofs.CombinedSums.{combination-right, column-sums}
use Rattle.rinv_text.proofs.SystemParts.{parts-of}
use Rattle.rinv_defs.specs.System.{System, Poly, group_count, space_count, group_copy, space_behind}
use Rattle.rinv_defs.specs.SystemForm.{IsSystem}
use Rattle.rinv_defs.specs.Conditions.{graph_point}
use Rattle.rinv_reduction.specs.Localised.{all_count}
use Rattle.rinv_parts.specs.Points.{ArePolynomials, AreStored}
use Rattle.rinv_parts.specs.Substitutions.{IsValue, TakenMeets}
use Rattle.rinv_parts.proofs.Stored.{stored-same}
use Rattle.rinv_parts.proofs.Values.{value-answer}
use Rattle.rinv_laws.specs.Group.{IsGroupBasis}
use Rattle.rinv_laws.specs.Proofs.{ProductsMeet, kept_elements}
use Rattle.rinv_laws.proofs.KeptBasis.{rest-outside}
use Rattle.rinv_change.specs.Changes.{change_count}
use Rattle.rinv_change.specs.Cofactors.{AreWideCofactors, FollowRule}
use Rattle.rinv_change.proofs.WideLists.{columns-same}
use Rattle.rinv_change.proofs.DividedChanges.{kept-groebner}
use Rattle.rinv_laws.proofs.CopiedCofactors.{entries-same}
use Rattle.rinv_at_graph.specs.AtGraph.{AtGraphMeets, in_identity, CofactorMeets, DivisionMeets, IsProved, ProvesAtGraph, at_graph}
use Rattle.rinv_at_graph.specs.Quotients.{AreQuotientsAt}

-- ---- the point

-- what stands for the variables is as long as they are many
pub point-length : (s : System) → IsSystem s → length (graph_point s) ≡ all_count s
point-length s system =
    let o = residue_ops s.p in
    let parts = parts-of s system in
    omega (
      arith,
      length-append (group_copy s 0 ++ s.action) (space_behind s 1),
      length-append (group_copy s 0) s.action,
      length-map-range_with_len (variable o) (0 * group_count s) (group_count s),
      length-map-range_with_len (variable o) (1 * group_count s) (space_count s),
      parts.action_count,
    )

-- ---- the value

-- the value, by what stands for the point in a ring with these numbers
pub value-at : (s : System) (p v : ℕ) (point : List Poly) (h : Poly) (result : Result Poly RingFault) → p ≡ s.p → v ≡ change_count s → AreStored s.p (change_count s) (graph_point s) point
    → IfOk result (λ r. IsNormal (residue_ops p) (λ c. nat_lt c p) v r) → IfOk result (λ r. IsSame (poly_ops (residue_ops p)) r (substitute (residue_ops p) point h))
    → OnOk result (substitution_fits (residue_ops p) point h ≡ true) → IfErr result (DegreesMeet (TakenMeets p v point h))
    → MatchResult result (IsValue s.p (change_count s) (graph_point s) h) (DegreesMeet (TakenMeets s.p (change_count s) (graph_point s) h))
value-at s p v point h result a b stored normal value fits degree =
    value-answer s.p (change_count s) (graph_point s) point h result stored
    (subst₂ (λ (q w : ℕ). IfOk result (λ r. IsNormal (residue_ops q) (λ c. nat_lt c q) w r)) a b normal)
    (subst (λ (q : ℕ). IfOk result (λ r. IsSame (poly_ops (residue_ops q)) r (substitute (residue_ops q) point h))) a value)
    (subst (λ (q : ℕ). OnOk result (substitution_fits (residue_ops q) point h ≡ true)) a fits)
    (subst₂ (λ (q w : ℕ). IfErr result (DegreesMeet (TakenMeets q w point h))) a b degree)

-- ---- the quotients

module _ (s : System) (found : Found ℕ) (ws : List (List Poly)) (wide : AreWideCofactors s found ws) where
  wide-number : length ws ≡ length wide.lists
  wide-number = length_all_zip (AreSame (residue_ops s.p)) ws wide.lists wide.same

  kept-number : length (kept_elements s found) ≡ length wide.lists
  kept-number = length_all_zip (IsSame (poly_ops (residue_ops s.p))) (kept_elements s found) (map (λ us. combination (residue_ops s.p) us s.ideal) wide.lists) wide.keep.sums_up ∙ length-map wide.lists (λ us. combination (residue_ops s.p) us s.ideal)

  -- as many quotients as lists
  pub quotients-number : (p : ℕ) (hs others : List Poly) (g : Poly) (qs : List Poly) (rest : Poly) (steps : List (Step ℕ)) → AreSame (residue_ops s.p) hs (kept_elements s found) → others ≡ hs
      → Divides (residue_ops p) grevlex others g qs rest steps → length qs ≡ length ws
  quotients-number p hs others g qs rest steps alike same d =
      length_all_zip (IsSame (poly_ops (residue_ops p))) qs (quotients (length others) steps) d.quotients
      ∙ length-map (range_with_len 0 (length others)) (quotient_at steps) ∙ length-range_with_len 0 (length others) ∙ ap (λ (fs : List Poly). length fs) same
      ∙ length_all_zip (IsSame (poly_ops (residue_ops s.p))) hs (kept_elements s found) alike ∙ kept-number ∙ sym wide-number

module _ (s : System) (found : Found ℕ) (reduced : List Poly) (system : IsSystem s) (group : IsGroupBasis s found reduced) (h g : Poly) (hs others : List Poly) (p : ℕ) (field : p ≡ s.p) (value : IsSame (poly_ops (residue_ops s.p)) g (at_graph s h))
    (alike : AreSame (residue_ops s.p) hs (kept_elements s found)) (normal : ArePolynomials s.p (change_count s) hs) (same : others ≡ hs) where
  hs-in : AreInVariables (change_count s) hs
  hs-in = all-in_variables (residue_ops s.p) (λ c. nat_lt c s.p) (change_count s) hs normal

  -- of a value in the ideal nothing is left
  left-nothing : (rest : Poly) (steps : List (Step ℕ)) → IsDivision (residue_ops s.p) grevlex hs g steps rest → IsMember (residue_ops s.p) s.ideal (at_graph s h) → IsTrue (is_zero (residue_ops s.p) rest)
  left-nothing rest steps d member = go (is_zero (residue_ops s.p) rest) (λ n. rest-outside (residue_ops s.p) (residue_laws s.p) (residue_field_laws s.p) (change_count s) s.ideal hs hs-in (kept-groebner s found reduced system group hs alike) g (at_graph s h) rest steps value d n member)
    where
      go : (b : Bool) → (b ≡ false → ⊥) → b ≡ true
      go true k = refl
      go false k = absurd (k refl)

  -- its quotients
  pub divided-at : (v : ℕ) → v ≡ change_count s → (qs : List Poly) (rest : Poly) (steps : List (Step ℕ)) → Divides (residue_ops p) grevlex others g qs rest steps → ArePolynomials p v qs
      → IsMember (residue_ops s.p) s.ideal (at_graph s h) → AreQuotientsAt s found h qs
  divided-at v vars qs rest steps d qs_normal member =
      let own : Divides (residue_ops s.p) grevlex hs g qs rest steps = subst₂ (λ (q : ℕ) (fs : List Poly). Divides (residue_ops q) grevlex fs g qs rest steps) field same d in
      record {
        normal = subst₂ (λ (q w : ℕ). ArePolynomials q w qs) field vars qs_normal;
        rest = rest;
        divides = record { g = g; hs = hs; asked = record { value = value; basis = alike }; steps = steps; divides = own };
        nothing = left-nothing rest steps own.is_division member;
      }

  -- the degrees that its division meets
  pub division-meets : (fault : RingFault) → DegreesMeet (StepsMeet (residue_ops p) grevlex others g (λ c. nat_lt c p) never) fault → DegreesMeet (DivisionMeets s found h) fault
  division-meets fault meets = meet-weaker (StepsMeet (residue_ops p) grevlex others g (λ c. nat_lt c p) never) (DivisionMeets s found h) (λ x y m. record {
    g = g;
    hs = hs;
    asked = record { value = value; basis = alike };
    meets = subst₂ (λ (q : ℕ) (fs : List Poly). StepsMeet (residue_ops q) grevlex fs g (λ c. nat_lt c q) never x y) field same m;
  }) fault meets

-- ---- the cofactors

module _ (s : System) (found : Found ℕ) (h : Poly) (ws : List (List Poly)) (wide : AreWideCofactors s found ws) (qs : List Poly) (own : AreQuotientsAt s found h qs) where
  -- the sums of products are the cofactors of the value
  pub value-proved : (us : List Poly) → length us ≡ length s.ideal → ArePolynomials s.p (change_count s) us
      → ((m : ℕ) → m < length s.ideal → IsSame (poly_ops (residue_ops s.p)) (get_or us m []) (combination (residue_ops s.p) qs (column ws m))) → ProvesAtGraph s found h us
  value-proved us number normal made = record {
    number = number;
    normal = normal;
    sums_up = sums;
    lists = wide.lists;
    kept = wide.keep.kept;
    quotients = qs;
    rest = own.rest;
    divides = own.divides;
    rule = rule;
  }
    where
      rule : FollowRule s wide.lists qs us
      rule m low = facts.then (poly_ops (residue_ops s.p)) (poly_laws (residue_ops s.p) (residue_laws s.p)) (made m low)
          (combination-right (residue_ops s.p) (residue_laws s.p) qs (column ws m) (column wide.lists m) (columns-same (residue_ops s.p) (residue_laws s.p) ws wide.lists wide.same m))

      sums : IsSame (poly_ops (residue_ops s.p)) (at_graph s h) (combination (residue_ops s.p) us s.ideal)
      sums =
          let o = residue_ops s.p in
          let l = residue_laws s.p in
          let laws = poly_laws o l in
          let d = own.divides in
          let whole = combination o qs d.hs in
          let kept = kept_elements s found in
          let combined = map (λ us. combination o us s.ideal) wide.lists in
          facts.then (poly_ops o) laws (laws.same_sym d.g (at_graph s h) d.asked.value)
          (facts.then (poly_ops o) laws (identity o l grevlex d.hs qs d.g own.rest d.steps d.divides)
          (facts.then (poly_ops o) laws (facts.add2 (poly_ops o) laws (laws.same_refl whole) own.nothing)
          (facts.then (poly_ops o) laws (laws.add_zero whole)
          (facts.then (poly_ops o) laws (combination-right o l qs d.hs kept d.asked.basis)
          (facts.then (poly_ops o) laws (combination-right o l qs kept combined wide.keep.sums_up)
          (laws.same_sym (combination o us s.ideal) (combination o qs combined) (column-sums o l s.ideal qs us wide.lists rule)))))))

  -- the degrees that they meet
  pub sums-meet : (fault : RingFault) → DegreesMeet (ProductsMeet s.p qs ws) fault → DegreesMeet (CofactorMeets s found h) fault
  sums-meet fault meets = meet-weaker (ProductsMeet s.p qs ws) (CofactorMeets s found h) (λ x y m. record {
    quotients = qs;
    rest = own.rest;
    divides = own.divides;
    lists = wide.lists;
    kept = wide.keep.kept;
    element = m.element;
    given = m.given;
    g = cofactor ws m.element m.given;
    is_cofactor = entries-same (residue_ops s.p) (residue_laws s.p) ws wide.lists wide.same m.element m.given;
    meets = m.meets;
  }) fault meets

-- ---- the products of the cofactors and the ideal

-- generators that are the same give products that fit where the others do
fits-generators : (p : ℕ) (us gs fs : List Poly) → AreSame (residue_ops p) gs fs → combination_fits (residue_ops p) us gs ≡ combination_fits (residue_ops p) us fs
unfolding combination_fits
fits-generators p [] gs fs s = refl
fits-generators p (u ∷ us) [] [] s = refl
fits-generators p (u ∷ us) [] (f ∷ fs) s = absurd s
fits-generators p (u ∷ us) (g ∷ gs) [] s = absurd s
fits-generators p (u ∷ us) (g ∷ gs) (f ∷ fs) s =
    let rest = fits-generators p us gs fs s.1 in
    rw (product_fits-same (residue_ops p) (residue_laws p) u u g f ((poly_laws (residue_ops p) (residue_laws p)).same_refl u) s.0, rest) refl

module _ (s : System) (found : Found ℕ) (h : Poly) (ideal : List Poly) (stored : AreStored s.p (change_count s) s.ideal ideal) (us : List Poly) (proves : ProvesAtGraph s found h us) (p v : ℕ) (field : p ≡ s.p) (vars : v ≡ change_count s) where
  generators-same : AreSame (residue_ops s.p) ideal s.ideal
  generators-same = stored-same s.p (change_count s) s.ideal ideal stored

  -- they fit, and so does the value
  pub is-proved : substitution_fits (residue_ops s.p) (graph_point s) h ≡ true → combination_fits (residue_ops p) us ideal ≡ true → IsProved s found h us
  is-proved value fits = record {
    proof = proves;
    fits =
        let own : combination_fits (residue_ops s.p) us s.ideal ≡ true = sym (fits-generators s.p us ideal s.ideal generators-same) ∙ subst (λ (q : ℕ). combination_fits (residue_ops q) us ideal ≡ true) field fits in
        rw (value, own) refl;
  }

  -- the degrees that they meet
  pub identity-meets : (fault : RingFault) → DegreesMeet (CombinationMeets (residue_ops p) (λ c. nat_lt c p) never v us ideal) fault → DegreesMeet (AtGraphMeets s found h) fault
  identity-meets fault meets = meet-weaker (CombinationMeets (residue_ops p) (λ c. nat_lt c p) never v us ideal) (AtGraphMeets s found h) (λ x y m. in_identity (record {
    cofactors = us;
    proves = proves;
    generators = ideal;
    are_generators = generators-same;
    meets = subst₂ (λ (q w : ℕ). SumsMeet q w us ideal x y) field vars m;
  })) fault meets
