-- The relations of an accepted certificate are such as rewriting needs.
--   item c k             the relation at a place; item_form, item_shown, item_symbols: its form, its condition, and it with symbols
--   certificate_rewriting    the fact
use Rattle.std.proofs.Common.{◌≡◌, ℕ, zero, suc, ◌<◌, true, List, [], ◌∷◌, length, map, get_or, sym, ◌∙◌, ap, subst, arith}
use Rattle.std.specs.Prelude.{All}
use Rattle.std.specs.List.{list_all, AllByRecursion}
use Rattle.std.proofs.lemmas.List.{length-map}
use Rattle.rinv_algebra.specs.Polynomial.{poly_ops}
use Rattle.rinv_algebra.proofs.Same.{both}
use Rattle.rinv_theory.proofs.Classes.{class}
use Rattle.rinv_defs.specs.Invariant.{IsFraction, IsInvariant}
use Rattle.rinv_defs.specs.Certificate.{Certificate, RelationItem}
use Rattle.rinv_defs.specs.Format.{is_relation_item}
use Rattle.rinv_defs.specs.RelationConditions.{relation_is_shown, relations_failure}
use Rattle.rinv_defs.proofs.Tests.{none_fails}
use Rattle.rinv_soundness.specs.Rewriting.{SymbolRelation, symbol_poly, symbol_relation, symbol_relations}
use Rattle.rinv_soundness.proofs.GeneratorLists.{map_within}
use Rattle.rinv_soundness.proofs.ExtendedIdeals.{ops, Extended}
use Rattle.rinv_soundness.proofs.ActionIdeals.{generators}
use Rattle.rinv_soundness.proofs.Rewritten.{val, IsRewriting}
use Rattle.rinv_soundness.proofs.FullParts.{FullParts}
use Rattle.rinv_soundness.proofs.TiedRelations.{relation_extended}
use Rattle.rinv_soundness.proofs.LowestOfBasis.{certificate-lowest}

-- the relation at a place
abbrev pub item : Certificate → ℕ → RelationItem
item c k = get_or c.relations k (record { a = []; d = []; tail = []; cofactors = [] })

module _ (c : Certificate) (parts : FullParts c) where
  -- its form
  pub item_form : (k : ℕ) → k < length c.relations → is_relation_item c.system c.fractions (item c k) ≡ true
  item_form k h = at_place c.relations parts.relations k h
    where
      at_place : (rs : List RelationItem) → list_all (is_relation_item c.system c.fractions) rs ≡ true → (k : ℕ) → k < length rs → is_relation_item c.system c.fractions (get_or rs k (record { a = []; d = []; tail = []; cofactors = [] })) ≡ true
      at_place [] h k low = absurd (omega arith)
      at_place (r ∷ rs) h zero low = (both (is_relation_item c.system c.fractions r) _ h).0
      at_place (r ∷ rs) h (suc k) low = at_place rs (both (is_relation_item c.system c.fractions r) _ h).1 k (omega arith)

  -- its condition
  pub item_shown : (k : ℕ) → k < length c.relations → relation_is_shown c (item c k) ≡ true
  unfolding relations_failure
  item_shown k h = at_place c.relations (none_fails (relation_is_shown c) 1 c.relations parts.relations_shown) k h
    where
      at_place : (rs : List RelationItem) → AllByRecursion (λ r. relation_is_shown c r ≡ true) rs → (k : ℕ) → k < length rs → relation_is_shown c (get_or rs k (record { a = []; d = []; tail = []; cofactors = [] })) ≡ true
      at_place [] h k low = absurd (omega arith)
      at_place (r ∷ rs) h zero low = h.0
      at_place (r ∷ rs) h (suc k) low = at_place rs h.1 k (omega arith)

  -- it with symbols
  pub item_symbols : (k : ℕ) → k < length c.relations → get_or (map (symbol_poly c.system.p) (symbol_relations c)) k [] ≡ symbol_poly c.system.p (symbol_relation c.system.p (item c k))
  item_symbols k h =
      let low : k < length (symbol_relations c) = omega (arith, h, length-map c.relations (symbol_relation c.system.p)) in
      map_within (symbol_poly c.system.p) (symbol_relations c) k (record { lead = []; tail = [] }) [] low
      ∙ ap (symbol_poly c.system.p) (map_within (symbol_relation c.system.p) c.relations k (record { a = []; d = []; tail = []; cofactors = [] }) (record { lead = []; tail = [] }) h)

  -- its lead
  pub item_lead : (k : ℕ) → k < length c.relations → get_or (map (λ q. q.lead) (symbol_relations c)) k [] ≡ (item c k).a
  item_lead k h =
      let low : k < length (symbol_relations c) = omega (arith, h, length-map c.relations (symbol_relation c.system.p)) in
      map_within (λ q. q.lead) (symbol_relations c) k (record { lead = []; tail = [] }) [] low
      ∙ ap (λ (q : SymbolRelation). q.lead) (map_within (symbol_relation c.system.p) c.relations k (record { a = []; d = []; tail = []; cofactors = [] }) (record { lead = []; tail = [] }) h)

  -- the relations are such as rewriting needs
  pub certificate_rewriting : All (IsInvariant c.system) c.fractions → IsRewriting c.system (generators c.system parts.form) c.fractions (symbol_relations c)
  certificate_rewriting invariant = record {
    fractions = fractions;
    relation = λ k h.
        let low : k < length c.relations = omega (arith, h, length-map c.relations (symbol_relation c.system.p)) in
        subst (λ f. Extended c.system (generators c.system parts.form) (val c.system c.fractions (class (poly_ops (poly_ops (ops c.system))) f))) (sym (item_symbols k low)) (relation_extended c parts.form fractions (item c k) (item_form k low) (item_shown k low));
    lowest = certificate-lowest c parts;
  }
    where
      fractions : All (IsFraction c.system) c.fractions
      fractions k d h = (invariant k d h).fraction
