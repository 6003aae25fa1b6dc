-- What is chosen from the rests of an invariant's numerator and denominator is its expression.
--   rest-left            what a division in Z leaves is a rest by the relations
--   nothing-answer       where nothing is chosen, the denominator vanishes
--   choice-answer        what is chosen is the expression
--   answered             both
use Rattle.std.proofs.Common.{◌≡◌, true, List, [], ◌∷◌, length, map, All, IsTrue}
use Rattle.std.specs.Prelude.{Option, Some, None}
use Rattle.std.proofs.lemmas.List.Elements.{All-nil, All-cons, All-weaker}
use Rattle.rinv_algebra.specs.Ring.{RingOps, RingLaws}
use Rattle.rinv_algebra.specs.Residue.{residue_ops}
use Rattle.rinv_algebra.specs.Polynomial.{poly_ops, coefficient}
use Rattle.rinv_algebra.specs.Normal.{is_in_variables}
use Rattle.rinv_algebra.proofs.PolynomialLaws.{poly_laws}
use Rattle.rinv_algebra.proofs.ResidueLaws.{residue_laws}
use Rattle.rinv_algebra.proofs.Same.{both}
use Rattle.rinv_groebner.specs.Division.{AreSame}
use Rattle.rinv_groebner.proofs.ListElements.{all_first}
use Rattle.rinv_buch.proofs.InVariables.{all-in_variables}
use Rattle.rinv_frac.specs.Fractions.{IsStored}
use Rattle.rinv_frac.proofs.Stored.{stored}
use Rattle.rinv_defs.specs.System.{System, Poly, space_count}
use Rattle.rinv_defs.specs.SystemForm.{IsSystem}
use Rattle.rinv_defs.specs.Invariant.{Fraction, IsFraction, IsInvariant}
use Rattle.rinv_defs.specs.Extended.{Vanishes, action_ideal}
use Rattle.rinv_defs.specs.Generators.{Expression, HasValue}
use Rattle.rinv_defs.proofs.Sound.{normal_in_variables}
use Rattle.rinv_soundness.specs.Rewriting.{SymbolPoly, SymbolRelation, symbol_poly, in_z, IsSymbolBasis, IsRestBy}
use Rattle.rinv_soundness.proofs.Rewritten.{symbol_basis, rest-zero}
use Rattle.rinv_soundness.proofs.Vanishing.{vanishes-extended, basis-denotes}
use Rattle.rinv_coefficients.specs.Ties.{TiedRelation, with_symbols}
use Rattle.rinv_coefficients.proofs.Factors.{factor_left_out}
use Rattle.rinv_coefficients.proofs.TiedBases.{tied_basis}
use Rattle.rinv_rewrite.specs.Symbols.{IsSymbolPart, AreTied, is_symbolic}
use Rattle.rinv_rewrite.specs.Taken.{HasNoValue, LeavesInZ, DenominatorVanishes}
use Rattle.rinv_rewrite.specs.Answers.{IsStoredChoice, IsExpression, IsChoice, IsAnswer}
use Rattle.rinv_rewrite.proofs.CommonFactors.{HasFactor, cancelled_factor}
use Rattle.rinv_rewrite.proofs.DivisionRests.{division_rest}
use Rattle.rinv_rewrite.proofs.TiedRelations.{tied_relations, all_low}
use Rattle.rinv_rewrite.proofs.VanishingRests.{rest-vanishes}

module _ (s : System) (cs : List Fraction) (ts : List TiedRelation) (tied : AreTied s cs ts) where
  abbrev o : RingOps Poly
  o = poly_ops (residue_ops s.p)

  abbrev l : RingLaws (poly_ops (residue_ops s.p))
  l = poly_laws (residue_ops s.p) (residue_laws s.p)

  abbrev qs : List SymbolRelation
  qs = map (with_symbols s.p) ts

  in_variables : (f : SymbolPoly) → IsSymbolPart s.p (length cs) (space_count s) f → IsTrue (is_in_variables (space_count s) f)
  in_variables f normal = (both (is_in_variables (space_count s) f) true (all-in_variables o (is_symbolic s.p (length cs)) (space_count s) (f ∷ []) (All-cons (IsSymbolPart s.p (length cs) (space_count s)) f [] normal (All-nil (IsSymbolPart s.p (length cs) (space_count s)))))).0

  -- what a division in Z leaves is a rest by the relations
  pub rest-left : (hs : List SymbolPoly) → AreSame (poly_ops (residue_ops s.p)) hs (map (symbol_poly s.p) qs) → All (IsSymbolPart s.p (length cs) (space_count s)) hs → (f : Poly) (r : SymbolPoly) → IsSymbolPart s.p (length cs) (space_count s) r → LeavesInZ s.p hs f r → IsRestBy s qs (in_z s.p f) r
  rest-left hs alike normal f r in_form leaves =
      division_rest s qs (all_low s.p (length cs) (space_count s) ts (tied_relations s cs ts tied)) hs leaves.dividend r f leaves.steps
      (all_first o l (space_count s) hs (all-in_variables o (is_symbolic s.p (length cs)) (space_count s) hs normal)) alike leaves.is_dividend (in_variables r in_form) leaves.is_division

  is_fraction : (f : Fraction) → IsStored s.p (space_count s) f → IsFraction s f
  is_fraction f h =
      let parts = stored s.p (space_count s) f h in
      record { numerator = normal_in_variables s (space_count s) f.0 parts.numerator; denominator = normal_in_variables s (space_count s) f.1 parts.denominator; nonzero = parts.nonzero }

  module _ (fractions : All (IsStored s.p (space_count s)) cs) where
    basis : IsSymbolBasis s cs qs
    basis = tied_basis s cs ts tied.relations tied.basis.basis (All-weaker (IsStored s.p (space_count s)) (IsFraction s) is_fraction cs fractions) tied.ties

    module _ (f : Fraction) (invariant : IsInvariant s f) (b : SymbolPoly) (den : IsRestBy s qs (in_z s.p f.1) b) where
      -- where nothing is chosen, the denominator vanishes
      pub nothing-answer : HasNoValue s.p cs b → DenominatorVanishes s f
      nothing-answer none = rest-vanishes s cs b qs basis f.1 den invariant.fraction.denominator none

      -- what is chosen is the expression
      pub choice-answer : IsSystem s → (a : SymbolPoly) → IsRestBy s qs (in_z s.p f.0) a → (e : Expression) → IsStoredChoice s.p cs a b e → IsExpression s cs qs f e
      choice-answer system a num e c =
          let parts = stored s.p (length cs) e c.stored in
          let factor : HasFactor (residue_ops s.p) (residue_laws s.p) c.chosen.pair e = cancelled_factor (residue_ops s.p) (residue_laws s.p) c.chosen.pair e c.chosen.cancelled in
          let value : HasValue s.p cs (coefficient o a c.chosen.monomial, coefficient o b c.chosen.monomial) f = basis-denotes s cs qs f a b c.chosen.monomial system basis invariant num den c.chosen.greatest.has in
          record {
            lasts = λ v. c.chosen.greatest.has (rest-zero s (action_ideal s) cs qs (symbol_basis s cs qs basis) f.1 invariant.fraction.denominator (vanishes-extended s cs f.1 v) b den c.chosen.monomial);
            denotes = record {
              numerator = normal_in_variables s (length cs) e.0 parts.numerator;
              denominator = normal_in_variables s (length cs) e.1 parts.denominator;
              value = factor_left_out s.p cs (coefficient o a c.chosen.monomial) (coefficient o b c.chosen.monomial) e.0 e.1 factor.factor f
                  (l.same_trans _ c.chosen.pair.0 _ (l.same_sym c.chosen.pair.0 _ c.chosen.is_pair.numerator) factor.numerator)
                  (l.same_trans _ c.chosen.pair.1 _ (l.same_sym c.chosen.pair.1 _ c.chosen.is_pair.denominator) factor.denominator) value;
            };
            stored = c.stored;
            taken = record { numerator = a; denominator = b; numerator_rest = num; denominator_rest = den; chosen = c.chosen };
          }

      -- what is answered
      pub answered : IsSystem s → (a : SymbolPoly) → IsRestBy s qs (in_z s.p f.0) a → (r : Option Expression) → IsChoice s.p cs a b r → IsAnswer s cs qs f r
      answered system a num None c = nothing-answer c
      answered system a num (Some e) c = choice-answer system a num e c
