-- Polynomials that vanish on the section: put in Z, they lie in the extended ideal.
--   vanishes-extended, extended-vanishes    on lists and on classes
--   lasts                nothing but zero lies there, in the ideal of the group and the graph
--   vanishes_nowhere     without a section, none but zero does, where the laws hold
--   basis-denotes        rewriting by relations with symbols for the reduced basis
use Rattle.std.proofs.Common.{◌≡◌, ℕ, List, [], ◌∷◌, ◌++◌, map, refl, sym, ◌∙◌, ap, ap₂, subst}
use Rattle.std.specs.Prelude.{IsTrue, IsFalse}
use mathlib.Core.Logic.{∥∥₁_map}
use Rattle.rinv_algebra.specs.Ring.{IsSame}
use Rattle.rinv_algebra.specs.Residue.{residue_ops}
use Rattle.rinv_algebra.specs.Polynomial.{constant, poly_ops, coefficient, is_zero, past}
use Rattle.rinv_algebra.specs.Normal.{is_in_variables}
use Rattle.rinv_algebra.proofs.PolynomialLaws.{poly_laws}
use Rattle.rinv_theory.proofs.Classes.{class, Class}
use Rattle.rinv_theory.proofs.Polynomials.{polynomials, poly_ring}
use Rattle.rinv_theory.proofs.Nested.{nest_injective}
use Rattle.rinv_theory.proofs.Variables.{in_variables-of, IsFront}
use Rattle.rinv_defs.specs.System.{System, Poly, group_count, space_count}
use Rattle.rinv_defs.specs.SystemForm.{IsSystem}
use Rattle.rinv_defs.specs.Laws.{L1, A1, AllLawsHold, LawHolds}
use Rattle.rinv_defs.specs.Invariant.{Fraction, IsInvariant}
use Rattle.rinv_defs.specs.Generators.{over_1, rational_ops, value_at, HasValue}
use Rattle.rinv_defs.specs.Extended.{graph, action_ideal, Vanishes}
use Rattle.rinv_theory.proofs.Of.{Of}
use Rattle.rinv_soundness.proofs.ActionIdeals.{generators}
use Rattle.rinv_soundness.specs.Rewriting.{SymbolPoly, SymbolRelation, in_z, IsSymbolBasis, IsRestBy}
use Rattle.rinv_soundness.proofs.GeneratorLists.{in-left}
use Rattle.rinv_soundness.proofs.SystemForms.{system_form, HasForm}
use Rattle.rinv_soundness.proofs.PlaceFacts.{nest-front}
use Rattle.rinv_soundness.proofs.OverFractions.{over, over_ring, over_injective, to_z, with_constants-class}
use Rattle.rinv_soundness.proofs.HasMultiples.{read-mul, read-move}
use Rattle.rinv_soundness.proofs.ExtendedIdeals.{ops, laws, field, InIdeal, Extended, extended-has, has-extended, nonzero-class}
use Rattle.rinv_soundness.proofs.SymbolValues.{values-to_z}
use Rattle.rinv_soundness.proofs.GraphImages.{crossed_member, lasting}
use Rattle.rinv_soundness.proofs.Rewritten.{val, symbol_basis, rest-denotes}

module _ (s : System) where
  vanishing-class : (c : List Fraction) (q : Poly) → class (poly_ops (rational_ops s.p)) (map (λ t. (t.0, over_1 s.p (constant (residue_ops s.p) t.1))) q) ≡ val s c ((to_z (ops s) (laws s) (field s)).at (class (poly_ops (ops s)) q))
  vanishing-class c q = with_constants-class (ops s) (laws s) (field s) q ∙ sym (values-to_z (ops s) (laws s) (field s) c _)

  -- what vanishes on the section lies in the extended ideal, put in Z
  pub vanishes-extended : (c : List Fraction) (q : Poly) → Vanishes s q → Extended s (action_ideal s) (val s c ((to_z (ops s) (laws s) (field s)).at (class (poly_ops (ops s)) q)))
  vanishes-extended c q v = subst (Extended s (action_ideal s)) (vanishing-class c q) (extended-has s _ v)

  -- and the other way round
  pub extended-vanishes : (c : List Fraction) (q : Poly) → Extended s (action_ideal s) (val s c ((to_z (ops s) (laws s) (field s)).at (class (poly_ops (ops s)) q))) → ∥ Vanishes s q ∥₁
  extended-vanishes c q e = has-extended s e _ (vanishing-class c q)

  -- a polynomial that is not zero, put in Z, does not lie in the extended ideal of the group and the graph, where the laws hold
  pub lasts : (form : HasForm s) → LawHolds s L1 → LawHolds s A1 → (c : List Fraction) {q : Class (poly_ops (residue_ops s.p))} → Of (polynomials (ops s) (laws s)) (IsFront (space_count s)) q → (q ≡ (poly_ring (ops s) (laws s)).zero → ⊥)
      → Extended s (generators s form) (val s c ((to_z (ops s) (laws s) (field s)).at q)) → ⊥
  lasts form first moves_nothing c {q} in_space nonzero e = lasting s form first moves_nothing e.d_in_space in_space e.nonzero nonzero
      (subst (InIdeal s (generators s form)) (nest_injective (polynomials (ops s) (laws s)) (polynomials (ops s) (laws s)) (polynomials (poly_ops (ops s)) (poly_laws (ops s) (laws s))) (space_count s) e.h _ (over_injective (ops s) (laws s) (field s) _ _ (
      e.multiple ∙ ap₂ (over_ring (ops s) (laws s) (field s)).mul (sym (read-move (ops s) (laws s) (field s) (space_count s) e.d))
      (values-to_z (ops s) (laws s) (field s) c q ∙ sym (ap (over (ops s) (laws s) (field s)).at (nest-front (polynomials (ops s) (laws s)) (polynomials (poly_ops (ops s)) (poly_laws (ops s) (laws s))) (space_count s) in_space)))
      ∙ sym (read-mul (ops s) (laws s) (field s) (space_count s) _ _)))) e.property)

  -- without a section a polynomial that is not zero vanishes nowhere
  pub vanishes_nowhere : (q : Poly) → IsSystem s → AllLawsHold s → s.section ≡ [] → IsTrue (is_in_variables (space_count s) q) → IsFalse (is_zero (residue_ops s.p) q) → ¬ (Vanishes s q)
  vanishes_nowhere q system hold none in_q nonzero v =
      lasts (system_form s system) (hold L1) (hold A1) [] (in_variables-of (ops s) (laws s) (space_count s) q in_q) (nonzero-class (ops s) (laws s) q nonzero)
      (subst (λ fs. Extended s fs (val s [] ((to_z (ops s) (laws s) (field s)).at (class (poly_ops (ops s)) q)))) whole (vanishes-extended [] q v))
    where
      append_none : {X : Type 0} (xs : List X) → xs ++ [] ≡ xs
      append_none [] = refl
      append_none (x ∷ xs) = ap (λ ys. x ∷ ys) (append_none xs)

      whole : action_ideal s ≡ s.ideal ++ graph s
      whole = ap (λ fs. s.ideal ++ graph s ++ map (past (group_count s)) fs) none ∙ append_none (s.ideal ++ graph s)

  -- rewriting by relations with symbols for the reduced basis
  pub basis-denotes : (c : List Fraction) (qs : List SymbolRelation) (f : Fraction) (a b : SymbolPoly) (m : List ℕ) → IsSystem s → IsSymbolBasis s c qs → IsInvariant s f → IsRestBy s qs (in_z s.p f.0) a → IsRestBy s qs (in_z s.p f.1) b
      → ¬ (IsSame (rational_ops s.p) (value_at s.p c (coefficient (poly_ops (residue_ops s.p)) b m)) (rational_ops s.p).zero) → HasValue s.p c (coefficient (poly_ops (residue_ops s.p)) a m, coefficient (poly_ops (residue_ops s.p)) b m) f
  basis-denotes c qs f a b m system basis invariant rest_a rest_b defined = rest-denotes s (action_ideal s) c qs (symbol_basis s c qs basis) f invariant.fraction (∥∥₁_map (crossed_member s (system_form s system) f invariant) (in-left (ops s) (laws s) (s.ideal ++ graph s) (map (past (group_count s)) s.section))) a b rest_a rest_b m defined
