-- Values of the coefficients of a rest.
--   value-same           polynomials that are the same have one value
--   value_test           whether a value that stands for that of a coefficient is zero
--   nothing-value        what is zero has the value zero
--   value-nonzero        what has another value is not zero
--   tested-yes, tested-no    a test of the value at a monomial
use Rattle.std.proofs.Common.{◌≡◌, ℕ, Bool, true, false, not, List, [], inl, inr, sym, ◌∙◌, ap, true≢false}
use Rattle.std.proofs.lemmas.Bool.{cases_Bool}
use Rattle.rinv_algebra.specs.Ring.{IsSame}
use Rattle.rinv_algebra.specs.Residue.{residue_ops}
use Rattle.rinv_algebra.specs.Polynomial.{poly_ops, coefficient, constant, is_zero}
use Rattle.rinv_algebra.specs.Value.{value}
use Rattle.rinv_algebra.specs.Fraction.{over_one, fraction_ops}
use Rattle.rinv_algebra.proofs.Degrees.{same-left}
use Rattle.rinv_algebra.proofs.PolynomialLaws.{poly_laws}
use Rattle.rinv_algebra.proofs.ResidueField.{residue_field_laws}
use Rattle.rinv_algebra.proofs.ResidueLaws.{residue_laws}
use Rattle.rinv_theory.proofs.Classes.{class, class_sound, class_exact}
use Rattle.rinv_theory.proofs.Fields.{fraction_laws}
use Rattle.rinv_soundness.proofs.SymbolValues.{value_hom, value-class}
use Rattle.rinv_soundness.specs.Rewriting.{SymbolPoly}
use Rattle.rinv_defs.specs.System.{Poly}
use Rattle.rinv_defs.specs.Invariant.{Fraction}
use Rattle.rinv_defs.specs.Generators.{rational_ops, value_at}
use Rattle.rinv_rewrite.specs.Taken.{HasValueAt}

module _ (p : ℕ) (cs : List Fraction) where
  -- polynomials that are the same have one value
  pub value-same : (c d : Poly) → IsSame (poly_ops (residue_ops p)) c d → IsSame (rational_ops p) (value_at p cs c) (value_at p cs d)
  unfolding value_at
  value-same c d e =
      class_exact (rational_ops p) (fraction_laws (residue_ops p) (residue_laws p) (residue_field_laws p)) _ _ (
      value-class (residue_ops p) (residue_laws p) (residue_field_laws p) cs c
      ∙ ap (value_hom (residue_ops p) (residue_laws p) (residue_field_laws p) cs).at (class_sound (poly_ops (residue_ops p)) (poly_laws (residue_ops p) (residue_laws p)) c d e)
      ∙ sym (value-class (residue_ops p) (residue_laws p) (residue_field_laws p) cs d))

  -- whether a value that stands for that of a coefficient is zero
  pub value_test : (v : Fraction) (c d : Poly) → IsSame (fraction_ops (residue_ops p)) v (value (fraction_ops (residue_ops p)) (λ k. over_one (residue_ops p) (constant (residue_ops p) k)) cs c) → IsSame (poly_ops (residue_ops p)) c d
      → (rational_ops p).same v (rational_ops p).zero ≡ (rational_ops p).same (value_at p cs d) (rational_ops p).zero
  unfolding value_at
  value_test v c d stands e =
      let laws = fraction_laws (residue_ops p) (residue_laws p) (residue_field_laws p) in
      same-left (rational_ops p) laws v (value_at p cs d) (rational_ops p).zero (laws.same_trans v (value_at p cs c) (value_at p cs d) stands (value-same c d e))

  -- what is zero has the value zero
  pub nothing-value : (c : Poly) → is_zero (residue_ops p) c ≡ true → IsSame (rational_ops p) (value_at p cs c) (rational_ops p).zero
  unfolding value_at value
  nothing-value c z = value-same c [] z

  -- what has another value is not zero
  pub value-nonzero : (c d : Poly) → IsSame (poly_ops (residue_ops p)) c d → ¬ (IsSame (rational_ops p) (value_at p cs d) (rational_ops p).zero) → is_zero (residue_ops p) c ≡ false
  value-nonzero c d e has = elim (cases_Bool (is_zero (residue_ops p) c)) [
    | inl z ↦ absurd (has (nothing-value d ((poly_laws (residue_ops p) (residue_laws p)).same_trans d c [] ((poly_laws (residue_ops p) (residue_laws p)).same_sym c d e) z)))
    | inr off ↦ off
  ]

  -- of a test whether the value at a monomial is zero: it has a value, or none
  pub tested-yes : (b : SymbolPoly) (m : List ℕ) (z : Bool) → z ≡ (rational_ops p).same (value_at p cs (coefficient (poly_ops (residue_ops p)) b m)) (rational_ops p).zero → not z ≡ true → HasValueAt p cs b m
  tested-yes b m true is e = absurd (true≢false (sym e))
  tested-yes b m false is e = λ same. true≢false (sym same ∙ sym is)

  pub tested-no : (b : SymbolPoly) (m : List ℕ) (z : Bool) → z ≡ (rational_ops p).same (value_at p cs (coefficient (poly_ops (residue_ops p)) b m)) (rational_ops p).zero → not z ≡ false → ¬ (HasValueAt p cs b m)
  tested-no b m true is e = λ has. has (sym is)
  tested-no b m false is e = absurd (true≢false e)
