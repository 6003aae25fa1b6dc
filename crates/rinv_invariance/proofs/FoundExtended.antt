-- Where a polynomial is known to lie in the extended ideal, its multiple and the cofactors are found by search.
use Rattle.std.proofs.Common.{◌≡◌, ℕ, ◌*◌, Bool, true, false, not, ◌&&◌, List, length, refl, sym, ap, arith, true≢false}
use Rattle.std.specs.Prelude.{◌==◌}
use Rattle.std.proofs.lemmas.Bool.{eqb-true}
use Rattle.std.proofs.lemmas.Bool.Decides.{nat_tests}
use mathlib.Core.Logic.{∥∥₁_map}
use Rattle.rinv_algebra.specs.Residue.{residue_ops}
use Rattle.rinv_algebra.specs.Polynomial.{same, scale, past, is_zero}
use Rattle.rinv_algebra.specs.Normal.{is_in_variables}
use Rattle.rinv_algebra.specs.Ideal.{combination}
use Rattle.rinv_algebra.proofs.Same.{both, and_true}
use Rattle.rinv_theory.proofs.Search.{pairs, lists, formal_sums, searched}
use Rattle.rinv_defs.specs.System.{System, Poly, group_count, space_count}
use Rattle.rinv_defs.specs.Generators.{rational_ops, over_1}
use Rattle.rinv_defs.specs.Extended.{FractionPoly, InExtendedIdeal, action_ideal, over_fractions}

module _ (s : System) (f : FractionPoly) where
  -- whether d and h, with these cofactors, show that f lies in the extended ideal
  abbrev shows : Poly × (Poly × List Poly) → Bool
  shows (d, (h, us)) =
      is_in_variables (space_count s) d && (is_in_variables (2 * space_count s) h && (not (is_zero (residue_ops s.p) d) && (same (rational_ops s.p) (over_fractions s h) (scale (rational_ops s.p) (over_1 s.p d) f)
      && ((length us == length (action_ideal s)) && same (residue_ops s.p) (past (group_count s) h) (combination (residue_ops s.p) us (action_ideal s))))))

  equal : (a b : ℕ) → a ≡ b → (a == b) ≡ true
  equal a b e = grind (arith, nat_tests)

  not_true : (b : Bool) → not b ≡ true → b ≡ false
  not_true true e = absurd (true≢false (sym e))
  not_true false e = refl

  -- then they are found
  pub found_extended : ∥ InExtendedIdeal s f ∥₁ → InExtendedIdeal s f
  found_extended some = made (searched (pairs formal_sums (pairs formal_sums (lists formal_sums))) shows (∥∥₁_map some (λ e. ((e.d, (e.h, e.member.cofactors)), told e))))
    where
      told : (e : InExtendedIdeal s f) → shows (e.d, (e.h, e.member.cofactors)) ≡ true
      told e = and_true _ _ e.d_in_space (and_true _ _ e.h_in_both (and_true _ _ (ap not e.nonzero) (and_true _ _ e.multiple (and_true _ _ (equal _ _ e.member.as_many) e.member.sums_up))))

      made : (x : Poly × (Poly × List Poly)) × (shows x ≡ true) → InExtendedIdeal s f
      made ((d, (h, us)), t) =
          let a = both (is_in_variables (space_count s) d) _ t in
          let b = both (is_in_variables (2 * space_count s) h) _ a.1 in
          let c = both (not (is_zero (residue_ops s.p) d)) _ b.1 in
          let m = both (same (rational_ops s.p) (over_fractions s h) (scale (rational_ops s.p) (over_1 s.p d) f)) _ c.1 in
          let n = both (length us == length (action_ideal s)) _ m.1 in
          record { d = d; h = h; d_in_space = a.0; h_in_both = b.0; nonzero = not_true _ c.0; multiple = m.0; member = record { cofactors = us; as_many = eqb-true _ _ n.0; sums_up = n.1 } }
