-- The reduced basis as it is stored is in its order.
--   ordered-basis
use Rattle.std.proofs.Common.{List, ap, ◌∙◌, All}
use Rattle.std.specs.Prelude.{get_or, slice_index_or}
use Rattle.std.specs.Ordering.{ordering_reverse}
use Rattle.rinv_algebra.specs.Residue.{residue_ops}
use Rattle.rinv_algebra.specs.Order.{grevlex}
use Rattle.rinv_algebra.proofs.Grevlex.{grevlex_laws}
use Rattle.rinv_algebra.proofs.ResidueLaws.{residue_laws}
use Rattle.rinv_frac.specs.Fractions.{IsStored}
use Rattle.rinv_frac.proofs.Stored.{stored}
use Rattle.rinv_frac.proofs.Values.{zero-value}
use Rattle.rinv_tails.specs.Stored.{IsTail, IsStoredRelation}
use Rattle.rinv_defs.proofs.Sound.{normal_in_variables}
use Rattle.rinv_defs.specs.System.{System, space_count}
use Rattle.rinv_defs.specs.Invariant.{Fraction, IsFraction}
use Rattle.rinv_defs.specs.Extended.{FractionPoly, Relation, IsReducedBasis}
use Rattle.rinv_invariance.specs.Twins.{AreAscending}
use Rattle.rinv_coefficients.specs.Coefficients.{IsOrderedBasis}
use Rattle.rinv_coefficients.specs.Coefficients as coefficients

module _ (s : System) where
  -- a stored fraction is one
  fraction : (f : Fraction) → IsStored s.p (space_count s) f → IsFraction s f
  fraction f h =
      let parts = stored s.p (space_count s) f h in
      record { numerator = normal_in_variables s (space_count s) f.0 parts.numerator; denominator = normal_in_variables s (space_count s) f.1 parts.denominator; nonzero = parts.nonzero }

  -- a stored tail is one
  tail : (f : FractionPoly) → IsTail s.p (space_count s) f → coefficients.IsTail s f
  tail f h = record {
    descending = λ i j d low inside. grevlex_laws.total.antisymm (slice_index_or f i d).0 (slice_index_or f j d).0 ∙ ap ordering_reverse (h.descending i j d low inside);
    exponents = λ k d low. (h.terms k d low).vars;
    fractions = λ k d low. fraction (get_or f k d).1 (h.terms k d low).fraction;
    nonzero = λ k d low. zero-value (residue_ops s.p) (residue_laws s.p) (get_or f k d).1 (stored s.p (space_count s) (get_or f k d).1 (h.terms k d low).fraction).nonzero ∙ (h.terms k d low).nonzero;
  }

  pub ordered-basis : (rs : List Relation) → IsReducedBasis s rs → AreAscending rs → All (IsStoredRelation s.p (space_count s)) rs → IsOrderedBasis s rs
  ordered-basis rs basis ascending stored = record {
    basis = basis;
    ascending = ascending;
    leads = λ k d low. (stored k d low).vars;
    tails = λ k d low. tail (get_or rs k d).tail (stored k d low).tail;
  }
