-- A Gröbner basis as the making of the reduced one takes it: without zero, and over the ideal that it generates.
--   nonzero-each     a list without zero, element by element
--   over-itself      a Gröbner basis generates its own ideal
use Rattle.std.proofs.Common.{◌≡◌, ℕ, Bool, true, false, List, [], ◌∷◌, refl, sym, All}
use Rattle.std.specs.Prelude.{not}
use Rattle.std.specs.List.{list_all}
use Rattle.std.specs.declared.cmp.Ordering.{Ordering}
use Rattle.std.proofs.lemmas.List.Elements.{All-nil, All-cons}
use Rattle.rinv_algebra.specs.Ring.{RingOps, RingLaws, FieldLaws}
use Rattle.rinv_algebra.specs.Polynomial.{Polynomial, is_zero}
use Rattle.rinv_algebra.proofs.Same.{both}
use Rattle.rinv_groebner.specs.Orders.{OrdersMonomials}
use Rattle.rinv_groebner.specs.Basis.{AreNonzero, IsGroebnerBasis}
use Rattle.rinv_groebner.proofs.ReducedLists.{basis-of}

module _ {E : Type 0} (o : RingOps E) where
  pub nonzero-each : (hs : List (Polynomial E)) → AreNonzero o hs → All (λ h. is_zero o h ≡ false) hs
  nonzero-each [] n = All-nil (λ h. is_zero o h ≡ false)
  nonzero-each (h ∷ hs) n =
      let parts = both (not (is_zero o h)) (list_all (λ g. not (is_zero o g)) hs) n in
      All-cons (λ h. is_zero o h ≡ false) h hs (off (is_zero o h) parts.0) (nonzero-each hs parts.1)
    where
      off : (b : Bool) → not b ≡ true → b ≡ false
      off true e = sym e
      off false e = refl

  pub over-itself : RingLaws o → FieldLaws o → (cmp : List ℕ → List ℕ → Ordering) (v : ℕ) → OrdersMonomials cmp v → (fs hs : List (Polynomial E)) → IsGroebnerBasis o cmp v fs hs
      → IsGroebnerBasis o cmp v hs hs
  over-itself l field cmp v order fs hs b = basis-of o l field cmp v order hs fs hs (b.ideal.1, b.ideal.0) b
