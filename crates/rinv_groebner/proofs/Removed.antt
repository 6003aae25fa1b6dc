-- A list without the element at a place.
--   has-remove           its elements are of the list
--   has_other            the elements at other places are in it
--   remove-place         each of its places is another place of the list
--   first_from           a list whose elements are sums of terms in v variables
use Rattle.std.proofs.Common.{◌≡◌, ℕ, zero, suc, ◌<◌, List, [], ◌∷◌, length, get_or, refl, ap, arith}
use Rattle.std.specs.Prelude.{remove}
use Rattle.rinv_algebra.specs.Ring.{RingOps, RingLaws}
use Rattle.rinv_algebra.specs.Polynomial.{Polynomial}
use Rattle.rinv_theory.proofs.Variables.{in_variables-of}
use Rattle.rinv_groebner.proofs.Ascending.{Has, has_at}
use Rattle.rinv_groebner.proofs.Compared.{InFirst}
use Rattle.rinv_groebner.proofs.ListElements.{AllFirst}

-- its elements are of the list
pub has-remove : {X : Type 0} (xs : List X) (k : ℕ) {y : X} → Has y (remove xs k) → Has y xs
has-remove [] zero h = elim h [ ]
has-remove [] (suc k) h = elim h [ ]
has-remove (x ∷ xs) zero h = Has.later h
has-remove (x ∷ xs) (suc k) Has.first = Has.first
has-remove (x ∷ xs) (suc k) (Has.later h) = Has.later (has-remove xs k h)

-- the elements at other places are in it
pub has_other : {X : Type 0} (d : X) (xs : List X) (k j : ℕ) → j < length xs → (j ≡ k → ⊥) → Has (get_or xs j d) (remove xs k)
has_other d [] k j h n = absurd (omega arith)
has_other d (x ∷ xs) zero zero h n = absurd (n refl)
has_other d (x ∷ xs) zero (suc j) h n = has_at d xs j (omega (arith, h))
has_other d (x ∷ xs) (suc k) zero h n = Has.first
has_other d (x ∷ xs) (suc k) (suc j) h n = Has.later (has_other d xs k j (omega (arith, h)) (λ e. n (ap suc e)))

-- and each of its places is another place of the list
pub remove-place : {X : Type 0} (d : X) (xs : List X) (k p : ℕ) → p < length (remove xs k) → (j : ℕ) × (j < length xs) × (j ≡ k → ⊥) × (get_or xs j d ≡ get_or (remove xs k) p d)
remove-place d [] zero p h = absurd (omega arith)
remove-place d [] (suc k) p h = absurd (omega arith)
remove-place d (x ∷ xs) zero p h = (suc p, (omega (arith, h)), (λ e. omega (arith, e)), refl)
remove-place d (x ∷ xs) (suc k) zero h = (0, (omega arith), (λ e. omega (arith, e)), refl)
remove-place d (x ∷ xs) (suc k) (suc p) h = let (j, inside, n, e) = remove-place d xs k p (omega (arith, h)) in (suc j, (omega (arith, inside)), (λ q. n (omega (arith, q))), e)

module _ {E : Type 0} (o : RingOps E) (l : RingLaws o) (v : ℕ) where
  -- a list whose elements are sums of terms in the first v variables
  pub first_from : (hs : List (Polynomial E)) → ((h : Polynomial E) → Has h hs → InFirst o l v h) → AllFirst o l v hs
  first_from [] f zero = in_variables-of o l v [] refl
  first_from [] f (suc k) = in_variables-of o l v [] refl
  first_from (h ∷ hs) f zero = f h Has.first
  first_from (h ∷ hs) f (suc k) = first_from hs (λ g m. f g (Has.later m)) k
