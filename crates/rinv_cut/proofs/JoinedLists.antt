-- Lists one after the other, and readings of what holds of all elements of a list of polynomials.
use Rattle.std.proofs.Common.{◌≡◌, ◌⊎◌, ℕ, ◌<◌, Bool, true, false, ◌==◌, List, [], ◌∷◌, ◌++◌, length, get_or, filter, refl, sym, ◌∙◌, ap, subst, inl, inr, arith, IsTrue, AllPairs}
use Rattle.std.specs.Prelude.{IsFalse}
use Rattle.std.specs.List.{list_all}
use Rattle.std.specs.declared.cmp.Ordering.{Ordering}
use Rattle.std.proofs.lemmas.Bool.Decides.{nat_tests}
use Rattle.std.proofs.lemmas.List.Kept.{AllPairs-cons}
use Rattle.rinv_algebra.specs.Ring.{RingOps, IsSame}
use Rattle.rinv_algebra.specs.Polynomial.{Polynomial, has_monomial}
use Rattle.rinv_algebra.specs.Normal.{is_in_variables}
use Rattle.rinv_algebra.specs.Leading.{leading_monomial, leading_coefficient}
use Rattle.rinv_algebra.proofs.Same.{both, and_true}
use Rattle.rinv_theory.proofs.Monoid.{monomial}
use Rattle.rinv_groebner.specs.Orders.{AreInVariables}
use Rattle.rinv_groebner.specs.Division.{lead_divides, is_reducible}
use Rattle.rinv_groebner.specs.Reduced.{AreApart, AreMonic}
use Rattle.rinv_groebner.proofs.Ascending.{Has, split, place_of}
use Rattle.rinv_groebner.proofs.MonomialLists.{divides-divisor, divisor-divides, divisor_trans}
use Rattle.rinv_groebner.proofs.Reducible.{divides-parts, parts_divide, first_divisor, divisor_reducible}
use Rattle.rinv_cut.proofs.Sorted.{all-from_has, first-to, pairs-rest}

pub differ : (i j : ℕ) → (i == j) ≡ false → i ≡ j → ⊥
differ i j e q = grind (arith, nat_tests, e, q)

pub has-append : {X : Type 0} (xs ys : List X) {z : X} → Has z (xs ++ ys) → Has z xs ⊎ Has z ys
has-append [] ys h = inr h
has-append {X} (x ∷ xs) ys {z} h = go (split h) (λ k. has-append xs ys k)
  where
    later : Has z xs ⊎ Has z ys → Has z (x ∷ xs) ⊎ Has z ys
    later (inl k) = inl (Has.later k)
    later (inr k) = inr k

    go : (z ≡ x) ⊎ Has z (xs ++ ys) → (Has z (xs ++ ys) → Has z xs ⊎ Has z ys) → Has z (x ∷ xs) ⊎ Has z ys
    go (inl e) again = inl (subst (λ (w : X). Has w (x ∷ xs)) (sym e) Has.first)
    go (inr k) again = later (again k)

pub append-left : {X : Type 0} {z : X} (xs ys : List X) → Has z xs → Has z (xs ++ ys)
append-left [] ys h = elim h [ ]
append-left {X} {z} (x ∷ xs) ys h = go (split h) (λ k. append-left xs ys k)
  where
    go : (z ≡ x) ⊎ Has z xs → (Has z xs → Has z (xs ++ ys)) → Has z (x ∷ (xs ++ ys))
    go (inl e) again = subst (λ (w : X). Has w (x ∷ (xs ++ ys))) (sym e) Has.first
    go (inr k) again = Has.later (again k)

pub append-right : {X : Type 0} {z : X} (xs ys : List X) → Has z ys → Has z (xs ++ ys)
append-right [] ys h = h
append-right (x ∷ xs) ys h = Has.later (append-right xs ys h)

-- those of the first list pass, and those of the second do not
pub filter-joined : {X : Type 0} (test : X → Bool) (xs ys : List X) → ((x : X) → Has x xs → test x ≡ true) → ((y : X) → Has y ys → test y ≡ false) → filter test (xs ++ ys) ≡ xs
filter-joined test [] [] pass fail = refl
filter-joined test [] (y ∷ ys) pass fail = rw (fail y Has.first) (filter-joined test [] ys pass (λ z h. fail z (Has.later h)))
filter-joined test (x ∷ xs) ys pass fail = rw (pass x Has.first) (ap (λ zs. x ∷ zs) (filter-joined test xs ys (λ z h. pass z (Has.later h)) fail))

-- pairs of two lists, one after the other
pub pairs-joined : {X : Type 0} (R : X → X → Type 0) (xs ys : List X) → AllPairs R xs → AllPairs R ys → ((x y : X) → Has x xs → Has y ys → R x y) → AllPairs R (xs ++ ys)
pairs-joined R [] ys p q h = q
pairs-joined {X} R (x ∷ xs) ys p q h = AllPairs-cons R x (xs ++ ys) (all-from_has (R x) (xs ++ ys) (λ y m. over y (has-append xs ys m))) (pairs-joined R xs ys (pairs-rest R x xs p) q (λ a b m n. h a b (Has.later m) n))
  where
    over : (y : X) → Has y xs ⊎ Has y ys → R x y
    over y (inl m) = first-to R x xs p y m
    over y (inr n) = h x y Has.first n

module _ {E : Type 0} (v : ℕ) where
  pub in-has : (xs : List (Polynomial E)) → AreInVariables v xs → {h : Polynomial E} → Has h xs → IsTrue (is_in_variables v h)
  in-has [] all m = elim m [ ]
  in-has (x ∷ xs) all Has.first = (both (is_in_variables v x) (list_all (is_in_variables v) xs) all).0
  in-has (x ∷ xs) all (Has.later m) = in-has xs (both (is_in_variables v x) (list_all (is_in_variables v) xs) all).1 m

  pub in-from : (xs : List (Polynomial E)) → ((h : Polynomial E) → Has h xs → IsTrue (is_in_variables v h)) → AreInVariables v xs
  in-from [] h = refl
  in-from (x ∷ xs) h = and_true (is_in_variables v x) (list_all (is_in_variables v) xs) (h x Has.first) (in-from xs (λ y m. h y (Has.later m)))

module _ {E : Type 0} (o : RingOps E) (cmp : List ℕ → List ℕ → Ordering) where
  abbrev lead : Polynomial E → List ℕ
  lead h = leading_monomial o cmp h

  -- an element of a list whose leading monomial divides
  pub has-reducible : (xs : List (Polynomial E)) (m : List ℕ) (h : Polynomial E) → Has h xs → IsTrue (lead_divides o cmp h m) → IsTrue (is_reducible o cmp xs m)
  has-reducible xs m h has d = let (p, inside, e) = place_of [] xs has in divisor_reducible o cmp xs m p inside (subst (λ (g : Polynomial E). IsTrue (lead_divides o cmp g m)) (sym e) d)

  pub reducible-has : (xs : List (Polynomial E)) (m : List ℕ) → IsTrue (is_reducible o cmp xs m) → (p : ℕ) × (p < length xs) × IsTrue (lead_divides o cmp (get_or xs p []) m)
  reducible-has xs m r = let (p, inside, d, before) = first_divisor o cmp xs m r in (p, inside, d)

  pub lead-trans : (g h : Polynomial E) (m : List ℕ) → IsTrue (lead_divides o cmp g (lead h)) → IsTrue (lead_divides o cmp h m) → IsTrue (lead_divides o cmp g m)
  lead-trans g h m d e =
      let a = divides-parts o cmp g (lead h) d in
      let b = divides-parts o cmp h m e in
      parts_divide o cmp g m a.0 (divisor-divides (lead g) m (divisor_trans (monomial (lead g)) (monomial (lead h)) (monomial m) (divides-divisor (lead g) (lead h) a.1) (divides-divisor (lead h) m b.1)))

  pub monic-has : (xs : List (Polynomial E)) → AreMonic o cmp xs → (h : Polynomial E) → Has h xs → IsSame o (leading_coefficient o cmp h) o.one
  monic-has xs monic h has = let (p, inside, e) = place_of [] xs has in subst (λ (g : Polynomial E). IsSame o (leading_coefficient o cmp g) o.one) e (monic p inside)

  -- no leading monomial divides a monomial of another element
  pub apart_in : (xs : List (Polynomial E)) → AreApart o cmp xs → (g h : Polynomial E) → Has g xs → Has h xs → (g ≡ h → ⊥) → (m : List ℕ) → IsTrue (has_monomial o g m) → IsFalse (lead_divides o cmp h m)
  apart_in xs apart g h a b n m has =
      let (i, low, e) = place_of [] xs a in
      let (j, high, f) = place_of [] xs b in
      subst (λ (x : Polynomial E). IsFalse (lead_divides o cmp x m)) f (apart i j low high (λ q. n (sym e ∙ ap (λ (c : ℕ). get_or xs c []) q ∙ f)) m (subst (λ (x : Polynomial E). IsTrue (has_monomial o x m)) (sym e) has))

  pub off : (h : Polynomial E) (m : List ℕ) → (IsTrue (lead_divides o cmp h m) → ⊥) → IsFalse (lead_divides o cmp h m)
  off h m n = go (lead_divides o cmp h m) refl
    where
      go : (b : Bool) → lead_divides o cmp h m ≡ b → b ≡ false
      go true e = absurd (n e)
      go false e = refl
