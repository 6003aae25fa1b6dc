-- Almost full relations: in each endless sequence some element is related to a later one. By induction, not by sequences.
--   AlmostFull R         the relation holds throughout, or is almost full after any first element
--   full-weaken, full-pullback    a weaker relation; the relation of the images under a function
--   full-and             two almost full relations hold at once
--   full-le              the order of the numbers is almost full
--   full_acc             an order that an almost full relation contradicts descends only finitely often
use Rattle.std.proofs.Common.{◌≡◌, ◌⊎◌, ℕ, zero, suc, Bool, true, false, ◌&&◌, refl, sym, arith, subst, inl, inr, true≢false}
use Rattle.std.specs.Prelude.{◌||◌, nat_le}
use Rattle.std.proofs.lemmas.Bool.{cases_Bool}
use Rattle.std.proofs.lemmas.Bool.Decides.{nat_tests}
use mathlib.Core.WellFounded.{Acc}

-- the relation holds throughout, or is almost full after any first element
pub data AlmostFull {X : Type 0} : (X → X → Bool) → Type 0 where
  full : {R : X → X → Bool} → ((x y : X) → R x y ≡ true) → AlmostFull R
  step : {R : X → X → Bool} → ((x : X) → AlmostFull (λ y z. R y z || R x y)) → AlmostFull R

or-left : (a b c d : Bool) → (a ≡ true → c ≡ true) → (b ≡ true → d ≡ true) → (a || b) ≡ true → (c || d) ≡ true
or-left true b true d f g h = refl
or-left true b false d f g h = absurd (true≢false (sym (f refl)))
or-left false b true d f g h = refl
or-left false b false d f g h = g h

-- tests of the proofs below
after_left : (r r' c a c' a' : Bool) → (r ≡ true → (c || a) ≡ true) → (r' ≡ true → (c' || a') ≡ true) → (r || r') ≡ true → ((c || c' || a') || a) ≡ true
after_left r r' c a c' a' f g h = grind (arith, nat_tests, f, g, h)

before : (s c b c' a' : Bool) → (s ≡ true → (c || b) ≡ true) → s ≡ true → ((c || c' || a') || b) ≡ true
before s c b c' a' f h = grind (arith, nat_tests, f, h)

regroup : (c c' a' a b : Bool) → ((c || c' || a') || (a && b)) ≡ true → ((c || c' || (a && b)) || a') ≡ true
regroup c c' a' a b h = grind (arith, nat_tests, h)

joined : (c c' a b a' b' : Bool) → ((c || c' || (a && b)) || (a' && b')) ≡ true → ((c || (a && b)) || (c' || (a' && b'))) ≡ true
joined c c' a b a' b' h = grind (arith, nat_tests, h)

first_full : (s c a b : Bool) → (c || a) ≡ true → (s ≡ true → (c || b) ≡ true) → s ≡ true → (c || (a && b)) ≡ true
first_full s c a b h f k = grind (arith, nat_tests, h, f, k)

second_full : (r c a b : Bool) → (c || b) ≡ true → (r ≡ true → (c || a) ≡ true) → r ≡ true → (c || (a && b)) ≡ true
second_full r c a b h f k = grind (arith, nat_tests, h, f, k)

both_right : (s a b : Bool) → a ≡ true → (s ≡ true → b ≡ true) → s ≡ true → (a && b) ≡ true
both_right s a b h f k = grind (arith, nat_tests, h, f, k)

both_left : (r a b : Bool) → b ≡ true → (r ≡ true → a ≡ true) → r ≡ true → (a && b) ≡ true
both_left r a b h f k = grind (arith, nat_tests, h, f, k)

module _ {X : Type 0} where
  -- a weaker relation
  pub full-weaken : {R S : X → X → Bool} → ((x y : X) → R x y ≡ true → S x y ≡ true) → AlmostFull R → AlmostFull S
  full-weaken w (AlmostFull.full h) = AlmostFull.full (λ x y. w x y (h x y))
  full-weaken {S = S} w (AlmostFull.step {R} h) = AlmostFull.step (λ x. full-weaken (λ y z. or-left (R y z) (R x y) (S y z) (S x y) (w y z) (w x y)) (h x))

  -- the relation of the images
  pub full-pullback : {Y : Type 0} (f : Y → X) {R : X → X → Bool} → AlmostFull R → AlmostFull (λ x y. R (f x) (f y))
  full-pullback f (AlmostFull.full h) = AlmostFull.full (λ x y. h (f x) (f y))
  full-pullback f (AlmostFull.step h) = AlmostFull.step (λ x. full-pullback f (h (f x)))

  -- a relation or a fact, the same relation or another: the relation, or both
  either_fact : (R : X → X → Bool) (a b : Bool) → AlmostFull (λ x y. R x y || a) → AlmostFull (λ x y. R x y || b) → AlmostFull (λ x y. R x y || (a && b))
  either_fact R true b p q = q
  either_fact R false b p q = p

  -- what is related is so by C, or its first element has the property A
  abbrev Splits : (X → X → Bool) → (X → X → Bool) → (X → Bool) → Type 0
  Splits R C A = (x y : X) → R x y ≡ true → (C x y || A x) ≡ true

  -- two properties of the first element, each of which an almost full relation gives or C holds: then C, or both
  either : {R : X → X → Bool} → AlmostFull R → (S : X → X → Bool) → AlmostFull S → (C : X → X → Bool) (A B : X → Bool) → Splits R C A → Splits S C B → AlmostFull (λ x y. C x y || (A x && B x))
  either (AlmostFull.full {R} h) S q C A B f g = full-weaken (λ x y s. first_full (S x y) (C x y) (A x) (B x) (f x y (h x y)) (g x y) s) q
  either (AlmostFull.step {R} h) S q C A B f g = inner q C A B f g (λ x. either (h x))
    where
      inner : {S : X → X → Bool} → AlmostFull S → (C : X → X → Bool) (A B : X → Bool) → Splits R C A → Splits S C B
          → ((x : X) (S : X → X → Bool) → AlmostFull S → (C : X → X → Bool) (A B : X → Bool) → Splits (λ y z. R y z || R x y) C A → Splits S C B → AlmostFull (λ y z. C y z || (A y && B y)))
          → AlmostFull (λ x y. C x y || (A x && B x))
      inner (AlmostFull.full k) C A B f g again = full-weaken (λ x y r. second_full (R x y) (C x y) (A x) (B x) (g x y (k x y)) (f x y) r) (AlmostFull.step {R = R} h)
      inner (AlmostFull.step {R = S} k) C A B f g again = AlmostFull.step (λ x.
          full-weaken (λ y z r. joined (C y z) (C x y) (A y) (B y) (A x) (B x) r)
          (either_fact (λ y z. C y z || C x y || (A y && B y)) (A x) (B x)
          (full-weaken (λ y z r. regroup (C y z) (C x y) (A x) (A y) (B y) r) (again x S (AlmostFull.step k) (λ y z. C y z || C x y || A x) A B (λ y z r. after_left (R y z) (R x y) (C y z) (A y) (C x y) (A x) (f y z) (f x y) r) (λ y z s. before (S y z) (C y z) (B y) (C x y) (A x) (g y z) s)))
          (full-weaken (λ y z r. regroup (C y z) (C x y) (B x) (A y) (B y) r) (inner (k x) (λ y z. C y z || C x y || B x) A B (λ y z r. before (R y z) (C y z) (A y) (C x y) (B x) (f y z) r) (λ y z s. after_left (S y z) (S x y) (C y z) (B y) (C x y) (B x) (g y z) (g x y) s) again))))

  -- a relation that is weaker than each of two almost full ones, in its parts
  both_of : {R : X → X → Bool} → AlmostFull R → (S : X → X → Bool) → AlmostFull S → AlmostFull (λ x y. R x y && S x y)
  both_of (AlmostFull.full {R} h) S q = full-weaken (λ x y s. both_right (S x y) (R x y) (S x y) (h x y) (λ e. e) s) q
  both_of (AlmostFull.step {R} h) S q = inner q (λ x. both_of (h x))
    where
      split_left : (r r' s : Bool) → ((r || r') && s) ≡ true → ((r && s) || r') ≡ true
      split_left r r' s h = grind (arith, nat_tests, h)

      split_right : (r s s' : Bool) → (r && (s || s')) ≡ true → ((r && s) || s') ≡ true
      split_right r s s' h = grind (arith, nat_tests, h)

      inner : {S : X → X → Bool} → AlmostFull S → ((x : X) (S : X → X → Bool) → AlmostFull S → AlmostFull (λ y z. (R y z || R x y) && S y z)) → AlmostFull (λ x y. R x y && S x y)
      inner (AlmostFull.full {R = S} k) again = full-weaken (λ x y r. both_left (R x y) (R x y) (S x y) (k x y) (λ e. e) r) (AlmostFull.step {R = R} h)
      inner (AlmostFull.step {R = S} k) again = AlmostFull.step (λ x.
          either (again x S (AlmostFull.step k)) (λ y z. R y z && (S y z || S x y)) (inner (k x) again) (λ y z. R y z && S y z) (λ y. R x y) (λ y. S x y)
          (λ y z. split_left (R y z) (R x y) (S y z)) (λ y z. split_right (R y z) (S y z) (S x y)))

  -- both at once
  pub full-and : {R S : X → X → Bool} → AlmostFull R → AlmostFull S → AlmostFull (λ x y. R x y && S x y)
  full-and {S = S} p q = both_of p S q

-- the order of the numbers
from_some : (k : ℕ) → AlmostFull (λ y z. nat_le y z || nat_le k y)
from_some zero = AlmostFull.full (λ y z. grind (arith, nat_tests))
from_some (suc k) = AlmostFull.step (λ x. elim (cases_Bool (nat_le (suc k) x)) [
  | inl high ↦ AlmostFull.full (λ y z. grind (arith, nat_tests, high))
  | inr low ↦ full-weaken (λ y z h. grind (arith, nat_tests, low, h)) (from_some k)
])

pub full-le : AlmostFull nat_le
full-le = AlmostFull.step (λ x. full-weaken (λ y z h. grind (arith, nat_tests, h)) (from_some x))

module _ {X : Type 0} (T : X → X → Type 0) (T_trans : (a b c : X) → T a b → T b c → T a c) where
  abbrev UpTo : X → X → Type 0
  UpTo a b = T a b ⊎ (a ≡ b)

  acc_from : {R : X → X → Bool} → AlmostFull R → (y : X) → ((x z : X) → UpTo x y → T z x → R x z ≡ true → ⊥) → Acc T y
  acc_from (AlmostFull.full h) y none = Acc.intro y (λ x t. absurd (none y x (inr refl) t (h y x)))
  acc_from (AlmostFull.step {R} h) y none = Acc.intro y (λ x t. acc_from (h y) x (λ w z u v e. both_none x t w z u v (cases_Bool (R w z)) e))
    where
      under : (x : X) → T x y → (w : X) → UpTo w x → T w y
      under x t w (inl u) = T_trans w x y u t
      under x t w (inr e) = subst (λ a. T a y) (sym e) t

      other : (r s : Bool) → r ≡ false → (r || s) ≡ true → s ≡ true
      other r s f e = grind (arith, nat_tests, f, e)

      both_none : (x : X) → T x y → (w z : X) → UpTo w x → T z w → (R w z ≡ true) ⊎ (R w z ≡ false) → (R w z || R y w) ≡ true → ⊥
      both_none x t w z u v (inl r) e = none w z (inl (under x t w u)) v r
      both_none x t w z u v (inr f) e = none y w (inr refl) (under x t w u) (other (R w z) (R y w) f e)

  -- what an almost full relation contradicts descends only finitely often
  pub full_acc : {R : X → X → Bool} → AlmostFull R → ((x z : X) → T z x → R x z ≡ true → ⊥) → (y : X) → Acc T y
  full_acc p none y = acc_from p y (λ x z u t. none x z t)
