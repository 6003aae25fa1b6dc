-- An order of all monomials in which they descend only finitely often: the last variable in which two differ decides. It needs no
-- number of variables; polynomials have no zero divisors by it.
--   later a b            the last exponent in which the two differ is smaller in a
--   later_order          it orders the monomials
--   later_well_founded   and they descend only finitely often
use Rattle.std.proofs.Common.{◌≡◌, ℕ, suc, zero, ◌<◌, Bool, true, false, ◌&&◌, List, [], ◌∷◌, refl, sym, ◌∙◌, arith, inl, inr, true≢false}
use Rattle.std.specs.Prelude.{◌||◌, nat_lt}
use Rattle.std.proofs.lemmas.Bool.{cases_Bool}
use Rattle.std.proofs.lemmas.Bool.Decides.{nat_tests}
use mathlib.Core.WellFounded.{Acc, WellFounded}
use Rattle.rinv_algebra.specs.Monomial.{same_monomial, monomial_product}
use Rattle.rinv_algebra.proofs.MonomialLaws.{same_monomial_refl, same_monomial_sym, same_monomial_trans, same_monomial-left, same_monomial-right, product-nil}
use Rattle.rinv_theory.proofs.Monoid.{IsOne, same_monomial-product_left}
use Rattle.rinv_theory.proofs.ListOrders.{ListOrder}

-- the last exponent in which the two differ is smaller in the first list
abbrev pub later : List ℕ → List ℕ → Bool
later [] [] = false
later [] (y ∷ b) = later [] b || (same_monomial [] b && nat_lt 0 y)
later (x ∷ a) [] = false
later (x ∷ a) (y ∷ b) = later a b || (same_monomial a b && nat_lt x y)

-- nothing is below 1
pub later-nil : (a : List ℕ) → later a [] ≡ false
later-nil [] = refl
later-nil (x ∷ a) = refl

later_irreflexive : (a b : List ℕ) → same_monomial a b ≡ true → later a b ≡ false
unfolding same_monomial
later_irreflexive [] [] e = refl
later_irreflexive [] (y ∷ b) e = let i = later_irreflexive [] b in grind (arith, nat_tests, i)
later_irreflexive (x ∷ a) [] e = refl
later_irreflexive (x ∷ a) (y ∷ b) e = let i = later_irreflexive a b in grind (arith, nat_tests, i)

-- lists that are one monomial stand alike to others
later-left : (a b c : List ℕ) → IsOne a b → later a c ≡ later b c
unfolding same_monomial
later-left [] [] c e = refl
later-left a [] [] e = later-nil a
later-left [] (y ∷ b) [] e = refl
later-left (x ∷ a) (y ∷ b) [] e = refl
later-left [] (y ∷ b) (z ∷ c) e = let t : IsOne [] b = grind (arith, nat_tests) in let i = later-left [] b c t in let s = same_monomial-left [] b c t in grind (arith, nat_tests)
later-left (x ∷ a) [] (z ∷ c) e = let t : IsOne a [] = grind (arith, nat_tests) in let i = later-left a [] c t in let s = same_monomial-left a [] c t in grind (arith, nat_tests)
later-left (x ∷ a) (y ∷ b) (z ∷ c) e = let t : IsOne a b = grind (arith, nat_tests) in let i = later-left a b c t in let s = same_monomial-left a b c t in grind (arith, nat_tests)

later-right : (c a b : List ℕ) → IsOne a b → later c a ≡ later c b
unfolding same_monomial
later-right [] [] [] e = refl
later-right (z ∷ c) [] [] e = refl
later-right [] [] (y ∷ b) e = let t : IsOne [] b = grind (arith, nat_tests) in let i = later-right [] [] b t in grind (arith, nat_tests)
later-right (z ∷ c) [] (y ∷ b) e = let t : IsOne [] b = grind (arith, nat_tests) in let i = later-right c [] b t in let n = later-nil c in grind (arith, nat_tests)
later-right [] (x ∷ a) [] e = let t : IsOne a [] = grind (arith, nat_tests) in let i = later-right [] a [] t in grind (arith, nat_tests)
later-right (z ∷ c) (x ∷ a) [] e = let t : IsOne a [] = grind (arith, nat_tests) in let i = later-right c a [] t in let n = later-nil c in grind (arith, nat_tests)
later-right [] (x ∷ a) (y ∷ b) e = let t : IsOne a b = grind (arith, nat_tests) in let i = later-right [] a b t in let s = same_monomial-right a b [] t in grind (arith, nat_tests)
later-right (z ∷ c) (x ∷ a) (y ∷ b) e = let t : IsOne a b = grind (arith, nat_tests) in let i = later-right c a b t in let s = same_monomial-right a b c t in grind (arith, nat_tests)

-- where each of two steps is below or the same, and one is below, so is the whole
step_left : (a b c : List ℕ) → same_monomial a b ≡ true → later b c ≡ true → later a c ≡ true
step_left a b c e h = later-left a b c e ∙ h

step_right : (a b c : List ℕ) → later a b ≡ true → same_monomial b c ≡ true → later a c ≡ true
step_right a b c h e = sym (later-right a b c e) ∙ h

later_trans : (a b c : List ℕ) → later a b ≡ true → later b c ≡ true → later a c ≡ true
later_trans [] [] c h k = absurd (true≢false (sym h))
later_trans [] (y ∷ b) [] h k = absurd (true≢false (sym k))
later_trans [] (y ∷ b) (z ∷ c) h k = let i = later_trans [] b c in let l = step_left [] b c in let r = step_right [] b c in let s = same_monomial_trans [] b c in grind (arith, nat_tests, i, l, r, s)
later_trans (x ∷ a) [] c h k = absurd (true≢false (sym h))
later_trans (x ∷ a) (y ∷ b) [] h k = absurd (true≢false (sym k))
later_trans (x ∷ a) (y ∷ b) (z ∷ c) h k = let i = later_trans a b c in let l = step_left a b c in let r = step_right a b c in let s = same_monomial_trans a b c in grind (arith, nat_tests, i, l, r, s)

later_total : (a b : List ℕ) → later a b ≡ false → later b a ≡ false → same_monomial a b ≡ true
unfolding same_monomial
later_total [] [] h k = refl
later_total [] (y ∷ b) h k = let i = later_total [] b in let n = later-nil b in grind (arith, nat_tests, i)
later_total (x ∷ a) [] h k = let i = later_total a [] in let n = later-nil a in let s = same_monomial_sym [] a in let t = same_monomial_sym a [] in grind (arith, nat_tests, i, s, t)
later_total (x ∷ a) (y ∷ b) h k = let i = later_total a b in let s = same_monomial_sym a b in grind (arith, nat_tests, i, s)

later-product : (c a b : List ℕ) → later (monomial_product c a) (monomial_product c b) ≡ later a b
unfolding monomial_product
later-product [] a b = refl
later-product (z ∷ c) [] [] = later_irreflexive (z ∷ c) (z ∷ c) (same_monomial_refl (z ∷ c))
later-product (z ∷ c) [] (y ∷ b) = let h = later-product c [] b in let s = same_monomial-product_left c [] b in grind (arith, nat_tests, product-nil)
later-product (z ∷ c) (x ∷ a) [] = let h = later-product c a [] in let n = later-nil a in let s = same_monomial-product_left c a [] in grind (arith, nat_tests, product-nil)
later-product (z ∷ c) (x ∷ a) (y ∷ b) = let h = later-product c a b in let s = same_monomial-product_left c a b in grind (arith, nat_tests)

-- it orders the monomials
pub later_order : ListOrder later
later_order = record { irreflexive = later_irreflexive; trans = later_trans; total = later_total; product = λ c a b h. later-product c a b ∙ h }

same_cons : (y : ℕ) (a c : List ℕ) → IsOne a c → IsOne (y ∷ a) (y ∷ c)
unfolding same_monomial
same_cons y a c e = grind (arith, nat_tests, e)

abbrev IsLater : List ℕ → List ℕ → Type 0
IsLater a b = later a b ≡ true

acc-nil : Acc IsLater []
acc-nil = Acc.intro [] (λ b p. absurd (true≢false (sym p ∙ later-nil b)))

acc-same : (a b : List ℕ) → IsOne a b → Acc IsLater a → Acc IsLater b
acc-same a b e (Acc.intro x h) = Acc.intro b (λ c p. h c (later-right c x b e ∙ p))

-- by the later exponents, and then by the first
acc-first : (a : List ℕ) → ((c : List ℕ) → later c a ≡ true → (y : ℕ) → Acc IsLater (y ∷ c)) → (n x : ℕ) → x < n → Acc IsLater (x ∷ a)
acc-first a lower zero x l = absurd (omega arith)
acc-first a lower (suc n) x l = Acc.intro (x ∷ a) (λ c p. below c p (acc-first a lower n))
  where
    below : (c : List ℕ) → later c (x ∷ a) ≡ true → ((y : ℕ) → y < n → Acc IsLater (y ∷ a)) → Acc IsLater c
    below [] p again = acc-nil
    below (y ∷ c) p again = elim (cases_Bool (later c a)) [
      | inl t ↦ lower c t y
      | inr f ↦
          let e : same_monomial c a ≡ true = grind (arith, nat_tests, p, f) in
          let s : y < n = grind (arith, nat_tests, p, f, l) in
          acc-same (y ∷ a) (y ∷ c) (same_cons y a c (same_monomial_sym c a e)) (again y s)
    ]

acc-cons : (a : List ℕ) → Acc IsLater a → (x : ℕ) → Acc IsLater (x ∷ a)
acc-cons a (Acc.intro b h) x = acc-first b (λ c p y. acc-cons c (h c p) y) (suc x) x (omega arith)

later_acc : (a : List ℕ) → Acc IsLater a
later_acc [] = acc-nil
later_acc (x ∷ a) = acc-cons a (later_acc a) x

-- and they descend only finitely often
pub later_well_founded : WellFounded (λ a b. later a b ≡ true)
later_well_founded = record { apply = later_acc }
