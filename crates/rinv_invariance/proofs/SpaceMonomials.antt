-- Monomials without the first variables, and how they stand in the block order.
--   IsWithout k a        the first k exponents of a are zero
--   without-total, total-without    so is their sum
--   without-front, front-without    so is the monomial's part there
--   without-divisor      a divisor has no more variables
--   block_without        in a block order, what is not greater than a monomial without the first two blocks is without them
use Rattle.std.proofs.Common.{◌≡◌, ℕ, zero, suc, ◌+◌, ◌-◌, ◌<◌, List, [], ◌∷◌, take, drop, get_or, refl, sym, ◌∙◌, ap₂, subst, arith, IsTrue, inl, inr, true≢false}
use Rattle.std.specs.Ordering.{is_ge, nat_cmp, ordering_then}
use Rattle.std.specs.Cmp.{nat_cmp_is}
use Rattle.std.specs.declared.cmp.Ordering.{Ordering}
use Rattle.std.specs.declared.cmp.Ordering.TheVariants.{Less, Equal}
use Rattle.std.proofs.lemmas.List.{get_or-take, get_or-drop, get_or_past, length-take}
use Rattle.std.proofs.lemmas.List.Sums.{sum_by-cons}
use Rattle.rinv_algebra.specs.Monomial.{divides, total_degree}
use Rattle.rinv_algebra.specs.Order.{grevlex, last_cmp, block_order}
use Rattle.rinv_algebra.proofs.Grevlex.{grevlex_laws}
use Rattle.rinv_algebra.proofs.MonomialLaws.{same_at, same_from}
use Rattle.rinv_theory.proofs.Monoid.{monomial, monomials, monomial_sound, monomial_exact, monomial-one}
use Rattle.rinv_theory.proofs.Places.{front, front-list}
use Rattle.rinv_theory.proofs.WellOrders.{tied}
use Rattle.rinv_groebner.proofs.MonomialLists.{divides_at}
use Rattle.rinv_soundness.proofs.FirstVariables.{low_or_high}

-- the first k exponents are zero
abbrev pub IsWithout : ℕ → List ℕ → Type 0
IsWithout k a = (j : ℕ) → j < k → get_or a j 0 ≡ 0

sum_zero : (a : List ℕ) → ((j : ℕ) → get_or a j 0 ≡ 0) → total_degree a ≡ 0
sum_zero [] h = refl
sum_zero (x ∷ a) h = sum_by-cons (λ y. y) x a ∙ ap₂ ◌+◌ (h 0) (sum_zero a (λ j. h (suc j)))

zero_sum : (a : List ℕ) → total_degree a ≡ 0 → (j : ℕ) → get_or a j 0 ≡ 0
zero_sum [] h zero = refl
zero_sum [] h (suc j) = refl
zero_sum (x ∷ a) h zero = let e = sum_by-cons (λ (y : ℕ). y) x a in omega (arith, e, h)
zero_sum (x ∷ a) h (suc j) = let e = sum_by-cons (λ (y : ℕ). y) x a in zero_sum a (omega (arith, e, h)) j

taken : (k : ℕ) (a : List ℕ) → IsWithout k a → (j : ℕ) → get_or (take k a) j 0 ≡ 0
taken k a h j = elim (low_or_high j k) [ inl low ↦ get_or-take k a j 0 low ∙ h j low | inr high ↦ get_or_past (take k a) j 0 (omega (arith, high, length-take k a)) ]

-- so their sum is zero
pub without-total : (k : ℕ) (a : List ℕ) → IsWithout k a → total_degree (take k a) ≡ 0
without-total k a h = sum_zero (take k a) (taken k a h)

-- and the other way round
pub total-without : (k : ℕ) (a : List ℕ) → total_degree (take k a) ≡ 0 → IsWithout k a
total-without k a h j low = sym (get_or-take k a j 0 low) ∙ zero_sum (take k a) h j

nothing_at : (j : ℕ) → ◌≡◌ {A = ℕ} (get_or [] j 0) 0
nothing_at zero = refl
nothing_at (suc j) = refl

-- the part of the monomial in the first k variables is 1
pub without-front : (k : ℕ) (a : List ℕ) → IsWithout k a → front k (monomial a) ≡ monomials.one
without-front k a h = front-list k a ∙ monomial_sound (take k a) [] (same_from (take k a) [] (λ j. taken k a h j ∙ sym (nothing_at j))) ∙ monomial-one

-- and the other way round
pub front-without : (k : ℕ) (a : List ℕ) → front k (monomial a) ≡ monomials.one → IsWithout k a
front-without k a e j low = sym (get_or-take k a j 0 low) ∙ same_at (take k a) [] (monomial_exact (take k a) [] (sym (front-list k a) ∙ e ∙ sym monomial-one)) j ∙ nothing_at j

-- a divisor has no more variables
pub without-divisor : (k : ℕ) (a b : List ℕ) → IsTrue (divides a b) → IsWithout k b → IsWithout k a
without-divisor k a b d h j low = let x = divides_at a b d j in let y = h j low in omega (arith, x, y)

-- in grevlex first: what is not greater than 1 there is 1 there, and the rest decides
grevlex_first : (a b : List ℕ) (rest : Ordering) → total_degree a ≡ 0 → IsTrue (is_ge (ordering_then (grevlex a b) rest)) → (total_degree b ≡ 0) × IsTrue (is_ge rest)
grevlex_first a b rest z h = go (total_degree b) refl
  where
    tie : total_degree b ≡ 0 → grevlex a b ≡ Equal
    tie e = tied grevlex grevlex_laws.total grevlex_laws.kept a b (same_from a b (λ j. zero_sum a z j ∙ sym (zero_sum b e j)))

    less : (n : ℕ) → total_degree b ≡ suc n → nat_cmp (total_degree a) (total_degree b) ≡ Less
    less n e = sym (nat_cmp_is (total_degree a) (total_degree b) Less (omega (arith, z, e)))

    go : (n : ℕ) → total_degree b ≡ n → (total_degree b ≡ 0) × IsTrue (is_ge rest)
    go zero e = (e, subst (λ (o : Ordering). IsTrue (is_ge (ordering_then o rest))) (tie e) h)
    go (suc n) e = absurd (true≢false (sym (subst (λ (o : Ordering). IsTrue (is_ge (ordering_then (ordering_then o (last_cmp a b)) rest))) (less n e) h)))

-- in a block order, what is not greater than a monomial without the first two blocks is without them
pub block_without : (k l : ℕ) (sizes : List ℕ) (a b : List ℕ) → IsWithout (k + l) a → IsTrue (is_ge (block_order (k ∷ l ∷ sizes) a b)) → IsWithout (k + l) b
unfolding block_order
block_without k l sizes a b h g = at
  where
    first : (total_degree (take k b) ≡ 0) × IsTrue (is_ge (block_order (l ∷ sizes) (drop k a) (drop k b)))
    first = grevlex_first (take k a) (take k b) _ (without-total k a (λ j low. h j (omega (arith, low)))) g

    second : (total_degree (take l (drop k b)) ≡ 0) × IsTrue (is_ge (block_order sizes (drop l (drop k a)) (drop l (drop k b))))
    second = grevlex_first (take l (drop k a)) (take l (drop k b)) _ (without-total l (drop k a) (λ j low. get_or-drop k a j 0 ∙ h (k + j) (omega (arith, low)))) first.1

    later : (j : ℕ) → j < l → get_or b (k + j) 0 ≡ 0
    later j low = sym (get_or-drop k b j 0) ∙ total-without l (drop k b) second.0 j low

    at : (j : ℕ) → j < k + l → get_or b j 0 ≡ 0
    at j low = elim (low_or_high j k) [
      | inl i ↦ total-without k b first.0 j i
      | inr i ↦ let e : k + (j - k) ≡ j = omega (arith, i) in subst (λ (n : ℕ). get_or b n 0 ≡ 0) e (later (j - k) (omega (arith, low, i)))
    ]
