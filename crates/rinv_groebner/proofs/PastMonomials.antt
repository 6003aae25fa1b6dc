-- Monomials with their variables counted from k: exponent lists with k zeros before them.
--   same_monomial-past, product-past, quotient-past, lcm-past    the operations on such lists
--   grevlex-past         they compare as the lists do
--   behind_front         a monomial in v variables is then one in k + v
--   coprime_behind       it has no variable in common with a monomial in the first k
use Rattle.std.proofs.Common.{◌≡◌, ◌⊎◌, ℕ, zero, suc, ◌+◌, ◌≤◌, ◌<◌, List, [], ◌∷◌, ◌++◌, length, length-append, length-take, take, take_all, sum, replicate, get_or, refl, sym, ◌∙◌, ap, ap₂, subst, inl, inr, arith, IsTrue}
use Rattle.std.specs.Prelude.{nat_lt}
use Rattle.std.proofs.lemmas.Bool.{cases_Bool}
use Rattle.std.proofs.lemmas.Bool.Decides.{nat_tests}
use Rattle.std.proofs.lemmas.List.{length-replicate, get_or_append_left, get_or-replicate}
use Rattle.std.proofs.lemmas.List.Sums.{sum_by-cons}
use Rattle.std.specs.Ordering.{nat_cmp, ordering_then}
use Rattle.rinv_algebra.specs.Monomial.{same_monomial, monomial_product, quotient, lcm, coprime}
use Rattle.rinv_algebra.specs.Order.{last_cmp, grevlex}
use Rattle.rinv_algebra.proofs.KeyOrder.{then-equal}
use Rattle.rinv_theory.proofs.Monoid.{Monomial, monomial, monomials, monomial_ind}
use Rattle.rinv_theory.proofs.Places.{front-list, behind, behind-list}
use Rattle.rinv_theory.proofs.Variables.{IsFront}
use Rattle.rinv_groebner.proofs.MonomialLists.{front_at}

-- whether two are one monomial
pub same_monomial-past : (k : ℕ) (a b : List ℕ) → same_monomial (replicate k 0 ++ a) (replicate k 0 ++ b) ≡ same_monomial a b
unfolding same_monomial
same_monomial-past zero a b = refl
same_monomial-past (suc k) a b = same_monomial-past k a b

-- a product
pub product-past : (k : ℕ) (a b : List ℕ) → monomial_product (replicate k 0 ++ a) (replicate k 0 ++ b) ≡ replicate k 0 ++ monomial_product a b
unfolding monomial_product
product-past zero a b = refl
product-past (suc k) a b = ap (λ (m : List ℕ). 0 ∷ m) (product-past k a b)

-- a quotient
pub quotient-past : (k : ℕ) (a b : List ℕ) → quotient (replicate k 0 ++ a) (replicate k 0 ++ b) ≡ replicate k 0 ++ quotient a b
unfolding quotient
quotient-past zero a b = refl
quotient-past (suc k) a b = ap (λ (m : List ℕ). 0 ∷ m) (quotient-past k a b)

-- a least common multiple
pub lcm-past : (k : ℕ) (a b : List ℕ) → lcm (replicate k 0 ++ a) (replicate k 0 ++ b) ≡ replicate k 0 ++ lcm a b
unfolding lcm
lcm-past zero a b = refl
lcm-past (suc k) a b = ap (λ (m : List ℕ). 0 ∷ m) (lcm-past k a b)

sum-zero : (a : List ℕ) → sum (0 ∷ a) ≡ sum a
sum-zero a = omega (arith, sum_by-cons (λ (n : ℕ). n) 0 a)

-- they compare as the lists do
pub grevlex-past : (k : ℕ) (a b : List ℕ) → grevlex (replicate k 0 ++ a) (replicate k 0 ++ b) ≡ grevlex a b
unfolding last_cmp
grevlex-past zero a b = refl
grevlex-past (suc k) a b =
    ap₂ ordering_then (ap₂ nat_cmp (sum-zero (replicate k 0 ++ a)) (sum-zero (replicate k 0 ++ b))) (then-equal (last_cmp (replicate k 0 ++ a) (replicate k 0 ++ b)))
    ∙ grevlex-past k a b

-- a monomial in v variables, with its variables counted from k
pub behind_front : (k v n : ℕ) → k + v ≤ n → (m : Monomial) → IsFront v m → IsFront n (behind k m)
behind_front k v n low = monomial_ind (λ m. IsFront v m → IsFront n (behind k m)) (λ m. hlevel (monomials.is_set)) (λ a f. subst (λ m. IsFront n (behind k m)) (sym (front-list v a) ∙ f) (short (take v a) (few a)))
  where
    few : (a : List ℕ) → length (take v a) ≤ v
    few a = let e = length-take v a in omega (arith, e)

    short : (a : List ℕ) → length a ≤ v → IsFront n (behind k (monomial a))
    short a few =
        let size = length-append (replicate k 0) a in
        let zeros = length-replicate {A = ℕ} k 0 in
        subst (IsFront n) (sym (behind-list k a)) (front-list n (replicate k 0 ++ a) ∙ ap monomial (take_all n (replicate k 0 ++ a) (omega (arith, size, zeros, few, low))))

coprime_from : (a b : List ℕ) → ((k : ℕ) → (get_or a k 0 ≡ 0) ⊎ (get_or b k 0 ≡ 0)) → IsTrue (coprime a b)
unfolding coprime
coprime_from [] b h = refl
coprime_from (x ∷ a) [] h = refl
coprime_from (x ∷ a) (y ∷ b) h = let z = h 0 in let t = coprime_from a b (λ k. h (suc k)) in grind (arith, nat_tests, z, t)

-- a monomial in the first k variables has no variable in common with it
pub coprime_behind : (k : ℕ) (a b : List ℕ) → IsFront k (monomial a) → IsTrue (coprime a (replicate k 0 ++ b))
coprime_behind k a b f = coprime_from a (replicate k 0 ++ b) (λ j. elim (cases_Bool (nat_lt j k)) [
  | inl low ↦
      let zeros = length-replicate {A = ℕ} k 0 in
      let inside : j < k = grind (arith, nat_tests, low) in
      inr (get_or_append_left (replicate k 0) b 0 j (omega (arith, zeros, inside)) ∙ get_or-replicate k j 0 0 inside)
  | inr high ↦ inl (front_at k a f j (grind (arith, nat_tests, high)))
])
