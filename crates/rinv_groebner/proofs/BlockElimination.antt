-- A block order eliminates the variables of its first blocks.
--   blocks_eliminate     what is not greater than a monomial free of the first blocks is free of them
use Rattle.std.proofs.Common.{◌≡◌, ℕ, zero, suc, ◌+◌, List, [], ◌∷◌, take, drop, sum, refl, sym, ◌∙◌, ap, arith, IsTrue, true≢false}
use Rattle.std.specs.Prelude.{◌==◌}
use Rattle.std.specs.Ordering.{is_ge, nat_cmp, ordering_then}
use Rattle.std.specs.declared.cmp.Ordering.{Ordering}
use Rattle.std.specs.declared.cmp.Ordering.TheVariants.{Less, Equal}
use Rattle.std.proofs.lemmas.Bool.{eqb-true}
use Rattle.std.proofs.lemmas.Bool.Decides.{nat_tests}
use Rattle.std.proofs.Math.Seq.{take-add}
use Rattle.std.proofs.lemmas.List.Sums.{sum_by-cons, sum_by-append}
use Rattle.rinv_algebra.specs.Order.{last_cmp, grevlex, block_order}
use Rattle.rinv_groebner.specs.Elimination.{Eliminates}

-- the degree in the first k + j variables
sum-first : (k j : ℕ) (a : List ℕ) → sum (take (k + j) a) ≡ sum (take k a) + sum (take j (drop k a))
sum-first k j a = ap sum (take-add k j a) ∙ sum_by-append (λ (n : ℕ). n) (take k a) (take j (drop k a))

-- monomials of degree 0 tie
last_cmp-zero : (a b : List ℕ) → sum a ≡ 0 → sum b ≡ 0 → last_cmp a b ≡ Equal
unfolding last_cmp
last_cmp-zero [] [] e f = refl
last_cmp-zero [] (y ∷ b) e f =
    let s : sum (y ∷ b) ≡ y + sum b = sum_by-cons (λ (n : ℕ). n) y b in
    let y0 : y ≡ 0 = omega (arith, s, f) in
    rw (y0, last_cmp-zero [] b e (omega (arith, s, f))) refl
last_cmp-zero (x ∷ a) [] e f =
    let s : sum (x ∷ a) ≡ x + sum a = sum_by-cons (λ (n : ℕ). n) x a in
    let x0 : x ≡ 0 = omega (arith, s, e) in
    rw (x0, last_cmp-zero a [] (omega (arith, s, e)) f) refl
last_cmp-zero (x ∷ a) (y ∷ b) e f =
    let s : sum (x ∷ a) ≡ x + sum a = sum_by-cons (λ (n : ℕ). n) x a in
    let t : sum (y ∷ b) ≡ y + sum b = sum_by-cons (λ (n : ℕ). n) y b in
    let x0 : x ≡ 0 = omega (arith, s, e) in
    let y0 : y ≡ 0 = omega (arith, t, f) in
    rw (x0, y0, last_cmp-zero a b (omega (arith, s, e)) (omega (arith, t, f))) refl

-- where a monomial of degree 0 is not less, the other has degree 0 too, and they tie
grevlex-zero : (a b : List ℕ) (rest : Ordering) → sum b ≡ 0 → IsTrue (is_ge (ordering_then (grevlex b a) rest)) → (sum a ≡ 0) × IsTrue (is_ge rest)
grevlex-zero a b rest z h = go (sum a) refl
  where
    go : (n : ℕ) → sum a ≡ n → (sum a ≡ 0) × IsTrue (is_ge rest)
    go zero e = (e, sym (ap (λ (q : Ordering). is_ge (ordering_then q rest)) tie) ∙ h)
      where
        tie : grevlex b a ≡ Equal
        tie = rw (z, e) (last_cmp-zero b a z e)
    go (suc n) e = absurd (true≢false (sym h ∙ ap (λ (q : Ordering). is_ge (ordering_then q rest)) less))
      where
        first : nat_cmp (sum b) (sum a) ≡ Less
        first = grind (arith, nat_tests, z, e)

        less : grevlex b a ≡ Less
        less = rw first refl

-- a block order eliminates the variables of its first blocks
pub blocks_eliminate : (sizes : List ℕ) (i : ℕ) → Eliminates (block_order sizes) (sum (take i sizes))
unfolding block_order
blocks_eliminate sizes zero a b h z = refl
blocks_eliminate [] (suc i) a b h z = refl
blocks_eliminate (k ∷ sizes) (suc i) a b h z =
    let count : sum (k ∷ take i sizes) ≡ k + sum (take i sizes) = sum_by-cons (λ (n : ℕ). n) k (take i sizes) in
    let of_b : sum (take (k + sum (take i sizes)) b) ≡ 0 = ap (λ (n : ℕ). sum (take n b)) (sym count) ∙ eqb-true _ _ z in
    let parts = sum-first k (sum (take i sizes)) b in
    let first = grevlex-zero (take k a) (take k b) (block_order sizes (drop k b) (drop k a)) (omega (arith, parts, of_b)) h in
    let none : sum (take (sum (take i sizes)) (drop k b)) ≡ 0 = omega (arith, parts, of_b) in
    let rest : sum (take (sum (take i sizes)) (drop k a)) ≡ 0 = eqb-true _ _ (blocks_eliminate sizes i (drop k a) (drop k b) first.1 (ap (λ (n : ℕ). n == 0) none)) in
    let whole : sum (take (sum (k ∷ take i sizes)) a) ≡ 0 = ap (λ (n : ℕ). sum (take n a)) count ∙ sum-first k (sum (take i sizes)) a ∙ omega (arith, first.0, rest) in
    ap (λ (n : ℕ). n == 0) whole
