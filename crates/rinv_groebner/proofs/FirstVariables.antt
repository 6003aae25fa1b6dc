-- A comparison of monomials, read in the first v variables, as an order of all monomials.
--   order_in cmp laws v  the order: the comparison of the first v exponents, and where it ties the last variable
--   order_in-well        nothing is below 1 in it, and the monomials descend only finitely often
--   order_in-less        a monomial in v variables that is less than another is below it
--   below-less_in        and the other way round, where no two tie
use Rattle.std.proofs.Common.{◌≡◌, ℕ, zero, suc, ◌+◌, ◌-◌, ◌≤◌, true, List, [], ◌∷◌, length, take, take_all, replicate, refl, sym, ◌∙◌, ap, ap₂, arith, IsTrue, true≢false}
use Rattle.std.specs.Cmp.{IsTotalOrder}
use Rattle.std.specs.declared.cmp.Ordering.{Ordering}
use Rattle.std.specs.declared.cmp.Ordering.TheVariants.{Less, Equal, Greater}
use Rattle.std.proofs.lemmas.List.{length-replicate, length-take}
use Rattle.std.proofs.lemmas.Bool.Decides.{nat_tests}
use mathlib.Core.WellFounded.{Acc}
use Rattle.rinv_algebra.specs.Monomial.{same_monomial, monomial_product, divides, quotient}
use Rattle.rinv_algebra.specs.MonomialOrder.{MonoOrderLaws}
use Rattle.rinv_algebra.proofs.MonomialLaws.{same_monomial_refl, monomial_product_comm, monomial_product_assoc}
use Rattle.rinv_algebra.proofs.BlockOrder.{take-product}
use Rattle.rinv_theory.proofs.Monoid.{IsOne, monomials, monomial, same_monomial-product_left}
use Rattle.rinv_theory.proofs.Leads.{MonomialOrder}
use Rattle.rinv_theory.proofs.ListOrders.{order_of, less-below, below-less}
use Rattle.rinv_theory.proofs.WellOrders.{IsWellOrder, extended, extended_order, extended_well, extended-less}
use Rattle.rinv_groebner.proofs.AlmostFull.{full-pullback, full_acc}
use Rattle.rinv_groebner.proofs.FullDivisors.{first_full, first-divides}

-- the first v exponents, and zeros where there are fewer
abbrev pub first_exponents : ℕ → List ℕ → List ℕ
first_exponents v a = monomial_product (take v a) (replicate v 0)

length-product_up : (a z : List ℕ) → length a ≤ length z → length (monomial_product a z) ≡ length z
unfolding monomial_product
length-product_up [] z h = refl
length-product_up (x ∷ a) [] h = absurd (omega arith)
length-product_up (x ∷ a) (y ∷ z) h = ap suc (length-product_up a z (omega arith))

-- there are v of them
pub length-first_exponents : (v : ℕ) (a : List ℕ) → length (first_exponents v a) ≡ v
length-first_exponents v a =
    let t = length-take v a in
    let z = length-replicate {A = ℕ} v 0 in
    length-product_up (take v a) (replicate v 0) (omega (arith, t, z)) ∙ z

zeros-product : (v : ℕ) → monomial_product (replicate v 0) (replicate v 0) ≡ replicate v 0
unfolding monomial_product
zeros-product zero = refl
zeros-product (suc v) = ap (λ (r : List ℕ). 0 ∷ r) (zeros-product v)

swapped : (a b z : List ℕ) → monomial_product z z ≡ z → monomial_product (monomial_product a b) z ≡ monomial_product (monomial_product a z) (monomial_product b z)
swapped a b z e =
    ap (monomial_product (monomial_product a b)) (sym e) ∙ monomial_product_assoc a b (monomial_product z z)
    ∙ ap (monomial_product a) (sym (monomial_product_assoc b z z) ∙ ap (λ (r : List ℕ). monomial_product r z) (monomial_product_comm b z) ∙ monomial_product_assoc z b z)
    ∙ sym (monomial_product_assoc a z (monomial_product b z))

first_exponents-product : (v : ℕ) (a b : List ℕ) → first_exponents v (monomial_product a b) ≡ monomial_product (first_exponents v a) (first_exponents v b)
first_exponents-product v a b = ap (λ (r : List ℕ). monomial_product r (replicate v 0)) (take-product v a b) ∙ swapped (take v a) (take v b) (replicate v 0) (zeros-product v)

product-quotient : (a b : List ℕ) → length a ≡ length b → IsTrue (divides a b) → monomial_product (quotient b a) a ≡ b
unfolding monomial_product divides quotient
product-quotient [] [] e d = refl
product-quotient [] (y ∷ b) e d = absurd (omega arith)
product-quotient (x ∷ a) [] e d = absurd (omega arith)
product-quotient (x ∷ a) (y ∷ b) e d =
    let rest : monomial_product (quotient b a) a ≡ b = product-quotient a b (omega arith) (grind (arith, nat_tests, d)) in
    let first : (y - x) + x ≡ y = grind (arith, nat_tests, d) in
    cc (rest, first)

module _ (cmp : List ℕ → List ℕ → Ordering) (laws : MonoOrderLaws cmp) where
  -- no multiple is less than a divisor
  respects : (a b : List ℕ) → length a ≡ length b → IsTrue (divides a b) → cmp b a ≡ Less → ⊥
  unfolding monomial_product
  respects a b e d l = laws.least (quotient b a) (sym (laws.kept (quotient b a) [] a) ∙ ap (λ (x : List ℕ). cmp x a) (product-quotient a b e d) ∙ l)

  module _ (v : ℕ) where
    -- the comparison of the first v exponents
    abbrev pub cmp_in : List ℕ → List ℕ → Ordering
    cmp_in a b = cmp (first_exponents v a) (first_exponents v b)

    total_in : IsTotalOrder cmp_in
    total_in = record { antisymm = λ a b. laws.total.antisymm _ _; trans = λ a b c. laws.total.trans _ _ _; congr = λ a b c. laws.total.congr _ _ _ }

    kept_in : (a b m : List ℕ) → cmp_in (monomial_product a m) (monomial_product b m) ≡ cmp_in a b
    kept_in a b m = ap₂ cmp (first_exponents-product v a m) (first_exponents-product v b m) ∙ laws.kept _ _ _

    -- the order of all monomials
    pub order_in : MonomialOrder monomials
    order_in = order_of (extended cmp_in) (extended_order cmp_in total_in kept_in)

    agrees : (a b : List ℕ) → length a ≤ v → length b ≤ v → cmp_in a b ≡ cmp a b
    agrees a b la lb = ap₂ (λ (x y : List ℕ). cmp (monomial_product x (replicate v 0)) (monomial_product y (replicate v 0))) (take_all v a la) (take_all v b lb) ∙ laws.kept a b (replicate v 0)

    -- a monomial that is less is below
    pub order_in-less : (a b : List ℕ) → length a ≤ v → length b ≤ v → cmp a b ≡ Less → order_in.below (monomial a) (monomial b)
    unfolding order_in
    order_in-less a b la lb e = less-below (extended cmp_in) (extended_order cmp_in total_in kept_in) a b (extended-less cmp_in total_in kept_in a b (agrees a b la lb ∙ e))

    -- where the order is total on the monomials in v variables, one that is below is less
    pub below-less_in : ((a b : List ℕ) → length a ≡ v → length b ≡ v → cmp a b ≡ Equal → a ≡ b) → (a b : List ℕ) → length a ≤ v → length b ≤ v → order_in.below (monomial a) (monomial b) → cmp a b ≡ Less
    unfolding order_in
    below-less_in ties a b la lb p = go (cmp a b) refl (below-less (extended cmp_in) (extended_order cmp_in total_in kept_in) a b p)
      where
        one : cmp a b ≡ Equal → IsOne a b
        one e =
            let same : first_exponents v a ≡ first_exponents v b = ties (first_exponents v a) (first_exponents v b) (length-first_exponents v a) (length-first_exponents v b) (agrees a b la lb ∙ e) in
            let whole : monomial_product a (replicate v 0) ≡ monomial_product b (replicate v 0) = ap (λ (x : List ℕ). monomial_product x (replicate v 0)) (sym (take_all v a la)) ∙ same ∙ ap (λ (x : List ℕ). monomial_product x (replicate v 0)) (take_all v b lb) in
            sym (same_monomial-product_left (replicate v 0) a b)
            ∙ ap₂ same_monomial (monomial_product_comm (replicate v 0) a ∙ whole) (monomial_product_comm (replicate v 0) b) ∙ same_monomial_refl (monomial_product b (replicate v 0))

        go : (o : Ordering) → cmp a b ≡ o → extended cmp_in a b ≡ true → cmp a b ≡ Less
        go Less e h = e
        go Equal e h = absurd (true≢false (sym h ∙ (extended_order cmp_in total_in kept_in).irreflexive a b (one e)))
        go Greater e h = absurd (true≢false (sym h ∙ rw (agrees a b la lb, e) refl))

    accessible : (a : List ℕ) → Acc (λ a b. cmp_in a b ≡ Less) a
    accessible = full_acc (λ a b. cmp_in a b ≡ Less) total_in.trans (full-pullback (first_exponents v) (first_full v)) (λ a b e d.
        respects (first_exponents v a) (first_exponents v b) (length-first_exponents v a ∙ sym (length-first_exponents v b)) (first-divides v (first_exponents v a) (first_exponents v b) (low (length-first_exponents v a)) d) e)
      where
        low : {n : ℕ} → n ≡ v → n ≤ v
        low e = omega (arith, e)

    least_in : (a : List ℕ) → ¬ (cmp_in a [] ≡ Less)
    least_in a e = laws.least (take v a) (sym (laws.kept (take v a) [] (replicate v 0)) ∙ ap (λ (x : List ℕ). cmp (first_exponents v a) (monomial_product x (replicate v 0))) (sym (take_all v [] (omega arith))) ∙ e)

    -- nothing is below 1, and the monomials descend only finitely often
    pub order_in-well : IsWellOrder order_in
    unfolding order_in
    order_in-well = extended_well cmp_in total_in kept_in (least_in) (record { apply = accessible })
