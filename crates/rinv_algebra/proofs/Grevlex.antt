-- Graded reverse lexicographic order is an order of monomials: on lists of at most n exponents it is the order of one block of n.
use Rattle.std.proofs.Common.{◌≡◌, ℕ, ◌+◌, ◌≤◌, List, [], ◌∷◌, ◌++◌, length, min, take, drop, sum, refl, sym, ap, ◌∙◌, arith}
use mathlib.Core.Bool.{true≢false}
use mathlib.Core.WellFounded.{WellFounded}
use mathlib.Core.WellFounded.Subrelation as Subrelation
use Rattle.std.proofs.lemmas.Bool.Decides.{nat_tests}
use Rattle.std.proofs.lemmas.List.{take-append-drop, take_all, length-take, length-drop}
use Rattle.std.proofs.lemmas.List.Sums.{sum_by-cons}
use Rattle.std.specs.Ordering.{nat_cmp, ordering_then, ordering_reverse, is_eq}
use Rattle.std.specs.declared.cmp.Ordering.{Ordering}
use Rattle.std.specs.declared.cmp.Ordering.TheVariants.{Less, Equal, Greater}
use Rattle.rinv_algebra.specs.Monomial.{monomial_product}
use Rattle.rinv_algebra.specs.Order.{last_cmp, grevlex, block_order}
use Rattle.rinv_algebra.specs.MonomialOrder.{MonoOrderLaws}
use Rattle.rinv_algebra.proofs.KeyOrder.{then-equal}
use Rattle.rinv_algebra.proofs.BlockOrder.{block_order_laws, block_order_well_founded}

length-product-le : (a b : List ℕ) → length (monomial_product a b) ≤ length a + length b
unfolding monomial_product
length-product-le [] b = omega arith
length-product-le (x ∷ a) [] = omega arith
length-product-le (x ∷ a) (y ∷ b) = let h = length-product-le a b in omega arith

grevlex-one_block : (n : ℕ) (a b : List ℕ) → length a ≤ n → length b ≤ n → grevlex a b ≡ block_order (n ∷ []) a b
unfolding block_order
grevlex-one_block n a b la lb =
    ap (λ (c : List ℕ). grevlex c b) (sym (take_all n a la)) ∙ ap (grevlex (take n a)) (sym (take_all n b lb)) ∙ sym (then-equal (grevlex (take n a) (take n b)))

pub grevlex_laws : MonoOrderLaws grevlex
grevlex_laws = record {
  total = record {
    antisymm = λ a b.
        let n = length a + length b in
        grevlex-one_block n a b (omega arith) (omega arith) ∙ (block_order_laws (n ∷ [])).total.antisymm a b ∙ ap ordering_reverse (sym (grevlex-one_block n b a (omega arith) (omega arith)));
    trans = λ a b c e f.
        let n = length a + length b + length c in
        grevlex-one_block n a c (omega arith) (omega arith)
        ∙ (block_order_laws (n ∷ [])).total.trans a b c (sym (grevlex-one_block n a b (omega arith) (omega arith)) ∙ e) (sym (grevlex-one_block n b c (omega arith) (omega arith)) ∙ f);
    congr = λ a b c e.
        let n = length a + length b + length c in
        grevlex-one_block n a c (omega arith) (omega arith)
        ∙ (block_order_laws (n ∷ [])).total.congr a b c (sym (grevlex-one_block n a b (omega arith) (omega arith)) ∙ e) ∙ sym (grevlex-one_block n b c (omega arith) (omega arith));
  };
  kept = λ a b m.
      let n = length a + length b + length m in
      grevlex-one_block n (monomial_product a m) (monomial_product b m) (omega (arith, length-product-le a m)) (omega (arith, length-product-le b m))
      ∙ (block_order_laws (n ∷ [])).kept a b m ∙ sym (grevlex-one_block n a b (omega arith) (omega arith));
  least = λ a low. (block_order_laws (length a ∷ [])).least a (sym (grevlex-one_block (length a) a [] (omega arith) (omega arith)) ∙ low);
}

-- among the monomials in v variables they descend only finitely often
pub grevlex_well_founded : (v : ℕ) → WellFounded (λ (a b : List ℕ). (length a ≤ v) × (length b ≤ v) × (grevlex a b ≡ Less))
grevlex_well_founded v = Subrelation.wf (λ a b low. sym (grevlex-one_block v a b low.0 low.1) ∙ low.2) (block_order_well_founded (v ∷ []))

-- ---- ties

less-equal : Less ≡ Equal → ⊥
less-equal e = true≢false (sym (ap is_eq e))

greater-equal : Greater ≡ Equal → ⊥
greater-equal e = true≢false (sym (ap is_eq e))

then-both_equal : (o p : Ordering) → ordering_then o p ≡ Equal → (o ≡ Equal) × (p ≡ Equal)
then-both_equal Less p e = absurd (less-equal e)
then-both_equal Equal p e = (refl, e)
then-both_equal Greater p e = absurd (greater-equal e)

last_cmp_ties : (a b : List ℕ) → length a ≡ length b → last_cmp a b ≡ Equal → a ≡ b
unfolding last_cmp
last_cmp_ties [] [] same e = refl
last_cmp_ties [] (y ∷ b) same e = absurd (omega arith)
last_cmp_ties (x ∷ a) [] same e = absurd (omega arith)
last_cmp_ties (x ∷ a) (y ∷ b) same e =
    let both = then-both_equal (last_cmp a b) (nat_cmp y x) e in
    let rest : a ≡ b = last_cmp_ties a b (omega arith) both.0 in
    let first : x ≡ y = grind (arith, nat_tests, both.1) in
    cc (rest, first)

-- two monomials in equally many variables tie only where they are equal
pub grevlex_ties : (a b : List ℕ) → length a ≡ length b → grevlex a b ≡ Equal → a ≡ b
grevlex_ties a b same e = last_cmp_ties a b same (then-both_equal (nat_cmp (sum a) (sum b)) (last_cmp a b) e).1

-- the same in a block order that has no fewer
pub block_order_ties : (sizes a b : List ℕ) → length a ≡ length b → length a ≤ sum sizes → block_order sizes a b ≡ Equal → a ≡ b
unfolding block_order
block_order_ties [] [] [] same fits e = refl
block_order_ties [] [] (y ∷ b) same fits e = absurd (omega arith)
block_order_ties [] (x ∷ a) b same fits e = absurd (omega arith)
block_order_ties (k ∷ sizes) a b same fits e =
    let both = then-both_equal (grevlex (take k a) (take k b)) (block_order sizes (drop k a) (drop k b)) e in
    let whole : sum (k ∷ sizes) ≡ k + sum sizes = sum_by-cons (λ (n : ℕ). n) k sizes in
    let first : take k a ≡ take k b = grevlex_ties (take k a) (take k b) (length-take k a ∙ ap (min k) same ∙ sym (length-take k b)) both.0 in
    let rest : drop k a ≡ drop k b = block_order_ties sizes (drop k a) (drop k b) (omega (arith, length-drop k a, length-drop k b)) (omega (arith, length-drop k a)) both.1 in
    sym (take-append-drop k a) ∙ ap (λ (r : List ℕ). r ++ drop k a) first ∙ ap (λ (r : List ℕ). take k b ++ r) rest ∙ take-append-drop k b
