-- Block orders and graded reverse lexicographic order are orders of monomials: the sums of the first exponents of each block are a key.
use Rattle.std.proofs.Common.{◌≡◌, ℕ, zero, suc, ◌+◌, List, [], ◌∷◌, ◌++◌, length, take, drop, get_or, sum, refl, sym, ap, ◌∙◌, arith, subst}
use mathlib.Core.Path.{fun_ext}
use mathlib.Core.WellFounded.{WellFounded}
use Rattle.std.proofs.lemmas.Bool.Decides.{nat_tests}
use Rattle.std.proofs.lemmas.List.{length-append}
use Rattle.std.proofs.lemmas.List.Sums.{sum_by-cons, sum_by-append}
use Rattle.std.proofs.Math.Seq.{take-nil, drop-nil}
use Rattle.rinv_algebra.proofs.MonomialLaws.{product-nil}
use Rattle.std.specs.Ordering.{nat_cmp, ordering_then}
use Rattle.std.specs.declared.cmp.Ordering.{Ordering}
use Rattle.std.specs.declared.cmp.Ordering.TheVariants.{Less}
use Rattle.rinv_algebra.specs.Monomial.{monomial_product}
use Rattle.rinv_algebra.specs.Order.{last_cmp, grevlex, block_order, lex}
use Rattle.rinv_algebra.specs.MonomialOrder.{MonoOrderLaws}
use Rattle.rinv_algebra.proofs.KeyOrder.{then-assoc, then-equal, lex-append, key_laws, well_founded as well_founded-key}

-- ---- products of lists

-- the degree of a product is the sum of the degrees
pub sum-product : (a b : List ℕ) → sum (monomial_product a b) ≡ sum a + sum b
unfolding monomial_product
sum-product [] b = omega arith
sum-product (x ∷ a) [] = omega arith
sum-product (x ∷ a) (y ∷ b) = omega (arith, sum_by-cons (λ (n : ℕ). n) x a, sum_by-cons (λ (n : ℕ). n) y b, sum_by-cons (λ (n : ℕ). n) (x + y) (monomial_product a b), sum-product a b)

pub take-product : (k : ℕ) (a b : List ℕ) → take k (monomial_product a b) ≡ monomial_product (take k a) (take k b)
unfolding monomial_product
take-product zero a b = refl
take-product (suc k) [] b = refl
take-product (suc k) (x ∷ a) [] = refl
take-product (suc k) (x ∷ a) (y ∷ b) = ap (λ (r : List ℕ). (x + y) ∷ r) (take-product k a b)

pub drop-product : (k : ℕ) (a b : List ℕ) → drop k (monomial_product a b) ≡ monomial_product (drop k a) (drop k b)
unfolding monomial_product
drop-product zero a b = refl
drop-product (suc k) [] b = refl
drop-product (suc k) (x ∷ a) [] = sym (product-nil (drop k a))
drop-product (suc k) (x ∷ a) (y ∷ b) = drop-product k a b

product-append : (a b c d : List ℕ) → length a ≡ length c → monomial_product (a ++ b) (c ++ d) ≡ monomial_product a c ++ monomial_product b d
unfolding monomial_product
product-append [] b [] d e = refl
product-append [] b (z ∷ c) d e = absurd (omega arith)
product-append (x ∷ a) b [] d e = absurd (omega arith)
product-append (x ∷ a) b (z ∷ c) d e = ap (λ (r : List ℕ). (x + z) ∷ r) (product-append a b c d (omega arith))

-- ---- the key

-- the sums of the first k, k - 1, .., 1 exponents
abbrev pub first_sums : ℕ → List ℕ → List ℕ
first_sums zero a = []
first_sums (suc k) a = sum (take (suc k) a) ∷ first_sums k a

-- these sums of each block
abbrev pub block_key : List ℕ → List ℕ → List ℕ
block_key [] a = []
block_key (k ∷ sizes) a = first_sums k a ++ block_key sizes (drop k a)

length-first_sums : (k : ℕ) (a : List ℕ) → length (first_sums k a) ≡ k
length-first_sums zero a = refl
length-first_sums (suc k) a = ap suc (length-first_sums k a)

pub length-block_key : (sizes a : List ℕ) → length (block_key sizes a) ≡ sum sizes
length-block_key [] a = refl
length-block_key (k ∷ sizes) a =
    omega (arith, length-append (first_sums k a) (block_key sizes (drop k a)), length-first_sums k a, length-block_key sizes (drop k a), sum_by-cons (λ (n : ℕ). n) k sizes)

first_sums-product : (k : ℕ) (a b : List ℕ) → first_sums k (monomial_product a b) ≡ monomial_product (first_sums k a) (first_sums k b)
unfolding monomial_product
first_sums-product zero a b = refl
first_sums-product (suc k) a b =
    let head : sum (take (suc k) (monomial_product a b)) ≡ sum (take (suc k) a) + sum (take (suc k) b) = ap sum (take-product (suc k) a b) ∙ sum-product (take (suc k) a) (take (suc k) b) in
    cc (head, first_sums-product k a b)

pub block_key-product : (sizes a b : List ℕ) → block_key sizes (monomial_product a b) ≡ monomial_product (block_key sizes a) (block_key sizes b)
unfolding monomial_product
block_key-product [] a b = refl
block_key-product (k ∷ sizes) a b =
    ap (λ (r : List ℕ). r ++ block_key sizes (drop k (monomial_product a b))) (first_sums-product k a b)
    ∙ ap (λ (r : List ℕ). monomial_product (first_sums k a) (first_sums k b) ++ r) (ap (block_key sizes) (drop-product k a b) ∙ block_key-product sizes (drop k a) (drop k b))
    ∙ sym (product-append (first_sums k a) (block_key sizes (drop k a)) (first_sums k b) (block_key sizes (drop k b)) (length-first_sums k a ∙ sym (length-first_sums k b)))

sum-first_sums_nil : (k : ℕ) → sum (first_sums k []) ≡ 0
sum-first_sums_nil zero = refl
sum-first_sums_nil (suc k) = sum-first_sums_nil k

sum-block_key_nil : (sizes : List ℕ) → sum (block_key sizes []) ≡ 0
sum-block_key_nil [] = refl
sum-block_key_nil (k ∷ sizes) =
    ap (λ (r : List ℕ). sum (first_sums k [] ++ block_key sizes r)) (drop-nil k)
    ∙ sum_by-append (λ (n : ℕ). n) (first_sums k []) (block_key sizes [])
    ∙ omega (arith, sum-first_sums_nil k, sum-block_key_nil sizes)

-- ---- the order by the key

-- at one place more, this place decides before those to its left
pub last_cmp-take : (k : ℕ) (a b : List ℕ) → last_cmp (take (suc k) a) (take (suc k) b) ≡ ordering_then (nat_cmp (get_or b k 0) (get_or a k 0)) (last_cmp (take k a) (take k b))
unfolding last_cmp
last_cmp-take zero [] [] = refl
last_cmp-take zero [] (y ∷ b) = sym (then-equal (nat_cmp y 0))
last_cmp-take zero (x ∷ a) [] = sym (then-equal (nat_cmp 0 x))
last_cmp-take zero (x ∷ a) (y ∷ b) = sym (then-equal (nat_cmp y x))
last_cmp-take (suc k) [] [] = refl
last_cmp-take (suc k) [] (y ∷ b) =
    ap (λ (o : Ordering). ordering_then o (nat_cmp y 0)) (last_cmp-take k [] b ∙ ap (λ (r : List ℕ). ordering_then (nat_cmp (get_or b k 0) 0) (last_cmp r (take k b))) (take-nil k))
    ∙ then-assoc (nat_cmp (get_or b k 0) 0) (last_cmp [] (take k b)) (nat_cmp y 0)
last_cmp-take (suc k) (x ∷ a) [] =
    ap (λ (o : Ordering). ordering_then o (nat_cmp 0 x)) (last_cmp-take k a [] ∙ ap (λ (r : List ℕ). ordering_then (nat_cmp 0 (get_or a k 0)) (last_cmp (take k a) r)) (take-nil k))
    ∙ then-assoc (nat_cmp 0 (get_or a k 0)) (last_cmp (take k a) []) (nat_cmp 0 x)
last_cmp-take (suc k) (x ∷ a) (y ∷ b) = ap (λ (o : Ordering). ordering_then o (nat_cmp y x)) (last_cmp-take k a b) ∙ then-assoc (nat_cmp (get_or b k 0) (get_or a k 0)) (last_cmp (take k a) (take k b)) (nat_cmp y x)

sum-take_suc : (k : ℕ) (a : List ℕ) → sum (take (suc k) a) ≡ sum (take k a) + get_or a k 0
sum-take_suc k [] = ap (λ (r : List ℕ). sum r + 0) (sym (take-nil k))
sum-take_suc zero (x ∷ a) = refl
sum-take_suc (suc k) (x ∷ a) = omega (arith, sum-take_suc k a, sum_by-cons (λ (n : ℕ). n) x (take (suc k) a), sum_by-cons (λ (n : ℕ). n) x (take k a))

-- where two sums are equal, the greater last summand leaves less
last_for_first : (s t x y s' t' : ℕ) (o : Ordering) → s' ≡ s + x → t' ≡ t + y → ordering_then (nat_cmp s' t') (ordering_then (nat_cmp y x) o) ≡ ordering_then (nat_cmp s' t') (ordering_then (nat_cmp s t) o)
last_for_first s t x y s' t' o e f = grind (arith, nat_tests)

grevlex-take : (k : ℕ) (a b : List ℕ) → grevlex (take k a) (take k b) ≡ lex (first_sums k a) (first_sums k b)
unfolding last_cmp
grevlex-take zero a b = refl
grevlex-take (suc k) a b =
    ap (ordering_then (nat_cmp (sum (take (suc k) a)) (sum (take (suc k) b)))) (last_cmp-take k a b)
    ∙ last_for_first (sum (take k a)) (sum (take k b)) (get_or a k 0) (get_or b k 0) (sum (take (suc k) a)) (sum (take (suc k) b)) (last_cmp (take k a) (take k b)) (sum-take_suc k a) (sum-take_suc k b)
    ∙ ap (ordering_then (nat_cmp (sum (take (suc k) a)) (sum (take (suc k) b)))) (grevlex-take k a b)

pub block_order-key : (sizes a b : List ℕ) → block_order sizes a b ≡ lex (block_key sizes a) (block_key sizes b)
unfolding block_order
block_order-key [] a b = refl
block_order-key (k ∷ sizes) a b =
    ap (ordering_then (grevlex (take k a) (take k b))) (block_order-key sizes (drop k a) (drop k b))
    ∙ ap (λ (o : Ordering). ordering_then o (lex (block_key sizes (drop k a)) (block_key sizes (drop k b)))) (grevlex-take k a b)
    ∙ sym (lex-append (first_sums k a) (block_key sizes (drop k a)) (first_sums k b) (block_key sizes (drop k b)) (length-first_sums k a ∙ sym (length-first_sums k b)))

pub block_order_laws : (sizes : List ℕ) → MonoOrderLaws (block_order sizes)
block_order_laws sizes =
    let by_key : (λ (a b : List ℕ). lex (block_key sizes a) (block_key sizes b)) ≡ block_order sizes = fun_ext (λ a. fun_ext (λ b. sym (block_order-key sizes a b))) in
    subst MonoOrderLaws by_key (key_laws (sum sizes) (block_key sizes) (length-block_key sizes) (block_key-product sizes) (sum-block_key_nil sizes))

-- in a block order the monomials descend only finitely often
pub block_order_well_founded : (sizes : List ℕ) → WellFounded (λ a b. block_order sizes a b ≡ Less)
block_order_well_founded sizes =
    let by_key : (λ (a b : List ℕ). lex (block_key sizes a) (block_key sizes b)) ≡ block_order sizes = fun_ext (λ a. fun_ext (λ b. sym (block_order-key sizes a b))) in
    subst (λ (R : List ℕ → List ℕ → Ordering). WellFounded (λ a b. R a b ≡ Less)) by_key (well_founded-key (sum sizes) (block_key sizes) (length-block_key sizes))
