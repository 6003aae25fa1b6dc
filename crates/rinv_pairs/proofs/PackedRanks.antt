-- Packed lists of numbers compare as the lists do.
use Rattle.std.proofs.Common.{◌≡◌, ℕ, zero, suc, ◌+◌, ◌*◌, ◌<◌, ◌≤◌, Bool, true, false, cond, nat_lt, ◌==◌, length, List, [], ◌∷◌, refl, sym, ap, ap₂, ◌∙◌, arith}
use Rattle.std.proofs.lemmas.Bool.Decides.{nat_tests}
use Rattle.std.proofs.lemmas.Cmp.{nat_list_cmp_total}
use Rattle.std.specs.Cmp.{tied_itself}
use Rattle.std.specs.Ordering.{ordering_then, nat_cmp}
use Rattle.std.specs.declared.cmp.Ordering.{Ordering}
use Rattle.std.specs.declared.cmp.Ordering.TheVariants.{Less, Equal, Greater}
use Rattle.rinv_algebra.specs.Monomial.{total_degree, max_degree}
use Rattle.rinv_algebra.specs.Order.{lex}
use Rattle.rinv_pairs.specs.Packing.{part, after, word, after_four, words, left_after, packed, packed_cmp}

pub packed-itself : (p : List ℕ × List ℕ) → packed_cmp p p ≡ Equal
packed-itself p = ap₂ ordering_then (tied_itself nat_list_cmp_total p.0) (tied_itself nat_list_cmp_total p.1)

then-assoc : (o p q : Ordering) → ordering_then (ordering_then o p) q ≡ ordering_then o (ordering_then p q)
then-assoc Less p q = refl
then-assoc Equal p q = refl
then-assoc Greater p q = refl

then-equal : (o : Ordering) → ordering_then o Equal ≡ o
then-equal Less = refl
then-equal Equal = refl
then-equal Greater = refl

pub part-fits : (xs : List ℕ) → part xs < 65536
part-fits [] = omega arith
part-fits (x ∷ xs) = grind (arith, nat_tests)

-- the first number, and what is left
first-step : (xs ys : List ℕ) → lex xs ys ≡ ordering_then (nat_cmp (part xs) (part ys)) (lex (after xs) (after ys))
first-step [] [] = refl
first-step [] (y ∷ ys) = less (nat_lt y 65534) refl
  where
    less : (b : Bool) → nat_lt y 65534 ≡ b → Less ≡ ordering_then (nat_cmp 0 (cond b (y + 1) 65535)) (lex [] (cond b ys (y ∷ ys)))
    less true e = let t : nat_lt 0 (y + 1) ≡ true = grind (arith, nat_tests) in rw t refl
    less false e = refl
first-step (x ∷ xs) [] = greater (nat_lt x 65534) refl
  where
    greater : (b : Bool) → nat_lt x 65534 ≡ b → Greater ≡ ordering_then (nat_cmp (cond b (x + 1) 65535) 0) (lex (cond b xs (x ∷ xs)) [])
    greater true e =
        let t : nat_lt (x + 1) 0 ≡ false = grind (arith, nat_tests) in
        let u : (x + 1 == 0) ≡ false = grind (arith, nat_tests) in
        rw (t, u) refl
    greater false e = refl
first-step (x ∷ xs) (y ∷ ys) = both (nat_lt x 65534) (nat_lt y 65534) refl refl
  where
    both : (b c : Bool) → nat_lt x 65534 ≡ b → nat_lt y 65534 ≡ c → ordering_then (nat_cmp x y) (lex xs ys) ≡ ordering_then (nat_cmp (cond b (x + 1) 65535) (cond c (y + 1) 65535)) (lex (cond b xs (x ∷ xs)) (cond c ys (y ∷ ys)))
    both true true e f =
        let t : nat_lt (x + 1) (y + 1) ≡ nat_lt x y = grind (arith, nat_tests) in
        let u : (x + 1 == y + 1) ≡ (x == y) = grind (arith, nat_tests) in
        rw (t, u) refl
    both true false e f =
        let s : nat_lt x y ≡ true = grind (arith, nat_tests, e, f) in
        let t : nat_lt (x + 1) 65535 ≡ true = grind (arith, nat_tests, e) in
        rw (s, t) refl
    both false true e f =
        let s : nat_lt x y ≡ false = grind (arith, nat_tests, e, f) in
        let s2 : (x == y) ≡ false = grind (arith, nat_tests, e, f) in
        let t : nat_lt 65535 (y + 1) ≡ false = grind (arith, nat_tests, f) in
        let u : (65535 == y + 1) ≡ false = grind (arith, nat_tests, f) in
        rw (s, s2, t, u) refl
    both false false e f = refl

-- one more part in the lowest place
digit-step : (a b x y : ℕ) → x < 65536 → y < 65536 → nat_cmp (a * 65536 + x) (b * 65536 + y) ≡ ordering_then (nat_cmp a b) (nat_cmp x y)
digit-step a b x y low high = split (nat_lt a b) (a == b) refl refl
  where
    split : (l e : Bool) → nat_lt a b ≡ l → (a == b) ≡ e → nat_cmp (a * 65536 + x) (b * 65536 + y) ≡ ordering_then (cond l Less (cond e Equal Greater)) (nat_cmp x y)
    split true e p q =
        let t : nat_lt (a * 65536 + x) (b * 65536 + y) ≡ true = grind (arith, nat_tests, p, low, high) in
        rw t refl
    split false true p q =
        let t : nat_lt (a * 65536 + x) (b * 65536 + y) ≡ nat_lt x y = grind (arith, nat_tests, q) in
        let u : (a * 65536 + x == b * 65536 + y) ≡ (x == y) = grind (arith, nat_tests, q) in
        rw (t, u) refl
    split false false p q =
        let t : nat_lt (a * 65536 + x) (b * 65536 + y) ≡ false = grind (arith, nat_tests, p, q, low, high) in
        let u : (a * 65536 + x == b * 65536 + y) ≡ false = grind (arith, nat_tests, p, q, low, high) in
        rw (t, u) refl

-- one more number, where those before it are in one number already
next-step : (a b : ℕ) (xs ys : List ℕ) → ordering_then (nat_cmp a b) (lex xs ys) ≡ ordering_then (nat_cmp (a * 65536 + part xs) (b * 65536 + part ys)) (lex (after xs) (after ys))
next-step a b xs ys =
    ap (ordering_then (nat_cmp a b)) (first-step xs ys)
    ∙ sym (then-assoc (nat_cmp a b) (nat_cmp (part xs) (part ys)) (lex (after xs) (after ys)))
    ∙ ap (λ (o : Ordering). ordering_then o (lex (after xs) (after ys))) (sym (digit-step a b (part xs) (part ys) (part-fits xs) (part-fits ys)))

word-step : (xs ys : List ℕ) → lex xs ys ≡ ordering_then (nat_cmp (word xs) (word ys)) (lex (after_four xs) (after_four ys))
unfolding word after_four
word-step xs ys =
    first-step xs ys
    ∙ next-step (part xs) (part ys) (after xs) (after ys)
    ∙ next-step (part xs * 65536 + part (after xs)) (part ys * 65536 + part (after ys)) (after (after xs)) (after (after ys))
    ∙ next-step ((part xs * 65536 + part (after xs)) * 65536 + part (after (after xs))) ((part ys * 65536 + part (after ys)) * 65536 + part (after (after ys))) (after (after (after xs))) (after (after (after ys)))

-- one more word before a packed list
more-words : (a b : ℕ) (us vs : List ℕ) (left right : List ℕ) (o : Ordering) → o ≡ ordering_then (lex us vs) (lex left right) → ordering_then (nat_cmp a b) o ≡ ordering_then (lex (a ∷ us) (b ∷ vs)) (lex left right)
more-words a b us vs left right o e = ap (ordering_then (nat_cmp a b)) e ∙ sym (then-assoc (nat_cmp a b) (lex us vs) (lex left right))

words-order : (n : ℕ) (r s : List ℕ) → lex r s ≡ ordering_then (lex (words n r) (words n s)) (lex (left_after n r) (left_after n s))
words-order zero r s = refl
words-order (suc n) r s = word-step r s ∙ more-words (word r) (word s) (words n (after_four r)) (words n (after_four s)) (left_after n (after_four r)) (left_after n (after_four s)) (lex (after_four r) (after_four s)) (words-order n (after_four r) (after_four s))

packed-order : (r s : List ℕ) → lex r s ≡ packed_cmp (packed r) (packed s)
packed-order r s = words-order 6 r s

-- packed ranks compare as their monomials
pub packed-ranks : (rank : List ℕ → List ℕ) (cmp : List ℕ → List ℕ → Ordering) → ((a b : List ℕ) → length a ≡ length b → total_degree a ≤ max_degree → total_degree b ≤ max_degree → lex (rank a) (rank b) ≡ cmp a b)
    → (a b : List ℕ) → length a ≡ length b → total_degree a ≤ max_degree → total_degree b ≤ max_degree → packed_cmp (packed (rank a)) (packed (rank b)) ≡ cmp a b
packed-ranks rank cmp ranks a b same low high = sym (packed-order (rank a) (rank b)) ∙ ranks a b same low high
