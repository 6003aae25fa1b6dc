-- Orders by a key: an additive list of numbers of one length, compared lexicographically.
use Rattle.std.proofs.Common.{◌≡◌, ℕ, zero, suc, ◌+◌, ◌<◌, List, [], ◌∷◌, ◌++◌, ◌⊎◌, length, sum, refl, sym, ap, ◌∙◌, arith, subst, inl, inr}
use mathlib.Core.Bool.{true≢false}
use mathlib.Core.WellFounded.{Acc, WellFounded}
use Rattle.std.proofs.lemmas.Bool.Decides.{nat_tests}
use Rattle.std.proofs.lemmas.Cmp.{nat_list_cmp_total, on_total}
use Rattle.std.proofs.lemmas.List.Sums.{sum_by-cons}
use Rattle.std.specs.Ordering.{nat_cmp, ordering_then, is_lt}
use Rattle.std.specs.declared.cmp.Ordering.{Ordering}
use Rattle.std.specs.declared.cmp.Ordering.TheVariants.{Less, Equal, Greater}
use Rattle.rinv_algebra.specs.Monomial.{monomial_product}
use Rattle.rinv_algebra.specs.Order.{lex}
use Rattle.rinv_algebra.specs.MonomialOrder.{MonoOrderLaws}

pub equal-less : Equal ≡ Less → ⊥
equal-less e = true≢false (sym (ap is_lt e))

pub greater-less : Greater ≡ Less → ⊥
greater-less e = true≢false (sym (ap is_lt e))

pub then-assoc : (o p q : Ordering) → ordering_then (ordering_then o p) q ≡ ordering_then o (ordering_then p q)
then-assoc Less p q = refl
then-assoc Equal p q = refl
then-assoc Greater p q = refl

pub then-equal : (o : Ordering) → ordering_then o Equal ≡ o
then-equal Less = refl
then-equal Equal = refl
then-equal Greater = refl

then-less : (o p : Ordering) → ordering_then o p ≡ Less → (o ≡ Less) ⊎ ((o ≡ Equal) × (p ≡ Less))
then-less Less p e = inl refl
then-less Equal p e = inr (refl, e)
then-less Greater p e = absurd (greater-less e)

-- two lists in two parts are compared part by part
pub lex-append : (a b c d : List ℕ) → length a ≡ length c → lex (a ++ b) (c ++ d) ≡ ordering_then (lex a c) (lex b d)
lex-append [] b [] d e = refl
lex-append [] b (z ∷ c) d e = absurd (omega arith)
lex-append (x ∷ a) b [] d e = absurd (omega arith)
lex-append (x ∷ a) b (z ∷ c) d e = ap (ordering_then (nat_cmp x z)) (lex-append a b c d (omega arith)) ∙ sym (then-assoc (nat_cmp x z) (lex a c) (lex b d))

lex-product : (a b m : List ℕ) → length a ≡ length m → length b ≡ length m → lex (monomial_product a m) (monomial_product b m) ≡ lex a b
unfolding monomial_product
lex-product [] [] [] la lb = refl
lex-product [] [] (z ∷ m) la lb = absurd (omega arith)
lex-product [] (y ∷ b) m la lb = absurd (omega arith)
lex-product (x ∷ a) [] m la lb = absurd (omega arith)
lex-product (x ∷ a) (y ∷ b) [] la lb = absurd (omega arith)
lex-product (x ∷ a) (y ∷ b) (z ∷ m) la lb =
    ap (λ (o : Ordering). ordering_then o (lex (monomial_product a m) (monomial_product b m))) (kept x y z) ∙ ap (ordering_then (nat_cmp x y)) (lex-product a b m (omega arith) (omega arith))
  where
    kept : (x y z : ℕ) → nat_cmp (x + z) (y + z) ≡ nat_cmp x y
    kept x y z = grind (arith, nat_tests)

lex-zeros : (a b : List ℕ) → length a ≡ length b → sum b ≡ 0 → lex a b ≡ Less → ⊥
lex-zeros [] [] e none low = equal-less low
lex-zeros [] (y ∷ b) e none low = absurd (omega arith)
lex-zeros (x ∷ a) [] e none low = absurd (omega arith)
lex-zeros (x ∷ a) (y ∷ b) e none low =
    let whole = sum_by-cons (λ (n : ℕ). n) y b in
    let first : y ≡ 0 = omega arith in
    let rest : sum b ≡ 0 = omega arith in
    elim (then-less (nat_cmp x y) (lex a b) low) [
      | inl less ↦ absurd (grind (arith, nat_tests, first, less))
      | inr (same, less) ↦ lex-zeros a b (omega arith) rest less
    ]

-- a list of k numbers comes before another
abbrev Before : ℕ → List ℕ → List ℕ → Type 0
Before k a b = (length a ≡ k) × (lex a b ≡ Less)

-- by the first number, and then by the rest
acc-first : (k n : ℕ) → ((m : ℕ) → m < n → (a : List ℕ) → length a ≡ k → Acc (Before (suc k)) (m ∷ a)) → (a : List ℕ) → Acc (Before k) a → Acc (Before (suc k)) (n ∷ a)
acc-first k n lower a (Acc.intro x h) = Acc.intro (n ∷ x) (λ b p. step b p.0 p.1 (λ c q. acc-first k n lower c (h c q)))
  where
    step : (b : List ℕ) → length b ≡ suc k → lex b (n ∷ x) ≡ Less → ((c : List ℕ) → Before k c x → Acc (Before (suc k)) (n ∷ c)) → Acc (Before (suc k)) b
    step [] e low again = absurd (omega arith)
    step (y ∷ b) e low again = elim (then-less (nat_cmp y n) (lex b x) low) [
      | inl less ↦ lower y (grind (arith, nat_tests, less)) b (omega arith)
      | inr (same, less) ↦ let first : n ≡ y = grind (arith, nat_tests, same) in subst (λ (z : ℕ). Acc (Before (suc k)) (z ∷ b)) first (again b (omega arith, less))
    ]

acc-below : (k : ℕ) → ((a : List ℕ) → length a ≡ k → Acc (Before k) a) → (t n : ℕ) → n < t → (a : List ℕ) → length a ≡ k → Acc (Before (suc k)) (n ∷ a)
acc-below k all zero n h a e = absurd (omega arith)
acc-below k all (suc t) n h a e = acc-first k n (λ m p b f. acc-below k all t m (omega arith) b f) a (all a e)

acc-lex : (k : ℕ) (a : List ℕ) → length a ≡ k → Acc (Before k) a
acc-lex zero [] e = Acc.intro [] (λ b p. absurd (nothing b p.1))
  where
    nothing : (b : List ℕ) → lex b [] ≡ Less → ⊥
    nothing [] low = equal-less low
    nothing (x ∷ b) low = greater-less low
acc-lex zero (x ∷ a) e = absurd (omega arith)
acc-lex (suc k) [] e = absurd (omega arith)
acc-lex (suc k) (x ∷ a) e = acc-below k (acc-lex k) (suc x) x (omega arith) a (omega arith)

-- whatever is compared by keys of one length descends only finitely often
module _ {M : Type 0} (k : ℕ) (key : M → List ℕ) (len : (a : M) → length (key a) ≡ k) where
  abbrev pub Below : M → M → Type 0
  Below a b = lex (key a) (key b) ≡ Less

  acc-key : (x : List ℕ) → Acc (Before k) x → (a : M) → key a ≡ x → Acc Below a
  acc-key x (Acc.intro y h) a e = Acc.intro a (λ b low. acc-key (key b) (h (key b) (len b, subst (λ (z : List ℕ). lex (key b) z ≡ Less) e low)) b refl)

  pub well_founded : WellFounded Below
  well_founded = record { apply = λ a. acc-key (key a) (acc-lex k (key a) (len a)) a refl }

-- an additive key gives an order of monomials
pub key_laws : (k : ℕ) (key : List ℕ → List ℕ) → ((a : List ℕ) → length (key a) ≡ k) → ((a b : List ℕ) → key (monomial_product a b) ≡ monomial_product (key a) (key b)) → sum (key []) ≡ 0 → MonoOrderLaws (λ a b. lex (key a) (key b))
key_laws k key len product one = record {
  total = on_total key nat_list_cmp_total;
  kept = λ a b m.
      ap (λ (c : List ℕ). lex c (key (monomial_product b m))) (product a m) ∙ ap (lex (monomial_product (key a) (key m))) (product b m)
      ∙ lex-product (key a) (key b) (key m) (len a ∙ sym (len m)) (len b ∙ sym (len m));
  least = λ a. lex-zeros (key a) (key []) (len a ∙ sym (len [])) one;
}
