-- From a comparison of exponent lists to an order of monomials.
--   ListOrder less       what is asked of the comparison: lists that are one monomial, and no others, stand neither way
--   order_of             the order of monomials that it gives; less-below, below-less say what it is at lists
use Rattle.std.proofs.Common.{◌≡◌, ◌⊎◌, ℕ, Bool, true, false, List, refl, sym, ap₂, ◌∙◌, inl, inr, true≢false}
use Rattle.std.specs.Cmp.{both_ways}
use mathlib.Core.Bool.{Bool-set}
use Rattle.rinv_algebra.specs.Monomial.{same_monomial, monomial_product}
use Rattle.rinv_algebra.proofs.MonomialLaws.{same_monomial_refl, same_monomial_sym, same_monomial_trans}
use Rattle.rinv_theory.proofs.Quotient.{lift₂, ind₂, ind₃}
use Rattle.rinv_theory.proofs.Monoid.{IsOne, Monomial, monomial, monomials, monomial_ind, monomial_sound, monomial-mul}
use Rattle.rinv_theory.proofs.Leads.{MonomialOrder}

-- a comparison of exponent lists that orders monomials
pub record ListOrder (less : List ℕ → List ℕ → Bool) : Type 0 where
  pub irreflexive : (a b : List ℕ) → same_monomial a b ≡ true → less a b ≡ false
  pub trans : (a b c : List ℕ) → less a b ≡ true → less b c ≡ true → less a c ≡ true
  pub total : (a b : List ℕ) → less a b ≡ false → less b a ≡ false → same_monomial a b ≡ true
  pub product : (c a b : List ℕ) → less a b ≡ true → less (monomial_product c a) (monomial_product c b) ≡ true

module _ (less : List ℕ → List ℕ → Bool) (l : ListOrder less) where
  -- lists that are one monomial stand alike to others
  kept_left : (a b c : List ℕ) → IsOne a b → less a c ≡ true → less b c ≡ true
  kept_left a b c e h = go (less b c) (less c b) refl refl
    where
      go : (s t : Bool) → less b c ≡ s → less c b ≡ t → less b c ≡ true
      go true t p q = p
      go false true p q = absurd (true≢false (sym (l.trans a c b h q) ∙ l.irreflexive a b e))
      go false false p q = absurd (true≢false (sym h ∙ l.irreflexive a c (same_monomial_trans a b c e (l.total b c p q))))

  kept_right : (c a b : List ℕ) → IsOne a b → less c a ≡ true → less c b ≡ true
  kept_right c a b e h = go (less c b) (less b c) refl refl
    where
      go : (s t : Bool) → less c b ≡ s → less b c ≡ t → less c b ≡ true
      go true t p q = p
      go false true p q = absurd (true≢false (sym (l.trans b c a q h) ∙ l.irreflexive b a (same_monomial_sym a b e)))
      go false false p q = absurd (true≢false (sym h ∙ l.irreflexive c a (same_monomial_trans c b a (l.total c b p q) (same_monomial_sym a b e))))

  -- the test, of monomials
  is_less : Monomial → Monomial → Bool
  is_less m n = lift₂ {r = IsOne} {s = IsOne} Bool-set less (λ a b c e. both_ways (less a c) (less b c) (kept_left a b c e) (kept_left b a c (same_monomial_sym a b e))) (λ c a b e. both_ways (less c a) (less c b) (kept_right c a b e) (kept_right c b a (same_monomial_sym a b e))) m n

  -- the order of monomials
  pub order_of : MonomialOrder monomials
  unfolding is_less monomial
  order_of = record {
    below = λ m n. is_less m n ≡ true;
    irreflexive = λ m h. true≢false (sym h ∙ monomial_ind (λ m. is_less m m ≡ false) (λ m. Bool-set _ _) (λ a. l.irreflexive a a (same_monomial_refl a)) m);
    trans = ind₃ _ (λ x y z. hlevel Bool-set) l.trans;
    total = λ m n. decided m n (is_less m n) (is_less n m) refl refl;
    mul_below = kept;
  }
    where
      equal : (m n : Monomial) → is_less m n ≡ false → is_less n m ≡ false → m ≡ n
      equal = ind₂ (λ m n. is_less m n ≡ false → is_less n m ≡ false → m ≡ n) (λ m n. hlevel (monomials.is_set)) (λ a b h k. monomial_sound a b (l.total a b h k))

      decided : (m n : Monomial) (b c : Bool) → is_less m n ≡ b → is_less n m ≡ c → (is_less m n ≡ true) ⊎ (m ≡ n) ⊎ (is_less n m ≡ true)
      decided m n true c h k = inl h
      decided m n false true h k = inr (inr k)
      decided m n false false h k = inr (inl (equal m n h k))

      kept : (c m n : Monomial) → is_less m n ≡ true → is_less (monomials.mul c m) (monomials.mul c n) ≡ true
      kept = ind₃ (λ c m n. is_less m n ≡ true → is_less (monomials.mul c m) (monomials.mul c n) ≡ true) (λ c m n. hlevel Bool-set) (λ c a b h. ap₂ is_less (sym (monomial-mul c a)) (sym (monomial-mul c b)) ∙ l.product c a b h)

  -- at lists it is the comparison
  pub less-below : (a b : List ℕ) → less a b ≡ true → order_of.below (monomial a) (monomial b)
  unfolding order_of is_less monomial
  less-below a b h = h

  -- and the other way round
  pub below-less : (a b : List ℕ) → order_of.below (monomial a) (monomial b) → less a b ≡ true
  unfolding order_of is_less monomial
  below-less a b h = h
