-- An expression has one value and the same formal numbers wherever its names stand for the same.
--   value-agrees, formal-agrees       where the names of an expression stand for the same
--   high-agrees, long-agrees          so its limits are the same

use Rattle.std.proofs.Common.{◌≡◌, ℕ, List, Bool, ◌||◌, refl, ap, ap₂}
use Rattle.rinv_algebra.specs.Residue.{residue_ops}
use Rattle.rinv_algebra.specs.Polynomial.{opposite}
use Rattle.rinv_algebra.specs.Fraction.{Fraction, fraction_sum, fraction_product}
use Rattle.rinv_text.specs.declared.formal.Formal.{Formal}
use Rattle.rinv_text.specs.Grammar.{Tree, number, name, negative, sum, difference, product, quotient, power}
use Rattle.rinv_text.specs.Formal.{formal, formal_sum, formal_product, turned, formal_power, some_part, has_high_exponent, is_above, has_more, is_high, is_long}
use Rattle.rinv_text.specs.Reading.{value, to_the}
use Rattle.rinv_text.proofs.Words.{EachName}

module _ (p : ℕ) (m k : List ℕ → Fraction ℕ) where
  pub value-agrees : (t : Tree) → EachName (λ w. m w ≡ k w) t → value p m t ≡ value p k t
  unfolding value
  value-agrees (number n) h = refl
  value-agrees (name w) h = h
  value-agrees (negative t) h = ap (λ (x : Fraction ℕ). (opposite (residue_ops p) x.0, x.1)) (value-agrees t h)
  value-agrees (sum t u) (a, b) = ap₂ (λ (x y : Fraction ℕ). fraction_sum (residue_ops p) x y) (value-agrees t a) (value-agrees u b)
  value-agrees (difference t u) (a, b) = ap₂ (λ (x y : Fraction ℕ). fraction_sum (residue_ops p) x (opposite (residue_ops p) y.0, y.1)) (value-agrees t a) (value-agrees u b)
  value-agrees (product t u) (a, b) = ap₂ (λ (x y : Fraction ℕ). fraction_product (residue_ops p) x y) (value-agrees t a) (value-agrees u b)
  value-agrees (quotient t u) (a, b) = ap₂ (λ (x y : Fraction ℕ). fraction_product (residue_ops p) x (y.1, y.0)) (value-agrees t a) (value-agrees u b)
  value-agrees (power t n) h = ap (λ (x : Fraction ℕ). (to_the (residue_ops p) n x.0, to_the (residue_ops p) n x.1)) (value-agrees t h)

module _ (f g : List ℕ → Formal) where
  pub formal-agrees : (t : Tree) → EachName (λ w. f w ≡ g w) t → formal f t ≡ formal g t
  unfolding formal
  formal-agrees (number n) h = refl
  formal-agrees (name w) h = h
  formal-agrees (negative t) h = formal-agrees t h
  formal-agrees (sum t u) (a, b) = ap₂ (λ (x y : Formal). formal_sum x y) (formal-agrees t a) (formal-agrees u b)
  formal-agrees (difference t u) (a, b) = ap₂ (λ (x y : Formal). formal_sum x y) (formal-agrees t a) (formal-agrees u b)
  formal-agrees (product t u) (a, b) = ap₂ (λ (x y : Formal). formal_product x y) (formal-agrees t a) (formal-agrees u b)
  formal-agrees (quotient t u) (a, b) = ap₂ (λ (x y : Formal). formal_product x (turned y)) (formal-agrees t a) (formal-agrees u b)
  formal-agrees (power t n) h = ap (λ (x : Formal). formal_power x n) (formal-agrees t h)

  -- a part that passes a test of its formal numbers
  part-agrees : (test : Tree → Formal → Bool) (t : Tree) → EachName (λ w. f w ≡ g w) t → some_part (λ u. test u (formal f u)) t ≡ some_part (λ u. test u (formal g u)) t
  unfolding some_part
  part-agrees test (number n) h = ap (λ (x : Formal). test (number n) x) (formal-agrees (number n) h)
  part-agrees test (name w) h = ap (λ (x : Formal). test (name w) x) (formal-agrees (name w) h)
  part-agrees test (negative t) h = ap₂ (λ (x y : Bool). x || y) (part-agrees test t h) (ap (λ (x : Formal). test (negative t) x) (formal-agrees (negative t) h))
  part-agrees test (sum t u) (a, b) = ap₂ (λ (x y : Bool). x || y) (ap₂ (λ (x y : Bool). x || y) (part-agrees test t a) (part-agrees test u b)) (ap (λ (x : Formal). test (sum t u) x) (formal-agrees (sum t u) (a, b)))
  part-agrees test (difference t u) (a, b) = ap₂ (λ (x y : Bool). x || y) (ap₂ (λ (x y : Bool). x || y) (part-agrees test t a) (part-agrees test u b)) (ap (λ (x : Formal). test (difference t u) x) (formal-agrees (difference t u) (a, b)))
  part-agrees test (product t u) (a, b) = ap₂ (λ (x y : Bool). x || y) (ap₂ (λ (x y : Bool). x || y) (part-agrees test t a) (part-agrees test u b)) (ap (λ (x : Formal). test (product t u) x) (formal-agrees (product t u) (a, b)))
  part-agrees test (quotient t u) (a, b) = ap₂ (λ (x y : Bool). x || y) (ap₂ (λ (x y : Bool). x || y) (part-agrees test t a) (part-agrees test u b)) (ap (λ (x : Formal). test (quotient t u) x) (formal-agrees (quotient t u) (a, b)))
  part-agrees test (power t n) h = ap₂ (λ (x y : Bool). x || y) (part-agrees test t h) (ap (λ (x : Formal). test (power t n) x) (formal-agrees (power t n) h))

  pub high-agrees : (t : Tree) → EachName (λ w. f w ≡ g w) t → is_high f t ≡ is_high g t
  high-agrees t h = part-agrees (λ u x. has_high_exponent u || is_above x) t h

  pub long-agrees : (t : Tree) → EachName (λ w. f w ≡ g w) t → is_long f t ≡ is_long g t
  long-agrees t h = part-agrees (λ u x. has_more x) t h
