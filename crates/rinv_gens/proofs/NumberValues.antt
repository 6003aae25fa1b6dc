-- Which number is the value of a fraction, if one is.
--   scale-coefficient    the coefficients of a multiple
--   value-constant       a numerator that is the multiple of the denominator
--   number-found, number-missed    the same, in a ring of its own
--   no-constant          where it is not the multiple by the quotient of two coefficients, no number is the value
use Rattle.std.proofs.Common.{◌≡◌, ◌<◌, ℕ, Bool, true, false, List, [], ◌∷◌, ◌++◌, refl, sym, ap, ◌∙◌, subst, append-nil, get_or, true≢false}
use Rattle.std.specs.List.{list_any, range_with_len}
use Rattle.std.proofs.lemmas.List.Folds.{list_any_none}
use Rattle.rinv_algebra.specs.Ring.{IsSame}
use Rattle.rinv_algebra.specs.Residue.{residue_ops}
use Rattle.rinv_algebra.specs.Monomial.{monomial_product}
use Rattle.rinv_algebra.specs.Polynomial.{coefficient, constant, is_zero, poly_ops, product, same, scale, term_product}
use Rattle.rinv_algebra.proofs.PolynomialLaws.{poly_laws}
use Rattle.rinv_algebra.proofs.Same.{same-coefficients}
use Rattle.rinv_algebra.proofs.ResidueField.{residue_field_laws}
use Rattle.rinv_algebra.proofs.ResidueLaws.{residue_laws}
use Rattle.rinv_algebra.proofs.RingFacts as facts
use Rattle.rinv_poly.proofs.Cancelling.{multiple-same}
use Rattle.rinv_poly.proofs.Taking.{multiple-coefficient}
use Rattle.rinv_algebra.specs.Leading.{leading_coefficient, leading_monomial}
use Rattle.rinv_algebra.specs.Order.{grevlex}
use Rattle.rinv_frac.specs.Fractions.{IsStored}
use Rattle.rinv_frac.proofs.Stored.{stored}
use Rattle.rinv_frac.proofs.CancelledValues.{one_nonzero}
use Rattle.rinv_defs.specs.System.{Poly}
use Rattle.rinv_defs.specs.Invariant.{Fraction}
use Rattle.rinv_defs.specs.Generators.{over_1, rational_ops}
use Rattle.rinv_coefficients.specs.Coefficients.{is_constant}
use Rattle.rinv_gens.proofs.Apart.{value-is}

times-one : (n : List ℕ) → monomial_product [] n ≡ n
unfolding monomial_product
times-one n = refl

-- the coefficients of a multiple
scale-coefficient : (p c : ℕ) (f : Poly) (m : List ℕ) → IsSame (residue_ops p) (coefficient (residue_ops p) (scale (residue_ops p) c f) m) ((residue_ops p).mul c (coefficient (residue_ops p) f m))
scale-coefficient p c f m = subst (λ (n : List ℕ). IsSame (residue_ops p) (coefficient (residue_ops p) (term_product (residue_ops p) ([], c) f) n) ((residue_ops p).mul c (coefficient (residue_ops p) f m))) (times-one m)
    (multiple-coefficient (residue_ops p) (residue_laws p) [] m c f)

constant-product : (p c : ℕ) (f : Poly) → product (residue_ops p) (constant (residue_ops p) c) f ≡ scale (residue_ops p) c f ++ []
unfolding product
constant-product p c f = refl

module _ (p : ℕ) (n d : Poly) (nonzero : is_zero (residue_ops p) d ≡ false) where
  -- the two products of a fraction and a number
  by-products : (c : ℕ) → (rational_ops p).same (n, d) (over_1 p (constant (residue_ops p) c)) ≡ same (residue_ops p) (product (residue_ops p) n (constant (residue_ops p) (residue_ops p).one)) (scale (residue_ops p) c d)
  by-products c =
      value-is p (n, d) (over_1 p (constant (residue_ops p) c)) nonzero (one_nonzero (residue_ops p) (residue_laws p) (residue_field_laws p))
      ∙ ap (λ (f : Poly). same (residue_ops p) (product (residue_ops p) n (constant (residue_ops p) (residue_ops p).one)) f) (constant-product p c d ∙ append-nil (scale (residue_ops p) c d))

  -- a numerator that is the multiple of the denominator
  pub value-constant : (c : ℕ) (multiple : Poly) → IsSame (poly_ops (residue_ops p)) multiple (scale (residue_ops p) c d) → same (residue_ops p) multiple n ≡ true → IsSame (rational_ops p) (n, d) (over_1 p (constant (residue_ops p) c))
  value-constant c multiple is e =
      let o = residue_ops p in
      let laws = poly_laws o (residue_laws p) in
      by-products c ∙ facts.then (poly_ops o) laws (laws.mul_one n) (facts.then (poly_ops o) laws (laws.same_sym multiple n e) is)

  -- the multiple by a number that is the value
  is-multiple : (c : ℕ) → (rational_ops p).same (n, d) (over_1 p (constant (residue_ops p) c)) ≡ true → IsSame (poly_ops (residue_ops p)) n (scale (residue_ops p) c d)
  is-multiple c e =
      let o = residue_ops p in
      let laws = poly_laws o (residue_laws p) in
      facts.then (poly_ops o) laws (laws.same_sym (product o n (constant o o.one)) n (laws.mul_one n)) (sym (by-products c) ∙ e)

  module _ (m : List ℕ) (a b q : ℕ) (is_a : IsSame (residue_ops p) a (coefficient (residue_ops p) n m)) (is_b : IsSame (residue_ops p) b (coefficient (residue_ops p) d m)) (b_nonzero : (residue_ops p).same b (residue_ops p).zero ≡ false)
      (is_q : IsSame (residue_ops p) ((residue_ops p).mul q b) a) where
    -- a number that is the value is this quotient
    only : (c : ℕ) → IsSame (poly_ops (residue_ops p)) n (scale (residue_ops p) c d) → IsSame (residue_ops p) q c
    only c h =
        let o = residue_ops p in
        let l = residue_laws p in
        let there = coefficient o d m in
        let of_number : IsSame o (coefficient o n m) (o.mul c there) = facts.then o l (same-coefficients o l n (scale o c d) h m) (scale-coefficient p c d m) in
        let inverse = (residue_field_laws p).invertible b (λ z. true≢false (sym z ∙ b_nonzero)) in
        cancelled q c b inverse.0 inverse.1 (facts.then o l is_q (facts.then o l is_a (facts.then o l of_number (facts.mul2 o l (l.same_refl c) (l.same_sym b there is_b)))))
      where
        cancelled : (x y z i : ℕ) → IsSame (residue_ops p) ((residue_ops p).mul z i) (residue_ops p).one → IsSame (residue_ops p) ((residue_ops p).mul x z) ((residue_ops p).mul y z) → IsSame (residue_ops p) x y
        cancelled x y z i one e =
            let o = residue_ops p in
            let l = residue_laws p in
            facts.then o l (l.same_sym (o.mul (o.mul x z) i) x (back x z i one)) (facts.then o l (facts.mul2 o l e (l.same_refl i)) (back y z i one))
          where
            back : (x z i : ℕ) → IsSame (residue_ops p) ((residue_ops p).mul z i) (residue_ops p).one → IsSame (residue_ops p) ((residue_ops p).mul ((residue_ops p).mul x z) i) x
            back x z i one =
                let o = residue_ops p in
                let l = residue_laws p in
                facts.then o l (l.mul_assoc x z i) (facts.then o l (facts.mul2 o l (l.same_refl x) one) (l.mul_one x))

    pub no-constant : (multiple : Poly) → IsSame (poly_ops (residue_ops p)) multiple (scale (residue_ops p) q d) → same (residue_ops p) multiple n ≡ false → is_constant p (n, d) ≡ false
    no-constant multiple is e = list_any_none (λ v. (rational_ops p).same (n, d) (over_1 p (constant (residue_ops p) v))) (range_with_len 0 p)
        (λ k w low. differ (get_or (range_with_len 0 p) k w) ((rational_ops p).same (n, d) (over_1 p (constant (residue_ops p) (get_or (range_with_len 0 p) k w)))) refl)
      where
        differ : (c : ℕ) (r : Bool) → (rational_ops p).same (n, d) (over_1 p (constant (residue_ops p) c)) ≡ r → (rational_ops p).same (n, d) (over_1 p (constant (residue_ops p) c)) ≡ false
        differ c false h = h
        differ c true h =
            let o = residue_ops p in
            let laws = poly_laws o (residue_laws p) in
            let whole = is-multiple c h in
            let alike : same o multiple n ≡ true = facts.then (poly_ops o) laws is (facts.then (poly_ops o) laws (multiple-same o (residue_laws p) [] q c d (only c whole)) (laws.same_sym n (scale o c d) whole)) in
            absurd (true≢false (sym alike ∙ e))

-- ---- as the call answers it: in a ring of its own

pub number-found : (p q v : ℕ) (f : Fraction) (num den multiple : Poly) (value : ℕ) → q ≡ p → num ≡ f.0 → den ≡ f.1 → IsStored p v f → IsSame (poly_ops (residue_ops q)) multiple (scale (residue_ops q) value den)
    → same (residue_ops q) multiple num ≡ true → IsSame (rational_ops p) f (over_1 p (constant (residue_ops p) value))
number-found p q v (n, d) num den multiple value a b e h is s = value-constant p n d (stored p v (n, d) h).nonzero value multiple (rw (← a, ← e) is) (rw (← a, ← b) s)

-- the numbers with which it was sought
pub record IsSought (p : ℕ) (num den : Poly) (m : List ℕ) (a b value : ℕ) : Type 0 where
  pub lead : m ≡ leading_monomial (residue_ops p) grevlex den
  pub above : IsSame (residue_ops p) a (coefficient (residue_ops p) num m)
  pub below : IsSame (residue_ops p) b (leading_coefficient (residue_ops p) grevlex den)
  pub nonzero : (residue_ops p).same b (residue_ops p).zero ≡ false
  pub quotient : IsSame (residue_ops p) ((residue_ops p).mul value b) a

pub number-missed : (p q v : ℕ) (f : Fraction) (num den multiple : Poly) (m : List ℕ) (a b value : ℕ) → q ≡ p → num ≡ f.0 → den ≡ f.1 → IsStored p v f → IsSought q num den m a b value → IsSame (poly_ops (residue_ops q)) multiple (scale (residue_ops q) value den)
    → same (residue_ops q) multiple num ≡ false → is_constant p f ≡ false
number-missed p q v (n, d) num den multiple m a b value x y z h sought is s =
    let own : IsSought p n d m a b value = rw (← x, ← y, ← z) sought in
    no-constant p n d (stored p v (n, d) h).nonzero m a b value own.above
    (subst (λ (e : List ℕ). IsSame (residue_ops p) b (coefficient (residue_ops p) d e)) (sym own.lead) own.below) own.nonzero own.quotient multiple (rw (← x, ← z) is) (rw (← x, ← y) s)
