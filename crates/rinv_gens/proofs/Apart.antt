-- Fractions whose products have different leading monomials have different values.
--   value-is             when two fractions have one value
--   apart                by their leading monomials
--   products-apart       products that differ at a variable
--   pair-answer, numerator-nonzero, nonzero-over, lead-over, apart-answer    in a ring of its own
--   one-pair             fractions with the same parts have one value
use Rattle.std.proofs.Common.{◌≡◌, ℕ, ◌+◌, get_or, Bool, true, false, List, [], ◌∷◌, refl, sym, ◌∙◌, subst, subst₂, nat_lt, true≢false, IsTrue}
use Rattle.std.proofs.lemmas.List.Elements.{All-cons, All-nil}
use Rattle.rinv_algebra.specs.Ring.{IsSame}
use Rattle.rinv_algebra.specs.Residue.{residue_ops}
use Rattle.rinv_algebra.specs.Order.{grevlex}
use Rattle.rinv_algebra.specs.Monomial.{same_monomial, monomial_product}
use Rattle.rinv_algebra.specs.Polynomial.{poly_ops, product, same, is_zero}
use Rattle.rinv_algebra.specs.Leading.{leading_monomial}
use Rattle.rinv_algebra.specs.Normal.{IsNormal, is_in_variables}
use Rattle.rinv_algebra.proofs.Same.{both}
use Rattle.rinv_algebra.proofs.MonomialLaws.{get_or-product, same_at}
use Rattle.rinv_algebra.proofs.PolynomialLaws.{poly_laws}
use Rattle.rinv_algebra.proofs.ResidueField.{residue_field_laws}
use Rattle.rinv_algebra.proofs.ResidueLaws.{residue_laws}
use Rattle.rinv_algebra.proofs.RingFacts as facts
use Rattle.rinv_theory.proofs.Classes.{class, class_sound, class-mul}
use Rattle.rinv_theory.proofs.Fields.{class_domain}
use Rattle.rinv_theory.proofs.Leads.{Leads, lead-unique}
use Rattle.rinv_theory.proofs.Monoid.{monomial, monomial_exact, monomial-mul}
use Rattle.rinv_theory.proofs.Polynomials.{polynomials}
use Rattle.rinv_theory.proofs.ProductLeads.{product-lead}
use Rattle.rinv_theory.proofs.Variables.{in_variables-of}
use Rattle.rinv_groebner.proofs.Compared.{all_monomials, class_leads}
use Rattle.rinv_groebner.proofs.KnownOrders.{grevlex_orders}
use Rattle.rinv_buch.proofs.InVariables.{all-in_variables}
use Rattle.rinv_frac.specs.Fractions.{IsStored}
use Rattle.rinv_frac.proofs.Stored.{stored}
use Rattle.rinv_frac.proofs.Values.{zero-value}
use Rattle.rinv_defs.specs.System.{Poly}
use Rattle.rinv_defs.specs.Invariant.{Fraction}
use Rattle.rinv_defs.specs.Generators.{rational_ops}

-- when two fractions have one value
pub value-is : (p : ℕ) (f g : Fraction) → is_zero (residue_ops p) f.1 ≡ false → is_zero (residue_ops p) g.1 ≡ false → (rational_ops p).same f g ≡ same (residue_ops p) (product (residue_ops p) f.0 g.1) (product (residue_ops p) g.0 f.1)
value-is p (n, d) (m, e) h k = rw (h, k) refl

module _ (p v : ℕ) where
  abbrev lead : Poly → List ℕ
  lead f = leading_monomial (residue_ops p) grevlex f

  abbrev Top : Poly → List ℕ → Type 0
  Top f m = Leads (polynomials (residue_ops p) (residue_laws p)) (all_monomials grevlex v (grevlex_orders v)) (class (poly_ops (residue_ops p)) f) (monomial m)

  own-top : (f : Poly) → IsTrue (is_in_variables v f) → is_zero (residue_ops p) f ≡ false → Top f (lead f)
  own-top f inside n = class_leads (residue_ops p) (residue_laws p) v grevlex (grevlex_orders v) f (in_variables-of (residue_ops p) (residue_laws p) v f inside) n

  product-top : (f g : Poly) (m n : List ℕ) → Top f m → Top g n → Top (product (residue_ops p) f g) (monomial_product m n)
  product-top f g m n a b =
      let o = residue_ops p in
      let l = residue_laws p in
      subst₂ (Leads (polynomials o l) (all_monomials grevlex v (grevlex_orders v))) (sym (class-mul (poly_ops o) (poly_laws o l) f g)) (sym (monomial-mul m n))
      (product-lead (polynomials o l) (all_monomials grevlex v (grevlex_orders v)) (class_domain o l (residue_field_laws p)) (class (poly_ops o) f) (class (poly_ops o) g) (monomial m) (monomial n) a b)

  top-unique : (f g : Poly) (m n : List ℕ) → IsSame (poly_ops (residue_ops p)) f g → Top f m → Top g n → same_monomial m n ≡ true
  top-unique f g m n s a b =
      let o = residue_ops p in
      let l = residue_laws p in
      monomial_exact m n (lead-unique (polynomials o l) (all_monomials grevlex v (grevlex_orders v)) a
      (subst (λ x. Leads (polynomials o l) (all_monomials grevlex v (grevlex_orders v)) x (monomial n)) (sym (class_sound (poly_ops o) (poly_laws o l) f g s)) b))

  -- by leading monomials
  pub apart : (f g : Fraction) → IsStored p v f → IsStored p v g → is_zero (residue_ops p) f.0 ≡ false → is_zero (residue_ops p) g.0 ≡ false
      → same_monomial (monomial_product (lead f.0) (lead g.1)) (monomial_product (lead g.0) (lead f.1)) ≡ false → (rational_ops p).same f g ≡ false
  apart f g hf hg nf ng differ =
      let a = stored p v f hf in
      let b = stored p v g hg in
      let left = product-top f.0 g.1 (lead f.0) (lead g.1) (own-top f.0 (in_variables f.0 a.numerator) nf) (own-top g.1 (in_variables g.1 b.denominator) b.nonzero) in
      let right = product-top g.0 f.1 (lead g.0) (lead f.1) (own-top g.0 (in_variables g.0 b.numerator) ng) (own-top f.1 (in_variables f.1 a.denominator) a.nonzero) in
      value-is p f g a.nonzero b.nonzero ∙ go (same (residue_ops p) (product (residue_ops p) f.0 g.1) (product (residue_ops p) g.0 f.1)) (λ s. sym differ ∙ top-unique (product (residue_ops p) f.0 g.1) (product (residue_ops p) g.0 f.1) (monomial_product (lead f.0) (lead g.1)) (monomial_product (lead g.0) (lead f.1)) s left right)
    where
      in_variables : (f : Poly) → IsNormal (residue_ops p) (λ c. nat_lt c p) v f → IsTrue (is_in_variables v f)
      in_variables f h = (both (is_in_variables v f) true (all-in_variables (residue_ops p) (λ c. nat_lt c p) v (f ∷ []) (All-cons (IsNormal (residue_ops p) (λ c. nat_lt c p) v) f [] h (All-nil (IsNormal (residue_ops p) (λ c. nat_lt c p) v))))).0

      go : (b : Bool) → (b ≡ true → false ≡ true) → b ≡ false
      go true h = absurd (true≢false (sym (h refl)))
      go false h = refl

  -- by the same parts
  pub one-pair : (f g : Fraction) → IsStored p v f → IsStored p v g → IsSame (poly_ops (residue_ops p)) f.0 g.0 → IsSame (poly_ops (residue_ops p)) f.1 g.1 → (rational_ops p).same f g ≡ true
  one-pair f g hf hg n d =
      let a = stored p v f hf in
      let b = stored p v g hg in
      let o = residue_ops p in
      let laws = poly_laws o (residue_laws p) in
      value-is p f g a.nonzero b.nonzero ∙ facts.mul2 (poly_ops o) laws n (laws.same_sym f.1 g.1 d)

-- ---- as the calls answer it

-- products that differ at a variable are different
pub products-apart : (a b c d : List ℕ) (k : ℕ) → ¬ (get_or a k 0 + get_or b k 0 ≡ get_or c k 0 + get_or d k 0) → same_monomial (monomial_product a b) (monomial_product c d) ≡ false
products-apart a b c d k differ = go (same_monomial (monomial_product a b) (monomial_product c d)) (λ e. differ (sym (get_or-product a b k) ∙ same_at (monomial_product a b) (monomial_product c d) e k ∙ get_or-product c d k))
  where
    go : (r : Bool) → (r ≡ true → ⊥) → r ≡ false
    go true h = absurd (h refl)
    go false h = refl

-- fractions whose parts compare as the same
pub pair-answer : (p q r v : ℕ) (f g : Fraction) (n m d e : Poly) → q ≡ p → r ≡ p → n ≡ f.0 → m ≡ g.0 → d ≡ f.1 → e ≡ g.1 → IsStored p v f → IsStored p v g
    → same (residue_ops q) n m ≡ true → same (residue_ops r) d e ≡ true → (rational_ops p).same f g ≡ true
pair-answer p q r v f g n m d e a b i j k l hf hg s t = one-pair p v f g hf hg (rw (← a, ← i, ← j) s) (rw (← b, ← k, ← l) t)

-- a fraction that is not zero has a numerator
pub numerator-nonzero : (p v : ℕ) (f : Fraction) (r : Bool) → IsStored p v f → r ≡ (rational_ops p).same f (rational_ops p).zero → r ≡ false → is_zero (residue_ops p) f.0 ≡ false
numerator-nonzero p v f r h is e = sym (zero-value (residue_ops p) (residue_laws p) f (stored p v f h).nonzero) ∙ sym is ∙ e

-- in a ring of its own
pub nonzero-over : (p q : ℕ) (f g : Poly) → q ≡ p → f ≡ g → is_zero (residue_ops p) g ≡ false → is_zero (residue_ops q) f ≡ false
nonzero-over p q f g a b h = rw (a, b) h

pub lead-over : (p q : ℕ) (f g : Poly) (m : List ℕ) → q ≡ p → f ≡ g → m ≡ leading_monomial (residue_ops q) grevlex f → m ≡ leading_monomial (residue_ops p) grevlex g
lead-over p q f g m a b h = rw (← a, ← b) h

pub apart-answer : (p v : ℕ) (f g : Fraction) → IsStored p v f → IsStored p v g → is_zero (residue_ops p) f.0 ≡ false → is_zero (residue_ops p) g.0 ≡ false → (n e m d : List ℕ)
    → n ≡ leading_monomial (residue_ops p) grevlex f.0 → e ≡ leading_monomial (residue_ops p) grevlex g.1 → m ≡ leading_monomial (residue_ops p) grevlex g.0 → d ≡ leading_monomial (residue_ops p) grevlex f.1
    → same_monomial (monomial_product n e) (monomial_product m d) ≡ false → (rational_ops p).same f g ≡ false
apart-answer p v f g hf hg nf ng n e m d a b i j h = apart p v f g hf hg nf ng (rw (← a, ← b, ← i, ← j) h)
