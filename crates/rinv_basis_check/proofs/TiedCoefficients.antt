-- Whether a coefficient is what it is tied to.
--   same-right                                      a comparison depends on the coefficients alone
--   constant-tied                                   a constant
--   first-misfits, second-misfits, fraction-tied    a fraction
--   fraction-is, fraction-stored                    the fraction with a number
use Rattle.std.proofs.Common.{◌≡◌, ℕ, ◌+◌, ◌-◌, ◌<◌, ◌≤◌, length, Bool, true, false, ◌&&◌, List, [], get_or, refl, sym, ap, ◌∙◌, subst, arith, nat_lt, IsTrue}
use Rattle.std.specs.List.{list_all}
use Rattle.std.proofs.lemmas.Bool.Decides.{nat_tests}
use Rattle.std.proofs.lemmas.List.{get_or_default}
use Rattle.std.proofs.lemmas.List.Elements.{All-nil, All-cons, All-weaker}
use Rattle.std.proofs.lemmas.Option.{unwrap_or-slice_get}
use Rattle.rinv_algebra.specs.Ring.{IsSame}
use Rattle.rinv_algebra.specs.Residue.{residue_ops}
use Rattle.rinv_algebra.specs.Monomial.{total_degree, max_degree}
use Rattle.rinv_algebra.specs.Polynomial.{Term, poly_ops, product, same, constant, scale}
use Rattle.rinv_algebra.specs.Fits.{product_fits}
use Rattle.rinv_algebra.proofs.Degrees.{iff-equal, same-left}
use Rattle.rinv_algebra.proofs.PolynomialLaws.{poly_laws}
use Rattle.rinv_algebra.proofs.ResidueLaws.{residue_laws}
use Rattle.rinv_algebra.proofs.RingFacts as facts
use Rattle.rinv_defs.specs.System.{Poly}
use Rattle.rinv_defs.specs.Invariant.{Fraction}
use Rattle.rinv_defs.specs.Certificate.{Certificate, to_constant, to_generator}
use Rattle.rinv_defs.specs.RelationConditions.{fraction_at, is_tied_to}
use Rattle.rinv_poly.specs.Terms.{FitWith}
use Rattle.rinv_poly.proofs.Degrees.{product_fits-from_terms}
use Rattle.rinv_poly.proofs.Forms.{IsNormalTerm, ordered-from_normal}
use Rattle.rinv_cert.specs.declared.certificate.Tied.{Tied}
use Rattle.rinv_cert.specs.declared.certificate.Tied.TheVariants.{Generator}
use Rattle.rinv_form.specs.Forms.{is_stored, is_stored_fraction}
use Rattle.rinv_basis_check.specs.Relations.{is_tied_among}
use Rattle.rinv_basis_check.proofs.PairEntries.{test_at}

module _ (p : ℕ) where
  -- a comparison depends on the coefficients of the second alone
  pub same-right : (f g h : Poly) → IsSame (poly_ops (residue_ops p)) g h → same (residue_ops p) f g ≡ same (residue_ops p) f h
  same-right f g h is =
      let ops = poly_ops (residue_ops p) in
      let laws = poly_laws (residue_ops p) (residue_laws p) in
      iff-equal (same (residue_ops p) f g) (same (residue_ops p) f h) (λ e. facts.then ops laws e is) (λ e. facts.then ops laws e (facts.back ops laws is))

  -- and on those of both
  pub same-both : (f f' g g' : Poly) → IsSame (poly_ops (residue_ops p)) f f' → IsSame (poly_ops (residue_ops p)) g g' → same (residue_ops p) f g ≡ same (residue_ops p) f' g'
  same-both f f' g g' is is' = same-left (poly_ops (residue_ops p)) (poly_laws (residue_ops p) (residue_laws p)) f f' g is ∙ same-right f' g g' is'

  -- a constant times a polynomial that is stored fits
  pub constant-fits : (v : ℕ) (x : ℕ) (d : Poly) → IsTrue (is_stored p v d) → product_fits (residue_ops p) (constant (residue_ops p) x) d ≡ true
  constant-fits v x d stored =
      let terms = (ordered-from_normal (residue_ops p) (λ c. nat_lt c p) v d stored).terms in
      let low = All-weaker (IsNormalTerm (residue_ops p) (λ c. nat_lt c p) v) (λ (t : Term ℕ). total_degree [] + total_degree t.0 ≤ max_degree) (λ t n. let h : total_degree t.0 ≤ max_degree = n.low in omega (arith, h)) d terms in
      product_fits-from_terms (residue_ops p) (residue_laws p) (constant (residue_ops p) x) d (All-cons (λ (s : Term ℕ). FitWith s.0 d) ([], x) [] low (All-nil (λ (s : Term ℕ). FitWith s.0 d)))

-- a constant
pub constant-tied : (c : Certificate) (p v : ℕ) → p ≡ c.system.p → (d u m : Poly) (x : ℕ) → IsTrue (is_stored p v d) → IsSame (poly_ops (residue_ops p)) m (scale (residue_ops p) x d) → same (residue_ops p) u m ≡ is_tied_to c d u (to_constant x)
unfolding is_tied_to
constant-tied c p v e d u m x stored is =
    subst (λ (q : ℕ). same (residue_ops p) u m ≡ (product_fits (residue_ops q) (constant (residue_ops q) x) d && same (residue_ops q) u (scale (residue_ops q) x d))) e
    (same-right p u m (scale (residue_ops p) x d) is ∙ sym (ap (λ (b : Bool). b && same (residue_ops p) u (scale (residue_ops p) x d)) (constant-fits p v x d stored)))

-- what is asked of a fraction
abbrev asked : ℕ → Poly → Poly → Fraction → Bool
asked q d u f = product_fits (residue_ops q) u f.1 && product_fits (residue_ops q) d f.0 && same (residue_ops q) (product (residue_ops q) u f.1) (product (residue_ops q) d f.0)

module _ (c : Certificate) (p : ℕ) (e : p ≡ c.system.p) (d u : Poly) (f : Fraction) (k : ℕ) (is : f ≡ fraction_at c k) where
  moved : (b : Bool) → b ≡ asked p d u f → b ≡ is_tied_to c d u (to_generator k)
  unfolding is_tied_to
  moved b h = h ∙ ap (λ (q : ℕ). asked q d u f) e ∙ ap (asked c.system.p d u) is

  pub first-misfits : false ≡ product_fits (residue_ops p) u f.1 → false ≡ is_tied_to c d u (to_generator k)
  first-misfits h = moved false (ap (λ (b : Bool). b && product_fits (residue_ops p) d f.0 && same (residue_ops p) (product (residue_ops p) u f.1) (product (residue_ops p) d f.0)) h)

  pub second-misfits : true ≡ product_fits (residue_ops p) u f.1 → false ≡ product_fits (residue_ops p) d f.0 → false ≡ is_tied_to c d u (to_generator k)
  second-misfits g h = moved false (rw (← g, ← h) refl)

  pub fraction-tied : (left right : Poly) → true ≡ product_fits (residue_ops p) u f.1 → true ≡ product_fits (residue_ops p) d f.0
      → IsSame (poly_ops (residue_ops p)) left (product (residue_ops p) u f.1) → IsSame (poly_ops (residue_ops p)) right (product (residue_ops p) d f.0)
      → same (residue_ops p) left right ≡ is_tied_to c d u (to_generator k)
  fraction-tied left right g h el er = moved (same (residue_ops p) left right) (rw (← g, ← h) (same-both p left (product (residue_ops p) u f.1) right (product (residue_ops p) d f.0) el er))

-- the fraction with a number
pub fraction-is : (c : Certificate) (fs : List Fraction) → fs ≡ c.fractions → (k n : ℕ) (f : Fraction) → n ≡ k - 1 → n < length fs → f ≡ get_or fs n f → f ≡ fraction_at c k
fraction-is c fs e k n f at inside here =
    here ∙ get_or_default fs n f ([], []) inside ∙ ap (λ (gs : List Fraction). get_or gs n ([], [])) e ∙ ap (λ (i : ℕ). get_or c.fractions i ([], [])) at ∙ sym (unwrap_or-slice_get c.fractions (k - 1) ([], []))

pub fraction-stored : (p v : ℕ) (fs : List Fraction) → IsTrue (list_all (is_stored_fraction p v) fs) → (n : ℕ) (f : Fraction) → n < length fs → f ≡ get_or fs n f → IsTrue (is_stored_fraction p v f)
fraction-stored p v fs stored n f inside here = test_at (is_stored_fraction p v) fs n f inside here stored

-- the number of a fraction is among them
pub among-inside : (p count k : ℕ) (t : Tied) → is_tied_among p count t ≡ true → t ≡ Generator k → k - 1 < count
among-inside p count k t h e = let here : is_tied_among p count (Generator k) ≡ true = sym (ap (is_tied_among p count) e) ∙ h in grind (arith, nat_tests, here)
