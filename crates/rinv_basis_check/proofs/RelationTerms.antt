-- The terms of a relation, as they are made.
--   power-same               a monomial with zeros behind it
--   term-fits, term-value    the product with one term as it is stored
--   power-degree, power-length, power-normal    Z to some exponents
--   made-length, made-normal, made-same         as it is made
--   behind-fits, behind-value                   its product with a polynomial in the space's variables
use Rattle.std.proofs.Common.{◌≡◌, ℕ, zero, suc, ◌+◌, true, false, List, [], ◌∷◌, ◌++◌, length, replicate, refl, sym, ap, ap₂, ◌∙◌, subst, arith, append-nil, ◌==◌, ◌≤◌, nat_lt, inl, inr, All, IsTrue}
use Rattle.std.proofs.lemmas.Bool.Decides.{nat_tests}
use Rattle.std.proofs.lemmas.Bool.{cases_Bool}
use Rattle.std.proofs.lemmas.List.Elements.{All-nil, All-cons}
use Rattle.std.proofs.lemmas.List.{length-append, length-replicate}
use Rattle.std.proofs.lemmas.List.Sums.{sum_by-append}
use Rattle.std.proofs.lemmas.List.Folds.{sum_by-replicate}
use Rattle.rinv_algebra.specs.Ring.{IsSame}
use Rattle.rinv_algebra.specs.Residue.{residue_ops}
use Rattle.rinv_algebra.specs.Monomial.{same_monomial, total_degree, max_degree}
use Rattle.rinv_algebra.specs.Normal.{is_normal_term}
use Rattle.rinv_algebra.specs.Polynomial.{Term, poly_ops, product, term_product, past}
use Rattle.rinv_algebra.specs.Fits.{product_fits}
use Rattle.rinv_algebra.proofs.Degrees.{product_fits-same}
use Rattle.rinv_algebra.proofs.PolynomialLaws.{poly_laws}
use Rattle.rinv_algebra.proofs.ResidueLaws.{residue_laws}
use Rattle.rinv_algebra.proofs.ResidueField.{residue_field_laws}
use Rattle.rinv_poly.proofs.Forms.{test-from_term}
use Rattle.rinv_poly.proofs.Gather.{same-then, same-equal, same-refl}
use Rattle.rinv_poly.proofs.Units.{term-same_monomial}
use Rattle.rinv_defs.specs.System.{System, Poly}
use Rattle.rinv_defs.specs.RelationConditions.{z_power, behind_z}
use Rattle.rinv_form.specs.ItemForms.{are_exponents}
use Rattle.rinv_basis_check.specs.declared.rings.RelationRings.{RelationRings}
use Rattle.rinv_basis_check.specs.Relations.{AreRingsOf}
use Rattle.rinv_basis_check.proofs.RelationForms.{exponents-count, exponents-low}

-- zeros behind the exponents change nothing
zeros-behind : (a : List ℕ) (n : ℕ) → same_monomial (a ++ replicate n 0) a ≡ true
unfolding same_monomial
zeros-behind [] zero = refl
zeros-behind [] (suc n) = zeros-behind [] n
zeros-behind (x ∷ a) n = rw (same-number x) (zeros-behind a n)
  where
    same-number : (x : ℕ) → (x == x) ≡ true
    same-number x = grind (arith, nat_tests)

module _ (p : ℕ) (a : List ℕ) (m : List ℕ) (n : ℕ) (t : Poly) (is_m : m ≡ a ++ replicate n 0) (is : IsSame (poly_ops (residue_ops p)) t ((m, 1) ∷ [])) where
  -- Z to the exponents
  pub power-same : IsSame (poly_ops (residue_ops p)) t ((a, 1) ∷ [])
  power-same =
      same-then (residue_ops p) (residue_laws p) t ((m, 1) ∷ []) ((a, 1) ∷ []) is
      (term-same_monomial (residue_ops p) (residue_laws p) m a 1 (subst (λ (b : List ℕ). same_monomial b a ≡ true) (sym is_m) (zeros-behind a n)))

module _ (p : ℕ) (u : Term ℕ) (t f : Poly) (is : IsSame (poly_ops (residue_ops p)) t (u ∷ [])) where
  -- the product with one term as it is stored
  pub term-fits : product_fits (residue_ops p) t f ≡ product_fits (residue_ops p) (u ∷ []) f
  term-fits = product_fits-same (residue_ops p) (residue_laws p) t (u ∷ []) f f is (same-refl (residue_ops p) (residue_laws p) f)

  pub term-value : (r : Poly) → IsSame (poly_ops (residue_ops p)) r (product (residue_ops p) t f) → IsSame (poly_ops (residue_ops p)) r (term_product (residue_ops p) u f)
  unfolding product
  term-value r e =
      let o = residue_ops p in
      let l = residue_laws p in
      same-then o l r (product o t f) (term_product o u f) e
      (same-then o l (product o t f) (product o (u ∷ []) f) (term_product o u f) ((poly_laws o l).mul_same t (u ∷ []) f f is (same-refl o l f)) (same-equal o l (product o (u ∷ []) f) (term_product o u f) (append-nil (term_product o u f))))

-- ---- Z to some exponents

pub power-degree : (g n : ℕ) (a : List ℕ) → total_degree ((replicate g 0 ++ a) ++ replicate n 0) ≡ total_degree a
power-degree g n a =
    let whole = sum_by-append (λ (y : ℕ). y) (replicate g 0 ++ a) (replicate n 0) in
    let front = sum_by-append (λ (y : ℕ). y) (replicate g 0) a in
    let before = sum_by-replicate (λ (y : ℕ). y) g 0 in
    let behind = sum_by-replicate (λ (y : ℕ). y) n 0 in
    omega (arith, whole, front, before, behind)

pub power-length : (g n : ℕ) (a : List ℕ) → length ((replicate g 0 ++ a) ++ replicate n 0) ≡ g + length a + n
power-length g n a =
    let zeros : List ℕ = replicate g 0 in
    let others : List ℕ = replicate n 0 in
    let whole = length-append (zeros ++ a) others in
    let front = length-append zeros a in
    let before : length zeros ≡ g = length-replicate g 0 in
    let behind : length others ≡ n = length-replicate n 0 in
    omega (arith, whole, front, before, behind)

-- one is not zero
one-nonzero : (p : ℕ) → (residue_ops p).same 1 0 ≡ false
one-nonzero p = elim (cases_Bool ((residue_ops p).same 1 0)) [
  | inl here ↦ absurd ((residue_field_laws p).one_differs here)
  | inr off ↦ off
]

-- the term with the coefficient 1 is in the form in which it is stored
pub power-normal : (p v : ℕ) (m : List ℕ) → 2 ≤ p → length m ≡ v → total_degree m ≤ max_degree → is_normal_term (residue_ops p) (λ c. nat_lt c p) v (m, 1) ≡ true
power-normal p v m two vars low =
    test-from_term (residue_ops p) (λ c. nat_lt c p) v (m, 1) (record { coefficient = below; nonzero = one-nonzero p; vars = vars; low = low })
  where
    below : nat_lt 1 p ≡ true
    below = grind (arith, nat_tests, two)

-- the monomial as it is made
module _ (g n : ℕ) (es m : List ℕ) (h : are_exponents n es ≡ true) (is : m ≡ (replicate g 0 ++ es) ++ replicate (length es) 0) where
  pub made-length : (v : ℕ) → v ≡ g + n + n → length m ≡ v
  made-length v e =
      let count = exponents-count n es h in
      let whole = ap length is ∙ power-length g (length es) es in
      omega (arith, whole, count, e)

  pub made-low : total_degree m ≤ max_degree
  made-low =
      let low = exponents-low n es h in
      let same = ap (λ (a : List ℕ). total_degree a) is ∙ power-degree g (length es) es in
      omega (arith, low, same)

  pub made-normal : (p v : ℕ) → v ≡ g + n + n → 2 ≤ p → (ts : Poly) → ts ≡ (m, 1) ∷ [] → All (λ (t : Term ℕ). IsTrue (is_normal_term (residue_ops p) (λ c. nat_lt c p) v t)) ts
  made-normal p v e two ts is_ts =
      subst (All (λ (t : Term ℕ). IsTrue (is_normal_term (residue_ops p) (λ c. nat_lt c p) v t))) (sym is_ts)
      (All-cons (λ (t : Term ℕ). IsTrue (is_normal_term (residue_ops p) (λ c. nat_lt c p) v t)) (m, 1) [] (power-normal p v m two (made-length v e) made-low) (All-nil (λ (t : Term ℕ). IsTrue (is_normal_term (residue_ops p) (λ c. nat_lt c p) v t))))

  pub made-same : (p : ℕ) (t ts : Poly) → ts ≡ (m, 1) ∷ [] → IsSame (poly_ops (residue_ops p)) t ts → IsSame (poly_ops (residue_ops p)) t ((replicate g 0 ++ es, 1) ∷ [])
  made-same p t ts is_ts same = power-same p (replicate g 0 ++ es) m (length es) t is (subst (λ (us : Poly). IsSame (poly_ops (residue_ops p)) t us) is_ts same)

-- ---- a product of Z to some exponents and a polynomial in the space's variables, in the rings of a system

module _ (s : System) (r : RelationRings) (are : AreRingsOf s r) (es : List ℕ) (f power behind : Poly) (n : ℕ) (en : n ≡ r.space.vars)
    (is_power : IsSame (poly_ops (residue_ops r.graph.coeffs)) power ((replicate r.group 0 ++ es, 1) ∷ [])) (is_behind : behind ≡ past (r.group + n) f) where
  moved : IsSame (poly_ops (residue_ops s.p)) power (z_power s es ∷ [])
  moved =
      subst (λ (p : ℕ). IsSame (poly_ops (residue_ops p)) power (z_power s es ∷ [])) are.field
      (subst (λ (g : ℕ). IsSame (poly_ops (residue_ops r.graph.coeffs)) power ((replicate g 0 ++ es, 1) ∷ [])) are.group is_power)

  here : behind ≡ behind_z s f
  here = is_behind ∙ ap₂ (λ (g m : ℕ). past (g + m) f) are.group (en ∙ are.space)

  pub behind-fits : product_fits (residue_ops r.graph.coeffs) power behind ≡ product_fits (residue_ops s.p) (z_power s es ∷ []) (behind_z s f)
  behind-fits = ap₂ (λ (p : ℕ) (b : Poly). product_fits (residue_ops p) power b) are.field here ∙ term-fits s.p (z_power s es) power (behind_z s f) moved

  pub behind-value : (t : Poly) → IsSame (poly_ops (residue_ops r.graph.coeffs)) t (product (residue_ops r.graph.coeffs) power behind) → IsSame (poly_ops (residue_ops s.p)) t (term_product (residue_ops s.p) (z_power s es) (behind_z s f))
  behind-value t e =
      term-value s.p (z_power s es) power (behind_z s f) moved t
      (subst (λ (b : Poly). IsSame (poly_ops (residue_ops s.p)) t (product (residue_ops s.p) power b)) here (subst (λ (p : ℕ). IsSame (poly_ops (residue_ops p)) t (product (residue_ops p) power behind)) are.field e))
