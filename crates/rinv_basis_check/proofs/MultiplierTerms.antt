-- The multiplier of an element as it is made, and what stays below a monomial.
--   own, own-list                       what stands at a place
--   one-term                            a list of one term in the form in which it is stored
--   coefficient-normal, coefficient-is  the coefficient of a leading term
--   made-fits, made-value               the product with the multiplier
--   fits-low                            where a product fits, the degrees of leading monomials add up within the limit
--   below-is                            whether a quotient times its element stays below a monomial
use Rattle.std.proofs.Common.{◌≡◌, ℕ, zero, suc, ◌+◌, ◌<◌, ◌≤◌, Bool, true, false, ◌||◌, List, [], ◌∷◌, length, zip, drop, get_or, All, refl, sym, ap, ap₂, ◌∙◌, subst, nat_lt, IsTrue, true≢false, arith}
use Rattle.std.proofs.lemmas.List.{get_or_default}
use Rattle.std.proofs.lemmas.List.Elements.{All-nil, All-cons}
use Rattle.std.specs.Ordering.{is_lt}
use Rattle.std.specs.declared.cmp.Ordering.{Ordering}
use Rattle.rinv_algebra.specs.Ring.{IsSame}
use Rattle.rinv_algebra.specs.Residue.{residue_ops}
use Rattle.rinv_algebra.specs.Monomial.{monomial_product, quotient, lcm, total_degree, max_degree}
use Rattle.rinv_algebra.specs.Normal.{is_normal_term}
use Rattle.rinv_algebra.specs.Order.{block_order}
use Rattle.rinv_algebra.specs.BlockEnds.{sizes_from}
use Rattle.rinv_algebra.specs.Polynomial.{Term, poly_ops, has_monomial, is_zero, product, term_product}
use Rattle.rinv_algebra.specs.Leading.{IsLeadingMonomial, leading_monomial, leading_coefficient, multiplier}
use Rattle.rinv_algebra.specs.Fits.{product_fits}
use Rattle.rinv_algebra.proofs.ResidueLaws.{residue_laws}
use Rattle.rinv_poly.proofs.Degrees.{product_fits-meet}
use Rattle.rinv_poly.proofs.Forms.{ordered-from_normal, test-from_term}
use Rattle.rinv_defs.specs.System.{Poly}
use Rattle.rinv_defs.specs.Certificate.{Certificate}
use Rattle.rinv_defs.specs.Conditions.{elements}
use Rattle.rinv_defs.specs.PairConditions.{action_order, leading, element, stays_below}
use Rattle.rinv_basis_check.specs.declared.basis.Basis.{Basis}
use Rattle.rinv_basis_check.specs.Bases.{IsBasisOf}
use Rattle.rinv_basis_check.proofs.LeadingTerms as terms
use Rattle.rinv_basis_check.proofs.Combinations.{zip-at}
use Rattle.rinv_basis_check.proofs.PairMultiples.{multiple-fits, multiple-value}
use Rattle.rinv_basis_check.proofs.StoredElements.{element-stored, element-nonzero, order-is, leading-is, number-is, lead-at, leads-many, lead-length}

-- what stands at a place, whatever stands past the end
pub own : {A : Type 0} (xs : List A) (k : ℕ) (x d : A) → k < length xs → x ≡ get_or xs k x → x ≡ get_or xs k d
own xs k x d few at = at ∙ get_or_default xs k x d few

-- a leading monomial by its place
pub lead-own : (b : Basis) (k : ℕ) → k < length b.elements.items → (x : List ℕ) → x ≡ get_or b.leads.items k x → x ≡ get_or b.leads.items k []
lead-own b k few x at = own b.leads.items k x [] (subst (λ (n : ℕ). k < n) (sym (leads-many b)) few) at

pub lead-own-length : (b : Basis) (k : ℕ) → k < length b.elements.items → (x : List ℕ) → x ≡ get_or b.leads.items k x → length x ≡ b.ring.vars
lead-own-length b k few x at = ap length (lead-own b k few x at) ∙ lead-length b k few

-- a list of one term in the form in which it is stored
pub one-term : (p v : ℕ) (m : List ℕ) (x : ℕ) (ts : Poly) → ts ≡ (m, x) ∷ [] → IsTrue (nat_lt x p) → (residue_ops p).same x 0 ≡ false → length m ≡ v → total_degree m ≤ max_degree
    → All (λ (t : Term ℕ). IsTrue (is_normal_term (residue_ops p) (λ c. nat_lt c p) v t)) ts
one-term p v m x ts e element nonzero vars low =
    subst (All (λ (t : Term ℕ). IsTrue (is_normal_term (residue_ops p) (λ c. nat_lt c p) v t))) (sym e)
    (All-cons (λ (t : Term ℕ). IsTrue (is_normal_term (residue_ops p) (λ c. nat_lt c p) v t)) (m, x) [] (test-from_term (residue_ops p) (λ c. nat_lt c p) v (m, x) (record { coefficient = element; nonzero = nonzero; vars = vars; low = low }))
    (All-nil (λ (t : Term ℕ). IsTrue (is_normal_term (residue_ops p) (λ c. nat_lt c p) v t))))

-- the coefficient of a leading term
module _ (b : Basis) (k : ℕ) (few : k < length b.elements.items) (g h : Poly) (at_g : g ≡ get_or b.elements.items k g) (at_h : h ≡ get_or b.elements.items k h) (place : ℕ) (inside : place < length g)
    (leads : (t : Term ℕ) → IsLeadingMonomial (residue_ops b.ring.coeffs) (block_order (sizes_from 0 b.order)) g (get_or g place t).0) (x : ℕ) (is : (t : Term ℕ) → x ≡ (get_or h place t).1) where
  abbrev f : Poly
  f = get_or b.elements.items k []

  abbrev d : Term ℕ
  d = ([], 0)

  place-inside : place < length f
  place-inside = subst (λ (u : Poly). place < length u) (own b.elements.items k g [] few at_g) inside

  coefficient : x ≡ (get_or f place d).1
  coefficient = is d ∙ ap (λ (u : Poly). (get_or u place d).1) (own b.elements.items k h [] few at_h)

  pub coefficient-element : IsTrue (nat_lt x b.ring.coeffs)
  coefficient-element = rw coefficient ((ordered-from_normal (residue_ops b.ring.coeffs) (λ c. nat_lt c b.ring.coeffs) b.ring.vars f (element-stored b k few)).terms place d place-inside).coefficient

  pub coefficient-nonzero : (residue_ops b.ring.coeffs).same x 0 ≡ false
  coefficient-nonzero = rw coefficient ((ordered-from_normal (residue_ops b.ring.coeffs) (λ c. nat_lt c b.ring.coeffs) b.ring.vars f (element-stored b k few)).terms place d place-inside).nonzero

  pub coefficient-is : IsSame (residue_ops b.ring.coeffs) x (leading_coefficient (residue_ops b.ring.coeffs) (block_order (sizes_from 0 b.order)) (get_or b.elements.items k []))
  coefficient-is =
      rw coefficient
      (terms.lead-coefficient b.ring.coeffs b.ring.vars b.order f (element-stored b k few) (element-nonzero b k few) b.suits place d place-inside
      (subst (λ (u : Poly). IsLeadingMonomial (residue_ops b.ring.coeffs) (block_order (sizes_from 0 b.order)) u (get_or u place d).0) (own b.elements.items k g [] few at_g) (leads d)))

module _ (c : Certificate) (b : Basis) (is : IsBasisOf c b) where
  -- the product with the multiplier as it is made
  module _ (f g : ℕ) (few : f < length b.elements.items) (many : g < length b.elements.items) (common : List ℕ) (at : common ≡ lcm (get_or b.leads.items f []) (get_or b.leads.items g [])) (lead : List ℕ) (at_lead : lead ≡ get_or b.leads.items f lead)
      (m : List ℕ) (is_m : m ≡ quotient common lead) (x : ℕ) (is_x : IsSame (residue_ops b.ring.coeffs) x (leading_coefficient (residue_ops b.ring.coeffs) (block_order (sizes_from 0 b.order)) (get_or b.elements.items g [])))
      (term ts : Poly) (is_ts : ts ≡ (m, x) ∷ []) (is_term : IsSame (poly_ops (residue_ops b.ring.coeffs)) term ts) (h : Poly) (at_h : h ≡ get_or b.elements.items f h) where
    here : h ≡ element c (f + 1)
    here = own b.elements.items f h [] few at_h ∙ number-is b c is f (f + 1) refl few

    monomial : m ≡ (multiplier (residue_ops c.system.p) (action_order c.system) (element c (f + 1)) (element c (g + 1))).0
    monomial =
        let first : lead ≡ leading c.system (element c (f + 1)) = own b.leads.items f lead [] (subst (λ (n : ℕ). f < n) (sym (leads-many b)) few) at_lead ∙ lead-at b c is f (f + 1) refl few in
        is_m ∙ ap₂ quotient (at ∙ ap₂ lcm (lead-at b c is f (f + 1) refl few) (lead-at b c is g (g + 1) refl many)) first

    value-same : IsSame (residue_ops c.system.p) x (leading_coefficient (residue_ops c.system.p) (action_order c.system) (element c (g + 1)))
    value-same =
        subst (λ (p : ℕ). IsSame (residue_ops p) x (leading_coefficient (residue_ops p) (action_order c.system) (element c (g + 1)))) is.field
        (subst (λ (sizes : List ℕ). IsSame (residue_ops b.ring.coeffs) x (leading_coefficient (residue_ops b.ring.coeffs) (block_order sizes) (element c (g + 1)))) (order-is b c is)
        (subst (λ (u : Poly). IsSame (residue_ops b.ring.coeffs) x (leading_coefficient (residue_ops b.ring.coeffs) (block_order (sizes_from 0 b.order)) u)) (number-is b c is g (g + 1) refl many) is_x))

    term-same : IsSame (poly_ops (residue_ops c.system.p)) term ((m, x) ∷ [])
    term-same = subst (λ (p : ℕ). IsSame (poly_ops (residue_ops p)) term ((m, x) ∷ [])) is.field (subst (λ (us : Poly). IsSame (poly_ops (residue_ops b.ring.coeffs)) term us) is_ts is_term)

    pub made-fits : product_fits (residue_ops b.ring.coeffs) term h ≡ product_fits (residue_ops c.system.p) (multiplier (residue_ops c.system.p) (action_order c.system) (element c (f + 1)) (element c (g + 1)) ∷ []) (element c (f + 1))
    made-fits =
        ap₂ (λ (p : ℕ) (u : Poly). product_fits (residue_ops p) term u) is.field here
        ∙ multiple-fits c.system.p (action_order c.system) (element c (f + 1)) (element c (g + 1)) m x term monomial value-same term-same

    pub made-value : (r : Poly) → IsSame (poly_ops (residue_ops b.ring.coeffs)) r (product (residue_ops b.ring.coeffs) term h)
        → IsSame (poly_ops (residue_ops c.system.p)) r (term_product (residue_ops c.system.p) (multiplier (residue_ops c.system.p) (action_order c.system) (element c (f + 1)) (element c (g + 1))) (element c (f + 1)))
    made-value r e =
        multiple-value c.system.p (action_order c.system) (element c (f + 1)) (element c (g + 1)) m x term monomial value-same term-same r
        (subst (λ (u : Poly). IsSame (poly_ops (residue_ops c.system.p)) r (product (residue_ops c.system.p) term u)) here (subst (λ (p : ℕ). IsSame (poly_ops (residue_ops p)) r (product (residue_ops p) term h)) is.field e))

  -- whether a quotient times its element stays below a monomial
  module _ (common : List ℕ) (q : Poly) (k : ℕ) (few : k < length b.elements.items) where
    pub below-is : is_zero (residue_ops b.ring.coeffs) q ≡ false → (lead other m : List ℕ) → lead ≡ leading_monomial (residue_ops b.ring.coeffs) (block_order (sizes_from 0 b.order)) q → other ≡ get_or b.leads.items k other → m ≡ monomial_product lead other
        → (o : Ordering) → o ≡ block_order (sizes_from 0 b.order) m common → is_lt o ≡ stays_below c.system common (q, element c (k + 1))
    below-is off lead other m is_lead at is_m o is_o =
        let first : lead ≡ leading c.system q = is_lead ∙ leading-is b c is q in
        let second : other ≡ leading c.system (element c (k + 1)) = own b.leads.items k other [] (subst (λ (n : ℕ). k < n) (sym (leads-many b)) few) at ∙ lead-at b c is k (k + 1) refl few in
        ap is_lt (is_o ∙ ap₂ (λ (sizes n : List ℕ). block_order sizes n common) (order-is b c is) (is_m ∙ ap₂ monomial_product first second))
        ∙ sym (ap (λ (z : Bool). z || is_lt (action_order c.system (monomial_product (leading c.system q) (leading c.system (element c (k + 1)))) common)) (sym (ap (λ (p : ℕ). is_zero (residue_ops p) q) is.field) ∙ off))

-- where a product fits, the degrees of the leading monomials add up within the limit
pub fits-low : (p : ℕ) (f g : Poly) (a b : List ℕ) → has_monomial (residue_ops p) f a ≡ true → has_monomial (residue_ops p) g b ≡ true → product_fits (residue_ops p) f g ≡ true → max_degree < total_degree a + total_degree b → ⊥
fits-low p f g a b has_f has_g fits over =
    true≢false (sym fits ∙ product_fits-meet (residue_ops p) (residue_laws p) f g (total_degree a) (total_degree b) (record {
      left = record { monomial = a; has = has_f; degree = refl };
      right = record { monomial = b; has = has_g; degree = refl };
      over = over;
    }))

-- a quotient and its element, in their places
pub pair-at : (c : Certificate) (b : Basis) → IsBasisOf c b → (qs : List Poly) (k : ℕ) (q : Poly) → k < length qs → length qs ≡ length b.elements.items → q ≡ get_or qs k q → drop k (zip qs (elements c)) ≡ (q, element c (k + 1)) ∷ drop (k + 1) (zip qs (elements c))
pair-at c b is qs k q few many at =
    let inside : k < length b.elements.items = subst (λ (n : ℕ). k < n) many few in
    let within : k < length (elements c) = subst (λ (es : List Poly). k < length es) is.elements inside in
    zip-at qs (elements c) k q (element c (k + 1)) few within at (sym (number-is b c is k (k + 1) refl inside) ∙ ap (λ (es : List Poly). get_or es k []) is.elements ∙ get_or_default (elements c) k [] (element c (k + 1)) within)

pub pairs-past : {A B : Type 0} (xs : List A) (ys : List B) (k : ℕ) → length xs ≤ k → length (zip xs ys) ≤ k
pairs-past [] ys k h = h
pairs-past (x ∷ xs) [] k h = omega arith
pairs-past (x ∷ xs) (y ∷ ys) zero h = absurd (omega (arith, h))
pairs-past (x ∷ xs) (y ∷ ys) (suc k) h = let rest : length (zip xs ys) ≤ k = pairs-past xs ys k (omega (arith, h)) in omega (arith, rest)
