-- The multiple of a polynomial in its S-polynomial with another, by degrees alone.
--   nonzero-some         a polynomial that is not zero has a term
--   multiple-fits, lcm-low    where the degrees add up to no more than the limit
--   multiple-meets       and where they do
use Rattle.std.proofs.Common.{◌≡◌, ℕ, ◌+◌, ◌<◌, ◌≤◌, Bool, true, false, not, List, [], ◌∷◌, length, All, refl, sym, ap, ap₂, ◌∙◌, subst, arith, true≢false}
use Rattle.std.specs.Prelude.{IsFalse, nat_lt}
use Rattle.std.specs.declared.cmp.Ordering.{Ordering}
use Rattle.std.proofs.lemmas.List.Elements.{All-nil, All-cons}
use Rattle.rinv_algebra.specs.Ring.{RingOps, RingLaws}
use Rattle.rinv_algebra.specs.Residue.{residue_ops}
use Rattle.rinv_algebra.specs.Monomial.{quotient, lcm, total_degree, max_degree}
use Rattle.rinv_algebra.specs.MonomialOrder.{MonoOrderLaws}
use Rattle.rinv_algebra.specs.Polynomial.{Polynomial, coefficient, is_zero, has_monomial, same}
use Rattle.rinv_algebra.specs.Normal.{IsNormal}
use Rattle.rinv_algebra.specs.Leading.{leading_monomial, leading_coefficient, multiplier}
use Rattle.rinv_algebra.specs.Fits.{product_fits}
use Rattle.rinv_algebra.proofs.Degrees.{degree-above, same-left}
use Rattle.rinv_algebra.proofs.MonomialLaws.{same_monomial_refl}
use Rattle.rinv_algebra.proofs.ResidueLaws.{residue_laws}
use Rattle.rinv_groebner.proofs.LeadingMonomials.{leading_monomial-leads}
use Rattle.rinv_groebner.proofs.MonomialLists.{lcm_left}
use Rattle.rinv_mono.proofs.Pairwise.{length-lcm, sum-quotient}
use Rattle.rinv_defs.specs.System.{Poly}
use Rattle.rinv_poly.specs.Terms.{FitWith}
use Rattle.rinv_poly.specs.Faults.{IsDegreeOf, MonomialsMeet}
use Rattle.rinv_poly.proofs.Degrees.{degree-terms, product_fits-from_terms}
use Rattle.rinv_poly.proofs.Forms.{ordered-from_normal}
use Rattle.rinv_poly.proofs.NormalFacts.{has-term}

-- a polynomial that is not zero has a term
pub nonzero-some : (p : ℕ) (f : Poly) → is_zero (residue_ops p) f ≡ false → 0 < length f
unfolding same
nonzero-some p [] n = absurd (true≢false n)
nonzero-some p (t ∷ f) n = omega arith

-- a polynomial of one term that is not zero has its monomial
one-has : {E : Type 0} (o : RingOps E) → RingLaws o → (m : List ℕ) (c : E) → o.same c o.zero ≡ false → has_monomial o ((m, c) ∷ []) m ≡ true
unfolding coefficient
one-has o l m c some = rw (same_monomial_refl m) (ap not (same-left o l (o.add c o.zero) c o.zero (l.add_zero c) ∙ some))

module _ (p : ℕ) (cmp : List ℕ → List ℕ → Ordering) (f g : Poly) (a b : List ℕ) (is_a : a ≡ leading_monomial (residue_ops p) cmp f) (is_b : b ≡ leading_monomial (residue_ops p) cmp g) (n m : ℕ) (beyond : n ≡ total_degree (quotient (lcm a b) a)) where
  abbrev mono : List ℕ
  mono = (multiplier (residue_ops p) cmp f g).0

  beyond-is : n ≡ total_degree mono
  beyond-is = beyond ∙ ap₂ (λ (x y : List ℕ). total_degree (quotient (lcm x y) x)) is_a is_b

  pub multiple-fits : All (λ t. total_degree t.0 ≤ m) f → n + m ≤ max_degree → product_fits (residue_ops p) (multiplier (residue_ops p) cmp f g ∷ []) f ≡ true
  multiple-fits all low = product_fits-from_terms (residue_ops p) (residue_laws p) (multiplier (residue_ops p) cmp f g ∷ []) f
      (All-cons (λ s. FitWith s.0 f) (multiplier (residue_ops p) cmp f g) [] (λ k d h. let t = all k d h in omega (arith, t, low, beyond-is)) (All-nil (λ s. FitWith s.0 f)))

  pub lcm-low : MonoOrderLaws cmp → length a ≡ length b → IsFalse (is_zero (residue_ops p) f) → All (λ t. total_degree t.0 ≤ m) f → n + m ≤ max_degree
      → total_degree (lcm (leading_monomial (residue_ops p) cmp f) (leading_monomial (residue_ops p) cmp g)) ≤ max_degree
  lcm-low laws vars nonzero all low =
      let o = residue_ops p in
      let l = residue_laws p in
      let lead = leading_monomial o cmp f in
      let above = degree-above o l f lead (leading_monomial-leads o l cmp laws f nonzero).has in
      let below = degree-terms o l f m all in
      let split = sum-quotient (lcm a b) a (length-lcm a b vars) (lcm_left a b) in
      let is : total_degree a ≡ total_degree lead = ap total_degree is_a in
      let whole : total_degree (lcm a b) ≤ max_degree = omega (arith, above, below, split, is, low, beyond) in
      subst (λ (k : ℕ). k ≤ max_degree) (ap₂ (λ (x y : List ℕ). total_degree (lcm x y)) is_a is_b) whole

  pub multiple-meets : (v : ℕ) → MonoOrderLaws cmp → IsNormal (residue_ops p) (λ c. nat_lt c p) v f → IsFalse (is_zero (residue_ops p) g) → IsDegreeOf f m → max_degree < n + m → MonomialsMeet (residue_ops p) (multiplier (residue_ops p) cmp f g ∷ []) f n m
  multiple-meets v laws normal nonzero degree over =
      let o = residue_ops p in
      let l = residue_laws p in
      record {
        left = record { monomial = mono; has = one-has o l mono (leading_coefficient o cmp g) (lead-some o l cmp laws g nonzero); degree = sym beyond-is };
        right = record { monomial = degree.term.0; has = has-term o l (λ c. nat_lt c p) v f (ordered-from_normal o (λ c. nat_lt c p) v f normal) degree.term degree.has; degree = degree.degree };
        over = over;
      }
    where
      lead-some : {E : Type 0} (o : RingOps E) (l : RingLaws o) (cmp : List ℕ → List ℕ → Ordering) → MonoOrderLaws cmp → (g : Polynomial E) → IsFalse (is_zero o g) → o.same (leading_coefficient o cmp g) o.zero ≡ false
      lead-some o l cmp laws g nonzero = go (o.same (leading_coefficient o cmp g) o.zero) (leading_monomial-leads o l cmp laws g nonzero).has
        where
          go : (t : Bool) → not t ≡ true → t ≡ false
          go true e = sym e
          go false e = refl
