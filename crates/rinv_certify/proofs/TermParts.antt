-- Terms of relations, as they are made.
--   made-length, made-normal, made-same    Z^a as it is made
--   term-value, term-fits, term-meets      its product with a polynomial in the space's variables
use Rattle.std.proofs.Common.{◌≡◌, ℕ, ◌+◌, ◌≤◌, true, List, [], ◌∷◌, ◌++◌, length, replicate, sym, ◌∙◌, ap, ap₂, subst, nat_lt, arith, All, IsTrue}
use Rattle.std.proofs.lemmas.List.Elements.{All-nil, All-cons}
use Rattle.rinv_algebra.specs.Ring.{IsSame}
use Rattle.rinv_algebra.specs.Residue.{residue_ops}
use Rattle.rinv_algebra.specs.Monomial.{total_degree, max_degree}
use Rattle.rinv_algebra.specs.Normal.{is_normal_term}
use Rattle.rinv_algebra.specs.Polynomial.{Term, poly_ops, product, term_product, past}
use Rattle.rinv_algebra.specs.Fits.{product_fits}
use Rattle.rinv_algebra.proofs.ResidueLaws.{residue_laws}
use Rattle.rinv_reduction.specs.Localised.{all_count}
use Rattle.rinv_poly.specs.Faults.{MonomialsMeet}
use Rattle.rinv_sub.proofs.Refused.{has-same}
use Rattle.rinv_defs.specs.System.{System, Poly, group_count, space_count}
use Rattle.rinv_defs.specs.RelationConditions.{z_power, behind_z}
use Rattle.rinv_basis_check.proofs.RelationTerms as made
use Rattle.rinv_certify.specs.Meets.{TermMeets}

module _ (s : System) (a m : List ℕ) (long : length a ≡ space_count s) (is : m ≡ (replicate (group_count s) 0 ++ a) ++ replicate (length a) 0) where
  pub made-length : length m ≡ all_count s
  made-length = let e = ap length is ∙ made.power-length (group_count s) (length a) a in omega (arith, e, long)

  pub made-normal : total_degree a ≤ max_degree → (p v : ℕ) → 2 ≤ p → v ≡ all_count s → (ts : Poly) → ts ≡ (m, 1) ∷ [] → All (λ (t : Term ℕ). IsTrue (is_normal_term (residue_ops p) (λ c. nat_lt c p) v t)) ts
  made-normal low p v two vars ts is_ts =
      let degree = ap (λ (b : List ℕ). total_degree b) is ∙ made.power-degree (group_count s) (length a) a in
      subst (All (λ (t : Term ℕ). IsTrue (is_normal_term (residue_ops p) (λ c. nat_lt c p) v t))) (sym is_ts)
      (All-cons (λ (t : Term ℕ). IsTrue (is_normal_term (residue_ops p) (λ c. nat_lt c p) v t)) (m, 1) [] (made.power-normal p v m two (made-length ∙ sym vars) (omega (arith, degree, low)))
      (All-nil (λ (t : Term ℕ). IsTrue (is_normal_term (residue_ops p) (λ c. nat_lt c p) v t))))

  pub made-same : (p : ℕ) (t ts : Poly) → ts ≡ (m, 1) ∷ [] → IsSame (poly_ops (residue_ops p)) t ts → IsSame (poly_ops (residue_ops p)) t (z_power s a ∷ [])
  made-same p t ts is_ts same = made.power-same p (replicate (group_count s) 0 ++ a) m (length a) t is (subst (λ (us : Poly). IsSame (poly_ops (residue_ops p)) t us) is_ts same)

-- its product with a polynomial
module _ (s : System) (p n : ℕ) (a : List ℕ) (f power behind : Poly) (field : p ≡ s.p) (before : n ≡ group_count s + space_count s) (is_power : IsSame (poly_ops (residue_ops p)) power (z_power s a ∷ [])) (is_behind : behind ≡ past n f) where
  here : IsSame (poly_ops (residue_ops s.p)) power (z_power s a ∷ [])
  here = subst (λ (q : ℕ). IsSame (poly_ops (residue_ops q)) power (z_power s a ∷ [])) field is_power

  there : behind ≡ behind_z s f
  there = is_behind ∙ ap (λ (k : ℕ). past k f) before

  pub term-value : (r : Poly) → IsSame (poly_ops (residue_ops p)) r (product (residue_ops p) power behind) → IsSame (poly_ops (residue_ops s.p)) r (term_product (residue_ops s.p) (z_power s a) (behind_z s f))
  term-value r value =
      made.term-value s.p (z_power s a) power (behind_z s f) here r
      (subst (λ (b : Poly). IsSame (poly_ops (residue_ops s.p)) r (product (residue_ops s.p) power b)) there (subst (λ (q : ℕ). IsSame (poly_ops (residue_ops q)) r (product (residue_ops q) power behind)) field value))

  pub term-fits : product_fits (residue_ops p) power behind ≡ true → product_fits (residue_ops s.p) (z_power s a ∷ []) (behind_z s f) ≡ true
  term-fits fits = sym (ap₂ (λ (q : ℕ) (b : Poly). product_fits (residue_ops q) power b) field there ∙ made.term-fits s.p (z_power s a) power (behind_z s f) here) ∙ fits

  pub term-meets : (x y : ℕ) → MonomialsMeet (residue_ops p) power behind x y → TermMeets s a f x y
  term-meets x y m =
      let h : MonomialsMeet (residue_ops s.p) power (behind_z s f) x y = subst (λ (b : Poly). MonomialsMeet (residue_ops s.p) power b x y) there (subst (λ (q : ℕ). MonomialsMeet (residue_ops q) power behind x y) field m) in
      record { left = has-same (residue_ops s.p) (residue_laws s.p) power (z_power s a ∷ []) x here h.left; right = h.right; over = h.over }
