-- What the making of an element's relation rests on.
--   frees, lead-many, lead-low, divisor-nonzero    of the element and its leading monomial
--   term-many, z-many, z-under, tail-term          of one of its terms
use Rattle.std.proofs.Common.{◌≡◌, ℕ, ◌<◌, ◌≤◌, false, List, [], length, map, get_or, nat_lt, sym, ◌∙◌, ap, subst, arith, All, IsTrue}
use Rattle.std.specs.Prelude.{IsFalse}
use Rattle.std.proofs.lemmas.List.{length-map, get_or_default}
use Rattle.std.specs.declared.cmp.Ordering.TheVariants.{Less}
use Rattle.rinv_algebra.specs.Residue.{residue_ops}
use Rattle.rinv_algebra.specs.Monomial.{same_monomial, total_degree, max_degree}
use Rattle.rinv_algebra.specs.Order.{grevlex}
use Rattle.rinv_algebra.specs.Normal.{IsNormal}
use Rattle.rinv_algebra.specs.Polynomial.{Term, is_zero}
use Rattle.rinv_algebra.proofs.MonomialLaws.{same_monomial_refl}
use Rattle.rinv_groebner.specs.Elimination.{is_free}
use Rattle.rinv_defs.specs.System.{System, Poly, group_count, space_count}
use Rattle.rinv_defs.specs.Invariant.{Fraction}
use Rattle.rinv_defs.specs.PairConditions.{leading}
use Rattle.rinv_defs.specs.RelationConditions.{z_part}
use Rattle.rinv_frac.specs.Fractions.{IsStored}
use Rattle.rinv_poly.proofs.Forms.{IsNormalTerm, ordered-from_normal}
use Rattle.rinv_parts.specs.Points.{ArePolynomials}
use Rattle.rinv_reduction.specs.Localised.{IsCut, all_count, lead_in_z, z_coefficient}
use Rattle.rinv_tails.specs.Stored.{IsTailTerm}
use Rattle.rinv_elim.specs.Localising.{IsSolution}
use Rattle.rinv_elim.proofs.CutElements.{element-at, group_eliminated, terms-free, lead-length, lead-term}
use Rattle.rinv_elim.proofs.SpaceElements.{coefficient-nonzero, lead-at}
use Rattle.rinv_elim.proofs.Solving.{z-below, solution-nonzero}
use Rattle.rinv_elim.proofs.ZCoefficients.{part-low, z-length}

module _ (s : System) (h : Poly) (normal : IsNormal (residue_ops s.p) (λ c. nat_lt c s.p) (all_count s) h) (nonzero : IsFalse (is_zero (residue_ops s.p) h)) (free : IsTrue (is_free (group_count s) (leading s h))) where
  term-at : (k : ℕ) (t : Term ℕ) → k < length h → t ≡ get_or h k t → IsNormalTerm (residue_ops s.p) (λ c. nat_lt c s.p) (all_count s) t
  term-at k t low here = subst (IsNormalTerm (residue_ops s.p) (λ c. nat_lt c s.p) (all_count s)) (sym here) ((ordered-from_normal (residue_ops s.p) (λ c. nat_lt c s.p) (all_count s) h normal).terms k t low)

  pub frees : All (λ t. IsTrue (is_free (group_count s) t.0)) h
  frees = terms-free s h normal nonzero (group_count s) (group_eliminated s) free

  pub lead-many : length (lead_in_z s h) ≡ space_count s
  lead-many = z-length s (leading s h) (lead-length s h normal nonzero)

  pub lead-low : total_degree (lead_in_z s h) ≤ max_degree
  lead-low =
      let (k, low, at) = lead-term s h normal nonzero in
      let whole = (ordered-from_normal (residue_ops s.p) (λ c. nat_lt c s.p) (all_count s) h normal).terms k ([], 0) low in
      let e : total_degree (get_or h k ([], 0)).0 ≡ total_degree (leading s h) = ap (λ (m : List ℕ). total_degree m) (at ([], 0)) in
      let p = part-low (space_count s) (group_count s) (leading s h) in
      omega (arith, p, e, whole.low)

  pub divisor-nonzero : is_zero (residue_ops s.p) (z_coefficient s h (lead_in_z s h)) ≡ false
  divisor-nonzero =
      let (k, low, at) = lead-term s h normal nonzero in
      coefficient-nonzero s h (lead_in_z s h) k ([], 0) normal frees lead-many low (subst (λ (m : List ℕ). IsTrue (same_monomial (z_part s m) (lead_in_z s h))) (sym (at ([], 0))) (same_monomial_refl (lead_in_z s h)))

  -- a term, and its monomial in Z
  module _ (k : ℕ) (t : Term ℕ) (low : k < length h) (here : t ≡ get_or h k t) where
    pub term-many : length t.0 ≡ all_count s
    term-many = (term-at k t low here).vars

    module _ (z : List ℕ) (is : z ≡ z_part s t.0) where
      pub z-many : length z ≡ space_count s
      z-many = ap (λ (m : List ℕ). length m) is ∙ z-length s t.0 term-many

      pub z-under : same_monomial z (lead_in_z s h) ≡ false → grevlex z (lead_in_z s h) ≡ Less
      z-under off = subst (λ (m : List ℕ). grevlex m (lead_in_z s h) ≡ Less) (sym is)
          (z-below s h normal nonzero free (lead-length s h normal nonzero) frees k t low here term-many (subst (λ (m : List ℕ). same_monomial m (lead_in_z s h) ≡ false) is off))

      z-nonzero : is_zero (residue_ops s.p) (z_coefficient s h z) ≡ false
      z-nonzero = coefficient-nonzero s h z k t normal frees z-many low (subst (λ (u : Term ℕ). IsTrue (same_monomial (z_part s u.0) z)) here (subst (λ (m : List ℕ). IsTrue (same_monomial m z)) is (same_monomial_refl z)))

      -- with its coefficient, a term of a tail
      pub tail-term : (x : Fraction) → IsStored s.p (space_count s) x → IsSolution s h (lead_in_z s h) z x → IsTailTerm s.p (space_count s) (z, x)
      tail-term x stored made = record {
        vars = z-many;
        low =
            let e : total_degree z ≡ total_degree (z_part s t.0) = ap (λ (m : List ℕ). total_degree m) is in
            let p = part-low (space_count s) (group_count s) t.0 in
            let q = (term-at k t low here).low in
            omega (arith, e, p, q);
        fraction = stored;
        nonzero = solution-nonzero s.p (z_coefficient s h z) (z_coefficient s h (lead_in_z s h)) x z-nonzero divisor-nonzero made;
      }

-- the leading monomials of the cut, in Z
pub leads-many : (s : System) (cut : List Poly) → IsCut s cut → ArePolynomials s.p (all_count s) cut → (leads : List (List ℕ)) → leads ≡ map (lead_in_z s) cut → All (λ m. length m ≡ space_count s) leads
leads-many s cut is_cut normal leads are k d low =
    let count = ap (λ (ms : List (List ℕ)). length ms) are ∙ length-map cut (lead_in_z s) in
    let inside : k < length cut = omega (arith, low, count) in
    let e = element-at s cut is_cut k inside in
    ap (λ (m : List ℕ). length m) (get_or_default leads k d [] low ∙ lead-at s cut is_cut leads are k inside) ∙ lead-many s (get_or cut k []) (normal k [] inside) e.nonzero e.free
