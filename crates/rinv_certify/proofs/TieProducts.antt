-- The products by which coefficients are compared with what they are tied to.
--   constant-fits        with a constant
--   generator-fits       with a generator
--   den-meets, num-meets the degrees that these meet
use Rattle.std.proofs.Common.{◌≡◌, ℕ, ◌-◌, ◌<◌, ◌≤◌, true, List, [], length, get_or, sym, ◌∙◌, ap, subst₂, arith, inl, inr}
use Rattle.std.proofs.lemmas.List.{get_or_default}
use Rattle.std.proofs.lemmas.List.Elements.{All-nil, All-cons}
use Rattle.std.proofs.lemmas.Option.{unwrap_or-slice_get}
use Rattle.rinv_algebra.specs.Residue.{residue_ops}
use Rattle.rinv_algebra.specs.Monomial.{total_degree, max_degree}
use Rattle.rinv_algebra.specs.Polynomial.{constant}
use Rattle.rinv_algebra.specs.Fits.{product_fits}
use Rattle.rinv_algebra.proofs.Same.{and_true}
use Rattle.rinv_ring.specs.Fault.{DegreesMeet}
use Rattle.rinv_ring.specs.declared.fault.RingFault.{RingFault}
use Rattle.rinv_poly.specs.Faults.{MonomialsMeet}
use Rattle.rinv_poly.proofs.Meets.{meet-weaker}
use Rattle.rinv_fits.proofs.Greatest.{fits-by_degrees}
use Rattle.rinv_defs.specs.System.{System, Poly}
use Rattle.rinv_defs.specs.SystemForm.{is_good}
use Rattle.rinv_defs.specs.Invariant.{Fraction}
use Rattle.rinv_defs.specs.Certificate.{Certificate, to_constant, to_generator}
use Rattle.rinv_defs.specs.RelationConditions.{fraction_at}
use Rattle.rinv_acceptance.specs.Fits.{tie_multiplies}
use Rattle.rinv_generators.specs.Generated.{Generated}
use Rattle.rinv_certification.specs.Made.{HasCommonPart}
use Rattle.rinv_certify.specs.Meets.{TieMeets}
use Rattle.rinv_certify.proofs.Multiplied.{low-terms}

-- a constant times a polynomial as it is stored
pub constant-fits : (g : Generated) (whole : Certificate) → HasCommonPart g whole → (d c : Poly) (v n : ℕ) → is_good g.told.system n d ≡ true → tie_multiplies whole d c (to_constant v) ≡ true
constant-fits g whole common d c v n good =
    ap (λ (s : System). product_fits (residue_ops s.p) (constant (residue_ops s.p) v) d) common.system
    ∙ fits-by_degrees g.told.system.p 0 (constant (residue_ops g.told.system.p) v) d 0 max_degree (All-cons (λ t. total_degree t.0 ≤ 0) ([], v) [] (omega arith) (All-nil (λ t. total_degree t.0 ≤ 0))) (low-terms g.told.system n d good) (omega arith)

module _ (g : Generated) (q : ℕ) (field : q ≡ g.told.system.p) (d c : Poly) (k : ℕ) (f : Fraction) (inside : k - 1 < length g.fractions) (at : f ≡ get_or g.fractions (k - 1) f) (num den : Poly) (at_num : num ≡ f.0) (at_den : den ≡ f.1) where
  -- the two products by which a coefficient is compared with a generator
  pub generator-fits : (whole : Certificate) → HasCommonPart g whole → product_fits (residue_ops q) c den ≡ true → product_fits (residue_ops q) d num ≡ true → tie_multiplies whole d c (to_generator k) ≡ true
  generator-fits whole common one two =
      let there : fraction_at whole k ≡ f = unwrap_or-slice_get whole.fractions (k - 1) ([], []) ∙ ap (λ (fs : List Fraction). get_or fs (k - 1) ([], [])) common.fractions ∙ sym (at ∙ get_or_default g.fractions (k - 1) f ([], []) inside) in
      let prime : whole.system.p ≡ g.told.system.p = ap (λ (s : System). s.p) common.system in
      let first : product_fits (residue_ops whole.system.p) c (fraction_at whole k).1 ≡ true =
      subst₂ (λ (p : ℕ) (h : Poly). product_fits (residue_ops p) c h ≡ true) (field ∙ sym prime) (at_den ∙ sym (ap (λ (h : Fraction). h.1) there)) one in
      let second : product_fits (residue_ops whole.system.p) d (fraction_at whole k).0 ≡ true =
      subst₂ (λ (p : ℕ) (h : Poly). product_fits (residue_ops p) d h ≡ true) (field ∙ sym prime) (at_num ∙ sym (ap (λ (h : Fraction). h.0) there)) two in
      and_true _ _ first second

  -- the degrees that these meet
  pub den-meets : (fault : RingFault) → DegreesMeet (MonomialsMeet (residue_ops q) c den) fault → DegreesMeet (TieMeets g.told.system g.fractions d c (to_generator k)) fault
  den-meets fault m = meet-weaker (MonomialsMeet (residue_ops q) c den) (TieMeets g.told.system g.fractions d c (to_generator k))
      (λ x y h. (f, (k - 1, inside, sym at), inl (subst₂ (λ (p : ℕ) (e : Poly). MonomialsMeet (residue_ops p) c e x y) field at_den h))) fault m

  pub num-meets : (fault : RingFault) → DegreesMeet (MonomialsMeet (residue_ops q) d num) fault → DegreesMeet (TieMeets g.told.system g.fractions d c (to_generator k)) fault
  num-meets fault m = meet-weaker (MonomialsMeet (residue_ops q) d num) (TieMeets g.told.system g.fractions d c (to_generator k))
      (λ x y h. (f, (k - 1, inside, sym at), inr (subst₂ (λ (p : ℕ) (e : Poly). MonomialsMeet (residue_ops p) d e x y) field at_num h))) fault m
