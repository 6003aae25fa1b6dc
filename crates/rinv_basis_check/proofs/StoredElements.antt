-- What a basis carries of an element.
--   leads-many                          there are as many leading monomials as elements
--   element-stored, element-nonzero     an element is stored, and not zero
--   lead-of, lead-length, lead-has      its leading monomial
--   lcm-length                          a least common multiple has as many variables
--   order-is                            the order by its blocks
use Rattle.std.proofs.Common.{◌≡◌, ℕ, ◌+◌, ◌<◌, true, false, List, [], ◌∷◌, length, get_or, refl, sym, ap, ap₂, ◌∙◌, arith, nat_lt, IsTrue}
use Rattle.std.proofs.lemmas.List.{get_or-map}
use Rattle.std.proofs.lemmas.List.Elements.{All-get_or}
use Rattle.rinv_algebra.specs.Residue.{residue_ops}
use Rattle.rinv_algebra.specs.Monomial.{lcm}
use Rattle.rinv_algebra.specs.Normal.{IsNormal}
use Rattle.rinv_algebra.specs.Order.{block_order}
use Rattle.rinv_algebra.specs.BlockEnds.{sizes_from}
use Rattle.rinv_algebra.specs.Polynomial.{is_zero, has_monomial}
use Rattle.rinv_algebra.specs.Leading.{leading_monomial}
use Rattle.rinv_defs.specs.System.{Poly, group_count, space_count}
use Rattle.rinv_defs.specs.Certificate.{Certificate}
use Rattle.rinv_defs.specs.PairConditions.{leading, element}
use Rattle.rinv_defs.proofs.PartCounts.{length-map}
use Rattle.rinv_form.specs.Forms.{is_stored}
use Rattle.rinv_basis_check.specs.declared.basis.Basis.{Basis}
use Rattle.rinv_basis_check.specs.Bases.{IsBasisOf}
use Rattle.rinv_basis_check.proofs.BasisElements.{block-sizes, element-is}
use Rattle.rinv_basis_check.proofs.LeadingTerms as terms

-- a least common multiple has as many variables
pub lcm-length : (a b : List ℕ) → length a ≡ length b → length (lcm a b) ≡ length a
unfolding lcm
lcm-length [] b e = sym e
lcm-length (x ∷ a) [] e = refl
lcm-length (x ∷ a) (y ∷ b) e =
    let rest : length a ≡ length b = omega (arith, e) in
    let h = lcm-length a b rest in
    omega (arith, h)

module _ (b : Basis) where
  -- as many leading monomials as elements
  pub leads-many : length b.leads.items ≡ length b.elements.items
  leads-many = ap length b.leading ∙ length-map (leading_monomial (residue_ops b.ring.coeffs) (block_order (sizes_from 0 b.order))) b.elements.items

  module _ (k : ℕ) (few : k < length b.elements.items) where
    pub element-stored : IsTrue (is_stored b.ring.coeffs b.ring.vars (get_or b.elements.items k []))
    element-stored = All-get_or (IsNormal (residue_ops b.ring.coeffs) (λ c. nat_lt c b.ring.coeffs) b.ring.vars) b.elements.items k [] few b.polynomials

    pub element-nonzero : is_zero (residue_ops b.ring.coeffs) (get_or b.elements.items k []) ≡ false
    element-nonzero = All-get_or (λ (f : Poly). is_zero (residue_ops b.ring.coeffs) f ≡ false) b.elements.items k [] few b.nonzero

    pub lead-of : get_or b.leads.items k [] ≡ leading_monomial (residue_ops b.ring.coeffs) (block_order (sizes_from 0 b.order)) (get_or b.elements.items k [])
    lead-of =
        ap (λ (ms : List (List ℕ)). get_or ms k []) b.leading ∙ get_or-map (leading_monomial (residue_ops b.ring.coeffs) (block_order (sizes_from 0 b.order))) b.elements.items k [] [] few

    pub lead-length : length (get_or b.leads.items k []) ≡ b.ring.vars
    lead-length = ap length lead-of ∙ terms.lead-vars b.ring.coeffs b.ring.vars b.order (get_or b.elements.items k []) element-stored element-nonzero

    pub lead-listed : has_monomial (residue_ops b.ring.coeffs) (get_or b.elements.items k []) (leading_monomial (residue_ops b.ring.coeffs) (block_order (sizes_from 0 b.order)) (get_or b.elements.items k [])) ≡ true
    lead-listed = terms.lead-has b.ring.coeffs b.ring.vars b.order (get_or b.elements.items k []) element-stored element-nonzero

  module _ (c : Certificate) (is : IsBasisOf c b) where
    -- the blocks of the order
    pub order-is : sizes_from 0 b.order ≡ group_count c.system ∷ space_count c.system ∷ space_count c.system ∷ []
    order-is = ap (sizes_from 0) is.ends ∙ block-sizes (group_count c.system) (space_count c.system)

    -- the leading monomial in the definition's order
    pub leading-is : (f : Poly) → leading_monomial (residue_ops b.ring.coeffs) (block_order (sizes_from 0 b.order)) f ≡ leading c.system f
    leading-is f = ap₂ (λ (p : ℕ) (sizes : List ℕ). leading_monomial (residue_ops p) (block_order sizes) f) is.field order-is

    module _ (k n : ℕ) (at : n ≡ k + 1) (few : k < length b.elements.items) where
      pub number-is : get_or b.elements.items k [] ≡ element c n
      number-is = element-is c b.elements.items is.elements k n at

      pub lead-at : get_or b.leads.items k [] ≡ leading c.system (element c n)
      lead-at = lead-of k few ∙ leading-is (get_or b.elements.items k []) ∙ ap (leading c.system) number-is

      pub lead-has : has_monomial (residue_ops c.system.p) (element c n) (leading c.system (element c n)) ≡ true
      lead-has =
          sym (ap₂ (λ (p : ℕ) (f : Poly). has_monomial (residue_ops p) f (leading c.system (element c n))) is.field number-is)
          ∙ sym (ap (has_monomial (residue_ops b.ring.coeffs) (get_or b.elements.items k [])) (leading-is (get_or b.elements.items k []) ∙ ap (leading c.system) number-is)) ∙ lead-listed k few
