-- The elements of a basis as they are stored, and their leading monomials.
--   elements-normal, elements-nonzero    what the form of a certificate says of its elements
--   block-sizes                          the blocks of the order
--   element-is, lead-is                  the element with a number, and its leading monomial
use Rattle.std.proofs.Common.{◌≡◌, ℕ, ◌+◌, ◌-◌, ◌*◌, ◌<◌, true, false, List, [], ◌∷◌, ◌++◌, length, get_or, map, take, All, None, refl, sym, ap, ap₂, ◌∙◌, arith, nat_lt}
use Rattle.std.specs.List.{list_all}
use Rattle.std.proofs.lemmas.Bool.{not-true}
use Rattle.std.proofs.lemmas.List.{get_or-map, map_more}
use Rattle.std.proofs.lemmas.List.Elements.{All-nil, All-cons}
use Rattle.std.proofs.lemmas.Option.{unwrap_or-slice_get}
use Rattle.rinv_algebra.specs.Residue.{residue_ops}
use Rattle.rinv_algebra.specs.Order.{block_order}
use Rattle.rinv_algebra.specs.BlockEnds.{sizes_from}
use Rattle.rinv_algebra.specs.Polynomial.{is_zero}
use Rattle.rinv_algebra.specs.Leading.{leading_monomial}
use Rattle.rinv_algebra.specs.Normal.{IsNormal}
use Rattle.rinv_algebra.proofs.Same.{both}
use Rattle.rinv_defs.specs.System.{System, Poly, group_count, space_count}
use Rattle.rinv_defs.specs.Certificate.{Certificate, BasisItem, full}
use Rattle.rinv_defs.specs.Format.{format_failure, is_basis_item}
use Rattle.rinv_defs.specs.SystemForm.{is_good, are_good, is_nonzero}
use Rattle.rinv_defs.specs.Conditions.{elements}
use Rattle.rinv_defs.proofs.PartCounts.{length-map}
use Rattle.rinv_defs.specs.PairConditions.{element, leading}
use Rattle.rinv_form.proofs.FormParts.{form-basis}
use Rattle.rinv_parts.specs.Points.{ArePolynomials}
use Rattle.rinv_basis_check.specs.declared.basis.Basis.{Basis}
use Rattle.rinv_basis_check.specs.Bases.{IsBasisOf}

module _ (s : System) where
  item-parts : (b : BasisItem) → is_basis_item s b ≡ true → (is_good s (group_count s + 2 * space_count s) b.h ≡ true) × (is_zero (residue_ops s.p) b.h ≡ false)
  item-parts b h =
      let item = (both (is_nonzero s (group_count s + 2 * space_count s) b.h) (are_good s (length s.ideal) (group_count s + space_count s) b.cofactors) h).0 in
      let parts = both (is_good s (group_count s + 2 * space_count s) b.h) _ item in
      (parts.0, not-true (is_zero (residue_ops s.p) b.h) parts.1)

  items-normal : (bs : List BasisItem) → list_all (is_basis_item s) bs ≡ true → ArePolynomials s.p (group_count s + 2 * space_count s) (map (λ b. b.h) bs)
  items-normal [] h = All-nil (IsNormal (residue_ops s.p) (λ c. nat_lt c s.p) (group_count s + 2 * space_count s))
  items-normal (b ∷ bs) h =
      let parts = both (is_basis_item s b) (list_all (is_basis_item s) bs) h in
      All-cons (IsNormal (residue_ops s.p) (λ c. nat_lt c s.p) (group_count s + 2 * space_count s)) b.h (map (λ b. b.h) bs) (item-parts b parts.0).0 (items-normal bs parts.1)

  items-nonzero : (bs : List BasisItem) → list_all (is_basis_item s) bs ≡ true → All (λ f. is_zero (residue_ops s.p) f ≡ false) (map (λ b. b.h) bs)
  items-nonzero [] h = All-nil (λ f. is_zero (residue_ops s.p) f ≡ false)
  items-nonzero (b ∷ bs) h =
      let parts = both (is_basis_item s b) (list_all (is_basis_item s) bs) h in
      All-cons (λ f. is_zero (residue_ops s.p) f ≡ false) b.h (map (λ b. b.h) bs) (item-parts b parts.0).1 (items-nonzero bs parts.1)

-- the elements are polynomials in all variables
pub elements-normal : (c : Certificate) → c.kind ≡ full → format_failure c ≡ None → (p v : ℕ) (es : List Poly) → p ≡ c.system.p → v ≡ group_count c.system + 2 * space_count c.system → es ≡ elements c → ArePolynomials p v es
elements-normal c kind form p v es ep ev ee = rw (ep, ev, ee) (items-normal c.system c.basis (form-basis c kind form))

-- none is zero
pub elements-nonzero : (c : Certificate) → c.kind ≡ full → format_failure c ≡ None → (p : ℕ) (es : List Poly) → p ≡ c.system.p → es ≡ elements c → All (λ f. is_zero (residue_ops p) f ≡ false) es
elements-nonzero c kind form p es ep ee = rw (ep, ee) (items-nonzero c.system c.basis (form-basis c kind form))

-- the blocks have the group's variables, Z and the space's
pub block-sizes : (g n : ℕ) → sizes_from 0 (g ∷ (g + n) ∷ (g + 2 * n) ∷ []) ≡ g ∷ n ∷ n ∷ []
block-sizes g n =
    let first : g - 0 ≡ g = omega arith in
    let second : (g + n) - g ≡ n = omega arith in
    let third : (g + 2 * n) - (g + n) ≡ n = omega arith in
    rw (first, second, third) refl

-- the element with a number
pub element-is : (c : Certificate) (es : List Poly) → es ≡ elements c → (k n : ℕ) → n ≡ k + 1 → get_or es k [] ≡ element c n
element-is c es e k n at =
    let place : n - 1 ≡ k = omega (arith, at) in
    sym (unwrap_or-slice_get (elements c) (n - 1) [] ∙ ap (λ (i : ℕ). get_or (elements c) i []) place ∙ ap (λ (fs : List Poly). get_or fs k []) (sym e))

-- its leading monomial
pub lead-is : (c : Certificate) (b : Basis) → IsBasisOf c b → (k n : ℕ) (m : List ℕ) → n ≡ k + 1 → k < length b.leads.items → m ≡ get_or b.leads.items k m → m ≡ leading c.system (element c n)
lead-is c b is k n m at inside here =
    let lead = leading_monomial (residue_ops b.ring.coeffs) (block_order (sizes_from 0 b.order)) in
    let few : k < length b.elements.items = omega (arith, inside, ap length b.leading, length-map lead b.elements.items) in
    here ∙ ap (λ (ms : List (List ℕ)). get_or ms k m) b.leading ∙ get_or-map lead b.elements.items k [] m few ∙ ap lead (element-is c b.elements.items is.elements k n at)
    ∙ ap₂ (λ (p : ℕ) (sizes : List ℕ). leading_monomial (residue_ops p) (block_order sizes) (element c n)) is.field (ap (sizes_from 0) is.ends ∙ block-sizes (group_count c.system) (space_count c.system))

-- one leading monomial more
pub leads-more : (lead : Poly → List ℕ) (es : List Poly) (k : ℕ) (e : Poly) (ms : List (List ℕ)) (m : List ℕ) → k < length es → e ≡ get_or es k e → m ≡ lead e → ms ≡ map lead (take k es) → ms ++ m ∷ [] ≡ map lead (take (k + 1) es)
leads-more lead es k e ms m few at is so_far = ap₂ (λ (xs : List (List ℕ)) (x : List ℕ). xs ++ x ∷ []) so_far (is ∙ ap lead at) ∙ sym (map_more lead es k e few)
