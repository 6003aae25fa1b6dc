-- Whether an entry settles its pair, by its kind.
--   coprime-settles, chain-settles, quotients-settle
--   both-listed, not-listed                            the tests of a chain in their order
use Rattle.std.proofs.Common.{◌≡◌, ℕ, ◌+◌, ◌-◌, ◌<◌, ◌≤◌, Bool, true, false, ◌&&◌, List, length, refl, sym, ap, ap₂, ◌∙◌, arith}
use Rattle.rinv_algebra.specs.Monomial.{coprime, divides, lcm}
use Rattle.rinv_defs.specs.System.{Poly}
use Rattle.rinv_defs.specs.Certificate.{Certificate, PairItem as Item}
use Rattle.rinv_defs.specs.PairConditions.{leading, element, settles, reduces_to_zero}
use Rattle.rinv_cert.specs.declared.certificate.PairItem.{PairItem}
use Rattle.rinv_cert.specs.declared.certificate.PairItem.TheVariants.{Coprime, Chain, Quotients}
use Rattle.rinv_cert.specs.Seen.{pair_item_by}
use Rattle.rinv_cert.proofs.Same.{map-same}
use Rattle.rinv_basis_check.specs.Listed.{is_listed, ArePairsOf}
use Rattle.rinv_basis_check.specs.declared.basis.Basis.{Basis}
use Rattle.rinv_basis_check.specs.Bases.{is_pair_form_in}
use Rattle.rinv_basis_check.proofs.EntryForms.{pair-first, pair-ascends}
use Rattle.rinv_algebra.proofs.Same.{both}
use Rattle.rinv_defs.specs.Format.{is_pair}

-- the tests of a chain in their order
pub both-listed : (x y z : Bool) → x ≡ true → y ≡ true → z ≡ (x && y && z)
both-listed x y z ex ey = rw (ex, ey) refl

pub not-listed : (x y z : Bool) → x ≡ true → y ≡ false → false ≡ (x && y && z)
not-listed x y z ex ey = rw (ex, ey) refl

pub no-divisor : (x y z : Bool) → x ≡ false → false ≡ (x && y && z)
no-divisor x y z ex = rw ex refl

module _ (c : Certificate) (earlier : List Item) (e : PairItem Poly) where
  pub coprime-settles : (i j : ℕ) (a b : List ℕ) → e ≡ Coprime i j → a ≡ leading c.system (element c i) → b ≡ leading c.system (element c j) → coprime a b ≡ settles c earlier (pair_item_by (λ f. f) e)
  unfolding settles
  coprime-settles i j a b is ea eb = ap₂ coprime ea eb ∙ ap (λ u. settles c earlier (pair_item_by (λ f. f) u)) (sym is)

  pub chain-settles : (listed : List (ℕ × ℕ)) → ArePairsOf listed earlier → (i j k : ℕ) (a b d : List ℕ) → e ≡ Chain i j k → a ≡ leading c.system (element c i) → b ≡ leading c.system (element c j) → d ≡ leading c.system (element c k)
      → (divides d (lcm a b) && is_listed listed i k && is_listed listed k j) ≡ settles c earlier (pair_item_by (λ f. f) e)
  unfolding settles
  chain-settles listed pairs i j k a b d is ea eb ed =
      ap₂ (λ (x y : Bool). x && y) (ap₂ (λ (x y : Bool). x && y) (ap₂ divides ed (ap₂ lcm ea eb)) (pairs i k)) (pairs k j) ∙ ap (λ u. settles c earlier (pair_item_by (λ f. f) u)) (sym is)

  pub quotients-settle : (basis : Basis) → is_pair_form_in basis e ≡ true → (i j : ℕ) (q qs : List Poly) → e ≡ Quotients i j q → qs ≡ q → reduces_to_zero c (element c (i - 1 + 1)) (element c (j - 1 + 1)) qs ≡ settles c earlier (pair_item_by (λ f. f) e)
  unfolding settles
  quotients-settle basis form i j q qs is eq =
      let here : is_pair_form_in basis (Quotients i j q) ≡ true = sym (ap (is_pair_form_in basis) is) ∙ form in
      let pair : is_pair (length basis.elements.items) i j ≡ true = (both (is_pair (length basis.elements.items) i j) _ here).0 in
      let low : 1 ≤ i = pair-first (length basis.elements.items) i j pair in
      let above : i < j = pair-ascends (length basis.elements.items) i j pair in
      let first : i - 1 + 1 ≡ i = omega (arith, low) in
      let second : j - 1 + 1 ≡ j = omega (arith, low, above) in
      ap₂ (λ (m n : ℕ). reduces_to_zero c (element c m) (element c n) qs) first second ∙ ap (reduces_to_zero c (element c i) (element c j)) (eq ∙ sym (map-same (λ (f : Poly). f) (λ f. refl) q))
      ∙ ap (λ u. settles c earlier (pair_item_by (λ f. f) u)) (sym is)
