-- Whether an S-polynomial reduces to zero, by the tests in their order.
--   high-fails, left-fails, right-fails, sum-fails    where it does not
--   reduces                                           where all but the last test hold
use Rattle.std.proofs.Common.{◌≡◌, ℕ, ◌<◌, Bool, true, false, ◌&&◌, List, [], ◌∷◌, zip, refl, sym, ap, ap₂, ◌∙◌, subst}
use Rattle.std.specs.List.{list_all}
use Rattle.rinv_algebra.specs.Ring.{IsSame}
use Rattle.rinv_algebra.specs.Residue.{residue_ops}
use Rattle.rinv_algebra.specs.Monomial.{lcm, total_degree, max_degree}
use Rattle.rinv_algebra.specs.Polynomial.{poly_ops, has_monomial, term_product, difference}
use Rattle.rinv_algebra.specs.Leading.{multiplier, s_polynomial}
use Rattle.rinv_algebra.specs.Fits.{product_fits, multiplies_out}
use Rattle.rinv_defs.specs.System.{Poly}
use Rattle.rinv_defs.specs.Certificate.{Certificate}
use Rattle.rinv_defs.specs.Conditions.{elements}
use Rattle.rinv_defs.specs.PairConditions.{action_order, leading, stays_below, reduces_to_zero}
use Rattle.rinv_basis_check.proofs.PairMultiples.{high-misfits, difference-value}
use Rattle.rinv_basis_check.proofs.Combinations.{combined-same}

module _ (c : Certificate) (f g : Poly) (qs : List Poly) where
  -- the tests after the first
  left-fails : product_fits (residue_ops c.system.p) (multiplier (residue_ops c.system.p) (action_order c.system) f g ∷ []) f ≡ false → reduces_to_zero c f g qs ≡ false
  unfolding reduces_to_zero
  left-fails h = rw h refl

  -- the least common multiple is over the limit
  pub high-fails : has_monomial (residue_ops c.system.p) f (leading c.system f) ≡ true → has_monomial (residue_ops c.system.p) g (leading c.system g) ≡ true
      → max_degree < total_degree (lcm (leading c.system f) (leading c.system g)) → false ≡ reduces_to_zero c f g qs
  high-fails has_f has_g over = sym (left-fails (high-misfits c.system.p (action_order c.system) f g has_f has_g over))

  -- the first multiple does not fit
  pub first-fails : false ≡ product_fits (residue_ops c.system.p) (multiplier (residue_ops c.system.p) (action_order c.system) f g ∷ []) f → false ≡ reduces_to_zero c f g qs
  first-fails h = sym (left-fails (sym h))

  module _ (left : true ≡ product_fits (residue_ops c.system.p) (multiplier (residue_ops c.system.p) (action_order c.system) f g ∷ []) f) where
    -- the second does not
    pub second-fails : false ≡ product_fits (residue_ops c.system.p) (multiplier (residue_ops c.system.p) (action_order c.system) g f ∷ []) g → false ≡ reduces_to_zero c f g qs
    unfolding reduces_to_zero
    second-fails h = rw (← left, ← h) refl

    module _ (right : true ≡ product_fits (residue_ops c.system.p) (multiplier (residue_ops c.system.p) (action_order c.system) g f ∷ []) g) where
      rest : reduces_to_zero c f g qs ≡ (multiplies_out (residue_ops c.system.p) (s_polynomial (residue_ops c.system.p) (action_order c.system) f g) qs (elements c) && list_all (stays_below c.system (lcm (leading c.system f) (leading c.system g))) (zip qs (elements c)))
      unfolding reduces_to_zero
      rest = rw (← left, ← right) refl

      module _ (p : ℕ) (es : List Poly) (a b s : Poly) (ep : p ≡ c.system.p) (ee : es ≡ elements c)
          (is_a : IsSame (poly_ops (residue_ops c.system.p)) a (term_product (residue_ops c.system.p) (multiplier (residue_ops c.system.p) (action_order c.system) f g) f))
          (is_b : IsSame (poly_ops (residue_ops c.system.p)) b (term_product (residue_ops c.system.p) (multiplier (residue_ops c.system.p) (action_order c.system) g f) g))
          (is_s : IsSame (poly_ops (residue_ops p)) s (difference (residue_ops p) a b)) where
        out : multiplies_out (residue_ops p) s qs es ≡ multiplies_out (residue_ops c.system.p) (s_polynomial (residue_ops c.system.p) (action_order c.system) f g) qs (elements c)
        out =
            let moved : IsSame (poly_ops (residue_ops c.system.p)) s (difference (residue_ops c.system.p) a b) = subst (λ (q : ℕ). IsSame (poly_ops (residue_ops q)) s (difference (residue_ops q) a b)) ep is_s in
            ap₂ (λ (q : ℕ) (fs : List Poly). multiplies_out (residue_ops q) s qs fs) ep ee ∙ combined-same c.system.p s (s_polynomial (residue_ops c.system.p) (action_order c.system) f g) qs (elements c) (difference-value c.system.p (action_order c.system) f g a b s is_a is_b moved)

        -- it is not the sum
        pub sum-fails : false ≡ multiplies_out (residue_ops p) s qs es → false ≡ reduces_to_zero c f g qs
        sum-fails h = sym (rest ∙ ap (λ (t : Bool). t && list_all (stays_below c.system (lcm (leading c.system f) (leading c.system g))) (zip qs (elements c))) (sym (h ∙ out)))

        -- it is, and the last test decides
        pub reduces : true ≡ multiplies_out (residue_ops p) s qs es → (common : List ℕ) → common ≡ lcm (leading c.system f) (leading c.system g) → (below : Bool) → below ≡ list_all (stays_below c.system common) (zip qs (elements c)) → below ≡ reduces_to_zero c f g qs
        reduces h common at below is =
            is ∙ ap (λ (m : List ℕ). list_all (stays_below c.system m) (zip qs (elements c))) at
            ∙ sym (rest ∙ ap (λ (t : Bool). t && list_all (stays_below c.system (lcm (leading c.system f) (leading c.system g))) (zip qs (elements c))) (sym (h ∙ out)))
