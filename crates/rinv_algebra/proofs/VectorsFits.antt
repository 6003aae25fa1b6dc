-- The rule on degrees, computed at the limit.
use Rattle.std.specs.Prelude.{◌≡◌, ℕ, List, [], ◌∷◌, ◌++◌, true, false, refl}
use Rattle.rinv_algebra.specs.Polynomial.{Polynomial}
use Rattle.rinv_algebra.specs.Residue.{residue_ops}
use Rattle.rinv_algebra.specs.Fits.{product_fits, substitution_fits, combination_fits}
use Rattle.rinv_algebra.specs.Literals.{algebra_on_literals}

abbrev one : ℕ → List ℕ → Polynomial ℕ
one c es = (es, c) ∷ []

at_limit : product_fits (residue_ops 7) (one 1 (6000 ∷ []) ++ one 1 []) (one 1 (0 ∷ 4000 ∷ [])) ≡ true
unfolding algebra_on_literals
at_limit = refl

past_limit : product_fits (residue_ops 7) (one 1 (6000 ∷ []) ++ one 1 []) (one 1 (0 ∷ 4001 ∷ [])) ≡ false
unfolding algebra_on_literals
past_limit = refl

-- zero times anything fits, also where zero is written as 3 + 4
by_zero : product_fits (residue_ops 7) (one 3 (6000 ∷ []) ++ one 4 (6000 ∷ [])) (one 1 (0 ∷ 4001 ∷ [])) ≡ true
unfolding algebra_on_literals
by_zero = refl

-- x^20 at x = a^500, and x^21
powers : substitution_fits (residue_ops 7) (one 1 (500 ∷ []) ∷ []) (one 1 (20 ∷ [])) ≡ true
unfolding algebra_on_literals
powers = refl

powers_past : substitution_fits (residue_ops 7) (one 1 (500 ∷ []) ∷ []) (one 1 (21 ∷ [])) ≡ false
unfolding algebra_on_literals
powers_past = refl

-- x*y^2 at x = 0 and y = a^6000: zero comes first, and each product is one with zero
zero_image : substitution_fits (residue_ops 7) ([] ∷ one 1 (6000 ∷ []) ∷ []) (one 1 (1 ∷ 2 ∷ [])) ≡ true
unfolding algebra_on_literals
zero_image = refl

-- x^2*y at x = a^6000 and y = 0: a^6000 times a^6000 comes first
zero_late : substitution_fits (residue_ops 7) (one 1 (6000 ∷ []) ∷ [] ∷ []) (one 1 (2 ∷ 1 ∷ [])) ≡ false
unfolding algebra_on_literals
zero_late = refl

-- the second product passes the limit
second : combination_fits (residue_ops 7) (one 1 [] ∷ one 1 (6000 ∷ []) ∷ []) (one 1 [] ∷ one 1 (4001 ∷ []) ∷ []) ≡ false
unfolding algebra_on_literals
second = refl
