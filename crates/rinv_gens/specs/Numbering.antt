-- How coefficients are numbered: constants are left out, and each value is numbered once.
--   with_new              a fraction more
--   ComparisonMeets       the degrees that the comparison of two fractions meets
--   AmongMeets, WalkMeets, NumberingMeets    so of a fraction and earlier generators, in a list, in the relations
use Rattle.std.specs.Prelude.{◌≡◌, ◌⊎◌, ◌||◌, ℕ, List, [], ◌∷◌, ◌++◌, map, Contains, if◌then◌else◌, true, get_or}
use Rattle.rinv_algebra.specs.Residue.{residue_ops}
use Rattle.rinv_poly.specs.Faults.{MonomialsMeet}
use Rattle.rinv_defs.specs.System.{System}
use Rattle.rinv_defs.specs.Invariant.{Fraction}
use Rattle.rinv_defs.specs.Extended.{Relation}
use Rattle.rinv_coefficients.specs.Coefficients.{coefficients, is_among, is_constant, new_values}
use Rattle.rinv_gens.specs.Relations.{AreReduced}
use Rattle.rinv_algebra.specs.Ring.{IsSame}
use Rattle.rinv_algebra.specs.Polynomial.{constant}
use Rattle.rinv_defs.specs.Generators.{over_1, rational_ops}

-- the generators, with the fraction where its value is new
abbrev pub with_new : ℕ → List Fraction → Fraction → List Fraction
with_new p cs c = if is_constant p c || is_among p cs c then cs else cs ++ c ∷ []

-- comparing the values of two fractions meets these degrees, in one of the two products
abbrev pub ComparisonMeets : ℕ → Fraction → Fraction → ℕ → ℕ → Type 0
ComparisonMeets p f g x y = MonomialsMeet (residue_ops p) f.0 g.1 x y ⊎ MonomialsMeet (residue_ops p) g.0 f.1 x y

-- a fraction is compared with one of these
abbrev pub AmongMeets : ℕ → List Fraction → Fraction → ℕ → ℕ → Type 0
AmongMeets p cs c x y = (earlier : Fraction) × Contains cs earlier × ComparisonMeets p earlier c x y

-- a fraction of the list is compared with a generator that was there, or that fractions before it gave
pub record WalkMeets (p : ℕ) (cs list : List Fraction) (x y : ℕ) : Type 0 where
  pub before : List Fraction
  pub next : Fraction
  pub after : List Fraction
  pub whole : list ≡ before ++ next ∷ after
  pub meets : AmongMeets p (cs ++ new_values p cs before) next x y

-- a coefficient of the reduced relations is compared with an earlier generator
pub record NumberingMeets (s : System) (x y : ℕ) : Type 0 where
  pub relations : List Relation
  pub are : AreReduced s relations
  pub meets : WalkMeets s.p [] (coefficients relations) x y

-- the fraction c is the number v
abbrev pub IsNumber : ℕ → Fraction → ℕ → Type 0
IsNumber p c v = IsSame (rational_ops p) c (over_1 p (constant (residue_ops p) v))

-- the generators, with the coefficients of a relation whose values are new
abbrev pub with_values : ℕ → List Fraction → Relation → List Fraction
with_values p cs r = cs ++ new_values p cs (map (λ t. t.1) r.tail)

-- the generator at place k has the value of c
abbrev pub HasSameValue : ℕ → List Fraction → ℕ → Fraction → Type 0
HasSameValue p cs k c = (rational_ops p).same (get_or cs k c) c ≡ true
