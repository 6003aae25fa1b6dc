-- The fraction that an expression is: a numerator and a denominator, without cancelling. Where nothing is divided, the denominator is 1.
use Rattle.std.specs.Prelude.{ℕ, ◌≤◌, All, zero, suc, ◌-◌, List, [], ◌++◌, map, length, get_or, Bool, false, nat_lt, bytes_eq, if◌then◌else◌}
use Rattle.std.specs.List.{position_or_len, IsDistinct}
use Rattle.rinv_algebra.specs.Ring.{RingOps}
use Rattle.rinv_algebra.specs.Residue.{residue, residue_ops}
use Rattle.rinv_algebra.specs.Monomial.{total_degree}
use Rattle.rinv_algebra.specs.Polynomial.{Polynomial, poly_ops, opposite, product as times, constant, variable, is_zero}
use Rattle.rinv_algebra.specs.Fraction.{Fraction, over_one, fraction_sum, fraction_product}
use Rattle.rinv_text.specs.declared.formal.Formal.{Formal}
use Rattle.rinv_text.specs.Grammar.{Tree, number, name, negative, sum, difference, product, quotient, power}
use Rattle.rinv_text.specs.Formal.{of_variable, some_part}

-- an abbreviation: its name, the fraction for which it stands, and the formal numbers of the expression that it was given as
pub record Definition : Type 0 where
  pub name : List ℕ
  pub value : Fraction ℕ
  pub formal : Formal

-- no part has a degree above the formal one
pub record IsBounded (d : Definition) : Type 0 where
  pub numerator : All (λ t. total_degree t.0 ≤ d.formal.num_degree) d.value.0
  pub denominator : All (λ t. total_degree t.0 ≤ d.formal.den_degree) d.value.1

-- no two have one name, and all are bounded
pub record AreDefinitions (defs : List Definition) : Type 0 where
  pub distinct : IsDistinct bytes_eq (map (λ d. d.name) defs)
  pub bounded : All IsBounded defs

-- ---- names

-- the place of a name among the names
abbrev pub place_of : List (List ℕ) → List ℕ → ℕ
place_of names w = position_or_len (bytes_eq w) names

-- the fraction for which a name stands, where all names are those of variables
abbrev pub variable_named : ℕ → List (List ℕ) → List ℕ → Fraction ℕ
variable_named p names w = over_one (residue_ops p) (variable (residue_ops p) (place_of names w))

-- the names of the variables, then those of the abbreviations
abbrev pub known_names : List (List ℕ) → List Definition → List (List ℕ)
known_names names defs = names ++ map (λ d. d.name) defs

-- what stands behind the last abbreviation
abbrev pub undefined : Definition
undefined = record { name = []; value = ([], []); formal = of_variable }

-- the fraction at a place among the names of `count` variables and of abbreviations, and its formal numbers
abbrev pub meaning_at : ℕ → ℕ → List Definition → ℕ → Fraction ℕ
meaning_at p count defs k = if nat_lt k count then over_one (residue_ops p) (variable (residue_ops p) k) else (get_or defs (k - count) undefined).value

abbrev pub formal_at : ℕ → List Definition → ℕ → Formal
formal_at count defs k = if nat_lt k count then of_variable else (get_or defs (k - count) undefined).formal

-- the fraction for which a name stands, and its formal numbers
abbrev pub meaning : ℕ → List (List ℕ) → List Definition → List ℕ → Fraction ℕ
meaning p names defs w = meaning_at p (length names) defs (place_of (known_names names defs) w)

abbrev pub formal_of : List (List ℕ) → List Definition → List ℕ → Formal
formal_of names defs w = formal_at (length names) defs (place_of (known_names names defs) w)

-- ---- expressions

-- f to the k-th power; the power 0 is 1
unfoldable pub to_the : {E : Type 0} → RingOps E → ℕ → Polynomial E → Polynomial E
to_the o zero f = (poly_ops o).one
to_the o (suc k) f = times o (to_the o k f) f

-- the expression over the residues modulo p, with what each name stands for
unfoldable pub value : ℕ → (List ℕ → Fraction ℕ) → Tree → Fraction ℕ
value p means (number n) = over_one (residue_ops p) (constant (residue_ops p) (residue p n))
value p means (name w) = means w
value p means (negative t) = (opposite (residue_ops p) (value p means t).0, (value p means t).1)
value p means (sum t u) = fraction_sum (residue_ops p) (value p means t) (value p means u)
value p means (difference t u) = fraction_sum (residue_ops p) (value p means t) (opposite (residue_ops p) (value p means u).0, (value p means u).1)
value p means (product t u) = fraction_product (residue_ops p) (value p means t) (value p means u)
value p means (quotient t u) = fraction_product (residue_ops p) (value p means t) ((value p means u).1, (value p means u).0)
value p means (power t k) = (to_the (residue_ops p) k (value p means t).0, to_the (residue_ops p) k (value p means t).1)

-- a quotient whose divisor is zero
abbrev pub has_zero_divisor : ℕ → (List ℕ → Fraction ℕ) → Tree → Bool
has_zero_divisor p means (quotient t u) = is_zero (residue_ops p) (value p means u).0
has_zero_divisor p means _ = false

-- whether a subexpression is one
abbrev pub divides_by_zero : ℕ → (List ℕ → Fraction ℕ) → Tree → Bool
divides_by_zero p means t = some_part (has_zero_divisor p means) t
