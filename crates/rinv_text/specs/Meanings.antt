-- What the steps of an expression mean: fractions, with bounds on the degrees of their parts.
use Rattle.std.specs.Prelude.{◌≡◌, ℕ, ◌-◌, List, [], ◌∷◌, length, get_or, reverse, Bool, false, ◌||◌, nat_lt, if◌then◌else◌, Option, Some, None}
use Rattle.rinv_algebra.specs.Residue.{residue_ops}
use Rattle.rinv_algebra.specs.Polynomial.{opposite, constant, variable, is_zero}
use Rattle.rinv_algebra.specs.Fraction.{Fraction, over_one, fraction_sum, fraction_product}
use Rattle.rinv_text.specs.declared.formal.Formal.{Formal}
use Rattle.rinv_text.specs.declared.parts.Parts.{Parts}
use Rattle.rinv_text.specs.declared.step.Step.{Step}
use Rattle.rinv_text.specs.declared.step.Step.TheVariants.{Sum, Difference, Product, Quotient}
use Rattle.rinv_text.specs.Formal.{of_number, of_variable, formal_sum, formal_product, turned, formal_power, is_above}
use Rattle.rinv_text.specs.Reading.{Definition, undefined, to_the}
use Rattle.rinv_text.specs.Evaluation.{Algebra}
use Rattle.rinv_text.specs.Values.{Stands, IsOver}

-- a fraction, formal numbers of which the degrees bound those of its parts, and whether something was divided by zero
pub record Meaning : Type 0 where
  pub numbers : Formal
  pub value : Fraction ℕ
  pub by_zero : Bool

module _ (p : ℕ) where
  abbrev pub number_meaning : ℕ → Meaning
  number_meaning c = record { numbers = of_number; value = over_one (residue_ops p) (constant (residue_ops p) c); by_zero = false }

  abbrev pub variable_meaning : ℕ → Meaning
  variable_meaning k = record { numbers = of_variable; value = over_one (residue_ops p) (variable (residue_ops p) k); by_zero = false }

  abbrev pub negative_meaning : Meaning → Meaning
  negative_meaning x = record { numbers = x.numbers; value = (opposite (residue_ops p) x.value.0, x.value.1); by_zero = x.by_zero }

  abbrev pub sum_meaning : Meaning → Meaning → Meaning
  sum_meaning x y = record { numbers = formal_sum x.numbers y.numbers; value = fraction_sum (residue_ops p) x.value y.value; by_zero = x.by_zero || y.by_zero }

  abbrev pub product_meaning : Meaning → Meaning → Meaning
  product_meaning x y = record { numbers = formal_product x.numbers y.numbers; value = fraction_product (residue_ops p) x.value y.value; by_zero = x.by_zero || y.by_zero }

  abbrev pub quotient_meaning : Meaning → Meaning → Meaning
  quotient_meaning x y = record {
    numbers = formal_product x.numbers (turned y.numbers);
    value = fraction_product (residue_ops p) x.value (y.value.1, y.value.0);
    by_zero = x.by_zero || y.by_zero || is_zero (residue_ops p) y.value.0;
  }

  abbrev pub power_meaning : Meaning → ℕ → Meaning
  power_meaning x k = record { numbers = formal_power x.numbers k; value = (to_the (residue_ops p) k x.value.0, to_the (residue_ops p) k x.value.1); by_zero = x.by_zero }

-- nothing where a degree is too great
abbrev pub within : Meaning → Option Meaning
within g = if is_above g.numbers then None else Some g

-- what a step makes of two values
abbrev pub binary : ℕ → Step → Meaning → Meaning → Option Meaning
binary p Sum x y = within (sum_meaning p x y)
binary p Difference x y = within (sum_meaning p x (negative_meaning p y))
binary p Product x y = within (product_meaning p x y)
binary p Quotient x y = within (quotient_meaning p x y)
binary p _ x y = None

-- numbers below p, names with their meanings, and operations within the greatest formal degree
abbrev pub meanings : ℕ → (ℕ → Option Meaning) → Algebra Meaning
meanings p named = record {
  number = λ c. if nat_lt c p then Some (number_meaning p c) else None;
  variable = named;
  negative = λ x. Some (negative_meaning p x);
  sum = binary p Sum;
  difference = binary p Difference;
  product = binary p Product;
  quotient = binary p Quotient;
  power = λ x k. within (power_meaning p x k);
}

-- what an abbreviation means
abbrev pub defined_meaning : Definition → Meaning
defined_meaning d = record { numbers = d.formal; value = d.value; by_zero = false }

-- the name at a place: one of `count` variables, or an abbreviation
abbrev pub named_at : ℕ → ℕ → List Definition → ℕ → Option Meaning
named_at p count defs k =
    if nat_lt k count then Some (variable_meaning p k)
    else if nat_lt (k - count) (length defs) then Some (defined_meaning (get_or defs (k - count) undefined))
    else None

-- ---- what is kept

-- the value is kept as these parts
pub record StandsFor (p v : ℕ) (x : Parts) (g : Meaning) : Type 0 where
  pub num : Stands p v g.numbers.num_degree g.value.0 x.num
  pub den : IsOver p v g.numbers.den_degree g.value.1 x.den
  pub by_zero : x.by_zero ≡ g.by_zero

-- each of the first stands for its own of the second
abbrev pub Piled : ℕ → ℕ → List Parts → List Meaning → Type 0
Piled p v [] [] = Unit {0}
Piled p v [] (g ∷ gs) = ⊥
Piled p v (x ∷ xs) [] = ⊥
Piled p v (x ∷ xs) (g ∷ gs) = StandsFor p v x g × Piled p v xs gs

-- the operation can be done with the values on the stack, and x is what it gives, behind those that it left
abbrev pub MayTake : ℕ → ℕ → (List Meaning → Option (List Meaning)) → List Parts → Type 0
MayTake p v f stack = (gs : List Meaning) × (hs : List Meaning) × Piled p v (reverse stack) gs × (f gs ≡ Some hs)

abbrev pub Takes : ℕ → ℕ → (List Meaning → Option (List Meaning)) → List Parts → List Parts → Parts → Type 0
Takes p v f old left x = (gs hs : List Meaning) → Piled p v (reverse old) gs → f gs ≡ Some hs → Piled p v (x ∷ reverse left) hs
