-- The formal numbers of an expression, as steps compute them.
use Rattle.std.specs.Prelude.{ℕ, ◌+◌, ◌≤◌, min, Bool, false, ◌||◌, nat_lt, Some}
use Rattle.rinv_text.specs.declared.formal.Formal.{Formal}
use Rattle.rinv_text.specs.declared.size.Size.{Size}
use Rattle.rinv_text.specs.Formal.{of_number, formal_sum, formal_product, turned, formal_power, is_above, has_more, max_formal_degree, max_formal_terms}
use Rattle.rinv_text.specs.Evaluation.{Algebra}

-- what is too great is counted as one more than the limit
abbrev pub capped : Formal → Formal
capped f = record {
  num_degree = min f.num_degree (max_formal_degree + 1);
  den_degree = min f.den_degree (max_formal_degree + 1);
  num_terms = min f.num_terms (max_formal_terms + 1);
  den_terms = min f.den_terms (max_formal_terms + 1);
}

-- numbers that are counted so
pub record IsCapped (f : Formal) : Type 0 where
  pub num_degree : f.num_degree ≤ max_formal_degree + 1
  pub den_degree : f.den_degree ≤ max_formal_degree + 1
  pub num_terms : f.num_terms ≤ max_formal_terms + 1
  pub den_terms : f.den_terms ≤ max_formal_terms + 1

abbrev pub IsSize : Size → Type 0
IsSize s = IsCapped s.numbers

-- the size of an expression with these numbers, of which a part is too high, or too long
abbrev pub judged : Formal → Bool → Bool → Size
judged f high long = record { numbers = capped f; is_high = high || is_above (capped f); is_long = long || has_more (capped f) }

-- the size of what the steps give, with the formal numbers of the names
abbrev pub sizes : (ℕ → Formal) → Algebra Size
sizes named = record {
  number = λ c. Some (judged of_number false false);
  variable = λ k. Some (judged (named k) false false);
  negative = λ x. Some (judged x.numbers x.is_high x.is_long);
  sum = λ x y. Some (judged (formal_sum x.numbers y.numbers) (x.is_high || y.is_high) (x.is_long || y.is_long));
  difference = λ x y. Some (judged (formal_sum x.numbers y.numbers) (x.is_high || y.is_high) (x.is_long || y.is_long));
  product = λ x y. Some (judged (formal_product x.numbers y.numbers) (x.is_high || y.is_high) (x.is_long || y.is_long));
  quotient = λ x y. Some (judged (formal_product x.numbers (turned y.numbers)) (x.is_high || y.is_high) (x.is_long || y.is_long));
  power = λ x k. Some (judged (formal_power x.numbers k) (x.is_high || nat_lt max_formal_degree k) x.is_long);
}
