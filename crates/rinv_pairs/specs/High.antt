-- Leading monomials whose least common multiple has a degree over the limit.
use Rattle.std.specs.Prelude.{◌≡◌, ℕ, ◌<◌, ◌≤◌, List, [], get_or, ⊤}
use Rattle.rinv_algebra.specs.Monomial.{lcm, total_degree, max_degree}
use Rattle.rinv_mono.specs.declared.fault.MonoFault.{MonoFault}
use Rattle.rinv_mono.specs.declared.fault.MonoFault.TheVariants.{Degree, NoMemory}

-- the degree of the least common multiple of the monomials at two places
abbrev pub multiple_degree : List (List ℕ) → ℕ → ℕ → ℕ
multiple_degree leads i k = total_degree (lcm (get_or leads i []) (get_or leads k []))

-- with each of the first n places, that of place k is within the limit
abbrev pub AreLow : List (List ℕ) → ℕ → ℕ → Type 0
AreLow leads k n = (i : ℕ) → i < n → multiple_degree leads i k ≤ max_degree

-- with an earlier place, it is over the limit first; the two monomials have these degrees
pub record FirstIsHigh (leads : List (List ℕ)) (k left right : ℕ) : Type 0 where
  pub place : ℕ
  pub earlier : place < k
  pub high : max_degree < multiple_degree leads place k
  pub first : AreLow leads k place
  pub left_degree : total_degree (get_or leads place []) ≡ left
  pub right_degree : total_degree (get_or leads k []) ≡ right

-- what a fault that is no want of memory carries
abbrev pub IsFirstHigh : List (List ℕ) → ℕ → MonoFault → Type 0
IsFirstHigh leads k (Degree left right) = FirstIsHigh leads k left right
IsFirstHigh leads k NoMemory = ⊤
