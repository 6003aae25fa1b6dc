-- Pairs of a list of polynomials, settled as Buchberger's criterion wants it.
use Rattle.std.specs.Prelude.{ℕ, ◌<◌, min, max, Bool, ◌&&◌, ◌||◌, ◌==◌, List, [], ◌∷◌, length, get_or, zip, IsTrue}
use Rattle.std.specs.List.{list_all, list_any}
use Rattle.std.specs.Ordering.{is_lt}
use Rattle.std.specs.declared.cmp.Ordering.{Ordering}
use Rattle.rinv_algebra.specs.Ring.{RingOps, IsSame}
use Rattle.rinv_algebra.specs.Monomial.{monomial_product, divides, lcm, coprime}
use Rattle.rinv_algebra.specs.Polynomial.{Polynomial, poly_ops, is_zero}
use Rattle.rinv_algebra.specs.Normal.{is_in_variables}
use Rattle.rinv_algebra.specs.Ideal.{combination}
use Rattle.rinv_algebra.specs.Leading.{leading_monomial, s_polynomial}

-- whether the pair of two places, in whichever order, is among the pairs
abbrev pub is_listed : List (ℕ × ℕ) → ℕ → ℕ → Bool
is_listed pairs i j = list_any (λ p. p.0 == min i j && p.1 == max i j) pairs

module _ {E : Type 0} (o : RingOps E) (cmp : List ℕ → List ℕ → Ordering) (hs : List (Polynomial E)) where
  -- the leading monomial of the element at a place
  abbrev pub lead_at : ℕ → List ℕ
  lead_at k = leading_monomial o cmp (get_or hs k [])

  -- the least common multiple of two of them
  abbrev pub lcm_at : ℕ → ℕ → List ℕ
  lcm_at i j = lcm (lead_at i) (lead_at j)

  -- the leading monomials have no common variable
  abbrev pub AreCoprime : ℕ → ℕ → Type 0
  AreCoprime i j = IsTrue (coprime (lead_at i) (lead_at j))

  -- a third leading monomial divides the least common multiple, and its pairs with both are listed
  pub record HasChain (pairs : List (ℕ × ℕ)) (i j by : ℕ) : Type 0 where
    pub inside : by < length hs
    pub divides : IsTrue (divides (lead_at by) (lcm_at i j))
    pub with_first : IsTrue (is_listed pairs i by)
    pub with_second : IsTrue (is_listed pairs by j)

module _ {E : Type 0} (o : RingOps E) (cmp : List ℕ → List ℕ → Ordering) (v : ℕ) (hs : List (Polynomial E)) where
  -- the product of a quotient and an element has no monomial that reaches m
  abbrev pub stays_below : List ℕ → Polynomial E × Polynomial E → Bool
  stays_below m (q, h) = is_zero o q || is_lt (cmp (monomial_product (leading_monomial o cmp q) (leading_monomial o cmp h)) m)

  -- the S-polynomial is the sum of the quotients times the elements, and all products stay below the least common multiple
  pub record HasQuotients (i j : ℕ) (qs : List (Polynomial E)) : Type 0 where
    pub in_variables : IsTrue (list_all (is_in_variables v) qs)
    pub sums_up : IsSame (poly_ops o) (s_polynomial o cmp (get_or hs i []) (get_or hs j [])) (combination o qs hs)
    pub below : IsTrue (list_all (stays_below (lcm_at o cmp hs i j)) (zip qs hs))

  -- each pair of the list is settled in one of these ways, by pairs that stand before it
  pub data AreSettled : List (ℕ × ℕ) → Type 0 where
    none : AreSettled []
    by_quotients : (pairs : List (ℕ × ℕ)) (i j : ℕ) (qs : List (Polynomial E)) → AreSettled pairs → i < j → j < length hs → HasQuotients i j qs → AreSettled ((i, j) ∷ pairs)
    by_coprime : (pairs : List (ℕ × ℕ)) (i j : ℕ) → AreSettled pairs → i < j → j < length hs → AreCoprime o cmp hs i j → AreSettled ((i, j) ∷ pairs)
    by_chain : (pairs : List (ℕ × ℕ)) (i j by : ℕ) → AreSettled pairs → i < j → j < length hs → HasChain o cmp hs pairs i j by → AreSettled ((i, j) ∷ pairs)

-- each pair of places of a list is among the pairs
abbrev pub AreAllListed : {E : Type 0} → List (Polynomial E) → List (ℕ × ℕ) → Type 0
AreAllListed hs pairs = (i j : ℕ) → i < j → j < length hs → IsTrue (is_listed pairs i j)
