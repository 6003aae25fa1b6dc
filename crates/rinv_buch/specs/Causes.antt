-- Why Buchberger's algorithm halts.
use Rattle.std.specs.Prelude.{◌≡◌, ℕ, ◌<◌, ◌⊎◌, Bool, false, List, [], get_or, IsTrue, ⊤, ◌≤◌}
use Rattle.std.specs.declared.cmp.Ordering.{Ordering}
use Rattle.rinv_algebra.specs.Ring.{RingOps}
use Rattle.rinv_algebra.specs.Monomial.{total_degree, max_degree}
use Rattle.rinv_algebra.specs.Polynomial.{Polynomial, has_monomial, is_zero, term_product}
use Rattle.rinv_algebra.specs.Leading.{multiplier}
use Rattle.rinv_groebner.specs.Division.{is_reducible}
use Rattle.rinv_groebner.specs.Settled.{lead_at, lcm_at, AreCoprime}
use Rattle.rinv_groebner.specs.Journal.{Entry, IsOpen, Journal}
use Rattle.rinv_groebner.specs.Sparing.{IsSparing, IsAtWorkOn}
use Rattle.rinv_ring.specs.Operation.{RingOp}
use Rattle.rinv_poly.specs.Combined.{TermMeets, DifferenceMeets}
use Rattle.rinv_div.specs.declared.budget.Budget.{Budget}
use Rattle.rinv_div.specs.Stops.{NextMeets}
use Rattle.rinv_buch.specs.declared.kinds.Why.{Why}
use Rattle.rinv_buch.specs.declared.kinds.Why.TheVariants.{Pairs, Steps, Degree}
use Rattle.rinv_buch.specs.declared.kinds.Stop.{Stop}
use Rattle.rinv_buch.specs.declared.kinds.Stop.TheVariants.{Incomplete, NoMemory}
use Rattle.rinv_buch.specs.Kinds.{Halted}
use Rattle.rinv_buch.specs.Spent.{SpendsOn}
use Rattle.rinv_div.specs.Budgets.{HasStepLeft}
use Rattle.rinv_poly.specs.declared.polynomial_ring.PolyRing.{PolyRing}

-- a pair may still be taken
abbrev pub HasPairLeft : Budget → Type 0
HasPairLeft b = b.endless ≡ false → b.pairs_spent < b.pairs

-- none may
abbrev pub IsOutOfPairs : Budget → Type 0
IsOutOfPairs b = (b.endless ≡ false) × (b.pairs ≤ b.pairs_spent)

module _ {E : Type 0} (o : RingOps E) (cmp : List ℕ → List ℕ → Ordering) where
  -- the leading monomials of an open pair have these degrees, and their least common multiple is over the limit
  pub record LcmMeets (journal : List Entry) (list : List (Polynomial E)) (x y : ℕ) : Type 0 where
    pub first : ℕ
    pub second : ℕ
    pub open_pair : IsOpen o cmp journal list first second
    pub left : total_degree (lead_at o cmp list first) ≡ x
    pub right : total_degree (lead_at o cmp list second) ≡ y
    pub over : max_degree < total_degree (lcm_at o cmp list first second)

module _ {E : Type 0} (o : RingOps E) (is_element : E → Bool) (too_high : RingOp → E → E → ℕ → ℕ → Type 0) (v : ℕ) (cmp : List ℕ → List ℕ → Ordering) where
  -- making the S-polynomial of f and g, in v variables, may answer these degrees: in the multiple of one of them, or in the difference
  abbrev pub SPolynomialMeets : Polynomial E → Polynomial E → ℕ → ℕ → Type 0
  SPolynomialMeets f g x y =
      TermMeets o is_element too_high v (multiplier o cmp f g) f x y
      ⊎ (TermMeets o is_element too_high v (multiplier o cmp g f) g x y ⊎ DifferenceMeets o is_element too_high v (term_product o (multiplier o cmp f g) f) (term_product o (multiplier o cmp g f) g) x y)

  -- making the S-polynomial of an open pair that is not coprime may answer these degrees
  pub record PairMeets (journal : List Entry) (list : List (Polynomial E)) (x y : ℕ) : Type 0 where
    pub first : ℕ
    pub second : ℕ
    pub open_pair : IsOpen o cmp journal list first second
    pub not_coprime : AreCoprime o cmp list first second → ⊥
    pub meets : SPolynomialMeets (get_or list first []) (get_or list second []) x y

  -- these degrees are met: by the leading monomials of a pair while nothing is at work; or, while a pair may be taken, as an
  -- S-polynomial is made, or where also a step may be taken, by the next step on what is at work
  pub data DegreeCause (b : Budget) (journal : List Entry) (list : List (Polynomial E)) (working : Polynomial E) (x y : ℕ) : Type 0 where
    at_lcm : IsTrue (is_zero o working) → LcmMeets o cmp journal list x y → DegreeCause b journal list working x y
    at_pair : IsTrue (is_zero o working) → HasPairLeft b → PairMeets journal list x y → DegreeCause b journal list working x y
    at_step : HasPairLeft b → HasStepLeft b → NextMeets o cmp list is_element too_high working x y → DegreeCause b journal list working x y

  -- what each reason says: the pairs are spent and this one is open; the steps are spent, but not the pairs, and this monomial can be
  -- cancelled; or these degrees are met
  abbrev pub IsCause : Budget → List Entry → List (Polynomial E) → Polynomial E → Why → Type 0
  IsCause b journal list working (Pairs first second) = (b.endless ≡ false) × (b.pairs_spent ≡ b.pairs) × IsTrue (is_zero o working) × IsOpen o cmp journal list first second
  IsCause b journal list working (Steps reducible) = (b.endless ≡ false) × (b.pairs_spent < b.pairs) × (b.steps_spent ≡ b.steps) × IsTrue (has_monomial o working reducible) × IsTrue (is_reducible o cmp list reducible)
  IsCause b journal list working (Degree left right) = DegreeCause b journal list working left right

  -- the journal is one on the polynomials given, what is at work comes of it by these steps, both are spent, and the cause holds; and no
  -- S-polynomial was divided where a third element settles the pair
  pub record Halts (given : List (Polynomial E)) (before after : Budget) (h : Halted E) : Type 0 where
    pub journal : Journal o cmp given h.journal h.polys
    pub taken : ℕ
    pub at_work : IsAtWorkOn o cmp h.journal h.polys h.origin taken h.working
    pub sparing : IsSparing o cmp given h.journal
    pub spent : SpendsOn h.journal taken before after
    pub cause : IsCause after h.journal h.polys h.working h.why

-- a stop that is no want of memory halts so
abbrev pub StopsSo : {R E : Type 0} → (Halted E → Type 0) → Stop R E → Type 0
StopsSo P (Incomplete h) = P h
StopsSo P NoMemory = ⊤

-- The same as contracts name it, of a ring and an order: `ops`, `is_element`, `too_high` and `cmp` are theirs.

-- the algorithm halts on the polynomials given
abbrev pub HaltsOn : {R E O : Type 0} → (R → RingOps E) → (R → E → Bool) → (R → RingOp → E → E → ℕ → ℕ → Type 0) → (O → List ℕ → List ℕ → Ordering) → PolyRing R E → O → List (Polynomial E) → Budget → Budget → Stop R E → Type 0
HaltsOn ops is_element too_high cmp ring order given before after stop = StopsSo (Halts (ops ring.coeffs) (is_element ring.coeffs) (too_high ring.coeffs) ring.vars (cmp order) given before after) stop
