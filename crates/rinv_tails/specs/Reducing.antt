-- The reduction of tails, with the fractions that it makes, over the residues modulo p in v variables.
--   IsNextTerm               the greatest term that a lead divides, and the first relation whose lead does
--   IsAdded, AreAdded        a term, or a multiple of a tail, was added
--   Reduces                  such steps, one after another
--   AreReducedSoFar          relations, each reduced by those before it
--   StepMeets, TailsMeet     the degrees that a step, and the reduction, may answer
use Rattle.std.specs.Prelude.{◌≡◌, ◌<◌, ◌⊎◌, ℕ, List, [], ◌∷◌, ◌++◌, length, take, get_or, Contains, IsTrue, IsFalse}
use Rattle.rinv_algebra.specs.Residue.{residue_ops}
use Rattle.rinv_algebra.specs.Monomial.{monomial_product, quotient, divides}
use Rattle.rinv_algebra.specs.Polynomial.{is_zero}
use Rattle.rinv_ring.specs.Operation.{multiplies, adds}
use Rattle.rinv_defs.specs.Invariant.{Fraction}
use Rattle.rinv_defs.specs.Extended.{Relation, FractionPoly, is_reducible}
use Rattle.rinv_frac.specs.Arithmetic.{IsSum, IsProduct}
use Rattle.rinv_frac.specs.Faults.{fractions_meet}
use Rattle.rinv_tails.specs.Stored.{IsTail, none}

module _ (p v : ℕ) where
  -- the greatest term of f that a lead divides, and the first relation whose lead divides it
  pub record IsNextTerm (rs : List Relation) (f : FractionPoly) (t : List ℕ × Fraction) (place : ℕ) : Type 0 where
    pub before : FractionPoly
    pub after : FractionPoly
    pub stands : f ≡ before ++ t ∷ after
    pub greatest : (u : List ℕ × Fraction) → Contains before u → IsFalse (is_reducible rs u.0)
    pub inside : place < length rs
    pub divided : IsTrue (divides (get_or rs place none).lead t.0)
    pub first : (j : ℕ) → j < place → IsFalse (divides (get_or rs j none).lead t.0)

  -- g is f with the fraction c added at the monomial m: where f has m, the sum as it is made, unless it is zero
  pub data IsAdded (m : List ℕ) (c : Fraction) (f : FractionPoly) : FractionPoly → Type 0 where
    new : (before after : FractionPoly) → f ≡ before ++ after → IsTail p v (before ++ (m, c) ∷ after) → IsAdded m c f (before ++ (m, c) ∷ after)
    summed : (before after : FractionPoly) (d e : Fraction) → f ≡ before ++ (m, d) ∷ after → IsSum (residue_ops p) d c e → IsFalse (is_zero (residue_ops p) e.0) → IsAdded m c f (before ++ (m, e) ∷ after)
    cancelled : (before after : FractionPoly) (d e : Fraction) → f ≡ before ++ (m, d) ∷ after → IsSum (residue_ops p) d c e → IsTrue (is_zero (residue_ops p) e.0) → IsAdded m c f (before ++ after)

  -- so it is, and g is a tail
  pub record AddsTerm (m : List ℕ) (c : Fraction) (f g : FractionPoly) : Type 0 where
    pub added : IsAdded m c f g
    pub tail : IsTail p v g

  -- adding c at m meets these degrees in the sum with the coefficient that is there
  abbrev pub AddingMeets : List ℕ → Fraction → FractionPoly → ℕ → ℕ → Type 0
  AddingMeets m c f x y = (there : Fraction) × Contains f (m, there) × fractions_meet (residue_ops p) adds there c x y

  -- Z^n times c times the terms of a tail was added to f, term by term: the products as they are made
  pub data AreAdded (n : List ℕ) (c : Fraction) (f : FractionPoly) : FractionPoly → FractionPoly → Type 0 where
    start : AreAdded n c f [] f
    next : (terms : FractionPoly) (t : List ℕ × Fraction) (g h : FractionPoly) (d : Fraction) →
        AreAdded n c f terms g → IsProduct (residue_ops p) c t.1 d → IsAdded (monomial_product n t.0) d g h → AreAdded n c f (terms ++ t ∷ []) h

  -- these steps, in turn, take the tail f to g: the next term is taken away, and its multiple of the relation's tail added
  pub data Reduces (rs : List Relation) (f : FractionPoly) : FractionPoly → Type 0 where
    begin : Reduces rs f f
    step : (g h : FractionPoly) (t : List ℕ × Fraction) (place : ℕ) (next : IsNextTerm rs g t place) → Reduces rs f g
        → AreAdded (quotient t.0 (get_or rs place none).lead) t.1 (next.before ++ next.after) (get_or rs place none).tail h → Reduces rs f h

  -- adding c*Z^n times the terms of a tail to f meets these degrees: in the product of c with a coefficient of the tail, after some terms
  -- were added, or in the sum of this product with the coefficient that is there
  pub record MultipleMeets (n : List ℕ) (c : Fraction) (tail f : FractionPoly) (x y : ℕ) : Type 0 where
    pub added : FractionPoly
    pub factor : List ℕ × Fraction
    pub others : FractionPoly
    pub parts : tail ≡ added ++ factor ∷ others
    pub so_far : FractionPoly
    pub is_so_far : AreAdded n c f added so_far
    pub meets : fractions_meet (residue_ops p) multiplies c factor.1 x y
        ⊎ ((product : Fraction) × IsProduct (residue_ops p) c factor.1 product × AddingMeets (monomial_product n factor.0) product so_far x y)

  -- the next step meets these degrees, as the multiple of the relation's tail is added
  pub record StepMeets (rs : List Relation) (f : FractionPoly) (x y : ℕ) : Type 0 where
    pub term : List ℕ × Fraction
    pub place : ℕ
    pub next : IsNextTerm rs f term place
    pub meets : MultipleMeets (quotient term.0 (get_or rs place none).lead) term.1 (get_or rs place none).tail (next.before ++ next.after) x y

  -- the relations so far, each reduced by those before it, with the fractions that are made
  pub record AreReducedSoFar (rs qs : List Relation) : Type 0 where
    pub within : length qs < length rs ⊎ (length qs ≡ length rs)
    pub leads : (k : ℕ) → k < length qs → (get_or qs k none).lead ≡ (get_or rs k none).lead
    pub tails : (k : ℕ) → k < length qs → Reduces (take k qs) (get_or rs k none).tail (get_or qs k none).tail
    pub whole : (k : ℕ) → k < length qs → (u : List ℕ × Fraction) → Contains (get_or qs k none).tail u → IsFalse (is_reducible (take k qs) u.0)

  -- so it is at a step on a tail, after some steps
  pub record TailMeets (rs : List Relation) (f : FractionPoly) (x y : ℕ) : Type 0 where
    pub working : FractionPoly
    pub by_steps : Reduces rs f working
    pub meets : StepMeets rs working x y

  -- or at some tail, after the earlier ones
  pub record TailsMeet (rs : List Relation) (x y : ℕ) : Type 0 where
    pub reduced : List Relation
    pub before : length reduced < length rs
    pub so_far : AreReducedSoFar rs reduced
    pub meets : TailMeets reduced (get_or rs (length reduced) none).tail x y

-- the tail of a relation, times c and the monomial by which its lead goes into m, was added to f
abbrev pub AddsTail : (p v : ℕ) → List ℕ → Fraction → Relation → (f g : FractionPoly) → Type 0
AddsTail p v m c by f g = AreAdded p v (quotient m by.lead) c f by.tail g

-- the degrees that this meets
abbrev pub AddsMeet : (p v : ℕ) → List ℕ → Fraction → Relation → FractionPoly → ℕ → ℕ → Type 0
AddsMeet p v m c by f x y = MultipleMeets p v (quotient m by.lead) c by.tail f x y
