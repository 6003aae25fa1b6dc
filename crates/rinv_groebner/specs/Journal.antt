-- Journals of Buchberger's algorithm: what was done with which pair, in turn.
use Rattle.std.specs.Prelude.{◌≡◌, ℕ, ◌-◌, ◌^◌, ◌<◌, min, not, List, [], ◌∷◌, ◌++◌, map, filter, length, get_or, IsTrue, IsFalse, Option, Some, None}
use Rattle.std.specs.declared.cmp.Ordering.{Ordering}
use Rattle.rinv_algebra.specs.Ring.{RingOps}
use Rattle.rinv_algebra.specs.Polynomial.{Polynomial, is_zero}
use Rattle.rinv_algebra.specs.Leading.{s_polynomial}
use Rattle.rinv_groebner.specs.Division.{Step, AreSame, IsDivision, Steps}
use Rattle.rinv_groebner.specs.Settled.{is_listed, AreCoprime, HasChain, AreAllListed}

-- what became of a pair: its S-polynomial was divided, and the rest added at a place or zero; or nothing was to be done
pub data Kind : Type 0 where
  reduced : Option ℕ → Kind
  coprime : Kind
  chain : ℕ → Kind

-- an entry: two places, what became of their pair, and the number of steps that the division took
pub record Entry : Type 0 where
  pub first : ℕ
  pub second : ℕ
  pub kind : Kind
  pub steps : ℕ

-- the pairs of the entries
abbrev pub pairs_of : List Entry → List (ℕ × ℕ)
pairs_of journal = map (λ e. (e.first, e.second)) journal

-- a number of steps as an entry keeps it
abbrev pub kept_steps : ℕ → ℕ
kept_steps n = min n (2 ^ 64 - 1)

-- the polynomials that are not zero, in their order
abbrev pub nonzeros : {E : Type 0} → RingOps E → List (Polynomial E) → List (Polynomial E)
nonzeros o fs = filter (λ f. not (is_zero o f)) fs

module _ {E : Type 0} (o : RingOps E) (cmp : List ℕ → List ℕ → Ordering) where
  -- two places of the list, the first below the second, whose pair is in no entry
  pub record IsOpen (journal : List Entry) (list : List (Polynomial E)) (i j : ℕ) : Type 0 where
    pub ascending : i < j
    pub inside : j < length list
    pub fresh : IsFalse (is_listed (pairs_of journal) i j)

  -- division of the pair's S-polynomial by the list takes so many steps and leaves this rest; the pair is not coprime
  pub record LeavesRest (list : List (Polynomial E)) (i j count : ℕ) (rest : Polynomial E) : Type 0 where
    pub not_coprime : AreCoprime o cmp list i j → ⊥
    pub steps : List (Step E)
    pub division : IsDivision o cmp list (s_polynomial o cmp (get_or list i []) (get_or list j [])) steps rest
    pub counted : count ≡ kept_steps (length steps)

  -- what an entry of this kind makes of the list: a rest that is not zero is added at its end
  abbrev pub Makes : List Entry → List (Polynomial E) → ℕ → ℕ → ℕ → Kind → List (Polynomial E) → Type 0
  Makes journal list i j count (reduced None) made = (made ≡ list) × (rest : Polynomial E) × LeavesRest list i j count rest × IsTrue (is_zero o rest)
  Makes journal list i j count (reduced (Some at)) made = (at ≡ length list) × (rest : Polynomial E) × LeavesRest list i j count rest × IsFalse (is_zero o rest) × (made ≡ list ++ rest ∷ [])
  Makes journal list i j count coprime made = (made ≡ list) × AreCoprime o cmp list i j × (count ≡ 0)
  Makes journal list i j count (chain by) made = (made ≡ list) × HasChain o cmp list (pairs_of journal) i j by × (count ≡ 0)

  -- an entry after a journal takes an open pair
  pub record IsEntry (journal : List Entry) (list : List (Polynomial E)) (e : Entry) (made : List (Polynomial E)) : Type 0 where
    pub open_pair : IsOpen journal list e.first e.second
    pub makes : Makes journal list e.first e.second e.steps e.kind made

  -- the entries, taken in order from the nonzero polynomials given, make this list
  pub data Journal (given : List (Polynomial E)) : List Entry → List (Polynomial E) → Type 0 where
    begin : (list : List (Polynomial E)) → AreSame o list (nonzeros o given) → Journal given [] list
    enter : (journal : List Entry) (list : List (Polynomial E)) (e : Entry) (made : List (Polynomial E)) → Journal given journal list → IsEntry journal list e made → Journal given (journal ++ e ∷ []) made

  -- each pair of the list has its entry
  abbrev pub IsComplete : List Entry → List (Polynomial E) → Type 0
  IsComplete journal list = AreAllListed list (pairs_of journal)

  -- so many cancelling steps on the S-polynomial of an open pair that is not coprime leave this, or nothing is at work
  pub data IsAtWork (journal : List Entry) (list : List (Polynomial E)) : ℕ → Polynomial E → Type 0 where
    idle : (working : Polynomial E) → IsTrue (is_zero o working) → IsAtWork journal list 0 working
    dividing : (i j : ℕ) (steps : List (Step E)) (working : Polynomial E) → IsOpen journal list i j → (AreCoprime o cmp list i j → ⊥)
        → Steps o cmp list (s_polynomial o cmp (get_or list i []) (get_or list j [])) steps working → IsAtWork journal list (length steps) working
