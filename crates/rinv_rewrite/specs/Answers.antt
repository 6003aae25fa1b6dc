-- What is answered for an invariant: its expression, or that its denominator vanishes.
use Rattle.std.specs.Prelude.{ℕ, List, length, Option, Some, None}
use Rattle.rinv_frac.specs.Fractions.{IsStored}
use Rattle.rinv_defs.specs.System.{System, Poly}
use Rattle.rinv_defs.specs.Invariant.{Fraction}
use Rattle.rinv_defs.specs.Extended.{Vanishes}
use Rattle.rinv_defs.specs.Generators.{Expression, Denotes}
use Rattle.rinv_soundness.specs.Rewriting.{SymbolPoly, SymbolRelation}
use Rattle.rinv_rewrite.specs.Taken.{HasNoValue, IsChosen, IsTaken, DenominatorVanishes}

-- an expression that is chosen from two rests, as it is stored
pub record IsStoredChoice (p : ℕ) (cs : List Fraction) (a b : SymbolPoly) (e : Expression) : Type 0 where
  pub stored : IsStored p (length cs) e
  pub chosen : IsChosen p cs a b e

-- the expression of an invariant whose denominator does not vanish
pub record IsExpression (s : System) (cs : List Fraction) (qs : List SymbolRelation) (f : Fraction) (e : Expression) : Type 0 where
  pub lasts : ¬ (Vanishes s f.1)
  pub denotes : Denotes s.p cs e f
  pub stored : IsStored s.p (length cs) e
  pub taken : IsTaken s cs qs f e

-- what is chosen from two rests
abbrev pub IsChoice : ℕ → List Fraction → SymbolPoly → SymbolPoly → Option Expression → Type 0
IsChoice p cs a b None = HasNoValue p cs b
IsChoice p cs a b (Some e) = IsStoredChoice p cs a b e

-- what is answered
abbrev pub IsAnswer : System → List Fraction → List SymbolRelation → Fraction → Option Expression → Type 0
IsAnswer s cs qs f None = DenominatorVanishes s f
IsAnswer s cs qs f (Some e) = IsExpression s cs qs f e
