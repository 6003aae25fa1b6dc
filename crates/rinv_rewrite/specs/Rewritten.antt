-- What the rewriting of an invariant is given and gives, by the ring and the generators that it has.
--   AreTermsOf, AreTailTerms                     terms in Z, each with its coefficient worked out
--   IsInZ, IsLeadPoly, IsRelationPoly, IsCoefficientAt    polynomials in Z
--   AreSymbolDivisors, IsReadyBasis              relations that are made ready
--   IsGreatest, IsExact, IsTakenFrom             what is answered
--   AnswersBy, AnswersOrStops, StopsSoFor, StopsInTest        answers by whatever relations these are, and stops
use Rattle.std.specs.Prelude.{◌≡◌, ℕ, List, [], ◌∷◌, length, map, Option, MatchOption, Result, ⊤}
use Rattle.std.specs.Result.{MatchResult}
use Rattle.rinv_algebra.specs.Ring.{IsSame}
use Rattle.rinv_algebra.specs.Residue.{residue_ops}
use Rattle.rinv_algebra.specs.Order.{grevlex}
use Rattle.rinv_algebra.specs.Polynomial.{coefficient, poly_ops}
use Rattle.rinv_ring.specs.Fault.{DegreesMeet}
use Rattle.rinv_ring.specs.declared.fault.RingFault.{RingFault}
use Rattle.rinv_poly.specs.Faults.{AreWorkedOut}
use Rattle.rinv_div.specs.Divisors.{AreDivisors}
use Rattle.rinv_defs.specs.System.{System, Poly, space_count}
use Rattle.rinv_defs.specs.Invariant.{Fraction}
use Rattle.rinv_defs.specs.Extended.{Vanishes}
use Rattle.rinv_defs.specs.Generators.{Denotes, Expression}
use Rattle.rinv_soundness.specs.Rewriting.{SymbolPoly, SymbolRelation, in_z, symbol_of, symbol_poly}
use Rattle.rinv_coefficients.specs.Ties.{TiedRelation, with_symbols}
use Rattle.rinv_laws.specs.declared.group.GroupBasis.{GroupBasis}
use Rattle.rinv_gens.specs.declared.kinds.Symbol.{Symbol}
use Rattle.rinv_gens.specs.declared.kinds.Findings.{Findings}
use Rattle.rinv_gens.specs.Symbols.{tied_of}
use Rattle.rinv_rewrite.specs.declared.basis.SymbolBasis.{SymbolBasis}
use Rattle.rinv_rewrite.specs.declared.stop.RewriteStop.{RewriteStop}
use Rattle.rinv_rewrite.specs.Answers.{IsAnswer}
use Rattle.rinv_rewrite.specs.Needed.{ExpressingMeets}
use Rattle.rinv_rewrite.specs.Prepared.{IsReady, symbol_relations}
use Rattle.rinv_rewrite.specs.Stops.{RewriteStopsSo}
use Rattle.rinv_rewrite.specs.Symbols.{AreTied, is_symbolic}
use Rattle.rinv_rewrite.specs.Taken.{DenominatorVanishes, HasNoValue, IsGreatestWithValue, IsTaken}

-- ---- polynomials in Z

-- the terms are those of f, over the polynomials in k symbols, each coefficient worked out
abbrev pub AreTermsOf : (p k : ℕ) → (f terms : SymbolPoly) → Type 0
AreTermsOf p k f terms = AreWorkedOut (poly_ops (residue_ops p)) (is_symbolic p k) f terms

-- they are those of a tail, with symbols for what these are tied to
abbrev pub AreTailTerms : (p k : ℕ) → List (List ℕ × Symbol) → SymbolPoly → Type 0
AreTailTerms p k tail terms = AreWorkedOut (poly_ops (residue_ops p)) (is_symbolic p k) (map (λ t. (t.0, symbol_of p (tied_of t.1))) tail) terms

-- g is f, put in Z
abbrev pub IsInZ : ℕ → Poly → SymbolPoly → Type 0
IsInZ p f g = IsSame (poly_ops (poly_ops (residue_ops p))) g (in_z p f)

-- g is the monomial Z^a
abbrev pub IsLeadPoly : ℕ → List ℕ → SymbolPoly → Type 0
IsLeadPoly p a g = IsSame (poly_ops (poly_ops (residue_ops p))) g ((a, (poly_ops (residue_ops p)).one) ∷ [])

-- g is the relation with symbols, as a polynomial
abbrev pub IsRelationPoly : ℕ → TiedRelation → SymbolPoly → Type 0
IsRelationPoly p r g = IsSame (poly_ops (poly_ops (residue_ops p))) g (symbol_poly p (with_symbols p r))

-- c is the coefficient of f at a monomial
abbrev pub IsCoefficientAt : ℕ → SymbolPoly → List ℕ → Poly → Type 0
IsCoefficientAt p f m c = IsSame (poly_ops (residue_ops p)) c (coefficient (poly_ops (residue_ops p)) f m)

-- the basis has its divisors, in n variables Z over the polynomials in k symbols
abbrev pub AreSymbolDivisors : (p k n : ℕ) → SymbolBasis → Type 0
AreSymbolDivisors p k n b = AreDivisors (poly_ops (residue_ops p)) (is_symbolic p k) n grevlex b.polys.items b.divisors.list.items

-- it has some relations over a symbol for each fraction, made ready
abbrev pub IsReadyBasis : System → List Fraction → SymbolBasis → Type 0
IsReadyBasis s cs basis = (ts : List TiedRelation) × IsReady s.p (length cs) (space_count s) ts basis

-- ---- answers

-- the greatest monomial at which the rest has a value, or that there is none
abbrev pub IsGreatest : ℕ → List Fraction → SymbolPoly → Option (List ℕ) → Type 0
IsGreatest p cs rest o = MatchOption o (HasNoValue p cs rest) (IsGreatestWithValue p cs rest)

-- an expression that denotes the fraction, whose denominator then does not vanish, or that this does
abbrev pub IsExact : System → List Fraction → Fraction → Option Expression → Type 0
IsExact s cs f r = MatchOption r (DenominatorVanishes s f) (λ e. ¬ (Vanishes s f.1) × Denotes s.p cs e f)

-- an expression is the one that the relations give that were found
abbrev pub IsTakenFrom : System → Findings → Fraction → Option Expression → Type 0
IsTakenFrom s found f r = MatchOption r ⊤ (IsTaken s found.fractions.items (symbol_relations s.p found.relations.items) f)

-- a stop is one by what was found
abbrev pub StopsSoFor : System → Findings → Fraction → RewriteStop → Type 0
StopsSoFor s found f stop = RewriteStopsSo s found.group.basis found.fractions.items (symbol_relations s.p found.relations.items) f stop

-- whichever relations that are tied to the fractions the basis has, the result is the answer by them; or degrees are met
abbrev pub AnswersBy : Result (Option Expression) RingFault → System → List Fraction → SymbolBasis → Fraction → Type 0
AnswersBy result s cs basis f =
    (ts : List TiedRelation) → AreTied s cs ts → IsReady s.p (length cs) (space_count s) ts basis
    → MatchResult result (IsAnswer s cs (symbol_relations s.p ts) f) (DegreesMeet (ExpressingMeets s cs (symbol_relations s.p ts) f))

-- so it is, or the stop is one by them
abbrev pub AnswersOrStops : Result (Option Expression) RewriteStop → System → GroupBasis → List Fraction → SymbolBasis → Fraction → Type 0
AnswersOrStops result s group cs basis f =
    (ts : List TiedRelation) → AreTied s cs ts → IsReady s.p (length cs) (space_count s) ts basis
    → MatchResult result (IsAnswer s cs (symbol_relations s.p ts) f) (RewriteStopsSo s group.basis cs (symbol_relations s.p ts) f)

-- a stop is one of the test of invariance, whatever the relations
abbrev pub StopsInTest : System → GroupBasis → List Fraction → List SymbolRelation → Fraction → RewriteStop → Type 0
StopsInTest s group cs qs f stop = RewriteStopsSo s group.basis cs qs f stop
