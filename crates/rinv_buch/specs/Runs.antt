-- What becomes of a pair, and a run of the algorithm between two pairs.
use Rattle.rinv_algebra.specs.Normal.{IsNormal}
use Rattle.std.specs.Prelude.{◌≡◌, ℕ, ◌+◌, ◌<◌, ◌≤◌, ◌⊎◌, Bool, true, false, List, [], ◌∷◌, ◌++◌, length, get_or, map, IsTrue, IsFalse, ⊤, All, Result, IfOk, IfErr}
use Rattle.std.specs.declared.cmp.Ordering.{Ordering}
use Rattle.rinv_algebra.specs.Ring.{RingOps}
use Rattle.rinv_algebra.specs.Polynomial.{Polynomial, is_zero}
use Rattle.rinv_algebra.specs.Monomial.{total_degree, max_degree}
use Rattle.rinv_algebra.specs.Leading.{leading_monomial, s_polynomial}
use Rattle.rinv_groebner.specs.Division.{IsIrreducible}
use Rattle.rinv_groebner.specs.Settled.{AreCoprime, HasChain, is_listed, lcm_at}
use Rattle.rinv_groebner.specs.Sparing.{IsReduced, HasNoChain, IsSparing}
use Rattle.rinv_pairs.specs.Pairs.{Pairs, HasThird, is_taken, pairs_among}
use Rattle.rinv_groebner.specs.Journal.{Entry, Journal, IsOpen, IsEntry, LeavesRest, pairs_of}
use Rattle.rinv_ring.specs.Operation.{RingOp}
use Rattle.rinv_div.specs.declared.budget.Budget.{Budget}
use Rattle.rinv_div.specs.Budgets.{Spends}
use Rattle.rinv_div.specs.Stops.{RunsOut, MeetsDegree}
use Rattle.rinv_buch.specs.declared.settling.Outcome.{Outcome}
use Rattle.rinv_buch.specs.declared.settling.Outcome.TheVariants.{Coprime, Chain, Reduced}
use Rattle.rinv_buch.specs.declared.run.Run.{Run}
use Rattle.rinv_buch.specs.Kinds.{journal_of}
use Rattle.rinv_buch.specs.Causes.{SPolynomialMeets}
use Rattle.rinv_buch.specs.Elements.{ArePrepared}
use Rattle.rinv_poly.specs.declared.polynomial_ring.PolyRing.{PolyRing}
use Rattle.rinv_pairs.specs.declared.queue.Pair.{Pair}
use Rattle.rinv_div.specs.Stops.{StopsBy}
use Rattle.rinv_div.specs.declared.stop.DivStop.{DivStop}
use Rattle.rinv_buch.specs.Spent.{SpendsBoth, SpendsOn}
use Rattle.rinv_buch.specs.Causes.{Halts, StopsSo}
use Rattle.rinv_buch.specs.Halting.{HaltsAfter}
use Rattle.rinv_buch.specs.declared.elements.Elements.{Elements}
use Rattle.rinv_buch.specs.declared.kinds.Stop.{Stop}

-- the rest of a pair has a property
abbrev pub SettlesWith : {R E : Type 0} → (Polynomial E → Type 0) → Outcome R E → Type 0
SettlesWith P Coprime = ⊤
SettlesWith P (Chain by) = ⊤
SettlesWith P (Reduced rest steps) = P rest

-- the steps of a pair
abbrev pub steps_with : {R E : Type 0} → Outcome R E → ℕ
steps_with Coprime = 0
steps_with (Chain by) = 0
steps_with (Reduced rest steps) = steps

-- a third element settles the pair of two places, or its S-polynomial was divided and there is none
abbrev pub SettlesBy : {R E O : Type 0} → Pairs O → ℕ → ℕ → Outcome R E → Type 0
SettlesBy q i j Coprime = ⊤
SettlesBy q i j (Chain by) = HasThird q i j by
SettlesBy q i j (Reduced rest steps) = (by : ℕ) → HasThird q i j by → ⊥

module _ {E : Type 0} (o : RingOps E) (cmp : List ℕ → List ℕ → Ordering) where
  -- the same by the journal
  abbrev pub SettlesByThird : {R : Type 0} → List Entry → List (Polynomial E) → ℕ → ℕ → Outcome R E → Type 0
  SettlesByThird journal list i j Coprime = ⊤
  SettlesByThird journal list i j (Chain by) = HasChain o cmp list (pairs_of journal) i j by
  SettlesByThird journal list i j (Reduced rest steps) = HasNoChain o cmp journal list i j

  -- the S-polynomial of the elements at two places
  abbrev pub s_at : List (Polynomial E) → ℕ → ℕ → Polynomial E
  s_at list i j = s_polynomial o cmp (get_or list i []) (get_or list j [])

  -- what became of the pair of two places
  abbrev pub Settles : {R : Type 0} → List (Polynomial E) → ℕ → ℕ → Outcome R E → Type 0
  Settles list i j Coprime = AreCoprime o cmp list i j
  Settles list i j (Chain by) = ⊤
  Settles list i j (Reduced rest steps) = LeavesRest o cmp list i j steps rest

  -- the division of its S-polynomial stops for want of steps
  pub record RunsOutAt (list : List (Polynomial E)) (i j : ℕ) (before after : Budget) (working : Polynomial E) : Type 0 where
    pub not_coprime : AreCoprime o cmp list i j → ⊥
    pub runs_out : RunsOut o cmp list (s_at list i j) before after working

  -- to the list is added a polynomial that is not zero and has no monomial that can be cancelled
  pub record Grows (list more : List (Polynomial E)) : Type 0 where
    pub rest : Polynomial E
    pub nonzero : IsFalse (is_zero o rest)
    pub irreducible : IsIrreducible o cmp list rest
    pub whole : more ≡ list ++ rest ∷ []

  -- it grows so, or stays
  abbrev pub GrowsIf : Bool → List (Polynomial E) → List (Polynomial E) → Type 0
  GrowsIf true list more = Grows list more
  GrowsIf false list more = more ≡ list

  -- no least common multiple of two leading monomials is over the limit on degrees
  abbrev pub AreLow : List (Polynomial E) → Type 0
  AreLow list = (i j : ℕ) → i < j → j < length list → total_degree (lcm_at o cmp list i j) ≤ max_degree

-- making the S-polynomial of the pair may answer these degrees and nothing is at work, or the division of it stops at them
pub record MeetsDegreeAt {E : Type 0} (o : RingOps E) (is_element : E → Bool) (too_high : RingOp → E → E → ℕ → ℕ → Type 0) (v : ℕ) (cmp : List ℕ → List ℕ → Ordering) (list : List (Polynomial E)) (i j : ℕ) (before after : Budget) (x y : ℕ) (working : Polynomial E) : Type 0 where
  pub not_coprime : AreCoprime o cmp list i j → ⊥
  pub meets : (IsTrue (is_zero o working) × Spends 0 before after × SPolynomialMeets o is_element too_high v cmp (get_or list i []) (get_or list j []) x y)
      ⊎ MeetsDegree o cmp list (s_at o cmp list i j) is_element too_high before after x y working

-- the pairs that were taken from the queue are these, and those that wait are the others
pub record AreTaken {O : Type 0} (pairs : List (ℕ × ℕ)) (q : Pairs O) : Type 0 where
  pub taken : (a b : ℕ) → is_taken q a b ≡ is_listed pairs a b
  pub count : length pairs + length q.waiting ≡ pairs_among (length q.leads)

-- the queue has the elements of the run; the pairs that were taken are those of the journal, which makes the list; no pair is too high,
-- and no S-polynomial was divided where a third element settles the pair
pub record IsRun {R E S : Type 0} (o : RingOps E) (is_element : E → Bool) (v : ℕ) (cmp : List ℕ → List ℕ → Ordering) (given : List (Polynomial E)) (queue : Pairs S) (run : Run R E) : Type 0 where
  pub prepared : ArePrepared o is_element v cmp run.elements
  pub journal : Journal o cmp given (journal_of run.journal.items) run.elements.polys.items
  pub sparing : IsSparing o cmp given (journal_of run.journal.items)
  pub leads : queue.leads ≡ map (leading_monomial o cmp) run.elements.polys.items
  pub taken : AreTaken (pairs_of (journal_of run.journal.items)) queue
  pub low : AreLow o cmp run.elements.polys.items

-- an entry for the pair is appended to the journal, and the list is what it makes of it; where the S-polynomial was divided, no third
-- element settles the pair
pub record Enters {R E : Type 0} (o : RingOps E) (is_element : E → Bool) (v : ℕ) (cmp : List ℕ → List ℕ → Ordering) (i j count : ℕ) (before after : Run R E) : Type 0 where
  pub entry : Entry
  pub first : entry.first ≡ i
  pub second : entry.second ≡ j
  pub steps : entry.steps ≡ count
  pub is_entry : IsEntry o cmp (journal_of before.journal.items) before.elements.polys.items entry after.elements.polys.items
  pub sparing : IsReduced entry.kind → HasNoChain o cmp (journal_of before.journal.items) before.elements.polys.items i j
  pub journal : journal_of after.journal.items ≡ journal_of before.journal.items ++ entry ∷ []
  pub prepared : ArePrepared o is_element v cmp after.elements

-- the pair was taken from the queue, and has no entry yet
pub record IsTaking {R E S : Type 0} (o : RingOps E) (is_element : E → Bool) (v : ℕ) (cmp : List ℕ → List ℕ → Ordering) (i j : ℕ) (run : Run R E) (queue : Pairs S) : Type 0 where
  pub prepared : ArePrepared o is_element v cmp run.elements
  pub leads : queue.leads ≡ map (leading_monomial o cmp) run.elements.polys.items
  pub taken : AreTaken (pairs_of (journal_of run.journal.items) ++ (i, j) ∷ []) queue
  pub low : AreLow o cmp run.elements.polys.items
  pub open_pair : IsOpen o cmp (journal_of run.journal.items) run.elements.polys.items i j

-- an entry of so many steps is appended to the journal; the list stays or grows, and the pairs that were taken are those of the journal
pub record Turns {R E S : Type 0} (o : RingOps E) (cmp : List ℕ → List ℕ → Ordering) (count : ℕ) (before : Run R E) (queue : Pairs S) (after : Run R E) (queue_after : Pairs S) : Type 0 where
  pub entry : Entry
  pub steps : entry.steps ≡ count
  pub journal : journal_of after.journal.items ≡ journal_of before.journal.items ++ entry ∷ []
  pub polys : (after.elements.polys.items ≡ before.elements.polys.items) ⊎ Grows o cmp before.elements.polys.items after.elements.polys.items
  pub taken : AreTaken (pairs_of (journal_of after.journal.items)) queue_after
  pub order : queue_after.order ≡ queue.order

-- The same as contracts name it, of a ring and an order: `ops`, `is_element`, `too_high` and `cmp` are theirs.

-- a run on the polynomials given
abbrev pub IsRunOn : {R E O S : Type 0} → (R → RingOps E) → (R → E → Bool) → (O → List ℕ → List ℕ → Ordering) → PolyRing R E → O → List (Polynomial E) → Pairs S → Run R E → Type 0
IsRunOn ops is_element cmp ring order given queue run = IsRun (ops ring.coeffs) (is_element ring.coeffs) ring.vars (cmp order) given queue run

-- the pair was taken from the queue, and has no entry yet
abbrev pub TakesPair : {R E O S : Type 0} → (R → RingOps E) → (R → E → Bool) → (O → List ℕ → List ℕ → Ordering) → PolyRing R E → O → Pair → Run R E → Pairs S → Type 0
TakesPair ops is_element cmp ring order pair run queue = IsTaking (ops ring.coeffs) (is_element ring.coeffs) ring.vars (cmp order) pair.first pair.second run queue

-- the pair has no entry yet
abbrev pub IsOpenIn : {R E O : Type 0} → (R → RingOps E) → (O → List ℕ → List ℕ → Ordering) → PolyRing R E → O → Run R E → Pair → Type 0
IsOpenIn ops cmp ring order run pair = IsOpen (ops ring.coeffs) (cmp order) (journal_of run.journal.items) run.elements.polys.items pair.first pair.second

-- what became of the pair
abbrev pub SettlesPair : {R E O : Type 0} → (R → RingOps E) → (O → List ℕ → List ℕ → Ordering) → PolyRing R E → O → Elements R E → Pair → Outcome R E → Type 0
SettlesPair ops cmp ring order es pair outcome = Settles (ops ring.coeffs) (cmp order) es.polys.items pair.first pair.second outcome

-- a third element settles it, or there is none
abbrev pub SettlesIn : {R E O : Type 0} → (R → RingOps E) → (O → List ℕ → List ℕ → Ordering) → PolyRing R E → O → Run R E → Pair → Outcome R E → Type 0
SettlesIn ops cmp ring order run pair outcome = SettlesByThird (ops ring.coeffs) (cmp order) (journal_of run.journal.items) run.elements.polys.items pair.first pair.second outcome

-- no third element settles the pair
abbrev pub HasNoThird : {S : Type 0} → Pairs S → Pair → Type 0
HasNoThird queue pair = (by : ℕ) → HasThird queue pair.first pair.second by → ⊥

-- settling the pair stops: for want of steps, or at a degree
abbrev pub StopsAt : {R E O : Type 0} → (R → RingOps E) → (R → E → Bool) → (R → RingOp → E → E → ℕ → ℕ → Type 0) → (O → List ℕ → List ℕ → Ordering) → PolyRing R E → O → Elements R E → Pair → Budget → Budget → DivStop R E → Type 0
StopsAt ops is_element too_high cmp ring order es pair before after stop = StopsBy (RunsOutAt (ops ring.coeffs) (cmp order) es.polys.items pair.first pair.second before after) (MeetsDegreeAt (ops ring.coeffs) (is_element ring.coeffs) (too_high ring.coeffs) ring.vars (cmp order) es.polys.items pair.first pair.second before after) stop

-- an entry for the pair is appended
abbrev pub EntersPair : {R E O : Type 0} → (R → RingOps E) → (R → E → Bool) → (O → List ℕ → List ℕ → Ordering) → PolyRing R E → O → Pair → Outcome R E → Run R E → Run R E → Type 0
EntersPair ops is_element cmp ring order pair outcome before after = Enters (ops ring.coeffs) (is_element ring.coeffs) ring.vars (cmp order) pair.first pair.second (steps_with outcome) before after

-- the list grows, or stays
abbrev pub GrowsWhere : {R E O : Type 0} → (R → RingOps E) → (O → List ℕ → List ℕ → Ordering) → PolyRing R E → O → Run R E → Run R E → Bool → Type 0
GrowsWhere ops cmp ring order before after grown = GrowsIf (ops ring.coeffs) (cmp order) grown before.elements.polys.items after.elements.polys.items

-- a turn, by what became of its pair
abbrev pub TurnsBy : {R E O S : Type 0} → (R → RingOps E) → (O → List ℕ → List ℕ → Ordering) → PolyRing R E → O → Outcome R E → Run R E → Pairs S → Pairs S → Run R E → Type 0
TurnsBy ops cmp ring order outcome before queue queue_after after = Turns (ops ring.coeffs) (cmp order) (steps_with outcome) before queue after queue_after

-- a turn, which spends a pair
abbrev pub TurnsOnce : {R E O S : Type 0} → (R → RingOps E) → (O → List ℕ → List ℕ → Ordering) → PolyRing R E → O → Budget → Budget → Run R E → Pairs S → Pairs S → Run R E → Type 0
TurnsOnce ops cmp ring order spent spent_after before queue queue_after after = (count : ℕ) × SpendsBoth 1 count spent spent_after × Turns (ops ring.coeffs) (cmp order) count before queue after queue_after

-- on whatever was given the run was, its result is a run
abbrev pub RunsOn : {R E O S : Type 0} → (R → RingOps E) → (R → E → Bool) → (O → List ℕ → List ℕ → Ordering) → PolyRing R E → O → Run R E → Pairs S → Result (Run R E) (Stop R E) → Type 0
RunsOn {E = E} ops is_element cmp ring order run queue result =
    (given : List (Polynomial E)) → All (IsNormal (ops ring.coeffs) (is_element ring.coeffs) ring.vars) given → Journal (ops ring.coeffs) (cmp order) given (journal_of run.journal.items) run.elements.polys.items → IsSparing (ops ring.coeffs) (cmp order) given (journal_of run.journal.items) → IfOk result (IsRun (ops ring.coeffs) (is_element ring.coeffs) ring.vars (cmp order) given queue)

-- or the algorithm halts on it
abbrev pub HaltsTurn : {R E O : Type 0} → (R → RingOps E) → (R → E → Bool) → (R → RingOp → E → E → ℕ → ℕ → Type 0) → (O → List ℕ → List ℕ → Ordering) → PolyRing R E → O → Run R E → Budget → Budget → Result (Run R E) (Stop R E) → Type 0
HaltsTurn {E = E} ops is_element too_high cmp ring order run spent spent_after result =
    (given : List (Polynomial E)) (start : Budget) → All (IsNormal (ops ring.coeffs) (is_element ring.coeffs) ring.vars) given → Journal (ops ring.coeffs) (cmp order) given (journal_of run.journal.items) run.elements.polys.items → IsSparing (ops ring.coeffs) (cmp order) given (journal_of run.journal.items) → SpendsOn (journal_of run.journal.items) 0 start spent → IfErr result (StopsSo (Halts (ops ring.coeffs) (is_element ring.coeffs) (too_high ring.coeffs) ring.vars (cmp order) given start spent_after))

-- or halts after the entry of the pair
abbrev pub HaltsEntered : {R E O : Type 0} → (R → RingOps E) → (R → E → Bool) → (O → List ℕ → List ℕ → Ordering) → PolyRing R E → O → Run R E → Outcome R E → Result (Run R E) (Stop R E) → Type 0
HaltsEntered {E = E} ops is_element cmp ring order run outcome result =
    (given : List (Polynomial E)) → All (IsNormal (ops ring.coeffs) (is_element ring.coeffs) ring.vars) given → Journal (ops ring.coeffs) (cmp order) given (journal_of run.journal.items) run.elements.polys.items → IsSparing (ops ring.coeffs) (cmp order) given (journal_of run.journal.items) → IfErr result (StopsSo (HaltsAfter (ops ring.coeffs) (cmp order) given (journal_of run.journal.items) (steps_with outcome)))
