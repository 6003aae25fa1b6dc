-- A pair that is taken from the queue of a run: it has no entry yet, and the pairs that were taken are those of the journal and this one.
use Rattle.std.proofs.Common.{◌≡◌, ℕ, ◌+◌, ◌<◌, min, max, Bool, true, false, ◌||◌, ◌&&◌, ◌==◌, List, [], ◌∷◌, ◌++◌, length, length-append, sym, ◌∙◌, ap, ap₂, arith}
use Rattle.std.specs.Prelude.{IsFalse, nat_lt, not}
use Rattle.std.specs.List.{list_any}
use Rattle.std.proofs.lemmas.Bool.Decides.{nat_tests}
use Rattle.std.proofs.lemmas.List.{length-map}
use Rattle.std.specs.declared.cmp.Ordering.{Ordering}
use Rattle.rinv_algebra.specs.Ring.{RingOps}
use Rattle.rinv_algebra.specs.Polynomial.{Polynomial}
use Rattle.rinv_algebra.specs.Leading.{leading_monomial}
use Rattle.rinv_groebner.specs.Settled.{is_listed}
use Rattle.rinv_groebner.specs.Journal.{Entry, pairs_of}
use Rattle.rinv_pairs.specs.Pairs.{Pairs, Takes, pairs_among}
use Rattle.rinv_buch.specs.declared.run.Run.{Run}
use Rattle.rinv_buch.specs.Kinds.{journal_of}
use Rattle.rinv_buch.specs.Runs.{AreTaken, IsRun, IsTaking}
use Rattle.rinv_buch.proofs.Thirds.{listed-one}

-- ---- tests

-- the pair that is taken no longer waits
taken-step : (i j n a b : ℕ) (left : Bool) → i < j → j < n → ((i == min a b && j == max a b) ≡ true → left ≡ false)
    → (nat_lt (min a b) (max a b) && (nat_lt (max a b) n && not left)) ≡ ((nat_lt (min a b) (max a b) && (nat_lt (max a b) n && not ((i == min a b && j == max a b) || left))) || (i == min a b && j == max a b))
taken-step i j n a b true low high once = grind (arith, nat_tests, low, high, once)
taken-step i j n a b false low high once = grind (arith, nat_tests, low, high, once)

-- while it waits, it was not taken
waits-step : (i j n : ℕ) (left : Bool) → i < j → (nat_lt (min i j) (max i j) && (nat_lt (max i j) n && not ((i == min i j && j == max i j) || left))) ≡ false
waits-step i j n left low = grind (arith, nat_tests, low)

listed-same : (ps : List (ℕ × ℕ)) (i j a b : ℕ) → i < j → (i == min a b && j == max a b) ≡ true → is_listed ps a b ≡ is_listed ps i j
listed-same ps i j a b low at =
    let least : min a b ≡ min i j = grind (arith, nat_tests, low, at) in
    let most : max a b ≡ max i j = grind (arith, nat_tests, low, at) in
    ap₂ (λ (x y : ℕ). list_any (λ (p : ℕ × ℕ). p.0 == x && p.1 == y) ps) least most

-- ---- queues

module _ {S : Type 0} (i j : ℕ) (pairs : List (ℕ × ℕ)) (before after : Pairs S) (taken : AreTaken pairs before) (takes : Takes i j before after) where
  -- what was taken before, by what waits after it
  was_taken : (a b : ℕ) → (nat_lt (min a b) (max a b) && (nat_lt (max a b) (length before.leads) && not ((i == min a b && j == max a b) || is_listed after.waiting a b))) ≡ is_listed pairs a b
  was_taken a b = sym (ap (λ (ws : List (ℕ × ℕ)). nat_lt (min a b) (max a b) && (nat_lt (max a b) (length before.leads) && not (is_listed ws a b))) takes.waited) ∙ taken.taken a b

  pub are_taken : AreTaken (pairs ++ (i, j) ∷ []) after
  are_taken = record {
    taken = λ a b.
        ap (λ (ms : List (List ℕ)). nat_lt (min a b) (max a b) && (nat_lt (max a b) (length ms) && not (is_listed after.waiting a b))) takes.leads
        ∙ taken-step i j (length before.leads) a b (is_listed after.waiting a b) takes.ascending takes.inside (λ at. listed-same after.waiting i j a b takes.ascending at ∙ takes.once)
        ∙ ap (λ (t : Bool). t || (i == min a b && j == max a b)) (was_taken a b) ∙ sym (listed-one pairs i j a b);
    count = omega (arith, taken.count, length-append pairs ((i, j) ∷ []), ap length takes.waited, ap (λ (ms : List (List ℕ)). pairs_among (length ms)) takes.leads);
  }

  -- it was not among them
  pub was_fresh : IsFalse (is_listed pairs i j)
  was_fresh = sym (was_taken i j) ∙ waits-step i j (length before.leads) (is_listed after.waiting i j) takes.ascending

  -- and so they are fewer than all pairs of the elements
  pub has_room : length pairs < pairs_among (length before.leads)
  has_room = omega (arith, taken.count, ap length takes.waited)

-- ---- runs

module _ {R E S : Type 0} (o : RingOps E) (is_element : E → Bool) (v : ℕ) (cmp : List ℕ → List ℕ → Ordering) (given : List (Polynomial E)) (i j : ℕ) (run : Run R E) (before after : Pairs S) (is_run : IsRun o is_element v cmp given before run) (takes : Takes i j before after) where
  number : length before.leads ≡ length run.elements.polys.items
  number = ap length is_run.leads ∙ length-map run.elements.polys.items (leading_monomial o cmp)

  pub is_taking : IsTaking o is_element v cmp i j run after
  is_taking = record {
    prepared = is_run.prepared;
    leads = takes.leads ∙ is_run.leads;
    taken = are_taken i j (pairs_of (journal_of run.journal.items)) before after is_run.taken takes;
    low = is_run.low;
    open_pair = record {
      ascending = takes.ascending;
      inside = omega (arith, takes.inside, number);
      fresh = was_fresh i j (pairs_of (journal_of run.journal.items)) before after is_run.taken takes;
    };
  }

  pub entries-fewer : length (journal_of run.journal.items) < pairs_among (length run.elements.polys.items)
  entries-fewer = omega (arith, has_room i j (pairs_of (journal_of run.journal.items)) before after is_run.taken takes, length-map {B = ℕ × ℕ} (journal_of run.journal.items) (λ (e : Entry). (e.first, e.second)), ap pairs_among number)
