-- Why the algorithm halts, from the parts of a halt and what the calls say.
--   parts_stop           a stop whose parts have a property
--   halts-idle, halts-in_division, halts-high    a pair that may not be taken, a division that stopped, a pair that is too high
use Rattle.std.proofs.Common.{◌≡◌, ℕ, Bool, ◌≤◌, ◌<◌, false, List, [], ◌∷◌, ◌++◌, length, map, sym, ap, ap₂, subst, subst₂, inl, inr, arith, IsTrue}
use Rattle.std.specs.Prelude.{IsFalse, Option, Some, None, cond}
use Rattle.std.specs.declared.cmp.Ordering.{Ordering}
use Rattle.rinv_algebra.specs.Ring.{RingOps, RingLaws}
use Rattle.rinv_algebra.specs.Polynomial.{Polynomial, is_zero}
use Rattle.rinv_algebra.specs.Leading.{leading_monomial}
use Rattle.rinv_algebra.proofs.Degrees.{is_zero-false}
use Rattle.rinv_groebner.specs.Settled.{is_listed}
use Rattle.rinv_groebner.specs.Journal.{Entry, pairs_of, IsOpen, Journal}
use Rattle.rinv_groebner.specs.Sparing.{HasNoChain, IsSparing, IsAtWorkOn}
use Rattle.rinv_ring.specs.Operation.{RingOp}
use Rattle.rinv_mono.specs.declared.fault.MonoFault.{MonoFault}
use Rattle.rinv_mono.specs.declared.fault.MonoFault.TheVariants.{Degree as HighDegree, NoMemory as NoRoom}
use Rattle.rinv_pairs.specs.High.{IsFirstHigh}
use Rattle.rinv_div.specs.declared.budget.Budget.{Budget}
use Rattle.rinv_div.specs.declared.stop.DivStop.{DivStop}
use Rattle.rinv_div.specs.declared.stop.DivStop.TheVariants.{Steps as StepsStop, Degree as DegreeStop, NoMemory as MemoryStop}
use Rattle.rinv_div.specs.Stops.{StopsBy}
use Rattle.rinv_buch.specs.declared.kinds.Why.{Why}
use Rattle.rinv_buch.specs.declared.kinds.Why.TheVariants.{Pairs, Steps, Degree}
use Rattle.rinv_buch.specs.declared.kinds.Stop.{Stop}
use Rattle.rinv_buch.specs.declared.kinds.Stop.TheVariants.{Incomplete, NoMemory}
use Rattle.rinv_buch.specs.Kinds.{Halted}
use Rattle.rinv_buch.specs.Spent.{IsKept, SpendsOn}
use Rattle.rinv_buch.specs.Causes.{HasPairLeft, DegreeCause, IsCause, Halts, StopsSo}
use Rattle.rinv_buch.specs.Halting.{HasParts, IsOfFault, IsOfStop, IsHighPair, HaltsAtStart, HaltsAfter}
use Rattle.rinv_buch.specs.Runs.{RunsOutAt, MeetsDegreeAt}
use Rattle.rinv_buch.proofs.SpentTogether.{spends-steps, pair-left}
use Rattle.rinv_buch.proofs.RunsOfPairs.{first-meets}

module _ {E : Type 0} where
  abbrev pub halt : List (Polynomial E) → List Entry → Polynomial E → Option (ℕ × ℕ) → Why → Halted E
  halt list journal f p why = record { polys = list; journal = journal; working = f; origin = p; why = why }

  -- a weaker property
  stop-weaker : {R : Type 0} (P Q : Halted E → Type 0) → ((h : Halted E) → P h → Q h) → (s : Stop R E) → StopsSo P s → StopsSo Q s
  stop-weaker P Q k (Incomplete h) p = k h p
  stop-weaker P Q k NoMemory p = tt

  -- what holds of a halt with these parts
  pub parts-stop : {R : Type 0} (P : Halted E → Type 0) (list : List (Polynomial E)) (journal : List Entry) (Q : Polynomial E → Option (ℕ × ℕ) → Why → Type 0) → ((f : Polynomial E) (p : Option (ℕ × ℕ)) (y : Why) → Q f p y → P (halt list journal f p y)) → (s : Stop R E) → StopsSo (HasParts list journal Q) s → StopsSo P s
  parts-stop P list journal Q k s p =
      stop-weaker (HasParts list journal Q) P (λ h parts. subst P (ap₂ (λ (l : List (Polynomial E)) (j : List Entry). halt l j h.working h.origin h.why) (sym parts.polys) (sym parts.entries)) (k h.working h.origin h.why parts.rest)) s p

module _ {E : Type 0} (o : RingOps E) (cmp : List ℕ → List ℕ → Ordering) where
  -- a fault of the pairs of one element
  pub high-pair : (list : List (Polynomial E)) (journal : List Entry) (leads : List (List ℕ)) (k : ℕ) → leads ≡ map (leading_monomial o cmp) list → k < length list → ((i : ℕ) → IsFalse (is_listed (pairs_of journal) i k)) → (fault : MonoFault) → IsFirstHigh leads k fault → (y : Why) → IsOfFault fault y → IsHighPair o cmp journal list y
  high-pair list journal leads k of_list inside fresh (HighDegree x z) high y e = subst (IsHighPair o cmp journal list) (sym e) (first-meets o cmp list leads of_list journal k x z inside fresh high)
  high-pair list journal leads k of_list inside fresh NoRoom high y e = absurd e

module _ {E : Type 0} (o : RingOps E) (is_element : E → Bool) (too_high : RingOp → E → E → ℕ → ℕ → Type 0) (v : ℕ) (cmp : List ℕ → List ℕ → Ordering) where
  high-cause : (b : Budget) (journal : List Entry) (list : List (Polynomial E)) (f : Polynomial E) (why : Why) → IsTrue (is_zero o f) → IsHighPair o cmp journal list why → IsCause o is_element too_high v cmp b journal list f why
  high-cause b journal list f (Degree x y) zero high = DegreeCause.at_lcm zero high
  high-cause b journal list f (Pairs i j) zero high = absurd high
  high-cause b journal list f (Steps m) zero high = absurd high

  module _ (given list : List (Polynomial E)) (journal : List Entry) (made : Journal o cmp given journal list) (sparing : IsSparing o cmp given journal) where
    -- no pair may be taken, and this one is open
    pub halts-idle : {R : Type 0} (start b : Budget) (i j : ℕ) → SpendsOn journal 0 start b → IsKept b → (b.endless ≡ false) × (b.pairs ≤ b.pairs_spent) → IsOpen o cmp journal list i j
        → (s : Stop R E) → StopsSo (HasParts list journal (λ f p y. IsTrue (is_zero o f) × (p ≡ None) × (y ≡ Pairs i j))) s → StopsSo (Halts o is_element too_high v cmp given start b) s
    halts-idle start b i j spent kept out open_pair s p = parts-stop (Halts o is_element too_high v cmp given start b) list journal (λ f p y. IsTrue (is_zero o f) × (p ≡ None) × (y ≡ Pairs i j))
        (λ f p y q. record {
          journal = made;
          taken = 0;
          at_work = subst (λ (p : Option (ℕ × ℕ)). IsAtWorkOn o cmp journal list p 0 f) (sym q.1) (IsAtWorkOn.idle f q.0);
          sparing = sparing;
          spent = spent;
          cause = subst (IsCause o is_element too_high v cmp b journal list f) (sym q.2) (out.0, omega (arith, kept.pairs out.0, out.1), q.0, open_pair);
        }) s p

    -- the division of an open pair stopped, which no third element settles
    pub halts-in_division : {R S : Type 0} (start a b : Budget) (i j : ℕ) → SpendsOn journal 0 start a → HasPairLeft a → RingLaws o → IsOpen o cmp journal list i j
        → (stop : DivStop S E) → StopsBy (λ _. HasNoChain o cmp journal list i j) (λ _ _ _. HasNoChain o cmp journal list i j) stop → StopsBy (RunsOutAt o cmp list i j a b) (MeetsDegreeAt o is_element too_high v cmp list i j a b) stop
        → (s : Stop R E) → StopsSo (HasParts list journal (IsOfStop o cmp list (i, j) stop)) s → StopsSo (Halts o is_element too_high v cmp given start b) s
    halts-in_division start a b i j spent some l open_pair stop no_third at s p = parts-stop (Halts o is_element too_high v cmp given start b) list journal (IsOfStop o cmp list (i, j) stop) (go stop no_third at) s p
      where
        moved : (f : Polynomial E) (p : Option (ℕ × ℕ)) (y : Why) {left : Polynomial E} {of : Option (ℕ × ℕ)} {why : Why} → left ≡ f → of ≡ p → why ≡ y → Halts o is_element too_high v cmp given start b (halt list journal left of why) → Halts o is_element too_high v cmp given start b (halt list journal f p y)
        moved f p y {left = left} e of why h = subst (λ (f : Polynomial E). Halts o is_element too_high v cmp given start b (halt list journal f p y)) e (subst₂ (λ (p : Option (ℕ × ℕ)) (y : Why). Halts o is_element too_high v cmp given start b (halt list journal left p y)) of why h)

        go : {S : Type 0} (stop : DivStop S E) → StopsBy (λ _. HasNoChain o cmp journal list i j) (λ _ _ _. HasNoChain o cmp journal list i j) stop → StopsBy (RunsOutAt o cmp list i j a b) (MeetsDegreeAt o is_element too_high v cmp list i j a b) stop → (f : Polynomial E) (p : Option (ℕ × ℕ)) (y : Why) → IsOfStop o cmp list (i, j) stop f p y → Halts o is_element too_high v cmp given start b (halt list journal f p y)
        go (StepsStop left) no_chain at f p y (e, of, m, why, can) =
            let r = at.runs_out in
            moved f p y (sym e) (sym of) (sym why) (record {
              journal = made;
              taken = length r.so_far.steps;
              at_work = IsAtWorkOn.dividing i j r.so_far.steps left open_pair at.not_coprime no_chain (is_zero-false o l left m can.has) r.so_far.by_steps;
              sparing = sparing;
              spent = spends-steps journal (length r.so_far.steps) spent r.so_far.spent;
              cause = (r.endless, pair-left r.so_far.spent some r.endless, r.all_spent, can.has, can.reducible);
            })
        go (DegreeStop x z left) no_chain at f p y (e, of, why) = moved f p y (sym e) (sym of) (sym why) (elim at.meets [
          | inl (zero, none, meets) ↦ record {
            journal = made;
            taken = 0;
            at_work = subst (λ (p : Option (ℕ × ℕ)). IsAtWorkOn o cmp journal list p 0 left) (sym (ap (λ (t : Bool). cond t None (Some (i, j))) zero)) (IsAtWorkOn.idle left zero);
            sparing = sparing;
            spent = spends-steps journal 0 spent none;
            cause = DegreeCause.at_pair zero (pair-left none some) (record { first = i; second = j; open_pair = open_pair; not_coprime = at.not_coprime; meets = meets });
          }
          | inr d ↦ record {
            journal = made;
            taken = length d.so_far.steps;
            at_work = subst (λ (p : Option (ℕ × ℕ)). IsAtWorkOn o cmp journal list p (length d.so_far.steps) left) (sym (ap (λ (t : Bool). cond t None (Some (i, j))) (is_zero-false o l left d.meets.cancelled d.meets.next.has))) (IsAtWorkOn.dividing i j d.so_far.steps left open_pair at.not_coprime no_chain (is_zero-false o l left d.meets.cancelled d.meets.next.has) d.so_far.by_steps);
            sparing = sparing;
            spent = spends-steps journal (length d.so_far.steps) spent d.so_far.spent;
            cause = DegreeCause.at_step (pair-left d.so_far.spent some) d.step_left d.meets;
          }
        ])
        go MemoryStop no_chain at f p y q = absurd q

  pub start-halts : {R : Type 0} (given : List (Polynomial E)) (b : Budget) → SpendsOn [] 0 b b → (s : Stop R E) → StopsSo (HaltsAtStart o cmp given) s → StopsSo (Halts o is_element too_high v cmp given b b) s
  start-halts given b spent s p = stop-weaker (HaltsAtStart o cmp given) (Halts o is_element too_high v cmp given b b) (λ h a. record {
    journal = a.journal;
    taken = 0;
    at_work = subst (λ (p : Option (ℕ × ℕ)). IsAtWorkOn o cmp h.journal h.polys p 0 h.working) (sym a.none) (IsAtWorkOn.idle h.working a.idle);
    sparing = a.sparing;
    spent = subst (λ (j : List Entry). SpendsOn j 0 b b) (sym a.empty) spent;
    cause = high-cause b h.journal h.polys h.working h.why a.idle a.high;
  }) s p

  pub after-halts : {R : Type 0} (given : List (Polynomial E)) (journal : List Entry) (count : ℕ) (start b : Budget) → ((e : Entry) → e.steps ≡ count → SpendsOn (journal ++ e ∷ []) 0 start b) → (s : Stop R E) → StopsSo (HaltsAfter o cmp given journal count) s → StopsSo (Halts o is_element too_high v cmp given start b) s
  after-halts given journal count start b spent s p = stop-weaker (HaltsAfter o cmp given journal count) (Halts o is_element too_high v cmp given start b) (λ h a. record {
    journal = a.journal;
    taken = 0;
    at_work = subst (λ (p : Option (ℕ × ℕ)). IsAtWorkOn o cmp h.journal h.polys p 0 h.working) (sym a.none) (IsAtWorkOn.idle h.working a.idle);
    sparing = a.sparing;
    spent = subst (λ (j : List Entry). SpendsOn j 0 start b) (sym a.entries) (spent a.entry a.steps);
    cause = high-cause b h.journal h.polys h.working h.why a.idle a.high;
  }) s p
