-- A run after a pair was entered: its journal and its queue, and the same where an element was added.
use Rattle.std.proofs.Common.{◌≡◌, ℕ, ◌+◌, ◌<◌, Bool, false, List, [], ◌∷◌, ◌++◌, length, length-append, map, take, min, max, All, refl, inl, inr, sym, ◌∙◌, ap, ap₂, subst, subst₂, arith, IsTrue}
use Rattle.std.specs.Prelude.{IsFalse, None, nat_lt, not, ◌&&◌, ◌||◌, ◌==◌}
use Rattle.std.proofs.lemmas.List.{map-append, take_all, length-map}
use Rattle.std.specs.declared.cmp.Ordering.{Ordering}
use Rattle.rinv_algebra.specs.Ring.{RingOps, RingLaws, FieldLaws}
use Rattle.rinv_algebra.specs.Normal.{IsNormal}
use Rattle.rinv_algebra.specs.Polynomial.{Polynomial, is_zero}
use Rattle.rinv_algebra.specs.Leading.{leading_monomial}
use Rattle.rinv_groebner.specs.Settled.{is_listed}
use Rattle.rinv_groebner.specs.Journal.{Entry, pairs_of, Journal}
use Rattle.rinv_mono.specs.declared.fault.MonoFault.{MonoFault}
use Rattle.rinv_pairs.specs.Pairs.{Pairs, pairs_among}
use Rattle.rinv_pairs.proofs.Taking.{taken-more}
use Rattle.rinv_groebner.specs.Orders.{OrdersMonomials}
use Rattle.rinv_groebner.specs.Sparing.{HasNoChain, IsSparing}
use Rattle.rinv_groebner.proofs.ListElements.{all_first}
use Rattle.rinv_groebner.proofs.SparingSteps.{sparing-more}
use Rattle.rinv_buch.proofs.Beginnings.{among-next}
use Rattle.rinv_pairs.specs.High.{IsFirstHigh, AreLow as AreLowWith}
use Rattle.rinv_buch.specs.declared.kinds.Stop.{Stop}
use Rattle.rinv_buch.specs.declared.elements.Elements.{Elements}
use Rattle.rinv_buch.specs.declared.run.Run.{Run}
use Rattle.rinv_buch.specs.Kinds.{journal_of}
use Rattle.rinv_buch.specs.Causes.{StopsSo}
use Rattle.rinv_buch.specs.Halting.{HasParts, IsOfFault, HaltsAfter}
use Rattle.rinv_buch.specs.Elements.{ArePrepared}
use Rattle.rinv_buch.specs.Runs.{AreLow, AreTaken, IsRun, IsTaking, Enters, Grows, GrowsIf, Turns}
use Rattle.rinv_buch.proofs.InVariables.{all-in_variables}
use Rattle.rinv_buch.proofs.RunsOfPairs.{low-append, last-fresh}
use Rattle.rinv_buch.proofs.HaltFacts.{parts-stop, high-pair}

-- where an S-polynomial was divided, no third element settled its pair: so with the entry as well
pub entered-sparing : {R E : Type 0} (o : RingOps E) (l : RingLaws o) (field : FieldLaws o) (is_element : E → Bool) (v : ℕ) (cmp : List ℕ → List ℕ → Ordering) (order : OrdersMonomials cmp v) (given : List (Polynomial E)) (i j count : ℕ) (before after : Run R E)
    → All (IsNormal o is_element v) given → Journal o cmp given (journal_of before.journal.items) before.elements.polys.items → IsSparing o cmp given (journal_of before.journal.items) → Enters o is_element v cmp i j count before after → IsSparing o cmp given (journal_of after.journal.items)
entered-sparing o l field is_element v cmp order given i j count before after normal made sparing enters =
    let journal = journal_of before.journal.items in
    let list = before.elements.polys.items in
    let open_pair = enters.is_entry.open_pair in
    let first = all_first o l v given (all-in_variables o is_element v given normal) in
    subst (IsSparing o cmp given) (sym enters.journal)
    (sparing-more o l field cmp v order given first journal list enters.entry sparing made (omega (arith, open_pair.ascending, open_pair.inside)) open_pair.inside (λ r. subst₂ (λ (a b : ℕ). HasNoChain o cmp journal list a b) (sym enters.first) (sym enters.second) (enters.sparing r)))

-- the place of an element that was added
pub grown-inside : {R E : Type 0} (o : RingOps E) (is_element : E → Bool) (v : ℕ) (cmp : List ℕ → List ℕ → Ordering) (list : List (Polynomial E)) (es : Elements R E) (k : ℕ) → ArePrepared o is_element v cmp es → Grows o cmp list es.polys.items → k ≡ length list → k < length es.leads.items
grown-inside o is_element v cmp list es k prepared grows at_end = omega (arith, at_end, ap length prepared.leads, length-map es.polys.items (leading_monomial o cmp), ap length grows.whole, length-append list (grows.rest ∷ []))

module _ {R E S : Type 0} (o : RingOps E) (is_element : E → Bool) (v : ℕ) (cmp : List ℕ → List ℕ → Ordering) (i j count : ℕ) (before after : Run R E) (queue : Pairs S)
    (taking : IsTaking o is_element v cmp i j before queue) (enters : Enters o is_element v cmp i j count before after) where
  entered-taken : AreTaken (pairs_of (journal_of after.journal.items)) queue
  entered-taken = subst (λ (ps : List (ℕ × ℕ)). AreTaken ps queue) (
      ap₂ (λ (a b : ℕ). pairs_of (journal_of before.journal.items) ++ (a, b) ∷ []) (sym enters.first) (sym enters.second)
      ∙ sym (map-append (λ (e : Entry). (e.first, e.second)) (journal_of before.journal.items) (enters.entry ∷ [])) ∙ ap pairs_of (sym enters.journal)) taking.taken

  -- nothing was added
  pub same-turns : GrowsIf o cmp false before.elements.polys.items after.elements.polys.items → Turns o cmp count before queue after queue
  same-turns same = record { entry = enters.entry; steps = enters.steps; journal = enters.journal; polys = inl same; taken = entered-taken; order = refl }

  -- an element was added, and the pairs with it
  module _ (grows : Grows o cmp before.elements.polys.items after.elements.polys.items) (k : ℕ) (at_end : k ≡ length before.elements.polys.items) where
    longer : length after.elements.polys.items ≡ k + 1
    longer = ap length grows.whole ∙ length-append before.elements.polys.items (grows.rest ∷ []) ∙ ap (λ (n : ℕ). n + 1) (sym at_end)

    earlier : length queue.leads ≡ k
    earlier = ap length taking.leads ∙ length-map before.elements.polys.items (leading_monomial o cmp) ∙ sym at_end

    module _ (next : Pairs S) (leads : next.leads ≡ take (k + 1) after.elements.leads.items) where
      whole : next.leads ≡ map (leading_monomial o cmp) after.elements.polys.items
      whole = leads ∙ take_all (k + 1) after.elements.leads.items (omega (arith, longer, ap length enters.prepared.leads, length-map after.elements.polys.items (leading_monomial o cmp))) ∙ enters.prepared.leads

      number : length next.leads ≡ k + 1
      number = ap length whole ∙ length-map after.elements.polys.items (leading_monomial o cmp) ∙ longer

      grown-taken : ((a b : ℕ) → is_listed next.waiting a b ≡ (is_listed queue.waiting a b || nat_lt (min a b) k && max a b == k)) → length next.waiting ≡ length queue.waiting + k → AreTaken (pairs_of (journal_of after.journal.items)) next
      grown-taken waiting more = record {
        taken = λ a b. ap (λ (n : ℕ). nat_lt (min a b) (max a b) && (nat_lt (max a b) n && not (is_listed next.waiting a b))) number
            ∙ sym (taken-more k a b (is_listed queue.waiting a b) (is_listed next.waiting a b) (waiting a b))
            ∙ ap (λ (n : ℕ). nat_lt (min a b) (max a b) && (nat_lt (max a b) n && not (is_listed queue.waiting a b))) (sym earlier) ∙ entered-taken.taken a b;
        count = omega (arith, more, entered-taken.count, ap pairs_among earlier, ap pairs_among number, among-next k);
      }

      pub grown-turns : ((a b : ℕ) → is_listed next.waiting a b ≡ (is_listed queue.waiting a b || nat_lt (min a b) k && max a b == k)) → length next.waiting ≡ length queue.waiting + k → next.order ≡ queue.order → Turns o cmp count before queue after next
      grown-turns waiting more order = record { entry = enters.entry; steps = enters.steps; journal = enters.journal; polys = inr grows; taken = grown-taken waiting more; order = order }

  module _ (given : List (Polynomial E)) (made : Journal o cmp given (journal_of before.journal.items) before.elements.polys.items) (sparing : IsSparing o cmp given (journal_of after.journal.items)) where
    entered-journal : Journal o cmp given (journal_of after.journal.items) after.elements.polys.items
    entered-journal = subst (λ (js : List Entry). Journal o cmp given js after.elements.polys.items) (sym enters.journal) (Journal.enter _ _ enters.entry _ made enters.is_entry)

    pub same-run : GrowsIf o cmp false before.elements.polys.items after.elements.polys.items → IsRun o is_element v cmp given queue after
    same-run same = record {
      prepared = enters.prepared;
      journal = entered-journal;
      sparing = sparing;
      leads = taking.leads ∙ ap (map (leading_monomial o cmp)) (sym same);
      taken = entered-taken;
      low = subst (AreLow o cmp) (sym same) taking.low;
    }

    module _ (grows : Grows o cmp before.elements.polys.items after.elements.polys.items) (k : ℕ) (at_end : k ≡ length before.elements.polys.items) where
      pub grown-run : (next : Pairs S) → next.leads ≡ take (k + 1) after.elements.leads.items → ((a b : ℕ) → is_listed next.waiting a b ≡ (is_listed queue.waiting a b || nat_lt (min a b) k && max a b == k)) → length next.waiting ≡ length queue.waiting + k → AreLowWith after.elements.leads.items k k → IsRun o is_element v cmp given next after
      grown-run next leads waiting more low = record {
        prepared = enters.prepared;
        journal = entered-journal;
        sparing = sparing;
        leads = whole grows k at_end next leads;
        taken = grown-taken grows k at_end next leads waiting more;
        low = subst (AreLow o cmp) (sym grows.whole)
            (low-append o cmp before.elements.polys.items grows.rest after.elements.leads.items (enters.prepared.leads ∙ ap (map (leading_monomial o cmp)) grows.whole) taking.low
            (subst (λ (n : ℕ). AreLowWith after.elements.leads.items n n) at_end low));
      }

      -- one of its pairs is too high
      pub grown-high : {T : Type 0} (fault : MonoFault) → IsFirstHigh after.elements.leads.items k fault → (s : Stop T E) → StopsSo (HasParts after.elements.polys.items (journal_of after.journal.items) (λ f p y. IsTrue (is_zero o f) × (p ≡ None) × IsOfFault fault y)) s → StopsSo (HaltsAfter o cmp given (journal_of before.journal.items) count) s
      grown-high fault high s p =
          parts-stop (HaltsAfter o cmp given (journal_of before.journal.items) count) after.elements.polys.items (journal_of after.journal.items) (λ f p y. IsTrue (is_zero o f) × (p ≡ None) × IsOfFault fault y)
          (λ f p y q. record {
            sparing = sparing;
            none = q.1;
            entry = enters.entry;
            steps = enters.steps;
            entries = enters.journal;
            journal = entered-journal;
            idle = q.0;
            high = high-pair o cmp after.elements.polys.items (journal_of after.journal.items) after.elements.leads.items k enters.prepared.leads (omega (arith, longer grows k at_end)) fresh fault high y q.2;
          }) s p
        where
          fresh : (i : ℕ) → IsFalse (is_listed (pairs_of (journal_of after.journal.items)) i k)
          fresh i = ap₂ (λ (js : List Entry) (k : ℕ). is_listed (pairs_of js) i k) enters.journal at_end ∙ last-fresh o cmp made enters.entry enters.is_entry.open_pair i
