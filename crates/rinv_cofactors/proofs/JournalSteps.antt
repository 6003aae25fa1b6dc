-- Cofactors along a journal, entry by entry.
--   entry-at             an entry, as it is stored
--   Continues            the entries that are left take a list to the whole
--   journal-begins       so do all of them, from the polynomials given
--   IsCombined           the cofactors after the first k entries
--   combined-begin, combined-stay, combined-add, combined-end    the beginning, an entry, and the end
--   combining-meets      degrees that an entry meets
use Rattle.std.proofs.Common.{◌≡◌, ℕ, ◌+◌, ◌<◌, ◌≤◌, true, false, List, [], ◌∷◌, ◌++◌, Bool, length, length-append, append-nil, append_assoc, get_or, take, drop, All, refl, sym, ◌∙◌, ap, subst, subst₂, arith, true≢false}
use Rattle.std.specs.Prelude.{IsFalse, Some, None}
use Rattle.std.specs.List.{AllZip}
use Rattle.std.specs.declared.cmp.Ordering.{Ordering}
use Rattle.std.proofs.lemmas.List.{get_or-map, length-map, take_more, take_all, drop_all, drop_more, take-append-drop, take-append-le, length-take-le}
use Rattle.std.proofs.lemmas.List.Elements.{length_all_zip, All-from_get_or}
use Rattle.rinv_algebra.specs.Ring.{RingOps, RingLaws, FieldLaws, IsSame}
use Rattle.rinv_algebra.specs.Polynomial.{Polynomial, poly_ops, is_zero}
use Rattle.rinv_algebra.specs.Normal.{IsNormal}
use Rattle.rinv_algebra.proofs.PolynomialLaws.{poly_laws}
use Rattle.rinv_groebner.specs.Orders.{OrdersMonomials}
use Rattle.rinv_groebner.specs.Division.{AreSame, Step, Steps, IsDivision}
use Rattle.rinv_groebner.specs.Journal.{Entry, Kind, IsEntry, Journal, LeavesRest, Makes, nonzeros}
use Rattle.rinv_groebner.specs.Journal.Kind.{reduced, coprime, chain}
use Rattle.rinv_groebner.proofs.JournalFacts.{ListFacts, journal-facts}
use Rattle.rinv_groebner.proofs.JournalUnique.{same_refl}
use Rattle.rinv_groebner.proofs.ListElements.{AllFirst}
use Rattle.rinv_groebner.proofs.PairsOfLists.{s_polynomial-first}
use Rattle.rinv_groebner.proofs.UniqueSteps.{division_unique}
use Rattle.rinv_ring.specs.Operation.{RingOp}
use Rattle.rinv_buch.specs.declared.kinds.Entry.{Entry as StoredEntry}
use Rattle.rinv_buch.specs.Kinds.{entry_of, journal_of}
use Rattle.rinv_cofactors.specs.Combining.{AreCofactors, Combines, CombiningMeets, RestMeets, adds, units}
use Rattle.rinv_buch.specs.Runs.{s_at}
use Rattle.rinv_cofactors.proofs.CombinedSums.{units-number}

-- steps leave all that is the same
steps-left : {E : Type 0} (o : RingOps E) (l : RingLaws o) (cmp : List ℕ → List ℕ → Ordering) (hs : List (Polynomial E)) (f : Polynomial E) (steps : List (Step E)) (r rest : Polynomial E) → IsSame (poly_ops o) rest r → Steps o cmp hs f steps r → Steps o cmp hs f steps rest
steps-left o l cmp hs f steps r rest same (Steps.start w e) = Steps.start rest ((poly_laws o l).same_trans rest w f same e)
steps-left o l cmp hs f steps r rest same (Steps.next before mid t w p q) =
    Steps.next before mid t rest p (record { cancelled = q.cancelled; next = q.next; monomial = q.monomial; coefficient = q.coefficient; taken = (poly_laws o l).same_trans rest w _ same q.taken })

-- the entries of a journal, as they are stored
module _ (items seen : List StoredEntry) (journal : List Entry) (is : seen ≡ items) (stored : journal_of items ≡ journal) where
  abbrev all : journal_of seen ≡ journal
  all = ap journal_of is ∙ stored

  pub entries-number : length seen ≡ length journal
  entries-number = sym (length-map seen entry_of) ∙ ap length all

  pub entry-at : (k : ℕ) (d : StoredEntry) → k < length seen → entry_of (get_or seen k d) ≡ get_or journal k (entry_of (get_or seen k d))
  entry-at k d inside = sym (get_or-map entry_of seen k d (entry_of (get_or seen k d)) inside) ∙ ap (λ (js : List Entry). get_or js k (entry_of (get_or seen k d))) all

module _ {E : Type 0} (o : RingOps E) (cmp : List ℕ → List ℕ → Ordering) where
  -- the entries that are left take the list to the whole
  abbrev pub Continues : List Entry → List (Polynomial E) → List Entry → List (Polynomial E) → Type 0
  Continues before list [] whole = list ≡ whole
  Continues before list (e ∷ left) whole = (made : List (Polynomial E)) × IsEntry o cmp before list e made × Continues (before ++ e ∷ []) made left whole

  -- the entry adds a rest
  pub record Adds (list made : List (Polynomial E)) (i j count : ℕ) : Type 0 where
    pub rest : Polynomial E
    pub leaves : LeavesRest o cmp list i j count rest
    pub nonzero : IsFalse (is_zero o rest)
    pub whole : made ≡ list ++ rest ∷ []

  makes-same : (journal : List Entry) (list made : List (Polynomial E)) (i j count : ℕ) (kind : Kind) → Makes o cmp journal list i j count kind made → adds kind ≡ false → made ≡ list
  makes-same journal list made i j count (reduced None) m off = m.0
  makes-same journal list made i j count (reduced (Some at)) m off = absurd (true≢false off)
  makes-same journal list made i j count coprime m off = m.0
  makes-same journal list made i j count (chain by) m off = m.0

  makes-more : (journal : List Entry) (list made : List (Polynomial E)) (i j count : ℕ) (kind : Kind) → Makes o cmp journal list i j count kind made → adds kind ≡ true → Adds list made i j count
  makes-more journal list made i j count (reduced None) m on = absurd (true≢false (sym on))
  makes-more journal list made i j count (reduced (Some at)) m on = record { rest = m.1; leaves = m.2; nonzero = m.3; whole = m.4 }
  makes-more journal list made i j count coprime m on = absurd (true≢false (sym on))
  makes-more journal list made i j count (chain by) m on = absurd (true≢false (sym on))

  -- the whole begins with the list
  made-front : (journal : List Entry) (list made : List (Polynomial E)) (i j count : ℕ) (kind : Kind) → Makes o cmp journal list i j count kind made → (more : List (Polynomial E)) × (made ≡ list ++ more)
  made-front journal list made i j count (reduced None) m = ([], m.0 ∙ sym (append-nil list))
  made-front journal list made i j count (reduced (Some at)) m = (m.1 ∷ [], m.4)
  made-front journal list made i j count coprime m = ([], m.0 ∙ sym (append-nil list))
  made-front journal list made i j count (chain by) m = ([], m.0 ∙ sym (append-nil list))

  continues-front : (before : List Entry) (list : List (Polynomial E)) (left : List Entry) (whole : List (Polynomial E)) → Continues before list left whole → (more : List (Polynomial E)) × (whole ≡ list ++ more)
  continues-front before list [] whole c = ([], sym c ∙ sym (append-nil list))
  continues-front before list (e ∷ left) whole (made, entry, c) =
      let (more, is) = continues-front (before ++ e ∷ []) made left whole c in
      let (first, own) = made-front before list made e.first e.second e.steps e.kind entry.makes in
      (first ++ more, is ∙ ap (λ (xs : List (Polynomial E)). xs ++ more) own ∙ append_assoc list first more)

  -- no element is zero
  pub elements-nonzero : (l : RingLaws o) (field : FieldLaws o) (v : ℕ) → OrdersMonomials cmp v → (given : List (Polynomial E)) → AllFirst o l v given → {journal : List Entry} {list : List (Polynomial E)} → Journal o cmp given journal list → All (λ h. is_zero o h ≡ false) list
  elements-nonzero l field v order given first {list = list} j = All-from_get_or (λ h. is_zero o h ≡ false) list [] (journal-facts o l field cmp v order given first j).nonzero

  module _ (given : List (Polynomial E)) where
    -- a journal goes on from the polynomials given
    goes-on : {journal : List Entry} {list : List (Polynomial E)} (left : List Entry) (whole : List (Polynomial E)) → Journal o cmp given journal list → Continues journal list left whole → (start : List (Polynomial E)) × AreSame o start (nonzeros o given) × Continues [] start (journal ++ left) whole
    goes-on left whole (Journal.begin list s) c = (list, s, c)
    goes-on left whole (Journal.enter journal list e made j entry) c =
        subst (λ (js : List Entry). (start : List (Polynomial E)) × AreSame o start (nonzeros o given) × Continues [] start js whole) (sym (append_assoc journal (e ∷ []) left)) (goes-on (e ∷ left) whole j (made, entry, c))

    pub journal-begins : (journal : List Entry) (whole : List (Polynomial E)) → Journal o cmp given journal whole → (start : List (Polynomial E)) × AreSame o start (nonzeros o given) × Continues [] start journal whole
    journal-begins journal whole j = subst (λ (js : List Entry). (start : List (Polynomial E)) × AreSame o start (nonzeros o given) × Continues [] start js whole) (append-nil journal) (goes-on [] whole j refl)

    -- who combines follows a journal
    combines-journal : {journal : List Entry} {list : List (Polynomial E)} {lists : List (List (Polynomial E))} → Combines o cmp given journal list lists → Journal o cmp given journal list
    combines-journal (Combines.begin list lists s t) = Journal.begin list s
    combines-journal (Combines.stay journal list lists e c entry) = Journal.enter journal list e list (combines-journal c) entry
    combines-journal (Combines.add journal list lists e rest us c entry of_rest) = Journal.enter journal list e (list ++ rest ∷ []) (combines-journal c) entry

    -- the cofactors after the first k entries
    pub record IsCombined (journal : List Entry) (polys : List (Polynomial E)) (k : ℕ) (lists : List (List (Polynomial E))) : Type 0 where
      pub few : length lists ≤ length polys
      pub combines : Combines o cmp given (take k journal) (take (length lists) polys) lists
      pub left : Continues (take k journal) (take (length lists) polys) (drop k journal) polys

    -- before any entry
    pub combined-begin : RingLaws o → (journal : List Entry) (polys : List (Polynomial E)) (lists : List (List (Polynomial E))) → Journal o cmp given journal polys → AllZip (AreSame o) lists (units o given) → IsCombined journal polys 0 lists
    combined-begin l journal polys lists j s =
        let (start, same, c) = journal-begins journal polys j in
        let (more, is) = continues-front [] start journal polys c in
        let many : length lists ≡ length start = length_all_zip (AreSame o) lists (units o given) s ∙ units-number o l given ∙ sym (length_all_zip (IsSame (poly_ops o)) start (nonzeros o given) same) in
        let front : take (length lists) polys ≡ start = ap (take (length lists)) is ∙ take-append-le (length lists) start more (omega (arith, many)) ∙ take_all (length lists) start (omega (arith, many)) in
        record {
          few = let n = ap length is in let m = length-append start more in omega (arith, n, m, many);
          combines = Combines.begin (take (length lists) polys) lists (subst (λ (hs : List (Polynomial E)). AreSame o hs (nonzeros o given)) (sym front) same) s;
          left = subst (λ (hs : List (Polynomial E)). Continues [] hs journal polys) (sym front) c;
        }

    -- after the last one
    pub combined-end : (journal : List Entry) (polys : List (Polynomial E)) (k : ℕ) (lists : List (List (Polynomial E))) → length journal ≤ k → IsCombined journal polys k lists → Combines o cmp given journal polys lists × (length lists ≡ length polys)
    combined-end journal polys k lists past c =
        let whole : take (length lists) polys ≡ polys = subst (λ (js : List Entry). Continues (take k journal) (take (length lists) polys) js polys) (drop_all k journal past) c.left in
        (subst₂ (λ (js : List Entry) (hs : List (Polynomial E)). Combines o cmp given js hs lists) (take_all k journal past) whole c.combines, sym (length-take-le (length lists) polys c.few) ∙ ap length whole)

    module _ (journal : List Entry) (polys : List (Polynomial E)) (k : ℕ) (lists : List (List (Polynomial E))) (c : IsCombined journal polys k lists) (inside : k < length journal) (e : Entry) (at : e ≡ get_or journal k e) where
      abbrev list : List (Polynomial E)
      list = take (length lists) polys

      taken : take (k + 1) journal ≡ take k journal ++ e ∷ []
      taken = take_more journal k e inside ∙ ap (λ (x : Entry). take k journal ++ x ∷ []) (sym at)

      dropped : drop k journal ≡ e ∷ drop (k + 1) journal
      dropped = drop_more journal k e inside ∙ ap (λ (x : Entry). x ∷ drop (k + 1) journal) (sym at)

      entered : (made : List (Polynomial E)) × IsEntry o cmp (take k journal) list e made × Continues (take k journal ++ e ∷ []) made (drop (k + 1) journal) polys
      entered = subst (λ (js : List Entry). Continues (take k journal) list js polys) dropped c.left

      many : length list ≡ length lists
      many = length-take-le (length lists) polys c.few

      -- the pair of the entry
      pub pair-ascends : e.first < e.second
      pair-ascends = entered.1.open_pair.ascending

      pub pair-inside : e.second < length list
      pair-inside = entered.1.open_pair.inside

      -- an entry that adds nothing
      pub combined-stay : adds e.kind ≡ false → IsCombined journal polys (k + 1) lists
      combined-stay off =
          let (made, entry, left) = entered in
          let same : made ≡ list = makes-same (take k journal) list made e.first e.second e.steps e.kind entry.makes off in
          record {
            few = c.few;
            combines = subst (λ (js : List Entry). Combines o cmp given js list lists) (sym taken) (Combines.stay (take k journal) list lists e c.combines (subst (IsEntry o cmp (take k journal) list e) same entry));
            left = subst₂ (λ (js : List Entry) (hs : List (Polynomial E)). Continues js hs (drop (k + 1) journal) polys) (sym taken) same left;
          }

      module _ (on : adds e.kind ≡ true) where
        more : Adds list entered.0 e.first e.second e.steps
        more = makes-more (take k journal) list entered.0 e.first e.second e.steps e.kind entered.1.makes on

        front : (others : List (Polynomial E)) × (polys ≡ (list ++ more.rest ∷ []) ++ others)
        front =
            let (others, is) = continues-front (take k journal ++ e ∷ []) entered.0 (drop (k + 1) journal) polys entered.2 in
            (others, is ∙ ap (λ (hs : List (Polynomial E)). hs ++ others) more.whole)

        longer : length (list ++ more.rest ∷ []) ≡ length lists + 1
        longer = let n = length-append list (more.rest ∷ []) in omega (arith, n, many)

        -- there is one element more
        pub next-inside : length lists < length polys
        next-inside = let n = ap length front.1 in let m = length-append (list ++ more.rest ∷ []) front.0 in omega (arith, n, m, longer)

        next-list : take (length lists + 1) polys ≡ list ++ more.rest ∷ []
        next-list = ap (take (length lists + 1)) front.1 ∙ take-append-le (length lists + 1) (list ++ more.rest ∷ []) front.0 (omega (arith, longer)) ∙ take_all (length lists + 1) (list ++ more.rest ∷ []) (omega (arith, longer))

        -- what the entry meets
        pub combining-meets : (is_element : E → Bool) (too_high : RingOp → E → E → ℕ → ℕ → Type 0) (v : ℕ) → All (All (IsNormal o is_element v)) lists → (x y : ℕ) → RestMeets o is_element too_high v cmp list lists e.first e.second x y → CombiningMeets o is_element too_high v cmp given journal polys x y
        combining-meets is_element too_high v stored x y meets =
            record {
              before = take k journal;
              entry = e;
              after = drop (k + 1) journal;
              entries = sym (take-append-drop k journal) ∙ ap (λ (js : List Entry). take k journal ++ js) dropped;
              list = list;
              rest = more.rest;
              more = front.0;
              elements = front.1 ∙ append_assoc list (more.rest ∷ []) front.0;
              is_entry = subst (IsEntry o cmp (take k journal) list e) more.whole entered.1;
              lists = lists;
              combines = c.combines;
              stored = stored;
              meets = meets;
            }

        module _ (l : RingLaws o) (field : FieldLaws o) (v : ℕ) (order : OrdersMonomials cmp v) (first : AllFirst o l v given) where
          facts : ListFacts o l field cmp v order given first list
          facts = journal-facts o l field cmp v order given first (combines-journal c.combines)

          abbrev s : Polynomial E
          s = s_at o cmp list e.first e.second

          rest_is : (steps : List (Step E)) (r : Polynomial E) → IsDivision o cmp list s steps r → IsSame (poly_ops o) more.rest r
          rest_is steps r d = (poly_laws o l).same_sym r more.rest (division_unique o l field cmp v order list list facts.first (same_refl o l list) s s r more.rest steps more.leaves.steps
              (s_polynomial-first o l field cmp v order list facts.first (e.first, facts.nonzero e.first (omega (arith, pair-ascends, pair-inside))) (e.second, facts.nonzero e.second pair-inside)) ((poly_laws o l).same_refl s) d more.leaves.division).1

          -- an entry that adds a rest
          pub combined-add : (us : List (Polynomial E)) (r : Polynomial E) → AreCofactors o cmp (length given) list lists e.first e.second r us → IsCombined journal polys (k + 1) (lists ++ us ∷ [])
          combined-add us r of_rest = record {
            few = omega (arith, next-inside, number);
            combines = subst₂ (λ (js : List Entry) (hs : List (Polynomial E)). Combines o cmp given js hs (lists ++ us ∷ [])) (sym taken) (sym next)
                (Combines.add (take k journal) list lists e more.rest us c.combines (subst (IsEntry o cmp (take k journal) list e) more.whole entered.1) (record {
                  steps = of_rest.steps;
                  quotients = of_rest.quotients;
                  divides = record {
                    is_division = record { by_steps = steps-left o l cmp list s of_rest.steps r more.rest (rest_is of_rest.steps r of_rest.divides.is_division) of_rest.divides.is_division.by_steps; irreducible = more.leaves.division.irreducible };
                    quotients = of_rest.divides.quotients;
                  };
                  number = of_rest.number;
                  each = of_rest.each;
                }));
            left = subst₂ (λ (js : List Entry) (hs : List (Polynomial E)). Continues js hs (drop (k + 1) journal) polys) (sym taken) (more.whole ∙ sym next) entered.2;
          }
            where
              number : length (lists ++ us ∷ []) ≡ length lists + 1
              number = length-append lists (us ∷ [])

              next : take (length (lists ++ us ∷ [])) polys ≡ list ++ more.rest ∷ []
              next = ap (λ (n : ℕ). take n polys) number ∙ next-list
