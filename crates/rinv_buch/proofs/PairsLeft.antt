-- The pairs that may come yet: a number that falls with each pair that is taken, since only finitely many elements can be added.
use Rattle.std.proofs.Common.{◌≡◌, ◌⊎◌, ℕ, zero, suc, ◌+◌, ◌-◌, ◌<◌, ◌≤◌, Bool, false, not, List, [], ◌∷◌, ◌++◌, length, length-append, get_or, map, sym, ◌∙◌, ap, subst, inl, inr, arith}
use Rattle.std.proofs.lemmas.List.{map-append, get_or-append-add}
use Rattle.std.specs.declared.cmp.Ordering.{Ordering}
use Rattle.rinv_algebra.specs.Ring.{RingOps, RingLaws}
use Rattle.rinv_algebra.specs.MonomialOrder.{MonoOrderLaws}
use Rattle.rinv_algebra.specs.Monomial.{max_degree}
use Rattle.rinv_algebra.specs.Polynomial.{Polynomial, is_zero}
use Rattle.rinv_algebra.specs.Normal.{IsNormal}
use Rattle.rinv_algebra.specs.Leading.{leading_monomial}
use Rattle.rinv_groebner.specs.Count.{count, is_undivided}
use Rattle.rinv_groebner.proofs.LeadingMonomials.{leading_monomial-leads}
use Rattle.rinv_groebner.proofs.Falls.{undivided-less}
use Rattle.rinv_groebner.specs.Journal.{Entry}
use Rattle.rinv_pairs.specs.Pairs.{Pairs, pairs_among}
use Rattle.rinv_buch.specs.declared.elements.Elements.{Elements}
use Rattle.rinv_buch.specs.declared.run.Run.{Run}
use Rattle.rinv_buch.specs.Kinds.{journal_of}
use Rattle.rinv_buch.specs.Elements.{ArePrepared}
use Rattle.rinv_buch.specs.Runs.{Grows, Turns}
use Rattle.rinv_buch.proofs.PreparedFacts.{prepared-nonzero, prepared-vars, divided-reducible, has-low}

among-more : (n k : ℕ) → pairs_among n ≤ pairs_among (n + k)
unfolding pairs_among
among-more n zero = let e : n + 0 ≡ n = omega arith in rw e (omega arith)
among-more n (suc k) = let e : n + suc k ≡ suc (n + k) = omega arith in rw e (omega (arith, among-more n k))

among-up : (m n : ℕ) → m ≤ n → pairs_among m ≤ pairs_among n
among-up m n low = let e : m + (n - m) ≡ n = omega (arith, low) in subst (λ (k : ℕ). pairs_among m ≤ pairs_among k) e (among-more m (n - m))

module _ {E : Type 0} (o : RingOps E) (v : ℕ) (cmp : List ℕ → List ℕ → Ordering) where
  -- the monomials within the limit that no leading monomial divides
  abbrev undivided : List (Polynomial E) → ℕ
  undivided list = count v max_degree (is_undivided (map (leading_monomial o cmp) list))

  -- the pairs of the elements that are there and of those that may be added, without those that have an entry
  abbrev pub pairs_left : List (Polynomial E) → List Entry → ℕ
  pairs_left list journal = pairs_among (length list + undivided list) - length journal

  module _ {R : Type 0} (l : RingLaws o) (is_element : E → Bool) (laws : MonoOrderLaws cmp) where
    -- an element more leaves fewer of them
    grown-less : (list : List (Polynomial E)) (es : Elements R E) → ((k : ℕ) → k < length list → is_zero o (get_or list k []) ≡ false) → ArePrepared o is_element v cmp es → Grows o cmp list es.polys.items → undivided es.polys.items < undivided list
    grown-less list es nonzero prepared grows =
        let h = grows.rest in
        let leads = map (leading_monomial o cmp) list in
        let last : get_or es.polys.items (length list) [] ≡ h = at_end in
        let has = (leading_monomial-leads o l cmp laws h grows.nonzero).has in
        let fewer = undivided-less v max_degree leads (leading_monomial o cmp h)
        (ap (λ (f : Polynomial E). length (leading_monomial o cmp f)) (sym last) ∙ prepared-vars o is_element v cmp es prepared (length list) inside)
        (has-low o l is_element v cmp h (subst (IsNormal o is_element v) last (prepared.normal (length list) [] inside)) (leading_monomial o cmp h) has)
        (ap not (divided-reducible o cmp list nonzero (leading_monomial o cmp h) ∙ grows.irreducible (leading_monomial o cmp h) has)) in
        subst (λ (ms : List (List ℕ)). count v max_degree (is_undivided ms) < undivided list) (sym (ap (map (leading_monomial o cmp)) grows.whole ∙ map-append (leading_monomial o cmp) list (h ∷ []))) fewer
      where
        inside : length list < length es.polys.items
        inside = omega (arith, ap length grows.whole, length-append list (grows.rest ∷ []))

        at_end : get_or es.polys.items (length list) [] ≡ grows.rest
        at_end = let e : length list + 0 ≡ length list = omega arith in
            ap (λ (xs : List (Polynomial E)). get_or xs (length list) []) grows.whole ∙ ap (λ (n : ℕ). get_or (list ++ grows.rest ∷ []) n []) (sym e) ∙ get_or-append-add list (grows.rest ∷ []) 0 []

    -- a turn leaves fewer
    pub turn-less : {S : Type 0} (count : ℕ) (before : Run R E) (queue : Pairs S) (after : Run R E) (next : Pairs S) → ArePrepared o is_element v cmp before.elements → ArePrepared o is_element v cmp after.elements
        → length (journal_of before.journal.items) < pairs_among (length before.elements.polys.items) → Turns o cmp count before queue after next
        → pairs_left after.elements.polys.items (journal_of after.journal.items) < pairs_left before.elements.polys.items (journal_of before.journal.items)
    turn-less count before queue after next prepared prepared' room turns = go turns.polys
      where
        list : List (Polynomial E)
        list = before.elements.polys.items

        old : List Entry
        old = journal_of before.journal.items

        now : List Entry
        now = journal_of after.journal.items

        here : length old < pairs_among (length list)
        here = room

        more : length now ≡ length old + 1
        more = ap length turns.journal ∙ length-append old (turns.entry ∷ [])

        go : (after.elements.polys.items ≡ list) ⊎ Grows o cmp list after.elements.polys.items → pairs_left after.elements.polys.items now < pairs_left list old
        go (inl e) = subst (λ (ps : List (Polynomial E)). pairs_left ps now < pairs_left list old) (sym e) (omega (arith, more, here, among-more (length list) (undivided list)))
        go (inr grows) =
            let fewer = grown-less list after.elements (prepared-nonzero o is_element v cmp before.elements prepared) prepared' grows in
            let longer : length after.elements.polys.items ≡ length list + 1 = ap length grows.whole ∙ length-append list (grows.rest ∷ []) in
            let up = among-up (length after.elements.polys.items + undivided after.elements.polys.items) (length list + undivided list) (omega (arith, longer, fewer)) in
            omega (arith, more, here, up, among-more (length list) (undivided list))
