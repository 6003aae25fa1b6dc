-- The list before each entry of a journal, by its length alone.
--   stored-at, stands, found_of    an entry as it is stored, and a list with its journal
--   adding-next          one more entry, and the rest that it adds
--   given-left, given-less, given-same, given-end    the elements before the entries, counted down
--   journal-count        a list has the polynomials given that are not zero, and one for each entry that adds a rest
--   journal-nonzero      no element of it is zero
--   IsPlaced, placed     the pair of an entry, and the room for what it adds
--   entry-room           the same, by the kind of the entry
use Rattle.std.proofs.Common.{◌≡◌, ℕ, ◌+◌, ◌-◌, ◌<◌, ◌≤◌, Bool, true, false, not, cond, List, [], ◌∷◌, ◌++◌, length, length-append, filter, get_or, take, drop, refl, sym, ap, ◌∙◌, subst, arith, All}
use Rattle.std.specs.Prelude.{Some, None}
use Rattle.std.specs.declared.cmp.Ordering.{Ordering}
use Rattle.std.proofs.lemmas.List.{get_or-map, get_or_default, length-map, take-append-drop, take_all, drop_more}
use Rattle.std.proofs.lemmas.List.Elements.{All-nil, All-cons, All-head, All-tail, All-push, filter-append, filter_passes, length_all_zip}
use Rattle.rinv_algebra.specs.Ring.{RingOps, RingLaws, IsSame}
use Rattle.rinv_algebra.specs.Polynomial.{Polynomial, poly_ops, is_zero}
use Rattle.rinv_algebra.proofs.Degrees.{is_zero-same}
use Rattle.rinv_groebner.specs.Division.{AreSame}
use Rattle.rinv_groebner.specs.Journal.{Entry, Kind, reduced, coprime as coprime_kind, chain, nonzeros, Makes, Journal}
use Rattle.rinv_defs.specs.System.{Poly}
use Rattle.rinv_sub.proofs.Sums.{take-at}
use Rattle.rinv_buch.specs.declared.kinds.Entry.{Entry as StoredEntry}
use Rattle.rinv_buch.specs.declared.kinds.EntryKind.TheVariants.{Reduced}
use Rattle.rinv_buch.specs.Kinds.{Found, entry_of, journal_of, kind_of}
use Rattle.rinv_cofactors.specs.Combining.{adds}
use Rattle.rinv_acceptance.proofs.JournalPrefixes.{Before, journal_before}
use Rattle.rinv_recording.specs.Divided.{EntryHasRoom}

-- the entries that add a rest
abbrev pub adding : List Entry → ℕ
adding journal = length (filter (λ e. adds e.kind) journal)

one-adds : (e : Entry) → adding (e ∷ []) ≡ cond (adds e.kind) 1 0
one-adds e = go (adds e.kind)
  where
    go : (b : Bool) → length (cond b (e ∷ []) []) ≡ cond b 1 0
    go true = refl
    go false = refl

-- one more entry
pub adding-next : (journal : List Entry) (k : ℕ) (e : Entry) → k < length journal → e ≡ get_or journal k e
    → adding (take (k + 1) journal) ≡ adding (take k journal) + cond (adds e.kind) 1 0
adding-next journal k e low at =
    ap (λ (js : List Entry). adding js) (take-at journal k e low at)
    ∙ ap length (filter-append (λ (x : Entry). adds x.kind) (take k journal) (e ∷ []))
    ∙ length-append (filter (λ (x : Entry). adds x.kind) (take k journal)) (filter (λ (x : Entry). adds x.kind) (e ∷ []))
    ∙ ap (λ (n : ℕ). adding (take k journal) + n) (one-adds e)

adding-below : (journal : List Entry) (k : ℕ) → adding (take k journal) ≤ adding journal
adding-below journal k =
    let whole = ap (λ (js : List Entry). adding js) (take-append-drop k journal) in
    let split = ap length (filter-append (λ (x : Entry). adds x.kind) (take k journal) (drop k journal)) in
    let both = length-append (filter (λ (x : Entry). adds x.kind) (take k journal)) (filter (λ (x : Entry). adds x.kind) (drop k journal)) in
    omega (arith, whole, split, both)

-- an entry as it is stored
pub stored-at : (seen : List StoredEntry) (k : ℕ) (e : StoredEntry) → k < length seen → e ≡ get_or seen k e
    → entry_of e ≡ get_or (journal_of seen) k (entry_of e)
stored-at seen k e low at = ap entry_of at ∙ sym (get_or-map entry_of seen k e (entry_of e) low)

-- past the end
abbrev pub no_entry : StoredEntry
no_entry = record { first = 0; second = 0; kind = Reduced None; steps = 0 }

pub stands : (seen : List StoredEntry) (k : ℕ) → k < length seen → get_or seen k no_entry ≡ get_or seen k (get_or seen k no_entry)
stands seen k low = get_or_default seen k no_entry (get_or seen k no_entry) low

-- a list and its journal, as they are stored
abbrev pub found_of : List Poly → List StoredEntry → Found ℕ
found_of polys seen = record { polys = polys; journal = journal_of seen }

pub stored-number : (seen : List StoredEntry) → length (journal_of seen) ≡ length seen
stored-number seen = length-map seen entry_of

-- the elements before the entries: of so many one less for each that adds a rest
module _ (seen : List StoredEntry) (count k given : ℕ) (so_far : given + adding (take k (journal_of seen)) ≡ count) where
  module _ (e : StoredEntry) (low : k < length seen) (at : e ≡ get_or seen k e) where
    next : adding (take (k + 1) (journal_of seen)) ≡ adding (take k (journal_of seen)) + cond (adds (kind_of e.kind)) 1 0
    next = adding-next (journal_of seen) k (entry_of e) (omega (arith, low, stored-number seen)) (stored-at seen k e low at)

    one : adds (kind_of e.kind) ≡ true → ◌≡◌ {A = ℕ} (cond (adds (kind_of e.kind)) 1 0) 1
    one on = rw on refl

    pub given-left : adds (kind_of e.kind) ≡ true → adding (journal_of seen) ≤ count → 0 < given
    given-left on many = omega (arith, next, one on, adding-below (journal_of seen) (k + 1), so_far, many)

    pub given-less : adds (kind_of e.kind) ≡ true → adding (journal_of seen) ≤ count → given - 1 + adding (take (k + 1) (journal_of seen)) ≡ count
    given-less on many = omega (arith, next, one on, adding-below (journal_of seen) (k + 1), so_far, many)

    pub given-same : adds (kind_of e.kind) ≡ false → given + adding (take (k + 1) (journal_of seen)) ≡ count
    given-same off =
        let none : ◌≡◌ {A = ℕ} (cond (adds (kind_of e.kind)) 1 0) 0 = rw off refl in
        omega (arith, next, none, so_far)

  pub given-end : length seen ≤ k → given + adding (journal_of seen) ≡ count
  given-end past =
      let all = ap (λ (js : List Entry). adding js) (take_all k (journal_of seen) (omega (arith, past, stored-number seen))) in
      omega (arith, all, so_far)

-- the pair of an entry after a list of so many elements, of b in all
pub record IsPlaced (b made : ℕ) (e : Entry) : Type 0 where
  pub ascending : e.first < e.second
  pub inside : e.second < made
  pub room : made + cond (adds e.kind) 1 0 ≤ b

-- by its kind
pub entry-room : (b made : ℕ) (e : Entry) → IsPlaced b made e → EntryHasRoom e.first e.second made b e.kind
entry-room b made e h = go e.kind h.room
  where
    go : (kind : Kind) → made + cond (adds kind) 1 0 ≤ b → EntryHasRoom e.first e.second made b kind
    go (reduced None) room = record { ascending = h.ascending; inside = h.inside; room = room }
    go (reduced (Some at)) room = record { ascending = h.ascending; inside = h.inside; room = room }
    go coprime_kind room = record { ascending = h.ascending; inside = h.inside; room = room }
    go (chain by) room = record { ascending = h.ascending; inside = h.inside; room = room }

module _ {E : Type 0} (o : RingOps E) (cmp : List ℕ → List ℕ → Ordering) (given : List (Polynomial E)) where
  made-count : (journal : List Entry) (list : List (Polynomial E)) (i j count : ℕ) (kind : Kind) (made : List (Polynomial E)) → Makes o cmp journal list i j count kind made → length made ≡ length list + cond (adds kind) 1 0
  made-count journal list i j count (reduced None) made m = ap length m.0 ∙ omega arith
  made-count journal list i j count (reduced (Some at)) made (_, rest, _, _, w) = ap length w ∙ length-append list (rest ∷ [])
  made-count journal list i j count coprime_kind made m = ap length m.0 ∙ omega arith
  made-count journal list i j count (chain by) made m = ap length m.0 ∙ omega arith

  pub journal-count : {journal : List Entry} {list : List (Polynomial E)} → Journal o cmp given journal list → length list ≡ length (nonzeros o given) + adding journal
  journal-count (Journal.begin list s) = length_all_zip (IsSame (poly_ops o)) list (nonzeros o given) s ∙ omega arith
  journal-count (Journal.enter journal list e made j entry) =
      let before = journal-count j in
      let more = made-count journal list e.first e.second e.steps e.kind made entry.makes in
      let both = ap length (filter-append (λ (x : Entry). adds x.kind) journal (e ∷ [])) ∙ length-append (filter (λ x. adds x.kind) journal) (filter (λ x. adds x.kind) (e ∷ [])) in
      omega (arith, before, more, both, one-adds e)

  -- no element is zero
  same-nonzero : RingLaws o → (fs gs : List (Polynomial E)) → AreSame o fs gs → All (λ h. not (is_zero o h) ≡ true) gs → All (λ h. is_zero o h ≡ false) fs
  same-nonzero l [] [] same all = All-nil (λ h. is_zero o h ≡ false)
  same-nonzero l [] (g ∷ gs) same all = absurd same
  same-nonzero l (f ∷ fs) [] same all = absurd same
  same-nonzero l (f ∷ fs) (g ∷ gs) same all =
      All-cons (λ h. is_zero o h ≡ false) f fs (is_zero-same o l f g same.0 ∙ not-true (is_zero o g) (All-head (λ h. not (is_zero o h) ≡ true) g gs all)) (same-nonzero l fs gs same.1 (All-tail (λ h. not (is_zero o h) ≡ true) g gs all))
    where
      not-true : (b : Bool) → not b ≡ true → b ≡ false
      not-true true e = sym e
      not-true false e = refl

  made-nonzero : (journal : List Entry) (list : List (Polynomial E)) (i j count : ℕ) (kind : Kind) (made : List (Polynomial E)) → Makes o cmp journal list i j count kind made
      → All (λ h. is_zero o h ≡ false) list → All (λ h. is_zero o h ≡ false) made
  made-nonzero journal list i j count (reduced None) made m all = subst (All (λ h. is_zero o h ≡ false)) (sym m.0) all
  made-nonzero journal list i j count (reduced (Some at)) made (_, rest, _, some, w) all = subst (All (λ h. is_zero o h ≡ false)) (sym w) (All-push (λ h. is_zero o h ≡ false) list rest all some)
  made-nonzero journal list i j count coprime_kind made m all = subst (All (λ h. is_zero o h ≡ false)) (sym m.0) all
  made-nonzero journal list i j count (chain by) made m all = subst (All (λ h. is_zero o h ≡ false)) (sym m.0) all

  pub journal-nonzero : RingLaws o → {journal : List Entry} {list : List (Polynomial E)} → Journal o cmp given journal list → All (λ h. is_zero o h ≡ false) list
  journal-nonzero l (Journal.begin list s) = same-nonzero l list (nonzeros o given) s (filter_passes (λ f. not (is_zero o f)) given)
  journal-nonzero l (Journal.enter journal list e made j entry) = made-nonzero journal list e.first e.second e.steps e.kind made entry.makes (journal-nonzero l j)

  pub placed : {journal : List Entry} {final : List (Polynomial E)} → Journal o cmp given journal final → (k made : ℕ) (e : Entry) → k < length journal → e ≡ get_or journal k e → made ≡ length (nonzeros o given) + adding (take k journal) → IsPlaced (length final) made e
  placed {journal} {final} j k made e low at is =
      let split : journal ≡ take k journal ++ e ∷ drop (k + 1) journal = sym (take-append-drop k journal) ∙ ap (λ (es : List Entry). take k journal ++ es) (drop_more journal k e low ∙ ap (λ (x : Entry). x ∷ drop (k + 1) journal) (sym at)) in
      let b : Before o cmp given final (take k journal) e = journal_before o cmp given j (take k journal) (drop (k + 1) journal) e split in
      let count = journal-count b.journal in
      let more = made-count (take k journal) b.list e.first e.second e.steps e.kind b.made b.entry.makes in
      let whole = ap length b.whole ∙ length-append b.made b.more in
      let inside = b.entry.open_pair.inside in
      record { ascending = b.entry.open_pair.ascending; inside = omega (arith, inside, count, is); room = omega (arith, more, whole, count, is) }
