-- The entries on pairs of a certificate of generators stand for the entries of the journal.
--   journal_counts       how long the list is that a journal makes
--   recorded_quotients   the quotients that are recorded settle the pair
--   pair_items           each entry stands for the journal's, and has its form
use Rattle.std.proofs.Common.{◌≡◌, ℕ, ◌+◌, ◌-◌, ◌*◌, ◌<◌, Bool, true, false, cond, List, [], ◌∷◌, ◌++◌, append_assoc, length, length-append, take, get_or, replicate, Option, Some, None, refl, sym, ◌∙◌, ap, ap₂, subst, arith, IsTrue}
use Rattle.std.specs.Prelude.{filter}
use Rattle.std.specs.List.{AllZip}
use Rattle.std.proofs.lemmas.List.{length-replicate}
use Rattle.std.proofs.lemmas.List.FromFn.{length-map-range_with_len}
use Rattle.rinv_algebra.specs.Ring.{RingOps, IsSame}
use Rattle.rinv_algebra.specs.Residue.{residue_ops}
use Rattle.rinv_algebra.specs.Polynomial.{Polynomial, poly_ops, is_zero}
use Rattle.rinv_algebra.specs.Normal.{is_in_variables}
use Rattle.rinv_algebra.proofs.PolynomialLaws.{poly_laws}
use Rattle.rinv_algebra.proofs.ResidueLaws.{residue_laws}
use Rattle.rinv_algebra.proofs.ResidueField.{residue_field_laws}
use Rattle.rinv_algebra.proofs.RingFacts as facts
use Rattle.rinv_algebra.proofs.Same.{and_true}
use Rattle.rinv_groebner.specs.Orders.{OrdersMonomials}
use Rattle.rinv_groebner.specs.Division.{AreSame, quotient_at}
use Rattle.rinv_groebner.specs.Settled.{HasQuotients}
use Rattle.rinv_groebner.specs.Journal.{Entry, Kind as EntryKind, reduced, coprime, chain, nonzeros, Makes, Journal, LeavesRest}
use Rattle.rinv_groebner.proofs.ListElements.{AllFirst}
use Rattle.rinv_groebner.proofs.JournalUnique.{same_refl}
use Rattle.rinv_groebner.proofs.PairsOfLists.{s_polynomial-first}
use Rattle.rinv_groebner.proofs.UniqueSteps.{division_unique, same-length}
use Rattle.rinv_groebner.proofs.JournalFacts.{ListFacts, journal-facts}
use Rattle.rinv_defs.specs.System.{System, Poly, group_count, space_count}
use Rattle.rinv_defs.specs.SystemForm.{is_good, are_good}
use Rattle.rinv_defs.specs.Certificate.{Certificate, PairItem, by_coprime, by_chain, by_quotients}
use Rattle.rinv_defs.specs.Conditions.{elements}
use Rattle.rinv_defs.specs.PairConditions.{action_order}
use Rattle.rinv_defs.proofs.Tests.{list_all-implies}
use Rattle.rinv_defs.proofs.Sound.{normal_in_variables}
use Rattle.rinv_cofactors.specs.Combining.{adds}
use Rattle.rinv_buch.specs.Kinds.{Found}
use Rattle.rinv_acceptance.proofs.PaddedQuotients.{Pads, padded_quotients}
use Rattle.rinv_acceptance.proofs.JournalPrefixes.{Before, made_begins, journal_before}
use Rattle.rinv_acceptance.proofs.JournalItems.{IsItem, variables_of}
use Rattle.rinv_recording.specs.Recorded.{elements_after, padded, AreRecorded, IsPairItemOf}
use Rattle.rinv_certification.proofs.CommonParts.{equal, list_passes}

-- the entries that add an element
abbrev adding : List Entry → List Entry
adding journal = filter (λ e. adds e.kind) journal

filter-append : {X : Type 0} (test : X → Bool) (xs ys : List X) → filter test (xs ++ ys) ≡ filter test xs ++ filter test ys
filter-append test [] ys = refl
filter-append {X} test (x ∷ xs) ys = go (test x) (filter-append test xs ys)
  where
    go : (b : Bool) → filter test (xs ++ ys) ≡ filter test xs ++ filter test ys → cond b (x ∷ filter test (xs ++ ys)) (filter test (xs ++ ys)) ≡ cond b (x ∷ filter test xs) (filter test xs) ++ filter test ys
    go true e = ap (λ zs. x ∷ zs) e
    go false e = e

module _ {E : Type 0} (o : RingOps E) (cmp : List ℕ → List ℕ → _) (given : List (Polynomial E)) where
  one_more : (journal : List Entry) (list : List (Polynomial E)) (i j count : ℕ) (kind : EntryKind) (made : List (Polynomial E)) → Makes o cmp journal list i j count kind made → length made ≡ length list + length {A = Entry} (cond (adds kind) (record { first = i; second = j; kind = kind; steps = count } ∷ []) [])
  one_more journal list i j count (reduced None) made m = omega (arith, ap length m.0)
  one_more journal list i j count (reduced (Some at)) made (_, rest, _, _, w) = omega (arith, ap length w, length-append list (rest ∷ []))
  one_more journal list i j count coprime made m = omega (arith, ap length m.0)
  one_more journal list i j count (chain by) made m = omega (arith, ap length m.0)

  -- how long the list is that a journal makes
  pub journal_counts : {journal : List Entry} {list : List (Polynomial E)} → Journal o cmp given journal list → length (nonzeros o given) + length (adding journal) ≡ length list
  journal_counts (Journal.begin list s) = omega (arith, same-length o list (nonzeros o given) s)
  journal_counts (Journal.enter journal list e made j entry) =
      let before = journal_counts j in
      let more = one_more journal list e.first e.second e.steps e.kind made entry.makes in
      let split = ap length (filter-append (λ (e : Entry). adds e.kind) journal (e ∷ [])) in
      let sum = length-append (adding journal) (adding (e ∷ [])) in
      omega (arith, before, more, split, sum)

module _ (s : System) (given : List Poly) (given_first : AllFirst (residue_ops s.p) (residue_laws s.p) (group_count s + 2 * space_count s) given) (order : OrdersMonomials (action_order s) (group_count s + 2 * space_count s))
    (polys : List Poly) (before : List Entry) (e : Entry) (b : Before (residue_ops s.p) (action_order s) given polys before e) (final : ListFacts (residue_ops s.p) (residue_laws s.p) (residue_field_laws s.p) (action_order s) (group_count s + 2 * space_count s) order given given_first polys) where
  abbrev v : ℕ
  v = group_count s + 2 * space_count s

  list_facts : ListFacts (residue_ops s.p) (residue_laws s.p) (residue_field_laws s.p) (action_order s) (group_count s + 2 * space_count s) order given given_first b.list
  list_facts = journal-facts (residue_ops s.p) (residue_laws s.p) (residue_field_laws s.p) (action_order s) (group_count s + 2 * space_count s) order given given_first b.journal

  inside : e.first < length b.list
  inside = omega (arith, b.entry.open_pair.ascending, b.entry.open_pair.inside)

  front_s : (m : List Poly) → polys ≡ b.list ++ m → e.second < length polys
  front_s m w = omega (arith, ap length w, length-append b.list m, b.entry.open_pair.inside)

  -- what the division that is recorded leaves is what the journal's left
  one_rest : (added : Option ℕ) (q : List Poly) (r : AreRecorded s b.list (length polys) e.first e.second added q) (rest : Poly) → LeavesRest (residue_ops s.p) (action_order s) b.list e.first e.second e.steps rest → IsSame (poly_ops (residue_ops s.p)) r.rest rest
  one_rest added q r rest l =
      (division_unique (residue_ops s.p) (residue_laws s.p) (residue_field_laws s.p) (action_order s) v order b.list b.list list_facts.first (same_refl (residue_ops s.p) (residue_laws s.p) b.list) _ _ r.rest rest r.steps l.steps
      (s_polynomial-first (residue_ops s.p) (residue_laws s.p) (residue_field_laws s.p) (action_order s) v order b.list list_facts.first (e.first, list_facts.nonzero e.first inside) (e.second, list_facts.nonzero e.second b.entry.open_pair.inside))
      ((poly_laws (residue_ops s.p) (residue_laws s.p)).same_refl _) r.divides.is_division l.division).1

  same_append : (qs ps ms : List Poly) → AreSame (residue_ops s.p) qs ps → AreSame (residue_ops s.p) (qs ++ ms) (ps ++ ms)
  same_append [] [] ms z = same_refl (residue_ops s.p) (residue_laws s.p) ms
  same_append [] (p ∷ ps) ms z = absurd z
  same_append (q ∷ qs) [] ms z = absurd z
  same_append (q ∷ qs) (p ∷ ps) ms z = (z.0, same_append qs ps ms z.1)

  same_both : (qs ps ms : List Poly) → AreSame (residue_ops s.p) qs ps → AreSame (residue_ops s.p) ps ms → AreSame (residue_ops s.p) qs ms
  same_both [] [] [] y z = tt
  same_both [] [] (m ∷ ms) y z = absurd z
  same_both [] (p ∷ ps) ms y z = absurd y
  same_both (q ∷ qs) [] ms y z = absurd y
  same_both (q ∷ qs) (p ∷ ps) [] y z = absurd z
  same_both (q ∷ qs) (p ∷ ps) (m ∷ ms) y z = (facts.then (poly_ops (residue_ops s.p)) (poly_laws (residue_ops s.p) (residue_laws s.p)) y.0 z.0, same_both qs ps ms y.1 z.1)

  -- the quotients that are recorded settle the pair
  settled : (more pad : List Poly) → polys ≡ b.list ++ more → (added : Option ℕ) (q : List Poly) (r : AreRecorded s b.list (length polys) e.first e.second added q) → Pads (residue_ops s.p) r.rest more pad → AreSame (residue_ops s.p) q (r.quotients ++ pad)
      → HasQuotients (residue_ops s.p) (action_order s) v polys e.first e.second q
  settled more pad whole added q r pads same =
      padded_quotients (residue_ops s.p) (residue_laws s.p) (residue_field_laws s.p) (action_order s) v order polys final.first final.nonzero b.list more whole
      (e.first, final.nonzero e.first (omega (arith, b.entry.open_pair.ascending, front_s more whole))) (e.second, final.nonzero e.second (front_s more whole)) inside b.entry.open_pair.inside r.steps r.rest r.divides.is_division.by_steps pad q pads
      (same_both q (r.quotients ++ pad) _ same (same_append r.quotients _ pad r.divides.quotients))
      (list_all-implies (is_good s v) (is_in_variables v) (normal_in_variables s v) q (list_passes (is_good s v) q r.normal))

  quotients_count : (added : Option ℕ) (q : List Poly) (r : AreRecorded s b.list (length polys) e.first e.second added q) → length r.quotients ≡ length b.list
  quotients_count added q r = same-length (residue_ops s.p) r.quotients _ r.divides.quotients ∙ length-map-range_with_len (quotient_at r.steps) 0 (length b.list)

  pub recorded_quotients : (added : Option ℕ) → e.kind ≡ reduced added → (q : List Poly) → AreRecorded s b.list (length polys) e.first e.second added q → HasQuotients (residue_ops s.p) (action_order s) v polys e.first e.second q
  recorded_quotients None k q r =
      let makes : Makes (residue_ops s.p) (action_order s) before b.list e.first e.second e.steps (reduced None) b.made = subst (λ k. Makes (residue_ops s.p) (action_order s) before b.list e.first e.second e.steps k b.made) k b.entry.makes in
      let whole : polys ≡ b.list ++ b.more = b.whole ∙ ap (λ (fs : List Poly). fs ++ b.more) makes.0 in
      let count = quotients_count None q r in
      let gap : length polys - length r.quotients ≡ length b.more = omega (arith, count, ap length whole, length-append b.list b.more) in
      settled b.more (replicate (length b.more) []) whole None q r (Pads.nothing b.more (zero r.rest makes.1 (one_rest None q r makes.1 makes.2) makes.3))
      (subst (λ (n : ℕ). AreSame (residue_ops s.p) q (r.quotients ++ replicate n [])) gap r.recorded)
    where
      zero : (f g : Poly) → IsSame (poly_ops (residue_ops s.p)) f g → IsTrue (is_zero (residue_ops s.p) g) → IsTrue (is_zero (residue_ops s.p) f)
      zero f g x z = facts.then (poly_ops (residue_ops s.p)) (poly_laws (residue_ops s.p) (residue_laws s.p)) x z
  recorded_quotients (Some at) k q r =
      let makes : Makes (residue_ops s.p) (action_order s) before b.list e.first e.second e.steps (reduced (Some at)) b.made = subst (λ k. Makes (residue_ops s.p) (action_order s) before b.list e.first e.second e.steps k b.made) k b.entry.makes in
      let rest = makes.1 in
      let whole : polys ≡ b.list ++ rest ∷ b.more = b.whole ∙ ap (λ (fs : List Poly). fs ++ b.more) makes.4 ∙ append_assoc b.list (rest ∷ []) b.more in
      let count = quotients_count (Some at) q r in
      let gap : length polys - (length r.quotients + 1) ≡ length b.more = omega (arith, count, ap length whole, length-append b.list (rest ∷ b.more)) in
      settled (rest ∷ b.more) ((poly_ops (residue_ops s.p)).one ∷ replicate (length b.more) []) whole (Some at) q r
      (Pads.added rest b.more ((poly_laws (residue_ops s.p) (residue_laws s.p)).same_sym _ _ (one_rest (Some at) q r rest makes.2)))
      (subst (λ (n : ℕ). AreSame (residue_ops s.p) q (r.quotients ++ (poly_ops (residue_ops s.p)).one ∷ replicate n [])) gap r.recorded)

  -- they have their form
  pub recorded_form : (added : Option ℕ) → e.kind ≡ reduced added → (q : List Poly) → AreRecorded s b.list (length polys) e.first e.second added q → are_good s (length polys) v q ≡ true
  recorded_form added k q r = and_true _ _ (equal _ _ (same-length (residue_ops s.p) q _ r.recorded ∙ long added k r.quotients (quotients_count added q r))) (list_passes (is_good s v) q r.normal)
    where
      long : (added : Option ℕ) → e.kind ≡ reduced added → (qs : List Poly) → length qs ≡ length b.list → length (padded s.p (length polys) qs added) ≡ length polys
      long None k qs count =
          let makes : Makes (residue_ops s.p) (action_order s) before b.list e.first e.second e.steps (reduced None) b.made = subst (λ k. Makes (residue_ops s.p) (action_order s) before b.list e.first e.second e.steps k b.made) k b.entry.makes in
          omega (arith, count, ap length makes.0, ap length b.whole, length-append b.made b.more, length-append qs (replicate (length polys - length qs) []), length-replicate {A = Poly} (length polys - length qs) [])
      long (Some at) k qs count =
          let makes : Makes (residue_ops s.p) (action_order s) before b.list e.first e.second e.steps (reduced (Some at)) b.made = subst (λ k. Makes (residue_ops s.p) (action_order s) before b.list e.first e.second e.steps k b.made) k b.entry.makes in
          omega (arith, count, ap length makes.4, length-append b.list (makes.1 ∷ []), ap length b.whole, length-append b.made b.more, length-append qs ((poly_ops (residue_ops s.p)).one ∷ replicate (length polys - (length qs + 1)) []), length-replicate {A = Poly} (length polys - (length qs + 1)) [])

middle_at : {X : Type 0} (done : List X) (x : X) (left : List X) (d : X) → get_or (done ++ x ∷ left) (length done) d ≡ x
middle_at [] x left d = refl
middle_at (y ∷ done) x left d = middle_at done x left d

take_done : {X : Type 0} (done left : List X) → take (length done) (done ++ left) ≡ done
take_done [] left = refl
take_done (x ∷ done) left = ap (λ ys. x ∷ ys) (take_done done left)

module _ (c : Certificate) (found : Found ℕ) (items : List PairItem) (given : List Poly) (given_first : AllFirst (residue_ops c.system.p) (residue_laws c.system.p) (group_count c.system + 2 * space_count c.system) given)
    (order : OrdersMonomials (action_order c.system) (group_count c.system + 2 * space_count c.system)) (elements_are : elements c ≡ found.polys) (j : Journal (residue_ops c.system.p) (action_order c.system) given found.journal found.polys) where
  -- an entry stands for the journal's, and its quotients have their form
  pub record StandsFor (t : PairItem) (e : Entry) : Type 0 where
    pub item : IsItem c e t
    pub good : (x y : ℕ) (q : List Poly) → t ≡ by_quotients x y q → are_good c.system (length (elements c)) (variables_of c) q ≡ true

  final : ListFacts (residue_ops c.system.p) (residue_laws c.system.p) (residue_field_laws c.system.p) (action_order c.system) (group_count c.system + 2 * space_count c.system) order given given_first found.polys
  final = journal-facts (residue_ops c.system.p) (residue_laws c.system.p) (residue_field_laws c.system.p) (action_order c.system) (group_count c.system + 2 * space_count c.system) order given given_first j

  differ_coprime : (i j x y : ℕ) (q : List Poly) → by_coprime i j ≡ by_quotients x y q → ⊥
  differ_coprime i j x y q e = cc

  differ_chain : (i j k x y : ℕ) (q : List Poly) → by_chain i j k ≡ by_quotients x y q → ⊥
  differ_chain i j k x y q e = cc

  same_quotients : (i j x y : ℕ) (p q : List Poly) → by_quotients i j p ≡ by_quotients x y q → p ≡ q
  same_quotients i j x y p q e = cc

  stands : (before : List Entry) (e : Entry) (b : Before (residue_ops c.system.p) (action_order c.system) given found.polys before e) (t : PairItem) (kind : EntryKind) → e.kind ≡ kind → IsPairItemOf c.system b.list (length found.polys) e.first e.second kind t → StandsFor t e
  stands before e b t coprime k is = subst (λ t. StandsFor t e) (sym is) (record { item = IsItem.disjoint k; good = λ x y q h. absurd (differ_coprime _ _ x y q h) })
  stands before e b t (chain by) k is = subst (λ t. StandsFor t e) (sym is) (record { item = IsItem.chained by k; good = λ x y q h. absurd (differ_chain _ _ _ x y q h) })
  stands before e b t (reduced added) k (q, is, r) = subst (λ t. StandsFor t e) (sym is) (record {
    item = IsItem.divided q added k (subst (λ hs. HasQuotients (residue_ops c.system.p) (action_order c.system) (variables_of c) hs e.first e.second q) (sym elements_are) (recorded_quotients c.system given given_first order found.polys before e b final added k q r));
    good = λ x y q' h. subst (λ q. are_good c.system (length (elements c)) (variables_of c) q ≡ true) (same_quotients _ _ x y q q' h)
        (subst (λ hs. are_good c.system (length hs) (variables_of c) q ≡ true) (sym elements_are) (recorded_form c.system given given_first order found.polys before e b final added k q r));
  })

  module _ (number : length items ≡ length found.journal)
      (each : (k : ℕ) (e : Entry) (item : PairItem) → k < length items → e ≡ get_or found.journal k e → item ≡ get_or items k item → IsPairItemOf c.system (take (elements_after c.system given (take k found.journal)) found.polys) (length found.polys) e.first e.second e.kind item) where
    walk : (done left : List Entry) (shown rest : List PairItem) → found.journal ≡ done ++ left → items ≡ shown ++ rest → length shown ≡ length done → AllZip StandsFor rest left
    walk done [] shown [] a b n = tt
    walk done [] shown (t ∷ rest) a b n = absurd (omega (arith, number, ap length a, ap length b, length-append done [], length-append shown (t ∷ rest), n))
    walk done (e ∷ left) shown [] a b n = absurd (omega (arith, number, ap length a, ap length b, length-append done (e ∷ left), length-append shown [], n))
    walk done (e ∷ left) shown (t ∷ rest) a b n =
        let before = journal_before (residue_ops c.system.p) (action_order c.system) given j done left e a in
        let inside : length done < length items = omega (arith, ap length b, length-append shown (t ∷ rest), n) in
        let at_e : e ≡ get_or found.journal (length done) e = sym (ap (λ (es : List Entry). get_or es (length done) e) a ∙ middle_at done e left e) in
        let at_t : t ≡ get_or items (length done) t = sym (ap₂ (λ (ts : List PairItem) (k : ℕ). get_or ts k t) b (sym n) ∙ middle_at shown t rest t) in
        let prefix : take (length done) found.journal ≡ done = ap (take (length done)) a ∙ take_done done (e ∷ left) in
        let f = made_begins (residue_ops c.system.p) (action_order c.system) given done before.list e.first e.second e.steps e.kind before.made before.entry.makes in
        let whole : found.polys ≡ before.list ++ (f.0 ++ before.more) = before.whole ∙ ap (λ (fs : List Poly). fs ++ before.more) f.1 ∙ append_assoc before.list f.0 before.more in
        let list_is : take (elements_after c.system given (take (length done) found.journal)) found.polys ≡ before.list =
        ap₂ take (ap (λ (es : List Entry). elements_after c.system given es) prefix ∙ journal_counts (residue_ops c.system.p) (action_order c.system) given before.journal) whole ∙ take_done before.list (f.0 ++ before.more) in (
          stands done e before t e.kind refl (subst (λ hs. IsPairItemOf c.system hs (length found.polys) e.first e.second e.kind t) list_is (each (length done) e t inside at_e at_t)),
          walk (done ++ e ∷ []) left (shown ++ t ∷ []) rest (a ∙ sym (append_assoc done (e ∷ []) left)) (b ∙ sym (append_assoc shown (t ∷ []) rest)) (omega (arith, length-append shown (t ∷ []), length-append done (e ∷ []), n)),
        )

    -- each entry stands for the journal's, and has its form
    pub pair_items : AllZip StandsFor items found.journal
    pair_items = walk [] found.journal [] items refl refl refl
