use Rattle.std.proofs.Common.{rules, ◌≡◌, ◌<◌, ◌≤◌, ◌+◌, ◌∙◌, ℕ, List, [], ◌∷◌, true, false, ap, ap₂, sym, subst, subst₂, arith, length, get_or, map, take, All, None}
use Rattle.std.proofs.lemmas.Result.{err_from_is_err_and}
use Rattle.std.proofs.lemmas.List.{length-map, length_push, length-take-le, map-append}
use Rattle.std.proofs.lemmas.List.Elements.{All-map, All-take, All-push}
use Rattle.rinv_algebra.specs.Polynomial.{Polynomial, is_zero}
use Rattle.rinv_algebra.specs.Normal.{IsNormal}
use Rattle.rinv_groebner.specs.Orders.{OrdersMonomials}
use Rattle.rinv_groebner.proofs.ListElements.{all_first}
use Rattle.rinv_ring.specs.Fault.{DegreesMeet}
use Rattle.rinv_poly.proofs.Meets.{meet-weaker}
use Rattle.rinv_div.specs.Divisors.{AreDivisors}
use Rattle.rinv_div.proofs.DividedBy.{divisors-next}
use Rattle.rinv_buch.specs.declared.kinds.Entry.{Entry}
use Rattle.rinv_buch.specs.declared.kinds.EntryKind.TheVariants.{Reduced}
use Rattle.rinv_buch.specs.Kinds.{Found, entry_of}
use Rattle.rinv_cofactors.specs.Combining.{AreCofactors, CombiningMeets, RestMeets, adds}
use Rattle.rinv_buch.proofs.InVariables.{orders-monomials, all-in_variables}
use Rattle.rinv_cofactors.proofs.CombinedSums.{combines-sums, sums-at}
use Rattle.rinv_cofactors.proofs.JournalSteps.{IsCombined, entry-at, entries-number, elements-nonzero, combined-begin, combined-stay, combined-add, combined-end, combining-meets, pair-ascends, pair-inside, next-inside}
use Rattle.rinv_cofactors.proofs.combining.combinations.Goals as goal
use Rattle.rinv_cofactors.proofs.combining.combinations.Goals.{then-adds+in_ok-list+in_ok-push+in_ok-push-2, else-adds}

-- past the end
abbrev none : Entry
none = record { first = 0; second = 0; kind = Reduced None; steps = 0 }

pub slice_bounds-divisors_of-end : goal.slice_bounds-divisors_of-end
slice_bounds-divisors_of-end g c =
    let o = g.F.Ring.ops c.args.ring.now.coeffs in
    let cmp = g.O.MonoOrder.cmp c.args.order.now in
    let polys = c.args.basis.now.polys in
    let journal = c.args.basis.now.journal in
    let lists = map (λ us. us.items) c.in_ok-lists.lists.items in
    let whole : c.deref.result.now ≡ polys = c.deref.ensures.value ∙ ap (λ (b : Found _). b.polys) c.basis.view_is in
    let count : c.len.result ≡ length c.in_ok-lists.lists.items = search rules in
    let few = (combined-begin o cmp c.args.given.now (g.F.Ring.laws c.args.ring.now.coeffs) journal polys lists c.requires.journal c.in_ok-lists.ensures.units).few in
    sym (length-take-le c.len.result c.deref.result.now (omega (arith, count, few, length-map c.in_ok-lists.lists.items (λ us. us.items), ap length whole)))

pub divisors_of-requires-clause-nonzero : goal.divisors_of-requires-clause-nonzero
divisors_of-requires-clause-nonzero g c =
    let o = g.F.Ring.ops c.args.ring.now.coeffs in
    let cmp = g.O.MonoOrder.cmp c.args.order.now in
    let polys = c.args.basis.now.polys in
    let journal = c.args.basis.now.journal in
    let l = g.F.Ring.laws c.args.ring.now.coeffs in
    let field = g.met.F.Field.field_laws c.args.ring.now.coeffs in
    let v = c.args.ring.now.vars in
    let order : OrdersMonomials cmp v = orders-monomials v cmp (g.O.MonoOrder.fits c.args.order.now) (g.O.MonoOrder.laws c.args.order.now) (g.O.MonoOrder.ties c.args.order.now) c.requires.suits in
    let given_first = all_first o l v c.args.given.now (all-in_variables o (g.F.Ring.is_element c.args.ring.now.coeffs) v c.args.given.now c.requires.given) in
    let whole : c.deref.result.now ≡ polys = c.deref.ensures.value ∙ ap (λ (b : Found _). b.polys) c.basis.view_is in
    subst (λ (hs : List (Polynomial _)). All (λ h. is_zero o h ≡ false) (take c.len.result hs)) (sym whole) (All-take (λ h. is_zero o h ≡ false) c.len.result polys (elements-nonzero o cmp l field v order c.args.given.now given_first c.requires.journal))

pub entries-init : goal.entries-init
entries-init g c =
    let o = g.F.Ring.ops c.args.ring.now.coeffs in
    let cmp = g.O.MonoOrder.cmp c.args.order.now in
    let polys = c.args.basis.now.polys in
    let journal = c.args.basis.now.journal in
    let lists = map (λ us. us.items) c.in_ok-lists.lists.items in
    let whole : c.deref.result.now ≡ polys = c.deref.ensures.value ∙ ap (λ (b : Found _). b.polys) c.basis.view_is in
    let count : c.len.result ≡ length c.in_ok-lists.lists.items = search rules in
    record {
      combined = combined-begin o cmp c.args.given.now (g.F.Ring.laws c.args.ring.now.coeffs) journal polys lists c.requires.journal c.in_ok-lists.ensures.units;
      divisors = subst₂ (λ (n : ℕ) (hs : List (Polynomial _)). AreDivisors o (g.F.Ring.is_element c.args.ring.now.coeffs) c.args.ring.now.vars cmp (take n hs) c.in_ok-divisors.divisors.list.items) count whole c.in_ok-divisors.ensures;
      lengths = c.in_ok-lists.ensures.lengths;
      normal = c.in_ok-lists.ensures.normal;
    }

pub rest_cofactors-requires-clause-ascending : goal.rest_cofactors-requires-clause-ascending
rest_cofactors-requires-clause-ascending g c =
    let o = g.F.Ring.ops c.args.ring.now.coeffs in
    let cmp = g.O.MonoOrder.cmp c.args.order.now in
    let polys = c.args.basis.now.polys in
    let journal = c.args.basis.now.journal in
    let lists = map (λ us. us.items) c.entries.lists.items in
    let k = c.entries.entry-index in
    let stored = ap (λ (b : Found _). b.journal) c.basis.view_is in
    let e = entry_of (get_or c.deref-entry-items.result.now k none) in
    let at = entry-at c.basis.inside.journal.items c.deref-entry-items.result.now journal c.deref-entry-items.ensures.value stored k none c.entries-test.true in
    let inside : k < length journal = omega (arith, c.entries-test.true, entries-number c.basis.inside.journal.items c.deref-entry-items.result.now journal c.deref-entry-items.ensures.value stored) in
    pair-ascends o cmp c.args.given.now journal polys k lists c.entries.invariant.combined inside e at

pub rest_cofactors-requires-clause-inside : goal.rest_cofactors-requires-clause-inside
rest_cofactors-requires-clause-inside g c =
    let o = g.F.Ring.ops c.args.ring.now.coeffs in
    let cmp = g.O.MonoOrder.cmp c.args.order.now in
    let polys = c.args.basis.now.polys in
    let journal = c.args.basis.now.journal in
    let lists = map (λ us. us.items) c.entries.lists.items in
    let k = c.entries.entry-index in
    let stored = ap (λ (b : Found _). b.journal) c.basis.view_is in
    let e = entry_of (get_or c.deref-entry-items.result.now k none) in
    let at = entry-at c.basis.inside.journal.items c.deref-entry-items.result.now journal c.deref-entry-items.ensures.value stored k none c.entries-test.true in
    let inside : k < length journal = omega (arith, c.entries-test.true, entries-number c.basis.inside.journal.items c.deref-entry-items.result.now journal c.deref-entry-items.ensures.value stored) in
    let whole : c.deref-then-adds.result.now ≡ polys = c.deref-then-adds.ensures.value ∙ ap (λ (b : Found _). b.polys) c.basis.view_is in
    let count : c.len-then-adds.result ≡ length c.entries.lists.items = search rules in
    subst₂ (λ (n : ℕ) (hs : List (Polynomial _)). e.second < length (take n hs)) (length-map c.entries.lists.items (λ us. us.items) ∙ sym count) (sym whole) (pair-inside o cmp c.args.given.now journal polys k lists c.entries.invariant.combined inside e at)

pub returns-in_err-list-clause-degree : goal.returns-in_err-list-clause-degree
returns-in_err-list-clause-degree g c =
    let o = g.F.Ring.ops c.args.ring.now.coeffs in
    let cmp = g.O.MonoOrder.cmp c.args.order.now in
    let polys = c.args.basis.now.polys in
    let journal = c.args.basis.now.journal in
    let lists = map (λ us. us.items) c.entries.lists.items in
    let k = c.entries.entry-index in
    let stored = ap (λ (b : Found _). b.journal) c.basis.view_is in
    let e = entry_of (get_or c.deref-entry-items.result.now k none) in
    let at = entry-at c.basis.inside.journal.items c.deref-entry-items.result.now journal c.deref-entry-items.ensures.value stored k none c.entries-test.true in
    let inside : k < length journal = omega (arith, c.entries-test.true, entries-number c.basis.inside.journal.items c.deref-entry-items.result.now journal c.deref-entry-items.ensures.value stored) in
    let on : adds e.kind ≡ true = sym c.adds.ensures ∙ c.if-adds.true in
    let high = g.F.Ring.too_high c.args.ring.now.coeffs in
    let whole : c.deref-then-adds.result.now ≡ polys = c.deref-then-adds.ensures.value ∙ ap (λ (b : Found _). b.polys) c.basis.view_is in
    let count : c.len-then-adds.result ≡ length c.entries.lists.items = search rules in
    let front : take c.len-then-adds.result c.deref-then-adds.result.now ≡ take (length lists) polys = ap₂ take (count ∙ sym (length-map c.entries.lists.items (λ us. us.items))) whole in
    let p = err_from_is_err_and c.from_residual-in_err-list.result c.from_residual-in_err-list.ensures.1 in
    let is_element = g.F.Ring.is_element c.args.ring.now.coeffs in
    let v = c.args.ring.now.vars in
    let all_stored = All-map (All (IsNormal o is_element v)) (λ us. us.items) c.entries.lists.items c.entries.invariant.normal in
    rw (p.1, p.2) (meet-weaker (RestMeets o is_element high v cmp (take (length lists) polys) lists e.first e.second) (CombiningMeets o is_element high v cmp c.args.given.now journal polys)
    (combining-meets o cmp c.args.given.now journal polys k lists c.entries.invariant.combined inside e at on is_element high v all_stored) c.in_err-list.field-0.0
    (subst₂ (λ (hs : List (Polynomial _)) ls. DegreesMeet (RestMeets o is_element high v cmp hs (map (λ us. us.items) ls) e.first e.second) c.in_err-list.field-0.0) front c.deref-then-adds-2.ensures.value c.in_err-list.ensures.degree))

pub index-requires : goal.index-requires
index-requires g c =
    let o = g.F.Ring.ops c.args.ring.now.coeffs in
    let cmp = g.O.MonoOrder.cmp c.args.order.now in
    let polys = c.args.basis.now.polys in
    let journal = c.args.basis.now.journal in
    let lists = map (λ us. us.items) c.entries.lists.items in
    let k = c.entries.entry-index in
    let stored = ap (λ (b : Found _). b.journal) c.basis.view_is in
    let e = entry_of (get_or c.deref-entry-items.result.now k none) in
    let at = entry-at c.basis.inside.journal.items c.deref-entry-items.result.now journal c.deref-entry-items.ensures.value stored k none c.entries-test.true in
    let inside : k < length journal = omega (arith, c.entries-test.true, entries-number c.basis.inside.journal.items c.deref-entry-items.result.now journal c.deref-entry-items.ensures.value stored) in
    let on : adds e.kind ≡ true = sym c.adds.ensures ∙ c.if-adds.true in
    let count : c.len-then-adds-2.result ≡ length c.entries.lists.items = search rules in
    let low : c.len-then-adds-2.result < length c.basis.inside.polys.items = omega (arith, count, next-inside o cmp c.args.given.now journal polys k lists c.entries.invariant.combined inside e at on, length-map c.entries.lists.items (λ us. us.items), ap length (ap (λ (b : Found _). b.polys) c.basis.view_is)) in
    search (rules, low)

pub push-requires-clause-polynomial : goal.push-requires-clause-polynomial
push-requires-clause-polynomial g c =
    let o = g.F.Ring.ops c.args.ring.now.coeffs in
    let cmp = g.O.MonoOrder.cmp c.args.order.now in
    let polys = c.args.basis.now.polys in
    let journal = c.args.basis.now.journal in
    let lists = map (λ us. us.items) c.entries.lists.items in
    let k = c.entries.entry-index in
    let stored = ap (λ (b : Found _). b.journal) c.basis.view_is in
    let e = entry_of (get_or c.deref-entry-items.result.now k none) in
    let at = entry-at c.basis.inside.journal.items c.deref-entry-items.result.now journal c.deref-entry-items.ensures.value stored k none c.entries-test.true in
    let inside : k < length journal = omega (arith, c.entries-test.true, entries-number c.basis.inside.journal.items c.deref-entry-items.result.now journal c.deref-entry-items.ensures.value stored) in
    let on : adds e.kind ≡ true = sym c.adds.ensures ∙ c.if-adds.true in
    let normal = IsNormal o (g.F.Ring.is_element c.args.ring.now.coeffs) c.args.ring.now.vars in
    let view = ap (λ (b : Found _). b.polys) c.basis.view_is in
    let count : c.len-then-adds-2.result ≡ length c.entries.lists.items = search rules in
    let low : c.len-then-adds-2.result < length polys = omega (arith, count, next-inside o cmp c.args.given.now journal polys k lists c.entries.invariant.combined inside e at on, length-map c.entries.lists.items (λ us. us.items)) in
    subst normal (sym (c.index.ensures ∙ ap (λ (hs : List (Polynomial _)). get_or hs c.len-then-adds-2.result c.index.result.now) view)) (c.requires.polys c.len-then-adds-2.result c.index.result.now low)

pub push-requires-clause-nonzero : goal.push-requires-clause-nonzero
push-requires-clause-nonzero g c =
    let o = g.F.Ring.ops c.args.ring.now.coeffs in
    let cmp = g.O.MonoOrder.cmp c.args.order.now in
    let polys = c.args.basis.now.polys in
    let journal = c.args.basis.now.journal in
    let l = g.F.Ring.laws c.args.ring.now.coeffs in
    let field = g.met.F.Field.field_laws c.args.ring.now.coeffs in
    let v = c.args.ring.now.vars in
    let order : OrdersMonomials cmp v = orders-monomials v cmp (g.O.MonoOrder.fits c.args.order.now) (g.O.MonoOrder.laws c.args.order.now) (g.O.MonoOrder.ties c.args.order.now) c.requires.suits in
    let given_first = all_first o l v c.args.given.now (all-in_variables o (g.F.Ring.is_element c.args.ring.now.coeffs) v c.args.given.now c.requires.given) in
    let lists = map (λ us. us.items) c.entries.lists.items in
    let k = c.entries.entry-index in
    let stored = ap (λ (b : Found _). b.journal) c.basis.view_is in
    let e = entry_of (get_or c.deref-entry-items.result.now k none) in
    let at = entry-at c.basis.inside.journal.items c.deref-entry-items.result.now journal c.deref-entry-items.ensures.value stored k none c.entries-test.true in
    let inside : k < length journal = omega (arith, c.entries-test.true, entries-number c.basis.inside.journal.items c.deref-entry-items.result.now journal c.deref-entry-items.ensures.value stored) in
    let on : adds e.kind ≡ true = sym c.adds.ensures ∙ c.if-adds.true in
    let view = ap (λ (b : Found _). b.polys) c.basis.view_is in
    let count : c.len-then-adds-2.result ≡ length c.entries.lists.items = search rules in
    let low : c.len-then-adds-2.result < length polys = omega (arith, count, next-inside o cmp c.args.given.now journal polys k lists c.entries.invariant.combined inside e at on, length-map c.entries.lists.items (λ us. us.items)) in
    subst (λ (h : Polynomial _). is_zero o h ≡ false) (sym (c.index.ensures ∙ ap (λ (hs : List (Polynomial _)). get_or hs c.len-then-adds-2.result c.index.result.now) view))
    (elements-nonzero o cmp l field v order c.args.given.now given_first c.requires.journal c.len-then-adds-2.result c.index.result.now low)

pub entries-preserved : goal.entries-preserved
entries-preserved g c =
    let o = g.F.Ring.ops c.args.ring.now.coeffs in
    let cmp = g.O.MonoOrder.cmp c.args.order.now in
    let polys = c.args.basis.now.polys in
    let journal = c.args.basis.now.journal in
    let l = g.F.Ring.laws c.args.ring.now.coeffs in
    let field = g.met.F.Field.field_laws c.args.ring.now.coeffs in
    let v = c.args.ring.now.vars in
    let order : OrdersMonomials cmp v = orders-monomials v cmp (g.O.MonoOrder.fits c.args.order.now) (g.O.MonoOrder.laws c.args.order.now) (g.O.MonoOrder.ties c.args.order.now) c.requires.suits in
    let given_first = all_first o l v c.args.given.now (all-in_variables o (g.F.Ring.is_element c.args.ring.now.coeffs) v c.args.given.now c.requires.given) in
    let lists = map (λ us. us.items) c.entries.lists.items in
    let k = c.entries.entry-index in
    let stored = ap (λ (b : Found _). b.journal) c.basis.view_is in
    let e = entry_of (get_or c.deref-entry-items.result.now k none) in
    let at = entry-at c.basis.inside.journal.items c.deref-entry-items.result.now journal c.deref-entry-items.ensures.value stored k none c.entries-test.true in
    let inside : k < length journal = omega (arith, c.entries-test.true, entries-number c.basis.inside.journal.items c.deref-entry-items.result.now journal c.deref-entry-items.ensures.value stored) in
    let is_element = g.F.Ring.is_element c.args.ring.now.coeffs in
    let view = ap (λ (b : Found _). b.polys) c.basis.view_is in
    elim c.if-adds.branch [
      | then-adds+in_ok-list+in_ok-push+in_ok-push-2 w ↦
          let on : adds e.kind ≡ true = sym c.adds.ensures ∙ w.if-adds.true in
          let n = length c.entries.lists.items in
          let whole : w.deref-then-adds.result.now ≡ polys = w.deref-then-adds.ensures.value ∙ view in
          let count : w.len-then-adds.result ≡ n = search rules in
          let count' : w.len-then-adds-2.result ≡ n = search rules in
          let front : take w.len-then-adds.result w.deref-then-adds.result.now ≡ take (length lists) polys = ap₂ take (count ∙ sym (length-map c.entries.lists.items (λ us. us.items))) whole in
          let low : n < length polys = omega (arith, next-inside o cmp c.args.given.now journal polys k lists c.entries.invariant.combined inside e at on, length-map c.entries.lists.items (λ us. us.items)) in
          let element : w.index.result.now ≡ get_or polys n w.index.result.now = w.index.ensures ∙ ap₂ (λ (hs : List (Polynomial _)) (m : ℕ). get_or hs m w.index.result.now) view count' in
          let (rest, of_rest) = w.in_ok-list.ensures.cofactors in
          let us = w.in_ok-list.list.items in
          let own = subst₂ (λ (hs : List (Polynomial _)) ls. AreCofactors o cmp (length c.args.given.now) hs (map (λ us. us.items) ls) e.first e.second rest us) front w.deref-then-adds-2.ensures.value of_rest in
          rw (w.lists-is, w.divisors-is, w.in_ok-push-2.ensures.items) (record {
            combined = subst (IsCombined o cmp c.args.given.now journal polys (k + 1)) (sym (map-append (λ us. us.items) c.entries.lists.items (w.in_ok-list.list ∷ []))) (combined-add o cmp c.args.given.now journal polys k lists c.entries.invariant.combined inside e at on l field v order given_first us rest own);
            divisors = subst (λ (m : ℕ). AreDivisors o is_element v cmp (take m polys) w.push.new.self.list.items) (sym (length_push c.entries.lists.items w.in_ok-list.list))
                (divisors-next o l is_element v cmp (g.O.MonoOrder.laws c.args.order.now) polys n w.index.result.now c.entries.divisors.list.items w.push.new.self.list.items low element c.entries.invariant.divisors w.in_ok-push.ensures);
            lengths = All-push (λ us. length us.items ≡ length c.args.given.now) c.entries.lists.items w.in_ok-list.list c.entries.invariant.lengths of_rest.number;
            normal = All-push (λ us. All (IsNormal o is_element v) us.items) c.entries.lists.items w.in_ok-list.list c.entries.invariant.normal w.in_ok-list.ensures.normal;
          })
      | else-adds w ↦ rw (w.lists-is, w.divisors-is) (record {
        combined = combined-stay o cmp c.args.given.now journal polys k lists c.entries.invariant.combined inside e at (sym c.adds.ensures ∙ w.if-adds.false);
        divisors = c.entries.invariant.divisors;
        lengths = c.entries.invariant.lengths;
        normal = c.entries.invariant.normal;
      })
    ]

pub returns-clause-sums_up : goal.returns-clause-sums_up
returns-clause-sums_up g c =
    let o = g.F.Ring.ops c.args.ring.now.coeffs in
    let cmp = g.O.MonoOrder.cmp c.args.order.now in
    let polys = c.args.basis.now.polys in
    let journal = c.args.basis.now.journal in
    let l = g.F.Ring.laws c.args.ring.now.coeffs in
    let lists = map (λ us. us.items) c.entries.lists.items in
    let stored = ap (λ (b : Found _). b.journal) c.basis.view_is in
    let past : length journal ≤ c.entries.entry-index = omega (arith, c.entries-test.false, entries-number c.basis.inside.journal.items c.deref-entry-items.result.now journal c.deref-entry-items.ensures.value stored) in
    sums-at o l c.args.given.now polys lists (combines-sums o l c.args.given.now cmp (combined-end o cmp c.args.given.now journal polys c.entries.entry-index lists past c.entries.invariant.combined).0)
