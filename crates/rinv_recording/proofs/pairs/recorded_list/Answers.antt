use Rattle.std.proofs.Common.{◌≡◌, ◌<◌, ◌+◌, ◌∙◌, ℕ, List, [], ◌∷◌, ◌++◌, true, false, rules, length, map, take, get_or, sym, subst, arith, nat_lt}
use Rattle.std.proofs.lemmas.List.{map-append}
use Rattle.std.proofs.lemmas.Result.{err_from_is_err_and}
use Rattle.rinv_algebra.specs.Residue.{residue_ops}
use Rattle.rinv_algebra.specs.Polynomial.{is_zero}
use Rattle.rinv_algebra.specs.Normal.{IsNormal}
use Rattle.rinv_ring.specs.Fault.{DegreesMeet}
use Rattle.rinv_defs.specs.Certificate.{PairItem}
use Rattle.rinv_cert.specs.Seen.{pair_item_by}
use Rattle.rinv_cofactors.specs.Combining.{adds}
use Rattle.rinv_buch.specs.Kinds.{entry_of, journal_of}
use Rattle.rinv_recording.specs.Recorded.{PairMeets}
use Rattle.rinv_recording.proofs.EntryItems.{items-end, entry-meets}
use Rattle.rinv_recording.proofs.JournalPlaces.{found_of, no_entry, stands, stored-at, stored-number}
use Rattle.rinv_recording.proofs.RecordedSteps.{IsRecordedTo, is-setting, recorded-few, recorded-begin, recorded-over, element-has, basis-normal, basis-nonzero, front-normal, front-nonzero, entry-has-room, next-inside, recorded-stay, recorded-add}
use Rattle.rinv_recording.proofs.pairs.recorded_list.Goals as goal
use Rattle.rinv_recording.proofs.pairs.recorded_list.Goals.{then-adds+in_ok-push-2, else-adds}

pub given_count-made-requires : goal.given_count-made-requires
given_count-made-requires c = recorded-few c.args.system.now.system (found_of c.args.polys.now c.args.journal.now) c.requires.action

pub divisors_of-requires-clause-polys : goal.divisors_of-requires-clause-polys
divisors_of-requires-clause-polys c =
    let s = c.args.system.now.system in
    let found = found_of c.args.polys.now c.args.journal.now in
    let p = c.action_ring-ring.result.coeffs in
    let v = c.action_ring-ring.result.vars in
    let ends = c.in_ok-order.order in
    let set = is-setting s p v ends c.action_ring-ring.ensures.field c.action_ring-ring.ensures.vars c.in_ok-order.ensures.order c.in_ok-order.ensures.suits in
    front-normal s found c.requires.action p v ends set c.given_count-made.result

pub divisors_of-requires-clause-nonzero : goal.divisors_of-requires-clause-nonzero
divisors_of-requires-clause-nonzero c =
    let s = c.args.system.now.system in
    let found = found_of c.args.polys.now c.args.journal.now in
    let p = c.action_ring-ring.result.coeffs in
    let v = c.action_ring-ring.result.vars in
    let ends = c.in_ok-order.order in
    let set = is-setting s p v ends c.action_ring-ring.ensures.field c.action_ring-ring.ensures.vars c.in_ok-order.ensures.order c.in_ok-order.ensures.suits in
    front-nonzero s found c.requires.action p v ends set c.given_count-made.result

pub divisors_of-requires-clause-suits : goal.divisors_of-requires-clause-suits
divisors_of-requires-clause-suits c = c.action_ring-ring.ensures.vars ∙ c.in_ok-order.ensures.suits

pub entries-init : goal.entries-init
entries-init c =
    let s = c.args.system.now.system in
    let found = found_of c.args.polys.now c.args.journal.now in
    let p = c.action_ring-ring.result.coeffs in
    let v = c.action_ring-ring.result.vars in
    let ends = c.in_ok-order.order in
    let set = is-setting s p v ends c.action_ring-ring.ensures.field c.action_ring-ring.ensures.vars c.in_ok-order.ensures.order c.in_ok-order.ensures.suits in
    let made = c.given_count-made.result in
    let ds = c.in_ok-divisors.divisors.list.items in
    rw c.new-items.ensures.items (recorded-over s found p v ends c.order.inside.ends.items (sym c.order.view_is) 0 made ds [] (recorded-begin s found c.requires.action p v ends set made c.given_count-made.ensures ds c.in_ok-divisors.ensures))

pub item_of-requires-clause-polys : goal.item_of-requires-clause-polys
item_of-requires-clause-polys c =
    let s = c.args.system.now.system in
    let found = found_of c.args.polys.now c.args.journal.now in
    let p = c.action_ring-ring.result.coeffs in
    let v = c.action_ring-ring.result.vars in
    let ends = c.in_ok-order.order in
    let set = is-setting s p v ends c.action_ring-ring.ensures.field c.action_ring-ring.ensures.vars c.in_ok-order.ensures.order c.in_ok-order.ensures.suits in
    basis-normal s found c.requires.action p v ends set

pub item_of-requires-clause-divisors : goal.item_of-requires-clause-divisors
item_of-requires-clause-divisors c =
    let s = c.args.system.now.system in
    let found = found_of c.args.polys.now c.args.journal.now in
    let p = c.action_ring-ring.result.coeffs in
    let v = c.action_ring-ring.result.vars in
    let ends = c.in_ok-order.order in
    let set = is-setting s p v ends c.action_ring-ring.ensures.field c.action_ring-ring.ensures.vars c.in_ok-order.ensures.order c.in_ok-order.ensures.suits in
    let k = c.entries.k in
    let made = c.entries.made in
    let ds = c.entries.divisors.list.items in
    let items = map (pair_item_by (λ f. f)) c.entries.items.items in
    let so_far = recorded-over s found p v c.order.inside.ends.items ends c.order.view_is k made ds items c.entries.invariant in
    so_far.divisors

pub item_of-requires-clause-suits : goal.item_of-requires-clause-suits
item_of-requires-clause-suits c = c.action_ring-ring.ensures.vars ∙ c.in_ok-order.ensures.suits

pub item_of-requires-clause-room : goal.item_of-requires-clause-room
item_of-requires-clause-room c =
    let s = c.args.system.now.system in
    let found = found_of c.args.polys.now c.args.journal.now in
    let p = c.action_ring-ring.result.coeffs in
    let v = c.action_ring-ring.result.vars in
    let ends = c.in_ok-order.order in
    let set = is-setting s p v ends c.action_ring-ring.ensures.field c.action_ring-ring.ensures.vars c.in_ok-order.ensures.order c.in_ok-order.ensures.suits in
    let k = c.entries.k in
    let made = c.entries.made in
    let ds = c.entries.divisors.list.items in
    let items = map (pair_item_by (λ f. f)) c.entries.items.items in
    let so_far = recorded-over s found p v c.order.inside.ends.items ends c.order.view_is k made ds items c.entries.invariant in
    let seen = c.args.journal.now in
    let stored = get_or seen k no_entry in
    let e = entry_of stored in
    let low : k < length (journal_of seen) = omega (arith, c.entries-test.true, stored-number seen) in
    let at = stored-at seen k stored c.entries-test.true (stands seen k c.entries-test.true) in
    entry-has-room s found c.requires.action p v ends set k made ds items so_far e low at

pub returns-in_err-item-clause-degree : goal.returns-in_err-item-clause-degree
returns-in_err-item-clause-degree c =
    let s = c.args.system.now.system in
    let found = found_of c.args.polys.now c.args.journal.now in
    let p = c.action_ring-ring.result.coeffs in
    let v = c.action_ring-ring.result.vars in
    let ends = c.in_ok-order.order in
    let set = is-setting s p v ends c.action_ring-ring.ensures.field c.action_ring-ring.ensures.vars c.in_ok-order.ensures.order c.in_ok-order.ensures.suits in
    let k = c.entries.k in
    let made = c.entries.made in
    let ds = c.entries.divisors.list.items in
    let items = map (pair_item_by (λ f. f)) c.entries.items.items in
    let so_far = recorded-over s found p v c.order.inside.ends.items ends c.order.view_is k made ds items c.entries.invariant in
    let seen = c.args.journal.now in
    let stored = get_or seen k no_entry in
    let e = entry_of stored in
    let low : k < length (journal_of seen) = omega (arith, c.entries-test.true, stored-number seen) in
    let at = stored-at seen k stored c.entries-test.true (stands seen k c.entries-test.true) in
    let fault = c.in_err-item.field-0.0 in
    let q = err_from_is_err_and c.from_residual-in_err-item.result c.from_residual-in_err-item.ensures.1 in
    rw (q.1, q.2) (entry-meets s found k e low at fault (subst (λ (n : ℕ). DegreesMeet (PairMeets s (take n c.args.polys.now) c.args.polys.now e.first e.second) fault) so_far.made_is (c.in_err-item.ensures s set)))

pub bounds-polys-made : goal.bounds-polys-made
bounds-polys-made c =
    let s = c.args.system.now.system in
    let found = found_of c.args.polys.now c.args.journal.now in
    let p = c.action_ring-ring.result.coeffs in
    let v = c.action_ring-ring.result.vars in
    let ends = c.in_ok-order.order in
    let set = is-setting s p v ends c.action_ring-ring.ensures.field c.action_ring-ring.ensures.vars c.in_ok-order.ensures.order c.in_ok-order.ensures.suits in
    let k = c.entries.k in
    let made = c.entries.made in
    let ds = c.entries.divisors.list.items in
    let items = map (pair_item_by (λ f. f)) c.entries.items.items in
    let so_far = recorded-over s found p v c.order.inside.ends.items ends c.order.view_is k made ds items c.entries.invariant in
    let seen = c.args.journal.now in
    let stored = get_or seen k no_entry in
    let e = entry_of stored in
    let low : k < length (journal_of seen) = omega (arith, c.entries-test.true, stored-number seen) in
    let at = stored-at seen k stored c.entries-test.true (stands seen k c.entries-test.true) in
    let on : adds e.kind ≡ true = sym c.adds.ensures ∙ c.if-adds.true in
    let inside : made < length c.args.polys.now = next-inside s found c.requires.action p v ends set k made ds items so_far e low at on in
    inside

pub offset_bounds-polys-made : goal.offset_bounds-polys-made
offset_bounds-polys-made c =
    let s = c.args.system.now.system in
    let found = found_of c.args.polys.now c.args.journal.now in
    let p = c.action_ring-ring.result.coeffs in
    let v = c.action_ring-ring.result.vars in
    let ends = c.in_ok-order.order in
    let set = is-setting s p v ends c.action_ring-ring.ensures.field c.action_ring-ring.ensures.vars c.in_ok-order.ensures.order c.in_ok-order.ensures.suits in
    let k = c.entries.k in
    let made = c.entries.made in
    let ds = c.entries.divisors.list.items in
    let items = map (pair_item_by (λ f. f)) c.entries.items.items in
    let so_far = recorded-over s found p v c.order.inside.ends.items ends c.order.view_is k made ds items c.entries.invariant in
    let seen = c.args.journal.now in
    let stored = get_or seen k no_entry in
    let e = entry_of stored in
    let low : k < length (journal_of seen) = omega (arith, c.entries-test.true, stored-number seen) in
    let at = stored-at seen k stored c.entries-test.true (stands seen k c.entries-test.true) in
    let on : adds e.kind ≡ true = sym c.adds.ensures ∙ c.if-adds.true in
    let inside : made < length c.args.polys.now = next-inside s found c.requires.action p v ends set k made ds items so_far e low at on in
    search (rules, inside)

pub push-requires-then-adds-clause-polynomial : goal.push-requires-then-adds-clause-polynomial
push-requires-then-adds-clause-polynomial c =
    let s = c.args.system.now.system in
    let found = found_of c.args.polys.now c.args.journal.now in
    let p = c.action_ring-ring.result.coeffs in
    let v = c.action_ring-ring.result.vars in
    let ends = c.in_ok-order.order in
    let set = is-setting s p v ends c.action_ring-ring.ensures.field c.action_ring-ring.ensures.vars c.in_ok-order.ensures.order c.in_ok-order.ensures.suits in
    let k = c.entries.k in
    let made = c.entries.made in
    let ds = c.entries.divisors.list.items in
    let items = map (pair_item_by (λ f. f)) c.entries.items.items in
    let so_far = recorded-over s found p v c.order.inside.ends.items ends c.order.view_is k made ds items c.entries.invariant in
    let seen = c.args.journal.now in
    let stored = get_or seen k no_entry in
    let e = entry_of stored in
    let low : k < length (journal_of seen) = omega (arith, c.entries-test.true, stored-number seen) in
    let at = stored-at seen k stored c.entries-test.true (stands seen k c.entries-test.true) in
    let on : adds e.kind ≡ true = sym c.adds.ensures ∙ c.if-adds.true in
    let inside : made < length c.args.polys.now = next-inside s found c.requires.action p v ends set k made ds items so_far e low at on in
    element-has (IsNormal (residue_ops p) (λ n. nat_lt n p) v) c.args.polys.now made c.index-polys-made.result (basis-normal s found c.requires.action p v ends set) inside c.index-polys-made.is

pub push-requires-then-adds-clause-nonzero : goal.push-requires-then-adds-clause-nonzero
push-requires-then-adds-clause-nonzero c =
    let s = c.args.system.now.system in
    let found = found_of c.args.polys.now c.args.journal.now in
    let p = c.action_ring-ring.result.coeffs in
    let v = c.action_ring-ring.result.vars in
    let ends = c.in_ok-order.order in
    let set = is-setting s p v ends c.action_ring-ring.ensures.field c.action_ring-ring.ensures.vars c.in_ok-order.ensures.order c.in_ok-order.ensures.suits in
    let k = c.entries.k in
    let made = c.entries.made in
    let ds = c.entries.divisors.list.items in
    let items = map (pair_item_by (λ f. f)) c.entries.items.items in
    let so_far = recorded-over s found p v c.order.inside.ends.items ends c.order.view_is k made ds items c.entries.invariant in
    let seen = c.args.journal.now in
    let stored = get_or seen k no_entry in
    let e = entry_of stored in
    let low : k < length (journal_of seen) = omega (arith, c.entries-test.true, stored-number seen) in
    let at = stored-at seen k stored c.entries-test.true (stands seen k c.entries-test.true) in
    let on : adds e.kind ≡ true = sym c.adds.ensures ∙ c.if-adds.true in
    let inside : made < length c.args.polys.now = next-inside s found c.requires.action p v ends set k made ds items so_far e low at on in
    element-has (λ h. is_zero (residue_ops p) h ≡ false) c.args.polys.now made c.index-polys-made.result (basis-nonzero s found c.requires.action p v ends set) inside c.index-polys-made.is

pub overflow_add-made : goal.overflow_add-made
overflow_add-made c =
    let s = c.args.system.now.system in
    let found = found_of c.args.polys.now c.args.journal.now in
    let p = c.action_ring-ring.result.coeffs in
    let v = c.action_ring-ring.result.vars in
    let ends = c.in_ok-order.order in
    let set = is-setting s p v ends c.action_ring-ring.ensures.field c.action_ring-ring.ensures.vars c.in_ok-order.ensures.order c.in_ok-order.ensures.suits in
    let k = c.entries.k in
    let made = c.entries.made in
    let ds = c.entries.divisors.list.items in
    let items = map (pair_item_by (λ f. f)) c.entries.items.items in
    let so_far = recorded-over s found p v c.order.inside.ends.items ends c.order.view_is k made ds items c.entries.invariant in
    let seen = c.args.journal.now in
    let stored = get_or seen k no_entry in
    let e = entry_of stored in
    let low : k < length (journal_of seen) = omega (arith, c.entries-test.true, stored-number seen) in
    let at = stored-at seen k stored c.entries-test.true (stands seen k c.entries-test.true) in
    let on : adds e.kind ≡ true = sym c.adds.ensures ∙ c.if-adds.true in
    let inside : made < length c.args.polys.now = next-inside s found c.requires.action p v ends set k made ds items so_far e low at on in
    search (rules, inside)

pub entries-preserved : goal.entries-preserved
entries-preserved c =
    let s = c.args.system.now.system in
    let found = found_of c.args.polys.now c.args.journal.now in
    let p = c.action_ring-ring.result.coeffs in
    let v = c.action_ring-ring.result.vars in
    let ends = c.in_ok-order.order in
    let set = is-setting s p v ends c.action_ring-ring.ensures.field c.action_ring-ring.ensures.vars c.in_ok-order.ensures.order c.in_ok-order.ensures.suits in
    let k = c.entries.k in
    let made = c.entries.made in
    let ds = c.entries.divisors.list.items in
    let items = map (pair_item_by (λ f. f)) c.entries.items.items in
    let so_far = recorded-over s found p v c.order.inside.ends.items ends c.order.view_is k made ds items c.entries.invariant in
    let seen = c.args.journal.now in
    let stored = get_or seen k no_entry in
    let e = entry_of stored in
    let low : k < length (journal_of seen) = omega (arith, c.entries-test.true, stored-number seen) in
    let at = stored-at seen k stored c.entries-test.true (stands seen k c.entries-test.true) in
    let x = pair_item_by (λ f. f) c.in_ok-item.item in
    let item = c.in_ok-item.ensures s set in
    let more : map (pair_item_by (λ f. f)) (c.entries.items.items ++ c.in_ok-item.item ∷ []) ≡ items ++ x ∷ [] = map-append (pair_item_by (λ f. f)) c.entries.items.items (c.in_ok-item.item ∷ []) in
    let own = c.order.inside.ends.items in
    elim c.if-adds.branch [
      | then-adds+in_ok-push-2 w ↦
          let on : adds e.kind ≡ true = sym c.adds.ensures ∙ w.if-adds.true in
          let after = w.push-then-adds.new.self.list.items in
          let next = recorded-add s found c.requires.action p v ends set k made ds items so_far e low at x item on w.index-polys-made.result w.index-polys-made.is after w.in_ok-push-2.ensures in
          rw (w.made-is, w.divisors-is, c.in_ok-push.ensures.items) (subst (λ (xs : List PairItem). IsRecordedTo s found p v own (k + 1) (made + 1) after xs) (sym more) (recorded-over s found p v ends own (sym c.order.view_is) (k + 1) (made + 1) after (items ++ x ∷ []) next))
      | else-adds w ↦
          let off : adds e.kind ≡ false = sym c.adds.ensures ∙ w.if-adds.false in
          let next = recorded-stay s found c.requires.action p v ends set k made ds items so_far e low at x item off in
          rw (w.made-is, w.divisors-is, c.in_ok-push.ensures.items) (subst (λ (xs : List PairItem). IsRecordedTo s found p v own (k + 1) made ds xs) (sym more) (recorded-over s found p v ends own (sym c.order.view_is) (k + 1) made ds (items ++ x ∷ []) next))
    ]

pub returns-clause-items : goal.returns-clause-items
returns-clause-items c =
    let all : c.entries.k ≡ length (journal_of c.args.journal.now) = omega (arith, c.entries-test.false, c.entries.auto.k-end, stored-number c.args.journal.now) in
    items-end c.args.system.now.system (found_of c.args.polys.now c.args.journal.now) c.entries.k (map (pair_item_by (λ f. f)) c.entries.items.items) all c.entries.invariant.items_are

pub returns-clause-fits : goal.returns-clause-fits
returns-clause-fits c = c.entries.invariant.items_are.fits
