use Rattle.std.proofs.Common.{◌≡◌, ◌∙◌, ◌+◌, ◌<◌, ◌≤◌, length, map, if◌then◌else◌, Some, None, get_or, sym, ap, subst, arith}
use Rattle.rinv_cert.specs.Seen.{kind_of, plain, basis_item_by, pair_item_by}
use Rattle.rinv_basis_check.proofs.PairEntries.{entry_form, none_done, entry_fails, entry_done, entry_fresh, all_done, entry_at, entry_ascends, within_map, past_map}
use Rattle.rinv_defs.proofs.PartCounts.{length-map}
use Rattle.rinv_basis_check.proofs.EntryForms.{entry-in}
use Rattle.rinv_basis_check.proofs.pairs.pairs_failure.Goals as goal

pub entries-init : goal.entries-init
entries-init c = rw c.empty-listed.ensures (none_done (plain c.args.stored.now) _ (ap (map (pair_item_by (λ f. f))) c.as_slice-pairs.ensures))

pub returns-then-not-branch : goal.returns-then-not-branch
returns-then-not-branch c =
    let within : c.entries.k < length c.as_slice-pairs.result.now = omega (arith, c.entries-test.true, c.entries.auto.k-end) in
    ap Some c.in_ok-number.ensures ∙ sym (entry_fails (plain c.args.stored.now) _ _ c.entries.k _ c.entries.invariant (within_map (pair_item_by (λ f. f)) _ _ within) (entry_at (pair_item_by (λ f. f)) _ c.entries.k _ within c.index-pairs-k.is)
    (sym (c.in_ok-is_good_entry.ensures (plain c.args.stored.now) c.entries.invariant.earlier c.requires.basis c.entries.invariant.same) ∙ c.if-not-branch.true))

pub add-requires : goal.add-requires
add-requires c = rw c.places-i.ensures (entry_fresh (plain c.args.stored.now) c.entries.listed c.entries.invariant.earlier (pair_item_by (λ f. f) c.index-pairs-k.result) c.entries.invariant.same
    (sym (c.in_ok-is_good_entry.ensures (plain c.args.stored.now) c.entries.invariant.earlier c.requires.basis c.entries.invariant.same) ∙ c.if-not-branch.false))

pub entries-preserved : goal.entries-preserved
entries-preserved c =
    let within : c.entries.k < length c.as_slice-pairs.result.now = omega (arith, c.entries-test.true, c.entries.auto.k-end) in
    let inside = within_map (pair_item_by (λ f. f)) c.as_slice-pairs.result.now c.entries.k within in
    let stands = entry_at (pair_item_by (λ f. f)) c.as_slice-pairs.result.now c.entries.k _ within c.index-pairs-k.is in
    let same = ap (map (pair_item_by (λ f. f))) c.as_slice-pairs.ensures in
    rw (c.in_ok-add.ensures, c.places-i.ensures) (entry_done (plain c.args.stored.now) c.entries.listed _ c.entries.k (pair_item_by (λ f. f) c.index-pairs-k.result) c.entries.invariant inside stands
    (entry_ascends (plain c.args.stored.now) c.entries.k _ (ap kind_of c.requires.kind) c.requires.form (subst (λ es. c.entries.k < length es) same inside) (stands ∙ ap (λ es. get_or es c.entries.k (pair_item_by (λ f. f) c.index-pairs-k.result)) same))
    (sym (c.in_ok-is_good_entry.ensures (plain c.args.stored.now) c.entries.invariant.earlier c.requires.basis c.entries.invariant.same) ∙ c.if-not-branch.false))

pub returns-then-are_all_listed : goal.returns-then-are_all_listed
returns-then-are_all_listed c =
    let past : length c.as_slice-pairs.result.now ≤ c.entries.k = omega (arith, c.entries-test.false, c.entries.auto.k-end) in
    sym (all_done (plain c.args.stored.now) c.entries.listed _ c.entries.k c.in-Ok.count c.entries.invariant (past_map (pair_item_by (λ f. f)) c.as_slice-pairs.result.now c.entries.k past)
    (c.in-Ok.ensures.1 ∙ ap length c.as_slice.ensures ∙ sym (length-map (basis_item_by (λ f. f)) c.args.stored.now.basis))
    ∙ ap (λ b. if b then None else Some (c.entries.k + 1)) (sym c.are_all_listed.ensures ∙ c.if-are_all_listed.true))

pub returns : goal.returns
returns c =
    let past : length c.as_slice-pairs.result.now ≤ c.entries.k = omega (arith, c.entries-test.false, c.entries.auto.k-end) in
    let after : c.entries.k + 1 ≡ c.in_ok-after.after = omega (arith, c.in_ok-after.ensures, c.entries-test.false, c.entries.auto.k-end) in
    sym (all_done (plain c.args.stored.now) c.entries.listed _ c.entries.k c.in-Ok.count c.entries.invariant (past_map (pair_item_by (λ f. f)) c.as_slice-pairs.result.now c.entries.k past)
    (c.in-Ok.ensures.1 ∙ ap length c.as_slice.ensures ∙ sym (length-map (basis_item_by (λ f. f)) c.args.stored.now.basis))
    ∙ ap (λ b. if b then None else Some (c.entries.k + 1)) (sym c.are_all_listed.ensures ∙ c.if-are_all_listed.false) ∙ ap Some after)

pub is_good_entry-requires : goal.is_good_entry-requires
is_good_entry-requires c =
    let within : c.entries.k < length c.as_slice-pairs.result.now = omega (arith, c.entries-test.true, c.entries.auto.k-end) in
    let inside = within_map (pair_item_by (λ f. f)) c.as_slice-pairs.result.now c.entries.k within in
    let stands = entry_at (pair_item_by (λ f. f)) c.as_slice-pairs.result.now c.entries.k _ within c.index-pairs-k.is in
    let same = ap (map (pair_item_by (λ f. f))) c.as_slice-pairs.ensures in
    record {
      form = entry-in (plain c.args.stored.now) c.args.basis.now c.index-pairs-k.result c.requires.basis
          (entry_form (plain c.args.stored.now) c.entries.k _ (ap kind_of c.requires.kind) c.requires.form (subst (λ es. c.entries.k < length es) same inside) (stands ∙ ap (λ es. get_or es c.entries.k (pair_item_by (λ f. f) c.index-pairs-k.result)) same));
    }
