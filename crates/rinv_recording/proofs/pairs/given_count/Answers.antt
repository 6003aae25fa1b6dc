use Rattle.std.proofs.Common.{◌∙◌, get_or, sym, arith}
use Rattle.rinv_recording.proofs.JournalPlaces.{no_entry, stands, given-left, given-less, given-same, given-end}
use Rattle.rinv_recording.proofs.pairs.given_count.Goals as goal
use Rattle.rinv_recording.proofs.pairs.given_count.Goals.{then-adds, else-adds}

pub entries-init : goal.entries-init
entries-init c = omega arith

pub overflow_sub-given : goal.overflow_sub-given
overflow_sub-given c =
    let seen = c.args.journal.now in
    let k = c.entries.k in
    given-left seen c.args.count k c.entries.given c.entries.invariant (get_or seen k no_entry) c.entries-test.true (stands seen k c.entries-test.true) (sym c.adds.ensures ∙ c.if-adds.true) c.requires

pub entries-preserved : goal.entries-preserved
entries-preserved c =
    let seen = c.args.journal.now in
    let k = c.entries.k in
    elim c.if-adds.branch [
      | then-adds w ↦ rw w.given-is (given-less seen c.args.count k c.entries.given c.entries.invariant (get_or seen k no_entry) c.entries-test.true (stands seen k c.entries-test.true) (sym c.adds.ensures ∙ w.if-adds.true) c.requires)
      | else-adds w ↦ rw w.given-is (given-same seen c.args.count k c.entries.given c.entries.invariant (get_or seen k no_entry) c.entries-test.true (stands seen k c.entries-test.true) (sym c.adds.ensures ∙ w.if-adds.false))
    ]

pub returns : goal.returns
returns c = given-end c.args.journal.now c.args.count c.entries.k c.entries.given c.entries.invariant (omega (arith, c.entries-test.false))
