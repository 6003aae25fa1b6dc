use Rattle.std.proofs.Common.{◌∙◌, ◌<◌, ◌≤◌, length, sym, arith}
use Rattle.rinv_cert.specs.Faults.{part_word}
use Rattle.rinv_cert.proofs.Entries.{one_more, stopped, ended, refused_at}
use Rattle.rinv_cert.proofs.members.entries.Goals as goal

pub returns-in_default-clause-fault : goal.returns-in_default-clause-fault
returns-in_default-clause-fault g c =
    let within : c.entries.k < length c.args.values.now = omega (arith, c.entries-test.true, c.entries.auto.k-end) in
    refused_at _ _ c.args.part _ _ c.refusal.ensures c.in_ok-number.ensures.ok
    (sym c.entries.invariant ∙ stopped (part_word c.args.part) g.S.Shape.shape _ _ _ _ within c.index-values-k.is (sym c.in_default.is ∙ c.in_ok-entry.ensures))

pub entries-preserved : goal.entries-preserved
entries-preserved g c =
    let within : c.entries.k < length c.args.values.now = omega (arith, c.entries-test.true, c.entries.auto.k-end) in
    rw c.in-Ok.ensures.items (one_more (part_word c.args.part) g.S.Shape.shape _ _ _ _ _ within c.index-values-k.is (sym c.in-Some.is ∙ c.in_ok-entry.ensures) ∙ c.entries.invariant)

pub returns-clause-ok : goal.returns-clause-ok
returns-clause-ok g c =
    let past : length c.args.values.now ≤ c.entries.k = omega (arith, c.entries-test.false, c.entries.auto.k-end) in
    rw c.new.ensures (sym c.entries.invariant ∙ ended (part_word c.args.part) g.S.Shape.shape _ _ _ past)
