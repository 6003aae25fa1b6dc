use Rattle.std.proofs.Common.{◌≡◌, ◌∙◌, ◌++◌, List, ap, inl, subst}
use Rattle.rinv_groebner.specs.Journal.{Entry}
use Rattle.rinv_buch.specs.Causes.{StopsSo}
use Rattle.rinv_action.specs.Action.{HaltsInAction}
use Rattle.rinv_gens.proofs.runs.both_runs.Goals as goal

pub returns-in_ok-journal-in-Err-Incomplete-clause-stop : goal.returns-in_ok-journal-in-Err-Incomplete-clause-stop
returns-in_ok-journal-in-Err-Incomplete-clause-stop c =
    let s = c.args.system.now.system in
    let group = c.in_ok-group.group in
    let after = c.action_basis.new.budget in
    let halts = subst (StopsSo (HaltsInAction s c.in_ok-group.left after)) c.in-Err-Incomplete.field-0-is c.in-Err-Incomplete.ensures.stop in
    inl (record {
      hold = c.in_ok-group.ensures.hold;
      group = group.basis;
      reduced = group.reduced.items;
      left = c.in_ok-group.left;
      group_ends = c.in_ok-group.ensures.ends;
      after = after;
      halted = c.in-Err-Incomplete.halt;
      halts = halts;
      kept = c.in-Err-Incomplete.ensures.still_within;
      entries = c.in_ok-journal-in-Err-Incomplete.ensures ∙ ap (λ (ds : List Entry). group.basis.journal ++ ds) (ap (λ h. h.journal) c.halt.view_is);
      cause = ap (λ h. h.why) c.halt.view_is;
    })
