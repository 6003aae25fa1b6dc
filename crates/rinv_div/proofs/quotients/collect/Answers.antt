use Rattle.std.proofs.Common.{map, sym, ◌∙◌}
use Rattle.std.proofs.lemmas.List.{length-map}
use Rattle.rinv_div.proofs.Rounds.{collected-more}
use Rattle.rinv_div.proofs.quotients.collect.Goals as goal

pub returns-in_ok-push_at-in-Some-clause-collected : goal.returns-in_ok-push_at-in-Some-clause-collected
returns-in_ok-push_at-in-Some-clause-collected g c n steps h =
    let before = c.args.lists.now.items in
    let after = c.push_at.new.lists.items in
    rw c.in-Some.is
    (collected-more n steps (map (λ x. x.items) before) (map (λ x. x.items) after) c.in-Some.place c.in-Some.multiplier
    (length-map after (λ x. x.items) ∙ c.in_ok-push_at-in-Some.ensures.len ∙ sym (length-map before (λ x. x.items))) c.in_ok-push_at-in-Some.ensures.here c.in_ok-push_at-in-Some.ensures.others h)

pub returns-in-None-clause-collected : goal.returns-in-None-clause-collected
returns-in-None-clause-collected g c n steps h = rw c.in-None.is h
