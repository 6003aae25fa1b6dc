use Rattle.std.proofs.Common.{◌∙◌, sym, ap, bytes_eq}
use Rattle.std.specs.List.{list_all, list_any}
use Rattle.rinv_cert.specs.KeySets.{keys_in}
use Rattle.rinv_cert.proofs.MemberKeys.{has_only-keys, is_one_of, foreign}
use Rattle.rinv_cert.proofs.keys.has_only.Goals as goal

pub returns-then-not-is_key : goal.returns-then-not-is_key
returns-then-not-is_key c =
    let keys = keys_in c.args.keys in
    foreign (is_one_of keys) c.in-Some.key.now c.next.new.self c.next.new.self _
    (ap (λ k. list_any (bytes_eq k) keys) (sym c.as_str.ensures.value) ∙ sym c.is_key.ensures ∙ c.if-not-is_key.true)
    (ap (list_all (is_one_of keys)) (sym c.in-Some.ensures.steps) ∙ c.loop-key.invariant.2 ∙ sym (has_only-keys keys c.args.members.now.entries))

pub returns : goal.returns
returns c =
    let keys = keys_in c.args.keys in
    ap (list_all (is_one_of keys)) (sym c.in-None.ensures.steps.0) ∙ c.loop-key.invariant.2 ∙ sym (has_only-keys keys c.args.members.now.entries)
