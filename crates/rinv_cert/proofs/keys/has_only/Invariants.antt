use Rattle.std.proofs.Common.{◌≡◌, bytes_eq, string_bytes}
use Rattle.std.specs.List.{list_all, list_any}
use Rattle.std.specs.BTreeMap.{keys}
use Rattle.rinv_cert.specs.KeySets.{keys_in}
use Rattle.rinv_cert.proofs.keys.has_only.Given as goal

abbrev pub invariant-loop-key : goal.invariant-loop-key
invariant-loop-key l =
    (goal.iterator-loop-key).can_next l.key-iterator × (goal.iterator-loop-key).is_finite l.key-iterator
    × (list_all (λ k. list_any (bytes_eq (string_bytes k)) (keys_in l.keys)) l.key-iterator ≡ list_all (λ k. list_any (bytes_eq (string_bytes k)) (keys_in l.keys)) (keys l.members))
