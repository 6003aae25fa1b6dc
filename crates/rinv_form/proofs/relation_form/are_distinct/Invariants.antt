use Rattle.std.proofs.Common.{◌≡◌, take, map, true}
use Rattle.rinv_defs.specs.Format.{are_distinct}
use Rattle.rinv_form.proofs.relation_form.are_distinct.Given as goal

abbrev pub invariant-terms : goal.invariant-terms
invariant-terms l = record {
  front : map (λ v. v.items) l.earlier.keys ≡ map (λ t. t.0) (take l.k l.tail);
  distinct : are_distinct (map (λ t. t.0) (take l.k l.tail)) ≡ true;
}
