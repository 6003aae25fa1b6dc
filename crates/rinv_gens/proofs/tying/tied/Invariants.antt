use Rattle.std.proofs.Common.{◌≡◌, ◌++◌, map, take, All}
use Rattle.std.specs.List.{AllZip}
use Rattle.rinv_frac.specs.Fractions.{IsStored}
use Rattle.rinv_coefficients.specs.Coefficients.{new_values}
use Rattle.rinv_gens.specs.Symbols.{tied_of}
use Rattle.rinv_gens.proofs.Tied.{IsTiedTerm}
use Rattle.rinv_gens.proofs.tying.tied.Given as goal

abbrev pub invariant-terms : goal.invariant-terms
invariant-terms l = let p = l.field.base.coeffs in let first = l.fn.fractions.items in record {
  fractions : l.fractions.items ≡ first ++ new_values p first (take l.k (map (λ t. t.1) l.relation.tail));
  stored : All (IsStored p l.field.base.vars) l.fractions.items;
  ties : AllZip (IsTiedTerm p l.fractions.items) (map (λ t. (t.0, tied_of t.1)) l.tail.items) (take l.k l.relation.tail);
}
