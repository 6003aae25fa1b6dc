use Rattle.std.proofs.Common.{◌≡◌, false, take}
use Rattle.std.specs.List.{list_any}
use Rattle.rinv_algebra.specs.Residue.{residue_ops}
use Rattle.rinv_algebra.specs.Polynomial.{same}
use Rattle.rinv_certify.proofs.raising.is_among.Given as goal

abbrev pub invariant-list : goal.invariant-list
invariant-list l = list_any (λ d. same (residue_ops l.system.system.p) d l.f) (take l.k l.list) ≡ false
