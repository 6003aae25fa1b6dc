use Rattle.std.proofs.Common.{◌≡◌, true, take}
use Rattle.std.specs.List.{list_all}
use Rattle.rinv_defs.specs.Certificate.{Certificate}
use Rattle.rinv_form.specs.Sized.{IsSized}
use Rattle.rinv_basis_check.proofs.TailTests.{is_shown}
use Rattle.rinv_basis_check.proofs.relations.are_tails.Given as goal

abbrev pub invariant-tail : goal.invariant-tail
invariant-tail l = (c : Certificate) → IsSized c l.sizes → l.fractions ≡ c.fractions → list_all (is_shown c l.relation.0 l.relation.1) (take l.k l.tail) ≡ true
