use Rattle.std.proofs.Common.{map}
use Rattle.rinv_cert.specs.Seen.{pair_item_by}
use Rattle.rinv_cert.specs.Seen.{plain}
use Rattle.rinv_basis_check.proofs.PairEntries.{AreDone}
use Rattle.rinv_basis_check.proofs.pairs.pairs_failure.Given as goal

abbrev pub invariant-entries : goal.invariant-entries
invariant-entries l = AreDone (plain l.stored) l.listed (map (pair_item_by (λ f. f)) l.pairs) l.k
