use Rattle.std.proofs.Common.{length}
use Rattle.rinv_sub.proofs.rows.+product_by_rows.Given as goal

abbrev pub decreases-product_by_rows : goal.decreases-product_by_rows
decreases-product_by_rows g l = length l.terms.now
