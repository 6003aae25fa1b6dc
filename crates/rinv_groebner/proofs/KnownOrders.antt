-- The orders in use order the monomials in some number of variables.
--   grevlex_orders, blocks_order    grevlex; block orders whose blocks hold the variables
use Rattle.std.proofs.Common.{ℕ, ◌≤◌, List, sum, sym, ◌∙◌, arith}
use Rattle.rinv_algebra.specs.Order.{grevlex, block_order}
use Rattle.rinv_algebra.proofs.BlockOrder.{block_order_laws}
use Rattle.rinv_algebra.proofs.Grevlex.{grevlex_laws, grevlex_ties, block_order_ties}
use Rattle.rinv_groebner.specs.Orders.{OrdersMonomials}

-- graded reverse lexicographic order
pub grevlex_orders : (v : ℕ) → OrdersMonomials grevlex v
grevlex_orders v = record { laws = grevlex_laws; ties = λ a b la lb e. grevlex_ties a b (la ∙ sym lb) e }

-- a block order
pub blocks_order : (sizes : List ℕ) (v : ℕ) → v ≤ sum sizes → OrdersMonomials (block_order sizes) v
blocks_order sizes v low = record { laws = block_order_laws sizes; ties = λ a b la lb e. block_order_ties sizes a b (la ∙ sym lb) (omega (arith, la, low)) e }
