use Rattle.rinv_groebner.proofs.KnownOrders.{grevlex_orders, blocks_order}
use Rattle.rinv_groebner.proofs.laws.known_orders.Goals as goal

pub returns : goal.returns
returns c = record { grevlex = grevlex_orders; blocks = blocks_order }
