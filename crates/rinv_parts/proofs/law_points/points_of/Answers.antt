use Rattle.rinv_parts.proofs.law_points.points_of.Goals as goal

pub returns-in-A2 : goal.returns-in-A2
returns-in-A2 c = rw c.in-A2.is c.products_move_in_turn.ensures
