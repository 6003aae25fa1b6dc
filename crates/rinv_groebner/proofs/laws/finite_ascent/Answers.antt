use Rattle.rinv_groebner.proofs.Ascents.{ascents_end}
use Rattle.rinv_groebner.proofs.Falls.{undivided-less}
use Rattle.rinv_groebner.proofs.laws.finite_ascent.Goals as goal

pub returns : goal.returns
returns c = record { well_founded = ascents_end; measured = undivided-less }
