use Rattle.rinv_system.proofs.SystemWritten.{all-lines}
use Rattle.rinv_system.proofs.write.write_system.Goals as goal

pub returns : goal.returns
returns c =
    all-lines _ _ _ _ _ _ _ _ _ c.system.view_is c.new-out.ensures.items c.in_ok-write_first.ensures c.in_ok-write_ideal.ensures c.in_ok-write_maps.ensures c.in_ok-write_section.ensures c.in_ok-budget_line.ensures c.in_ok-budget_line-2.ensures
