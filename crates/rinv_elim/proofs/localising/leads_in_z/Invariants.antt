use Rattle.std.proofs.Common.{◌≡◌, map, take}
use Rattle.rinv_reduction.specs.Localised.{lead_in_z}
use Rattle.rinv_elim.proofs.localising.leads_in_z.Given as goal

abbrev pub invariant-elements : goal.invariant-elements
invariant-elements l = l.leads.items ≡ map (lead_in_z l.system.system) (take l.h-index l.cut)
