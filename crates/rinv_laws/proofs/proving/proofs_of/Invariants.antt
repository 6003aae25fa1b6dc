use Rattle.std.proofs.Common.{◌≡◌, map, take, All}
use Rattle.rinv_parts.specs.LawNames.{law_of}
use Rattle.rinv_laws.specs.Proofs.{proved_laws, ProvesLaw}
use Rattle.rinv_laws.proofs.proving.proofs_of.Given as goal

abbrev pub invariant-laws : goal.invariant-laws
invariant-laws l = record {
  laws : map (λ e. law_of e.0) l.proofs.items ≡ take l.k proved_laws;
  proofs : All (λ e. ProvesLaw l.system.system l.group.basis (law_of e.0) (map (λ us. us.items) e.1.items)) l.proofs.items;
}
