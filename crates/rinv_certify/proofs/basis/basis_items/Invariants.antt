use Rattle.std.proofs.Common.{take}
use Rattle.std.specs.List.{AllZip}
use Rattle.rinv_certification.specs.Made.{IsBasisItemOf}
use Rattle.rinv_certify.specs.Parts.{BasisFits, basis_seen}
use Rattle.rinv_certify.proofs.basis.basis_items.Given as goal

abbrev pub invariant-elements : goal.invariant-elements
invariant-elements l = record {
  items : AllZip (IsBasisItemOf l.gens.told.system l.gens.group) (take l.k l.gens.action.polys) (basis_seen l.items.items);
  fits : BasisFits l.gens.told.system (basis_seen l.items.items);
}
