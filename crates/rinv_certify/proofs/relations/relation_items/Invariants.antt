use Rattle.std.proofs.Common.{◌≡◌, true, take, zip}
use Rattle.std.specs.List.{AllZip, list_all}
use Rattle.rinv_defs.specs.Certificate.{Certificate}
use Rattle.rinv_acceptance.specs.Fits.{relation_multiplies}
use Rattle.rinv_certification.specs.Made.{HasCommonPart, IsRelationItemOf}
use Rattle.rinv_certify.specs.Parts.{relations_seen}
use Rattle.rinv_certify.proofs.relations.relation_items.Given as goal

abbrev pub invariant-relations : goal.invariant-relations
invariant-relations l = record {
  items : AllZip (λ x item. IsRelationItemOf l.gens.told.system l.gens.group x.0 x.1 item) (take l.k (zip l.gens.monic l.gens.relations)) (relations_seen l.items.items);
  fits : (c : Certificate) → HasCommonPart l.gens c → list_all (relation_multiplies c) (relations_seen l.items.items) ≡ true;
}
