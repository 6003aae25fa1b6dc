use Rattle.std.proofs.Common.{map, take, zip}
use Rattle.std.specs.Prelude.{flat_map}
use Rattle.std.specs.List.{AllZip}
use Rattle.rinv_algebra.specs.Ring.{IsSame}
use Rattle.rinv_algebra.specs.Residue.{residue_ops}
use Rattle.rinv_algebra.specs.Polynomial.{poly_ops}
use Rattle.rinv_reduction.specs.Localised.{all_count}
use Rattle.rinv_defs.specs.System.{space_count}
use Rattle.rinv_defs.specs.Certificate.{Certificate}
use Rattle.rinv_poly.specs.Sums.{sum_of}
use Rattle.rinv_cert.specs.Seen.{tail_item_by}
use Rattle.rinv_parts.specs.Points.{ArePolynomials}
use Rattle.rinv_acceptance.specs.Raised.{IsTailItemOf}
use Rattle.rinv_certification.specs.Made.{HasCommonPart}
use Rattle.rinv_certify.specs.Wholes.{TailFits, term_in}
use Rattle.rinv_certify.proofs.tails.tail_items.Given as goal

abbrev pub invariant-tail : goal.invariant-tail
invariant-tail l = let s = l.gens.told.system in record {
  items : AllZip (λ x t. IsTailItemOf s l.factors x.0 x.1 t) (take l.k (zip l.relation.tail (map (λ y. y.1) l.symbols.tail))) (map (tail_item_by (λ f. f)) l.items.items);
  normal : ArePolynomials s.p (space_count s) (map (λ t. t.1) l.items.items);
  terms : ArePolynomials s.p (all_count s) l.terms.items;
  sum : IsSame (poly_ops (residue_ops s.p)) (sum_of l.terms.items) (flat_map (term_in s) l.items.items);
  fits : (whole : Certificate) → HasCommonPart l.gens whole → TailFits whole l.d l.items.items;
}
