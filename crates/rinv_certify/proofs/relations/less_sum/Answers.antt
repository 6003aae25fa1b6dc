use Rattle.std.proofs.Common.{ℕ, subst, subst₂, nat_lt}
use Rattle.rinv_algebra.specs.Ring.{IsSame}
use Rattle.rinv_algebra.specs.Residue.{residue_ops}
use Rattle.rinv_algebra.specs.Polynomial.{poly_ops, difference}
use Rattle.rinv_algebra.specs.Normal.{IsNormal}
use Rattle.rinv_algebra.proofs.PolynomialLaws.{poly_laws}
use Rattle.rinv_algebra.proofs.ResidueLaws.{residue_laws}
use Rattle.rinv_reduction.specs.Localised.{all_count}
use Rattle.rinv_poly.specs.Sums.{sum_of}
use Rattle.rinv_parts.proofs.Values.{difference-stored}
use Rattle.rinv_certify.proofs.relations.less_sum.Goals as goal

pub returns : goal.returns
returns c =
    let s = c.args.system.now.system in
    let ring = c.action_ring-ring.ensures in
    let lead = c.args.lead.now in
    let sum = c.in-Ok.sum in
    let fs = c.args.terms.items in
    difference-stored s.p (all_count s) lead (sum_of fs) lead sum (record { normal = c.requires.lead; value = (poly_laws (residue_ops s.p) (residue_laws s.p)).same_refl lead })
    (record {
      normal = subst₂ (λ (p v : ℕ). IsNormal (residue_ops p) (λ n. nat_lt n p) v sum) ring.field ring.vars c.in-Ok.ensures.element;
      value = subst (λ (p : ℕ). IsSame (poly_ops (residue_ops p)) sum (sum_of fs)) ring.field c.in-Ok.ensures.value;
    })
    c.in-Ok-sub.less (subst₂ (λ (p v : ℕ). IsNormal (residue_ops p) (λ n. nat_lt n p) v c.in-Ok-sub.less) ring.field ring.vars c.in-Ok-sub.ensures.element)
    (subst (λ (p : ℕ). IsSame (poly_ops (residue_ops p)) c.in-Ok-sub.less (difference (residue_ops p) lead sum)) ring.field c.in-Ok-sub.ensures.value)
