use Rattle.std.proofs.Common.{◌≡◌, ◌∙◌, List, ℕ, sym, ap, subst, subst₂, nat_lt}
use Rattle.std.proofs.lemmas.Result.{err_from_is_err_and}
use Rattle.rinv_algebra.specs.Ring.{IsSame}
use Rattle.rinv_algebra.specs.Residue.{residue_ops}
use Rattle.rinv_algebra.specs.Polynomial.{poly_ops, term_product}
use Rattle.rinv_algebra.specs.Normal.{IsNormal}
use Rattle.rinv_reduction.specs.Localised.{all_count}
use Rattle.rinv_ring.specs.Fault.{DegreesMeet}
use Rattle.rinv_text.specs.Told.{Told}
use Rattle.rinv_defs.specs.System.{Poly, space_count}
use Rattle.rinv_defs.specs.RelationConditions.{z_power, behind_z}
use Rattle.rinv_acceptance.specs.Denominators.{raised}
use Rattle.rinv_gens.specs.Symbols.{tied_of as symbol_of}
use Rattle.rinv_generators.specs.Generated.{Generated}
use Rattle.rinv_certify.specs.Meets.{TermMeets}
use Rattle.rinv_certify.proofs.TailParts.{term-meets, tie-meets}
use Rattle.rinv_certify.proofs.tails.tail_item.Goals as goal

pub returns-in_err-value-clause-degree : goal.returns-in_err-value-clause-degree
returns-in_err-value-clause-degree c =
    let g = c.args.gens.now in
    let s = g.told.system in
    let ds = c.args.factors.now in
    let a = c.args.mono.now in
    let f = c.args.coefficient.now in
    let told : c.gens.inside.system ≡ g.told = ap (λ (x : Generated). x.told) c.gens.view_is in
    let made = c.in_ok-raised.raised in
    let value : IsSame (poly_ops (residue_ops s.p)) made (raised s ds f) = subst (λ (t : Told). IsSame (poly_ops (residue_ops t.system.p)) made (raised t.system ds f)) told c.in_ok-raised.ensures.value in
    let fault = c.in_err-value.field-0.0 in
    let q = err_from_is_err_and c.from_residual-in_err-value.result c.from_residual-in_err-value.ensures.1 in
    rw (q.1, q.2) (term-meets g ds c.args.d.now a f (symbol_of c.args.symbol) fault made value (subst (λ (t : Told). DegreesMeet (TermMeets t.system a made) fault) told c.in_err-value.ensures.degree))

pub tied-requires-clause-numerator : goal.tied-requires-clause-numerator
tied-requires-clause-numerator c =
    let told = ap (λ (x : Generated). x.told) c.gens.view_is in
    subst (λ (t : Told). IsNormal (residue_ops t.system.p) (λ n. nat_lt n t.system.p) (space_count t.system) c.in_ok-raised.raised) told c.in_ok-raised.ensures.normal

pub returns-in_err-tie-clause-degree : goal.returns-in_err-tie-clause-degree
returns-in_err-tie-clause-degree c =
    let g = c.args.gens.now in
    let s = g.told.system in
    let ds = c.args.factors.now in
    let a = c.args.mono.now in
    let f = c.args.coefficient.now in
    let told : c.gens.inside.system ≡ g.told = ap (λ (x : Generated). x.told) c.gens.view_is in
    let made = c.in_ok-raised.raised in
    let value : IsSame (poly_ops (residue_ops s.p)) made (raised s ds f) = subst (λ (t : Told). IsSame (poly_ops (residue_ops t.system.p)) made (raised t.system ds f)) told c.in_ok-raised.ensures.value in
    let fault = c.in_err-tie.field-0.0 in
    let q = err_from_is_err_and c.from_residual-in_err-tie.result c.from_residual-in_err-tie.ensures.1 in
    rw (q.1, q.2) (tie-meets g ds c.args.d.now a f (symbol_of c.args.symbol) fault made value c.in_err-tie.ensures.degree)

pub returns-clause-normal : goal.returns-clause-normal
returns-clause-normal c =
    let told = ap (λ (x : Generated). x.told) c.gens.view_is in
    let s = c.args.gens.now.told.system in
    subst (λ (h : Poly). IsNormal (residue_ops s.p) (λ n. nat_lt n s.p) (space_count s) h) (sym c.in_ok-c.ensures)
    (subst (λ (t : Told). IsNormal (residue_ops t.system.p) (λ n. nat_lt n t.system.p) (space_count t.system) c.in_ok-raised.raised) told c.in_ok-raised.ensures.normal)

pub returns-clause-term : goal.returns-clause-term
returns-clause-term c =
    let told = ap (λ (x : Generated). x.told) c.gens.view_is in
    let s = c.args.gens.now.told.system in
    let r = c.in_ok-value.value in
    record {
      normal = subst (λ (t : Told). IsNormal (residue_ops t.system.p) (λ n. nat_lt n t.system.p) (all_count t.system) r) told c.in_ok-value.ensures.normal;
      value = subst₂ (λ (b : List ℕ) (h : Poly). IsSame (poly_ops (residue_ops s.p)) r (term_product (residue_ops s.p) (z_power s b) (behind_z s h))) (sym (c.new.ensures ∙ c.in_ok-alpha.ensures)) (sym c.in_ok-c.ensures)
          (subst (λ (t : Told). IsSame (poly_ops (residue_ops t.system.p)) r (term_product (residue_ops t.system.p) (z_power t.system c.args.mono.now) (behind_z t.system c.in_ok-raised.raised))) told c.in_ok-value.ensures.value);
    }
