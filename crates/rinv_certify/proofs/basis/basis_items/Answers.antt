use Rattle.std.proofs.Common.{◌≡◌, ◌<◌, ◌≤◌, ℕ, [], List, length, get_or, ap, subst, arith}
use Rattle.std.specs.List.{AllZip}
use Rattle.std.proofs.lemmas.List.{get_or_default, take_all}
use Rattle.std.proofs.lemmas.Result.{err_from_is_err_and}
use Rattle.rinv_buch.specs.Kinds.{Found}
use Rattle.rinv_defs.specs.System.{Poly}
use Rattle.rinv_cert.specs.Seen.{basis_item_by}
use Rattle.rinv_generators.specs.Generated.{Generated}
use Rattle.rinv_certification.specs.Made.{IsBasisItemOf}
use Rattle.rinv_certify.specs.Parts.{basis_seen}
use Rattle.rinv_certify.proofs.BasisItems.{elements-met, fits-more}
use Rattle.rinv_certify.proofs.Taken.{zipped-more}
use Rattle.rinv_certify.proofs.basis.basis_items.Goals as goal

pub basis_item-requires-clause-inside : goal.basis_item-requires-clause-inside
basis_item-requires-clause-inside c =
    let g = c.args.gens.now in
    let many : c.len-count.result ≡ length g.action.polys = omega (arith, c.len-count.ensures, ap (λ (x : Found ℕ). length x.polys) c.action.view_is, ap (λ (x : Generated). length x.action.polys) c.gens.view_is) in
    omega (arith, many, c.elements-test.true)

pub elements-preserved : goal.elements-preserved
elements-preserved c =
    let g = c.args.gens.now in
    let s = g.told.system in
    let many : c.len-count.result ≡ length g.action.polys = omega (arith, c.len-count.ensures, ap (λ (x : Found ℕ). length x.polys) c.action.view_is, ap (λ (x : Generated). length x.action.polys) c.gens.view_is) in
    let inside : c.elements.k < length g.action.polys = omega (arith, many, c.elements-test.true) in
    let h = get_or g.action.polys c.elements.k [] in
    rw c.in_ok-push.ensures.items (record {
      items = zipped-more (IsBasisItemOf s g.group) (basis_item_by (λ f. f)) g.action.polys c.elements.k h c.elements.items.items c.in_ok-item.item inside (get_or_default g.action.polys c.elements.k [] h inside) c.elements.invariant.items c.in_ok-item.ensures.item;
      fits = fits-more s c.elements.items.items c.in_ok-item.item c.elements.invariant.fits c.in_ok-item.ensures.fits;
    })

pub returns-in_err-item-clause-degree : goal.returns-in_err-item-clause-degree
returns-in_err-item-clause-degree c =
    let g = c.args.gens.now in
    let s = g.told.system in
    let many : c.len-count.result ≡ length g.action.polys = omega (arith, c.len-count.ensures, ap (λ (x : Found ℕ). length x.polys) c.action.view_is, ap (λ (x : Generated). length x.action.polys) c.gens.view_is) in
    let inside : c.elements.k < length g.action.polys = omega (arith, many, c.elements-test.true) in
    let h = get_or g.action.polys c.elements.k [] in
    let q = err_from_is_err_and c.from_residual-in_err-item.result c.from_residual-in_err-item.ensures.1 in
    rw (q.1, q.2) (elements-met g c.elements.k h c.in_err-item.field-0.0 inside (get_or_default g.action.polys c.elements.k [] h inside) c.in_err-item.ensures.degree)

pub returns-clause-items : goal.returns-clause-items
returns-clause-items c =
    let g = c.args.gens.now in
    let s = g.told.system in
    let many : c.len-count.result ≡ length g.action.polys = omega (arith, c.len-count.ensures, ap (λ (x : Found ℕ). length x.polys) c.action.view_is, ap (λ (x : Generated). length x.action.polys) c.gens.view_is) in
    let past : length g.action.polys ≤ c.elements.k = omega (arith, many, c.elements-test.false) in
    rw c.new.ensures (subst (λ (hs : List Poly). AllZip (IsBasisItemOf s g.group) hs (basis_seen c.elements.items.items)) (take_all c.elements.k g.action.polys past) c.elements.invariant.items)

pub returns-clause-fits : goal.returns-clause-fits
returns-clause-fits c = rw c.new.ensures c.elements.invariant.fits
