use Rattle.std.proofs.Common.{◌≡◌, ◌<◌, ◌≤◌, get_or, length, map, subst}
use Rattle.std.proofs.lemmas.List.{take_all}
use Rattle.rinv_soundness.specs.Rewriting.{SymbolPoly}
use Rattle.rinv_rewrite.proofs.DownMonomials.{monomials-more}
use Rattle.rinv_rewrite.proofs.choosing.monomials.Goals as goal

pub places-init : goal.places-init
places-init c = c.in_ok-monomials.ensures.items

pub places-preserved : goal.places-preserved
places-preserved c =
    let x = c.index-terms-k.result in
    rw c.in_ok-push.ensures.items (monomials-more c.args.f.now c.places.k x c.places.monomials.items c.in_ok-copy.copy (subst (λ (ts : SymbolPoly). c.places.k < length ts) c.terms-terms.ensures.value c.places-test.true)
    (subst (λ (ts : SymbolPoly). x ≡ get_or ts c.places.k x) c.terms-terms.ensures.value c.index-terms-k.is) c.in_ok-copy.ensures c.places.invariant)

pub returns : goal.returns
returns c =
    let whole : length c.args.f.now ≤ c.places.k = subst (λ (ts : SymbolPoly). length ts ≤ c.places.k) c.terms-terms.ensures.value c.places-test.false in
    subst (λ (xs : SymbolPoly). c.places.monomials.items ≡ map (λ t. t.0) xs) (take_all c.places.k c.args.f.now whole) c.places.invariant
