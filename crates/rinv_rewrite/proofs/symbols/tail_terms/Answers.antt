use Rattle.std.proofs.Common.{ℕ, List, map, sym, subst}
use Rattle.std.proofs.lemmas.List.{take_all}
use Rattle.rinv_algebra.specs.Residue.{residue_ops}
use Rattle.rinv_algebra.specs.Polynomial.{Term, poly_ops}
use Rattle.rinv_algebra.proofs.PolynomialLaws.{poly_laws}
use Rattle.rinv_algebra.proofs.ResidueLaws.{residue_laws}
use Rattle.rinv_poly.specs.Faults.{AreWorkedOut}
use Rattle.rinv_defs.specs.System.{Poly}
use Rattle.rinv_soundness.specs.Rewriting.{symbol_of}
use Rattle.rinv_gens.specs.declared.kinds.Symbol.{Symbol}
use Rattle.rinv_gens.specs.Symbols.{tied_of}
use Rattle.rinv_rewrite.specs.Symbols.{IsSymbolIn, is_symbolic}
use Rattle.rinv_rewrite.proofs.WorkedTerms.{worked-next}
use Rattle.rinv_rewrite.proofs.symbols.tail_terms.Goals as goal

-- a term with its symbol
abbrev with_symbol : ℕ → List ℕ × Symbol → Term Poly
with_symbol p t = (t.0, symbol_of p (tied_of t.1))

pub places-init : goal.places-init
places-init c = rw c.in_ok-terms.ensures.items tt

pub symbol-requires : goal.symbol-requires
symbol-requires c =
    let x = c.index-tail-k.result in
    rw c.coeffs.ensures (subst (λ (t : List ℕ × Symbol). IsSymbolIn c.args.ring.now.coeffs.coeffs c.args.ring.now.coeffs.vars (tied_of t.1)) (sym c.index-tail-k.is) (c.requires c.places.k x c.places-test.true))

pub places-preserved : goal.places-preserved
places-preserved c =
    let p = c.args.ring.now.coeffs.coeffs in
    let k = c.args.ring.now.coeffs.vars in
    let made = rw c.coeffs.ensures at c.in_ok-coefficient.ensures in
    rw c.in_ok-push.ensures.items (worked-next (poly_ops (residue_ops p)) (poly_laws (residue_ops p) (residue_laws p)) (is_symbolic p k) (with_symbol p) c.args.tail.now c.places.k c.index-tail-k.result c.places.terms.items c.in_ok-mono.mono c.in_ok-coefficient.coefficient
    c.places-test.true c.index-tail-k.is c.in_ok-mono.ensures made.element made.value c.places.invariant)

pub returns : goal.returns
returns c =
    let p = c.args.ring.now.coeffs.coeffs in
    subst (λ (xs : List (List ℕ × Symbol)). AreWorkedOut (poly_ops (residue_ops p)) (is_symbolic p c.args.ring.now.coeffs.vars) (map (with_symbol p) xs) c.places.terms.items) (take_all c.places.k c.args.tail.now c.places-test.false) c.places.invariant
