use Rattle.std.proofs.Common.{◌≡◌, ℕ, List, length, map, All, sym, subst}
use Rattle.rinv_algebra.specs.Ring.{IsSame}
use Rattle.rinv_algebra.specs.Residue.{residue_ops}
use Rattle.rinv_algebra.specs.Polynomial.{Term, poly_ops}
use Rattle.rinv_algebra.proofs.PolynomialLaws.{poly_laws}
use Rattle.rinv_algebra.proofs.ResidueLaws.{residue_laws}
use Rattle.rinv_poly.specs.Faults.{AreWorkedOut}
use Rattle.rinv_defs.specs.System.{Poly}
use Rattle.rinv_defs.specs.Certificate.{Tied}
use Rattle.rinv_soundness.specs.Rewriting.{SymbolPoly, symbol_of, symbol_poly}
use Rattle.rinv_coefficients.specs.Ties.{TiedRelation, with_symbols}
use Rattle.rinv_gens.specs.declared.kinds.Symbol.{Symbol}
use Rattle.rinv_gens.specs.Symbols.{tied_of}
use Rattle.rinv_rewrite.specs.Symbols.{IsSymbolIn, is_symbolic}
use Rattle.rinv_rewrite.specs.Terms.{tied_terms}
use Rattle.rinv_rewrite.proofs.TiedRelations.{relation-made}
use Rattle.rinv_rewrite.proofs.WorkedTerms.{all-behind, all-front, fused, worked-terms}
use Rattle.rinv_rewrite.proofs.relations.relation_poly.Goals as goal

abbrev tie : List ℕ × Symbol → List ℕ × Tied
tie t = (t.0, tied_of t.1)

abbrev with_symbol : ℕ → List ℕ × Symbol → Term Poly
with_symbol p t = (t.0, symbol_of p (tied_of t.1))

pub tail_terms-requires : goal.tail_terms-requires
tail_terms-requires c =
    let p = c.args.ring.now.coeffs.coeffs in
    let k = c.args.ring.now.coeffs.vars in
    rw c.deref.ensures.value (all-behind tie (λ (u : List ℕ × Tied). IsSymbolIn p k u.1) c.relation.inside.tail.items (subst (λ (r : TiedRelation). All (λ (u : List ℕ × Tied). IsSymbolIn p k u.1) r.tail) (sym c.relation.view_is) c.requires.symbols))

pub total-requires : goal.total-requires
total-requires c =
    let p = c.args.ring.now.coeffs.coeffs in
    let n = c.args.ring.now.vars in
    let xs = c.relation.inside.tail.items in
    let long : All (λ (u : List ℕ × Tied). length u.0 ≡ n) (map tie xs) = subst (λ (r : TiedRelation). All (λ (u : List ℕ × Tied). length u.0 ≡ n) r.tail) (sym c.relation.view_is) c.requires.vars in
    let worked = rw c.deref.ensures.value at c.in_ok-terms.ensures in
    worked-terms (poly_ops (residue_ops p)) (poly_laws (residue_ops p) (residue_laws p)) (is_symbolic p c.args.ring.now.coeffs.vars) n (map (with_symbol p) xs) c.in_ok-terms.terms.items
    (all-front (with_symbol p) (λ (t : Term Poly). length t.0 ≡ n) xs (all-behind tie (λ (u : List ℕ × Tied). length u.0 ≡ n) xs long)) worked

pub returns-clause-value : goal.returns-clause-value
returns-clause-value c =
    let p = c.args.ring.now.coeffs.coeffs in
    let k = c.args.ring.now.coeffs.vars in
    let n = c.args.ring.now.vars in
    let o = poly_ops (residue_ops p) in
    let xs = c.relation.inside.tail.items in
    let r : TiedRelation = record { lead = c.relation.inside.lead; tail = map tie xs } in
    let worked = rw c.deref.ensures.value at c.in_ok-terms.ensures in
    let tied : AreWorkedOut o (is_symbolic p k) (tied_terms p r.tail) c.in_ok-terms.terms.items = subst (λ (f : SymbolPoly). AreWorkedOut o (is_symbolic p k) f c.in_ok-terms.terms.items) (sym (fused tie (λ (u : List ℕ × Tied). (u.0, symbol_of p u.1)) xs)) worked in
    subst (λ (q : TiedRelation). IsSame (poly_ops o) c.in-Ok.difference (symbol_poly p (with_symbols p q))) c.relation.view_is
    (relation-made p k n r c.in_ok-lead.lead c.in_ok-terms.terms.items c.in_ok-tail.tail c.in-Ok.difference c.in_ok-lead.ensures.value tied c.in_ok-tail.ensures.value c.in-Ok.ensures.value)
