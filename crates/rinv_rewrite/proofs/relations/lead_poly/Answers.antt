use Rattle.std.proofs.Common.{◌≡◌, ◌∙◌, ◌++◌, ◌∷◌, [], ℕ, List, sym, ap, subst}
use Rattle.rinv_algebra.specs.Ring.{IsSame}
use Rattle.rinv_algebra.specs.Residue.{residue_ops}
use Rattle.rinv_algebra.specs.Polynomial.{poly_ops}
use Rattle.rinv_algebra.proofs.PolynomialLaws.{poly_laws}
use Rattle.rinv_algebra.proofs.ResidueLaws.{residue_laws}
use Rattle.rinv_soundness.specs.Rewriting.{SymbolPoly}
use Rattle.rinv_rewrite.specs.Symbols.{is_symbolic}
use Rattle.rinv_rewrite.proofs.WorkedTerms.{one-term}
use Rattle.rinv_rewrite.proofs.relations.lead_poly.Goals as goal

pub returns-clause-value : goal.returns-clause-value
returns-clause-value c =
    let p = c.args.ring.now.coeffs.coeffs in
    let o = poly_ops (residue_ops p) in
    let l = poly_laws (residue_ops p) (residue_laws p) in
    let u = c.in_ok-one.one in
    let target : SymbolPoly = (c.args.lead.now, o.one) ∷ [] in
    let items : c.push.new.self.items ≡ (c.in_ok-mono.mono, u) ∷ [] = c.in_ok-push.ensures.items ∙ ap (λ (xs : SymbolPoly). xs ++ (c.in_ok-mono.mono, u) ∷ []) c.new-terms.ensures.items in
    let one : IsSame o u o.one = rw c.coeffs.ensures at c.in_ok-one.ensures.value in
    (poly_laws o l).same_trans c.in_ok-poly.poly c.push.new.self.items target c.in_ok-poly.ensures.value
    (subst (λ (ts : SymbolPoly). IsSame (poly_ops o) ts target) (sym items) (subst (λ (m : List ℕ). IsSame (poly_ops o) ((m, u) ∷ []) target) (sym c.in_ok-mono.ensures) (one-term o l (is_symbolic p c.args.ring.now.coeffs.vars) c.args.lead.now u o.one one)))
