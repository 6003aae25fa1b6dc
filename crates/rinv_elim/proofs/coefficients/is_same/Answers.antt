use Rattle.std.proofs.Common.{◌∙◌, ◌&&◌, Bool, sym, ap}
use Rattle.rinv_algebra.specs.Monomial.{divides}
use Rattle.rinv_elim.proofs.SingleTerms.{same-divides}
use Rattle.rinv_elim.proofs.coefficients.is_same.Goals as goal

pub returns-then-divides : goal.returns-then-divides
returns-then-divides c =
    let a = c.args.a.now in
    let b = c.args.b.now in
    c.divides-then-divides.ensures ∙ ap (λ (x : Bool). x && divides b a) (sym c.if-divides.true ∙ c.divides.ensures) ∙ same-divides a b

pub returns-else-divides : goal.returns-else-divides
returns-else-divides c =
    let a = c.args.a.now in
    let b = c.args.b.now in
    c.if-divides.false ∙ ap (λ (x : Bool). x && divides b a) (sym c.if-divides.false ∙ c.divides.ensures) ∙ same-divides a b
