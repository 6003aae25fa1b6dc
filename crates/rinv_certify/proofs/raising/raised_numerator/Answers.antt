use Rattle.std.proofs.Common.{◌∙◌, List, not, ap, sym, subst, subst₂}
use Rattle.std.specs.Prelude.{filter}
use Rattle.std.proofs.lemmas.Result.{err_from_is_err_and}
use Rattle.rinv_algebra.specs.Residue.{residue_ops}
use Rattle.rinv_algebra.specs.Polynomial.{same}
use Rattle.rinv_ring.specs.Fault.{DegreesMeet}
use Rattle.rinv_frac.specs.Fractions.{IsPart}
use Rattle.rinv_frac.proofs.Stored.{stored}
use Rattle.rinv_defs.specs.System.{Poly, space_count}
use Rattle.rinv_certify.specs.Meets.{FactorsMeet}
use Rattle.rinv_certify.proofs.raising.raised_numerator.Goals as goal

pub factors_but-requires-clause-denominator : goal.factors_but-requires-clause-denominator
factors_but-requires-clause-denominator c =
    let s = c.args.system.now.system in
    subst (IsPart s.p (space_count s)) (sym c.den-den.ensures) (stored s.p (space_count s) c.args.c.now c.requires.coefficient).denominator

pub times_factors-requires-clause-polynomial : goal.times_factors-requires-clause-polynomial
times_factors-requires-clause-polynomial c =
    let s = c.args.system.now.system in
    subst (IsPart s.p (space_count s)) (sym (c.in_ok-start.ensures ∙ c.num-num.ensures)) (stored s.p (space_count s) c.args.c.now c.requires.coefficient).numerator

pub returns-in_err-product-clause-degree : goal.returns-in_err-product-clause-degree
returns-in_err-product-clause-degree c =
    let s = c.args.system.now.system in
    let q = err_from_is_err_and c.from_residual-in_err-product.result c.from_residual-in_err-product.ensures.1 in
    rw (q.1, q.2) (subst₂ (λ (f : Poly) (ds : List Poly). DegreesMeet (FactorsMeet s f ds) c.in_err-product.field-0.0) (c.in_ok-start.ensures ∙ c.num-num.ensures)
    (c.deref.ensures.value ∙ c.in_ok-others.ensures.value ∙ ap (λ (f : Poly). filter (λ d. not (same (residue_ops s.p) d f)) c.args.factors.now) c.den-den.ensures) c.in_err-product.ensures.degree)
