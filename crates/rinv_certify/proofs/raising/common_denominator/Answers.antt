use Rattle.std.proofs.Common.{◌≡◌, ◌∷◌, sym, subst}
use Rattle.std.proofs.lemmas.List.Elements.{All-head, All-tail}
use Rattle.rinv_frac.specs.Fractions.{IsPart}
use Rattle.rinv_defs.specs.System.{space_count}
use Rattle.rinv_parts.specs.Points.{ArePolynomials}
use Rattle.rinv_certify.proofs.raising.common_denominator.Goals as goal

pub times_factors-requires-clause-polynomial : goal.times_factors-requires-clause-polynomial
times_factors-requires-clause-polynomial c =
    let s = c.args.system.now.system in
    let split : c.args.factors.now ≡ c.in-Some.first.now ∷ c.in-Some.others.now = c.in-Some.ensures.cases.0 in
    subst (IsPart s.p (space_count s)) (sym c.in_ok-start.ensures) (All-head (IsPart s.p (space_count s)) c.in-Some.first.now c.in-Some.others.now (subst (ArePolynomials s.p (space_count s)) split c.requires.factors))

pub times_factors-requires-clause-factors : goal.times_factors-requires-clause-factors
times_factors-requires-clause-factors c =
    let s = c.args.system.now.system in
    let split : c.args.factors.now ≡ c.in-Some.first.now ∷ c.in-Some.others.now = c.in-Some.ensures.cases.0 in
    All-tail (IsPart s.p (space_count s)) c.in-Some.first.now c.in-Some.others.now (subst (ArePolynomials s.p (space_count s)) split c.requires.factors)
