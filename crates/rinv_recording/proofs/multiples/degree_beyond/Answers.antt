use Rattle.std.proofs.Common.{◌≡◌, ◌-◌, ◌∙◌, get_or, arith, ap₂, refl}
use Rattle.rinv_cofactors.proofs.PairMultipliers.{beyond-le, beyond-next, beyond-bound, beyond-end}
use Rattle.rinv_recording.proofs.multiples.degree_beyond.Goals as goal

pub variables-init : goal.variables-init
variables-init c = omega arith

pub overflow_add-degree : goal.overflow_add-degree
overflow_add-degree c =
    let here : c.saturating_sub-degree.result ≡ get_or c.args.other.now c.variables.k 0 - get_or c.args.mono.now c.variables.k 0 = c.saturating_sub-degree.ensures ∙ ap₂ ◌-◌ c.exponent.ensures c.exponent-in-variables.ensures in
    let bound = beyond-bound c.args.mono.now c.args.other.now c.args.mono.now c.args.other.now refl refl c.requires c.variables.k c.variables.degree c.saturating_sub-degree.result (omega (arith, c.variables-test.true, c.vars-k-end.ensures)) here c.variables.invariant in
    record { fits = omega (arith, bound, c.degree-limit.ensures.limit) }

pub variables-preserved : goal.variables-preserved
variables-preserved c =
    let here : c.saturating_sub-degree.result ≡ get_or c.args.other.now c.variables.k 0 - get_or c.args.mono.now c.variables.k 0 = c.saturating_sub-degree.ensures ∙ ap₂ ◌-◌ c.exponent.ensures c.exponent-in-variables.ensures in
    beyond-next c.args.mono.now c.args.other.now c.args.mono.now c.args.other.now refl refl c.requires c.variables.k c.variables.degree c.saturating_sub-degree.result (omega (arith, c.variables-test.true, c.vars-k-end.ensures)) here c.variables.invariant

pub returns-clause-degree : goal.returns-clause-degree
returns-clause-degree c = beyond-end c.args.mono.now c.args.other.now c.variables.k c.variables.degree (omega (arith, c.variables-test.false, c.vars-k-end.ensures)) (omega (arith, c.variables-test.false, c.vars-k-end.ensures, c.requires)) c.variables.invariant

pub returns-clause-low : goal.returns-clause-low
returns-clause-low c =
    let whole = beyond-end c.args.mono.now c.args.other.now c.variables.k c.variables.degree (omega (arith, c.variables-test.false, c.vars-k-end.ensures)) (omega (arith, c.variables-test.false, c.vars-k-end.ensures, c.requires)) c.variables.invariant in
    omega (arith, whole, beyond-le c.args.mono.now c.args.other.now, c.degree-limit.ensures.limit)
