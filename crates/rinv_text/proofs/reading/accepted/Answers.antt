use Rattle.rinv_text.proofs.Denoted.{answer-refused, answer-meaning, answer-normal, answer-denotes}
use Rattle.rinv_text.proofs.reading.accepted.Goals as goal

pub returns-in-Some-clause-fault : goal.returns-in-Some-clause-fault
returns-in-Some-clause-fault c = λ text read.
    answer-refused c.args.field.now c.args.names.now text c.args.tokens.now c.args.steps.now read c.len-count.result c.len-count.ensures.len c.empty-defs.result c.empty-defs.ensures c.in_ok-size.size c.in_ok-size.ensures c.refusal.result c.refusal.ensures c.in-Some.fault c.in-Some.is

pub numerator_of-requires-clause-may : goal.numerator_of-requires-clause-may
numerator_of-requires-clause-may c =
    let (text, read) = c.requires in
    answer-meaning c.args.field.now c.args.names.now text c.args.tokens.now c.args.steps.now read c.len-count.result c.len-count.ensures.len c.empty-defs.result c.empty-defs.ensures c.in_ok-size.size c.in_ok-size.ensures c.refusal.result c.refusal.ensures
    c.modulus-p.ensures.listed c.in_default.is c.new-field.result.base.coeffs c.new-field.result.base.vars (rw c.new-field.ensures c.new.ensures.ring) (rw c.new-field.ensures c.new.ensures.count)

pub returns-clause-normal : goal.returns-clause-normal
returns-clause-normal c =
    let (text, read) = c.requires in
    answer-normal c.args.field.now c.args.names.now text c.args.tokens.now c.args.steps.now read c.len-count.result c.len-count.ensures.len c.empty-defs.result c.empty-defs.ensures c.in_ok-size.size c.in_ok-size.ensures c.refusal.result c.refusal.ensures
    c.modulus-p.ensures.listed c.in_default.is c.new-field.result.base.coeffs c.new-field.result.base.vars (rw c.new-field.ensures c.new.ensures.ring) (rw c.new-field.ensures c.new.ensures.count)
    c.in_ok-polynomial.polynomial c.in_ok-polynomial.ensures

pub returns-clause-value : goal.returns-clause-value
returns-clause-value c = λ text read.
    answer-denotes c.args.field.now c.args.names.now text c.args.tokens.now c.args.steps.now read c.len-count.result c.len-count.ensures.len c.empty-defs.result c.empty-defs.ensures c.in_ok-size.size c.in_ok-size.ensures c.refusal.result c.refusal.ensures
    c.modulus-p.ensures.listed c.in_default.is c.new-field.result.base.coeffs c.new-field.result.base.vars (rw c.new-field.ensures c.new.ensures.ring) (rw c.new-field.ensures c.new.ensures.count)
    c.in_ok-polynomial.polynomial c.in_ok-polynomial.ensures
