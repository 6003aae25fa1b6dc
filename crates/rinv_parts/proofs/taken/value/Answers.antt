use Rattle.rinv_parts.proofs.Values.{value-answer}
use Rattle.rinv_parts.proofs.taken.value.Goals as goal

pub substitute_over_field-requires-clause-polynomial : goal.substitute_over_field-requires-clause-polynomial
substitute_over_field-requires-clause-polynomial c = rw c.requires.field c.requires.polynomial

pub returns : goal.returns
returns c x h = value-answer c.args.ring.now.coeffs c.args.ring.now.vars x c.args.point.now c.args.f.now c.substitute_over_field.result h c.substitute_over_field.ensures.element c.substitute_over_field.ensures.value c.substitute_over_field.ensures.fits c.substitute_over_field.ensures.degree
