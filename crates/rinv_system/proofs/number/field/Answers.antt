use Rattle.std.proofs.Common.{sym, ◌∙◌}
use Rattle.rinv_system.specs.Forms.{IsRestRefused, IsFieldFault, TellsNumber}
use Rattle.rinv_system.proofs.NumberFacts.{capped, modulus-refused}
use Rattle.rinv_system.proofs.number.field.Goals as goal

pub returns-then-not-is_numeral-clause-fault : goal.returns-then-not-is_numeral-clause-fault
returns-then-not-is_numeral-clause-fault c = λ d. IsRestRefused.no_number TellsNumber.field_line (sym c.is_numeral.ensures ∙ c.if-not-is_numeral.true)

pub returns-in_default-clause-fault : goal.returns-in_default-clause-fault
returns-in_default-clause-fault c = λ d. IsRestRefused.no_modulus (sym c.is_numeral.ensures ∙ c.if-not-is_numeral.false) (IsFieldFault.past_literals c.in_default.ensures.value)

pub returns-in-Err-clause-fault : goal.returns-in-Err-clause-fault
returns-in-Err-clause-fault c = λ d. modulus-refused d _ c.in-Some.number c.unwrap_or.result c.in-Err.fault (sym c.is_numeral.ensures ∙ c.if-not-is_numeral.false)
    c.in-Some.ensures.value c.in-Some.ensures.small (capped _ _ _ c.try_from.ensures c.unwrap_or.ensures) c.in-Err.ensures.listed.1 c.in-Err.ensures.small c.in-Err.ensures.large
