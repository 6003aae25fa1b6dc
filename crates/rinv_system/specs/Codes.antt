-- How the codes of refused lines are printed.
use Rattle.std.specs.Prelude.{ℕ, List, codes}
use Rattle.rinv_ring.specs.declared.modulus.FieldFault.{FieldFault}
use Rattle.rinv_ring.specs.declared.modulus.FieldFault.TheVariants.{TooSmall, TooLarge, NotListed}
use Rattle.rinv_text.specs.declared.fault.TextCode.{TextCode}
use Rattle.rinv_text.specs.declared.fault.TextCode.TheVariants.{Expression, Name, Limit, FormalDegree, FormalTerms, ZeroDenominator}
use Rattle.rinv_system.specs.declared.refused.Code.{Code}
use Rattle.rinv_system.specs.declared.refused.Code.TheVariants.{NotText, Word, Missing, Twice, Count, Field, Text}

-- the code of a number that is no modulus
abbrev pub field_word : FieldFault → List ℕ
field_word TooSmall = codes "Field too small"
field_word TooLarge = codes "Field too large"
field_word NotListed = codes "Field not listed"

-- the code of a number, a name or a polynomial with a fault
abbrev pub text_word : TextCode → List ℕ
text_word Expression = codes "Expression"
text_word Name = codes "Name"
text_word Limit = codes "Limit"
text_word FormalDegree = codes "FormalDegree"
text_word FormalTerms = codes "FormalTerms"
text_word ZeroDenominator = codes "ZeroDenominator"

-- the code of a refused line
abbrev pub code_word : Code → List ℕ
code_word NotText = codes "NotText"
code_word Word = codes "Word"
code_word Missing = codes "Missing"
code_word Twice = codes "Twice"
code_word Count = codes "Count"
code_word (Field fault) = field_word fault
code_word (Text code) = text_word code
