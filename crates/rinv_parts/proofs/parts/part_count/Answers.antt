use Rattle.std.proofs.Common.{◌≡◌, ◌∙◌, ◌*◌, ◌≤◌, List, length, ap, arith}
use Rattle.rinv_defs.specs.System.{Poly}
use Rattle.rinv_parts.specs.LawNames.{law_of}
use Rattle.rinv_parts.proofs.PartCounts.{doubled, polynomials-few, single}
use Rattle.rinv_parts.proofs.parts.part_count.Goals as goal

pub overflow_cast-count : goal.overflow_cast-count
overflow_cast-count c = omega (arith, ap (λ (fs : List Poly). length fs) c.law_polynomials.ensures, polynomials-few c.args.system.now.system c.requires (law_of c.args.law))

pub overflow_mul-result : goal.overflow_mul-result
overflow_mul-result c = omega (arith, ap (λ (fs : List Poly). length fs) c.law_polynomials.ensures, polynomials-few c.args.system.now.system c.requires (law_of c.args.law))

pub returns-in-L5 : goal.returns-in-L5
returns-in-L5 c = ap (λ (fs : List Poly). 2 * length fs) c.law_polynomials.ensures ∙ doubled c.args.system.now.system c.requires c.args.law c.in-L5.is

pub returns-in_default : goal.returns-in_default
returns-in_default c = ap (λ (fs : List Poly). length fs) c.law_polynomials.ensures ∙ single c.args.system.now.system c.requires c.args.law c.in_default.not-L5 c.in_default.not-L6
