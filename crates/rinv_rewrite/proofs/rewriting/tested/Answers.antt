use Rattle.std.proofs.Common.{inl}
use Rattle.rinv_rewrite.proofs.rewriting.tested.Goals as goal

pub returns-in-Err-Degree-clause-stop : goal.returns-in-Err-Degree-clause-stop
returns-in-Err-Degree-clause-stop c =
    let meets = rw c.in-Err-Degree.field-0-is at c.in-Err-Degree.ensures.degree in
    λ cs qs. inl meets
