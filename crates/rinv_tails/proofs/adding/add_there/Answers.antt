use Rattle.std.proofs.lemmas.Result.{err_from_is_err_and}
use Rattle.rinv_tails.proofs.AddedTerms.{sum-added, there-meets}
use Rattle.rinv_tails.proofs.adding.add_there.Goals as goal

pub returns-clause-added : goal.returns-clause-added
returns-clause-added c =
    let field = c.args.field.now.base in
    sum-added field.coeffs field.vars c.args.mono c.args.c.now c.in_ok-sum.sum c.index.result.now c.args.tail.now.items c.put_sum.new.tail.items c.args.place c.requires.tail c.requires.there c.index.ensures c.in_ok-sum.ensures.element c.in_ok-sum.ensures.made c.put_sum.ensures

pub returns-in_err-sum-clause-degree : goal.returns-in_err-sum-clause-degree
returns-in_err-sum-clause-degree c =
    let field = c.args.field.now.base in
    let q = err_from_is_err_and c.from_residual.result c.from_residual.ensures.1 in
    rw (q.1, q.2) (there-meets field.coeffs field.vars c.args.mono c.args.tail.now.items c.args.place c.requires.there c.index.result.now c.index.ensures c.args.c.now c.in_err-sum.field-0.0 c.in_err-sum.ensures.degree)
