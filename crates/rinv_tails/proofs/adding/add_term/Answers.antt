use Rattle.rinv_tails.proofs.AddedTerms.{gap-added}
use Rattle.rinv_tails.proofs.adding.add_term.Goals as goal

pub returns-in_ok-insert-in-Err-clause-added : goal.returns-in_ok-insert-in-Err-clause-added
returns-in_ok-insert-in-Err-clause-added c =
    let field = c.args.field.now.base in
    gap-added field.coeffs field.vars c.args.mono c.args.c c.args.tail.now.items c.insert.new.self.items c.in-Err.place c.requires.term c.requires.tail (rw c.deref.ensures.value at c.in-Err.ensures.gap) (rw c.in_ok-insert-in-Err.was at c.insert.ensures.items)
