use Rattle.rinv_generators.proofs.making.made_for.Goals as goal

pub returns-clause-made : goal.returns-clause-made
returns-clause-made c = c.put_together.ensures.generated c.args.system.now (record {
  form = c.requires;
  pieces = c.in_ok-found.ensures.pieces;
  proved_laws = c.in_ok-laws.ensures.proofs;
  proved = c.in_ok-proofs.ensures.proofs;
  entries = c.in_ok-journal.ensures;
})

pub returns-clause-ends : goal.returns-clause-ends
returns-clause-ends c = rw (c.put_together.ensures.group, c.put_together.ensures.action) c.in_ok-found.ensures.pieces.both_end
