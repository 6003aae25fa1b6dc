use Rattle.rinv_at_graph.proofs.making.ground_of.Goals as goal

pub returns-clause-ground : goal.returns-clause-ground
returns-clause-ground c = record {
  system = c.requires.system;
  reduced = c.args.group.now.reduced.items;
  group = c.requires.group;
  field = c.action_ring-ring.ensures.field;
  vars = c.action_ring-ring.ensures.vars;
  whole_field = c.change_ring-whole.ensures.field;
  whole_vars = c.change_ring-whole.ensures.vars;
  point = c.in_ok-point.ensures;
  ideal = c.in_ok-ideal.ensures;
  basis = c.in_ok-basis.ensures;
  cofactors = c.in_ok-cofactors.ensures.cofactors;
}
