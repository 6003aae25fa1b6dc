use Rattle.rinv_generators.proofs.assembling.assemble.Goals as goal

pub with_system-requires : goal.with_system-requires
with_system-requires c =
    let made = c.in-Ok.ensures.assembled in
    record {
      form = c.requires.system;
      group = c.requires.group;
      hold = c.requires.hold;
      laws = c.requires.laws;
      action = c.requires.action;
      met = c.requires.met;
      monic = c.requires.monic;
      monic_stored = c.requires.stored;
      fractions = made.numbered.are;
      stored = made.numbered.stored;
      relations = made.numbered.ties;
      proofs = made.proved;
      journal = made.entries;
    }
