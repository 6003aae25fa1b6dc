use Rattle.rinv_invariance.specs.Replaced.{with_ideal}
use Rattle.rinv_invariance.proofs.SameIdeals.{extended_moved, basis_moved}
use Rattle.rinv_invariance.proofs.extended_ideal_by_ideal.Goals as goal

pub returns : goal.returns
returns c = record {
  members = λ s ideal section i j f. (extended_moved s ideal section i.1 j.1 f, extended_moved (with_ideal s ideal section) s.ideal s.section i.0 j.0 f);
  bases = λ s ideal section i j rs. (
    basis_moved s ideal section i.1 j.1 (extended_moved (with_ideal s ideal section) s.ideal s.section i.0 j.0) rs,
    basis_moved (with_ideal s ideal section) s.ideal s.section i.0 j.0 (extended_moved s ideal section i.1 j.1) rs,
  );
}
