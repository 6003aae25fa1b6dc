use Rattle.std.proofs.Common.{◌++◌, ◌+◌, ◌*◌, length}
use Rattle.rinv_cert.specs.Seen.{plain}
use Rattle.rinv_parts.specs.Points.{AreStored}
use Rattle.rinv_identities.proofs.GraphEquations.{graph_to}
use Rattle.rinv_identities.proofs.generators.action_generators.Given as goal

abbrev pub invariant-action : goal.invariant-action
invariant-action l =
    let s = (plain l.stored).system in
    AreStored s.p (length s.group + 2 * length s.space) (s.ideal ++ graph_to s l.k) l.generators.items
