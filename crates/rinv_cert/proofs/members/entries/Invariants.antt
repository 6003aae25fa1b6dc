use Rattle.std.proofs.Common.{◌≡◌, map}
use Rattle.serde_json.specs.View.{view}
use Rattle.rinv_json.specs.Reading.{each_from}
use Rattle.rinv_cert.specs.Faults.{part_word}
use Rattle.rinv_cert.proofs.Entries.{so_far}
use Rattle.rinv_cert.proofs.members.entries.Given as goal

abbrev pub invariant-entries : goal.invariant-entries
invariant-entries g l = so_far (part_word l.part) g.S.Shape.shape l.values l.read.items l.k ≡ each_from (part_word l.part) g.S.Shape.shape 1 (map view l.values)
