use Rattle.std.proofs.Common.{subst}
use Rattle.rinv_generators.specs.Generated.{IsGenerators}
use Rattle.rinv_certify.proofs.Certified.{sound-accepted, sound-made}
use Rattle.rinv_certify.proofs.making.sound.Goals as goal

pub returns-clause-made : goal.returns-clause-made
returns-clause-made c = rw (c.nothing-basis.ensures, c.nothing-inputs.ensures, c.nothing-pairs.ensures, c.nothing-relations.ensures) (sound-made c.args.gens.now c.args.common c.requires.common c.requires.section)

pub returns-clause-accepted : goal.returns-clause-accepted
returns-clause-accepted c =
    rw (c.nothing-basis.ensures, c.nothing-inputs.ensures, c.nothing-pairs.ensures, c.nothing-relations.ensures)
    (sound-accepted c.args.gens.now c.args.common c.requires.common c.requires.section (subst IsGenerators c.gens.view_is c.gens.invariant) c.requires.laws c.requires.changes)
