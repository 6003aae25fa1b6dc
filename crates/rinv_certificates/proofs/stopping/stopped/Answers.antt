use Rattle.rinv_answers.specs.Commands.Generators.{IsGenDenial}
use Rattle.rinv_certificates.proofs.stopping.stopped.Goals as goal

pub returns-in_ok-text-in-Misses : goal.returns-in_ok-text-in-Misses
returns-in_ok-text-in-Misses c = IsGenDenial.missed c.in-Misses.element (rw c.in-Misses.is at c.requires.stop) c.in_ok-text-in-Misses.ensures
