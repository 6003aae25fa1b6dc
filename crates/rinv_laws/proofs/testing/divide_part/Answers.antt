use Rattle.rinv_laws.proofs.testing.divide_part.Goals as goal

pub divide_wholly-requires-clause-divisors : goal.divide_wholly-requires-clause-divisors
divide_wholly-requires-clause-divisors c = rw c.deref.ensures.value c.requires.divisors
