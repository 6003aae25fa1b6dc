-- The condition of a certificate that fails first, of those that its kind has, and what follows where none does.
--   failure_from_relations, failure_from_basis    of those from one on
--   failure_of_sound, failure_of_full             of all those of a certificate of these kinds
--   AreInvariant, HaveLaws, AreSound              what follows
use Rattle.std.specs.Prelude.{◌≡◌, ℕ, All, Option, None}
use Rattle.rinv_defs.specs.Laws.{AllLawsHold}
use Rattle.rinv_defs.specs.Invariant.{IsInvariant}
use Rattle.rinv_defs.specs.Generators.{IsSound}
use Rattle.rinv_defs.specs.Certificate.{Certificate, invariance, full}
use Rattle.rinv_defs.specs.Conditions.{law_failure, basis_failure, inputs_failure, invariance_failure}
use Rattle.rinv_defs.specs.PairConditions.{pairs_failure}
use Rattle.rinv_defs.specs.RelationConditions.{relations_failure, leads_failure}
use Rattle.rinv_check.specs.Verdicts.{or_after}

-- of the relations, their leads and the fractions
abbrev pub failure_from_relations : Certificate → Option (ℕ × ℕ)
failure_from_relations c = or_after 6 (relations_failure c) (or_after 7 (leads_failure c) (or_after 8 (invariance_failure c) None))

-- of the basis, the inputs and the pairs, and then of these
abbrev pub failure_from_basis : Certificate → Option (ℕ × ℕ)
failure_from_basis c = or_after 3 (basis_failure c) (or_after 4 (inputs_failure c) (or_after 5 (pairs_failure c) (or_after 6 (relations_failure c) (or_after 7 (leads_failure c) (or_after 8 (invariance_failure c) None)))))

-- of the laws and the fractions
abbrev pub failure_of_sound : Certificate → Option (ℕ × ℕ)
failure_of_sound c = or_after 2 (law_failure c) (or_after 8 (invariance_failure c) None)

-- of the laws, and then of all these
abbrev pub failure_of_full : Certificate → Option (ℕ × ℕ)
failure_of_full c = or_after 2 (law_failure c) (or_after 3 (basis_failure c) (or_after 4 (inputs_failure c) (or_after 5 (pairs_failure c) (or_after 6 (relations_failure c) (or_after 7 (leads_failure c) (or_after 8 (invariance_failure c) None))))))

-- its fractions are invariant
abbrev pub AreInvariant : Certificate → Type 0
AreInvariant c = All (IsInvariant c.system) c.fractions

-- the laws hold, unless it is of the kind `invariance`
abbrev pub HaveLaws : Certificate → Type 0
HaveLaws c = ¬ (c.kind ≡ invariance) → AllLawsHold c.system

-- its fractions are sound, if it is of the kind `full`
abbrev pub AreSound : Certificate → Type 0
AreSound c = c.kind ≡ full → IsSound c.system c.fractions
