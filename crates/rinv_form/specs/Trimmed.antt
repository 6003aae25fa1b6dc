-- A certificate without the keys that its kind does not have.
use Rattle.std.specs.Prelude.{[]}
use Rattle.rinv_defs.specs.Certificate.{Certificate, Kind, invariance, sound, full}

-- the keys of a kind
abbrev pub keys_of_kind : Kind → Certificate → Certificate
keys_of_kind invariance c = record { kind = invariance; system = c.system; fractions = c.fractions; invariance = c.invariance; laws = []; basis = []; inputs = []; pairs = []; relations = [] }
keys_of_kind sound c = record { kind = sound; system = c.system; fractions = c.fractions; invariance = c.invariance; laws = c.laws; basis = []; inputs = []; pairs = []; relations = [] }
keys_of_kind full c = record { kind = full; system = c.system; fractions = c.fractions; invariance = c.invariance; laws = c.laws; basis = c.basis; inputs = c.inputs; pairs = c.pairs; relations = c.relations }

-- those of its own
abbrev pub trimmed : Certificate → Certificate
trimmed c = keys_of_kind c.kind c
