-- The keys that an object may have.
use Rattle.std.specs.Prelude.{ℕ, List}
use Rattle.rinv_json.specs.Keys.{keys_of, law_keys}
use Rattle.rinv_cert.specs.declared.keys.KeySet.{KeySet}
use Rattle.rinv_cert.specs.declared.keys.KeySet.TheVariants.{OfKind, OfLaws}
use Rattle.rinv_cert.specs.Seen.{kind_of}

abbrev pub keys_in : KeySet → List (List ℕ)
keys_in (OfKind kind) = keys_of (kind_of kind)
keys_in OfLaws = law_keys
