use Rattle.std.proofs.Common.{◌≡◌, map, zip}
use Rattle.serde_json.specs.Data.{no_members}
use Rattle.serde_json.specs.View.{members_view}
use Rattle.rinv_json.specs.Keys.{law_keys}
use Rattle.rinv_json.specs.Written.{poly_data, list_data, with_members}
use Rattle.rinv_cert.proofs.Written.{Left}
use Rattle.rinv_cert.proofs.write.laws.Given as goal

-- what was put and what is left are the whole
abbrev pub invariant-laws : goal.invariant-laws
invariant-laws l = Left (list_data (list_data poly_data)) l.laws (members_view l.members.entries) l.k ≡ with_members no_members (zip law_keys (map (list_data (list_data poly_data)) l.laws))
