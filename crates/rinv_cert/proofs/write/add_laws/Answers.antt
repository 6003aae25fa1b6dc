use Rattle.std.proofs.Common.{◌≡◌, List, map, zip, ap, ◌∙◌}
use Rattle.serde_json.specs.Data.{no_members}
use Rattle.serde_json.specs.View.{members_view}
use Rattle.serde_json.proofs.Views.{view-Object}
use Rattle.rinv_defs.specs.System.{Poly}
use Rattle.rinv_json.specs.Keys.{law_keys}
use Rattle.rinv_json.specs.Written.{poly_data, list_data, with_members}
use Rattle.rinv_cert.proofs.Written.{laws-written}
use Rattle.rinv_cert.proofs.write.add_laws.Goals as goal

pub returns : goal.returns
returns c =
    let made : members_view c.in_ok-laws.laws.entries ≡ with_members no_members (zip law_keys (map (list_data (list_data poly_data)) c.args.certificate.now.laws)) =
    c.in_ok-laws.ensures ∙ ap (λ (ls : List (List (List Poly))). with_members no_members (zip law_keys (map (list_data (list_data poly_data)) ls))) c.as_slice.ensures in
    rw (← laws-written c.args.certificate.now.laws, ← made, ← view-Object c.in_ok-laws.laws) c.put.ensures.ok
