use Rattle.std.proofs.Common.{◌≤◌, length, sym, ◌∙◌, arith}
use Rattle.rinv_json.specs.Written.{poly_data, list_data}
use Rattle.rinv_cert.proofs.Written.{no_law}
use Rattle.rinv_cert.proofs.write.laws.Goals as goal

pub returns : goal.returns
returns c =
    let past : length c.args.laws.now ≤ c.laws.k = omega (arith, c.laws-test.false, c.laws.auto.k-end) in
    sym (no_law (list_data (list_data poly_data)) _ _ _ past) ∙ c.laws.invariant
