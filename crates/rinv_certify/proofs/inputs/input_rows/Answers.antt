use Rattle.std.proofs.Common.{◌<◌, ◌++◌, ◌∙◌, length, refl, ap, arith}
use Rattle.rinv_defs.specs.Extended.{graph}
use Rattle.rinv_text.specs.Told.{Told}
use Rattle.rinv_acceptance.specs.Inputs.{input_rows}
use Rattle.rinv_certify.proofs.Rows.{given-length, row-there, rows-length}
use Rattle.rinv_certify.proofs.Taken.{all-made, one-more}
use Rattle.rinv_certify.proofs.inputs.input_rows.Goals as goal

pub inputs-preserved : goal.inputs-preserved
inputs-preserved c =
    let s = c.args.system.now.system in
    let row = c.in_ok-row.row in
    let ideal = ap (λ (t : Told). length t.system.ideal) c.system.view_is in
    let space = ap (λ (t : Told). length t.system.space) c.system.view_is in
    let many = given-length s c.requires in
    let low : c.inputs.k < length (s.ideal ++ graph s) = omega (arith, many, ideal, space, c.len.ensures, c.len-2.ensures.len, c.inputs-test.true) in
    let long = rows-length s c.args.count (s.ideal ++ graph s) in
    rw c.in_ok-push.ensures.items (record {
      rows = one-more (input_rows s c.args.count (s.ideal ++ graph s)) c.inputs.rows.items c.inputs.k row row (omega (arith, long, low))
          (row-there s c.args.count (s.ideal ++ graph s) c.inputs.k row low (c.in_ok-row.ensures.row c.inputs.invariant.place)) refl c.inputs.invariant.rows;
      place = c.in_ok-row.ensures.next c.inputs.invariant.place;
      low = c.in_ok-row.ensures.low;
    })

pub returns : goal.returns
returns c =
    let s = c.args.system.now.system in
    let ideal = ap (λ (t : Told). length t.system.ideal) c.system.view_is in
    let space = ap (λ (t : Told). length t.system.space) c.system.view_is in
    let many = given-length s c.requires in
    let long = rows-length s c.args.count (s.ideal ++ graph s) in
    c.new.ensures ∙ all-made (input_rows s c.args.count (s.ideal ++ graph s)) c.inputs.rows.items c.inputs.k (omega (arith, long, many, ideal, space, c.len.ensures, c.len-2.ensures.len, c.inputs-test.false)) c.inputs.invariant.rows
