use Rattle.std.proofs.Common.{◌∙◌, ◌++◌, ap}
use Rattle.rinv_text.specs.Names.{meet, symbols}
use Rattle.rinv_text.specs.Told.{Told}
use Rattle.rinv_text.proofs.SystemParts.{parts-of}
use Rattle.rinv_system.proofs.GoodNames.{are_names-apart}
use Rattle.rinv_queries.proofs.lines.variables_of.Goals as goal

pub joined-requires : goal.joined-requires
joined-requires c =
    let s = c.args.system.now.system in
    ap (λ (t : Told). meet t.system.group t.system.space) c.system.view_is ∙ are_names-apart s.group s.space (parts-of s c.requires).space

pub returns : goal.returns
returns c = record {
  changes = c.in_ok-changes.ensures ∙ ap (λ (t : Told). t.system.group ++ t.system.space) c.system.view_is;
  symbols = c.in_ok-symbols.ensures ∙ ap symbols c.in-Ok.ensures.1;
}
