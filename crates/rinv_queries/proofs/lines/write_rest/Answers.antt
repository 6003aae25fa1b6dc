use Rattle.std.proofs.Common.{◌∙◌, ◌++◌, List, ℕ, ap, length, append_assoc}
use Rattle.std.specs.Prelude.{codes}
use Rattle.rinv_defs.specs.Text.{poly_text}
use Rattle.rinv_text.proofs.Lengths.{lengths-from_normal}
use Rattle.rinv_text.proofs.SystemParts.{parts-of}
use Rattle.rinv_queries.proofs.lines.write_rest.Goals as goal

pub write_poly-requires : goal.write_poly-requires
write_poly-requires c = lengths-from_normal c.args.system.now.system.p (length c.args.names.now) c.args.rest.now c.requires.rest

pub returns : goal.returns
returns c =
    let s = c.args.system.now.system in
    c.in_ok-extend_from_slice.ensures.items
    ∙ ap (λ (w : List ℕ). w ++ codes "\n") (c.in_ok-write_poly.ensures.text s.p (parts-of s c.requires.system).listed c.requires.rest)
    ∙ append_assoc c.args.out.now.items (poly_text s.p c.args.names.now c.args.rest.now) (codes "\n")
