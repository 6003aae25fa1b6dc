-- Worked texts, of which the first alone ends with the line `complete`.
use Rattle.std.proofs.Common.{◌≡◌, refl, ap, get_or, arith}
use Rattle.std.specs.Prelude.{[], ◌∷◌, codes}
use Rattle.rinv_commands.specs.Headline.{EndsComplete}
use Rattle.rinv_commands.proofs.LastLines.{ends-otherwise, one-line}

ends_so : EndsComplete (codes "y1 = x^2 + y^2\ncomplete\n")
ends_so = record { before = codes "y1 = x^2 + y^2" ∷ []; whole = refl }

on_section : EndsComplete (codes "y1 = x/y\ncomplete on section\n") → ⊥
on_section h = ends-otherwise _ [] (codes "y1 = x/y\ncomplete on section\n") h refl refl

is_sound : EndsComplete (codes "yes\ny1 = y\nsound\n") → ⊥
is_sound h = ends-otherwise _ [] (codes "yes\ny1 = y\nsound\n") h refl refl

no_generators : EndsComplete (codes "laws 1 hold\ninvariant 2 yes\ndone\n") → ⊥
no_generators h = ends-otherwise _ [] (codes "laws 1 hold\ninvariant 2 yes\ndone\n") h refl refl

cut_short : EndsComplete (codes "incomplete query 3 degree 40 41\n") → ⊥
cut_short h = ends-otherwise _ [] (codes "incomplete query 3 degree 40 41\n") h refl refl

is_json : EndsComplete (codes "{\"version\":1}\n") → ⊥
is_json h = ends-otherwise _ [] (codes "{\"version\":1}\n") h refl refl

no_line_feed : EndsComplete (codes "y1 = x^2 + y^2\ncomplete") → ⊥
no_line_feed h = ends-otherwise _ [] (codes "y1 = x^2 + y^2\ncomplete") h refl refl

-- a variable may be called so
in_a_rest : EndsComplete (codes "denied law L1 part 1 rest complete\n") → ⊥
in_a_rest h = let first : 100 ≡ 99 = ap (λ l. get_or l 0 0) (one-line (codes "denied law L1 part 1 rest complete") refl h) in omega (arith, first)
