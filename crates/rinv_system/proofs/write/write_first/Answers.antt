use Rattle.std.proofs.Common.{◌≡◌, ◌++◌, ℕ, refl, ◌∷◌, [], subst, codes, decimal}
use Rattle.rinv_text.specs.Told.{Told}
use Rattle.rinv_system.specs.Written.{first_lines, line_text, list_text, text_of}
use Rattle.rinv_system.proofs.WrittenLists.{line-more, no-line}
use Rattle.rinv_system.proofs.write.write_first.Goals as goal

pub returns : goal.returns
returns c =
    subst (λ (t : Told). c.names_line-2.new.out.items ≡ c.args.out.now.items ++ text_of (first_lines t.system)) c.system.view_is
    (line-more c.args.out.now.items _ _ (line_text (codes "space") (list_text c.system.inside.space)) (line_text (codes "field") (decimal c.system.inside.field) ∷ line_text (codes "group") (list_text c.system.inside.group) ∷ [])
    (line-more c.args.out.now.items _ _ (line_text (codes "group") (list_text c.system.inside.group)) (line_text (codes "field") (decimal c.system.inside.field) ∷ [])
    (line-more c.args.out.now.items c.args.out.now.items _ (line_text (codes "field") (decimal c.system.inside.field)) [] (no-line c.args.out.now.items c.args.out.now.items refl)
    (subst (λ (n : ℕ). c.number_line.new.out.items ≡ c.args.out.now.items ++ (line_text (codes "field") (decimal n) ++ codes "\n")) c.modulus.ensures.value c.in_ok-number_line.ensures))
    c.in_ok-names_line.ensures) c.in_ok-names_line-2.ensures)
