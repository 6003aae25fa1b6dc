use Rattle.std.proofs.Common.{◌≡◌, ◌++◌, ◌∙◌, ℕ, List, ap, subst, codes}
use Rattle.rinv_text.specs.Told.{Told}
use Rattle.rinv_system.specs.Written.{line_text, numbers_text}
use Rattle.rinv_system.proofs.SystemWritten.{map-lines}
use Rattle.rinv_system.proofs.write.write_maps.Goals as goal

pub returns : goal.returns
returns c =
    map-lines c.args.system.now.system c.args.out.now.items c.numbers_line.new.out.items c.write_product.new.out.items c.write_inverse.new.out.items c.write_action.new.out.items
    (subst (λ (ns : List ℕ). c.numbers_line.new.out.items ≡ c.args.out.now.items ++ (line_text (codes "unit") (numbers_text ns) ++ codes "\n"))
    (c.deref.ensures.value ∙ ap (λ (t : Told). t.system.unit) c.system.view_is) c.in_ok-numbers_line.ensures)
    c.in_ok-write_product.ensures c.in_ok-write_inverse.ensures c.in_ok-write_action.ensures
