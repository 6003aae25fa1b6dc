use Rattle.std.proofs.Common.{◌≡◌, ◌==◌, ◌++◌, ◌∙◌, ℕ, List, sym, ap, subst, length, codes, All}
use Rattle.rinv_defs.specs.System.{Poly}
use Rattle.rinv_text.specs.Told.{Told}
use Rattle.rinv_system.specs.Written.{section_lines, text_of}
use Rattle.rinv_system.specs.Writing.{AreOver, AppendsPolynomialsLine}
use Rattle.rinv_system.proofs.SystemFacts.{parts-at, section-at}
use Rattle.rinv_system.proofs.SystemWritten.{section-over, section-line}
use Rattle.rinv_system.proofs.write.write_section.Goals as goal

pub polynomials_line-requires : goal.polynomials_line-requires
polynomials_line-requires c = subst (λ (fs : List Poly). All (AreOver (length c.system.inside.space)) fs) (sym c.deref.ensures.value) (section-over _ (parts-at _ _ c.system.view_is c.requires) (section-at _ _ c.system.view_is c.requires))

pub returns : goal.returns
returns c =
    subst (λ (t : Told). c.polynomials_line.new.out.items ≡ c.args.out.now.items ++ text_of (section_lines t.system)) c.system.view_is
    (section-line _ (parts-at _ _ c.system.view_is c.requires) (section-at _ _ c.system.view_is c.requires) c.args.out.now.items c.polynomials_line.new.out.items
    (ap (λ (n : ℕ). n == 0) (ap (λ (fs : List Poly). length fs) (sym c.deref.ensures.value) ∙ c.deref.ensures.len) ∙ sym c.is_empty.ensures ∙ c.if-is_empty.false)
    (subst (λ (fs : List Poly). AppendsPolynomialsLine (codes "section") c.system.inside.space fs c.args.out.now.items c.polynomials_line.new.out.items) c.deref.ensures.value c.in_ok-polynomials_line.ensures))
