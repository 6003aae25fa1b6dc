use Rattle.std.proofs.Common.{◌≡◌, ◌++◌, List, sym, subst, length, codes, All}
use Rattle.rinv_defs.specs.System.{Poly}
use Rattle.rinv_text.specs.Told.{Told}
use Rattle.rinv_system.specs.Written.{inverse_line}
use Rattle.rinv_system.specs.Writing.{AreOver, AppendsPolynomialsLine}
use Rattle.rinv_system.proofs.SystemFacts.{parts-at}
use Rattle.rinv_system.proofs.SystemWritten.{inverse-over, inverse-line}
use Rattle.rinv_system.proofs.write.write_inverse.Goals as goal

pub polynomials_line-requires : goal.polynomials_line-requires
polynomials_line-requires c = subst (λ (fs : List Poly). All (AreOver (length c.system.inside.group)) fs) (sym c.deref.ensures.value) (inverse-over _ (parts-at _ _ c.system.view_is c.requires))

pub returns : goal.returns
returns c =
    subst (λ (t : Told). c.polynomials_line.new.out.items ≡ c.args.out.now.items ++ (inverse_line t.system ++ codes "\n")) c.system.view_is
    (inverse-line _ (parts-at _ _ c.system.view_is c.requires) c.args.out.now.items c.polynomials_line.new.out.items
    (subst (λ (fs : List Poly). AppendsPolynomialsLine (codes "inverse") c.system.inside.group fs c.args.out.now.items c.polynomials_line.new.out.items) c.deref.ensures.value c.in_ok-polynomials_line.ensures))
