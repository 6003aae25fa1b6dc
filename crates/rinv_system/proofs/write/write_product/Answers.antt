use Rattle.std.proofs.Common.{◌≡◌, ◌++◌, List, [], sym, subst, length, codes, All}
use Rattle.rinv_defs.specs.System.{Poly}
use Rattle.rinv_text.specs.Told.{Told}
use Rattle.rinv_system.specs.Written.{product_line}
use Rattle.rinv_system.specs.Writing.{AreOver, AppendsPolynomialsLine}
use Rattle.rinv_system.proofs.GoodNames.{are_names-plain}
use Rattle.rinv_system.proofs.SystemFacts.{parts-at}
use Rattle.rinv_system.proofs.SystemWritten.{product-over, product-line}
use Rattle.rinv_system.proofs.write.write_product.Goals as goal

pub copies-requires-clause-plain : goal.copies-requires-clause-plain
copies-requires-clause-plain c = are_names-plain [] c.system.inside.group (parts-at _ _ c.system.view_is c.requires).group

pub polynomials_line-requires : goal.polynomials_line-requires
polynomials_line-requires c = let over = product-over _ (parts-at _ _ c.system.view_is c.requires) _ c.in_ok-factors.ensures in subst (λ (fs : List Poly). All (AreOver (length c.in_ok-factors.factors)) fs) (sym c.deref.ensures.value) over

pub returns : goal.returns
returns c =
    subst (λ (t : Told). c.polynomials_line.new.out.items ≡ c.args.out.now.items ++ (product_line t.system ++ codes "\n")) c.system.view_is
    (product-line _ (parts-at _ _ c.system.view_is c.requires) c.args.out.now.items c.polynomials_line.new.out.items c.in_ok-factors.factors c.in_ok-factors.ensures
    (subst (λ (fs : List Poly). AppendsPolynomialsLine (codes "product") c.in_ok-factors.factors fs c.args.out.now.items c.polynomials_line.new.out.items) c.deref.ensures.value c.in_ok-polynomials_line.ensures))
