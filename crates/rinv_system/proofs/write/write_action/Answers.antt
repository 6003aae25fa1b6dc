use Rattle.std.proofs.Common.{◌≡◌, ◌++◌, List, sym, subst, length, codes, All}
use Rattle.rinv_defs.specs.System.{Poly}
use Rattle.rinv_text.specs.Told.{Told}
use Rattle.rinv_system.specs.Written.{action_line}
use Rattle.rinv_system.specs.Writing.{AreOver, AppendsPolynomialsLine}
use Rattle.rinv_system.proofs.GoodNames.{are_names-apart}
use Rattle.rinv_system.proofs.SystemFacts.{parts-at}
use Rattle.rinv_system.proofs.SystemWritten.{action-over, action-line}
use Rattle.rinv_system.proofs.write.write_action.Goals as goal

pub joined-requires : goal.joined-requires
joined-requires c = are_names-apart c.system.inside.group c.system.inside.space (parts-at _ _ c.system.view_is c.requires).space

pub polynomials_line-requires : goal.polynomials_line-requires
polynomials_line-requires c = let over = action-over _ (parts-at _ _ c.system.view_is c.requires) _ c.in_ok-both.ensures in subst (λ (fs : List Poly). All (AreOver (length c.in_ok-both.both)) fs) (sym c.deref.ensures.value) over

pub returns : goal.returns
returns c =
    subst (λ (t : Told). c.polynomials_line.new.out.items ≡ c.args.out.now.items ++ (action_line t.system ++ codes "\n")) c.system.view_is
    (action-line _ (parts-at _ _ c.system.view_is c.requires) c.args.out.now.items c.polynomials_line.new.out.items c.in_ok-both.both c.in_ok-both.ensures
    (subst (λ (fs : List Poly). AppendsPolynomialsLine (codes "action") c.in_ok-both.both fs c.args.out.now.items c.polynomials_line.new.out.items) c.deref.ensures.value c.in_ok-polynomials_line.ensures))
