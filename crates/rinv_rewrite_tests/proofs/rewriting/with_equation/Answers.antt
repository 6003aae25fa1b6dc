use Rattle.std.proofs.Common.{◌≡◌, ◌<◌, List, [], ◌∷◌, ◌++◌, length, sym, ◌∙◌, subst, arith}
use Rattle.std.specs.Result.{is_ok}
use Rattle.std.proofs.lemmas.Bool.Decides.{nat_tests}
use Rattle.rinv_defs.specs.System.{System, Poly}
use Rattle.rinv_defs.specs.SystemForm.{IsSystem}
use Rattle.rinv_text.specs.Told.{Told}
use Rattle.rinv_rewrite_tests.proofs.Sections.{pushed, taken}
use Rattle.rinv_rewrite_tests.proofs.rewriting.with_equation.Goals as goal

pub returns : goal.returns
returns c =
    let v = c.system.inside in
    let s : System = record { p = v.field; group = v.group; space = v.space; ideal = v.ideal.items; unit = v.unit.items; product = v.product.items; inverse = v.inverse.items; action = v.action.items; section = v.section.items } in
    let is : IsSystem s = subst (λ (t : Told). IsSystem t.system) (sym c.system.view_is) c.requires in
    let below : length v.section.items < 64 = grind (arith, nat_tests, c.if-len-ge64.false, c.len.ensures) in
    let made : c.push.new.self.items ≡ v.section.items ++ c.in-Ok.f ∷ [] = taken (is_ok c.push.result) v.section.items c.push.ensures.items c.if-is_err.ensures.negation in
    subst (λ (xs : List Poly). IsSystem (record { p = v.field; group = v.group; space = v.space; ideal = v.ideal.items; unit = v.unit.items; product = v.product.items; inverse = v.inverse.items; action = v.action.items; section = xs })) (sym made) (pushed s c.in-Ok.f is below c.in-Ok.ensures.normal)
