use Rattle.std.proofs.Common.{◌≡◌, ◌∙◌, ◌++◌, List, ℕ, ap, length, append_assoc, subst, sym, All}
use Rattle.std.specs.Prelude.{codes}
use Rattle.rinv_algebra.specs.Polynomial.{Term}
use Rattle.rinv_defs.specs.System.{Poly}
use Rattle.rinv_defs.specs.Generators.{Expression}
use Rattle.rinv_defs.specs.Text.{fraction_text}
use Rattle.rinv_frac.proofs.Stored.{stored}
use Rattle.rinv_text.specs.Printed.{AppendsFraction}
use Rattle.rinv_text.proofs.Lengths.{lengths-from_normal}
use Rattle.rinv_text.proofs.SystemParts.{parts-of}
use Rattle.rinv_queries.proofs.lines.write_expression.Goals as goal

pub write_fraction-requires-clause-num : goal.write_fraction-requires-clause-num
write_fraction-requires-clause-num c =
    let p = c.args.system.now.system.p in
    subst (λ (f : Poly). All (λ (t : Term ℕ). length t.0 ≡ length c.args.names.now) f) (sym (ap (λ (e : Expression). e.0) c.expression.view_is))
    (lengths-from_normal p (length c.args.names.now) c.args.expression.now.0 (stored p (length c.args.names.now) c.args.expression.now c.requires.expression).numerator)

pub write_fraction-requires-clause-den : goal.write_fraction-requires-clause-den
write_fraction-requires-clause-den c =
    let p = c.args.system.now.system.p in
    subst (λ (f : Poly). All (λ (t : Term ℕ). length t.0 ≡ length c.args.names.now) f) (sym (ap (λ (e : Expression). e.1) c.expression.view_is))
    (lengths-from_normal p (length c.args.names.now) c.args.expression.now.1 (stored p (length c.args.names.now) c.args.expression.now c.requires.expression).denominator)

pub returns : goal.returns
returns c =
    let s = c.args.system.now.system in
    let parts = stored s.p (length c.args.names.now) c.args.expression.now c.requires.expression in
    c.in_ok-extend_from_slice.ensures.items
    ∙ ap (λ (w : List ℕ). w ++ codes "\n")
    (subst (λ (e : Expression). AppendsFraction c.args.names.now e.0 e.1 c.args.out.now.items c.write_fraction.new.out.items) c.expression.view_is c.in_ok-write_fraction.ensures.text s.p (parts-of s c.requires.system).listed parts.numerator parts.denominator)
    ∙ append_assoc c.args.out.now.items (fraction_text s.p c.args.names.now c.args.expression.now) (codes "\n")
