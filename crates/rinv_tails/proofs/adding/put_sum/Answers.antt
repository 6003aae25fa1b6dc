use Rattle.std.proofs.Common.{◌∙◌, refl, sym}
use Rattle.std.specs.Prelude.{slice_set}
use Rattle.rinv_tails.proofs.AddedTerms.{put-removed, put-replaced}
use Rattle.rinv_tails.proofs.adding.put_sum.Goals as goal

pub returns-then-is_zero : goal.returns-then-is_zero
returns-then-is_zero c =
    let field = c.args.field.now.base in
    put-removed field.coeffs field.vars c.args.tail.now.items c.remove.new.self.items c.args.place (c.args.mono, c.args.sum) c.requires.sum (sym c.is_zero.ensures ∙ c.if-is_zero.true) c.remove.ensures.items

pub returns-else-is_zero : goal.returns-else-is_zero
returns-else-is_zero c =
    let field = c.args.field.now.base in
    put-replaced field.coeffs field.vars c.args.tail.now.items (slice_set c.args.tail.now.items c.args.place (c.args.mono, c.args.sum)) c.args.place (c.args.mono, c.args.sum) c.requires.sum (sym c.is_zero.ensures ∙ c.if-is_zero.false) c.requires.there.inside refl
