use Rattle.std.proofs.Common.{◌≡◌, reverse, Some}
use Rattle.rinv_text.specs.Meanings.{Meaning, negative_meaning}
use Rattle.rinv_text.proofs.Piles.{one-there, one-given, one-returns, along}
use Rattle.rinv_text.proofs.value.negative.Goals as goal

pub take_top-value-requires : goal.take_top-value-requires
take_top-value-requires c = let (gs, hs, pile, e) = c.requires in one-there c.args.ring.now.coeffs c.args.ring.now.vars (λ (x : Meaning). Some (negative_meaning c.args.ring.now.coeffs x)) (reverse c.args.stack.now.items) gs hs pile e

pub negative-requires : goal.negative-requires
negative-requires c =
    let (gs, hs, pile, e) = c.requires in
    let (g, z, s, h) = one-given c.args.ring.now.coeffs c.args.ring.now.vars (λ (x : Meaning). Some (negative_meaning c.args.ring.now.coeffs x)) c.take_top-value.result (reverse c.args.stack.now.items) (reverse c.take_top-value.new.stack.items) gs hs c.take_top-value.ensures pile e in
    (g, s)

pub returns : goal.returns
returns c = λ gs hs pile e.
    one-returns c.args.ring.now.coeffs c.args.ring.now.vars (λ (x : Meaning). Some (negative_meaning c.args.ring.now.coeffs x)) (reverse c.args.stack.now.items) (reverse c.take_top-value.new.stack.items) c.take_top-value.result c.negative.result gs hs c.take_top-value.ensures pile e
    (λ g z s h. let same : negative_meaning c.args.ring.now.coeffs g ≡ z = cc in along c.args.ring.now.coeffs c.args.ring.now.vars c.negative.result (negative_meaning c.args.ring.now.coeffs g) z same (c.negative.ensures g s))
