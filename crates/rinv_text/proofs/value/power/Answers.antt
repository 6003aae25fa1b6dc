use Rattle.std.proofs.Common.{reverse}
use Rattle.rinv_text.specs.Meanings.{Meaning, power_meaning, within}
use Rattle.rinv_text.proofs.Piles.{one-there, one-given, one-returns}
use Rattle.rinv_text.proofs.value.power.Goals as goal

pub take_top-base-requires : goal.take_top-base-requires
take_top-base-requires c = let (gs, hs, pile, e) = c.requires in one-there c.args.ring.now.coeffs c.args.ring.now.vars (λ (x : Meaning). within (power_meaning c.args.ring.now.coeffs x c.args.exponent)) (reverse c.args.stack.now.items) gs hs pile e

pub power-requires : goal.power-requires
power-requires c =
    let (gs, hs, pile, e) = c.requires in
    one-given c.args.ring.now.coeffs c.args.ring.now.vars (λ (x : Meaning). within (power_meaning c.args.ring.now.coeffs x c.args.exponent)) c.take_top-base.result (reverse c.args.stack.now.items) (reverse c.take_top-base.new.stack.items) gs hs c.take_top-base.ensures pile e

pub returns : goal.returns
returns c = λ gs hs pile e.
    one-returns c.args.ring.now.coeffs c.args.ring.now.vars (λ (x : Meaning). within (power_meaning c.args.ring.now.coeffs x c.args.exponent)) (reverse c.args.stack.now.items) (reverse c.take_top-base.new.stack.items) c.take_top-base.result c.in_ok-power.power gs hs c.take_top-base.ensures pile e
    c.in_ok-power.ensures
