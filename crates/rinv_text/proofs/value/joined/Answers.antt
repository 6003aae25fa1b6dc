use Rattle.std.proofs.Common.{reverse}
use Rattle.rinv_text.specs.Meanings.{binary}
use Rattle.rinv_text.proofs.Piles.{two-top, two-next, two-given, two-returns}
use Rattle.rinv_text.proofs.value.joined.Goals as goal

pub take_top-right-requires : goal.take_top-right-requires
take_top-right-requires c = let (gs, hs, pile, e) = c.requires in two-top c.args.ring.now.coeffs c.args.ring.now.vars (binary c.args.ring.now.coeffs c.args.how) (reverse c.args.stack.now.items) gs hs pile e

pub take_top-left-requires : goal.take_top-left-requires
take_top-left-requires c = let (gs, hs, pile, e) = c.requires in two-next c.args.ring.now.coeffs c.args.ring.now.vars (binary c.args.ring.now.coeffs c.args.how) (reverse c.args.stack.now.items) (reverse c.take_top-right.new.stack.items) c.take_top-right.result gs hs c.take_top-right.ensures pile e

pub combined-requires : goal.combined-requires
combined-requires c =
    let (gs, hs, pile, e) = c.requires in
    two-given c.args.ring.now.coeffs c.args.ring.now.vars (binary c.args.ring.now.coeffs c.args.how) (reverse c.args.stack.now.items) (reverse c.take_top-right.new.stack.items) (reverse c.take_top-left.new.stack.items) c.take_top-left.result c.take_top-right.result gs hs
    c.take_top-right.ensures c.take_top-left.ensures pile e

pub returns : goal.returns
returns c = λ gs hs pile e.
    two-returns c.args.ring.now.coeffs c.args.ring.now.vars (binary c.args.ring.now.coeffs c.args.how) (reverse c.args.stack.now.items) (reverse c.take_top-right.new.stack.items) (reverse c.take_top-left.new.stack.items) c.take_top-left.result c.take_top-right.result c.in_ok-joined.joined gs hs
    c.take_top-right.ensures c.take_top-left.ensures pile e c.in_ok-joined.ensures
