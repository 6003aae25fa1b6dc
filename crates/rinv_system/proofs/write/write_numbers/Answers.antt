use Rattle.std.proofs.Common.{arith, refl, sym, decimal, map, []}
use Rattle.std.proofs.lemmas.List.{get_or-map, length-map}
use Rattle.rinv_system.proofs.WrittenLists.{list-step, seen-all}
use Rattle.rinv_system.proofs.write.write_numbers.Goals as goal

pub numbers-preserved : goal.numbers-preserved
numbers-preserved c =
    list-step c.args.out.now.items _ _ _ (map decimal c.args.numbers.now) c.numbers.k _ _ (omega (arith, c.numbers-test.true, length-map c.args.numbers.now decimal)) refl
    (sym (get_or-map decimal c.args.numbers.now c.numbers.k 0 [] c.numbers-test.true)) c.numbers.invariant c.in_ok-separate.ensures c.in_ok-write_number.ensures

pub returns : goal.returns
returns c = seen-all decimal c.args.numbers.now _ c.args.out.now.items c.numbers.k c.numbers-test.false c.numbers.invariant
