use Rattle.std.proofs.Common.{nat_lt, arith}
use Rattle.std.proofs.lemmas.List.Elements.{All-push}
use Rattle.rinv_algebra.specs.Residue.{residue_ops}
use Rattle.rinv_algebra.specs.Normal.{IsNormal}
use Rattle.rinv_recording.proofs.PaddedLists.{zeros-begin, zeros-end, zeros-more}
use Rattle.rinv_recording.proofs.padding.with_zeros.Goals as goal

pub zeros-init : goal.zeros-init
zeros-init c = record { normal = c.requires; behind = zeros-begin c.args.ring.now.coeffs c.args.begun.items c.args.count }

pub zeros-preserved : goal.zeros-preserved
zeros-preserved c =
    let p = c.args.ring.now.coeffs in
    rw c.in_ok-push.ensures.items (record {
      normal = All-push (IsNormal (residue_ops p) (λ n. nat_lt n p) c.args.ring.now.vars) c.zeros.list.items c.in_ok-zero.zero c.zeros.invariant.normal c.in_ok-zero.ensures.element;
      behind = zeros-more p c.args.begun.items c.args.count c.zeros.list.items c.in_ok-zero.zero (omega (arith, c.zeros-test.true, c.len.ensures)) c.in_ok-zero.ensures.value c.zeros.invariant.behind;
    })

pub returns-clause-value : goal.returns-clause-value
returns-clause-value c = zeros-end c.args.ring.now.coeffs c.args.begun.items c.args.count c.zeros.list.items (omega (arith, c.zeros-test.false, c.len.ensures)) c.zeros.invariant.behind
