use Rattle.std.proofs.Common.{◌≡◌, length, sym, arith}
use Rattle.rinv_gens.proofs.Tied.{tied-earlier, tied-new}
use Rattle.rinv_gens.proofs.tying.generator_of.Goals as goal

pub returns-in-Some-clause-fractions : goal.returns-in-Some-clause-fractions
returns-in-Some-clause-fractions c =
    let inside = rw (c.in-Some.is, c.deref.ensures.value) at c.in_ok-place.ensures.inside in
    let same = rw (c.in-Some.is, c.deref.ensures.value) at c.in_ok-place.ensures.same in
    sym (tied-earlier c.args.field.now.base.coeffs c.args.fractions.now.items c.args.c.now c.in-Some.place inside c.requires.no_number same).0

pub returns-in-Some-clause-tied : goal.returns-in-Some-clause-tied
returns-in-Some-clause-tied c =
    let inside = rw (c.in-Some.is, c.deref.ensures.value) at c.in_ok-place.ensures.inside in
    let same = rw (c.in-Some.is, c.deref.ensures.value) at c.in_ok-place.ensures.same in
    (tied-earlier c.args.field.now.base.coeffs c.args.fractions.now.items c.args.c.now c.in-Some.place inside c.requires.no_number same).1

pub returns-in_ok-push-in-None-clause-fractions : goal.returns-in_ok-push-in-None-clause-fractions
returns-in_ok-push-in-None-clause-fractions c =
    let new = rw (c.in-None.is, c.deref.ensures.value) at c.in_ok-place.ensures.none in
    let long : c.len.result ≡ length c.push.new.self.items = omega (arith, c.len.ensures) in
    (tied-new c.args.field.now.base.coeffs c.args.fractions.now.items c.args.c.now c.requires.no_number new c.push.new.self.items c.in_ok-copy-in-None.copy c.len.result c.in_ok-copy-in-None.ensures c.in_ok-push-in-None.ensures.items long).0

pub returns-in_ok-push-in-None-clause-tied : goal.returns-in_ok-push-in-None-clause-tied
returns-in_ok-push-in-None-clause-tied c =
    let new = rw (c.in-None.is, c.deref.ensures.value) at c.in_ok-place.ensures.none in
    let long : c.len.result ≡ length c.push.new.self.items = omega (arith, c.len.ensures) in
    (tied-new c.args.field.now.base.coeffs c.args.fractions.now.items c.args.c.now c.requires.no_number new c.push.new.self.items c.in_ok-copy-in-None.copy c.len.result c.in_ok-copy-in-None.ensures c.in_ok-push-in-None.ensures.items long).1
