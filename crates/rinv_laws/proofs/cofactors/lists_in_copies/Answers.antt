use Rattle.std.proofs.Common.{◌≡◌, ◌*◌, ℕ, map, subst, All, arith}
use Rattle.std.specs.List.{AllZip, range_with_len}
use Rattle.std.proofs.lemmas.List.Elements.{All-nil, All-push}
use Rattle.std.proofs.lemmas.Nat.{row_fits}
use Rattle.rinv_algebra.specs.Residue.{residue_ops}
use Rattle.rinv_groebner.specs.Division.{AreSame}
use Rattle.rinv_parts.specs.Points.{ArePolynomials}
use Rattle.rinv_laws.specs.Proofs.{chosen, past_lists}
use Rattle.rinv_laws.proofs.CopiedCofactors.{ranged-more}
use Rattle.rinv_laws.proofs.cofactors.lists_in_copies.Goals as goal

pub copies-init : goal.copies-init
copies-init c =
    let p = c.args.to.now.coeffs in
    rw c.new-all.ensures.items (record { normal = All-nil (λ ls. All (λ us. ArePolynomials p c.args.to.now.vars us.items) ls.items); value = tt })

pub lists_in_copy-requires-clause-inside : goal.lists_in_copy-requires-clause-inside
lists_in_copy-requires-clause-inside c = omega (arith, row_fits c.copies.copy c.args.from.now.vars c.args.copies c.args.from.now.vars c.copies-test.true (omega arith), c.requires.inside)

pub copies-preserved : goal.copies-preserved
copies-preserved c =
    let p = c.args.to.now.coeffs in
    let v = c.args.from.now.vars in
    let made = c.copies.all.items in
    rw c.in_ok-push.ensures.items (record {
      normal = All-push (λ ls. All (λ us. ArePolynomials p c.args.to.now.vars us.items) ls.items) made c.in_ok-in_this.in_this c.copies.invariant.normal c.in_ok-in_this.ensures.normal;
      value = ranged-more (AllZip (AreSame (residue_ops p))) (λ ls. map (λ us. us.items) ls.items) (λ j. past_lists (j * v) (chosen (map (λ us. us.items) c.args.lists.now) c.args.places.now)) c.copies.copy made c.in_ok-in_this.in_this c.copies.invariant.value c.in_ok-in_this.ensures.value;
    })

pub returns-clause-value : goal.returns-clause-value
returns-clause-value c =
    let o = residue_ops c.args.to.now.coeffs in
    let whole : c.copies.copy ≡ c.args.copies = omega (arith, c.copies-test.false, c.copies.auto.copy-end) in
    subst (λ (n : ℕ). AllZip (AllZip (AreSame o)) (map (λ ls. map (λ us. us.items) ls.items) c.copies.all.items) (map (λ j. past_lists (j * c.args.from.now.vars) (chosen (map (λ us. us.items) c.args.lists.now) c.args.places.now)) (range_with_len 0 n))) whole c.copies.invariant.value
