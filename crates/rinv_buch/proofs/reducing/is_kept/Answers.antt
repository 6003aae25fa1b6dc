use Rattle.std.proofs.Common.{◌≡◌, sym, ap, ◌∙◌, true, [], not, ◌⊎◌, inl, inr, arith}
use Rattle.std.specs.Prelude.{nat_lt}
use Rattle.std.proofs.lemmas.List.{get_or_read}
use Rattle.rinv_algebra.specs.Monomial.{divides}
use Rattle.rinv_buch.proofs.KeptPlaces.{kept-none, kept-all, against}
use Rattle.rinv_buch.proofs.reducing.is_kept.Goals as goal
use Rattle.rinv_buch.proofs.reducing.is_kept.Goals.{then-k-place, else-k-place}

pub returns-then-not-divides : goal.returns-then-not-divides
returns-then-not-divides c =
    let m = get_or_read c.args.monomials.now c.others.k c.index-monomials-k.result c.others-test.true c.index-monomials-k.is [] in
    let p = get_or_read c.args.monomials.now c.args.place c.index-monomials-place.result c.requires.inside c.index-monomials-place.is [] in
    let why : (nat_lt c.others.k c.args.place ≡ true) ⊎ (not (divides c.index-monomials-place.result c.index-monomials-k.result) ≡ true) = elim c.if-k-place.branch [
      | then-k-place w ↦ inl (sym w.value-is ∙ c.if-not-divides.true)
      | else-k-place w ↦ inr (sym (ap not w.divides-else-k-place.ensures) ∙ sym w.value-is ∙ c.if-not-divides.true)
    ] in
    sym (kept-none c.args.monomials.now c.args.place c.others.k c.others-test.true (against c.args.monomials.now c.args.place c.others.k _ _ m p (sym c.divides.ensures ∙ c.if-divides.true) why))

pub returns : goal.returns
returns c = sym (kept-all c.args.monomials.now c.args.place (λ k low. c.others.invariant k (omega arith)))
