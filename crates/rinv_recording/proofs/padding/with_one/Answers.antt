use Rattle.std.proofs.lemmas.List.Elements.{AllZip-push}
use Rattle.rinv_algebra.specs.Ring.{IsSame}
use Rattle.rinv_algebra.specs.Residue.{residue_ops}
use Rattle.rinv_algebra.specs.Polynomial.{poly_ops}
use Rattle.rinv_algebra.proofs.ResidueLaws.{residue_laws}
use Rattle.rinv_groebner.proofs.JournalUnique.{same_refl}
use Rattle.rinv_recording.proofs.padding.with_one.Goals as goal

pub returns-clause-value : goal.returns-clause-value
returns-clause-value c =
    let o = residue_ops c.args.ring.now.coeffs in
    let begun = c.args.begun.items in
    rw c.in_ok-push.ensures.items (AllZip-push (IsSame (poly_ops o)) begun begun c.in_ok-one.one (poly_ops o).one (same_refl o (residue_laws c.args.ring.now.coeffs) begun) c.in_ok-one.ensures.value)
