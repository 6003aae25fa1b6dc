use Rattle.std.proofs.Common.{◌∙◌, sym}
use Rattle.rinv_algebra.specs.Order.{grevlex}
use Rattle.rinv_algebra.specs.Residue.{residue_ops}
use Rattle.rinv_algebra.proofs.Grevlex.{grevlex_laws, grevlex_ties}
use Rattle.rinv_algebra.proofs.ResidueField.{residue_field_laws}
use Rattle.rinv_algebra.proofs.ResidueLaws.{residue_laws}
use Rattle.rinv_buch.proofs.OwnIdeal.{nonzero-each, over-itself}
use Rattle.rinv_engine_tests.proofs.bases.reduced_basis.Goals as goal

pub interreduce-requires-clause-nonzero : goal.interreduce-requires-clause-nonzero
interreduce-requires-clause-nonzero c = nonzero-each (residue_ops c.args.ring.now.coeffs) c.in-Ok.found.polys c.in-Ok.ensures.nonzero

pub interreduce-requires-clause-groebner : goal.interreduce-requires-clause-groebner
interreduce-requires-clause-groebner c =
    over-itself (residue_ops c.args.ring.now.coeffs) (residue_laws c.args.ring.now.coeffs) (residue_field_laws c.args.ring.now.coeffs) grevlex c.args.ring.now.vars
    (record { laws = grevlex_laws; ties = λ a b la lb e. grevlex_ties a b (la ∙ sym lb) e }) _ c.in-Ok.found.polys c.in-Ok.ensures.groebner
