use Rattle.std.proofs.Common.{sym, ap, ◌∙◌, refl}
use Rattle.rinv_defs.specs.RelationConditions.{is_tied_to}
use Rattle.rinv_cert.specs.Seen.{tied_of}
use Rattle.rinv_basis_check.proofs.TiedCoefficients.{fraction-is, fraction-stored, among-inside}
use Rattle.rinv_basis_check.proofs.tied.is_tied_to.Goals as goal

pub is_fraction-requires-clause-fraction : goal.is_fraction-requires-clause-fraction
is_fraction-requires-clause-fraction c =
    fraction-stored c.args.ring.now.coeffs c.args.ring.now.vars c.args.fractions.now c.requires.fractions _ c.index-fractions-k.result (among-inside c.args.ring.now.coeffs _ c.in-Generator.k c.args.tied.now c.requires.tied c.in-Generator.is) c.index-fractions-k.is

pub returns-in_ok-is-in-Generator : goal.returns-in_ok-is-in-Generator
returns-in_ok-is-in-Generator c = λ cert e ef.
    c.in_ok-is-in-Generator.ensures cert c.in-Generator.k e
    (fraction-is cert c.args.fractions.now ef c.in-Generator.k _ c.index-fractions-k.result refl (among-inside c.args.ring.now.coeffs _ c.in-Generator.k c.args.tied.now c.requires.tied c.in-Generator.is) c.index-fractions-k.is)
    ∙ ap (λ t. is_tied_to cert c.args.d.now c.args.u.now (tied_of t)) (sym c.in-Generator.is)
