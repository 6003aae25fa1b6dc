use Rattle.std.proofs.Common.{◌≡◌, ◌∙◌, sym, subst, List, map}
use Rattle.std.specs.List.{AllZip}
use Rattle.std.proofs.lemmas.List.{take_all}
use Rattle.std.proofs.lemmas.Result.{err_from_is_err_and}
use Rattle.rinv_defs.specs.Invariant.{Fraction}
use Rattle.rinv_poly.proofs.Meets.{meet-weaker}
use Rattle.rinv_laws.specs.Proofs.{BasisMeets}
use Rattle.rinv_change.specs.Cofactors.{ProofMeets, ProvesInvariance}
use Rattle.rinv_generators.specs.Proving.{FractionsMeet}
use Rattle.rinv_generators.proofs.ProvedFractions.{basis-meets, fraction-meets, proofs-more}
use Rattle.rinv_generators.proofs.proving.invariance_proofs.Goals as goal

pub returns-in_err-cofactors-clause-degree : goal.returns-in_err-cofactors-clause-degree
returns-in_err-cofactors-clause-degree c =
    let s = c.args.system.now.system in
    let group = c.args.group.now.basis in
    let cs = c.args.fractions.now in
    let q = err_from_is_err_and c.from_residual-in_err-cofactors.result c.from_residual-in_err-cofactors.ensures.1 in
    rw (q.1, q.2) (meet-weaker (BasisMeets s group) (FractionsMeet s group cs) (basis-meets s group cs (sym c.is_empty.ensures ∙ c.if-is_empty.false)) c.in_err-cofactors.field-0.0 c.in_err-cofactors.ensures.degree)

pub returns-in_err-proof-clause-degree : goal.returns-in_err-proof-clause-degree
returns-in_err-proof-clause-degree c =
    let s = c.args.system.now.system in
    let group = c.args.group.now.basis in
    let cs = c.args.fractions.now in
    let q = err_from_is_err_and c.from_residual-in_err-proof.result c.from_residual-in_err-proof.ensures.1 in
    rw (q.1, q.2) (meet-weaker (ProofMeets s group c.index-fractions-k.result) (FractionsMeet s group cs)
    (fraction-meets s group cs c.fractions.k c.index-fractions-k.result c.fractions-test.true c.index-fractions-k.is) c.in_err-proof.field-0.0 c.in_err-proof.ensures.degree)

pub fractions-preserved : goal.fractions-preserved
fractions-preserved c =
    rw c.in_ok-push.ensures.items (proofs-more c.args.system.now.system c.args.group.now.basis (λ us. us.items) c.args.fractions.now c.fractions.k c.index-fractions-k.result c.fractions.proofs.items c.in_ok-proof.proof
    c.fractions-test.true c.index-fractions-k.is c.fractions.invariant c.in_ok-proof.ensures.proof)

pub returns-clause-proofs : goal.returns-clause-proofs
returns-clause-proofs c =
    subst (λ (fs : List Fraction). AllZip (ProvesInvariance c.args.system.now.system c.args.group.now.basis) fs (map (λ us. us.items) c.fractions.proofs.items)) (take_all c.fractions.k c.args.fractions.now c.fractions-test.false) c.fractions.invariant
