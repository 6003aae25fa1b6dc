use Rattle.rinv_defs.specs.Laws.{L1, A1}
use Rattle.rinv_theory.proofs.Variables.{in_variables-of}
use Rattle.rinv_soundness.proofs.ActionIdeals.{generators}
use Rattle.rinv_soundness.proofs.ExtendedIdeals.{ops, laws, nonzero-class}
use Rattle.rinv_soundness.proofs.GraphImages.{crossed_member}
use Rattle.rinv_soundness.specs.Rewriting.{symbol_relations}
use Rattle.rinv_soundness.proofs.Rewritten.{rest-denotes, rest-found}
use Rattle.rinv_soundness.proofs.Vanishing.{lasts}
use Rattle.rinv_soundness.proofs.FullParts.{full_parts}
use Rattle.rinv_soundness.proofs.Expressed.{full_laws, full_rewriting}
use Rattle.rinv_soundness.proofs.certificate_rewriting.Goals as goal
use Rattle.rinv_defs.specs.System.{space_count}

pub returns-clause-denotes : goal.returns-clause-denotes
returns-clause-denotes c = λ c f a b m kind accepted is rest_a rest_b defined.
    let form = (full_parts c kind accepted).form in
    rest-denotes c.system (generators c.system form) c.fractions (symbol_relations c) (full_rewriting c kind accepted) f is.fraction (crossed_member c.system form f is) a b rest_a rest_b m defined

pub returns-clause-found : goal.returns-clause-found
returns-clause-found c = λ c q b kind accepted in_q nonzero rest.
    let form = (full_parts c kind accepted).form in
    let hold = full_laws c kind accepted in
    rest-found c.system (generators c.system form) c.fractions (symbol_relations c) (full_rewriting c kind accepted) q in_q
    (lasts c.system form (hold L1) (hold A1) c.fractions (in_variables-of (ops c.system) (laws c.system) (space_count c.system) q in_q) (nonzero-class (ops c.system) (laws c.system) q nonzero)) b rest
