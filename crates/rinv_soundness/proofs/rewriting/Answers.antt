use Rattle.rinv_soundness.proofs.Vanishing.{vanishes-extended, extended-vanishes, vanishes_nowhere, basis-denotes}
use Rattle.rinv_soundness.proofs.Rewritten.{symbol_basis, rest-zero, rest-found}
use Rattle.rinv_defs.specs.Extended.{action_ideal}
use mathlib.Core.Logic.{∥∥₁_elim}
use Rattle.rinv_soundness.proofs.rewriting.Goals as goal

pub returns-clause-denotes : goal.returns-clause-denotes
returns-clause-denotes c = basis-denotes

pub returns-clause-found : goal.returns-clause-found
returns-clause-found c = λ s c qs q b basis in_q rest lasts. rest-found s (action_ideal s) c qs (symbol_basis s c qs basis) q in_q (λ e. ∥∥₁_elim (extended-vanishes s c q e) (λ x y. absurd x) lasts) b rest

pub returns-clause-vanishes : goal.returns-clause-vanishes
returns-clause-vanishes c = λ s c qs q b m basis in_q rest v. rest-zero s (action_ideal s) c qs (symbol_basis s c qs basis) q in_q (vanishes-extended s c q v) b rest m

pub returns-clause-no_section : goal.returns-clause-no_section
returns-clause-no_section c = vanishes_nowhere
