use Rattle.std.proofs.Common.{◌≡◌, ◌≤◌, ◌++◌, length, take}
use Rattle.rinv_algebra.specs.Residue.{residue_ops}
use Rattle.rinv_groebner.specs.Journal.{nonzeros}
use Rattle.rinv_defs.specs.Extended.{graph}
use Rattle.rinv_acceptance.specs.Inputs.{input_rows}
use Rattle.rinv_certify.proofs.inputs.input_rows.Given as goal

abbrev pub invariant-inputs : goal.invariant-inputs
invariant-inputs l = let s = l.system.system in record {
  rows : l.rows.items ≡ take l.k (input_rows s l.count (s.ideal ++ graph s));
  place : l.place ≡ length (nonzeros (residue_ops s.p) (take l.k (s.ideal ++ graph s)));
  low : l.place ≤ l.k;
}
