use Rattle.std.proofs.Common.{◌≡◌, ◌<◌, ℕ, [], length, get_or, map}
use Rattle.rinv_defs.specs.Laws.{copies}
use Rattle.rinv_parts.specs.LawNames.{law_of, variables_of}
use Rattle.rinv_laws.specs.Proofs.{AreInCopies, chosen, in_copy}
use Rattle.rinv_laws.proofs.proving.cofactors_of_law.Given as goal

abbrev pub invariant-parts : goal.invariant-parts
invariant-parts l = let s = l.system.system in let law = law_of l.fn.law in let lists = chosen (map (λ us. us.items) l.lists) l.places in record {
  number : length l.arrays.items ≡ l.k;
  each : (i : ℕ) → i < l.k → AreInCopies s.p (variables_of s law) (copies law) (length s.ideal) (length lists) (λ j. in_copy s j lists) (get_or (map (λ qs. qs.items) l.quotients) i []) (get_or (map (λ us. us.items) l.arrays.items) i []);
}
