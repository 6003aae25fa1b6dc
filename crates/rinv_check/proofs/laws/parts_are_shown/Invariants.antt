use Rattle.std.proofs.Common.{◌≡◌, ◌&&◌, [], get_or, true}
use Rattle.std.specs.List.{list_all, range_with_len}
use Rattle.rinv_algebra.specs.Residue.{residue_ops}
use Rattle.rinv_algebra.specs.Fits.{multiplies_out}
use Rattle.rinv_parts.specs.LawNames.{law_of}
use Rattle.rinv_parts.specs.Parts.{part_at, part_fits}
use Rattle.rinv_check.proofs.laws.parts_are_shown.Given as goal

abbrev pub invariant-parts : goal.invariant-parts
invariant-parts l =
    let s = l.system.system in
    let law = law_of l.law_parts.law in
    list_all (λ k. part_fits s law k && multiplies_out (residue_ops s.p) (part_at s law k) (get_or l.lists k []) l.generators) (range_with_len 0 l.k) ≡ true
