use Rattle.std.proofs.Common.{◌≡◌, ℕ, List, false, subst, sym, refl}
use Rattle.rinv_basis_check.specs.Listed.{is_listed}
use Rattle.rinv_basis_check.proofs.Ranges.{fresh-last}
use Rattle.rinv_basis_check.proofs.listed_pairs.ListedPairs.add.Goals as goal

pub returns : goal.returns
returns c =
    let fresh = subst (λ (ks : List (ℕ × ℕ)). is_listed ks c.args.i c.args.j ≡ false) (sym c.self.view_is) c.requires in
    rw (c.in-Ok.ensures.keys, c.min.ensures, c.max.ensures) (fresh-last _ _ _ _ _ c.self.view_is refl fresh)
