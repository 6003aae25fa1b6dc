-- The names that the polynomials of a line may have.
use Rattle.std.proofs.Common.{◌≡◌, ℕ, List, refl, sym, ap, ◌∙◌}
use Rattle.rinv_text.specs.Names.{copies}
use Rattle.rinv_text.proofs.MadeNames.{suffixed-none}
use Rattle.rinv_system.specs.declared.keyword.Keyword.{Keyword}
use Rattle.rinv_system.specs.declared.keyword.Keyword.TheVariants.{Unit as AtUnit, Product, Action, Section}
use Rattle.rinv_system.specs.Drafts.{Draft, group_names, space_names, names_for}

-- most lines have the group's names
pub names_for-others : (d : Draft) (k : Keyword) → (k ≡ AtUnit → ⊥) → (k ≡ Product → ⊥) → (k ≡ Action → ⊥) → (k ≡ Section → ⊥) → names_for d k ≡ copies 1 (group_names d)
names_for-others d AtUnit u p a s = absurd (u refl)
names_for-others d Product u p a s = absurd (p refl)
names_for-others d Action u p a s = absurd (a refl)
names_for-others d Section u p a s = absurd (s refl)
names_for-others d k u p a s = sym (suffixed-none (group_names d))

-- the section has those of the space
pub names_for-section : (d : Draft) (k : Keyword) (ws : List (List ℕ)) → k ≡ Section → space_names d ≡ ws → names_for d k ≡ copies 1 ws
names_for-section d k ws is same = ap (names_for d) is ∙ same ∙ sym (suffixed-none ws)
