-- The generators of the action's ideal are written in all variables.
--   ideal_in             the fact
use Rattle.std.proofs.Common.{◌≡◌, ℕ, ◌+◌, ◌≤◌, List, [], ◌∷◌, ◌++◌, ◌&&◌, true, length, length-append, map, replicate, nat_le, nat_lt, refl, ◌∙◌, arith}
use Rattle.std.specs.List.{list_all}
use Rattle.std.proofs.lemmas.Bool.Decides.{nat_tests}
use Rattle.std.proofs.lemmas.List.{length-replicate}
use Rattle.std.proofs.lemmas.List.Elements.{All-nil, All-cons}
use Rattle.std.proofs.lemmas.List.Folds.{list_all-append}
use Rattle.rinv_algebra.specs.Residue.{residue_ops}
use Rattle.rinv_algebra.specs.Normal.{is_in_variables, IsNormal}
use Rattle.rinv_algebra.specs.Polynomial.{past}
use Rattle.rinv_algebra.proofs.Same.{both, and_true}
use Rattle.rinv_groebner.specs.Orders.{AreInVariables}
use Rattle.rinv_defs.specs.System.{System, Poly, group_count, space_count}
use Rattle.rinv_defs.specs.SystemForm.{IsSystem, is_good, system_parts}
use Rattle.rinv_defs.specs.Extended.{action_ideal, graph}
use Rattle.rinv_acceptance.proofs.ActionVariables.{graph_in}
use Rattle.rinv_text.proofs.SystemParts.{AreNormal, parts-of}
use Rattle.rinv_buch.proofs.InVariables.{all-in_variables}
use Rattle.rinv_reduction.specs.Localised.{all_count}

-- in more variables
more : (v w : ℕ) → v ≤ w → (f : Poly) → is_in_variables v f ≡ true → is_in_variables w f ≡ true
more v w low [] h = refl
more v w low (t ∷ f) h =
    let parts = both (nat_le (length t.0) v) (is_in_variables v f) h in
    let e : nat_le (length t.0) v ≡ true = parts.0 in
    and_true (nat_le (length t.0) w) (is_in_variables w f) (grind (arith, nat_tests, e, low)) (more v w low f parts.1)

-- behind others
behind : (k v w : ℕ) → k + v ≤ w → (f : Poly) → is_in_variables v f ≡ true → is_in_variables w (past k f) ≡ true
behind k v w low [] h = refl
behind k v w low (t ∷ f) h =
    let parts = both (nat_le (length t.0) v) (is_in_variables v f) h in
    let e : nat_le (length t.0) v ≡ true = parts.0 in
    let a = length-append (replicate k 0) t.0 in
    let b : length {A = ℕ} (replicate k 0) ≡ k = length-replicate k 0 in
    and_true (nat_le (length (replicate k 0 ++ t.0)) w) (is_in_variables w (past k f)) (grind (arith, nat_tests, e, low, a, b)) (behind k v w low f parts.1)

all-more : (v w : ℕ) → v ≤ w → (fs : List Poly) → AreInVariables v fs → AreInVariables w fs
all-more v w low [] h = refl
all-more v w low (f ∷ fs) h = let parts = both (is_in_variables v f) (list_all (is_in_variables v) fs) h in and_true (is_in_variables w f) (list_all (is_in_variables w) fs) (more v w low f parts.0) (all-more v w low fs parts.1)

all-behind : (k v w : ℕ) → k + v ≤ w → (fs : List Poly) → AreInVariables v fs → AreInVariables w (map (past k) fs)
all-behind k v w low [] h = refl
all-behind k v w low (f ∷ fs) h = let parts = both (is_in_variables v f) (list_all (is_in_variables v) fs) h in and_true (is_in_variables w (past k f)) (list_all (is_in_variables w) (map (past k) fs)) (behind k v w low f parts.0) (all-behind k v w low fs parts.1)

module _ (s : System) (form : IsSystem s) where
  written : (v : ℕ) (fs : List Poly) → AreNormal s.p v fs → AreInVariables v fs
  written v fs normal = all-in_variables (residue_ops s.p) (λ c. nat_lt c s.p) v fs normal

  section_normal : (fs : List Poly) → list_all (is_good s (space_count s)) fs ≡ true → AreNormal s.p (space_count s) fs
  section_normal [] h = All-nil (IsNormal (residue_ops s.p) (λ c. nat_lt c s.p) (space_count s))
  section_normal (f ∷ fs) h = let parts = both (is_good s (space_count s) f) (list_all (is_good s (space_count s)) fs) h in All-cons (IsNormal (residue_ops s.p) (λ c. nat_lt c s.p) (space_count s)) f fs parts.0 (section_normal fs parts.1)

  -- the section's polynomials are in normal form
  pub section-normal : AreNormal s.p (space_count s) s.section
  section-normal = section_normal s.section (both (list_all (λ part. part.1) (system_parts s) && nat_le (length s.section) 64) (list_all (is_good s (space_count s)) s.section) form).1

  pub ideal_in : AreInVariables (all_count s) (action_ideal s)
  ideal_in =
      list_all-append (is_in_variables (all_count s)) (s.ideal ++ graph s) (map (past (group_count s)) s.section)
      ∙ and_true (list_all (is_in_variables (all_count s)) (s.ideal ++ graph s)) (list_all (is_in_variables (all_count s)) (map (past (group_count s)) s.section))
      (list_all-append (is_in_variables (all_count s)) s.ideal (graph s)
      ∙ and_true (list_all (is_in_variables (all_count s)) s.ideal) (list_all (is_in_variables (all_count s)) (graph s)) (all-more (group_count s) (all_count s) (omega arith) s.ideal (written (group_count s) s.ideal (parts-of s form).ideal)) (graph_in s))
      (all-behind (group_count s) (space_count s) (all_count s) (omega arith) s.section (written (space_count s) s.section section-normal))
