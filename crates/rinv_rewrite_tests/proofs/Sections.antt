-- A system with one more polynomial in its section.
--   pushed    it is a system too
use Rattle.std.proofs.Common.{◌≡◌, ◌+◌, ◌<◌, Bool, true, false, true≢false, ◌&&◌, List, [], ◌∷◌, ◌++◌, length, refl, sym, ◌∙◌, arith, IsTrue}
use Rattle.std.specs.Prelude.{nat_le, if◌then◌else◌}
use Rattle.std.specs.List.{list_all}
use Rattle.std.proofs.lemmas.Bool.Decides.{nat_tests}
use Rattle.std.proofs.lemmas.List.{length-append}
use Rattle.std.proofs.lemmas.List.Folds.{list_all-append}
use Rattle.rinv_algebra.proofs.Same.{both, and_true}
use Rattle.rinv_defs.specs.System.{System, Poly, space_count}
use Rattle.rinv_defs.specs.SystemForm.{is_good, system_parts, IsSystem}

pub taken : {X : Type 0} (b : Bool) (ys : List X) {xs zs : List X} → zs ≡ (if b then xs else ys) → b ≡ true → zs ≡ xs
taken true ys e is = e
taken false ys e is = absurd (true≢false (sym is))

one_more : {X : Type 0} (xs : List X) (x : X) → length xs < 64 → IsTrue (nat_le (length (xs ++ x ∷ [])) 64)
one_more xs x below = rw (length-append xs (x ∷ [])) grind (arith, nat_tests, below)

pub pushed : (s : System) (f : Poly) → IsSystem s → length s.section < 64 → IsTrue (is_good s (space_count s) f)
    → IsSystem (record { p = s.p; group = s.group; space = s.space; ideal = s.ideal; unit = s.unit; product = s.product; inverse = s.inverse; action = s.action; section = s.section ++ f ∷ [] })
pushed s f is below good =
    let outer = both (list_all (λ part. part.1) (system_parts s) && nat_le (length s.section) 64) (list_all (is_good s (space_count s)) s.section) is in
    let parts = both (list_all (λ part. part.1) (system_parts s)) (nat_le (length s.section) 64) outer.0 in
    and_true (list_all (λ part. part.1) (system_parts s) && nat_le (length (s.section ++ f ∷ [])) 64) (list_all (is_good s (space_count s)) (s.section ++ f ∷ []))
    (and_true (list_all (λ part. part.1) (system_parts s)) (nat_le (length (s.section ++ f ∷ [])) 64) parts.0 (one_more s.section f below))
    (list_all-append (is_good s (space_count s)) s.section (f ∷ []) ∙ and_true (list_all (is_good s (space_count s)) s.section) (list_all (is_good s (space_count s)) (f ∷ [])) outer.1 (and_true (is_good s (space_count s) f) true good refl))
