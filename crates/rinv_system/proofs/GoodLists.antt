-- The polynomials that lines give, as those of a system.
use Rattle.std.proofs.Common.{◌≡◌, ℕ, suc, ◌+◌, ◌*◌, ◌≤◌, List, [], ◌∷◌, ◌++◌, length, map, Bool, true, false, ◌&&◌, ◌==◌, nat_lt, nat_le, Some, None, if◌then◌else◌, refl, ap, ◌∙◌, arith, length-append}
use Rattle.std.specs.List.{list_all}
use Rattle.std.proofs.lemmas.Bool.Decides.{nat_tests}
use Rattle.std.proofs.lemmas.List.{length-map}
use Rattle.rinv_algebra.specs.Residue.{residue_ops}
use Rattle.rinv_algebra.specs.Polynomial.{coefficient}
use Rattle.rinv_algebra.specs.Normal.{is_normal}
use Rattle.rinv_algebra.proofs.Same.{both, and_true}
use Rattle.rinv_defs.specs.System.{Poly}
use Rattle.rinv_text.specs.Names.{copies, suffixed}
use Rattle.rinv_system.specs.declared.refused.Code.{Code}
use Rattle.rinv_system.specs.Drafts.{at_most, exactly}
use Rattle.rinv_system.specs.Forms.{AreEntries}
use Rattle.rinv_system.proofs.Constants.{constant-small}

-- so many polynomials at most, in normal form in v variables
abbrev pub are_normal : ℕ → ℕ → List Poly → Bool
are_normal p v fs = list_all (λ f. is_normal (residue_ops p) (λ c. nat_lt c p) v f) fs

-- so many polynomials
abbrev pub are_so_many : ℕ → ℕ → ℕ → List Poly → Bool
are_so_many p count v fs = length fs == count && are_normal p v fs

pub AreEntries-length : {p : ℕ} {names es : List (List ℕ)} {fs : List Poly} → AreEntries p names es fs → length fs ≡ length es
AreEntries-length AreEntries.none = refl
AreEntries-length (AreEntries.one_more e f is are) = ap suc (AreEntries-length are)

pub AreEntries-normal : {p : ℕ} {names es : List (List ℕ)} {fs : List Poly} → AreEntries p names es fs → are_normal p (length names) fs ≡ true
AreEntries-normal AreEntries.none = refl
AreEntries-normal (AreEntries.one_more {fs = fs} e f is are) = and_true _ _ is.normal (AreEntries-normal are)

-- what a length that is not refused is
some_none : (code : Code) → Some code ≡ None → ⊥
some_none code e = cc

pub at_most-none : (bound count : ℕ) → at_most bound count ≡ None → nat_le count bound ≡ true
at_most-none bound count h = go (nat_lt bound count) _ h refl
  where
    go : (t : Bool) (code : Code) → (if t then Some code else None) ≡ None → nat_lt bound count ≡ t → nat_le count bound ≡ true
    go true code e is = absurd (some_none code e)
    go false code e is = grind (arith, nat_tests)

pub exactly-none : (wanted count : ℕ) → exactly wanted count ≡ None → (count == wanted) ≡ true
exactly-none wanted count h = go (count == wanted) _ h
  where
    go : (t : Bool) (code : Code) → (if t then None else Some code) ≡ None → t ≡ true
    go true code e = refl
    go false code e = absurd (some_none code e)

-- how many names two copies have
length-suffixed : (s : List ℕ) (ws : List (List ℕ)) → length (suffixed s ws) ≡ length ws
length-suffixed s ws = length-map ws (λ w. w ++ s)

pub length-two_copies : (ws : List (List ℕ)) → length (copies 2 ws) ≡ 2 * length ws
length-two_copies ws =
    let first = length-suffixed [] ws in let second = length-suffixed (39 ∷ []) ws in
    length-append (suffixed [] ws) (suffixed (39 ∷ []) ws) ∙ (let e : length (suffixed [] ws) + length (suffixed (39 ∷ []) ws) ≡ 2 * length ws = omega (arith, first, second) in e)

-- the constants of polynomials without variables are residues
pub constants-small : (p : ℕ) (fs : List Poly) → 1 ≤ p → are_normal p 0 fs ≡ true → list_all (λ c. nat_lt c p) (map (λ f. coefficient (residue_ops p) f []) fs) ≡ true
constants-small p [] some h = refl
constants-small p (f ∷ fs) some h = let parts = both _ (are_normal p 0 fs) h in and_true _ _ (constant-small p f some parts.0) (constants-small p fs some parts.1)
