-- Lists of terms by halves.
--   no-item, one-item    a list without elements, and with one
--   two-parts            its first elements and the others
use Rattle.std.proofs.Common.{◌≡◌, ◌==◌, ℕ, true, List, [], ◌∷◌, ◌++◌, length, get_or, take, drop, ◌-◌, sym, ap, ◌∙◌, arith}
use Rattle.std.proofs.lemmas.Bool.Decides.{nat_tests}
use Rattle.std.proofs.lemmas.List.{nil_from_length, take_all, length-drop, take-append-drop}

pub no-item : {X : Type 0} (xs : List X) → (length xs == 0) ≡ true → xs ≡ []
no-item xs e = nil_from_length xs (grind (arith, nat_tests, e))

pub one-item : {X : Type 0} (xs : List X) (x : X) → length xs ≡ 1 → x ≡ get_or xs 0 x → xs ≡ x ∷ []
one-item [] x e at = absurd (omega (arith, e))
one-item (y ∷ []) x e at = ap (λ z. z ∷ []) (sym at)
one-item (y ∷ z ∷ zs) x e at = absurd (omega (arith, e))

pub two-parts : {X : Type 0} (xs : List X) (k : ℕ) → xs ≡ take k xs ++ take (length xs - k) (drop k xs)
two-parts xs k = sym (ap (λ r. take k xs ++ r) (take_all (length xs - k) (drop k xs) (omega (arith, length-drop k xs))) ∙ take-append-drop k xs)
