-- The names that lines give, as names of a system.
use Rattle.std.proofs.Common.{◌≡◌, ℕ, ◌≤◌, List, [], ◌∷◌, ◌++◌, length, Bool, true, false, not, ◌&&◌, ◌||◌, ◌==◌, bytes_eq, if◌then◌else◌, refl, sym, ap, subst, ◌∙◌, arith}
use Rattle.std.specs.List.{list_all, list_any}
use Rattle.std.proofs.lemmas.Bool.Decides.{nat_tests}
use Rattle.std.proofs.lemmas.List.{length-map}
use Rattle.std.proofs.lemmas.List.Folds.{list_any-append}
use Rattle.rinv_algebra.proofs.Same.{both}
use Rattle.rinv_defs.specs.Names.{is_letter, is_plain_name, is_symbol, are_names}
use Rattle.rinv_text.specs.Tokens.{is_name_byte}
use Rattle.rinv_text.specs.Names.{is_new_name, meet, has_prime}
use Rattle.rinv_text.proofs.NamesInTurn.{are_names-push}
use Rattle.rinv_system.specs.Lines.{onto_first}
use Rattle.rinv_system.specs.Entries.{entries_of, words_of}
use Rattle.rinv_system.specs.Forms.{AreNewNames}

or_swapped : (a b : Bool) → (a || b) ≡ (b || a)
or_swapped true true = refl
or_swapped true false = refl
or_swapped false true = refl
or_swapped false false = refl

pub new-swapped : (xs earlier : List (List ℕ)) (w : List ℕ) → is_new_name (xs ++ earlier) w ≡ is_new_name (earlier ++ xs) w
new-swapped xs earlier w = ap (λ t. is_plain_name w && not (is_symbol w) && not t) (list_any-append (bytes_eq w) xs earlier ∙ or_swapped (list_any (bytes_eq w) xs) (list_any (bytes_eq w) earlier) ∙ sym (list_any-append (bytes_eq w) earlier xs))

-- new names are names
pub AreNewNames-form : {earlier ws : List (List ℕ)} → AreNewNames earlier ws → are_names earlier ws ≡ true
unfolding are_names
AreNewNames-form AreNewNames.none = refl
AreNewNames-form {earlier = earlier} (AreNewNames.one_more {ws = ws} w before new) =
    are_names-push earlier ws w ∙ ap (λ t. t && is_new_name (ws ++ earlier) w) (AreNewNames-form before) ∙ new-swapped ws earlier w ∙ new

-- a list has an entry at least
onto_first-some : (b : ℕ) (ls : List (List ℕ)) → 1 ≤ length (onto_first b ls)
onto_first-some b [] = omega arith
onto_first-some b (l ∷ ls) = omega arith

some_of : (t : Bool) (xs ys : List (List ℕ)) → 1 ≤ length xs → 1 ≤ length ys → 1 ≤ length (if t then xs else ys)
some_of true xs ys x y = x
some_of false xs ys x y = y

pub entries_of-some : (rest : List ℕ) → 1 ≤ length (entries_of rest)
unfolding entries_of
entries_of-some [] = omega arith
entries_of-some (b ∷ bs) = some_of (b == 44) ([] ∷ entries_of bs) (onto_first b (entries_of bs)) (omega arith) (onto_first-some b (entries_of bs))

pub words_of-some : (rest : List ℕ) → 1 ≤ length (words_of rest)
words_of-some rest = subst (λ n. 1 ≤ n) (sym (length-map (entries_of rest) _)) (entries_of-some rest)

-- ---- names have no primes

letter-plain : (b : ℕ) → is_letter b ≡ true → (b == 39) ≡ false
letter-plain b h = grind (arith, nat_tests)

byte-plain : (b : ℕ) → is_name_byte b ≡ true → (b == 39) ≡ false
byte-plain b h = grind (arith, nat_tests)

bytes-plain : (bs : List ℕ) → list_all is_name_byte bs ≡ true → has_prime bs ≡ false
bytes-plain [] h = refl
bytes-plain (b ∷ bs) h = let parts = both (is_name_byte b) (list_all is_name_byte bs) h in ap (λ t. t || has_prime bs) (byte-plain b parts.0) ∙ bytes-plain bs parts.1

plain-plain : (w : List ℕ) → is_plain_name w ≡ true → has_prime w ≡ false
plain-plain [] h = refl
plain-plain (b ∷ bs) h =
    let parts = both (is_letter b && list_all is_name_byte bs) _ h in
    let inner = both (is_letter b) (list_all is_name_byte bs) parts.0 in
    ap (λ t. t || has_prime bs) (letter-plain b inner.0) ∙ bytes-plain bs inner.1

module _ (earlier : List (List ℕ)) (w : List ℕ) (ws : List (List ℕ)) (h : are_names earlier (w ∷ ws) ≡ true) where
  parts : (is_plain_name w ≡ true) × (list_any (bytes_eq w) earlier ≡ false) × (are_names (w ∷ earlier) ws ≡ true)
  unfolding are_names
  parts =
      let outer = both (is_plain_name w && not (is_symbol w) && not (list_any (bytes_eq w) earlier)) (are_names (w ∷ earlier) ws) h in
      let next = both (is_plain_name w && not (is_symbol w)) (not (list_any (bytes_eq w) earlier)) outer.0 in
      let first = both (is_plain_name w) (not (is_symbol w)) next.0 in
      (first.0, negated (list_any (bytes_eq w) earlier) next.1, outer.1)
    where
      negated : (b : Bool) → not b ≡ true → b ≡ false
      negated true e = let f : false ≡ true = e in cc
      negated false e = refl

pub are_names-plain : (earlier ws : List (List ℕ)) → are_names earlier ws ≡ true → list_any has_prime ws ≡ false
are_names-plain earlier [] h = refl
are_names-plain earlier (w ∷ ws) h = let p = parts earlier w ws h in ap (λ t. t || list_any has_prime ws) (plain-plain w p.0) ∙ are_names-plain (w ∷ earlier) ws p.2

-- ---- names do not stand earlier

or_right : (a b : Bool) → (a || b) ≡ false → b ≡ false
or_right true b h = absurd (let f : true ≡ false = h in cc)
or_right false b h = h

or_left : (a b : Bool) → (a || b) ≡ false → a ≡ false
or_left true b h = h
or_left false b h = refl

meet-fewer : (w : List ℕ) (earlier ws : List (List ℕ)) → meet (w ∷ earlier) ws ≡ false → meet earlier ws ≡ false
meet-fewer w earlier [] h = refl
meet-fewer w earlier (v ∷ ws) h =
    ap (λ t. t || meet earlier ws) (or_right (bytes_eq v w) (list_any (bytes_eq v) earlier) (or_left (bytes_eq v w || list_any (bytes_eq v) earlier) (meet (w ∷ earlier) ws) h))
    ∙ meet-fewer w earlier ws (or_right (bytes_eq v w || list_any (bytes_eq v) earlier) (meet (w ∷ earlier) ws) h)

pub are_names-apart : (earlier ws : List (List ℕ)) → are_names earlier ws ≡ true → meet earlier ws ≡ false
are_names-apart earlier [] h = refl
are_names-apart earlier (w ∷ ws) h = let p = parts earlier w ws h in ap (λ t. t || meet earlier ws) p.1 ∙ meet-fewer w earlier ws (are_names-apart (w ∷ earlier) ws p.2)
