-- The names of a system are names of the grammar, and new names each.
use Rattle.std.proofs.Common.{◌≡◌, ℕ, suc, List, [], ◌∷◌, ◌++◌, append_assoc, append-nil, length, refl, sym, ap, subst, ◌∙◌, Bool, true, false, not, ◌&&◌, ◌||◌, ◌==◌, nat_le, bytes_eq, arith, inl, inr, true≢false}
use Rattle.std.proofs.lemmas.Bool.{cases_Bool}
use Rattle.std.proofs.lemmas.List.{append_cancel_right}
use Rattle.std.proofs.lemmas.Bool.Decides.{nat_tests}
use Rattle.std.proofs.lemmas.Slice.Eq.{bytes_eq-Decides}
use Rattle.std.proofs.lemmas.List.Folds.{list_any-append}
use Rattle.std.specs.List.{list_all, list_any, prefix_len, IsDistinct, AllByRecursion}
use Rattle.rinv_algebra.proofs.Same.{both}
use Rattle.rinv_defs.specs.Names.{is_letter, is_plain_name, is_symbol, are_names}
use Rattle.rinv_text.specs.Tokens.{is_name_byte, name_length}
use Rattle.rinv_text.specs.Names.{is_new_name, copies, suffixed, meet, has_prime}
use Rattle.rinv_text.specs.Printable.{is_word, AreWords}
use Rattle.rinv_text.proofs.PrintedTokens.{name-more}
use Rattle.rinv_system.specs.Entries.{is_name_word}
use Rattle.rinv_system.specs.Forms.{AreNewNames}
use Rattle.rinv_system.proofs.GoodNames.{are_names-apart, are_names-plain}

negated : (b : Bool) → not b ≡ true → b ≡ false
negated true e = let f : false ≡ true = e in cc
negated false e = refl

-- the first name, and the others
record Parts (earlier : List (List ℕ)) (w : List ℕ) (ws : List (List ℕ)) : Type 0 where
  plain : is_plain_name w ≡ true
  no_symbol : is_symbol w ≡ false
  absent : list_any (bytes_eq w) earlier ≡ false
  others : are_names (w ∷ earlier) ws ≡ true

parts : (earlier : List (List ℕ)) (w : List ℕ) (ws : List (List ℕ)) → are_names earlier (w ∷ ws) ≡ true → Parts earlier w ws
unfolding are_names
parts earlier w ws h =
    let outer = both (is_plain_name w && not (is_symbol w) && not (list_any (bytes_eq w) earlier)) (are_names (w ∷ earlier) ws) h in
    let next = both (is_plain_name w && not (is_symbol w)) (not (list_any (bytes_eq w) earlier)) outer.0 in
    let first = both (is_plain_name w) (not (is_symbol w)) next.0 in
    record { plain = first.0; no_symbol = negated (is_symbol w) first.1; absent = negated (list_any (bytes_eq w) earlier) next.1; others = outer.1 }

-- ---- each is new

swapped : (a b c : Bool) → (a || (b || c)) ≡ (b || (c || (a || false)))
swapped true true c = refl
swapped true false true = refl
swapped true false false = refl
swapped false true c = refl
swapped false false true = refl
swapped false false false = refl

new-behind : (earlier acc before ws : List (List ℕ)) → ((w : List ℕ) → list_any (bytes_eq w) acc ≡ list_any (bytes_eq w) (earlier ++ before)) → AreNewNames earlier before → are_names acc ws ≡ true → AreNewNames earlier (before ++ ws)
new-behind earlier acc before [] same done h = subst (λ l. AreNewNames earlier l) (sym (append-nil before)) done
new-behind earlier acc before (w ∷ ws) same done h =
    let p = parts acc w ws h in
    let new : is_new_name (earlier ++ before) w ≡ true = rw (p.plain, p.no_symbol, sym (same w), p.absent) refl in
    subst (λ l. AreNewNames earlier l) (append_assoc before (w ∷ []) ws)
    (new-behind earlier (w ∷ acc) (before ++ w ∷ []) ws
    (λ v. ap (λ t. bytes_eq v w || t) (same v ∙ list_any-append (bytes_eq v) earlier before)
    ∙ swapped (bytes_eq v w) (list_any (bytes_eq v) earlier) (list_any (bytes_eq v) before)
    ∙ ap (λ t. list_any (bytes_eq v) earlier || t) (sym (list_any-append (bytes_eq v) before (w ∷ [])))
    ∙ sym (list_any-append (bytes_eq v) earlier (before ++ w ∷ [])))
    (AreNewNames.one_more w done new) p.others)

pub names-new : (earlier ws : List (List ℕ)) → are_names earlier ws ≡ true → AreNewNames earlier ws
names-new earlier ws h = new-behind earlier earlier [] ws (λ w. ap (list_any (bytes_eq w)) (sym (append-nil earlier))) AreNewNames.none h

-- ---- words

all-name_bytes : (bs : List ℕ) → list_all is_name_byte bs ≡ true → prefix_len is_name_byte bs ≡ length bs
all-name_bytes [] h = refl
all-name_bytes (b ∷ bs) h = let p = both (is_name_byte b) (list_all is_name_byte bs) h in let ih : prefix_len is_name_byte bs ≡ length bs = all-name_bytes bs p.1 in rw (p.0, ih) (omega arith)

-- a name alone, and one with a prime
plain-length : (bs : List ℕ) → list_all is_name_byte bs ≡ true → name_length bs ≡ length bs
plain-length [] h = refl
plain-length (b ∷ bs) h = let p = both (is_name_byte b) (list_all is_name_byte bs) h in name-more b bs p.0 ∙ ap suc (plain-length bs p.1)

primed-length : (bs : List ℕ) → list_all is_name_byte bs ≡ true → name_length (bs ++ 39 ∷ []) ≡ length (bs ++ 39 ∷ [])
primed-length [] h = refl
primed-length (b ∷ bs) h = let p = both (is_name_byte b) (list_all is_name_byte bs) h in name-more b (bs ++ 39 ∷ []) p.0 ∙ ap suc (primed-length bs p.1)

itself : (n : ℕ) → (n == n) ≡ true
itself n = grind (arith, nat_tests)

record PlainParts (w : List ℕ) : Type 0 where
  first : ℕ
  others : List ℕ
  is : w ≡ first ∷ others
  letter : is_letter first ≡ true
  bytes : list_all is_name_byte others ≡ true

plain-parts : (w : List ℕ) → is_plain_name w ≡ true → PlainParts w
plain-parts [] h = let f : false ≡ true = h in cc
plain-parts (b ∷ bs) h =
    let outer = both (is_letter b && list_all is_name_byte bs) (nat_le (length (b ∷ bs)) 16) h in
    let inner = both (is_letter b) (list_all is_name_byte bs) outer.0 in
    record { first = b; others = bs; is = refl; letter = inner.0; bytes = inner.1 }

pub plain-word : (w : List ℕ) → is_plain_name w ≡ true → is_word w ≡ true
plain-word w h = let p = plain-parts w h in subst (λ v. is_word v ≡ true) (sym p.is) (rw (p.letter, plain-length p.others p.bytes) (itself (length p.others)))

pub primed-word : (w : List ℕ) → is_plain_name w ≡ true → is_word (w ++ 39 ∷ []) ≡ true
primed-word w h = let p = plain-parts w h in subst (λ v. is_word (v ++ 39 ∷ []) ≡ true) (sym p.is) (rw (p.letter, primed-length p.others p.bytes) (itself (length (p.others ++ 39 ∷ []))))

-- ---- distinct names

flipped : (v w : List ℕ) → bytes_eq v w ≡ false → bytes_eq w v ≡ false
flipped v w off = elim (cases_Bool (bytes_eq w v)) [
  | inl here ↦ absurd (true≢false (sym ((bytes_eq-Decides v w).1 (sym ((bytes_eq-Decides w v).0 here))) ∙ off))
  | inr e ↦ e
]

unequal : (v w : List ℕ) → (v ≡ w → ⊥) → bytes_eq v w ≡ false
unequal v w no_way = elim (cases_Bool (bytes_eq v w)) [ inl here ↦ absurd (no_way ((bytes_eq-Decides v w).0 here)) | inr e ↦ e ]

or_left : (a b : Bool) → (a || b) ≡ false → a ≡ false
or_left true b h = h
or_left false b h = refl

or_right : (a b : Bool) → (a || b) ≡ false → b ≡ false
or_right true b h = absurd (true≢false h)
or_right false b h = h

apart-later : (w : List ℕ) (acc ws : List (List ℕ)) → ((y : List ℕ) → list_any (bytes_eq y) acc ≡ false → bytes_eq y w ≡ false) → are_names acc ws ≡ true → AllByRecursion (λ y. bytes_eq w y ≡ false) ws
apart-later w acc [] known h = tt
apart-later w acc (v ∷ ws) known h =
    let p = parts acc v ws h in
    (flipped v w (known v p.absent), apart-later w (v ∷ acc) ws (λ y e. known y (or_right (bytes_eq y v) (list_any (bytes_eq y) acc) e)) p.others)

names-distinct : (earlier ws : List (List ℕ)) → are_names earlier ws ≡ true → IsDistinct bytes_eq ws
unfolding IsDistinct
names-distinct earlier [] h = tt
names-distinct earlier (w ∷ ws) h =
    let p = parts earlier w ws h in
    (apart-later w (w ∷ earlier) ws (λ y e. or_left (bytes_eq y w) (list_any (bytes_eq y) earlier) e) p.others, names-distinct (w ∷ earlier) ws p.others)

all-append : (P : List ℕ → Type 0) (xs ys : List (List ℕ)) → AllByRecursion P xs → AllByRecursion P ys → AllByRecursion P (xs ++ ys)
all-append P [] ys a b = b
all-append P (x ∷ xs) ys a b = (a.0, all-append P xs ys a.1 b)

distinct-append : (xs ys : List (List ℕ)) → IsDistinct bytes_eq xs → IsDistinct bytes_eq ys → AllByRecursion (λ x. AllByRecursion (λ y. bytes_eq x y ≡ false) ys) xs → IsDistinct bytes_eq (xs ++ ys)
unfolding IsDistinct
distinct-append [] ys a b c = b
distinct-append (x ∷ xs) ys a b c = (all-append (λ y. bytes_eq x y ≡ false) xs ys a.0 c.0, distinct-append xs ys a.1 b c.1)

-- the names with a prime
primed-apart : (w : List ℕ) (ws : List (List ℕ)) → AllByRecursion (λ y. bytes_eq w y ≡ false) ws → AllByRecursion (λ y. bytes_eq (w ++ 39 ∷ []) y ≡ false) (suffixed (39 ∷ []) ws)
primed-apart w [] h = tt
primed-apart w (v ∷ ws) h = (unequal (w ++ 39 ∷ []) (v ++ 39 ∷ []) (λ e. true≢false (sym ((bytes_eq-Decides w v).1 (append_cancel_right w v (39 ∷ []) e)) ∙ h.0)), primed-apart w ws h.1)

primed-distinct : (ws : List (List ℕ)) → IsDistinct bytes_eq ws → IsDistinct bytes_eq (suffixed (39 ∷ []) ws)
unfolding IsDistinct
primed-distinct [] h = tt
primed-distinct (w ∷ ws) h = (primed-apart w ws h.0, primed-distinct ws h.1)

has-prime : (v : List ℕ) → has_prime (v ++ 39 ∷ []) ≡ true
has-prime [] = refl
has-prime (b ∷ v) = let ih = has-prime v in rw ih (or-true (b == 39))
  where
    or-true : (x : Bool) → (x || true) ≡ true
    or-true true = refl
    or-true false = refl

prime-apart : (w : List ℕ) (ws : List (List ℕ)) → has_prime w ≡ false → AllByRecursion (λ y. bytes_eq w y ≡ false) (suffixed (39 ∷ []) ws)
prime-apart w [] h = tt
prime-apart w (v ∷ ws) h = (unequal w (v ++ 39 ∷ []) (λ e. true≢false (sym (ap has_prime e ∙ has-prime v) ∙ h)), prime-apart w ws h)

primes-apart : (xs ws : List (List ℕ)) → list_any has_prime xs ≡ false → AllByRecursion (λ x. AllByRecursion (λ y. bytes_eq x y ≡ false) (suffixed (39 ∷ []) ws)) xs
primes-apart [] ws h = tt
primes-apart (x ∷ xs) ws h = (prime-apart x ws (or_left (has_prime x) (list_any has_prime xs) h), primes-apart xs ws (or_right (has_prime x) (list_any has_prime xs) h))

meet-apart : (xs ys : List (List ℕ)) → meet xs ys ≡ false → AllByRecursion (λ x. AllByRecursion (λ y. bytes_eq x y ≡ false) ys) xs
meet-apart [] ys h = tt
meet-apart (x ∷ xs) ys h = (one ys h, meet-apart xs ys (fewer ys h))
  where
    one : (ys : List (List ℕ)) → meet (x ∷ xs) ys ≡ false → AllByRecursion (λ y. bytes_eq x y ≡ false) ys
    one [] h = tt
    one (y ∷ ys) h = (flipped y x (or_left (bytes_eq y x) (list_any (bytes_eq y) xs) (or_left (bytes_eq y x || list_any (bytes_eq y) xs) (meet (x ∷ xs) ys) h)), one ys (or_right (bytes_eq y x || list_any (bytes_eq y) xs) (meet (x ∷ xs) ys) h))

    fewer : (ys : List (List ℕ)) → meet (x ∷ xs) ys ≡ false → meet xs ys ≡ false
    fewer [] h = refl
    fewer (y ∷ ys) h = rw (or_right (bytes_eq y x) (list_any (bytes_eq y) xs) (or_left (bytes_eq y x || list_any (bytes_eq y) xs) (meet (x ∷ xs) ys) h)) (fewer ys (or_right (bytes_eq y x || list_any (bytes_eq y) xs) (meet (x ∷ xs) ys) h))

-- ---- the lists of names of a system

words-append : (xs ys : List (List ℕ)) → list_all is_word xs ≡ true → list_all is_word ys ≡ true → list_all is_word (xs ++ ys) ≡ true
words-append [] ys a b = b
words-append (x ∷ xs) ys a b = let p = both (is_word x) (list_all is_word xs) a in rw p.0 (words-append xs ys p.1 b)

names-words : (earlier ws : List (List ℕ)) → are_names earlier ws ≡ true → list_all is_word ws ≡ true
names-words earlier [] h = refl
names-words earlier (w ∷ ws) h = let p = parts earlier w ws h in rw (plain-word w p.plain) (names-words (w ∷ earlier) ws p.others)

primed-words : (earlier ws : List (List ℕ)) → are_names earlier ws ≡ true → list_all is_word (suffixed (39 ∷ []) ws) ≡ true
primed-words earlier [] h = refl
primed-words earlier (w ∷ ws) h = let p = parts earlier w ws h in rw (primed-word w p.plain) (primed-words (w ∷ earlier) ws p.others)

pub are-words : (earlier ws : List (List ℕ)) → are_names earlier ws ≡ true → AreWords ws
are-words earlier ws h = record { words = names-words earlier ws h; distinct = names-distinct earlier ws h }

once : (ws : List (List ℕ)) → suffixed [] ws ≡ ws
once [] = refl
once (w ∷ ws) = ap (λ v. v ∷ suffixed [] ws) (append-nil w) ∙ ap (λ r. w ∷ r) (once ws)

pub factors-words : (ws : List (List ℕ)) → are_names [] ws ≡ true → AreWords (copies 2 ws)
factors-words ws h = subst (λ l. AreWords (l ++ suffixed (39 ∷ []) ws)) (sym (once ws)) (record {
  words = words-append ws (suffixed (39 ∷ []) ws) (names-words [] ws h) (primed-words [] ws h);
  distinct = distinct-append ws (suffixed (39 ∷ []) ws) (names-distinct [] ws h) (primed-distinct ws (names-distinct [] ws h)) (primes-apart ws ws (are_names-plain [] ws h));
})

pub both-words : (xs ys : List (List ℕ)) → are_names [] xs ≡ true → are_names xs ys ≡ true → AreWords (xs ++ ys)
both-words xs ys h k = record {
  words = words-append xs ys (names-words [] xs h) (names-words xs ys k);
  distinct = distinct-append xs ys (names-distinct [] xs h) (names-distinct xs ys k) (meet-apart xs ys (are_names-apart xs ys k));
}

pub name-words : (earlier ws : List (List ℕ)) → are_names earlier ws ≡ true → list_all is_name_word ws ≡ true
name-words earlier [] h = refl
name-words earlier (w ∷ ws) h = let p = parts earlier w ws h in rw (name-word w p.plain) (name-words (w ∷ earlier) ws p.others)
  where
    name-word : (w : List ℕ) → is_plain_name w ≡ true → is_name_word w ≡ true
    name-word w h = let p = plain-parts w h in subst (λ v. is_name_word v ≡ true) (sym p.is) (rw p.letter p.bytes)
