-- A line with no bad byte has none in what stands on it.
use Rattle.std.proofs.Common.{◌≡◌, ℕ, zero, suc, ◌<◌, arith, List, [], ◌∷◌, take, drop, reverse, Bool, true, false, not, IsTrue, refl, ap, ◌∙◌}
use Rattle.std.specs.List.{list_all, position_or_len}
use Rattle.std.specs.Str.{IsAscii}
use Rattle.std.proofs.lemmas.Bool.Decides.{nat_tests}
use Rattle.std.proofs.lemmas.List.{reverse-append}
use Rattle.std.proofs.lemmas.List.Folds.{list_all-append}
use Rattle.rinv_algebra.proofs.Same.{both, and_true}
use Rattle.rinv_system.specs.Lines.{without_return, is_allowed, is_blank, is_bad_line, from_word, to_last_word, before_comment, content_of}

pub all-take : (test : ℕ → Bool) (k : ℕ) (bs : List ℕ) → list_all test bs ≡ true → list_all test (take k bs) ≡ true
all-take test zero bs h = refl
all-take test (suc k) [] h = refl
all-take test (suc k) (b ∷ bs) h = let p = both (test b) (list_all test bs) h in and_true (test b) (list_all test (take k bs)) p.0 (all-take test k bs p.1)

pub all-drop : (test : ℕ → Bool) (k : ℕ) (bs : List ℕ) → list_all test bs ≡ true → list_all test (drop k bs) ≡ true
all-drop test zero bs h = h
all-drop test (suc k) [] h = refl
all-drop test (suc k) (b ∷ bs) h = all-drop test k bs (both (test b) (list_all test bs) h).1

all-reverse : (test : ℕ → Bool) (bs : List ℕ) → list_all test bs ≡ true → list_all test (reverse bs) ≡ true
all-reverse test [] h = refl
all-reverse test (b ∷ bs) h =
    let p = both (test b) (list_all test bs) h in
    ap (list_all test) (reverse-append (b ∷ []) bs) ∙ list_all-append test (reverse bs) (b ∷ [])
    ∙ and_true (list_all test (reverse bs)) (list_all test (b ∷ [])) (all-reverse test bs p.1) (and_true (test b) true p.0 refl)

pub all-from_word : (test : ℕ → Bool) (bs : List ℕ) → list_all test bs ≡ true → list_all test (from_word bs) ≡ true
all-from_word test bs h = all-drop test (position_or_len (λ b. not (is_blank b)) bs) bs h

pub all-to_last_word : (test : ℕ → Bool) (bs : List ℕ) → list_all test bs ≡ true → list_all test (to_last_word bs) ≡ true
all-to_last_word test bs h = all-reverse test (from_word (reverse bs)) (all-from_word test (reverse bs) (all-reverse test bs h))

not_bad : (b : Bool) → not b ≡ false → b ≡ true
not_bad true h = refl
not_bad false h = absurd (let e : true ≡ false = h in cc)

pub content-allowed : (line : List ℕ) → is_bad_line line ≡ false → IsTrue (list_all is_allowed (content_of line))
content-allowed line good =
    all-to_last_word is_allowed (from_word (before_comment (without_return line)))
    (all-from_word is_allowed (before_comment (without_return line)) (all-take is_allowed _ (without_return line) (not_bad (list_all is_allowed (without_return line)) good)))

-- allowed bytes are ASCII
allowed-low : (b : ℕ) → is_allowed b ≡ true → b < 128
allowed-low b h = grind (arith, nat_tests)

pub allowed-ascii : (bs : List ℕ) → IsTrue (list_all is_allowed bs) → IsAscii bs
allowed-ascii [] h i = omega arith
allowed-ascii (b ∷ bs) h zero = allowed-low b (both (is_allowed b) (list_all is_allowed bs) h).0
allowed-ascii (b ∷ bs) h (suc i) = allowed-ascii bs (both (is_allowed b) (list_all is_allowed bs) h).1 i
