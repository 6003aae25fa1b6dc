-- Written lists are split at their commas again.
use Rattle.std.proofs.Common.{◌≡◌, ℕ, List, [], ◌∷◌, ◌++◌, append-nil, map, codes, refl, sym, ap, ◌∙◌, subst, true, false, ◌==◌, arith}
use Rattle.std.specs.Prelude.{flat_map}
use Rattle.std.specs.List.{list_all}
use Rattle.std.proofs.lemmas.Bool.Decides.{nat_tests}
use Rattle.rinv_algebra.proofs.Same.{both}
use Rattle.rinv_text.proofs.PrintedBytes.{is_printed, IsSolid}
use Rattle.rinv_system.specs.Lines.{is_blank, from_word, to_last_word, onto_first}
use Rattle.rinv_system.specs.Entries.{entries_of, words_of}
use Rattle.rinv_system.specs.Written.{list_text}
use Rattle.rinv_system.proofs.LineFacts.{to_last_word-other}

-- the entries of a list: behind a blank, all but the first
abbrev pub behind_blanks : List (List ℕ) → List (List ℕ)
behind_blanks es = map (λ e. 32 ∷ e) es

no_comma : (b : ℕ) → is_printed b ≡ true → (b == 44) ≡ false
no_comma b e = grind (arith, nat_tests)

-- bytes before a comma, or before the end
entry-before : (s rest : List ℕ) → list_all is_printed s ≡ true → entries_of (s ++ 44 ∷ rest) ≡ s ∷ entries_of rest
unfolding entries_of
entry-before [] rest e = refl
entry-before (b ∷ s) rest e = let p = both (is_printed b) (list_all is_printed s) e in rw (no_comma b p.0) (ap (onto_first b) (entry-before s rest p.1))

entry-last : (s : List ℕ) → list_all is_printed s ≡ true → entries_of s ≡ s ∷ []
unfolding entries_of
entry-last [] e = refl
entry-last (b ∷ s) e = let p = both (is_printed b) (list_all is_printed s) e in rw (no_comma b p.0) (ap (onto_first b) (entry-last s p.1))

-- each entry is printed text
abbrev pub AreSolid : List (List ℕ) → Type 0
AreSolid [] = Unit {0}
AreSolid (e ∷ es) = IsSolid e × AreSolid es

pub list-entries : (e : List ℕ) (es : List (List ℕ)) → IsSolid e → AreSolid es → entries_of (list_text (e ∷ es)) ≡ e ∷ behind_blanks es
list-entries e es h hs = go e es h.bytes hs
  where
    go : (s : List ℕ) (es : List (List ℕ)) → list_all is_printed s ≡ true → AreSolid es → entries_of (s ++ flat_map (λ x. codes ", " ++ x) es) ≡ s ∷ behind_blanks es
    go s [] bytes hs = ap entries_of (append-nil s) ∙ entry-last s bytes
    go s (f ∷ fs) bytes hs = entry-before s (32 ∷ (f ++ flat_map (λ x. codes ", " ++ x) fs)) bytes ∙ ap (λ r. s ∷ r) (go (32 ∷ f) fs hs.0.bytes hs.1)

-- ---- words

pub from_word-dark : (b : ℕ) (bs : List ℕ) → is_blank b ≡ false → from_word (b ∷ bs) ≡ b ∷ bs
from_word-dark b bs e = rw e refl

pub from_word-blank : (b : ℕ) (bs : List ℕ) → is_blank b ≡ false → from_word (32 ∷ b ∷ bs) ≡ b ∷ bs
from_word-blank b bs e = rw e refl

solid-from_word : (s : List ℕ) → IsSolid s → from_word s ≡ s
solid-from_word s h = subst (λ l. from_word l ≡ l) (sym h.begins) (from_word-dark h.first h.others h.begins_dark)

pub solid-behind : (s : List ℕ) → IsSolid s → from_word (32 ∷ s) ≡ s
solid-behind s h = subst (λ l. from_word (32 ∷ l) ≡ l) (sym h.begins) (from_word-blank h.first h.others h.begins_dark)

pub solid-to_last : (s : List ℕ) → IsSolid s → to_last_word s ≡ s
solid-to_last s h = subst (λ l. to_last_word l ≡ l) (sym h.ends) (to_last_word-other h.front h.last h.ends_dark)

pub list-words : (e : List ℕ) (es : List (List ℕ)) → IsSolid e → AreSolid es → words_of (list_text (e ∷ es)) ≡ e ∷ es
list-words e es h hs =
    ap (map (λ x. to_last_word (from_word x))) (list-entries e es h hs)
    ∙ ap (λ r. r ∷ map (λ x. to_last_word (from_word x)) (behind_blanks es)) (ap to_last_word (solid-from_word e h) ∙ solid-to_last e h)
    ∙ ap (λ r. e ∷ r) (rest es hs)
  where
    rest : (es : List (List ℕ)) → AreSolid es → map (λ x. to_last_word (from_word x)) (behind_blanks es) ≡ es
    rest [] hs = refl
    rest (f ∷ fs) hs = ap (λ r. r ∷ map (λ x. to_last_word (from_word x)) (behind_blanks fs)) (ap to_last_word (solid-behind f hs.0) ∙ solid-to_last f hs.0) ∙ ap (λ r. f ∷ r) (rest fs hs.1)
