-- Written lines are found again, and stand as they are.
use Rattle.std.proofs.Common.{◌≡◌, ℕ, ◌+◌, List, [], ◌∷◌, ◌++◌, append_assoc, append-nil, map, codes, refl, sym, ap, ◌∙◌, subst, Bool, true, false, not, ◌||◌, ◌==◌, one-add, None, arith}
use Rattle.std.specs.Prelude.{flat_map}
use Rattle.std.specs.List.{list_all, prefix_len, position_from, take_while}
use Rattle.std.proofs.lemmas.Bool.Decides.{nat_tests}
use Rattle.rinv_algebra.proofs.Same.{both}
use Rattle.rinv_text.proofs.PrintedBytes.{is_printed, IsSolid}
use Rattle.rinv_system.specs.Lines.{lines_of, onto_first, without_return, is_allowed, is_bad_line, first_bad_line, is_blank, from_word, to_last_word, before_comment, content_of, contents_of}
use Rattle.rinv_system.specs.Written.{list_text, line_text, text_of}
use Rattle.rinv_system.proofs.LineFacts.{to_last_word-other, without_return-other}
use Rattle.rinv_system.proofs.WrittenEntries.{AreSolid}

-- a byte of a written line
abbrev pub is_line_byte : ℕ → Bool
is_line_byte b = is_printed b || b == 44

-- bytes of a line, of which the first and the last are no blanks
pub record IsLineText (s : List ℕ) : Type 0 where
  pub bytes : list_all is_line_byte s ≡ true
  pub first : ℕ
  pub others : List ℕ
  pub begins : s ≡ first ∷ others
  pub begins_dark : is_blank first ≡ false
  pub front : List ℕ
  pub last : ℕ
  pub ends : s ≡ front ++ last ∷ []
  pub ends_dark : is_blank last ≡ false

all-append : (test : ℕ → Bool) (s t : List ℕ) → list_all test s ≡ true → list_all test t ≡ true → list_all test (s ++ t) ≡ true
all-append test [] t e f = f
all-append test (b ∷ s) t e f = let parts = both (test b) (list_all test s) e in rw parts.0 (all-append test s t parts.1 f)

all-weaker : (P Q : ℕ → Bool) → ((b : ℕ) → P b ≡ true → Q b ≡ true) → (s : List ℕ) → list_all P s ≡ true → list_all Q s ≡ true
all-weaker P Q f [] e = refl
all-weaker P Q f (b ∷ s) e = let parts = both (P b) (list_all P s) e in rw (f b parts.0) (all-weaker P Q f s parts.1)

last-passes : (test : ℕ → Bool) (s : List ℕ) (b : ℕ) → list_all test (s ++ b ∷ []) ≡ true → test b ≡ true
last-passes test [] b e = (both (test b) true e).0
last-passes test (c ∷ s) b e = last-passes test s b (both (test c) (list_all test (s ++ b ∷ [])) e).1

pub solid-line : (s : List ℕ) → IsSolid s → IsLineText s
solid-line s h = record { bytes = all-weaker is_printed is_line_byte (λ b e. rw e refl) s h.bytes; first = h.first; others = h.others; begins = h.begins; begins_dark = h.begins_dark; front = h.front; last = h.last; ends = h.ends; ends_dark = h.ends_dark }

-- a list, and more of it
pub line-behind : (s mid t : List ℕ) → list_all is_line_byte mid ≡ true → IsLineText s → IsLineText t → IsLineText (s ++ (mid ++ t))
line-behind s mid t between a b = record {
  bytes = all-append is_line_byte s (mid ++ t) a.bytes (all-append is_line_byte mid t between b.bytes);
  first = a.first;
  others = a.others ++ (mid ++ t);
  begins = ap (λ r. r ++ (mid ++ t)) a.begins;
  begins_dark = a.begins_dark;
  front = s ++ (mid ++ b.front);
  last = b.last;
  ends = ap (λ r. s ++ (mid ++ r)) b.ends ∙ ap (λ r. s ++ r) (sym (append_assoc mid b.front (b.last ∷ []))) ∙ sym (append_assoc s (mid ++ b.front) (b.last ∷ []));
  ends_dark = b.ends_dark;
}

pub list-line : (e : List ℕ) (es : List (List ℕ)) → IsSolid e → AreSolid es → IsLineText (list_text (e ∷ es))
list-line e es h hs = go e es (solid-line e h) hs
  where
    go : (s : List ℕ) (es : List (List ℕ)) → IsLineText s → AreSolid es → IsLineText (s ++ flat_map (λ x. codes ", " ++ x) es)
    go s [] h hs = subst IsLineText (sym (append-nil s)) h
    go s (f ∷ fs) h hs = subst IsLineText (append_assoc s (codes ", " ++ f) (flat_map (λ x. codes ", " ++ x) fs)) (go (s ++ (codes ", " ++ f)) fs (line-behind s (codes ", ") f refl h (solid-line f hs.0)) hs.1)

-- a word and what follows it
pub word-line : (b : ℕ) (w rest : List ℕ) → is_blank b ≡ false → list_all is_line_byte (b ∷ w ++ codes " ") ≡ true → IsLineText rest → IsLineText (line_text (b ∷ w) rest)
word-line b w rest dark bytes h = record {
  bytes = all-append is_line_byte (b ∷ w ++ codes " ") rest bytes h.bytes;
  first = b;
  others = (w ++ codes " ") ++ rest;
  begins = refl;
  begins_dark = dark;
  front = b ∷ ((w ++ codes " ") ++ h.front);
  last = h.last;
  ends = ap (λ r. b ∷ ((w ++ codes " ") ++ r)) h.ends ∙ ap (λ r. b ∷ r) (sym (append_assoc (w ++ codes " ") h.front (h.last ∷ [])));
  ends_dark = h.ends_dark;
}

-- ---- one line

no_feed : (b : ℕ) → is_line_byte b ≡ true → (b == 10) ≡ false
no_feed b e = grind (arith, nat_tests)

no_return : (b : ℕ) → is_line_byte b ≡ true → ¬ (b ≡ 13)
no_return b e is = let off : (b == 13) ≡ false = grind (arith, nat_tests) in grind (arith, nat_tests)

no_comment : (b : ℕ) → is_line_byte b ≡ true → not (b == 35) ≡ true
no_comment b e = grind (arith, nat_tests)

allowed : (b : ℕ) → is_line_byte b ≡ true → is_allowed b ≡ true
allowed b e = grind (arith, nat_tests)

line-first : (s rest : List ℕ) → list_all is_line_byte s ≡ true → lines_of (s ++ 10 ∷ rest) ≡ s ∷ lines_of rest
unfolding lines_of
line-first [] rest e = refl
line-first (b ∷ s) rest e = let p = both (is_line_byte b) (list_all is_line_byte s) e in rw (no_feed b p.0) (ap (onto_first b) (line-first s rest p.1))

whole-taken : (test : ℕ → Bool) (s : List ℕ) → list_all test s ≡ true → take_while test s ≡ s
whole-taken test [] e = refl
whole-taken test (b ∷ s) e = let p = both (test b) (list_all test s) e in rw (p.0, one-add (prefix_len test s)) (ap (λ r. b ∷ r) (whole-taken test s p.1))

kept : (s : List ℕ) → IsLineText s → without_return s ≡ s
kept s h = subst (λ l. without_return l ≡ l) (sym h.ends) (without_return-other h.front h.last (no_return h.last (last-passes is_line_byte h.front h.last (ap (list_all is_line_byte) (sym h.ends) ∙ h.bytes))))

line-content : (s : List ℕ) → IsLineText s → content_of s ≡ s
line-content s h =
    ap (λ l. to_last_word (from_word (before_comment l))) (kept s h)
    ∙ ap (λ l. to_last_word (from_word l)) (whole-taken (λ b. not (b == 35)) s (all-weaker is_line_byte (λ b. not (b == 35)) no_comment s h.bytes))
    ∙ ap to_last_word (subst (λ l. from_word l ≡ l) (sym h.begins) (rw h.begins_dark refl))
    ∙ subst (λ l. to_last_word l ≡ l) (sym h.ends) (to_last_word-other h.front h.last h.ends_dark)

line-good : (s : List ℕ) → IsLineText s → is_bad_line s ≡ false
line-good s h = ap (λ l. not (list_all is_allowed l)) (kept s h) ∙ ap not (all-weaker is_line_byte is_allowed allowed s h.bytes)

-- ---- all lines

abbrev pub AreLines : List (List ℕ) → Type 0
AreLines [] = Unit {0}
AreLines (l ∷ ls) = IsLineText l × AreLines ls

pub lines-append : (ls ms : List (List ℕ)) → AreLines ls → AreLines ms → AreLines (ls ++ ms)
lines-append [] ms a b = b
lines-append (l ∷ ls) ms a b = (a.0, lines-append ls ms a.1 b)

pub text-lines : (ls : List (List ℕ)) → AreLines ls → lines_of (text_of ls) ≡ ls
unfolding lines_of
text-lines [] h = refl
text-lines (l ∷ ls) h = ap lines_of (append_assoc l (codes "\n") (text_of ls)) ∙ line-first l (text_of ls) h.0.bytes ∙ ap (λ r. l ∷ r) (text-lines ls h.1)

pub text-contents : (ls : List (List ℕ)) → AreLines ls → contents_of (text_of ls) ≡ ls
text-contents ls h = ap (map content_of) (text-lines ls h) ∙ same ls h
  where
    same : (ls : List (List ℕ)) → AreLines ls → map content_of ls ≡ ls
    same [] h = refl
    same (l ∷ ls) h = ap (λ r. r ∷ map content_of ls) (line-content l h.0) ∙ ap (λ r. l ∷ r) (same ls h.1)

pub text-good : (ls : List (List ℕ)) → AreLines ls → first_bad_line (text_of ls) ≡ None
text-good ls h = ap (position_from is_bad_line 1) (text-lines ls h) ∙ none ls 1 h
  where
    none : (ls : List (List ℕ)) (k : ℕ) → AreLines ls → position_from is_bad_line k ls ≡ None
    none [] k h = refl
    none (l ∷ ls) k h = rw (line-good l h.0) (none ls (k + 1) h.1)
