-- Lists by the place of their comma.
use Rattle.std.proofs.Common.{◌≡◌, ℕ, ◌+◌, List, [], ◌∷◌, suc, take, drop, length, Bool, true, false, ◌==◌, not, cond, Option, Some, None, if◌then◌else◌, refl, sym, ap, ◌∙◌, arith}
use Rattle.std.specs.List.{position_or_len}
use Rattle.rinv_system.specs.Lines.{onto_first}
use Rattle.rinv_system.specs.Entries.{entries_of}

one_further : ℕ → Bool → ℕ
one_further k is_end = if is_end then 0 else suc k

length-entry : (c : ℕ) (bs : List ℕ) → position_or_len (λ b. b == 44) (c ∷ bs) ≡ one_further (position_or_len (λ b. b == 44) bs) (c == 44)
unfolding one_further
length-entry c bs = further (c == 44) _
  where
    further : (t : Bool) (k : ℕ) → cond (not t) (1 + k) 0 ≡ (if t then 0 else suc k)
    further true k = refl
    further false k = omega arith

at-step : (is_end : Bool) (c : ℕ) (bs : List ℕ) (k b : ℕ) (rest : List ℕ) → (drop k bs ≡ b ∷ rest → entries_of bs ≡ take k bs ∷ entries_of rest)
    → drop (one_further k is_end) (c ∷ bs) ≡ b ∷ rest → (if is_end then [] ∷ entries_of bs else onto_first c (entries_of bs)) ≡ take (one_further k is_end) (c ∷ bs) ∷ entries_of rest
unfolding one_further
at-step true c bs k b rest ih e = ap (λ r. [] ∷ entries_of r) (ap (drop 1) e)
at-step false c bs k b rest ih e = ap (onto_first c) (ih e)

-- the first entry ends at a comma
pub entries_of-at : (bs : List ℕ) (b : ℕ) (rest : List ℕ) → drop (position_or_len (λ b. b == 44) bs) bs ≡ b ∷ rest
    → entries_of bs ≡ take (position_or_len (λ b. b == 44) bs) bs ∷ entries_of rest
unfolding entries_of
entries_of-at [] b rest e = absurd (apart e)
  where
    apart : [] ≡ b ∷ rest → ⊥
    apart h = let n : 0 ≡ suc (length rest) = ap length h in omega (arith, n)
entries_of-at (c ∷ bs) b rest e = rw (length-entry c bs) (at-step (c == 44) c bs _ b rest (entries_of-at bs b rest) (ap (λ k. drop k (c ∷ bs)) (sym (length-entry c bs)) ∙ e))

last-step : (is_end : Bool) (c : ℕ) (bs : List ℕ) (k : ℕ) → (drop k bs ≡ [] → entries_of bs ≡ take k bs ∷ [])
    → drop (one_further k is_end) (c ∷ bs) ≡ [] → (if is_end then [] ∷ entries_of bs else onto_first c (entries_of bs)) ≡ take (one_further k is_end) (c ∷ bs) ∷ []
unfolding one_further
last-step true c bs k ih e = absurd (let n : suc (length bs) ≡ 0 = ap length e in omega (arith, n))
last-step false c bs k ih e = ap (onto_first c) (ih e)

-- the last entry ends with the list
pub entries_of-last : (bs : List ℕ) → drop (position_or_len (λ b. b == 44) bs) bs ≡ [] → entries_of bs ≡ take (position_or_len (λ b. b == 44) bs) bs ∷ []
unfolding entries_of
entries_of-last [] e = refl
entries_of-last (c ∷ bs) e = rw (length-entry c bs) (last-step (c == 44) c bs _ (entries_of-last bs) (ap (λ k. drop k (c ∷ bs)) (sym (length-entry c bs)) ∙ e))

-- by the parts of a list at its first comma
pub entries_of-split : (list entry behind following : List ℕ) (place b : ℕ) → place ≡ position_or_len (λ b. b == 44) list → entry ≡ take place list → behind ≡ drop place list → behind ≡ b ∷ following
    → entries_of list ≡ entry ∷ entries_of following
entries_of-split list entry behind following place b at front back is =
    entries_of-at list b following (ap (λ k. drop k list) (sym at) ∙ sym back ∙ is) ∙ ap (λ l. l ∷ entries_of following) (ap (λ k. take k list) (sym at) ∙ sym front)

pub entries_of-whole : (list entry behind : List ℕ) (place : ℕ) → place ≡ position_or_len (λ b. b == 44) list → entry ≡ take place list → behind ≡ drop place list → length behind ≡ 0
    → entries_of list ≡ entry ∷ []
entries_of-whole list entry (b ∷ bs) place at front back none = absurd (omega (arith, none))
entries_of-whole list entry [] place at front back none =
    entries_of-last list (ap (λ k. drop k list) (sym at) ∙ sym back) ∙ ap (λ l. l ∷ []) (ap (λ k. take k list) (sym at) ∙ sym front)

-- the entries of what is left, if anything is
abbrev pub entries_left : Option (List ℕ) → List (List ℕ)
entries_left None = []
entries_left (Some rest) = entries_of rest

abbrev pub bytes_left : Option (List ℕ) → ℕ
bytes_left None = 0
bytes_left (Some rest) = length rest + 1
