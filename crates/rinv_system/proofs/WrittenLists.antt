-- Lists that are written entry by entry.
use Rattle.std.proofs.Common.{◌≡◌, ℕ, zero, suc, ◌+◌, ◌<◌, ◌≤◌, ◌==◌, Bool, false, List, [], ◌∷◌, ◌++◌, map, length, get_or, take, codes, refl, sym, ap, ◌∙◌, arith, subst, All, append_assoc, append-nil, take_all, if◌then◌else◌}
use Rattle.std.proofs.lemmas.Bool.Decides.{nat_tests}
use Rattle.std.proofs.lemmas.List.{take_more, length-map, get_or-map}
use Rattle.std.proofs.lemmas.List.Elements.{All-get_or}
use Rattle.std.proofs.lemmas.Grind.{flat_map-append}
use Rattle.rinv_text.specs.Pieces.{is_nil}
use Rattle.rinv_text.proofs.Joined.{join-push}
use Rattle.rinv_system.specs.Written.{list_text, text_of}

suc-not_zero : (k : ℕ) → (suc k == 0) ≡ false
suc-not_zero k = grind (arith, nat_tests)

nil-take : (es : List (List ℕ)) (k : ℕ) → k < length es → is_nil (take k es) ≡ (k == 0)
nil-take [] k h = absurd (omega arith)
nil-take (e ∷ es) zero h = refl
nil-take (e ∷ es) (suc k) h = sym (suc-not_zero k)

-- one entry more
pub list-step : (old out out' out'' : List ℕ) (es : List (List ℕ)) (k : ℕ) (piece : List ℕ) (first : Bool) → k < length es → first ≡ (k == 0) → piece ≡ get_or es k []
    → out ≡ old ++ list_text (take k es) → out' ≡ out ++ (if first then [] else codes ", ") → out'' ≡ out' ++ piece → out'' ≡ old ++ list_text (take (k + 1) es)
list-step old out out' out'' es k piece first lt f is before between more =
    more ∙ ap (λ r. r ++ piece) (between ∙ ap (λ r. r ++ (if first then [] else codes ", ")) before)
    ∙ append_assoc (old ++ list_text (take k es)) (if first then [] else codes ", ") piece
    ∙ append_assoc old (list_text (take k es)) ((if first then [] else codes ", ") ++ piece)
    ∙ ap (λ r. old ++ r) (ap (λ b. list_text (take k es) ++ ((if b then [] else codes ", ") ++ piece)) (f ∙ sym (nil-take es k lt)) ∙ sym (join-push (codes ", ") (take k es) piece) ∙ ap (λ e. list_text (take k es ++ e ∷ [])) is ∙ ap list_text (sym (take_more es k [] lt)))

-- all entries
pub list-all : (out old : List ℕ) (es : List (List ℕ)) (k : ℕ) → length es ≤ k → out ≡ old ++ list_text (take k es) → out ≡ old ++ list_text es
list-all out old es k le h = h ∙ ap (λ r. old ++ list_text r) (take_all k es le)

-- ---- entries that are seen through g

module _ {X : Type 0} (g : X → List ℕ) (xs : List X) where
  pub seen-step : (old out out' out'' : List ℕ) (k : ℕ) (x : X) (first : Bool) → k < length xs → first ≡ (k == 0) → x ≡ get_or xs k x
      → out ≡ old ++ list_text (take k (map g xs)) → out' ≡ out ++ (if first then [] else codes ", ") → out'' ≡ out' ++ g x → out'' ≡ old ++ list_text (take (k + 1) (map g xs))
  seen-step old out out' out'' k x first lt f is before between more =
      list-step old out out' out'' (map g xs) k (g x) first (subst (λ n. k < n) (sym (length-map xs g)) lt) f (ap g is ∙ sym (get_or-map g xs k x [] lt)) before between more

  pub seen-all : (out old : List ℕ) (k : ℕ) → length xs ≤ k → out ≡ old ++ list_text (take k (map g xs)) → out ≡ old ++ list_text (map g xs)
  seen-all out old k le h = list-all out old (map g xs) k (subst (λ n. n ≤ k) (sym (length-map xs g)) le) h

-- an element of which a property holds, as of all
pub element-of : {X : Type 0} (P : X → Type 0) (xs : List X) (k : ℕ) (x : X) → k < length xs → x ≡ get_or xs k x → All P xs → P x
element-of P xs k x lt is all = subst P (sym is) (All-get_or P xs k x lt all)

-- ---- lines behind one another

pub line-more : (old out out' l : List ℕ) (ls : List (List ℕ)) → out ≡ old ++ text_of ls → out' ≡ out ++ (l ++ codes "\n") → out' ≡ old ++ text_of (ls ++ l ∷ [])
line-more old out out' l ls before more =
    more ∙ ap (λ r. r ++ (l ++ codes "\n")) before ∙ append_assoc old (text_of ls) (l ++ codes "\n")
    ∙ ap (λ r. old ++ r) (ap (λ r. text_of ls ++ r) (sym (append-nil (l ++ codes "\n"))) ∙ sym (flat_map-append (λ (line : List ℕ). line ++ codes "\n") ls (l ∷ [])))

pub no-line : (old out : List ℕ) → out ≡ old → out ≡ old ++ text_of []
no-line old out e = e ∙ sym (append-nil old)

-- more lines
pub lines-more : (old out out' : List ℕ) (ls ms : List (List ℕ)) → out ≡ old ++ text_of ls → out' ≡ out ++ text_of ms → out' ≡ old ++ text_of (ls ++ ms)
lines-more old out out' ls ms before more =
    more ∙ ap (λ r. r ++ text_of ms) before ∙ append_assoc old (text_of ls) (text_of ms) ∙ ap (λ r. old ++ r) (sym (flat_map-append (λ (line : List ℕ). line ++ codes "\n") ls ms))
