-- A text tells one thing or has one refusal, and not both, whatever its lines are, where each line has one answer.
use Rattle.std.proofs.Common.{◌≡◌, ◌⊎◌, inl, inr, ℕ, suc, ◌+◌, Bool, List, [], ◌∷◌, ◌++◌, length, true, false, Option, Some, None, refl, sym, ap, ap₂, subst, ◌∙◌, append_assoc, append-nil, arith, length-append, reverse, drop, get_or}
use Rattle.std.proofs.lemmas.Bool.{cases_Bool}
use Rattle.std.proofs.lemmas.List.{reverse-append, reverse-reverse}
use Rattle.rinv_system.specs.declared.refused.Code.{Code}
use Rattle.rinv_system.specs.declared.refused.Code.TheVariants.{NotText}
use Rattle.rinv_system.specs.declared.refused.Refused.{Refused}
use Rattle.rinv_system.specs.Lines.{first_bad_line, contents_of}
use Rattle.rinv_system.specs.LineTexts.{AreTaken, AreApart, AreAnswered, IsText, IsRefusedText, HasOneReading}

-- ---- lists

snoc-front : (xs ys : List (List ℕ)) (x y : List ℕ) → xs ++ x ∷ [] ≡ ys ++ y ∷ [] → (xs ≡ ys) × (x ≡ y)
snoc-front xs ys x y e = let r : x ∷ reverse xs ≡ y ∷ reverse ys = sym (reverse-append xs (x ∷ [])) ∙ ap reverse e ∙ reverse-append ys (y ∷ []) in
    (sym (reverse-reverse xs) ∙ ap (λ l. reverse (drop 1 l)) r ∙ reverse-reverse ys, ap (λ l. get_or l 0 []) r)

snoc-view : (ys : List (List ℕ)) → (ys ≡ []) ⊎ ((zs : List (List ℕ)) × (z : List ℕ) × (ys ≡ zs ++ z ∷ []))
snoc-view [] = inl refl
snoc-view (y ∷ ys) = view (snoc-view ys)
  where
    view : (ys ≡ []) ⊎ ((zs : List (List ℕ)) × (z : List ℕ) × (ys ≡ zs ++ z ∷ [])) → (y ∷ ys ≡ []) ⊎ ((zs : List (List ℕ)) × (z : List ℕ) × (y ∷ ys ≡ zs ++ z ∷ []))
    view (inl e) = inr ([], y, ap (λ l. y ∷ l) e)
    view (inr (zs, z, e)) = inr (y ∷ zs, z, ap (λ l. y ∷ l) e)

-- two places in one list
abbrev Places : List (List ℕ) → List ℕ → List (List ℕ) → List ℕ → Type 0
Places xs x ys y = ((xs ≡ ys) × (x ≡ y)) ⊎ (((mid : List (List ℕ)) × (ys ≡ xs ++ x ∷ mid)) ⊎ ((mid : List (List ℕ)) × (xs ≡ ys ++ y ∷ mid)))

further : (z : List ℕ) (xs : List (List ℕ)) (x : List ℕ) (ys : List (List ℕ)) (y : List ℕ) → Places xs x ys y → Places (z ∷ xs) x (z ∷ ys) y
further z xs x ys y (inl (e, f)) = inl (ap (λ l. z ∷ l) e, f)
further z xs x ys y (inr (inl (mid, e))) = inr (inl (mid, ap (λ l. z ∷ l) e))
further z xs x ys y (inr (inr (mid, e))) = inr (inr (mid, ap (λ l. z ∷ l) e))

compared : (xs : List (List ℕ)) (x : List ℕ) (rest : List (List ℕ)) (ys : List (List ℕ)) (y : List ℕ) (rest' : List (List ℕ)) → xs ++ x ∷ rest ≡ ys ++ y ∷ rest' → Places xs x ys y
compared [] x rest [] y rest' e = inl (refl, ap (λ l. get_or l 0 []) e)
compared [] x rest (z ∷ ys) y rest' e = inr (inl (ys, ap (λ w. w ∷ ys) (sym (ap (λ l. get_or l 0 []) e))))
compared (z ∷ xs) x rest [] y rest' e = inr (inr (xs, ap (λ w. w ∷ xs) (ap (λ l. get_or l 0 []) e)))
compared (z ∷ xs) x rest (w ∷ ys) y rest' e =
    subst (λ v. Places (z ∷ xs) x (v ∷ ys) y) (ap (λ l. get_or l 0 []) e) (further z xs x ys y (compared xs x rest ys y rest' (ap (drop 1) e)))

some-none : {A B : Type 0} {x : A} → Some x ≡ None → B
some-none {x = x} e = absurd (let f : Some x ≡ None = e in cc)

abbrev record_at : ℕ → Code → Refused
record_at n code = record { line = n; code = code }

-- ---- lines

-- what lines told is good
pub all_good : {D : Type 0} (T : D → List ℕ → D → Type 0) (Good : D → Type 0) → ((d next : D) (line : List ℕ) → Good d → T d line next → Good next) → (start : D) → Good start → {all : List (List ℕ)} {d : D} → AreTaken T start all d → Good d
all_good T Good kept start good AreTaken.none = good
all_good T Good kept start good (AreTaken.one_more {last = m} {next = d} line before made) = kept m d line (all_good T Good kept start good before) made

module _ {D : Type 0} (T : D → List ℕ → D → Type 0) (start : D) where
  -- the last line was taken
  last-taken : {all : List (List ℕ)} {e : D} → AreTaken T start all e → (ls : List (List ℕ)) (l : List ℕ) → all ≡ ls ++ l ∷ [] → (m : D) × AreTaken T start ls m × T m l e
  last-taken AreTaken.none ls l is = absurd (let n : 0 ≡ length (ls ++ l ∷ []) = ap length is in omega (arith, n, length-append ls (l ∷ [])))
  last-taken (AreTaken.one_more {lines = lines} {last = m} {next = e} line before made) ls l is =
      let parts = snoc-front lines ls line l is in (m, subst (λ xs. AreTaken T start xs m) parts.0 before, subst (λ x. T m x e) parts.1 made)

  -- the first lines are taken too
  front-taken : {all : List (List ℕ)} {e : D} → AreTaken T start all e → (xs ys : List (List ℕ)) → all ≡ xs ++ ys → (m : D) × AreTaken T start xs m
  front-taken AreTaken.none [] ys is = (start, AreTaken.none)
  front-taken AreTaken.none (x ∷ xs) ys is = absurd (let n : 0 ≡ suc (length (xs ++ ys)) = ap length is in omega (arith, n))
  front-taken (AreTaken.one_more {lines = lines} {last = m} {next = e} line before made) xs ys is = go (snoc-view ys) (λ zs e. front-taken before xs zs e)
    where
      go : (ys ≡ []) ⊎ ((zs : List (List ℕ)) × (z : List ℕ) × (ys ≡ zs ++ z ∷ [])) → ((zs : List (List ℕ)) → lines ≡ xs ++ zs → (m : D) × AreTaken T start xs m) → (m : D) × AreTaken T start xs m
      go (inl f) earlier = (e, subst (λ l. AreTaken T start l e) (is ∙ ap (λ l. xs ++ l) f ∙ append-nil xs) (AreTaken.one_more line before made))
      go (inr (zs, z, f)) earlier = earlier zs (snoc-front lines (xs ++ zs) line z (is ∙ ap (λ l. xs ++ l) f ∙ sym (append_assoc xs zs (z ∷ [])))).0

module _ {D : Type 0} (R : D → List ℕ → Code → Type 0) (T : D → List ℕ → D → Type 0) (Good : D → Type 0) (apart : AreApart R T Good) (start : D) (good_start : Good start) where
  -- lines tell one thing
  pub one-told : {all : List (List ℕ)} {d e : D} → AreTaken T start all d → AreTaken T start all e → d ≡ e
  one-told AreTaken.none t = nothing t refl
    where
      nothing : {all : List (List ℕ)} {e : D} → AreTaken T start all e → all ≡ [] → start ≡ e
      nothing AreTaken.none is = refl
      nothing (AreTaken.one_more {lines = lines} line before made) is = absurd (let n : length (lines ++ line ∷ []) ≡ 0 = ap length is in omega (arith, n, length-append lines (line ∷ [])))
  one-told {e = e} (AreTaken.one_more {lines = lines} {last = m} {next = d} line before made) t =
      let last = last-taken T start t lines line refl in
      apart.one_next m d e line (all_good T Good apart.kept start good_start before) made (subst (λ x. T x line e) (sym (one-told before last.1)) last.2)

  -- a line that was taken is not refused
  taken-refused : {A : Type 0} {all : List (List ℕ)} {e : D} → AreTaken T start all e → (d : D) (before : List (List ℕ)) (line : List ℕ) (after : List (List ℕ)) (code : Code) → all ≡ before ++ line ∷ after → AreTaken T start before d → R d line code → A
  taken-refused t d before line after code split u r =
      let front = front-taken T start t (before ++ line ∷ []) after (split ∙ sym (append_assoc before (line ∷ []) after)) in
      let last = last-taken T start front.1 before line refl in
      absurd (apart.not_both d front.0 line code (all_good T Good apart.kept start good_start u) (subst (λ x. T x line front.0) (one-told last.1 u) last.2) r)

  module _ (is_whole : D → Bool) (text : List ℕ) where
    pub one_text : (a b : D) → IsText T start is_whole text a → IsText T start is_whole text b → a ≡ b
    one_text a b h g = one-told h.taken g.taken

    pub never_both : (a : D) (b : Refused) → IsText T start is_whole text a → ¬ (IsRefusedText R T start is_whole text b)
    never_both a _ h (IsRefusedText.bad_byte e) = some-none (sym e ∙ h.good_bytes)
    never_both a _ h (IsRefusedText.bad_line {d = d} {code = code} before line after good split t r) = taken-refused h.taken d before line after code split t r
    never_both a _ h (IsRefusedText.unfinished good t missing) = let f : true ≡ false = sym h.whole ∙ ap is_whole (one-told h.taken t) ∙ missing in cc

    pub one_refusal : (a b : Refused) → IsRefusedText R T start is_whole text a → IsRefusedText R T start is_whole text b → a ≡ b
    one_refusal _ _ (IsRefusedText.bad_byte {n = n} e) (IsRefusedText.bad_byte {n = m} f) = let s : Some n ≡ Some m = sym e ∙ f in let i : n ≡ m = cc in ap (λ k. record { line = k; code = NotText }) i
    one_refusal _ _ (IsRefusedText.bad_byte e) (IsRefusedText.bad_line before line after good split t r) = some-none (sym e ∙ good)
    one_refusal _ _ (IsRefusedText.bad_byte e) (IsRefusedText.unfinished good t missing) = some-none (sym e ∙ good)
    one_refusal _ _ (IsRefusedText.bad_line before line after good split t r) (IsRefusedText.bad_byte e) = some-none (sym e ∙ good)
    one_refusal _ _ (IsRefusedText.unfinished good t missing) (IsRefusedText.bad_byte e) = some-none (sym e ∙ good)
    one_refusal _ _ (IsRefusedText.unfinished good t missing) (IsRefusedText.unfinished good' t' missing') = refl
    one_refusal _ _ (IsRefusedText.bad_line {d = d} {code = code} before line after good split t r) (IsRefusedText.unfinished good' t' missing) = taken-refused t' d before line after code split t r
    one_refusal _ _ (IsRefusedText.unfinished good' t' missing) (IsRefusedText.bad_line {d = d} {code = code} before line after good split t r) = taken-refused t' d before line after code split t r
    one_refusal _ _ (IsRefusedText.bad_line {d = d} {code = a} before line after good split t r) (IsRefusedText.bad_line {d = e} {code = b} before' line' after' good' split' t' r') =
        at_places (compared before line after before' line' after' (sym split ∙ split'))
      where
        at_places : Places before line before' line' → record_at (length before + 1) a ≡ record_at (length before' + 1) b
        at_places (inr (inl (mid, f))) = taken-refused t' d before line mid a f t r
        at_places (inr (inr (mid, f))) = taken-refused t e before' line' mid b f t' r'
        at_places (inl (f, g)) =
            let drafts : d ≡ e = one-told (subst (λ l. AreTaken T start l d) f t) t' in
            ap₂ (λ n c. record_at n c) (ap (λ l. length l + 1) f)
            (apart.one_code e line' a b (all_good T Good apart.kept start good_start t') (subst (λ x. R x line' a) drafts (subst (λ x. R d x a) g r)) r')

    module _ (answered : AreAnswered R T Good) where
      abbrev Outcome : Type 0
      Outcome = ((d : D) × IsText T start is_whole text d) ⊎ ((refused : Refused) × IsRefusedText R T start is_whole text refused)

      lines_outcome : first_bad_line text ≡ None → (before : List (List ℕ)) (d : D) → AreTaken T start before d → (rest : List (List ℕ)) → contents_of text ≡ before ++ rest → Outcome
      lines_outcome good before d taken [] e =
          let all : AreTaken T start (contents_of text) d = subst (λ ls. AreTaken T start ls d) (sym (e ∙ append-nil before)) taken in
          elim (cases_Bool (is_whole d)) [
            | inl whole ↦ inl (d, record { good_bytes = good; taken = all; whole = whole })
            | inr missing ↦ inr (_, IsRefusedText.unfinished good all missing)
          ]
      lines_outcome good before d taken (line ∷ after) e = elim (answered d line (all_good T Good apart.kept start good_start taken)) [
        | inl (next, made) ↦ lines_outcome good (before ++ line ∷ []) next (AreTaken.one_more line taken made) after (e ∙ sym (append_assoc before (line ∷ []) after))
        | inr (code, refused) ↦ inr (_, IsRefusedText.bad_line before line after good e taken refused)
      ]

      has_outcome : Outcome
      has_outcome = by_bytes (first_bad_line text) refl
        where
          by_bytes : (o : Option ℕ) → first_bad_line text ≡ o → Outcome
          by_bytes (Some n) e = inr (_, IsRefusedText.bad_byte e)
          by_bytes None e = lines_outcome e [] start AreTaken.none (contents_of text) refl

      pub has_one_reading : HasOneReading R T start is_whole text
      has_one_reading = record { one_told = one_text; one_refusal = one_refusal; not_both = never_both; read_or_refused = has_outcome }
