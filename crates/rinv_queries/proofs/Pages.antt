-- Queries that are answered one after another.
--   all-more              a list and an element more, of two kinds
--   images-more           the images of one element more
--   images-parted         those before an element, its own, and those after
--   images-number         how many there are
--   any-image             a test of images
--   image-holds           what holds of all images
--   all-suffice           what is known is enough for all queries
--   page-begins           no query is answered
--   page-more             one more is
use Rattle.std.proofs.Common.{◌≡◌, ℕ, suc, ◌+◌, ◌<◌, ◌≤◌, List, [], ◌∷◌, ◌++◌, length, map, take, drop, get_or, Bool, true, false, ◌||◌, refl, sym, ap, ap₂, ◌∙◌, arith, append_assoc, append-nil, length-take, subst, All}
use Rattle.std.specs.List.{list_any, AllZip}
use Rattle.std.proofs.lemmas.List.{take_more, take-append-drop, map-append, length-map, get_or-map}
use Rattle.std.proofs.lemmas.List.Elements.{All-get_or, All-from_get_or}
use Rattle.std.proofs.lemmas.List.Folds.{list_any-append, list_any_at}
use Rattle.rinv_defs.specs.System.{System}
use Rattle.rinv_defs.specs.Invariant.{Fraction}
use Rattle.rinv_script.specs.Queries.{Query, for_laws, needs_generators, need_generators}
use Rattle.rinv_queries.specs.declared.known.Known.{Known}
use Rattle.rinv_queries.specs.Known.{Suffices}
use Rattle.rinv_queries.specs.declared.answering.Page.{Page}
use Rattle.rinv_queries.specs.declared.outcome.Outcome.{Outcome}
use Rattle.rinv_queries.specs.Outcomes.{Answers, AreAnswered, denies}
use Rattle.rinv_queries.specs.Lines.{query_text, query_lines}
use Rattle.rinv_queries.specs.Written.{IsTurn, IsPage}

-- a list and an element more, of two kinds
pub all-more : {A B : Type 0} (R : A → B → Type 0) (xs : List A) (ys : List B) (x : A) (y : B) → AllZip R xs ys → R x y → AllZip R (xs ++ x ∷ []) (ys ++ y ∷ [])
all-more R [] [] x y so_far one = (one, tt)
all-more R [] (b ∷ ys) x y so_far one = absurd so_far
all-more R (a ∷ xs) [] x y so_far one = absurd so_far
all-more R (a ∷ xs) (b ∷ ys) x y so_far one = (so_far.0, all-more R xs ys x y so_far.1 one)

-- the images of one element more
pub images-more : {A B : Type 0} (f : A → B) (xs : List A) (k : ℕ) (d : A) → k < length xs → map f (take (k + 1) xs) ≡ map f (take k xs) ++ f (get_or xs k d) ∷ []
images-more f xs k d h = ap (map f) (take_more xs k d h) ∙ map-append f (take k xs) (get_or xs k d ∷ [])

-- those before an element, its own, and those after
pub images-parted : {A B : Type 0} (f : A → B) (xs : List A) (k : ℕ) (d : A) → k < length xs → map f xs ≡ map f (take k xs) ++ f (get_or xs k d) ∷ map f (drop (k + 1) xs)
images-parted f xs k d h =
    ap (map f) (sym (take-append-drop (k + 1) xs)) ∙ map-append f (take (k + 1) xs) (drop (k + 1) xs)
    ∙ ap (λ ys. ys ++ map f (drop (k + 1) xs)) (images-more f xs k d h) ∙ append_assoc (map f (take k xs)) (f (get_or xs k d) ∷ []) (map f (drop (k + 1) xs))

-- how many there are
pub images-number : {A B : Type 0} (f : A → B) (xs : List A) (k : ℕ) → k ≤ length xs → length (map f (take k xs)) ≡ k
images-number f xs k h = length-map (take k xs) f ∙ (let n = length-take k xs in let e : length (take k xs) ≡ k = omega (arith, n, h) in e)

-- a test of images
pub any-image : {A B : Type 0} (test : B → Bool) (f : A → B) (xs : List A) → list_any (λ x. test (f x)) xs ≡ list_any test (map f xs)
any-image test f [] = refl
any-image test f (x ∷ xs) = ap (λ (b : Bool). test (f x) || b) (any-image test f xs)

or-false : (a : Bool) → (a || false) ≡ a
or-false true = refl
or-false false = refl

or-assoc : (a b c : Bool) → ((a || b) || c) ≡ (a || (b || c))
or-assoc true b c = refl
or-assoc false b c = refl

any-more : {A : Type 0} (test : A → Bool) (xs : List A) (x : A) → list_any test (xs ++ x ∷ []) ≡ (list_any test xs || test x)
any-more test xs x = list_any-append test xs (x ∷ []) ∙ ap (λ (b : Bool). list_any test xs || b) (or-false (test x))

module _ (s : System) (cs : List Fraction) where
  lines-none : (shown : Bool) (k : ℕ) → query_lines s cs shown k [] [] ≡ []
  unfolding query_lines
  lines-none shown k = refl

  lines-one : (shown : Bool) (k : ℕ) (q : Query) (o : Outcome) (qs : List Query) (os : List Outcome) → query_lines s cs shown k (q ∷ qs) (o ∷ os) ≡ query_text s cs shown k q o ++ query_lines s cs (shown || needs_generators q) (k + 1) qs os
  unfolding query_lines
  lines-one shown k q o qs os = refl

  lines-more : (shown : Bool) (k : ℕ) (qs : List Query) (os : List Outcome) (q : Query) (o : Outcome) → AreAnswered s cs qs os
      → query_lines s cs shown k (qs ++ q ∷ []) (os ++ o ∷ []) ≡ query_lines s cs shown k qs os ++ query_text s cs (shown || need_generators qs) (k + length qs) q o
  lines-more shown k [] [] q o h =
      lines-one shown k q o [] [] ∙ ap (λ (r : List ℕ). query_text s cs shown k q o ++ r) (lines-none (shown || needs_generators q) (k + 1)) ∙ append-nil (query_text s cs shown k q o)
      ∙ ap₂ (λ (b : Bool) (n : ℕ). query_text s cs b n q o) (sym (or-false shown)) (let e : k ≡ k + 0 = omega arith in e)
      ∙ ap (λ (r : List ℕ). r ++ query_text s cs (shown || need_generators []) (k + length {A = Query} []) q o) (sym (lines-none shown k))
  lines-more shown k [] (b ∷ os) q o h = absurd h
  lines-more shown k (a ∷ qs) [] q o h = absurd h
  lines-more shown k (a ∷ qs) (b ∷ os) q o h =
      lines-one shown k a b (qs ++ q ∷ []) (os ++ o ∷ [])
      ∙ ap (λ (r : List ℕ). query_text s cs shown k a b ++ r) (lines-more (shown || needs_generators a) (k + 1) qs os q o h.1
      ∙ ap₂ (λ (t : Bool) (n : ℕ). query_lines s cs (shown || needs_generators a) (k + 1) qs os ++ query_text s cs t n q o) (or-assoc shown (needs_generators a) (need_generators qs)) (let e : (k + 1) + length qs ≡ k + suc (length qs) = omega arith in e))
      ∙ sym (append_assoc (query_text s cs shown k a b) (query_lines s cs (shown || needs_generators a) (k + 1) qs os) (query_text s cs (shown || need_generators (a ∷ qs)) (k + suc (length qs)) q o))
      ∙ ap (λ (r : List ℕ). r ++ query_text s cs (shown || need_generators (a ∷ qs)) (k + suc (length qs)) q o) (sym (lines-one shown k a b qs os))

  -- none is
  pub page-begins : (page : Page) → page.denied ≡ false → IsPage s cs page.shown page.text.items [] page
  page-begins page fresh = record {
    outcomes = [];
    answered = tt;
    text = sym (ap (λ (r : List ℕ). page.text.items ++ r) (lines-none page.shown 1) ∙ append-nil page.text.items);
    is_shown = sym (or-false page.shown);
    denied = fresh;
  }

  -- one more
  pub page-more : (shown : Bool) (start : List ℕ) (qs : List Query) (q : Query) (old new : Page) → IsPage s cs shown start qs old → IsTurn s cs (length qs + 1) q old new → IsPage s cs shown start (qs ++ q ∷ []) new
  page-more shown start qs q old new so_far turn = record {
    outcomes = so_far.outcomes ++ turn.outcome ∷ [];
    answered = all-more (Answers s cs) qs so_far.outcomes q turn.outcome so_far.answered turn.answered;
    text = turn.text
        ∙ ap₂ (λ (r : List ℕ) (b : Bool). r ++ query_text s cs b (length qs + 1) q turn.outcome) so_far.text so_far.is_shown
        ∙ append_assoc start (query_lines s cs shown 1 qs so_far.outcomes) (query_text s cs (shown || need_generators qs) (length qs + 1) q turn.outcome)
        ∙ ap (λ (n : ℕ). start ++ (query_lines s cs shown 1 qs so_far.outcomes ++ query_text s cs (shown || need_generators qs) n q turn.outcome)) (let e : length qs + 1 ≡ 1 + length qs = omega arith in e)
        ∙ ap (λ (r : List ℕ). start ++ r) (sym (lines-more shown 1 qs so_far.outcomes q turn.outcome so_far.answered));
    is_shown = turn.shown ∙ ap (λ (b : Bool). b || needs_generators q) so_far.is_shown ∙ or-assoc shown (need_generators qs) (needs_generators q)
        ∙ ap (λ (b : Bool). shown || b) (sym (any-more needs_generators qs q));
    denied = turn.denied ∙ ap (λ (b : Bool). b || denies turn.outcome) so_far.denied ∙ sym (any-more denies so_far.outcomes turn.outcome);
  }

-- ---- what holds of each query

-- what holds of all images holds of that of an element
pub image-holds : {A B : Type 0} (P : B → Type 0) (f : A → B) (xs : List A) (k : ℕ) (d : A) → k < length xs → All P (map f xs) → P (f (get_or xs k d))
image-holds P f xs k d low h = subst P (get_or-map f xs k d (f d) low) (All-get_or P (map f xs) k (f d) (let n = length-map xs f in omega (arith, n, low)) h)

-- what is enough wherever generators are known or not needed is enough for queries that do not need them, or where they are known
pub all-suffice : (known : Known) (needed : Bool) (qs : List Query) → needed ≡ need_generators qs → ((q : Query) → (needs_generators q ≡ true → needed ≡ true) → Suffices known q) → All (Suffices known) qs
all-suffice known needed qs is enough = All-from_get_or (Suffices known) qs for_laws (λ i low. enough (get_or qs i for_laws) (λ e. is ∙ list_any_at needs_generators qs i for_laws low e))
