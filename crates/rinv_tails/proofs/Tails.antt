-- Tails as they are stored, taken apart and put together.
--   all-left, all-right            what holds of all of two lists, one after the other
--   at-place, take-at              a list about one of its places
--   tail-nil, tail-cons, ..        tails from the front, and of two lists
--   tail-without, tail-other       a term taken away, or with another fraction
use Rattle.std.proofs.Common.{◌≡◌, ℕ, zero, suc, ◌<◌, ◌+◌, List, [], ◌∷◌, ◌++◌, length, get_or, take, drop, sym, ap, subst, arith, All}
use Rattle.std.proofs.lemmas.List.Elements.{All-nil, All-head, All-tail, All-cons, All-append}
use Rattle.std.specs.declared.cmp.Ordering.TheVariants.{Less}
use Rattle.rinv_algebra.specs.Order.{grevlex}
use Rattle.rinv_defs.specs.Invariant.{Fraction}
use Rattle.rinv_defs.specs.Extended.{FractionPoly}
use Rattle.rinv_div.proofs.Arranging.{descend-head, descend-tail, descend-cons, descend-nil, descend-append, descend-left, descend-right, descend-above}
use Rattle.rinv_tails.specs.Stored.{IsTailTerm, IsTail}

pub all-left : {X : Type 0} (P : X → Type 0) (xs ys : List X) → All P (xs ++ ys) → All P xs
all-left P [] ys h = All-nil P
all-left P (x ∷ xs) ys h = All-cons P x xs (All-head P x (xs ++ ys) h) (all-left P xs ys (All-tail P x (xs ++ ys) h))

pub all-right : {X : Type 0} (P : X → Type 0) (xs ys : List X) → All P (xs ++ ys) → All P ys
all-right P [] ys h = h
all-right P (x ∷ xs) ys h = all-right P xs ys (All-tail P x (xs ++ ys) h)

pub at-place : {X : Type 0} (xs : List X) (k : ℕ) (x : X) → k < length xs → x ≡ get_or xs k x → xs ≡ take k xs ++ x ∷ drop (suc k) xs
at-place [] k x low e = absurd (omega arith)
at-place (y ∷ xs) zero x low e = ap (λ z. z ∷ xs) (sym e)
at-place (y ∷ xs) (suc k) x low e = ap (λ zs. y ∷ zs) (at-place xs k x (omega (arith, low)) e)

pub take-at : {X : Type 0} (xs : List X) (k : ℕ) (x : X) → k < length xs → x ≡ get_or xs k x → take (k + 1) xs ≡ take k xs ++ x ∷ []
take-at {X} xs k x low e = let more : suc k ≡ k + 1 = omega arith in subst (λ (j : ℕ). take j xs ≡ take k xs ++ x ∷ []) more (go xs k low e)
  where
    go : (xs : List X) (k : ℕ) → k < length xs → x ≡ get_or xs k x → take (suc k) xs ≡ take k xs ++ x ∷ []
    go [] k low e = absurd (omega arith)
    go (y ∷ xs) zero low e = ap (λ z. z ∷ []) (sym e)
    go (y ∷ xs) (suc k) low e = ap (λ zs. y ∷ zs) (go xs k (omega (arith, low)) e)

-- all terms are below the monomial
abbrev pub Below : List ℕ → FractionPoly → Type 0
Below m f = All (λ u. grevlex u.0 m ≡ Less) f

-- each term of the first list is above all of the second
abbrev pub Above : FractionPoly → FractionPoly → Type 0
Above f g = All (λ t. Below t.0 g) f

module _ (p v : ℕ) where
  pub tail-nil : IsTail p v []
  tail-nil = record { terms = All-nil (IsTailTerm p v); descending = descend-nil grevlex }

  pub tail-cons : (t : List ℕ × Fraction) (f : FractionPoly) → IsTailTerm p v t → Below t.0 f → IsTail p v f → IsTail p v (t ∷ f)
  tail-cons t f term below h = record { terms = All-cons (IsTailTerm p v) t f term h.terms; descending = descend-cons grevlex t f below h.descending }

  pub tail-term : (t : List ℕ × Fraction) (f : FractionPoly) → IsTail p v (t ∷ f) → IsTailTerm p v t
  tail-term t f h = All-head (IsTailTerm p v) t f h.terms

  pub tail-below : (t : List ℕ × Fraction) (f : FractionPoly) → IsTail p v (t ∷ f) → Below t.0 f
  tail-below t f h = descend-head grevlex t f h.descending

  pub tail-rest : (t : List ℕ × Fraction) (f : FractionPoly) → IsTail p v (t ∷ f) → IsTail p v f
  tail-rest t f h = record { terms = All-tail (IsTailTerm p v) t f h.terms; descending = descend-tail grevlex t f h.descending }

  pub tail-append : (f g : FractionPoly) → IsTail p v f → IsTail p v g → Above f g → IsTail p v (f ++ g)
  tail-append f g hf hg over = record { terms = All-append (IsTailTerm p v) f g hf.terms hg.terms; descending = descend-append grevlex f g hf.descending hg.descending over }

  pub tail-left : (f g : FractionPoly) → IsTail p v (f ++ g) → IsTail p v f
  tail-left f g h = record { terms = all-left (IsTailTerm p v) f g h.terms; descending = descend-left grevlex f g h.descending }

  pub tail-right : (f g : FractionPoly) → IsTail p v (f ++ g) → IsTail p v g
  tail-right f g h = record { terms = all-right (IsTailTerm p v) f g h.terms; descending = descend-right grevlex f g h.descending }

  pub tail-above : (f g : FractionPoly) → IsTail p v (f ++ g) → Above f g
  tail-above f g h = descend-above grevlex f g h.descending

  -- the term in the middle is taken away
  pub tail-without : (f g : FractionPoly) (t : List ℕ × Fraction) → IsTail p v (f ++ t ∷ g) → IsTail p v (f ++ g)
  tail-without f g t h =
      tail-append f g (tail-left f (t ∷ g) h) (tail-rest t g (tail-right f (t ∷ g) h))
      (λ k d within. All-tail (λ u. grevlex u.0 (get_or f k d).0 ≡ Less) t g (tail-above f (t ∷ g) h k d within))

  -- it has another fraction
  pub tail-other : (f g : FractionPoly) (m : List ℕ) (c e : Fraction) → IsTailTerm p v (m, e) → IsTail p v (f ++ (m, c) ∷ g) → IsTail p v (f ++ (m, e) ∷ g)
  tail-other f g m c e term h =
      let right = tail-right f ((m, c) ∷ g) h in
      let over = tail-above f ((m, c) ∷ g) h in
      tail-append f ((m, e) ∷ g) (tail-left f ((m, c) ∷ g) h) (tail-cons (m, e) g term (tail-below (m, c) g right) (tail-rest (m, c) g right))
      (λ k d within. All-cons (λ u. grevlex u.0 (get_or f k d).0 ≡ Less) (m, e) g (All-head (λ u. grevlex u.0 (get_or f k d).0 ≡ Less) (m, c) g (over k d within)) (All-tail (λ u. grevlex u.0 (get_or f k d).0 ≡ Less) (m, c) g (over k d within)))

  -- a term is put between
  pub tail-between : (f g : FractionPoly) (t : List ℕ × Fraction) → IsTailTerm p v t → All (λ u. grevlex t.0 u.0 ≡ Less) f → Below t.0 g → IsTail p v (f ++ g) → IsTail p v (f ++ t ∷ g)
  tail-between f g t term above below h =
      tail-append f (t ∷ g) (tail-left f g h) (tail-cons t g term below (tail-right f g h))
      (λ k d within. All-cons (λ u. grevlex u.0 (get_or f k d).0 ≡ Less) t g (above k d within) (tail-above f g h k d within))

  -- a term behind all others
  pub tail-push : (f : FractionPoly) (t : List ℕ × Fraction) → IsTail p v f → IsTailTerm p v t → All (λ u. grevlex t.0 u.0 ≡ Less) f → IsTail p v (f ++ t ∷ [])
  tail-push f t h term above =
      tail-append f (t ∷ []) h (tail-cons t [] term (All-nil (λ u. grevlex u.0 t.0 ≡ Less)) tail-nil)
      (λ k d within. All-cons (λ u. grevlex u.0 (get_or f k d).0 ≡ Less) t [] (above k d within) (All-nil (λ u. grevlex u.0 (get_or f k d).0 ≡ Less)))
