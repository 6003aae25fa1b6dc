-- The greatest element of a list in a total order, and filtered lists.
--   has-filter, filter-passes    the elements of a filtered list are those that pass the test
--   not_less, ge-not_less    not less is greater or equal
--   reduced              the greatest of a list, as it is reduced: it is in the list, and no other is greater
use Rattle.std.proofs.Common.{◌≡◌, ◌⊎◌, Bool, true, false, cond, List, [], ◌∷◌, refl, sym, ◌∙◌, ap, subst, inl, inr, IsTrue, true≢false}
use Rattle.std.specs.Prelude.{filter, fold, unwrap_or, if◌then◌else◌}
use Rattle.std.specs.List.{reduce}
use Rattle.std.specs.Cmp.{IsTotalOrder}
use Rattle.std.specs.Ordering.{is_lt, is_ge, ordering_reverse}
use Rattle.std.specs.declared.cmp.Ordering.{Ordering}
use Rattle.std.specs.declared.cmp.Ordering.TheVariants.{Less, Equal, Greater}
use Rattle.std.proofs.lemmas.Cmp.{tied_itself}
use Rattle.rinv_groebner.proofs.Ascending.{Has}

-- an element of a list that passes a test is in the filtered list
pub has-filter : {A : Type 0} (test : A → Bool) {x : A} {xs : List A} → Has x xs → test x ≡ true → Has x (filter test xs)
has-filter test {x} (Has.first {xs = xs}) h = go (test x) refl h
  where
    go : (b : Bool) → test x ≡ b → b ≡ true → Has x (cond b (x ∷ filter test xs) (filter test xs))
    go true e h = Has.first
    go false e h = absurd (true≢false (sym h))
has-filter test {x} (Has.later {y = y} {xs = xs} m) h = go (test y) (has-filter test m h)
  where
    go : (b : Bool) → Has x (filter test xs) → Has x (cond b (y ∷ filter test xs) (filter test xs))
    go true r = Has.later r
    go false r = r

filter-first : {A : Type 0} (test : A → Bool) (x y : A) (ys : List A) → Has x (y ∷ ys) → test y ≡ true → (Has x ys → test x ≡ true) → test x ≡ true
filter-first test x y ys Has.first e again = e
filter-first test x y ys (Has.later m) e again = again m

-- the elements of a filtered list pass the test
pub filter-passes : {A : Type 0} (test : A → Bool) {x : A} (xs : List A) → Has x (filter test xs) → test x ≡ true
filter-passes test [] h = elim h [ ]
filter-passes test {x} (y ∷ xs) h = go (test y) refl h (filter-passes test xs)
  where
    held : test y ≡ true → Has x (y ∷ filter test xs) → (Has x (filter test xs) → test x ≡ true) → test x ≡ true
    held e h again = filter-first test x y (filter test xs) h e again

    go : (b : Bool) → test y ≡ b → Has x (cond b (y ∷ filter test xs) (filter test xs)) → (Has x (filter test xs) → test x ≡ true) → test x ≡ true
    go true e m again = held e m again
    go false e m again = again m

module _ {A : Type 0} (cmp : A → A → Ordering) (total : IsTotalOrder cmp) where
  -- not less is greater or equal
  pub not_less : (a b : A) → (cmp a b ≡ Less → ⊥) → IsTrue (is_ge (cmp a b))
  not_less a b h = go (cmp a b) refl
    where
      go : (o : Ordering) → cmp a b ≡ o → IsTrue (is_ge o)
      go Less e = absurd (h e)
      go Equal e = refl
      go Greater e = refl

  -- and the other way round
  pub ge-not_less : (a b : A) → IsTrue (is_ge (cmp a b)) → cmp a b ≡ Less → ⊥
  ge-not_less a b g e = true≢false (sym g ∙ ap is_ge e)

  ge_trans : (a b c : A) → IsTrue (is_ge (cmp a b)) → IsTrue (is_ge (cmp b c)) → IsTrue (is_ge (cmp a c))
  ge_trans a b c g h = not_less a c (λ e. go e (cmp b a) refl)
    where
      go : cmp a c ≡ Less → (o : Ordering) → cmp b a ≡ o → ⊥
      go e Less k = ge-not_less b c h (total.trans b a c k e)
      go e Equal k = ge-not_less b c h (sym (total.congr a b c (total.antisymm a b ∙ ap ordering_reverse k)) ∙ e)
      go e Greater k = ge-not_less a b g (total.antisymm a b ∙ ap ordering_reverse k)

  ge_refl : (a : A) → IsTrue (is_ge (cmp a a))
  ge_refl a = ap is_ge (tied_itself total a)

  abbrev greater : A → A → A
  greater a b = if is_lt (cmp a b) then b else a

  picks : (x y : A) → ((greater x y ≡ x) ⊎ (greater x y ≡ y)) × IsTrue (is_ge (cmp (greater x y) x)) × IsTrue (is_ge (cmp (greater x y) y))
  picks x y = go (cmp x y) refl
    where
      go : (o : Ordering) → cmp x y ≡ o → ((greater x y ≡ x) ⊎ (greater x y ≡ y)) × IsTrue (is_ge (cmp (greater x y) x)) × IsTrue (is_ge (cmp (greater x y) y))
      go Less e = rw e (inr refl, ap is_ge (total.antisymm y x ∙ ap ordering_reverse e), ge_refl y)
      go Equal e = rw e (inl refl, ge_refl x, ap is_ge e)
      go Greater e = rw e (inl refl, ge_refl x, ap is_ge e)

  -- the greatest of a list is in it, and no other is greater
  greatest : (x : A) (xs : List A) → Has (fold greater x xs) (x ∷ xs) × ((y : A) → Has y (x ∷ xs) → IsTrue (is_ge (cmp (fold greater x xs) y)))
  greatest x [] = (Has.first, only)
    where
      only : (y : A) → Has y (x ∷ []) → IsTrue (is_ge (cmp x y))
      only y Has.first = ge_refl x
      only y (Has.later m) = elim m [ ]
  greatest x (y ∷ xs) = go (greater x y) (picks x y) (greatest (greater x y) xs)
    where
      go : (g : A) → ((g ≡ x) ⊎ (g ≡ y)) × IsTrue (is_ge (cmp g x)) × IsTrue (is_ge (cmp g y)) → Has (fold greater g xs) (g ∷ xs) × ((y : A) → Has y (g ∷ xs) → IsTrue (is_ge (cmp (fold greater g xs) y)))
          → Has (fold greater g xs) (x ∷ y ∷ xs) × ((z : A) → Has z (x ∷ y ∷ xs) → IsTrue (is_ge (cmp (fold greater g xs) z)))
      go g (e, gx, gy) (m, h) = (within m e, above)
        where
          within : {z : A} → Has z (g ∷ xs) → (g ≡ x) ⊎ (g ≡ y) → Has z (x ∷ y ∷ xs)
          within Has.first (inl e) = subst (λ (z : A). Has z (x ∷ y ∷ xs)) (sym e) Has.first
          within Has.first (inr e) = subst (λ (z : A). Has z (x ∷ y ∷ xs)) (sym e) (Has.later Has.first)
          within (Has.later m) e = Has.later (Has.later m)

          above : (z : A) → Has z (x ∷ y ∷ xs) → IsTrue (is_ge (cmp (fold greater g xs) z))
          above z Has.first = ge_trans (fold greater g xs) g z (h g Has.first) gx
          above z (Has.later Has.first) = ge_trans (fold greater g xs) g z (h g Has.first) gy
          above z (Has.later (Has.later m)) = h z (Has.later m)

  -- the greatest of a list, as it is reduced
  pub reduced : (xs : List A) (d : A) {y : A} → Has y xs → let m = unwrap_or (reduce greater xs) d in Has m xs × ((z : A) → Has z xs → IsTrue (is_ge (cmp m z)))
  reduced [] d h = elim h [ ]
  reduced (x ∷ xs) d h = greatest x xs
