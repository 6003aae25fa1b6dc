-- The walk over coefficients: which values are new.
--   new-append, new-one, new-more    new values of two lists, of one fraction, of one more
--   walk-more            the walk with one fraction more
--   walk-meets, walk-within    the degrees that it meets
--   among-more           among one more
--   coefficients-more, coefficients-parts, walk-relation    one relation more
use Rattle.std.proofs.Common.{◌≡◌, ℕ, ◌+◌, ◌<◌, ◌||◌, Bool, true, false, List, [], ◌∷◌, ◌++◌, length, get_or, map, take, drop, refl, sym, ap, ◌∙◌, subst, append-nil, append_assoc, true≢false, All}
use Rattle.std.specs.Prelude.{if◌then◌else◌}
use Rattle.std.specs.List.{list_any}
use Rattle.std.proofs.lemmas.List.{take-append-drop}
use Rattle.std.proofs.lemmas.List.Elements.{All-push}
use Rattle.rinv_sub.proofs.Sums.{take-at}
use Rattle.rinv_defs.specs.Generators.{rational_ops}
use Rattle.rinv_defs.specs.Invariant.{Fraction}
use Rattle.rinv_defs.specs.Extended.{Relation}
use Rattle.rinv_ring.specs.Fault.{DegreesMeet}
use Rattle.rinv_ring.specs.declared.fault.RingFault.{RingFault}
use Rattle.rinv_poly.proofs.Meets.{meet-weaker}
use Rattle.rinv_coefficients.specs.Coefficients.{coefficients, is_among, is_constant, new_values}
use Rattle.rinv_gens.specs.Numbering.{AmongMeets, WalkMeets, with_new}

-- a list, parted at a place
parted : {X : Type 0} (xs : List X) (k : ℕ) (x : X) → k < length xs → x ≡ get_or xs k x → xs ≡ take k xs ++ x ∷ drop (k + 1) xs
parted xs k x few at = sym (take-append-drop (k + 1) xs) ∙ ap (λ ys. ys ++ drop (k + 1) xs) (take-at xs k x few at) ∙ append_assoc (take k xs) (x ∷ []) (drop (k + 1) xs)

-- ---- new values

module _ (p : ℕ) where
  -- of two lists, one after the other
  pub new-append : (cs xs ys : List Fraction) → new_values p cs (xs ++ ys) ≡ new_values p cs xs ++ new_values p (cs ++ new_values p cs xs) ys
  unfolding new_values
  new-append cs [] ys = ap (λ (ds : List Fraction). new_values p ds ys) (sym (append-nil cs))
  new-append cs (x ∷ xs) ys = go (is_constant p x || is_among p cs x) (new-append cs xs ys) (new-append (cs ++ x ∷ []) xs ys)
    where
      go : (b : Bool) → new_values p cs (xs ++ ys) ≡ new_values p cs xs ++ new_values p (cs ++ new_values p cs xs) ys
          → new_values p (cs ++ x ∷ []) (xs ++ ys) ≡ new_values p (cs ++ x ∷ []) xs ++ new_values p ((cs ++ x ∷ []) ++ new_values p (cs ++ x ∷ []) xs) ys
          → (if b then new_values p cs (xs ++ ys) else x ∷ new_values p (cs ++ x ∷ []) (xs ++ ys))
          ≡ (if b then new_values p cs xs else x ∷ new_values p (cs ++ x ∷ []) xs) ++ new_values p (cs ++ (if b then new_values p cs xs else x ∷ new_values p (cs ++ x ∷ []) xs)) ys
      go true left later = left
      go false left later = ap (λ (ds : List Fraction). x ∷ ds) (later
          ∙ ap (λ (ds : List Fraction). new_values p (cs ++ x ∷ []) xs ++ new_values p ds ys) (append_assoc cs (x ∷ []) (new_values p (cs ++ x ∷ []) xs)))

  -- of none
  pub new-none : (cs : List Fraction) → cs ≡ cs ++ new_values p cs []
  unfolding new_values
  new-none cs = sym (append-nil cs)

  -- what all have, the new ones have
  pub all-with : (P : Fraction → Type 0) (cs : List Fraction) (c : Fraction) → All P cs → P c → All P (with_new p cs c)
  all-with P cs c all own = go (is_constant p c || is_among p cs c)
    where
      go : (b : Bool) → All P (if b then cs else cs ++ c ∷ [])
      go true = all
      go false = All-push P cs c all own

  -- with a fraction the list only grows
  pub with-more : (cs : List Fraction) (c : Fraction) → (ds : List Fraction) × (with_new p cs c ≡ cs ++ ds)
  with-more cs c = go (is_constant p c || is_among p cs c)
    where
      go : (b : Bool) → (ds : List Fraction) × ((if b then cs else cs ++ c ∷ []) ≡ cs ++ ds)
      go true = ([], sym (append-nil cs))
      go false = (c ∷ [], refl)

  -- of one fraction
  pub new-one : (cs : List Fraction) (c : Fraction) → cs ++ new_values p cs (c ∷ []) ≡ with_new p cs c
  unfolding new_values
  new-one cs c = go (is_constant p c || is_among p cs c)
    where
      go : (b : Bool) → cs ++ (if b then [] else c ∷ []) ≡ (if b then cs else cs ++ c ∷ [])
      go true = append-nil cs
      go false = refl

  -- the walk with one fraction more
  pub walk-more : (cs list : List Fraction) (k : ℕ) (c : Fraction) (so_far next : List Fraction) → k < length list → c ≡ get_or list k c → so_far ≡ cs ++ new_values p cs (take k list) → next ≡ with_new p so_far c
      → next ≡ cs ++ new_values p cs (take (k + 1) list)
  walk-more cs list k c so_far next few at e h =
      h ∙ ap (λ (ds : List Fraction). with_new p ds c) e ∙ sym (new-one (cs ++ new_values p cs (take k list)) c)
      ∙ append_assoc cs (new_values p cs (take k list)) (new_values p (cs ++ new_values p cs (take k list)) (c ∷ []))
      ∙ ap (λ (ds : List Fraction). cs ++ ds) (sym (new-append cs (take k list) (c ∷ [])))
      ∙ ap (λ (ds : List Fraction). cs ++ new_values p cs ds) (sym (take-at list k c few at))

  -- the degrees that a fraction of the walk meets
  pub walk-meets : (cs list : List Fraction) (k : ℕ) (c : Fraction) (so_far : List Fraction) → k < length list → c ≡ get_or list k c → so_far ≡ cs ++ new_values p cs (take k list)
      → (fault : RingFault) → DegreesMeet (AmongMeets p so_far c) fault → DegreesMeet (WalkMeets p cs list) fault
  walk-meets cs list k c so_far few at e fault meets = meet-weaker (AmongMeets p so_far c) (WalkMeets p cs list) (λ x y m. record {
    before = take k list;
    next = c;
    after = drop (k + 1) list;
    whole = parted list k c few at;
    meets = subst (λ (ds : List Fraction). AmongMeets p ds c x y) e m;
  }) fault meets

  -- a list of fractions is walked within a longer one
  pub walk-within : (front list back whole so_far : List Fraction) → whole ≡ front ++ (list ++ back) → so_far ≡ new_values p [] front → (fault : RingFault) → DegreesMeet (WalkMeets p so_far list) fault → DegreesMeet (WalkMeets p [] whole) fault
  walk-within front list back whole so_far is e fault meets = meet-weaker (WalkMeets p so_far list) (WalkMeets p [] whole) (λ x y m. record {
    before = front ++ m.before;
    next = m.next;
    after = m.after ++ back;
    whole = is ∙ ap (λ (ds : List Fraction). front ++ (ds ++ back)) m.whole ∙ between front m.before m.next m.after back;
    meets = subst (λ (ds : List Fraction). AmongMeets p ds m.next x y) (ap (λ (ds : List Fraction). ds ++ new_values p ds m.before) e ∙ sym (new-append [] front m.before)) m.meets;
  }) fault meets
    where
      between : (a b : List Fraction) (c : Fraction) (d e : List Fraction) → a ++ ((b ++ c ∷ d) ++ e) ≡ (a ++ b) ++ c ∷ (d ++ e)
      between a b c d e = ap (λ (ds : List Fraction). a ++ ds) (append_assoc b (c ∷ d) e) ∙ sym (append_assoc a b (c ∷ (d ++ e)))

  -- ---- among others

  any-push : (ds : List Fraction) (test : Fraction → Bool) (d : Fraction) → list_any test ds ≡ false → test d ≡ false → list_any test (ds ++ d ∷ []) ≡ false
  any-push [] test d h k = rw k refl
  any-push (e ∷ ds) test d h k = both (test e) h (λ i. any-push ds test d i k)
    where
      both : (b : Bool) → (b || list_any test ds) ≡ false → (list_any test ds ≡ false → list_any test (ds ++ d ∷ []) ≡ false) → (b || list_any test (ds ++ d ∷ [])) ≡ false
      both true h more = absurd (true≢false h)
      both false h more = more h

  -- one more fraction has not the value
  pub among-more : (cs : List Fraction) (k : ℕ) (d c : Fraction) → k < length cs → d ≡ get_or cs k d → is_among p (take k cs) c ≡ false → (rational_ops p).same d c ≡ false → is_among p (take (k + 1) cs) c ≡ false
  among-more cs k d c few at so_far here =
      ap (λ (ds : List Fraction). is_among p ds c) (take-at cs k d few at) ∙ any-push (take k cs) (λ e. (rational_ops p).same e c) d so_far here

-- ---- relations

coefficients-append : (rs qs : List Relation) → coefficients (rs ++ qs) ≡ coefficients rs ++ coefficients qs
coefficients-append [] qs = refl
coefficients-append (r ∷ rs) qs = ap (λ (ds : List Fraction). map (λ t. t.1) r.tail ++ ds) (coefficients-append rs qs) ∙ sym (append_assoc (map (λ t. t.1) r.tail) (coefficients rs) (coefficients qs))

-- one relation more
pub coefficients-more : (rs : List Relation) (k : ℕ) (r : Relation) → k < length rs → r ≡ get_or rs k r → coefficients (take (k + 1) rs) ≡ coefficients (take k rs) ++ map (λ t. t.1) r.tail
coefficients-more rs k r few at =
    ap (λ (qs : List Relation). coefficients qs) (take-at rs k r few at) ∙ coefficients-append (take k rs) (r ∷ [])
    ∙ ap (λ (ds : List Fraction). coefficients (take k rs) ++ ds) (append-nil (map (λ t. t.1) r.tail))

-- a relation among others
pub coefficients-parts : (rs : List Relation) (k : ℕ) (r : Relation) → k < length rs → r ≡ get_or rs k r → coefficients rs ≡ coefficients (take k rs) ++ (map (λ t. t.1) r.tail ++ coefficients (drop (k + 1) rs))
coefficients-parts rs k r few at =
    ap (λ (qs : List Relation). coefficients qs) (parted rs k r few at) ∙ coefficients-append (take k rs) (r ∷ drop (k + 1) rs)

-- the walk with one relation more
pub walk-relation : (p : ℕ) (rs : List Relation) (k : ℕ) (r : Relation) (so_far next : List Fraction) → k < length rs → r ≡ get_or rs k r → so_far ≡ new_values p [] (coefficients (take k rs))
    → next ≡ so_far ++ new_values p so_far (map (λ t. t.1) r.tail) → next ≡ new_values p [] (coefficients (take (k + 1) rs))
walk-relation p rs k r so_far next few at e h =
    h ∙ ap (λ (ds : List Fraction). ds ++ new_values p ds (map (λ t. t.1) r.tail)) e
    ∙ sym (new-append p [] (coefficients (take k rs)) (map (λ t. t.1) r.tail))
    ∙ ap (λ (ds : List Fraction). new_values p [] ds) (sym (coefficients-more rs k r few at))
