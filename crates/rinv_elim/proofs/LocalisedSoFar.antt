-- The relations of the kept elements, made one after another.
--   made-of              the relation of an element
--   AreLocalising        those of the first places
--   localising-start, localising-more, localising-end    none, one more, all
use Rattle.std.proofs.Common.{◌≡◌, ℕ, zero, suc, ◌+◌, ◌<◌, ◌≤◌, List, [], ◌∷◌, ◌++◌, length, map, take, take_all, get_or, nat_le, refl, sym, ◌∙◌, ap, subst, arith, All, IsTrue}
use Rattle.std.specs.List.{AllZip}
use Rattle.std.specs.declared.cmp.Ordering.TheVariants.{Less}
use Rattle.std.proofs.lemmas.Bool.Decides.{nat_tests}
use Rattle.std.proofs.lemmas.List.Elements.{All-nil, All-cons, All-head, All-tail, All-push}
use Rattle.rinv_algebra.specs.Order.{grevlex}
use Rattle.rinv_algebra.specs.Normal.{is_in_variables}
use Rattle.rinv_algebra.proofs.Same.{and_true}
use Rattle.rinv_defs.specs.System.{System, Poly, space_count}
use Rattle.rinv_defs.specs.Extended.{Relation, FractionPoly}
use Rattle.rinv_buch.specs.Reducing.{kept_places}
use Rattle.rinv_reduction.specs.Localised.{IsCut, lead_in_z, IsRelationOf, none}
use Rattle.rinv_reduction.proofs.KeptRelations.{kept_basis}
use Rattle.rinv_tails.specs.Stored.{IsTailTerm, IsStoredRelation}
use Rattle.rinv_tails.proofs.Tails.{take-at}
use Rattle.rinv_elim.specs.Localising.{IsMadeOf, IsSolved, AreLocalised, kept_in_z}
use Rattle.rinv_elim.proofs.KeptPlaces.{are_kept_places}
use Rattle.rinv_elim.proofs.MadeRelations.{solved-relation}

-- lists that stand in a relation, place by place
zip-push : {A B : Type 0} (R : A → B → Type 0) (xs : List A) (ys : List B) (x : A) (y : B) → AllZip R xs ys → R x y → AllZip R (xs ++ x ∷ []) (ys ++ y ∷ [])
zip-push R [] [] x y h r = (r, tt)
zip-push R [] (b ∷ ys) x y h r = absurd h
zip-push R (a ∷ xs) [] x y h r = absurd h
zip-push R (a ∷ xs) (b ∷ ys) x y h r = (h.0, zip-push R xs ys x y h.1 r)

zip-length : {A B : Type 0} (R : A → B → Type 0) (xs : List A) (ys : List B) → AllZip R xs ys → length ys ≡ length xs
zip-length R [] [] h = refl
zip-length R [] (b ∷ ys) h = absurd h
zip-length R (a ∷ xs) [] h = absurd h
zip-length R (a ∷ xs) (b ∷ ys) h = ap suc (zip-length R xs ys h.1)

module _ (s : System) where
  pub made-of : (h : Poly) (r : Relation) → IsSolved s h r → IsMadeOf s h r
  made-of h r solved = record { of_it = solved-relation s h r solved; coefficients = solved.made }

  module _ (cut : List Poly) where
    -- those of the first k places
    pub record AreLocalising (places : List ℕ) (k : ℕ) (rs : List Relation) : Type 0 where
      pub made : AllZip (λ (place : ℕ) (r : Relation). IsMadeOf s (get_or cut place []) r) (take k places) rs
      pub stored : All (IsStoredRelation s.p (space_count s)) rs

    pub localising-start : (places : List ℕ) (rs : List Relation) → rs ≡ [] → AreLocalising places 0 rs
    localising-start places rs e = rw e (record { made = tt; stored = All-nil (IsStoredRelation s.p (space_count s)) })

    pub localising-more : (places : List ℕ) (k : ℕ) (rs more : List Relation) (place : ℕ) (r : Relation) → AreLocalising places k rs → k < length places → place ≡ get_or places k place → more ≡ rs ++ r ∷ []
        → IsSolved s (get_or cut place []) r → IsStoredRelation s.p (space_count s) r → AreLocalising places (k + 1) more
    localising-more places k rs more place r so_far low here e solved stored = rw e (record {
      made = subst (λ (ks : List ℕ). AllZip (λ (place : ℕ) (r : Relation). IsMadeOf s (get_or cut place []) r) ks (rs ++ r ∷ [])) (sym (take-at places k place low here))
          (zip-push (λ (place : ℕ) (r : Relation). IsMadeOf s (get_or cut place []) r) (take k places) rs place r so_far.made (made-of (get_or cut place []) r solved));
      stored = All-push (IsStoredRelation s.p (space_count s)) rs r so_far.stored stored;
    })

    -- the tail is written in Z
    in-z : (f : FractionPoly) → All (IsTailTerm s.p (space_count s)) f → IsTrue (is_in_variables (space_count s) f)
    in-z [] h = refl
    in-z (t ∷ f) h =
        let e : length t.0 ≡ space_count s = (All-head (IsTailTerm s.p (space_count s)) t f h).vars in
        and_true (nat_le (length t.0) (space_count s)) (is_in_variables (space_count s) f) (grind (arith, nat_tests, e)) (in-z f (All-tail (IsTailTerm s.p (space_count s)) t f h))

    each-of : (places : List ℕ) (rs : List Relation) → AllZip (λ (place : ℕ) (r : Relation). IsMadeOf s (get_or cut place []) r) places rs → (k : ℕ) → k < length rs → IsRelationOf s (get_or cut (get_or places k 0) []) (get_or rs k none)
    each-of [] [] h k low = absurd (omega (arith, low))
    each-of [] (r ∷ rs) h k low = absurd h
    each-of (place ∷ places) [] h k low = absurd h
    each-of (place ∷ places) (r ∷ rs) h zero low = h.0.of_it
    each-of (place ∷ places) (r ∷ rs) h (suc k) low = each-of places rs h.1 k (omega (arith, low))

    fits : (rs : List Relation) → All (IsStoredRelation s.p (space_count s)) rs → All (λ r. (length r.lead ≤ space_count s) × IsTrue (is_in_variables (space_count s) r.tail)) rs
    fits [] h = All-nil (λ r. (length r.lead ≤ space_count s) × IsTrue (is_in_variables (space_count s) r.tail))
    fits (r ∷ rs) h =
        let here = All-head (IsStoredRelation s.p (space_count s)) r rs h in
        let short : length r.lead ≤ space_count s = omega (arith, here.vars) in
        All-cons (λ r. (length r.lead ≤ space_count s) × IsTrue (is_in_variables (space_count s) r.tail)) r rs (short, in-z r.tail here.tail.terms) (fits rs (All-tail (IsStoredRelation s.p (space_count s)) r rs h))

    below : (rs : List Relation) → All (IsStoredRelation s.p (space_count s)) rs → All (λ r. All (λ t. grevlex t.0 r.lead ≡ Less) r.tail) rs
    below [] h = All-nil (λ r. All (λ t. grevlex t.0 r.lead ≡ Less) r.tail)
    below (r ∷ rs) h = All-cons (λ r. All (λ t. grevlex t.0 r.lead ≡ Less) r.tail) r rs (All-head (IsStoredRelation s.p (space_count s)) r rs h).below (below rs (All-tail (IsStoredRelation s.p (space_count s)) r rs h))

    pub localising-end : IsCut s cut → (leads : List (List ℕ)) → leads ≡ map (lead_in_z s) cut → (places : List ℕ) → places ≡ kept_places leads → (k : ℕ) (rs : List Relation) → length places ≤ k → AreLocalising places k rs → AreLocalised s cut rs
    localising-end is_cut leads are places kept k rs all so_far = record {
      made = whole;
      stored = so_far.stored;
      monic = kept_basis s cut (kept_in_z s cut) rs is_cut (are_kept_places (map (lead_in_z s) cut)) (record {
        number = zip-length (λ (place : ℕ) (r : Relation). IsMadeOf s (get_or cut place []) r) (kept_in_z s cut) rs whole;
        each = each-of (kept_in_z s cut) rs whole;
        in_variables = fits rs so_far.stored;
        below = below rs so_far.stored;
      });
    }
      where
        same : take k places ≡ kept_in_z s cut
        same = take_all k places all ∙ kept ∙ ap kept_places are

        whole : AllZip (λ (place : ℕ) (r : Relation). IsMadeOf s (get_or cut place []) r) (kept_in_z s cut) rs
        whole = subst (λ (ks : List ℕ). AllZip (λ (place : ℕ) (r : Relation). IsMadeOf s (get_or cut place []) r) ks rs) same so_far.made
