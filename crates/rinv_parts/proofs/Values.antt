-- What polynomials at points answer, told of the points of the definition.
--   value-answer       a polynomial at a point that stands for another
--   difference-stored, less-answer    differences
--   vanish-made, agree-made, give-made, first-made, second-made    a part of what is said of polynomials
use Rattle.std.proofs.Common.{◌≡◌, ℕ, ◌+◌, ◌-◌, ◌<◌, ◌≤◌, ◌&&◌, Bool, true, false, List, [], ◌∷◌, ◌++◌, length, get_or, nat_lt, refl, sym, ◌∙◌, subst, inl, inr, arith}
use Rattle.std.specs.Prelude.{Result, Ok, Err, IfOk, IfErr, OnOk, if◌then◌else◌, ◌⊎◌}
use Rattle.std.specs.Global.{Vec}
use Rattle.std.specs.Result.{MatchResult}
use Rattle.std.specs.List.{AllZip}
use Rattle.std.proofs.lemmas.List.Elements.{AllZip-get_or}
use Rattle.rinv_algebra.specs.Ring.{IsSame}
use Rattle.rinv_algebra.specs.Residue.{residue_ops}
use Rattle.rinv_algebra.specs.Polynomial.{poly_ops, difference, opposite}
use Rattle.rinv_algebra.specs.Normal.{IsNormal}
use Rattle.rinv_algebra.specs.Value.{substitute}
use Rattle.rinv_algebra.specs.Fits.{substitution_fits}
use Rattle.rinv_algebra.proofs.PolynomialLaws.{poly_laws}
use Rattle.rinv_algebra.proofs.ResidueLaws.{residue_laws}
use Rattle.rinv_algebra.proofs.RingFacts as facts
use Rattle.rinv_ring.specs.Fault.{DegreesMeet}
use Rattle.rinv_ring.specs.declared.fault.RingFault.{RingFault}
use Rattle.rinv_ring.specs.declared.fault.RingFault.TheVariants.{Degree, NoMemory}
use Rattle.rinv_sub.proofs.Images.{substitute-images, fits-images}
use Rattle.rinv_sub.proofs.Misfits.{residues-alike}
use Rattle.rinv_defs.specs.System.{Poly}
use Rattle.rinv_parts.specs.declared.law_points.LawPoints.TheVariants.{Vanish, Agree, Give, GiveBoth}
use Rattle.rinv_parts.specs.Points.{ArePoints, AreStored, IsStoredIn, Points, vanish, agree, give, give_both}
use Rattle.rinv_parts.specs.Substitutions.{IsAgreement, IsLess, IsMade, IsValue, OneMeets, TakenMeets, less, taken_at}
use Rattle.rinv_parts.proofs.Stored.{stored-count, stored-same}

module _ (p v : ℕ) where
  -- the value at a point that stands for x
  value-taken : (x point : List Poly) (f r : Poly) → AreStored p v x point → IsNormal (residue_ops p) (λ c. nat_lt c p) v r → IsSame (poly_ops (residue_ops p)) r (substitute (residue_ops p) point f) → substitution_fits (residue_ops p) point f ≡ true → IsValue p v x f r
  value-taken x point f r h normal value fits =
      let same = stored-same p v x point h in
      let o = residue_ops p in
      record {
        stored = record { normal = normal; value = facts.then (poly_ops o) (poly_laws o (residue_laws p)) value (substitute-images o (residue_laws p) point x same (f ∷ [])).0 };
        fits = fits-one (substitution_fits o point f) (substitution_fits o x f) (fits-images o (residue_laws p) point x same (f ∷ [])) fits;
      }
    where
      fits-one : (a b : Bool) → (a && true) ≡ (b && true) → a ≡ true → b ≡ true
      fits-one true true e h = refl
      fits-one true false e h = sym e
      fits-one false true e h = refl
      fits-one false false e h = h

  pub value-answer : (x point : List Poly) (f : Poly) (result : Result Poly RingFault) → AreStored p v x point → IfOk result (λ r. IsNormal (residue_ops p) (λ c. nat_lt c p) v r)
      → IfOk result (λ r. IsSame (poly_ops (residue_ops p)) r (substitute (residue_ops p) point f)) → OnOk result (substitution_fits (residue_ops p) point f ≡ true) → IfErr result (DegreesMeet (TakenMeets p v point f))
      → MatchResult result (IsValue p v x f) (DegreesMeet (TakenMeets p v x f))
  value-answer x point f (Ok r) h normal value fits degree = value-taken x point f r h normal value fits
  value-answer x point f (Err (Degree m n)) h normal value fits degree = residues-alike p v point x (stored-same p v x point h) f m n degree
  value-answer x point f (Err NoMemory) h normal value fits degree = tt

  pub difference-stored : (f g a b : Poly) → IsStoredIn p v f a → IsStoredIn p v g b → (r : Poly) → IsNormal (residue_ops p) (λ c. nat_lt c p) v r → IsSame (poly_ops (residue_ops p)) r (difference (residue_ops p) a b) → IsStoredIn p v (difference (residue_ops p) f g) r
  difference-stored f g a b is_a is_b r normal value =
      let o = residue_ops p in
      let l = poly_laws o (residue_laws p) in
      record { normal = normal; value = facts.then (poly_ops o) l value (l.add_same a f (opposite o b) (opposite o g) is_a.value (l.neg_same b g is_b.value)) }

  pub less-answer : (x point : List Poly) (f g a b : Poly) → IsValue p v x f a → IsStoredIn p v g b → (r : Poly) → IsStoredIn p v (difference (residue_ops p) (substitute (residue_ops p) x f) g) r → IsLess p v x f g r
  less-answer x point f g a b value other r h = record { stored = h; fits = value.fits }

  -- ---- a part of what is said of polynomials

  -- what an answer says, weaker
  pub weaker : (P Q : Poly → Type 0) (M N : ℕ → ℕ → Type 0) → ((r : Poly) → P r → Q r) → ((m n : ℕ) → M m n → N m n) → (result : Result Poly RingFault) → MatchResult result P (DegreesMeet M) → MatchResult result Q (DegreesMeet N)
  weaker P Q M N f g (Ok r) h = f r h
  weaker P Q M N f g (Err (Degree m n)) h = g m n h
  weaker P Q M N f g (Err NoMemory) h = tt

  one-fits : (a : Bool) → a ≡ true → (a && true) ≡ true
  one-fits a e = rw e refl

  two-fit : (a b : Bool) → a ≡ true → b ≡ true → (a && (b && true)) ≡ true
  two-fit a b d e = rw (d, e) refl

  module _ (fs : List Poly) (k : ℕ) (result : Result Poly RingFault) where
    pub vanish-made : (a : Vec Poly) → ((x : List Poly) → AreStored p v x a.items → MatchResult result (IsValue p v x (get_or fs k [])) (DegreesMeet (TakenMeets p v x (get_or fs k []))))
        → (points : Points) → ArePoints p v points (Vanish a) → MatchResult result (IsMade p v fs points k) (DegreesMeet (OneMeets p v (taken_at fs points k)))
    vanish-made a h (vanish x) s =
        weaker (IsValue p v x (get_or fs k [])) (IsMade p v fs (vanish x) k) (TakenMeets p v x (get_or fs k [])) (OneMeets p v (taken_at fs (vanish x) k))
        (λ r q. record { stored = q.stored; fits = one-fits (substitution_fits (residue_ops p) x (get_or fs k [])) q.fits }) (λ m n q. inl q) result (h x s)
    vanish-made a h (agree x y) s = absurd s
    vanish-made a h (give x z) s = absurd s
    vanish-made a h (give_both x y z) s = absurd s

    pub agree-made : (a b : Vec Poly) → ((x y : List Poly) → AreStored p v x a.items → AreStored p v y b.items → MatchResult result (IsAgreement p v x y (get_or fs k [])) (DegreesMeet (λ m n. TakenMeets p v x (get_or fs k []) m n ⊎ TakenMeets p v y (get_or fs k []) m n)))
        → (points : Points) → ArePoints p v points (Agree a b) → MatchResult result (IsMade p v fs points k) (DegreesMeet (OneMeets p v (taken_at fs points k)))
    agree-made a b h (vanish x) s = absurd s
    agree-made a b h (agree x y) s =
        let f = get_or fs k [] in
        weaker (IsAgreement p v x y f) (IsMade p v fs (agree x y) k) (λ m n. TakenMeets p v x f m n ⊎ TakenMeets p v y f m n) (OneMeets p v (taken_at fs (agree x y) k))
        (λ r q. record { stored = q.stored; fits = two-fit (substitution_fits (residue_ops p) x f) (substitution_fits (residue_ops p) y f) q.first_fits q.second_fits })
        (λ m n q. elim q [ inl first ↦ inl first | inr second ↦ inr (inl second) ]) result (h x y s.0 s.1)
    agree-made a b h (give x z) s = absurd s
    agree-made a b h (give_both x y z) s = absurd s

    -- a coordinate of a point that is stored
    coordinate : (z c : List Poly) (j : ℕ) → j < length z → AreStored p v z c → IsStoredIn p v (get_or z j []) (get_or c j [])
    coordinate z c j few s = AllZip-get_or (IsStoredIn p v) z c j [] [] s few

    pub give-made : (a c : Vec Poly) → k < length c.items → ((x : List Poly) (g : Poly) → AreStored p v x a.items → IsStoredIn p v g (get_or c.items k []) → MatchResult result (IsLess p v x (get_or fs k []) g) (DegreesMeet (TakenMeets p v x (get_or fs k []))))
        → (points : Points) → ArePoints p v points (Give a c) → MatchResult result (IsMade p v fs points k) (DegreesMeet (OneMeets p v (taken_at fs points k)))
    give-made a c few h (vanish x) s = absurd s
    give-made a c few h (agree x y) s = absurd s
    give-made a c few h (give x z) s =
        let f = get_or fs k [] in
        let g = get_or z k [] in
        weaker (IsLess p v x f g) (IsMade p v fs (give x z) k) (TakenMeets p v x f) (OneMeets p v (taken_at fs (give x z) k))
        (λ r q. record { stored = q.stored; fits = one-fits (substitution_fits (residue_ops p) x f) q.fits }) (λ m n q. inl q) result
        (h x g s.0 (coordinate z c.items k (omega (arith, few, stored-count p v z c.items s.1)) s.1))
    give-made a c few h (give_both x y z) s = absurd s

    pub first-made : (a b c : Vec Poly) → nat_lt k (length fs) ≡ true → k < length c.items → ((x : List Poly) (g : Poly) → AreStored p v x a.items → IsStoredIn p v g (get_or c.items k []) → MatchResult result (IsLess p v x (get_or fs k []) g) (DegreesMeet (TakenMeets p v x (get_or fs k []))))
        → (points : Points) → ArePoints p v points (GiveBoth a b c) → MatchResult result (IsMade p v fs points k) (DegreesMeet (OneMeets p v (taken_at fs points k)))
    first-made a b c low few h (vanish x) s = absurd s
    first-made a b c low few h (agree x y) s = absurd s
    first-made a b c low few h (give x z) s = absurd s
    first-made a b c low few h (give_both x y z) s =
        let f = get_or fs k [] in
        let g = get_or z k [] in
        weaker (IsLess p v x f g) (IsMade p v fs (give_both x y z) k) (TakenMeets p v x f) (OneMeets p v (taken_at fs (give_both x y z) k))
        (λ r q. record { stored = rw low q.stored; fits = rw low (one-fits (substitution_fits (residue_ops p) x f) q.fits) }) (λ m n q. rw low (inl q)) result
        (h x g s.0 (coordinate z c.items k (omega (arith, few, stored-count p v z c.items s.2)) s.2))

    pub second-made : (a b c : Vec Poly) (j : ℕ) → j ≡ k - length fs → nat_lt k (length fs) ≡ false → j < length c.items → ((x : List Poly) (g : Poly) → AreStored p v x b.items → IsStoredIn p v g (get_or c.items j []) → MatchResult result (IsLess p v x (get_or fs j []) g) (DegreesMeet (TakenMeets p v x (get_or fs j []))))
        → (points : Points) → ArePoints p v points (GiveBoth a b c) → MatchResult result (IsMade p v fs points k) (DegreesMeet (OneMeets p v (taken_at fs points k)))
    second-made a b c j e low few h (vanish x) s = absurd s
    second-made a b c j e low few h (agree x y) s = absurd s
    second-made a b c j e low few h (give x z) s = absurd s
    second-made a b c j e low few h (give_both x y z) s =
        let f = get_or fs j [] in
        let g = get_or z j [] in
        weaker (IsLess p v y f g) (IsMade p v fs (give_both x y z) k) (TakenMeets p v y f) (OneMeets p v (taken_at fs (give_both x y z) k))
        (λ r q. record { stored = rw (low, ← e) q.stored; fits = rw (low, ← e) (one-fits (substitution_fits (residue_ops p) y f) q.fits) }) (λ m n q. rw (low, ← e) (inl q)) result
        (h y g s.1 (coordinate z c.items j (omega (arith, few, stored-count p v z c.items s.2)) s.2))
