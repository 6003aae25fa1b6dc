-- What is stored of a polynomial.
use Rattle.std.proofs.Common.{◌≡◌, ℕ, List, [], ◌∷◌, length, Bool, true, false, ◌&&◌, ◌==◌, not, nat_lt, nat_le, Option, Some, None, IsSome, IfSome, IsTrue, ◌↔◌, ◌≤◌, if◌then◌else◌, refl, ap, ◌∙◌, true≢false}
use Rattle.std.specs.List.{list_all}
use Rattle.std.proofs.lemmas.Bool.{le-leb}
use Rattle.rinv_algebra.specs.Normal.{is_normal_term, descends}
use Rattle.rinv_algebra.specs.Residue.{residue_ops}
use Rattle.rinv_algebra.specs.Monomial.{total_degree, max_degree}
use Rattle.rinv_algebra.specs.Polynomial.{Term}
use Rattle.rinv_defs.specs.System.{Poly}
use Rattle.rinv_defs.specs.Invariant.{Fraction}
use Rattle.rinv_form.specs.Forms.{kept, each_stored, is_written_term, is_stored, are_stored, is_stored_fraction}
use Rattle.rinv_form.proofs.Kept.{kept-some, kept-none, kept_from}
use Rattle.rinv_form.proofs.StoredLists.{each_stored-kept, counted_stored-kept}

-- a test fails where a weaker one does, part by part
fails_too : (a b c d : Bool) → (b ≡ false → a ≡ false) → (d ≡ false → c ≡ false) → (b && d) ≡ false → (a && c) ≡ false
fails_too a false c d f g e = rw (f refl) refl
fails_too true true c d f g e = g e
fails_too false true c d f g e = refl

-- where a weaker test fails of some element, so does the stronger
list_all_weaker : {A : Type 0} (p q : A → Bool) → ((x : A) → q x ≡ false → p x ≡ false) → (xs : List A) → list_all q xs ≡ false → list_all p xs ≡ false
list_all_weaker p q weaker [] e = absurd (true≢false e)
list_all_weaker p q weaker (x ∷ xs) e = fails_too (p x) (q x) (list_all p xs) (list_all q xs) (weaker x) (list_all_weaker p q weaker xs) e

-- a term's test fails with its last two parts
four : (a b c d : Bool) → (c && d) ≡ false → (a && b && c && d) ≡ false
four true true c d e = e
four true false c d e = refl
four false b c d e = refl

-- a term with another number of exponents, or of too high a degree, is not stored
not_written : (p v : ℕ) (f : Poly) → list_all (is_written_term v) f ≡ false → is_stored p v f ≡ false
not_written p v f e =
    ap (λ b. b && descends f) (list_all_weaker (is_normal_term (residue_ops p) _ v) (is_written_term v) (λ (t : Term ℕ). four (nat_lt t.1 p) (not ((residue_ops p).same t.1 0)) (length t.0 == v) (nat_le (total_degree t.0) max_degree)) f e)

-- what is stored of terms that are as written
pub is_stored-some : (p v w : ℕ) (f g ts : Poly) (o : Option Poly) → w ≡ v → g ≡ f → Some ts ≡ each_stored (λ t. kept (is_written_term w t) t) g
    → IfSome o (λ h. h ≡ ts) → (IsSome o ↔ IsTrue (is_stored p v ts)) → o ≡ kept (is_stored p v f) f
is_stored-some p v w f g ts o ew eg read is there =
    let same : ts ≡ f = kept-some _ g ts (read ∙ each_stored-kept _ (is_written_term w) (λ t. refl) g) ∙ eg in
    kept_from o _ ts is there ∙ ap (λ h. kept (is_stored p v h) h) same

-- nothing is stored where a term is not as written
pub is_stored-none : (p v w : ℕ) (f g : Poly) → w ≡ v → g ≡ f → None ≡ each_stored (λ t. kept (is_written_term w t) t) g → None ≡ kept (is_stored p v f) f
is_stored-none p v w f g ew eg read =
    let fails : list_all (is_written_term w) g ≡ false = kept-none _ g (read ∙ each_stored-kept _ (is_written_term w) (λ t. refl) g) in
    rw (not_written p v f (rw (← ew, ← eg) fails)) refl

-- the lists of a format, whose ring has these coefficients and so many variables
module _ (p v q w : ℕ) (eq : q ≡ p) (ew : w ≡ v) where
  -- those that are all of the ring
  pub polynomials-kept : (fs : List Poly) → each_stored (λ f. kept (is_stored q w f) f) fs ≡ kept (list_all (is_stored p v) fs) fs
  polynomials-kept fs = rw (eq, ew) (each_stored-kept _ (is_stored p v) (λ f. refl) fs)

  -- the same of at most 64
  pub generators-kept : (fs gs : List Poly) → gs ≡ fs → length gs ≤ 64 → each_stored (λ f. kept (is_stored q w f) f) fs ≡ kept (nat_le (length fs) 64 && list_all (is_stored p v) fs) fs
  generators-kept fs gs e few = rw (← e, polynomials-kept gs, le-leb _ _ few) refl

  -- the same of so many
  pub counted-kept : (count : ℕ) (fs : List Poly)
      → (if length fs == count then each_stored (λ f. kept (is_stored q w f) f) fs else None) ≡ kept (are_stored p v count fs) fs
  counted-kept count fs = rw (eq, ew) (counted_stored-kept (length fs == count) _ (is_stored p v) (λ f. refl) fs)

  -- fractions
  pub fractions-kept : (fs : List Fraction) → each_stored (λ f. kept (is_stored_fraction q w f) f) fs ≡ kept (list_all (is_stored_fraction p v) fs) fs
  fractions-kept fs = rw (eq, ew) (each_stored-kept _ (is_stored_fraction p v) (λ f. refl) fs)

  -- so many lists of so many
  pub cofactors-kept : (size count : ℕ) (lists : List (List Poly))
      → (if length lists == count then each_stored (λ fs. if length fs == size then each_stored (λ f. kept (is_stored q w f) f) fs else None) lists else None)
      ≡ kept (length lists == count && list_all (are_stored p v size) lists) lists
  cofactors-kept size count lists = counted_stored-kept (length lists == count) _ (are_stored p v size) (counted-kept size) lists

  -- one polynomial
  pub polynomial-kept : (f : Poly) → kept (is_stored q w f) f ≡ kept (is_stored p v f) f
  polynomial-kept f = rw (eq, ew) refl
