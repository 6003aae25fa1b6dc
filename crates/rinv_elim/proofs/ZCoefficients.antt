-- The coefficient of a monomial in Z, in a polynomial without the group's variables, as it is made.
--   part-low             a part of a monomial has no greater degree
--   coefficient-more, coefficient-passed, coefficient-kept    the coefficient with one term more
--   term-length, z-length    exponents of a term, and its monomial in Z
--   same-front           terms with one monomial in Z agree in all variables but the space's
--   coefficient-ordered, coefficient-normal    it is a polynomial in normal form
use Rattle.std.proofs.Common.{◌≡◌, ℕ, zero, suc, ◌+◌, ◌≤◌, ◌<◌, Bool, true, false, cond, List, [], ◌∷◌, ◌++◌, append-nil, length, length-take, length-drop, map, filter, take, drop, get_or, replicate, sum, nat_lt, refl, sym, ◌∙◌, ap, subst, arith, All, IsTrue}
use Rattle.std.specs.Cmp.{nat_cmp_is}
use Rattle.std.specs.Ordering.{nat_cmp, ordering_then}
use Rattle.std.specs.declared.cmp.Ordering.{Ordering}
use Rattle.std.specs.declared.cmp.Ordering.TheVariants.{Less, Equal}
use Rattle.std.proofs.lemmas.Bool.{eqb-true}
use Rattle.std.proofs.lemmas.List.{drop-drop}
use Rattle.std.proofs.lemmas.List.Elements.{All-nil, All-cons, All-head, All-tail}
use Rattle.std.proofs.lemmas.List.Kept.{AllPairs-cons}
use Rattle.std.proofs.lemmas.List.Sums.{sum_by-cons}
use Rattle.rinv_algebra.specs.Residue.{residue_ops}
use Rattle.rinv_algebra.specs.Monomial.{same_monomial, total_degree}
use Rattle.rinv_algebra.specs.Normal.{IsNormal}
use Rattle.rinv_algebra.specs.Order.{lex}
use Rattle.rinv_algebra.specs.Polynomial.{Term}
use Rattle.rinv_algebra.proofs.MonomialLaws.{same_monomial-of_length}
use Rattle.rinv_groebner.specs.Elimination.{is_free}
use Rattle.rinv_defs.specs.System.{System, Poly, group_count, space_count}
use Rattle.rinv_defs.specs.RelationConditions.{z_part}
use Rattle.rinv_poly.proofs.Forms.{IsNormalTerm, IsOrdered, Below, ordered-from_normal, normal-from_ordered, ordered-nil, descending-head, descending-tail}
use Rattle.rinv_tails.proofs.Tails.{take-at}
use Rattle.rinv_reduction.specs.Localised.{all_count, z_coefficient}

-- ---- parts of a monomial

drop-sum : (k : ℕ) (m : List ℕ) → sum (drop k m) ≤ sum m
drop-sum zero m = omega arith
drop-sum (suc k) [] = omega arith
drop-sum (suc k) (x ∷ m) = let rest = drop-sum k m in omega (arith, rest, sum_by-cons (λ (n : ℕ). n) x m)

take-sum : (n : ℕ) (m : List ℕ) → sum (take n m) ≤ sum m
take-sum zero m = omega arith
take-sum (suc n) [] = omega arith
take-sum (suc n) (x ∷ m) = let rest = take-sum n m in omega (arith, rest, sum_by-cons (λ (n : ℕ). n) x m, sum_by-cons (λ (n : ℕ). n) x (take n m))

pub part-low : (n k : ℕ) (m : List ℕ) → total_degree (take n (drop k m)) ≤ total_degree m
part-low n k m = let a = take-sum n (drop k m) in let b = drop-sum k m in omega (arith, a, b)

-- exponents whose sum is zero
pub zeros : (m : List ℕ) → sum m ≡ 0 → m ≡ replicate (length m) 0
zeros [] e = refl
zeros (x ∷ m) e =
    let s = sum_by-cons (λ (n : ℕ). n) x m in
    let z : x ≡ 0 = omega (arith, s, e) in
    let rest : sum m ≡ 0 = omega (arith, s, e) in
    rw z (ap (λ (r : List ℕ). 0 ∷ r) (zeros m rest))

-- a monomial without the first k variables has k zeros in front
pub free-zeros : (k : ℕ) (m : List ℕ) → k ≤ length m → IsTrue (is_free k m) → take k m ≡ replicate k 0
free-zeros k m low free =
    let l = length-take k m in
    let e : length (take k m) ≡ k = omega (arith, l, low) in
    subst (λ (j : ℕ). take k m ≡ replicate j 0) e (zeros (take k m) (eqb-true (sum (take k m)) 0 free))

-- where the first n exponents agree, the others decide
lex-behind : (n : ℕ) (a b : List ℕ) → take n a ≡ take n b → lex a b ≡ lex (drop n a) (drop n b)
lex-behind zero a b e = refl
lex-behind (suc n) [] [] e = refl
lex-behind (suc n) [] (y ∷ b) e = absurd (let c : [] ≡ y ∷ take n b = e in cc)
lex-behind (suc n) (x ∷ a) [] e = absurd (let c : x ∷ take n a ≡ [] = e in cc)
lex-behind (suc n) (x ∷ a) (y ∷ b) e =
    let c : x ∷ take n a ≡ y ∷ take n b = e in
    let p : x ≡ y = cc in
    let q : take n a ≡ take n b = cc in
    rw p (ap (λ (o : Ordering). ordering_then o (lex a b)) (tied y) ∙ lex-behind n a b q)
  where
    tied : (y : ℕ) → nat_cmp y y ≡ Equal
    tied y = sym (nat_cmp_is y y Equal refl)

-- ---- the coefficient

module _ (s : System) where
  abbrev behind : ℕ
  behind = group_count s + space_count s

  abbrev free : Term ℕ → Type 0
  free t = IsTrue (is_free (group_count s) t.0)

  -- the term of the coefficient that a term gives
  abbrev pub given : List ℕ → Term ℕ → Poly
  given z t = cond (same_monomial (z_part s t.0) z) ((drop (group_count s + space_count s) t.0, t.1) ∷ []) []

  coefficient-append : (f g : Poly) (z : List ℕ) → z_coefficient s (f ++ g) z ≡ z_coefficient s f z ++ z_coefficient s g z
  coefficient-append [] g z = refl
  coefficient-append (t ∷ f) g z = go (same_monomial (z_part s t.0) z) (coefficient-append f g z)
    where
      at : Bool → Poly → Poly
      at b h = map {B = Term ℕ} (λ (u : Term ℕ). (drop behind u.0, u.1)) (cond b (t ∷ filter (λ (u : Term ℕ). same_monomial (z_part s u.0) z) h) (filter (λ (u : Term ℕ). same_monomial (z_part s u.0) z) h))

      go : (b : Bool) → z_coefficient s (f ++ g) z ≡ z_coefficient s f z ++ z_coefficient s g z → at b (f ++ g) ≡ at b f ++ z_coefficient s g z
      go true rest = ap (λ (h : Poly). (drop behind t.0, t.1) ∷ h) rest
      go false rest = rest

  -- one term more
  pub coefficient-more : (h : Poly) (z : List ℕ) (k : ℕ) (t : Term ℕ) → k < length h → t ≡ get_or h k t → z_coefficient s (take (k + 1) h) z ≡ z_coefficient s (take k h) z ++ given z t
  coefficient-more h z k t low here = ap (λ (f : Poly). z_coefficient s f z) (take-at h k t low here) ∙ coefficient-append (take k h) (t ∷ []) z ∙ ap (λ (f : Poly). z_coefficient s (take k h) z ++ f) (last (same_monomial (z_part s t.0) z))
    where
      last : (b : Bool) → map {B = Term ℕ} (λ (u : Term ℕ). (drop behind u.0, u.1)) (cond b (t ∷ []) []) ≡ cond b ((drop behind t.0, t.1) ∷ []) []
      last true = refl
      last false = refl

  pub coefficient-passed : (h : Poly) (z : List ℕ) (k : ℕ) (t : Term ℕ) → k < length h → t ≡ get_or h k t → (f : Poly) → f ≡ z_coefficient s (take k h) z → same_monomial (z_part s t.0) z ≡ false → f ≡ z_coefficient s (take (k + 1) h) z
  coefficient-passed h z k t low here f so_far off =
      so_far ∙ sym (append-nil (z_coefficient s (take k h) z)) ∙ ap (λ (b : Bool). z_coefficient s (take k h) z ++ cond b ((drop behind t.0, t.1) ∷ []) []) (sym off) ∙ sym (coefficient-more h z k t low here)

  pub coefficient-kept : (h : Poly) (z : List ℕ) (k : ℕ) (t : Term ℕ) → k < length h → t ≡ get_or h k t → (f more : Poly) (m : List ℕ) → f ≡ z_coefficient s (take k h) z → same_monomial (z_part s t.0) z ≡ true → m ≡ drop (group_count s + space_count s) t.0 → more ≡ f ++ (m, t.1) ∷ [] → more ≡ z_coefficient s (take (k + 1) h) z
  coefficient-kept h z k t low here f more m so_far on is e =
      e ∙ ap (λ (g : Poly). g ++ (m, t.1) ∷ []) so_far ∙ ap (λ (x : List ℕ). z_coefficient s (take k h) z ++ (x, t.1) ∷ []) is
      ∙ ap (λ (b : Bool). z_coefficient s (take k h) z ++ cond b ((drop behind t.0, t.1) ∷ []) []) (sym on) ∙ sym (coefficient-more h z k t low here)

  -- ---- in normal form

  pub term-length : (h : Poly) → IsNormal (residue_ops s.p) (λ c. nat_lt c s.p) (all_count s) h → (k : ℕ) (t : Term ℕ) → k < length h → t ≡ get_or h k t → length t.0 ≡ all_count s
  term-length h normal k t low here = subst (λ (u : Term ℕ). length u.0 ≡ all_count s) (sym here) ((ordered-from_normal (residue_ops s.p) (λ c. nat_lt c s.p) (all_count s) h normal).terms k t low).vars

  pub z-length : (m : List ℕ) → length m ≡ all_count s → length (z_part s m) ≡ space_count s
  z-length m many = let a = length-take (space_count s) (drop (group_count s) m) in let b = length-drop (group_count s) m in omega (arith, a, b, many)

  z-is : (m z : List ℕ) → length m ≡ all_count s → length z ≡ space_count s → IsTrue (same_monomial (z_part s m) z) → z_part s m ≡ z
  z-is m z many few e =
      let a = length-take (space_count s) (drop (group_count s) m) in
      let b = length-drop (group_count s) m in
      same_monomial-of_length (z_part s m) z (omega (arith, a, b, many, few)) e

  drop-twice : (m : List ℕ) → drop (space_count s) (drop (group_count s) m) ≡ drop behind m
  drop-twice m = drop-drop (space_count s) (group_count s) m

  -- terms that agree in Z are ordered as their coefficients' are
  pub lex-spaces : (a b z : List ℕ) → length a ≡ all_count s → length b ≡ all_count s → length z ≡ space_count s → IsTrue (is_free (group_count s) a) → IsTrue (is_free (group_count s) b) → IsTrue (same_monomial (z_part s a) z) → IsTrue (same_monomial (z_part s b) z)
      → lex a b ≡ lex (drop (group_count s + space_count s) a) (drop (group_count s + space_count s) b)
  lex-spaces a b z la lb lz fa fb sa sb =
      lex-behind (group_count s) a b (free-zeros (group_count s) a (omega (arith, la)) fa ∙ sym (free-zeros (group_count s) b (omega (arith, lb)) fb))
      ∙ lex-behind (space_count s) (drop (group_count s) a) (drop (group_count s) b) (z-is a z la lz sa ∙ sym (z-is b z lb lz sb))
      ∙ ap (λ (r : List ℕ). lex r (drop (space_count s) (drop (group_count s) b))) (drop-twice a) ∙ ap (lex (drop behind a)) (drop-twice b)

  module _ (z : List ℕ) (few : length z ≡ space_count s) where
    abbrev Whole : Term ℕ → Type 0
    Whole t = IsNormalTerm (residue_ops s.p) (λ c. nat_lt c s.p) (all_count s) t

    abbrev Part : Term ℕ → Type 0
    Part t = IsNormalTerm (residue_ops s.p) (λ c. nat_lt c s.p) (space_count s) t

    part_of : (t : Term ℕ) → Whole t → Part (drop behind t.0, t.1)
    part_of t w = record {
      coefficient = w.coefficient;
      nonzero = w.nonzero;
      vars = let e = length-drop behind t.0 in omega (arith, e, w.vars);
      low = let e = drop-sum behind t.0 in omega (arith, e, w.low);
    }

    under : (t : Term ℕ) → Whole t → free t → IsTrue (same_monomial (z_part s t.0) z) → (h : Poly) → Below t.0 h → All Whole h → All free h → Below (drop behind t.0) (z_coefficient s h z)
    under t w f e [] below terms frees = All-nil (λ u. lex u.0 (drop behind t.0) ≡ Less)
    under t w f e (u ∷ h) below terms frees = go (same_monomial (z_part s u.0) z) refl (under t w f e h (All-tail (λ (u : Term ℕ). lex u.0 t.0 ≡ Less) u h below) (All-tail Whole u h terms) (All-tail free u h frees))
      where
        go : (b : Bool) → same_monomial (z_part s u.0) z ≡ b → Below (drop behind t.0) (z_coefficient s h z)
            → Below (drop behind t.0) (map {B = Term ℕ} (λ (u : Term ℕ). (drop behind u.0, u.1)) (cond b (u ∷ filter (λ (u : Term ℕ). same_monomial (z_part s u.0) z) h) (filter (λ (u : Term ℕ). same_monomial (z_part s u.0) z) h)))
        go false off rest = rest
        go true on rest = All-cons (λ (u : Term ℕ). lex u.0 (drop behind t.0) ≡ Less) (drop behind u.0, u.1) (z_coefficient s h z)
            (sym (lex-spaces u.0 t.0 z (All-head Whole u h terms).vars w.vars few (All-head free u h frees) f on e) ∙ All-head (λ (u : Term ℕ). lex u.0 t.0 ≡ Less) u h below) rest

    pub coefficient-ordered : (h : Poly) → IsOrdered (residue_ops s.p) (λ c. nat_lt c s.p) (all_count s) h → All (λ t. IsTrue (is_free (group_count s) t.0)) h → IsOrdered (residue_ops s.p) (λ c. nat_lt c s.p) (space_count s) (z_coefficient s h z)
    coefficient-ordered [] o frees = ordered-nil (residue_ops s.p) (λ c. nat_lt c s.p) (space_count s)
    coefficient-ordered (t ∷ h) o frees = go (same_monomial (z_part s t.0) z) refl (coefficient-ordered h (record { terms = All-tail Whole t h o.terms; descending = descending-tail t h o.descending }) (All-tail free t h frees))
      where
        go : (b : Bool) → same_monomial (z_part s t.0) z ≡ b → IsOrdered (residue_ops s.p) (λ c. nat_lt c s.p) (space_count s) (z_coefficient s h z)
            → IsOrdered (residue_ops s.p) (λ c. nat_lt c s.p) (space_count s) (map {B = Term ℕ} (λ (u : Term ℕ). (drop behind u.0, u.1)) (cond b (t ∷ filter (λ (u : Term ℕ). same_monomial (z_part s u.0) z) h) (filter (λ (u : Term ℕ). same_monomial (z_part s u.0) z) h)))
        go false off rest = rest
        go true on rest = record {
          terms = All-cons Part (drop behind t.0, t.1) (z_coefficient s h z) (part_of t (All-head Whole t h o.terms)) rest.terms;
          descending = AllPairs-cons (λ s u. lex u.0 s.0 ≡ Less) (drop behind t.0, t.1) (z_coefficient s h z)
              (under t (All-head Whole t h o.terms) (All-head free t h frees) on h (descending-head t h o.descending) (All-tail Whole t h o.terms) (All-tail free t h frees)) rest.descending;
        }

    pub coefficient-normal : (h : Poly) → IsNormal (residue_ops s.p) (λ c. nat_lt c s.p) (all_count s) h → All (λ t. IsTrue (is_free (group_count s) t.0)) h → IsNormal (residue_ops s.p) (λ c. nat_lt c s.p) (space_count s) (z_coefficient s h z)
    coefficient-normal h normal frees = normal-from_ordered (residue_ops s.p) (λ c. nat_lt c s.p) (space_count s) (z_coefficient s h z) (coefficient-ordered h (ordered-from_normal (residue_ops s.p) (λ c. nat_lt c s.p) (all_count s) h normal) frees)
