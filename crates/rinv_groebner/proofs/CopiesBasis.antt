-- Copies of a Gröbner basis in disjoint sets of variables are together a Gröbner basis: a pair within a copy is that of the basis, moved,
-- and the leading monomials of two copies have no variable in common.
--   behind-below         monomials with their variables counted from k stand in grevlex as without
--   Copied               the element of the basis that stands at a place of the copies
--   copies-basis         the theorem
use Rattle.std.proofs.Common.{◌≡◌, ℕ, ◌+◌, ◌*◌, ◌<◌, ◌≤◌, true, List, [], ◌++◌, replicate, get_or, sym, ◌∙◌, ap, ap₂, subst, subst₂, inl, inr, arith, IsTrue}
use Rattle.std.proofs.lemmas.Bool.{cases_order}
use Rattle.std.proofs.lemmas.Nat.{row_fits}
use mathlib.Core.Bool.{Bool-set}
use Rattle.rinv_algebra.specs.Ring.{RingOps, RingLaws, FieldLaws}
use Rattle.rinv_algebra.specs.Monomial.{lcm, coprime}
use Rattle.rinv_algebra.specs.Order.{grevlex}
use Rattle.rinv_algebra.specs.Polynomial.{Polynomial, poly_ops, is_zero, past}
use Rattle.rinv_algebra.specs.Leading.{leading_monomial, s_polynomial}
use Rattle.rinv_theory.proofs.Classes.{class}
use Rattle.rinv_theory.proofs.Monoid.{Monomial, monomial, monomial_ind}
use Rattle.rinv_theory.proofs.Polynomials.{polynomials}
use Rattle.rinv_theory.proofs.Places.{behind, behind-list, behind-mul}
use Rattle.rinv_theory.proofs.Variables.{IsFront, past-class}
use Rattle.rinv_groebner.specs.Orders.{AreInVariables}
use Rattle.rinv_groebner.specs.Basis.{AreMembers, IsGroebnerBasis}
use Rattle.rinv_groebner.specs.Copies.{copies}
use Rattle.rinv_groebner.proofs.Ascending.{has_at, place_of}
use Rattle.rinv_groebner.proofs.Elements.{IsBelow}
use Rattle.rinv_groebner.proofs.GoodPairs.{is_below, below-from, below-to}
use Rattle.rinv_groebner.proofs.Pairs.{IsGood, good_sym}
use Rattle.rinv_groebner.proofs.Compared.{all_monomials, below_less, less_below, nonzero-front}
use Rattle.rinv_groebner.proofs.ListElements.{AllFirst, Place, list_elements, list-leads, all_first}
use Rattle.rinv_groebner.proofs.KnownOrders.{grevlex_orders}
use Rattle.rinv_groebner.proofs.ListBases.{good-list_basis}
use Rattle.rinv_groebner.proofs.IdealBases.{list_basis, IsListBasis}
use Rattle.rinv_groebner.proofs.MemberLists.{member_trans}
use Rattle.rinv_groebner.proofs.PairsOfLists.{quotients-good, coprime-good, lcm_front}
use Rattle.rinv_groebner.proofs.PastMonomials.{lcm-past, grevlex-past, behind_front, coprime_behind}
use Rattle.rinv_groebner.proofs.PastPolynomials.{is_zero-past, leading_monomial-past, s_polynomial-past}
use Rattle.rinv_groebner.proofs.BasisPairs.{s_polynomial-multiples, multiples-image}
use Rattle.rinv_groebner.proofs.CopiesLists.{copy_of, in_copies, copy_fits, copies-in_variables, copies-members}
use Rattle.rinv_groebner.proofs.Reducible.{place-inside}

abbrev below : (n : ℕ) → Monomial → Monomial → Type 0
below n a b = (all_monomials grevlex n (grevlex_orders n)).below a b

-- what is below in v variables is so with its variables counted from k
behind-below : (k v n : ℕ) → k + v ≤ n → (a b : Monomial) → IsFront v a → IsFront v b → below v a b → below n (behind k a) (behind k b)
behind-below k v n low a b fa fb h = below-from (all_monomials grevlex n (grevlex_orders n)) (behind k b) (behind k a) (tested a b fa fb h)
  where
    moved : (a : List ℕ) → IsFront v (monomial a) → IsFront n (monomial (replicate k 0 ++ a))
    moved a f = subst (IsFront n) (behind-list k a) (behind_front k v n low (monomial a) f)

    at_lists : (a b : List ℕ) → IsFront v (monomial a) → IsFront v (monomial b) → below v (monomial a) (monomial b) → below n (behind k (monomial a)) (behind k (monomial b))
    at_lists a b fa fb h = subst₂ (below n) (sym (behind-list k a)) (sym (behind-list k b))
        (less_below grevlex n (grevlex_orders n) (replicate k 0 ++ a) (replicate k 0 ++ b) (moved a fa) (moved b fb) (grevlex-past k a b ∙ below_less grevlex v (grevlex_orders v) a b fa fb h))

    tested : (a b : Monomial) → IsFront v a → IsFront v b → below v a b → is_below (all_monomials grevlex n (grevlex_orders n)) (behind k b) (behind k a) ≡ true
    tested = monomial_ind (λ a. (b : Monomial) → IsFront v a → IsFront v b → below v a b → is_below (all_monomials grevlex n (grevlex_orders n)) (behind k b) (behind k a) ≡ true) (λ a. hlevel Bool-set)
        (λ a. monomial_ind (λ b. IsFront v (monomial a) → IsFront v b → below v (monomial a) b → is_below (all_monomials grevlex n (grevlex_orders n)) (behind k b) (behind k (monomial a)) ≡ true) (λ b. hlevel Bool-set)
        (λ b fa fb h. below-to (all_monomials grevlex n (grevlex_orders n)) (behind k (monomial b)) (behind k (monomial a)) (at_lists a b fa fb h)))

module _ {E : Type 0} (o : RingOps E) (l : RingLaws o) (field : FieldLaws o) (c v n : ℕ) (fs hs : List (Polynomial E)) (in_v : AreInVariables v hs) (b : IsGroebnerBasis o grevlex v fs hs) where
  abbrev all : List (Polynomial E)
  all = copies c v hs

  abbrev first : AllFirst o l v hs
  first = all_first o l v hs in_v

  abbrev all_in : AllFirst o l (c * v + n) all
  all_in = all_first o l (c * v + n) all (copies-in_variables c v n hs in_v)

  abbrev basis : IsListBasis o l v grevlex (grevlex_orders v) fs hs
  basis = list_basis o l v grevlex (grevlex_orders v) fs hs field first b.ideal.0 b.divided

  abbrev Good : Place o all → Place o all → Type 0
  Good x y = IsGood (list_elements o l field grevlex (c * v + n) (grevlex_orders (c * v + n)) all all_in) x y

  -- the element of the basis that stands at a place of the copies, in the copy of this number
  record Copied (x : Place o all) : Type 0 where
    pub copy : ℕ
    pub inside : copy < c
    pub place : Place o hs
    pub whole : get_or all x.0 [] ≡ past (copy * v) (get_or hs place.0 [])

  copied : (x : Place o all) → Copied x
  copied x =
      let (j, low, h, m, e) = copy_of c v hs (has_at [] all x.0 (place-inside o grevlex all x)) in
      let (k, inside, i) = place_of [] hs m in
      let whole : get_or all x.0 [] ≡ past (j * v) (get_or hs k []) = e ∙ ap (past (j * v)) (sym i) in
      record { copy = j; inside = low; place = (k, sym (is_zero-past o (j * v) (get_or hs k [])) ∙ ap (is_zero o) (sym whole) ∙ x.1); whole = whole }

  -- the place of an element's copy
  copy_at : (j : ℕ) → j < c → (p : Place o hs) → (x : Place o all) × (past (j * v) (get_or hs p.0 []) ≡ get_or all x.0 [])
  copy_at j low p =
      let (k, inside, e) = place_of [] all (in_copies c v hs j low (has_at [] hs p.0 (place-inside o grevlex hs p))) in
      ((k, ap (is_zero o) e ∙ is_zero-past o (j * v) (get_or hs p.0 []) ∙ p.1), sym e)

  abbrev lead : Place o hs → List ℕ
  lead p = leading_monomial o grevlex (get_or hs p.0 [])

  -- its leading monomial
  lead-copied : (j : ℕ) (p : Place o hs) (x : Place o all) → get_or all x.0 [] ≡ past (j * v) (get_or hs p.0 []) → leading_monomial o grevlex (get_or all x.0 []) ≡ replicate (j * v) 0 ++ lead p
  lead-copied j p x e = ap (leading_monomial o grevlex) e ∙ leading_monomial-past o (j * v) l (get_or hs p.0 []) p.1

  -- a pair within one copy
  within : (j : ℕ) → j < c → (p q : Place o hs) (x y : Place o all) → get_or all x.0 [] ≡ past (j * v) (get_or hs p.0 []) → get_or all y.0 [] ≡ past (j * v) (get_or hs q.0 []) → Good x y
  within j low p q x y e e' = quotients-good o l field grevlex (c * v + n) (grevlex_orders (c * v + n)) all all_in x y
      (subst₂ (IsBelow (list_elements o l field grevlex (c * v + n) (grevlex_orders (c * v + n)) all all_in))
      (behind-list (j * v) (lcm (lead p) (lead q)) ∙ ap (λ (a : List ℕ). monomial a) (sym (ap₂ lcm (lead-copied j p x e) (lead-copied j q y e') ∙ lcm-past (j * v) (lead p) (lead q))))
      (sym (past-class o l (j * v) s) ∙ ap (class (poly_ops o)) (sym (ap₂ (s_polynomial o grevlex) e e' ∙ s_polynomial-past o (j * v) l _ _ p.1 q.1)))
      (multiples-image (polynomials o l) (behind (j * v)) (behind-mul (j * v))
      (list_elements o l field grevlex v (grevlex_orders v) hs first).element (list_elements o l field grevlex v (grevlex_orders v) hs first).lead
      (list_elements o l field grevlex (c * v + n) (grevlex_orders (c * v + n)) all all_in).element (list_elements o l field grevlex (c * v + n) (grevlex_orders (c * v + n)) all all_in).lead
      (λ r. (copy_at j low r).0) (λ r. sym (past-class o l (j * v) (get_or hs r.0 [])) ∙ ap (class (poly_ops o)) (copy_at j low r).1)
      (λ r. behind-list (j * v) (lead r) ∙ ap (λ (a : List ℕ). monomial a) (sym (lead-copied j r (copy_at j low r).0 (sym (copy_at j low r).1))))
      (λ m lower. behind-below (j * v) v (c * v + n) (copy_fits c v n j low) m (monomial (lcm (lead p) (lead q))) lower.0 (lcm_front o l field grevlex v (grevlex_orders v) hs first p q) lower.1)
      (s_polynomial-multiples o l field grevlex v (grevlex_orders v) fs hs first basis b.ideal.0 p q)))
    where
      s : Polynomial E
      s = s_polynomial o grevlex (get_or hs p.0 []) (get_or hs q.0 [])

  -- a pair of two copies
  between : (i j : ℕ) → i < j → (p q : Place o hs) (x y : Place o all) → get_or all x.0 [] ≡ past (i * v) (get_or hs p.0 []) → get_or all y.0 [] ≡ past (j * v) (get_or hs q.0 []) → Good x y
  between i j low p q x y e e' = coprime-good o l field grevlex (c * v + n) (grevlex_orders (c * v + n)) all all_in x y
      (subst₂ (λ a b. IsTrue (coprime a b)) (sym (lead-copied i p x e)) (sym (lead-copied j q y e'))
      (coprime_behind (j * v) (replicate (i * v) 0 ++ lead p) (lead q) (subst (IsFront (j * v)) (behind-list (i * v) (lead p)) (behind_front (i * v) v (j * v) (row_fits i v j v low (omega arith)) (monomial (lead p)) front))))
    where
      front : IsFront v (monomial (lead p))
      front = nonzero-front o l v (first p.0) (monomial (lead p)) (list-leads o l field grevlex v (grevlex_orders v) hs first p).nonzero

  good : (x y : Place o all) → Good x y
  good x y = go (copied x) (copied y)
    where
      go : Copied x → Copied y → Good x y
      go s t = elim (cases_order s.copy t.copy) [
        | inl same ↦ within s.copy s.inside s.place t.place x y s.whole (t.whole ∙ ap (λ (j : ℕ). past (j * v) (get_or hs t.place.0 [])) (sym same))
        | inr (inl below) ↦ between s.copy t.copy below s.place t.place x y s.whole t.whole
        | inr (inr above) ↦ good_sym (list_elements o l field grevlex (c * v + n) (grevlex_orders (c * v + n)) all all_in) y x (between t.copy s.copy above t.place s.place y x t.whole s.whole)
      ]

  -- the copies of a Gröbner basis are one of the copies of the ideal
  pub copies-basis : IsGroebnerBasis o grevlex (c * v + n) (copies c v fs) all
  copies-basis = record {
    ideal = (copies-members o l c v fs hs b.ideal.0, back);
    divided = λ f f_in m z. (good-list_basis o l field grevlex (c * v + n) (grevlex_orders (c * v + n)) all all_in good).divided f f_in (member_trans o l all (copies c v fs) f back m) z;
  }
    where
      back : AreMembers o all (copies c v fs)
      back = copies-members o l c v hs fs b.ideal.1
