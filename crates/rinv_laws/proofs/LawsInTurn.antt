-- The laws tested one after another.
--   TestedUpTo                             the laws before a place hold, and these are the quotients of their parts
--   tested-none, tested-more, tested-hold, tested-all    one law more; all laws
--   rank-listed                            the place of a law in the list of the names
use Rattle.std.proofs.Common.{◌≡◌, ℕ, zero, suc, ◌+◌, ◌<◌, List, [], ◌∷◌, ◌++◌, length, get_or, refl, sym, ap, ◌∙◌, subst, inl, inr, arith}
use Rattle.std.proofs.lemmas.Bool.{cases_lt}
use Rattle.std.proofs.lemmas.List.{length-append, get_or_append_left, get_or-append-add}
use Rattle.rinv_buch.specs.Kinds.{Found}
use Rattle.rinv_defs.specs.System.{System, Poly}
use Rattle.rinv_defs.specs.Laws.{Law, all_laws, LawHolds, AllLawsHold}
use Rattle.rinv_defs.specs.Laws.Law.{L1, L2, L3, L4, L5, L6, A1, A2}
use Rattle.rinv_parts.specs.declared.law.LawName.{LawName}
use Rattle.rinv_parts.specs.declared.law.LawName.TheVariants.{L1 as N1, L2 as N2, L3 as N3, L4 as N4, L5 as N5, L6 as N6, A1 as M1, A2 as M2}
use Rattle.rinv_parts.specs.LawNames.{law_of, rank}
use Rattle.rinv_laws.specs.Copied.{AreQuotients, AreAllQuotients}

-- the law at a place
law-at : (law : Law) → get_or all_laws (rank law) L1 ≡ law
law-at L1 = refl
law-at L2 = refl
law-at L3 = refl
law-at L4 = refl
law-at L5 = refl
law-at L6 = refl
law-at A1 = refl
law-at A2 = refl

pub rank-low : (law : Law) → rank law < 8
rank-low L1 = omega arith
rank-low L2 = omega arith
rank-low L3 = omega arith
rank-low L4 = omega arith
rank-low L5 = omega arith
rank-low L6 = omega arith
rank-low A1 = omega arith
rank-low A2 = omega arith

pub same-rank : (a b : Law) → rank a ≡ rank b → a ≡ b
same-rank a b e = sym (law-at a) ∙ ap (λ (k : ℕ). get_or all_laws k L1) e ∙ law-at b

-- the names in their order
abbrev pub names : List LawName
names = N1 ∷ N2 ∷ N3 ∷ N4 ∷ N5 ∷ N6 ∷ M1 ∷ M2 ∷ []

pub rank-listed : (k : ℕ) → k < 8 → rank (law_of (get_or names k N1)) ≡ k
rank-listed zero low = refl
rank-listed (suc zero) low = refl
rank-listed (suc (suc zero)) low = refl
rank-listed (suc (suc (suc zero))) low = refl
rank-listed (suc (suc (suc (suc zero)))) low = refl
rank-listed (suc (suc (suc (suc (suc zero))))) low = refl
rank-listed (suc (suc (suc (suc (suc (suc zero)))))) low = refl
rank-listed (suc (suc (suc (suc (suc (suc (suc zero))))))) low = refl
rank-listed (suc (suc (suc (suc (suc (suc (suc (suc k)))))))) low = absurd (omega (arith, low))

-- the laws before this place hold, and these are the quotients of their parts
pub record TestedUpTo (s : System) (found : Found ℕ) (k : ℕ) (lists : List (List (List Poly))) : Type 0 where
  pub number : length lists ≡ k
  pub hold : (law : Law) → rank law < k → LawHolds s law
  pub quotients : (law : Law) → rank law < k → AreQuotients s found law (get_or lists (rank law) [])

module _ (s : System) (found : Found ℕ) where
  pub tested-none : TestedUpTo s found 0 []
  tested-none = record { number = refl; hold = λ law low. absurd (omega (arith, low)); quotients = λ law low. absurd (omega (arith, low)) }

  -- one law more
  pub tested-more : (k : ℕ) (lists : List (List (List Poly))) (law : Law) (list : List (List Poly)) → rank law ≡ k → TestedUpTo s found k lists → LawHolds s law → AreQuotients s found law list → TestedUpTo s found (k + 1) (lists ++ list ∷ [])
  tested-more k lists law list at h holds quotients = record {
    number = length-append lists (list ∷ []) ∙ ap (λ (n : ℕ). n + 1) h.number;
    hold = λ other low. elim (cases_lt (rank other) k) [ inl below ↦ h.hold other below | inr last ↦ subst (LawHolds s) (same-rank law other (omega (arith, at, low, last))) holds ];
    quotients = λ other low. elim (cases_lt (rank other) k) [
      | inl below ↦ subst (AreQuotients s found other) (sym (get_or_append_left lists (list ∷ []) [] (rank other) (omega (arith, below, h.number)))) (h.quotients other below)
      | inr last ↦
          let e : law ≡ other = same-rank law other (omega (arith, at, low, last)) in
          subst (λ l. AreQuotients s found l (get_or (lists ++ list ∷ []) (rank l) [])) e (subst (AreQuotients s found law) (sym (at_end (rank law) (omega (arith, at, h.number)))) quotients)
    ];
  }
    where
      at_end : (n : ℕ) → n ≡ length lists + 0 → get_or (lists ++ list ∷ []) n [] ≡ list
      at_end n e = ap (λ (m : ℕ). get_or (lists ++ list ∷ []) m []) e ∙ get_or-append-add lists (list ∷ []) 0 []

  -- all laws
  pub tested-hold : (lists : List (List (List Poly))) → TestedUpTo s found 8 lists → AllLawsHold s
  tested-hold lists h law = h.hold law (rank-low law)

  pub tested-all : (lists : List (List (List Poly))) → TestedUpTo s found 8 lists → AreAllQuotients s found lists
  tested-all lists h = record { number = h.number; each = λ law. h.quotients law (rank-low law) }
