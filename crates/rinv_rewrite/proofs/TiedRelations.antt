-- Relations that are tied to the generators.
--   tied_relations       they are relations in Z over a symbol for each generator
--   all_low              their tails are below their leads
--   relation-made        a relation as a polynomial, made of its lead and its tail
use Rattle.std.proofs.Common.{◌≡◌, ◌≤◌, ℕ, List, [], ◌∷◌, ◌++◌, length, map, All, sym, ◌∙◌, ap, subst, arith}
use Rattle.std.specs.List.{AllZip, AllByRecursion}
use Rattle.std.specs.declared.cmp.Ordering.TheVariants.{Less}
use Rattle.std.proofs.lemmas.List.Elements.{All-nil, All-cons, All-head, All-tail}
use Rattle.rinv_algebra.specs.Ring.{RingOps, RingLaws, IsSame}
use Rattle.rinv_algebra.specs.Residue.{residue_ops}
use Rattle.rinv_algebra.specs.Order.{grevlex}
use Rattle.rinv_algebra.specs.Polynomial.{poly_ops, opposite}
use Rattle.rinv_algebra.proofs.PolynomialLaws.{poly_laws}
use Rattle.rinv_algebra.proofs.ResidueLaws.{residue_laws}
use Rattle.rinv_defs.specs.System.{System, Poly, space_count}
use Rattle.rinv_defs.specs.Invariant.{Fraction}
use Rattle.rinv_defs.specs.Certificate.{Tied, to_constant, to_generator}
use Rattle.rinv_defs.specs.Extended.{FractionPoly, Relation}
use Rattle.rinv_poly.specs.Faults.{AreWorkedOut}
use Rattle.rinv_soundness.specs.Rewriting.{SymbolPoly, symbol_poly, symbol_of}
use Rattle.rinv_coefficients.specs.Ties.{TiedRelation, HasValueOf, Ties, with_symbols}
use Rattle.rinv_coefficients.proofs.SymbolDivision.{IsLow}
use Rattle.rinv_rewrite.specs.Symbols.{IsSymbolIn, IsSymbolRelation, AreTied, is_symbolic}
use Rattle.rinv_rewrite.specs.Terms.{tied_terms}
use Rattle.rinv_rewrite.proofs.WorkedTerms.{worked-same}

module _ (p n : ℕ) (cs : List Fraction) where
  symbol_in : (t : Tied) (f : Fraction) → HasValueOf p cs t f → IsSymbolIn p (length cs) t
  symbol_in (to_constant v) f h = h.0
  symbol_in (to_generator k) f h = (h.0, h.1)

  -- the terms of a tail that is tied
  record TailFacts (lead : List ℕ) (tail : List (List ℕ × Tied)) : Type 0 where
    vars : All (λ u. length u.0 ≡ n) tail
    symbols : All (λ u. IsSymbolIn p (length cs) u.1) tail
    below : All (λ u. grevlex u.0 lead ≡ Less) tail

  tail_facts : (lead : List ℕ) (ts : List (List ℕ × Tied)) (us : FractionPoly) → AllZip (λ t u. (t.0 ≡ u.0) × HasValueOf p cs t.1 u.1) ts us → All (λ u. grevlex u.0 lead ≡ Less) us → All (λ u. length u.0 ≡ n) us → TailFacts lead ts
  tail_facts lead [] [] z below even = record { vars = All-nil (λ u. length u.0 ≡ n); symbols = All-nil (λ u. IsSymbolIn p (length cs) u.1); below = All-nil (λ u. grevlex u.0 lead ≡ Less) }
  tail_facts lead [] (u ∷ us) z below even = absurd z
  tail_facts lead (t ∷ ts) [] z below even = absurd z
  tail_facts lead (t ∷ ts) (u ∷ us) z below even =
      let rest : TailFacts lead ts = tail_facts lead ts us z.1 (All-tail (λ u. grevlex u.0 lead ≡ Less) u us below) (All-tail (λ u. length u.0 ≡ n) u us even) in
      record {
        vars = All-cons (λ u. length u.0 ≡ n) t ts (ap length z.0.0 ∙ All-head (λ u. length u.0 ≡ n) u us even) rest.vars;
        symbols = All-cons (λ u. IsSymbolIn p (length cs) u.1) t ts (symbol_in t.1 u.1 z.0.1) rest.symbols;
        below = All-cons (λ u. grevlex u.0 lead ≡ Less) t ts (ap (λ a. grevlex a lead) z.0.0 ∙ All-head (λ u. grevlex u.0 lead ≡ Less) u us below) rest.below;
      }

  all_relations : (ts : List TiedRelation) (rs : List Relation) → AllZip (Ties p cs) ts rs → All (λ r. All (λ u. grevlex u.0 r.lead ≡ Less) r.tail) rs → All (λ r. length r.lead ≡ n) rs → All (λ r. All (λ u. length u.0 ≡ n) r.tail) rs → All (IsSymbolRelation p (length cs) n) ts
  all_relations [] [] z below leads even = All-nil (IsSymbolRelation p (length cs) n)
  all_relations [] (r ∷ rs) z below leads even = absurd z
  all_relations (t ∷ ts) [] z below leads even = absurd z
  all_relations (t ∷ ts) (r ∷ rs) z below leads even =
      let facts : TailFacts t.lead t.tail = tail_facts t.lead t.tail r.tail z.0.tail (subst (λ a. All (λ u. grevlex u.0 a ≡ Less) r.tail) (sym z.0.lead) (All-head (λ (r : Relation). All (λ u. grevlex u.0 r.lead ≡ Less) r.tail) r rs below)) (All-head (λ (r : Relation). All (λ u. length u.0 ≡ n) r.tail) r rs even) in
      All-cons (IsSymbolRelation p (length cs) n) t ts
      (record { lead = ap length z.0.lead ∙ All-head (λ (r : Relation). length r.lead ≡ n) r rs leads; vars = facts.vars; symbols = facts.symbols; below = facts.below })
      (all_relations ts rs z.1 (All-tail (λ (r : Relation). All (λ u. grevlex u.0 r.lead ≡ Less) r.tail) r rs below) (All-tail (λ (r : Relation). length r.lead ≡ n) r rs leads) (All-tail (λ (r : Relation). All (λ u. length u.0 ≡ n) r.tail) r rs even))

-- relations that are tied to the fractions have a symbol for each
pub tied_relations : (s : System) (cs : List Fraction) (ts : List TiedRelation) → AreTied s cs ts → All (IsSymbolRelation s.p (length cs) (space_count s)) ts
tied_relations s cs ts h = all_relations s.p (space_count s) cs ts h.relations h.ties h.basis.basis.tails_below h.basis.leads (λ k d b. (h.basis.tails k d b).exponents)

module _ (p k n : ℕ) where
  tail_low : (lead : List ℕ) (ts : List (List ℕ × Tied)) → All (λ u. grevlex u.0 lead ≡ Less) ts → All (λ u. length u.0 ≡ n) ts → AllByRecursion {X = List ℕ × Poly} (λ t. (grevlex t.0 lead ≡ Less) × (length t.0 ≤ n)) (map (λ t. (t.0, symbol_of p t.1)) ts)
  tail_low lead [] below even = tt
  tail_low lead (t ∷ ts) below even =
      let long : length t.0 ≡ n = All-head (λ u. length u.0 ≡ n) t ts even in
      ((All-head (λ u. grevlex u.0 lead ≡ Less) t ts below, omega (arith, long)), tail_low lead ts (All-tail (λ u. grevlex u.0 lead ≡ Less) t ts below) (All-tail (λ u. length u.0 ≡ n) t ts even))

  pub low : (t : TiedRelation) → IsSymbolRelation p k n t → IsLow n (with_symbols p t)
  low t h = let long : length t.lead ≡ n = h.lead in record { lead = omega (arith, long); tail = tail_low t.lead t.tail h.below h.vars }

  -- the tails are below the leads
  pub all_low : (ts : List TiedRelation) → All (IsSymbolRelation p k n) ts → AllByRecursion (IsLow n) (map (with_symbols p) ts)
  all_low [] h = tt
  all_low (t ∷ ts) h = (low t (All-head (IsSymbolRelation p k n) t ts h), all_low ts (All-tail (IsSymbolRelation p k n) t ts h))

  abbrev o : RingOps Poly
  o = poly_ops (residue_ops p)

  abbrev l : RingLaws (poly_ops (residue_ops p))
  l = poly_laws (residue_ops p) (residue_laws p)

  -- a relation as a polynomial
  pub relation-made : (t : TiedRelation) (lead terms tail f : SymbolPoly) → IsSame (poly_ops o) lead ((t.lead, o.one) ∷ []) → AreWorkedOut o (is_symbolic p k) (tied_terms p t.tail) terms → IsSame (poly_ops o) tail terms → IsSame (poly_ops o) f (lead ++ opposite o tail)
      → IsSame (poly_ops o) f (symbol_poly p (with_symbols p t))
  relation-made t lead terms tail f is_lead worked is_tail made =
      (poly_laws o l).same_trans f (lead ++ opposite o tail) (symbol_poly p (with_symbols p t)) made
      ((poly_laws o l).add_same lead ((t.lead, o.one) ∷ []) (opposite o tail) (opposite o (tied_terms p t.tail)) is_lead
      ((poly_laws o l).neg_same tail (tied_terms p t.tail) ((poly_laws o l).same_trans tail terms (tied_terms p t.tail) is_tail (worked-same o l (is_symbolic p k) (tied_terms p t.tail) terms worked))))
