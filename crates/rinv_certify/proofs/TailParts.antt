-- The terms of a tail over the common denominator of its coefficients.
--   item-is, item-term, item-fits      a term, as it is made
--   numerator-meets, term-meets, tie-meets    the degrees that it meets
--   sum-more, normal-more              one term more
--   inside-of, symbol-at               the tie at a place
use Rattle.std.proofs.Common.{◌≡◌, ℕ, ◌+◌, ◌<◌, true, List, [], ◌∷◌, ◌++◌, length, get_or, map, sym, ◌∙◌, ap, subst, subst₂, nat_lt, inl, inr, append-nil}
use Rattle.std.specs.Prelude.{flat_map}
use Rattle.std.proofs.lemmas.List.{map_push, get_or-map}
use Rattle.std.proofs.lemmas.List.Elements.{All-push}
use Rattle.std.proofs.lemmas.Grind.{flat_map-append}
use Rattle.rinv_algebra.specs.Ring.{IsSame}
use Rattle.rinv_algebra.specs.Residue.{residue_ops}
use Rattle.rinv_algebra.specs.Polynomial.{poly_ops, past, term_product}
use Rattle.rinv_algebra.specs.Fits.{product_fits}
use Rattle.rinv_algebra.specs.Normal.{IsNormal}
use Rattle.rinv_algebra.proofs.PolynomialLaws.{poly_laws}
use Rattle.rinv_algebra.proofs.ResidueLaws.{residue_laws}
use Rattle.rinv_algebra.proofs.Same.{and_true}
use Rattle.rinv_theory.proofs.Classes.{class_exact, class_sound}
use Rattle.rinv_theory.proofs.Polynomials.{polynomials}
use Rattle.rinv_theory.proofs.Places.{behind, behind-mul}
use Rattle.rinv_theory.proofs.Universal.{relabel}
use Rattle.rinv_theory.proofs.Variables.{past-class}
use Rattle.rinv_ring.specs.Fault.{DegreesMeet}
use Rattle.rinv_ring.specs.declared.fault.RingFault.{RingFault}
use Rattle.rinv_poly.specs.Faults.{MonomialsMeet}
use Rattle.rinv_poly.specs.Sums.{sum_of}
use Rattle.rinv_poly.proofs.Meets.{meet-weaker}
use Rattle.rinv_poly.proofs.Gather.{append-same, same-then, same-equal}
use Rattle.rinv_poly.proofs.Summands.{sum_of-push}
use Rattle.rinv_sub.proofs.Refused.{has-same}
use Rattle.rinv_defs.specs.System.{System, Poly, group_count, space_count}
use Rattle.rinv_defs.specs.Invariant.{Fraction}
use Rattle.rinv_defs.specs.Certificate.{Certificate, Tied, to_constant, to_generator}
use Rattle.rinv_defs.specs.RelationConditions.{z_power, behind_z}
use Rattle.rinv_cert.specs.declared.certificate.Tied.{Tied as StoredTied}
use Rattle.rinv_cert.specs.Seen.{tail_item_by, tied_of}
use Rattle.rinv_parts.specs.Points.{ArePolynomials}
use Rattle.rinv_coefficients.specs.Ties.{HasValueOf}
use Rattle.rinv_gens.specs.declared.kinds.Symbol.{Symbol}
use Rattle.rinv_gens.specs.Symbols.{tied_of as symbol_of}
use Rattle.rinv_acceptance.specs.Denominators.{raised, other_factors}
use Rattle.rinv_acceptance.specs.Fits.{tie_multiplies}
use Rattle.rinv_acceptance.specs.Raised.{IsTailItemOf}
use Rattle.rinv_generators.specs.Generated.{Generated}
use Rattle.rinv_certification.specs.Made.{HasCommonPart}
use Rattle.rinv_certify.specs.Meets.{FactorsMeet, TailItemMeets, TermMeets, TieMeets}
use Rattle.rinv_certify.specs.Meets.TailItemMeets.{in_numerator, in_term, in_own_tie}
use Rattle.rinv_certify.specs.Parts.{IsInside}
use Rattle.rinv_certify.specs.Wholes.{TailItemFits, term_in}

-- ---- a term, as it is made

module _ (s : System) (ds : List Poly) (a : List ℕ) (f : Fraction) (tied : Tied) (t : List ℕ × Poly × StoredTied) (c : Poly) (at_a : t.0 ≡ a) (at_c : t.1 ≡ c) (at_t : tied_of t.2 ≡ tied) where
  pub item-is : IsSame (poly_ops (residue_ops s.p)) c (raised s ds f) → IsTailItemOf s ds (a, f) tied (tail_item_by (λ f. f) t)
  item-is value = record { alpha = at_a; c = subst (λ (g : Poly). IsSame (poly_ops (residue_ops s.p)) g (raised s ds f)) (sym at_c) value; tie = at_t }

  pub item-term : (r : Poly) → IsSame (poly_ops (residue_ops s.p)) r (term_product (residue_ops s.p) (z_power s a) (behind_z s c)) → IsSame (poly_ops (residue_ops s.p)) r (term_in s t)
  item-term r value = subst₂ (λ (b : List ℕ) (g : Poly). IsSame (poly_ops (residue_ops s.p)) r (term_product (residue_ops s.p) (z_power s b) (behind_z s g))) (sym at_a) (sym at_c) value

pub item-fits : (g : Generated) (whole : Certificate) → HasCommonPart g whole → (d : Poly) (a : List ℕ) (c : Poly) (tied : Tied) (t : List ℕ × Poly × StoredTied) → t.0 ≡ a → t.1 ≡ c → tied_of t.2 ≡ tied
    → product_fits (residue_ops g.told.system.p) (z_power g.told.system a ∷ []) (behind_z g.told.system c) ≡ true → tie_multiplies whole d c tied ≡ true → TailItemFits whole d t
item-fits g whole common d a c tied t at_a at_c at_t one two =
    let first : product_fits (residue_ops whole.system.p) (z_power whole.system t.0 ∷ []) (behind_z whole.system t.1) ≡ true =
    subst (λ (u : System). product_fits (residue_ops u.p) (z_power u t.0 ∷ []) (behind_z u t.1) ≡ true) (sym common.system)
    (subst₂ (λ (b : List ℕ) (f : Poly). product_fits (residue_ops g.told.system.p) (z_power g.told.system b ∷ []) (behind_z g.told.system f) ≡ true) (sym at_a) (sym at_c) one) in
    let second : tie_multiplies whole d t.1 (tied_of t.2) ≡ true = subst₂ (λ (f : Poly) (u : Tied). tie_multiplies whole d f u ≡ true) (sym at_c) (sym at_t) two in
    and_true _ _ first second

-- ---- degrees

pub past-same : (p k : ℕ) (f g : Poly) → IsSame (poly_ops (residue_ops p)) f g → IsSame (poly_ops (residue_ops p)) (past k f) (past k g)
past-same p k f g e =
    let o = residue_ops p in
    let l = residue_laws p in
    class_exact (poly_ops o) (poly_laws o l) _ _ (past-class o l k f ∙ ap (relabel (polynomials o l) (polynomials o l) (behind k) (behind-mul k)).at (class_sound (poly_ops o) (poly_laws o l) f g e) ∙ sym (past-class o l k g))

left-same : (p : ℕ) (f f' g : Poly) (x y : ℕ) → IsSame (poly_ops (residue_ops p)) f f' → MonomialsMeet (residue_ops p) f g x y → MonomialsMeet (residue_ops p) f' g x y
left-same p f f' g x y e m = record { left = has-same (residue_ops p) (residue_laws p) f f' x e m.left; right = m.right; over = m.over }

right-same : (p : ℕ) (f g g' : Poly) (x y : ℕ) → IsSame (poly_ops (residue_ops p)) g g' → MonomialsMeet (residue_ops p) f g x y → MonomialsMeet (residue_ops p) f g' x y
right-same p f g g' x y e m = record { left = m.left; right = has-same (residue_ops p) (residue_laws p) g g' y e m.right; over = m.over }

-- those of a term and of a tie depend on the values of their polynomials alone
pub term-same : (s : System) (a : List ℕ) (f g : Poly) (x y : ℕ) → IsSame (poly_ops (residue_ops s.p)) f g → TermMeets s a f x y → TermMeets s a g x y
term-same s a f g x y e m = right-same s.p (z_power s a ∷ []) (behind_z s f) (behind_z s g) x y (past-same s.p (group_count s + space_count s) f g e) m

pub tie-same : (s : System) (cs : List Fraction) (d f g : Poly) (tied : Tied) (x y : ℕ) → IsSame (poly_ops (residue_ops s.p)) f g → TieMeets s cs d f tied x y → TieMeets s cs d g tied x y
tie-same s cs d f g (to_constant v) x y e m = absurd m
tie-same s cs d f g (to_generator k) x y e (h, has, inl m) = (h, has, inl (left-same s.p f g h.1 x y e m))
tie-same s cs d f g (to_generator k) x y e (h, has, inr m) = (h, has, inr m)

module _ (g : Generated) (ds : List Poly) (d : Poly) (a : List ℕ) (f : Fraction) (tied : Tied) (fault : RingFault) where
  pub numerator-meets : DegreesMeet (FactorsMeet g.told.system f.0 (other_factors g.told.system ds f)) fault → DegreesMeet (TailItemMeets g ds d (a, f) tied) fault
  numerator-meets m = meet-weaker (FactorsMeet g.told.system f.0 (other_factors g.told.system ds f)) (TailItemMeets g ds d (a, f) tied) (λ x y h. in_numerator h) fault m

  module _ (c : Poly) (value : IsSame (poly_ops (residue_ops g.told.system.p)) c (raised g.told.system ds f)) where
    pub term-meets : DegreesMeet (TermMeets g.told.system a c) fault → DegreesMeet (TailItemMeets g ds d (a, f) tied) fault
    term-meets m = meet-weaker (TermMeets g.told.system a c) (TailItemMeets g ds d (a, f) tied) (λ x y h. in_term (term-same g.told.system a c (raised g.told.system ds f) x y value h)) fault m

    pub tie-meets : DegreesMeet (TieMeets g.told.system g.fractions d c tied) fault → DegreesMeet (TailItemMeets g ds d (a, f) tied) fault
    tie-meets m = meet-weaker (TieMeets g.told.system g.fractions d c tied) (TailItemMeets g ds d (a, f) tied) (λ x y h. in_own_tie (tie-same g.told.system g.fractions d c (raised g.told.system ds f) tied x y value h)) fault m

-- ---- the tail

-- the sum of the terms, and one more
pub sum-more : (s : System) (ts : List (List ℕ × Poly × StoredTied)) (t : List ℕ × Poly × StoredTied) (fs : List Poly) (f : Poly) → IsSame (poly_ops (residue_ops s.p)) f (term_in s t) → IsSame (poly_ops (residue_ops s.p)) (sum_of fs) (flat_map (term_in s) ts)
    → IsSame (poly_ops (residue_ops s.p)) (sum_of (fs ++ f ∷ [])) (flat_map (term_in s) (ts ++ t ∷ []))
sum-more s ts t fs f is so_far =
    let o = residue_ops s.p in
    let l = residue_laws s.p in
    let whole : flat_map (term_in s) ts ++ term_in s t ≡ flat_map (term_in s) (ts ++ t ∷ []) = sym (rw (flat_map-append (term_in s) ts (t ∷ [])) (ap (λ (g : Poly). flat_map (term_in s) ts ++ g) (append-nil (term_in s t)))) in
    same-then o l (sum_of (fs ++ f ∷ [])) (sum_of fs ++ f) (flat_map (term_in s) (ts ++ t ∷ [])) (same-equal o l (sum_of (fs ++ f ∷ [])) (sum_of fs ++ f) (sum_of-push fs f))
    (same-then o l (sum_of fs ++ f) (flat_map (term_in s) ts ++ term_in s t) (flat_map (term_in s) (ts ++ t ∷ [])) (append-same o l (sum_of fs) (flat_map (term_in s) ts) f (term_in s t) so_far is)
    (same-equal o l (flat_map (term_in s) ts ++ term_in s t) (flat_map (term_in s) (ts ++ t ∷ [])) whole))

-- the coefficients, and one more
pub normal-more : (p n : ℕ) (ts : List (List ℕ × Poly × StoredTied)) (t : List ℕ × Poly × StoredTied) → ArePolynomials p n (map (λ u. u.1) ts) → IsNormal (residue_ops p) (λ c. nat_lt c p) n t.1 → ArePolynomials p n (map (λ u. u.1) (ts ++ t ∷ []))
normal-more p n ts t so_far here =
    subst (ArePolynomials p n) (sym (map_push (λ (u : List ℕ × Poly × StoredTied). u.1) ts t)) (All-push (IsNormal (residue_ops p) (λ c. nat_lt c p) n) (map (λ u. u.1) ts) t.1 so_far here)

-- what a coefficient is tied to is a generator that there is
pub inside-of : (p : ℕ) (cs : List Fraction) (tied : Tied) (f : Fraction) → HasValueOf p cs tied f → IsInside (length cs) tied
inside-of p cs (to_constant v) f h = tt
inside-of p cs (to_generator k) f h = (h.0, h.1)

-- the tie at a place, as it is stored
pub symbol-at : (tail : List (List ℕ × Tied)) (stored : List (List ℕ × Symbol)) (k : ℕ) (e : List ℕ × Symbol) → map (λ t. (t.0, symbol_of t.1)) stored ≡ tail → k < length stored → e ≡ get_or stored k e → (e.0, symbol_of e.1) ≡ get_or tail k (e.0, symbol_of e.1)
symbol-at tail stored k e seen h at =
    ap (λ (x : List ℕ × Symbol). (x.0, symbol_of x.1)) at ∙ sym (get_or-map (λ (t : List ℕ × Symbol). (t.0, symbol_of t.1)) stored k e (e.0, symbol_of e.1) h) ∙ ap (λ us. get_or us k (e.0, symbol_of e.1)) seen
