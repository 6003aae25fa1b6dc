-- The degrees that the laws and their proofs meet; and the proofs as they are stored.
--   parts-met, arrays-met    in a part, and in its cofactors
--   proof-there, proves-at   the proof at a place
--   cofactors-of             its cofactors
--   array-met, arrays-all    the products of these
--   laws-count               how many laws are proved
--   laws-seen                their cofactors alone
--   seen-at                  an element of a list that is seen as another
use Rattle.std.proofs.Common.{◌≡◌, ℕ, ◌<◌, true, List, [], length, ◌∷◌, get_or, map, All, sym, ◌∙◌, ap, subst, subst₂, refl, arith}
use Rattle.std.specs.List.{list_all}
use Rattle.std.proofs.lemmas.List.{length-map, get_or-map, get_or_default}
use Rattle.rinv_algebra.specs.Residue.{residue_ops}
use Rattle.rinv_algebra.specs.Fits.{combination_fits}
use Rattle.rinv_algebra.proofs.Same.{both, and_true}
use Rattle.rinv_ring.specs.Fault.{DegreesMeet}
use Rattle.rinv_ring.specs.declared.fault.RingFault.{RingFault}
use Rattle.rinv_poly.proofs.Meets.{meet-weaker}
use Rattle.rinv_buch.specs.Kinds.{Found}
use Rattle.rinv_defs.specs.System.{System, Poly, ideal_copies}
use Rattle.rinv_defs.specs.Laws.{Law, L1, copies}
use Rattle.rinv_fits.specs.Sums.{SumsMeet}
use Rattle.rinv_parts.specs.declared.law.LawName.{LawName}
use Rattle.rinv_parts.specs.LawNames.{law_of, variables_of}
use Rattle.rinv_parts.specs.Points.{AreStored}
use Rattle.rinv_parts.proofs.Stored.{stored-same}
use Rattle.rinv_laws.specs.Proofs.{ProvesLaw}
use Rattle.rinv_generators.specs.Generated.{Generated, IsGenerators}
use Rattle.rinv_certify.specs.Meets.{ArraysMeet, LawsMeet, PartsMeet}
use Rattle.rinv_certify.specs.Meets.LawMeets.{in_part, in_identity}
use Rattle.rinv_certify.specs.Parts.{AreCofactors, ProofFits}
use Rattle.rinv_certify.proofs.ChangeProducts.{sums-same}

pub parts-met : (g : Generated) (law : Law) (fault : RingFault) → DegreesMeet (PartsMeet g.told.system law) fault → DegreesMeet (LawsMeet g) fault
parts-met g law fault m = meet-weaker (PartsMeet g.told.system law) (LawsMeet g) (λ x y h. record { law = law; place = h.place; inside = h.inside; meets = in_part h.meets }) fault m

pub arrays-met : (g : Generated) (law : Law) (uss : List (List Poly)) (fault : RingFault) → ProvesLaw g.told.system g.group law uss → DegreesMeet (ArraysMeet g.told.system law uss) fault → DegreesMeet (LawsMeet g) fault
arrays-met g law uss fault p m = meet-weaker (ArraysMeet g.told.system law uss) (LawsMeet g) (λ x y h. record {
  law = law;
  place = h.place;
  inside = let low = h.inside in omega (arith, low, p.number);
  meets = in_identity (get_or uss h.place []) h.generators (p.each h.place h.inside) h.same h.meets;
}) fault m

module _ (g : Generated) (k : ℕ) (inside : k < length g.laws) (law : Law) (uss : List (List Poly)) (at : get_or g.laws k (law, uss) ≡ (law, uss)) where
  -- the proof at a place
  pub proves-at : IsGenerators g → ProvesLaw g.told.system g.group law uss
  proves-at gens = subst (λ (e : Law × List (List Poly)). ProvesLaw g.told.system g.group e.0 e.1) at (gens.laws.each k (law, uss) inside)

  pub proof-there : list_all (λ us. combination_fits (residue_ops g.told.system.p) us (ideal_copies g.told.system (copies law))) uss ≡ true → ProofFits g k
  proof-there fits = subst (λ (e : Law × List (List Poly)). list_all (λ us. combination_fits (residue_ops g.told.system.p) us (ideal_copies g.told.system (copies e.0))) e.1 ≡ true) (sym at ∙ get_or_default g.laws k (law, uss) (L1, []) inside) fits

-- its cofactors
pub cofactors-of : {U : Type 0} (view : U → List Poly) (s : System) (found : Found ℕ) (law : Law) (arrays : List U) → ProvesLaw s found law (map view arrays) → All (λ us. AreCofactors s law (view us)) arrays
cofactors-of view s found law arrays proves k d h =
    let p = proves.each k (omega (arith, h, length-map arrays view)) in
    subst (AreCofactors s law) (get_or-map view arrays k d [] h) (record { number = p.number; normal = p.normal })

-- the degrees of some cofactors times the generators
pub array-met : {U : Type 0} (view : U → List Poly) (s : System) (law : Law) (arrays : List U) (k : ℕ) (e : U) (q v : ℕ) (us gs items : List Poly) (fault : RingFault) → q ≡ s.p → v ≡ variables_of s law → k < length arrays → e ≡ get_or arrays k e → us ≡ view e → gs ≡ items
    → AreStored s.p (variables_of s law) (ideal_copies s (copies law)) items → DegreesMeet (SumsMeet q v us gs) fault → DegreesMeet (ArraysMeet s law (map view arrays)) fault
array-met view s law arrays k e q v us gs items fault field vars inside at is lent stored m = meet-weaker (SumsMeet q v us gs) (ArraysMeet s law (map view arrays)) (λ x y h. record {
  place = k;
  inside = let long = length-map arrays view in omega (arith, inside, long);
  generators = items;
  same = stored-same s.p (variables_of s law) (ideal_copies s (copies law)) items stored;
  meets = subst₂ (λ (vs ws : List Poly). SumsMeet s.p (variables_of s law) vs ws x y) (is ∙ ap view at ∙ sym (get_or-map view arrays k e [] inside)) lent (subst₂ (λ (p w : ℕ). SumsMeet p w us gs x y) field vars h);
}) fault m

-- all of them, over the copies of the ideal themselves
pub arrays-all : (s : System) (law : Law) (q : ℕ) (items : List Poly) → q ≡ s.p → AreStored s.p (variables_of s law) (ideal_copies s (copies law)) items → (uss : List (List Poly)) → list_all (λ us. combination_fits (residue_ops q) us items) uss ≡ true
    → list_all (λ us. combination_fits (residue_ops s.p) us (ideal_copies s (copies law))) uss ≡ true
arrays-all s law q items field stored [] h = refl
arrays-all s law q items field stored (us ∷ uss) h =
    let t = both (combination_fits (residue_ops q) us items) (list_all (λ vs. combination_fits (residue_ops q) vs items) uss) h in
    and_true _ _ (sym (sums-same s.p us items (ideal_copies s (copies law)) (stored-same s.p (variables_of s law) (ideal_copies s (copies law)) items stored)) ∙ sym (ap (λ (p : ℕ). combination_fits (residue_ops p) us items) field) ∙ t.0)
    (arrays-all s law q items field stored uss t.1)

-- an element of a list that is seen as another
pub seen-at : {A B : Type 0} (view : A → B) (stored : List A) (xs : List B) (k : ℕ) (e : A) → map view stored ≡ xs → k < length xs → e ≡ get_or stored k e → get_or xs k (view e) ≡ view e
seen-at view stored xs k e seen inside at =
    let long = length-map stored view in
    let many = ap (λ ys. length ys) seen in
    ap (λ ys. get_or ys k (view e)) (sym seen) ∙ get_or-map view stored k e (view e) (omega (arith, inside, long, many)) ∙ ap view (sym at)

-- how many laws are proved
pub laws-count : {U W : Type 0} (view : U → List Poly) (items : W → List U) (stored : List (LawName × W)) (laws : List (Law × List (List Poly))) → map (λ e. (law_of e.0, map view (items e.1))) stored ≡ laws → length stored ≡ length laws
laws-count view items stored laws seen = sym (length-map {B = Law × List (List Poly)} stored (λ e. (law_of e.0, map view (items e.1)))) ∙ ap (λ xs. length xs) seen

-- their cofactors alone
pub laws-seen : {U W : Type 0} (view : U → List Poly) (items : W → List U) (stored : List (LawName × W)) (laws : List (Law × List (List Poly))) → map (λ e. (law_of e.0, map view (items e.1))) stored ≡ laws → map (λ e. map view (items e.1)) stored ≡ map (λ e. e.1) laws
laws-seen {U} {W} view items stored laws seen = each stored ∙ ap (map (λ (e : Law × List (List Poly)). e.1)) seen
  where
    each : (xs : List (LawName × W)) → map (λ e. map view (items e.1)) xs ≡ map (λ (e : Law × List (List Poly)). e.1) (map (λ e. (law_of e.0, map view (items e.1))) xs)
    each [] = refl
    each (x ∷ xs) = ap (λ ys. map view (items x.1) ∷ ys) (each xs)
