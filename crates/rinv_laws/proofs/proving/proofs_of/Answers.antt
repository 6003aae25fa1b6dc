use Rattle.std.proofs.Common.{◌≡◌, inl, inr, ◌∙◌, ◌++◌, ◌*◌, ◌∷◌, ℕ, List, [], length, map, get_or, arith, ap, sym, subst, subst₂, All, refl}
use Rattle.std.proofs.lemmas.List.{length-map, map_push, take_all}
use Rattle.std.proofs.lemmas.List.Elements.{All-nil, All-push}
use Rattle.std.proofs.lemmas.Result.{err_from_is_err_and}
use Rattle.rinv_ring.specs.Fault.{DegreesMeet}
use Rattle.rinv_poly.proofs.Meets.{meet-weaker}
use Rattle.rinv_sub.proofs.Sums.{take-at}
use Rattle.rinv_defs.specs.System.{Poly}
use Rattle.rinv_defs.specs.Laws.{Law, copies}
use Rattle.rinv_parts.specs.LawNames.{law_of, variables_of}
use Rattle.rinv_parts.specs.Points.{ArePolynomials}
use Rattle.rinv_laws.specs.Copied.{AreQuotients}
use Rattle.rinv_laws.specs.Proofs.{AreMadeOf, BasisMeets, KeepCofactors, MakingMeets, ProvesLaw, ProofsMeet, chosen, proved_laws}
use Rattle.rinv_laws.proofs.ProvedLaws.{all-many, all-viewed, law-proved, making-meets, rank-inside}
use Rattle.rinv_laws.proofs.proving.proofs_of.Goals as goal

pub quotients_at-own-requires : goal.quotients_at-own-requires
quotients_at-own-requires c = omega (arith, c.proved_law-law.ensures.place, rank-inside (law_of c.proved_law-law.result.0), c.requires.quotients.number)

pub cofactors_of_law-requires-clause-many : goal.cofactors_of_law-requires-clause-many
cofactors_of_law-requires-clause-many c =
    let s = c.args.system.now.system in
    let found = c.args.group.now.basis in
    let law = law_of c.proved_law-law.result.0 in
    let own = map (λ qs. qs.items) c.quotients_at-own.result.now in
    let are : AreQuotients s found law own =
    subst (AreQuotients s found law) (sym (c.quotients_at-own.ensures ∙ ap (λ (n : ℕ). get_or c.args.quotients.now n []) c.proved_law-law.ensures.place)) (c.requires.quotients.each law) in
    let lists = chosen (map (λ us. us.items) c.in_ok-lists.lists.items) c.in_ok-lists.places.items in
    let keep : KeepCofactors s found lists = c.in_ok-lists.ensures.cofactors in
    let number : length lists ≡ length c.deref-in-laws.result.now =
    length-map c.in_ok-lists.places.items (λ k. get_or (map (λ us. us.items) c.in_ok-lists.lists.items) k []) ∙ ap (λ (ks : List ℕ). length ks) (sym c.deref-in-laws.ensures.value) in
    subst (λ (n : ℕ). All (λ qs. length qs.items ≡ copies law * n) c.quotients_at-own.result.now) number
    (all-viewed (λ (qs : List Poly). length qs ≡ copies law * length lists) (λ qs. qs.items) c.quotients_at-own.result.now (all-many s law lists found keep own are))

pub cofactors_of_law-requires-clause-quotients : goal.cofactors_of_law-requires-clause-quotients
cofactors_of_law-requires-clause-quotients c =
    let s = c.args.system.now.system in
    let found = c.args.group.now.basis in
    let law = law_of c.proved_law-law.result.0 in
    let own = map (λ qs. qs.items) c.quotients_at-own.result.now in
    let are : AreQuotients s found law own =
    subst (AreQuotients s found law) (sym (c.quotients_at-own.ensures ∙ ap (λ (n : ℕ). get_or c.args.quotients.now n []) c.proved_law-law.ensures.place)) (c.requires.quotients.each law) in
    all-viewed (ArePolynomials s.p (variables_of s law)) (λ qs. qs.items) c.quotients_at-own.result.now are.normal

pub laws-init : goal.laws-init
laws-init c = rw c.in_ok-proofs.ensures.items (record {
  laws = refl;
  proofs = All-nil (λ e. ProvesLaw c.args.system.now.system c.args.group.now.basis (law_of e.0) (map (λ us. us.items) e.1.items));
})

pub laws-preserved : goal.laws-preserved
laws-preserved c =
    let s = c.args.system.now.system in
    let found = c.args.group.now.basis in
    let law = law_of c.proved_law-law.result.0 in
    let own = map (λ qs. qs.items) c.quotients_at-own.result.now in
    let are : AreQuotients s found law own =
    subst (AreQuotients s found law) (sym (c.quotients_at-own.ensures ∙ ap (λ (n : ℕ). get_or c.args.quotients.now n []) c.proved_law-law.ensures.place)) (c.requires.quotients.each law) in
    let lists = chosen (map (λ us. us.items) c.in_ok-lists.lists.items) c.in_ok-lists.places.items in
    let keep : KeepCofactors s found lists = c.in_ok-lists.ensures.cofactors in
    let arrays = c.in_ok-arrays.arrays in
    let made : AreMadeOf s law lists own (map (λ us. us.items) arrays.items) =
    subst₂ (λ ls (ks : List ℕ). AreMadeOf s law (chosen (map (λ us. us.items) ls) ks) own (map (λ us. us.items) arrays.items)) c.deref.ensures.value c.deref-in-laws.ensures.value c.in_ok-arrays.ensures.cofactors in
    rw c.in_ok-push.ensures.items (record {
      laws = map_push (λ e. law_of e.0) c.laws.proofs.items (c.proved_law-law.result.0, arrays) ∙ ap (λ (laws : List Law). laws ++ law ∷ []) c.laws.invariant.laws ∙ sym (take-at proved_laws c.laws.k law c.laws-test.true c.proved_law-law.ensures.law);
      proofs = All-push (λ e. ProvesLaw s found (law_of e.0) (map (λ us. us.items) e.1.items)) c.laws.proofs.items (c.proved_law-law.result.0, arrays) c.laws.invariant.proofs
          (law-proved s law lists found keep own (map (λ us. us.items) arrays.items) are made);
    })

pub returns-clause-laws : goal.returns-clause-laws
returns-clause-laws c = c.laws.invariant.laws ∙ take_all c.laws.k proved_laws c.laws-test.false

pub returns-in_err-arrays-clause-degree : goal.returns-in_err-arrays-clause-degree
returns-in_err-arrays-clause-degree c =
    let s = c.args.system.now.system in
    let found = c.args.group.now.basis in
    let law = law_of c.proved_law-law.result.0 in
    let own = map (λ qs. qs.items) c.quotients_at-own.result.now in
    let are : AreQuotients s found law own =
    subst (AreQuotients s found law) (sym (c.quotients_at-own.ensures ∙ ap (λ (n : ℕ). get_or c.args.quotients.now n []) c.proved_law-law.ensures.place)) (c.requires.quotients.each law) in
    let lists = chosen (map (λ us. us.items) c.in_ok-lists.lists.items) c.in_ok-lists.places.items in
    let keep : KeepCofactors s found lists = c.in_ok-lists.ensures.cofactors in
    let fault = c.in_err-arrays.field-0.0 in
    let meets : DegreesMeet (MakingMeets s law lists own) fault =
    subst₂ (λ ls (ks : List ℕ). DegreesMeet (MakingMeets s law (chosen (map (λ us. us.items) ls) ks) own) fault) c.deref.ensures.value c.deref-in-laws.ensures.value c.in_err-arrays.ensures.degree in
    let q = err_from_is_err_and c.from_residual-in_err-arrays.result c.from_residual-in_err-arrays.ensures.1 in
    rw (q.1, q.2) (meet-weaker (MakingMeets s law lists own) (ProofsMeet s found) (λ x y m. (c.requires.hold, inr (making-meets s law lists found keep own are x y m))) fault meets)

pub returns-in_err-lists-clause-degree : goal.returns-in_err-lists-clause-degree
returns-in_err-lists-clause-degree c =
    let s = c.args.system.now.system in
    let found = c.args.group.now.basis in
    let q = err_from_is_err_and c.from_residual.result c.from_residual.ensures.1 in
    rw (q.1, q.2) (meet-weaker (BasisMeets s found) (ProofsMeet s found) (λ x y m. (c.requires.hold, inl m)) c.in_err-lists.field-0.0 c.in_err-lists.ensures.degree)
