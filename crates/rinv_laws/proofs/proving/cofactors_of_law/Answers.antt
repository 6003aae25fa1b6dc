use Rattle.std.proofs.Common.{◌≡◌, ◌<◌, ◌∙◌, ◌+◌, ◌*◌, ℕ, List, [], length, map, get_or, arith, ap, sym, subst, subst₂, All, refl}
use Rattle.std.proofs.lemmas.List.{length-map, length_push, map_push}
use Rattle.std.proofs.lemmas.List.Elements.{All-map}
use Rattle.std.proofs.lemmas.Result.{err_from_is_err_and}
use Rattle.rinv_ring.specs.Fault.{DegreesMeet}
use Rattle.rinv_cofactors.proofs.Cofactors.{each-more}
use Rattle.rinv_text.specs.Told.{Told}
use Rattle.rinv_defs.specs.System.{Poly}
use Rattle.rinv_defs.specs.Laws.{copies}
use Rattle.rinv_parts.specs.LawNames.{law_of, variables_of}
use Rattle.rinv_parts.specs.Points.{ArePolynomials}
use Rattle.rinv_laws.specs.Proofs.{AreInCopies, CopiesMeet, chosen, in_copy}
use Rattle.rinv_parts.proofs.Stored.{normal-over as over}
use Rattle.rinv_laws.proofs.CopiedCofactors.{list-at}
use Rattle.rinv_laws.proofs.ProvedLaws.{chosen-all}
use Rattle.rinv_laws.proofs.LawCofactors.{OfLaw, copies-inside, made-number, made-kept, made-lengths, law-made, law-meets}
use Rattle.rinv_laws.proofs.proving.cofactors_of_law.Goals as goal

pub lists_in_copies-requires-clause-polynomials : goal.lists_in_copies-requires-clause-polynomials
lists_in_copies-requires-clause-polynomials c =
    let from_field = c.new-from.ensures.ring ∙ ap (λ (t : Told). t.system.p) c.system.view_is in
    let from_vars = c.new-from.ensures.count ∙ c.len.ensures.len ∙ ap (λ (t : Told). length t.system.group) c.system.view_is in
    subst₂ (λ (p v : ℕ). All (λ us. ArePolynomials p v us.items) c.args.lists.now) (sym from_field) (sym from_vars) c.requires.lists

pub lists_in_copies-requires-clause-inside : goal.lists_in_copies-requires-clause-inside
lists_in_copies-requires-clause-inside c =
    let from_vars = c.new-from.ensures.count ∙ c.len.ensures.len ∙ ap (λ (t : Told). length t.system.group) c.system.view_is in
    let vars = c.new-ring.ensures.count ∙ c.variables_of.ensures in
    copies-inside c.args.system.now.system (law_of c.args.law) c.copies.result c.new-from.result.vars c.new-ring.result.vars c.copies.ensures from_vars vars

pub cofactors_in_copies-requires-clause-many : goal.cofactors_in_copies-requires-clause-many
cofactors_in_copies-requires-clause-many c =
    let s = c.args.system.now.system in
    let law = law_of c.args.law in
    let lists = chosen (map (λ us. us.items) c.args.lists.now) c.args.places.now in
    let made = c.in_ok-copied.copied.items in
    let same = c.in_ok-copied.ensures.value in
    let number : length c.deref-in-parts.result.now ≡ copies law = ap (λ ls. length ls) c.deref-in-parts.ensures.value ∙ made-number (λ us. us.items) (λ ls. ls.items) c.new-ring.result.coeffs c.new-from.result.vars lists c.copies.result made same ∙ c.copies.ensures in
    let own : length c.index-quotients-k.result.items ≡ copies law * length c.args.places.now =
    subst (λ qs. length qs.items ≡ copies law * length c.args.places.now) (sym c.index-quotients-k.is) (c.requires.many c.parts.k c.index-quotients-k.result c.parts-test.true) in
    ap (λ (qs : List Poly). length qs) c.deref.ensures.value ∙ own ∙ ap (λ (n : ℕ). n * length c.args.places.now) (sym number)

pub cofactors_in_copies-requires-clause-quotients : goal.cofactors_in_copies-requires-clause-quotients
cofactors_in_copies-requires-clause-quotients c =
    let s = c.args.system.now.system in
    let law = law_of c.args.law in
    let field = c.new-ring.ensures.ring ∙ ap (λ (t : Told). t.system.p) c.system.view_is in
    let vars = c.new-ring.ensures.count ∙ c.variables_of.ensures in
    over c.new-ring.result.coeffs s.p c.new-ring.result.vars (variables_of s law) c.deref.result.now c.index-quotients-k.result.items field vars c.deref.ensures.value
    (subst (λ qs. ArePolynomials s.p (variables_of s law) qs.items) (sym c.index-quotients-k.is) (c.requires.quotients c.parts.k c.index-quotients-k.result c.parts-test.true))

pub cofactors_in_copies-requires-clause-lists : goal.cofactors_in_copies-requires-clause-lists
cofactors_in_copies-requires-clause-lists c =
    subst (λ xs. All (λ ls. All (λ us. ArePolynomials c.new-ring.result.coeffs c.new-ring.result.vars us.items) ls.items) xs) (sym c.deref-in-parts.ensures.value) c.in_ok-copied.ensures.normal

pub cofactors_in_copies-requires-clause-kept : goal.cofactors_in_copies-requires-clause-kept
cofactors_in_copies-requires-clause-kept c =
    let lists = chosen (map (λ us. us.items) c.args.lists.now) c.args.places.now in
    let made = c.in_ok-copied.copied.items in
    let same = c.in_ok-copied.ensures.value in
    subst₂ (λ xs (n : ℕ). All (λ ls. length ls.items ≡ n) xs) (sym c.deref-in-parts.ensures.value) (length-map c.args.places.now (λ k. get_or (map (λ us. us.items) c.args.lists.now) k []))
    (made-kept (λ us. us.items) (λ ls. ls.items) c.new-ring.result.coeffs c.new-from.result.vars lists 0 c.copies.result made same)

pub cofactors_in_copies-requires-clause-lengths : goal.cofactors_in_copies-requires-clause-lengths
cofactors_in_copies-requires-clause-lengths c =
    let s = c.args.system.now.system in
    let law = law_of c.args.law in
    let lists = chosen (map (λ us. us.items) c.args.lists.now) c.args.places.now in
    let made = c.in_ok-copied.copied.items in
    let same = c.in_ok-copied.ensures.value in
    let given : c.len-count.result ≡ length s.ideal = omega (arith, c.len-count.ensures, ap (λ (t : Told). length t.system.ideal) c.system.view_is) in
    let long : All (λ us. length us ≡ length s.ideal) lists =
    chosen-all (λ us. length us ≡ length s.ideal) [] (map (λ us. us.items) c.args.lists.now) (length c.args.lists.now) c.args.places.now (length-map c.args.lists.now (λ us. us.items))
    (All-map (λ us. length us ≡ length s.ideal) (λ us. us.items) c.args.lists.now c.requires.lengths) c.requires.places in
    subst₂ (λ xs (n : ℕ). All (λ ls. All (λ us. length us.items ≡ n) ls.items) xs) (sym c.deref-in-parts.ensures.value) (sym given)
    (made-lengths (λ us. us.items) (λ ls. ls.items) c.new-ring.result.coeffs c.new-from.result.vars lists (length s.ideal) 0 c.copies.result made same long)

pub parts-init : goal.parts-init
parts-init c = rw c.in_ok-arrays.ensures.items (record { number = refl; each = λ i low. absurd (omega (arith, low)) })

pub parts-preserved : goal.parts-preserved
parts-preserved c =
    let s = c.args.system.now.system in
    let law = law_of c.args.law in
    let lists = chosen (map (λ us. us.items) c.args.lists.now) c.args.places.now in
    let made = c.in_ok-copied.copied.items in
    let same = c.in_ok-copied.ensures.value in
    let field = c.new-ring.ensures.ring ∙ ap (λ (t : Told). t.system.p) c.system.view_is in
    let from_vars = c.new-from.ensures.count ∙ c.len.ensures.len ∙ ap (λ (t : Told). length t.system.group) c.system.view_is in
    let vars = c.new-ring.ensures.count ∙ c.variables_of.ensures in
    let given : c.len-count.result ≡ length s.ideal = omega (arith, c.len-count.ensures, ap (λ (t : Told). length t.system.ideal) c.system.view_is) in
    let of_law : OfLaw s law lists c.new-ring.result.coeffs c.new-ring.result.vars c.new-from.result.vars c.copies.result c.len-count.result (length c.args.places.now) = record {
      field = field;
      vars = vars;
      own_vars = from_vars;
      copies_number = c.copies.ensures;
      given = given;
      kept = sym (length-map c.args.places.now (λ k. get_or (map (λ us. us.items) c.args.lists.now) k []));
    } in
    let views = map (λ ls. map (λ us. us.items) ls.items) made in
    let k = c.parts.k in
    let p = c.new-ring.result.coeffs in
    let v = c.new-ring.result.vars in
    let n = c.len-count.result in
    let kept = length c.args.places.now in
    let quotients = map (λ qs. qs.items) c.args.quotients.now in
    let arrays = c.parts.arrays.items in
    let u = c.in_ok-array.array in
    let qs_at : c.deref.result.now ≡ get_or quotients k [] = c.deref.ensures.value ∙ list-at (λ qs. qs.items) [] c.args.quotients.now k c.index-quotients-k.result c.parts-test.true c.index-quotients-k.is in
    let over_made = subst (λ xs. AreInCopies p v (length xs) n kept (λ j. get_or (map (λ ls. map (λ us. us.items) ls.items) xs) j []) c.deref.result.now u.items) c.deref-in-parts.ensures.value c.in_ok-array.ensures.cofactors in
    let by_copies : AreInCopies p v c.copies.result n kept (λ j. get_or views j []) (get_or quotients k []) u.items =
    subst₂ (λ (m : ℕ) (qs : List Poly). AreInCopies p v m n kept (λ j. get_or views j []) qs u.items) (made-number (λ us. us.items) (λ ls. ls.items) c.new-ring.result.coeffs c.new-from.result.vars lists c.copies.result made same) qs_at over_made in
    let here = law-made s law lists p v c.new-from.result.vars c.copies.result n kept of_law views same (get_or quotients k []) u.items by_copies in
    rw c.in_ok-push.ensures.items (record {
      number = length_push arrays u ∙ ap (λ (m : ℕ). m + 1) c.parts.invariant.number;
      each = subst (λ (us : List (List Poly)). (i : ℕ) → i < k + 1 → AreInCopies s.p (variables_of s law) (copies law) (length s.ideal) (length lists) (λ j. in_copy s j lists) (get_or quotients i []) (get_or us i [])) (sym (map_push (λ us. us.items) arrays u))
          (each-more (λ (i : ℕ) (us : List Poly). AreInCopies s.p (variables_of s law) (copies law) (length s.ideal) (length lists) (λ j. in_copy s j lists) (get_or quotients i []) us) [] (map (λ us. us.items) arrays) u.items k
          (length-map arrays (λ us. us.items) ∙ c.parts.invariant.number) c.parts.invariant.each here);
    })

pub returns-clause-cofactors : goal.returns-clause-cofactors
returns-clause-cofactors c =
    let whole : c.parts.k ≡ length c.args.quotients.now = omega (arith, c.parts-test.false, c.parts.auto.k-end) in
    let arrays = length-map c.parts.arrays.items (λ us. us.items) in
    record {
      number = arrays ∙ c.parts.invariant.number ∙ whole ∙ sym (length-map c.args.quotients.now (λ qs. qs.items));
      each = λ i low. c.parts.invariant.each i (omega (arith, low, arrays, c.parts.invariant.number));
    }

pub returns-in_err-array-clause-degree : goal.returns-in_err-array-clause-degree
returns-in_err-array-clause-degree c =
    let s = c.args.system.now.system in
    let law = law_of c.args.law in
    let lists = chosen (map (λ us. us.items) c.args.lists.now) c.args.places.now in
    let made = c.in_ok-copied.copied.items in
    let same = c.in_ok-copied.ensures.value in
    let field = c.new-ring.ensures.ring ∙ ap (λ (t : Told). t.system.p) c.system.view_is in
    let from_vars = c.new-from.ensures.count ∙ c.len.ensures.len ∙ ap (λ (t : Told). length t.system.group) c.system.view_is in
    let vars = c.new-ring.ensures.count ∙ c.variables_of.ensures in
    let given : c.len-count.result ≡ length s.ideal = omega (arith, c.len-count.ensures, ap (λ (t : Told). length t.system.ideal) c.system.view_is) in
    let of_law : OfLaw s law lists c.new-ring.result.coeffs c.new-ring.result.vars c.new-from.result.vars c.copies.result c.len-count.result (length c.args.places.now) = record {
      field = field;
      vars = vars;
      own_vars = from_vars;
      copies_number = c.copies.ensures;
      given = given;
      kept = sym (length-map c.args.places.now (λ k. get_or (map (λ us. us.items) c.args.lists.now) k []));
    } in
    let views = map (λ ls. map (λ us. us.items) ls.items) made in
    let k = c.parts.k in
    let p = c.new-ring.result.coeffs in
    let kept = length c.args.places.now in
    let quotients = map (λ qs. qs.items) c.args.quotients.now in
    let qs = c.deref.result.now in
    let qs_at : qs ≡ get_or quotients k [] = c.deref.ensures.value ∙ list-at (λ qs. qs.items) [] c.args.quotients.now k c.index-quotients-k.result c.parts-test.true c.index-quotients-k.is in
    let low : k < length quotients = omega (arith, c.parts-test.true, length-map c.args.quotients.now (λ qs. qs.items)) in
    let fault = c.in_err-array.field-0.0 in
    let over_made = subst (λ xs. DegreesMeet (CopiesMeet p (length xs) kept (λ j. get_or (map (λ ls. map (λ us. us.items) ls.items) xs) j []) qs) fault) c.deref-in-parts.ensures.value c.in_err-array.ensures.degree in
    let by_copies : DegreesMeet (CopiesMeet p c.copies.result kept (λ j. get_or views j []) qs) fault =
    subst (λ (m : ℕ). DegreesMeet (CopiesMeet p m kept (λ j. get_or views j []) qs) fault) (made-number (λ us. us.items) (λ ls. ls.items) c.new-ring.result.coeffs c.new-from.result.vars lists c.copies.result made same) over_made in
    let q = err_from_is_err_and c.from_residual-in_err-array.result c.from_residual-in_err-array.ensures.1 in
    rw (q.1, q.2) (law-meets s law lists p c.new-ring.result.vars c.new-from.result.vars c.copies.result c.len-count.result kept of_law views same quotients k low qs qs_at fault by_copies)
