use Rattle.std.proofs.Common.{◌≡◌, ◌∙◌, ◌-◌, ◌<◌, ◌≤◌, List, [], length, get_or, sym, subst, arith, true, false}
use Rattle.std.specs.Prelude.{◌⊎◌}
use Rattle.std.specs.Result.{MatchResult}
use Rattle.std.proofs.lemmas.Bool.Decides.{nat_tests}
use Rattle.std.proofs.lemmas.List.{get_or_default}
use Rattle.rinv_ring.specs.Fault.{DegreesMeet}
use Rattle.rinv_defs.specs.System.{Poly}
use Rattle.rinv_parts.specs.declared.law_points.LawPoints.{LawPoints}
use Rattle.rinv_parts.specs.Points.{AreCoordinates, ArePoints, AreStored, IsStoredIn, part_number}
use Rattle.rinv_parts.specs.Substitutions.{IsAgreement, IsLess, IsValue, TakenMeets}
use Rattle.rinv_parts.proofs.Values.{vanish-made, agree-made, give-made, first-made, second-made}
use Rattle.rinv_parts.proofs.taken.made_at.Goals as goal

pub returns-in-Vanish : goal.returns-in-Vanish
returns-in-Vanish c x s =
    let p = c.args.ring.now.coeffs in
    let v = c.args.ring.now.vars in
    let fs : List Poly = c.args.fs.now in
    let k = c.args.place in
    let f : Poly = c.index-fs-place.result in
    let few : k < length fs = subst (λ (points : LawPoints). k < part_number (length fs) points) c.in-Vanish.is c.requires.inside in
    let is : f ≡ get_or fs k [] = c.index-fs-place.is ∙ get_or_default fs k f [] few in
    vanish-made p v fs k c.value.result c.in-Vanish.point
    (λ y h. subst (λ (g : Poly). MatchResult c.value.result (IsValue p v y g) (DegreesMeet (TakenMeets p v y g))) is (c.value.ensures y (subst (AreStored p v y) (sym c.deref.ensures.value) h)))
    x (subst (ArePoints p v x) c.in-Vanish.is s)

pub returns-in-Agree : goal.returns-in-Agree
returns-in-Agree c x s =
    let p = c.args.ring.now.coeffs in
    let v = c.args.ring.now.vars in
    let fs : List Poly = c.args.fs.now in
    let k = c.args.place in
    let f : Poly = c.index-fs-place-in-Agree.result in
    let few : k < length fs = subst (λ (points : LawPoints). k < part_number (length fs) points) c.in-Agree.is c.requires.inside in
    let is : f ≡ get_or fs k [] = c.index-fs-place-in-Agree.is ∙ get_or_default fs k f [] few in
    let result = c.difference_of_values.result in
    agree-made p v fs k result c.in-Agree.first c.in-Agree.second
    (λ y z h j. subst (λ (g : Poly). MatchResult result (IsAgreement p v y z g) (DegreesMeet (λ m n. TakenMeets p v y g m n ⊎ TakenMeets p v z g m n))) is
    (c.difference_of_values.ensures y z (subst (AreStored p v y) (sym c.deref-in-Agree.ensures.value) h) (subst (AreStored p v z) (sym c.deref-in-Agree-2.ensures.value) j)))
    x (subst (ArePoints p v x) c.in-Agree.is s)

pub returns-in-Give : goal.returns-in-Give
returns-in-Give c x s =
    let p = c.args.ring.now.coeffs in
    let v = c.args.ring.now.vars in
    let fs : List Poly = c.args.fs.now in
    let k = c.args.place in
    let f : Poly = c.index-fs-place-in-Give.result in
    let g : Poly = c.index.result.now in
    let zs : List Poly = c.in-Give.values.items in
    let forms = subst (AreCoordinates p v c.args.from.now.vars (length fs)) c.in-Give.is c.requires.points in
    let few : k < length fs = subst (λ (points : LawPoints). k < part_number (length fs) points) c.in-Give.is c.requires.inside in
    let low : k < length zs = omega (arith, few, forms.1.many) in
    let is : f ≡ get_or fs k [] = c.index-fs-place-in-Give.is ∙ get_or_default fs k f [] few in
    let wanted : g ≡ get_or zs k [] = c.index.ensures ∙ get_or_default zs k g [] low in
    let result = c.difference_from.result in
    give-made p v fs k result c.in-Give.point c.in-Give.values low
    (λ y h here there. subst (λ (e : Poly). MatchResult result (IsLess p v y e h) (DegreesMeet (TakenMeets p v y e))) is
    (c.difference_from.ensures y h (subst (AreStored p v y) (sym c.deref-in-Give.ensures.value) here) (subst (IsStoredIn p v h) (sym wanted) there)))
    x (subst (ArePoints p v x) c.in-Give.is s)

pub returns-then-place-count : goal.returns-then-place-count
returns-then-place-count c x s =
    let p = c.args.ring.now.coeffs in
    let v = c.args.ring.now.vars in
    let fs : List Poly = c.args.fs.now in
    let k = c.args.place in
    let f : Poly = c.index-fs-place-then-place-count.result in
    let g : Poly = c.index-then-place-count.result.now in
    let zs : List Poly = c.in-GiveBoth.values.items in
    let forms = subst (AreCoordinates p v c.args.from.now.vars (length fs)) c.in-GiveBoth.is c.requires.points in
    let few : k < length fs = omega (arith, c.if-place-count.true) in
    let low : k < length zs = omega (arith, few, forms.2.many) in
    let is : f ≡ get_or fs k [] = c.index-fs-place-then-place-count.is ∙ get_or_default fs k f [] few in
    let wanted : g ≡ get_or zs k [] = c.index-then-place-count.ensures ∙ get_or_default zs k g [] low in
    let result = c.difference_from-then-place-count.result in
    first-made p v fs k result c.in-GiveBoth.first c.in-GiveBoth.second c.in-GiveBoth.values (grind (arith, nat_tests, few)) low
    (λ y h here there. subst (λ (e : Poly). MatchResult result (IsLess p v y e h) (DegreesMeet (TakenMeets p v y e))) is
    (c.difference_from-then-place-count.ensures y h (subst (AreStored p v y) (sym c.deref-then-place-count.ensures.value) here) (subst (IsStoredIn p v h) (sym wanted) there)))
    x (subst (ArePoints p v x) c.in-GiveBoth.is s)

pub returns-else-place-count : goal.returns-else-place-count
returns-else-place-count c x s =
    let p = c.args.ring.now.coeffs in
    let v = c.args.ring.now.vars in
    let fs : List Poly = c.args.fs.now in
    let k = c.args.place in
    let j = k - length fs in
    let f : Poly = c.index-fs-k.result in
    let g : Poly = c.index-else-place-count.result.now in
    let zs : List Poly = c.in-GiveBoth.values.items in
    let forms = subst (AreCoordinates p v c.args.from.now.vars (length fs)) c.in-GiveBoth.is c.requires.points in
    let inside = subst (λ (points : LawPoints). k < part_number (length fs) points) c.in-GiveBoth.is c.requires.inside in
    let high : length fs ≤ k = omega (arith, c.if-place-count.false) in
    let few : j < length fs = omega (arith, inside, high) in
    let low : j < length zs = omega (arith, few, forms.2.many) in
    let is : f ≡ get_or fs j [] = c.index-fs-k.is ∙ get_or_default fs j f [] few in
    let wanted : g ≡ get_or zs j [] = c.index-else-place-count.ensures ∙ get_or_default zs j g [] low in
    let result = c.difference_from-else-place-count.result in
    second-made p v fs k result c.in-GiveBoth.first c.in-GiveBoth.second c.in-GiveBoth.values j (omega arith) (grind (arith, nat_tests, high)) low
    (λ y h here there. subst (λ (e : Poly). MatchResult result (IsLess p v y e h) (DegreesMeet (TakenMeets p v y e))) is
    (c.difference_from-else-place-count.ensures y h (subst (AreStored p v y) (sym c.deref-else-place-count.ensures.value) here) (subst (IsStoredIn p v h) (sym wanted) there)))
    x (subst (ArePoints p v x) c.in-GiveBoth.is s)
