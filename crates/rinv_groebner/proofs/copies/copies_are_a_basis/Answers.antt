use Rattle.rinv_groebner.proofs.CopiesLists.{copies-nonzero, copies-in_variables}
use Rattle.rinv_groebner.proofs.CopiesBasis.{copies-basis}
use Rattle.rinv_groebner.proofs.copies.copies_are_a_basis.Goals as goal

pub returns : goal.returns
returns g c = record {
  basis = λ o c v n fs hs l field in_v b. copies-basis o l field c v n fs hs in_v b;
  nonzero = λ o c v hs h. copies-nonzero o c v hs h;
  variables = λ c v n hs h. copies-in_variables c v n hs h;
}
