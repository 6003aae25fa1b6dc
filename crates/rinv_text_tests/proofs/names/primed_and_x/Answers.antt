use Rattle.std.proofs.Common.{◌≡◌, [], ◌∷◌, List, ℕ, codes, false, refl}
use Rattle.std.specs.List.{list_any}
use Rattle.rinv_text.specs.Names.{has_prime, meet, copies}
use Rattle.rinv_text_tests.proofs.names.primed_and_x.Goals as goal

plain : (names : List (List ℕ)) → names ≡ codes "a" ∷ [] → list_any has_prime names ≡ false
plain names is = rw is refl

apart : (names all others : List (List ℕ)) → names ≡ codes "a" ∷ [] → all ≡ copies 3 names → others ≡ codes "x" ∷ [] → meet all others ≡ false
apart names all others is are other = rw (are, is, other) refl

pub copies-requires-clause-plain : goal.copies-requires-clause-plain
copies-requires-clause-plain c = plain _ c.in_ok-a.ensures

pub joined-requires : goal.joined-requires
joined-requires c = apart _ _ _ c.in_ok-a.ensures c.in_ok-copies.ensures c.in_ok-x.ensures
