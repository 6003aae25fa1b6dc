-- Lists of names, word by word.
use Rattle.std.proofs.Common.{◌≡◌, ℕ, zero, suc, ◌+◌, ◌<◌, List, [], ◌∷◌, ◌++◌, take, drop, length, get_or, map, Bool, true, false, not, ◌&&◌, ◌||◌, ◌==◌, IsTrue, IsFalse, bytes_eq, refl, sym, ap, subst, ◌∙◌, arith}
use Rattle.std.specs.List.{list_all, list_any}
use Rattle.std.specs.Str.{IsAscii}
use Rattle.std.proofs.lemmas.Bool.Decides.{nat_tests}
use Rattle.std.proofs.lemmas.List.{get_or-map, length-map}
use Rattle.std.proofs.lemmas.List.Folds.{list_any-append}
use Rattle.std.proofs.lemmas.List.Sums.{AllPass-from_list_all}
use Rattle.rinv_algebra.proofs.Same.{both}
use Rattle.rinv_defs.specs.Names.{is_letter, is_digit, is_plain_name, is_symbol}
use Rattle.rinv_text.specs.Tokens.{is_name_byte}
use Rattle.rinv_text.specs.Names.{is_new_name}
use Rattle.rinv_system.specs.Entries.{is_name_word}
use Rattle.rinv_system.specs.Forms.{AreNewNames, HasOldName}
use Rattle.rinv_system.proofs.Mapped.{mapped_more, mapped_split}

name_byte-ascii : (b : ℕ) → is_name_byte b ≡ true → b < 128
name_byte-ascii b h = grind (arith, nat_tests)

name_bytes-ascii : (bs : List ℕ) → list_all is_name_byte bs ≡ true → (i : ℕ) → get_or bs i 0 < 128
name_bytes-ascii [] h i = omega arith
name_bytes-ascii (b ∷ bs) h zero = name_byte-ascii b (both (is_name_byte b) (list_all is_name_byte bs) h).0
name_bytes-ascii (b ∷ bs) h (suc i) = name_bytes-ascii bs (both (is_name_byte b) (list_all is_name_byte bs) h).1 i

letter-name_byte : (a b c : Bool) → a ≡ true → (a || b || c) ≡ true
letter-name_byte true b c h = refl
letter-name_byte false b c h = absurd (cc)

-- the bytes of a name are ASCII
pub name_word-ascii : (w : List ℕ) → IsTrue (is_name_word w) → IsAscii w
name_word-ascii [] h i = absurd (let e : false ≡ true = h in cc)
name_word-ascii (b ∷ bs) h zero = name_byte-ascii b (letter-name_byte (is_letter b) (is_digit b) (b == 95) (both (is_letter b) (list_all is_name_byte bs) h).0)
name_word-ascii (b ∷ bs) h (suc i) = name_bytes-ascii bs (both (is_letter b) (list_all is_name_byte bs) h).1 i

apart : (a b c d : Bool) → (a && b && not (c || d)) ≡ ((a && b && not d) && (a && b && not c))
apart false b c d = refl
apart true false c d = refl
apart true true true true = refl
apart true true true false = refl
apart true true false true = refl
apart true true false false = refl

-- a name is new behind two lists where it is so behind each
pub is_new_name-append : (earlier names : List (List ℕ)) (w : List ℕ) → is_new_name (earlier ++ names) w ≡ (is_new_name names w && is_new_name earlier w)
is_new_name-append earlier names w = rw (list_any-append (bytes_eq w) earlier names) (apart (is_plain_name w) (not (is_symbol w)) (list_any (bytes_eq w) earlier) (list_any (bytes_eq w) names))

-- words that are seen through f, as far as a place
module _ {X : Type 0} (f : X → List ℕ) (xs : List X) (earlier names : List (List ℕ)) (k : ℕ) (d : X) (w : List ℕ) where
  -- one word more is new
  pub AreNewNames-more : (more : List (List ℕ)) → k < length xs → w ≡ f (get_or xs k d) → names ≡ take k (map f xs) → AreNewNames earlier (take k (map f xs))
      → IsTrue (is_new_name (earlier ++ names) w) → more ≡ names ++ w ∷ [] → (more ≡ take (k + 1) (map f xs)) × AreNewNames earlier (take (k + 1) (map f xs))
  AreNewNames-more more lt is are old new pushed =
      let next : take (k + 1) (map f xs) ≡ take k (map f xs) ++ w ∷ [] = mapped_more f xs k d lt ∙ ap (λ v. take k (map f xs) ++ v ∷ []) (sym is) in
      (pushed ∙ ap (λ ns. ns ++ w ∷ []) are ∙ sym next, subst (AreNewNames earlier) (sym next) (AreNewNames.one_more w old (subst (λ ns. IsTrue (is_new_name (earlier ++ ns) w)) are new)))

  -- or is the first that is not
  pub HasOldName-at : k < length xs → w ≡ f (get_or xs k d) → names ≡ take k (map f xs) → AreNewNames earlier (take k (map f xs))
      → IsFalse (is_new_name (earlier ++ names) w) → HasOldName earlier (map f xs)
  HasOldName-at lt is are old bad =
      HasOldName.old (take k (map f xs)) w (drop (k + 1) (map f xs)) (mapped_split f xs k d lt ∙ ap (λ v. take k (map f xs) ++ v ∷ drop (k + 1) (map f xs)) (sym is))
      old (subst (λ ns. IsFalse (is_new_name (earlier ++ ns) w)) are bad)

-- each word of a list of name words is one
pub name_word-at : {X : Type 0} (f : X → List ℕ) (xs : List X) (k : ℕ) (d : X) → k < length xs → list_all is_name_word (map f xs) ≡ true → IsTrue (is_name_word (f (get_or xs k d)))
name_word-at f xs k d lt h = ap is_name_word (sym (get_or-map f xs k d [] lt)) ∙ AllPass-from_list_all is_name_word (map f xs) h k [] (subst (λ n. k < n) (sym (length-map xs f)) lt)
