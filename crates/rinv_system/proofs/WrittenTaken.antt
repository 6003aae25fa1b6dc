-- The lines of a written system are taken, and tell the system.
use Rattle.std.proofs.Common.{◌≡◌, ℕ, suc, ◌<◌, ◌≤◌, ◌^◌, List, [], ◌∷◌, ◌++◌, append_assoc, append-nil, length, decimal, refl, sym, ap, ◌∙◌, subst, true, false, ◌==◌, nat_lt, Some, None, arith}
use Rattle.std.specs.List.{list_all}
use Rattle.std.proofs.lemmas.Bool.Decides.{nat_tests}
use Rattle.rinv_algebra.proofs.Same.{both}
use Rattle.rinv_defs.specs.System.{Poly}
use Rattle.rinv_text.specs.Printable.{is_word}
use Rattle.rinv_text.proofs.PrintedBytes.{word-solid}
use Rattle.rinv_system.specs.declared.keyword.Keyword.{Keyword}
use Rattle.rinv_system.specs.Words.{head_of}
use Rattle.rinv_system.specs.Entries.{words_of, is_name_word}
use Rattle.rinv_system.specs.Drafts.{Draft, modulus, names_for, order_fault, length_fault, at_most, exactly}
use Rattle.rinv_system.specs.Forms.{IsRestTaken, TellsNumber, TellsNames, TellsPolynomials, AreNewNames, with_number, with_names, with_polynomials, is_number_for}
use Rattle.rinv_system.specs.LineTexts.{AreTaken}
use Rattle.rinv_system.specs.Texts.{IsLineTaken}
use Rattle.rinv_system.specs.Written.{list_text}
use Rattle.rinv_system.proofs.WrittenEntries.{AreSolid}
use Rattle.rinv_system.proofs.WrittenLines.{IsLineText}
use Rattle.rinv_system.proofs.WrittenRests.{AreTexts, number-read, number-numeral, entries-read, entries-count}

some-line : (line : List ℕ) → IsLineText line → ¬ (line ≡ [])
some-line line h e = let n : 0 ≡ suc (length h.others) = ap length (sym e ∙ h.begins) in omega (arith, n)

-- a line is taken by its word and what follows
pub taken : (d next : Draft) (line : List ℕ) (k : Keyword) (rest : List ℕ) → IsLineText line → head_of line ≡ Some (k, rest) → order_fault d k ≡ None → IsRestTaken d rest k next → AreTaken IsLineTaken d (line ∷ []) next
taken d next line k rest h head order r = AreTaken.one_more line AreTaken.none (IsLineTaken.taken (some-line line h) head order r)

-- lines after lines
pub chained : {d e f : Draft} {xs ys : List (List ℕ)} → AreTaken IsLineTaken d xs e → AreTaken IsLineTaken e ys f → AreTaken IsLineTaken d (xs ++ ys) f
chained {d = d} {e = e} {xs = xs} a AreTaken.none = subst (λ l. AreTaken IsLineTaken d l e) (sym (append-nil xs)) a
chained {d = d} {f = f} {xs = xs} a (AreTaken.one_more {lines = ls} line b t) = subst (λ l. AreTaken IsLineTaken d l f) (append_assoc xs ls (line ∷ [])) (AreTaken.one_more line (chained a b) t)

-- ---- what follows a word

pub number-taken : (d : Draft) (k : Keyword) (n : ℕ) → TellsNumber k → n < 2 ^ 64 → is_number_for k n ≡ true → IsRestTaken d (decimal n) k (with_number d k n)
number-taken d k n tells small good =
    subst (λ m. is_number_for k m ≡ true → IsRestTaken d (decimal n) k (with_number d k m)) (number-read n small) (λ is. IsRestTaken.a_number tells (number-numeral n small) is) good

pub names-solid : (ws : List (List ℕ)) → list_all is_word ws ≡ true → AreSolid ws
names-solid [] h = tt
names-solid (w ∷ ws) h = let p = both (is_word w) (list_all is_word ws) h in (word-solid w p.0, names-solid ws p.1)

pub names-taken : (d : Draft) (k : Keyword) (earlier ws : List (List ℕ)) (rest : List ℕ) → TellsNames d k earlier → words_of rest ≡ ws → list_all is_name_word ws ≡ true → length_fault d k (length ws) ≡ None → AreNewNames earlier ws → IsRestTaken d rest k (with_names d k ws)
names-taken d k earlier ws rest tells is words few new =
    subst (λ v. list_all is_name_word v ≡ true → length_fault d k (length v) ≡ None → AreNewNames earlier v → IsRestTaken d rest k (with_names d k v)) is (λ a b c. IsRestTaken.some_names tells a b c) words few new

pub polynomials-taken : (d : Draft) (k : Keyword) (ss : List (List ℕ)) (fs : List Poly) → TellsPolynomials k → 1 ≤ length fs → length_fault d k (length fs) ≡ None → AreTexts (modulus d) (names_for d k) ss fs → IsRestTaken d (list_text ss) k (with_polynomials d k fs)
polynomials-taken d k ss fs tells some right texts =
    IsRestTaken.some_polynomials tells (ap (length_fault d k) (entries-count (modulus d) (names_for d k) ss fs some texts) ∙ right) (entries-read (modulus d) (names_for d k) ss fs some texts)

pub within : (bound n : ℕ) → n ≤ bound → at_most bound n ≡ None
within bound n le = let off : nat_lt bound n ≡ false = grind (arith, nat_tests) in rw off refl

pub as-many : (wanted n : ℕ) → n ≡ wanted → exactly wanted n ≡ None
as-many wanted n is = let on : (n == wanted) ≡ true = grind (arith, nat_tests) in rw on refl
