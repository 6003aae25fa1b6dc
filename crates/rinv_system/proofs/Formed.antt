-- The system that a text denotes has the form of a system.
use Rattle.std.proofs.Common.{◌≡◌, ℕ, ◌+◌, ◌*◌, List, [], length, Bool, true, false, ◌&&◌, ◌==◌, IsTrue, nat_lt, nat_le, Option, Some, None, unwrap_or, ◌≤◌, refl, sym, subst, arith}
use Rattle.std.specs.List.{list_all}
use Rattle.std.specs.Option.{IfSome, is_some}
use Rattle.std.proofs.lemmas.Bool.Decides.{nat_tests}
use Rattle.rinv_algebra.proofs.Same.{both, and_true}
use Rattle.rinv_defs.specs.SystemForm.{IsSystem}
use Rattle.rinv_defs.specs.Names.{is_between, are_names}
use Rattle.rinv_text.specs.Told.{Told}
use Rattle.rinv_system.specs.Drafts.{Draft, is_whole}
use Rattle.rinv_system.specs.Texts.{IsSystemText, system_of}
use Rattle.rinv_system.proofs.GoodLists.{are_normal, are_so_many}
use Rattle.rinv_system.proofs.Good.{IsGood, HasForm, AreGoodNames, with_first, AreTaken-good}

-- eight conditions, and two of the section
all-of : (a b c d e f g h i j : Bool) → a ≡ true → b ≡ true → c ≡ true → d ≡ true → e ≡ true → f ≡ true → g ≡ true → h ≡ true → (i && j) ≡ true → ((a && (b && (c && (d && (e && (f && (g && (h && true)))))))) && i && j) ≡ true
all-of a b c d e f g h i j p q r s t u v w x = rw (p, q, r, s, t, u, v, w) x

at_least-one : (n : ℕ) → 1 ≤ n → nat_le 1 n ≡ true
at_least-one n h = grind (arith, nat_tests)

named : {earlier names : List (List ℕ)} → AreGoodNames earlier names → (is_between 1 8 (length names) && are_names earlier names) ≡ true
named {earlier = earlier} {names = names} good =
    and_true (is_between 1 8 (length names)) (are_names earlier names) (and_true (nat_le 1 (length names)) (nat_le (length names) 8) (at_least-one (length names) good.some) good.few) good.form

-- a part that has come, and one that may be missing
of_part : {A : Type 0} (test : A → Bool) (o : Option A) (d : A) → is_some o ≡ true → IfSome o (λ x. IsTrue (test x)) → test (unwrap_or o d) ≡ true
of_part test None d some h = absurd (let f : false ≡ true = some in cc)
of_part test (Some x) d some h = h

or_empty : {A : Type 0} (test : A → Bool) (o : Option A) (d : A) → test d ≡ true → IfSome o (λ x. IsTrue (test x)) → test (unwrap_or o d) ≡ true
or_empty test None d empty h = empty
or_empty test (Some x) d empty h = h

module _ (p : ℕ) (group space : List (List ℕ)) (d : Draft) (form : HasForm p group space d) (whole : is_whole (with_first p group space d) ≡ true) where
  parts : (is_some d.unit ≡ true) × (is_some d.product ≡ true) × (is_some d.inverse ≡ true) × (is_some d.action ≡ true)
  parts =
      let a = both (true && is_some d.unit && is_some d.product && is_some d.inverse) (is_some d.action) whole in
      let b = both (true && is_some d.unit && is_some d.product) (is_some d.inverse) a.0 in
      let c = both (true && is_some d.unit) (is_some d.product) b.0 in
      (c.0, c.1, b.1, a.1)

  begun-formed : IsSystem (system_of (with_first p group space d))
  begun-formed =
      let l = length group in let n = length space in
      all-of _ _ _ _ _ _ _ _ _ _ form.listed (named form.group_form) (named form.space_form)
      (or_empty (λ fs. nat_le (length fs) 64 && are_normal p l fs) d.ideal [] refl form.ideal)
      (of_part (λ cs. length cs == l && list_all (λ c. nat_lt c p) cs) d.unit [] parts.0 form.unit)
      (of_part (are_so_many p l (2 * l)) d.product [] parts.1 form.product)
      (of_part (are_so_many p l l) d.inverse [] parts.2 form.inverse)
      (of_part (are_so_many p n (l + n)) d.action [] parts.3 form.action)
      (or_empty (λ fs. nat_le (length fs) 64 && are_normal p n fs) d.section [] refl form.section)

false_true : {A : Type 0} → false ≡ true → A
false_true e = absurd (cc)

pub good-formed : {d : Draft} → IsGood d → is_whole d ≡ true → IsSystem (system_of d)
good-formed IsGood.start h = false_true h
good-formed (IsGood.with_field p listed) h = false_true h
good-formed (IsGood.with_group p group listed names) h = false_true h
good-formed (IsGood.begun p group space d form) h = begun-formed p group space d form h

-- each text's system has its form
pub IsSystemText-formed : (text : List ℕ) (told : Told) → IsSystemText text told → IsSystem told.system
IsSystemText-formed text told h = subst (λ t. IsSystem t.system) (sym h.is) (good-formed (AreTaken-good h.is_text.taken) h.is_text.whole)
