-- A run whose terms go one after another.
use Rattle.std.proofs.Common.{◌≡◌, ◌≢◌, ℕ, ◌+◌, ◌==◌, true, false, true≢false, List, [], ◌∷◌, Option, Some, None, is_some, refl, sym, ap, ◌∙◌, arith}
use Rattle.rinv_pool.specs.Pools.{Pool, Changes, Takes, is_in_use, row_at, runs_in, runs_in_use, terms_in, terms_of}

module _ {T : Type 0} where
  -- a row in use is that of its terms
  pub row-used : (row : Option (List T)) → is_some row ≡ true → row ≡ Some (terms_in row)
  row-used None used = absurd (true≢false (sym used))
  row-used (Some ts) used = refl

  pub used-row : (row : Option (List T)) (ts : List T) → row ≡ Some ts → is_some row ≡ true
  used-row row ts e = ap is_some e

  pub terms-of-row : (row : Option (List T)) (ts : List T) → row ≡ Some ts → terms_in row ≡ ts
  terms-of-row row ts e = ap terms_in e

  joined : (a b c : ℕ) (x y z w : Option (List T)) → y ≡ z → b + runs_in x ≡ a + runs_in z → c + runs_in y ≡ b + runs_in w → c + runs_in x ≡ a + runs_in w
  joined a b c x y z w e first second =
      let same : runs_in y ≡ runs_in z = ap runs_in e in omega (arith, same, first, second)

  -- with no term taken yet
  pub changes-none : (p : Pool T) (r : ℕ) → is_in_use p r ≡ true → Changes p p r (Some (terms_of p r))
  changes-none p r used = record { changed = row-used (row_at p r) used; others = λ k other. refl; in_use = ap (λ (x : Option (List T)). runs_in_use p + runs_in x) (row-used (row_at p r) used) }

  -- with one more term taken
  pub changes-taken : (p q s : Pool T) (r : ℕ) (t : T) (row : Option (List T)) → Changes p q r row → Takes q s r t → Changes p s r (Some (terms_of s r))
  changes-taken p q s r t row first second = record { changed = second.rows.changed; others = λ k other. second.rows.others k other ∙ first.others k other; in_use = joined (runs_in_use p) (runs_in_use q) (runs_in_use s) (row_at p r) (row_at q r) row (Some (terms_of s r)) first.changed first.in_use second.rows.in_use }

  -- two changes of one row
  pub changes-twice : (p q s : Pool T) (r : ℕ) (row last : Option (List T)) → Changes p q r row → Changes q s r last → Changes p s r last
  changes-twice p q s r row last first second = record { changed = second.changed; others = λ k other. second.others k other ∙ first.others k other; in_use = joined (runs_in_use p) (runs_in_use q) (runs_in_use s) (row_at p r) (row_at q r) row last first.changed first.in_use second.in_use }
