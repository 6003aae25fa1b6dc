-- Where polynomials may come, the first three lines have, and their names are in order.
use Rattle.std.proofs.Common.{◌≡◌, Bool, true, false, not, IsTrue, Option, Some, None, if◌then◌else◌, refl}
use Rattle.std.specs.List.{list_any}
use Rattle.rinv_algebra.specs.Residue.{is_listed}
use Rattle.rinv_text.specs.Names.{meet, has_prime}
use Rattle.rinv_system.specs.declared.keyword.Keyword.{Keyword}
use Rattle.rinv_system.specs.declared.refused.Code.{Code}
use Rattle.rinv_system.specs.Drafts.{Draft, modulus, group_names, space_names, has_begun, order_fault}
use Rattle.rinv_system.specs.Forms.{TellsPolynomials}
use Rattle.rinv_system.specs.Stops.{IsReached}
use Rattle.rinv_system.proofs.GoodNames.{are_names-plain, are_names-apart}
use Rattle.rinv_system.proofs.Good.{IsGood, AreTaken-good}

pub record IsBegun (d : Draft) : Type 0 where
  pub begun : IsTrue (has_begun d)
  pub listed : IsTrue (is_listed (modulus d))
  pub group : list_any has_prime (group_names d) ≡ false
  pub space : list_any has_prime (space_names d) ≡ false
  pub apart : meet (group_names d) (space_names d) ≡ false

not_missing : (b : Bool) (code : Code) (rest : Option Code) → (if not b then Some code else rest) ≡ None → b ≡ true
not_missing true code rest e = refl
not_missing false code rest e = absurd (cc)

begun-first : {k : Keyword} (d : Draft) → TellsPolynomials k → order_fault d k ≡ None → has_begun d ≡ true
begun-first d TellsPolynomials.ideal_line order = not_missing (has_begun d) _ _ order
begun-first d TellsPolynomials.unit_line order = not_missing (has_begun d) _ _ order
begun-first d TellsPolynomials.product_line order = not_missing (has_begun d) _ _ order
begun-first d TellsPolynomials.inverse_line order = not_missing (has_begun d) _ _ order
begun-first d TellsPolynomials.action_line order = not_missing (has_begun d) _ _ order
begun-first d TellsPolynomials.section_line order = not_missing (has_begun d) _ _ order

false_true : {A : Type 0} → false ≡ true → A
false_true e = absurd (cc)

pub begun-good : {d : Draft} → IsGood d → has_begun d ≡ true → IsBegun d
begun-good IsGood.start h = false_true h
begun-good (IsGood.with_field p listed) h = false_true h
begun-good (IsGood.with_group p group listed names) h = false_true h
begun-good (IsGood.begun p group space d form) h =
    record { begun = h; listed = form.listed; group = are_names-plain _ group form.group_form.form; space = are_names-plain group space form.space_form.form; apart = are_names-apart group space form.space_form.form }

-- a line of polynomials that may come
pub begun-of_order : {k : Keyword} (d : Draft) → IsReached d → TellsPolynomials k → order_fault d k ≡ None → IsBegun d
begun-of_order d reached tells order = begun-good (AreTaken-good reached.1) (begun-first d tells order)
