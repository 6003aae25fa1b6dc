-- What the lines so far told, and which line may come next.
use Rattle.std.specs.Prelude.{ℕ, List, [], ◌++◌, length, Bool, not, ◌&&◌, ◌||◌, ◌==◌, nat_lt, if◌then◌else◌, Option, Some, None, unwrap_or}
use Rattle.std.specs.Option.{is_some}
use Rattle.rinv_defs.specs.System.{Poly}
use Rattle.rinv_text.specs.declared.fault.TextCode.TheVariants.{Limit}
use Rattle.rinv_text.specs.Names.{copies}
use Rattle.rinv_system.specs.declared.keyword.Keyword.{Keyword}
use Rattle.rinv_system.specs.declared.keyword.Keyword.TheVariants.{Field, Group, Space, Ideal, Unit, Product, Inverse, Action, Section, Pairs, Steps}
use Rattle.rinv_system.specs.declared.refused.Code.{Code}
use Rattle.rinv_system.specs.declared.refused.Code.TheVariants.{Missing, Twice, Count, Text}

-- each part of a system, where its line has come
pub record Draft : Type 0 where
  pub field : Option ℕ
  pub group : Option (List (List ℕ))
  pub space : Option (List (List ℕ))
  pub ideal : Option (List Poly)
  pub unit : Option (List ℕ)
  pub product : Option (List Poly)
  pub inverse : Option (List Poly)
  pub action : Option (List Poly)
  pub section : Option (List Poly)
  pub pairs : Option ℕ
  pub steps : Option ℕ

-- before the first line
abbrev pub blank : Draft
blank = record { field = None; group = None; space = None; ideal = None; unit = None; product = None; inverse = None; action = None; section = None; pairs = None; steps = None }

abbrev pub modulus : Draft → ℕ
modulus d = unwrap_or d.field 2

abbrev pub group_names : Draft → List (List ℕ)
group_names d = unwrap_or d.group []

abbrev pub space_names : Draft → List (List ℕ)
space_names d = unwrap_or d.space []

-- ---- the order of lines

-- whether the line of a word has come
abbrev pub has_come : Draft → Keyword → Bool
has_come d Field = is_some d.field
has_come d Group = is_some d.group
has_come d Space = is_some d.space
has_come d Ideal = is_some d.ideal
has_come d Unit = is_some d.unit
has_come d Product = is_some d.product
has_come d Inverse = is_some d.inverse
has_come d Action = is_some d.action
has_come d Section = is_some d.section
has_come d Pairs = is_some d.pairs
has_come d Steps = is_some d.steps

-- the first three lines have come
abbrev pub has_begun : Draft → Bool
has_begun d = is_some d.field && is_some d.group && is_some d.space

-- whether the line of a word may come now: field, group and space are the first three, in this order
abbrev pub may_come : Draft → Keyword → Bool
may_come d Field = has_begun d || not (is_some d.field)
may_come d Group = has_begun d || is_some d.field && not (is_some d.group)
may_come d Space = has_begun d || is_some d.field && is_some d.group && not (is_some d.space)
may_come d _ = has_begun d

-- how a word is refused after the lines so far
abbrev pub order_fault : Draft → Keyword → Option Code
order_fault d k = if not (may_come d k) then Some Missing else if has_come d k then Some Twice else None

-- whether all lines that are needed have come
abbrev pub is_whole : Draft → Bool
is_whole d = has_begun d && is_some d.unit && is_some d.product && is_some d.inverse && is_some d.action

-- ---- the lengths and names of lists

-- how a list of such a length is refused
abbrev pub at_most : ℕ → ℕ → Option Code
at_most bound count = if nat_lt bound count then Some (Text Limit) else None

abbrev pub exactly : ℕ → ℕ → Option Code
exactly wanted count = if count == wanted then None else Some Count

abbrev pub length_fault : Draft → Keyword → ℕ → Option Code
length_fault d Group count = at_most 8 count
length_fault d Space count = at_most 8 count
length_fault d Ideal count = at_most 64 count
length_fault d Section count = at_most 64 count
length_fault d Unit count = exactly (length (group_names d)) count
length_fault d Product count = exactly (length (group_names d)) count
length_fault d Inverse count = exactly (length (group_names d)) count
length_fault d Action count = exactly (length (space_names d)) count
length_fault d _ count = None

-- the names that the polynomials of a line may have
abbrev pub names_for : Draft → Keyword → List (List ℕ)
names_for d Product = copies 2 (group_names d)
names_for d Action = group_names d ++ space_names d
names_for d Section = space_names d
names_for d Unit = []
names_for d _ = group_names d
