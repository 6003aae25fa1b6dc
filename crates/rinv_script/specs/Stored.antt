-- Queries as they are stored, and what a script's fractions are.
use Rattle.std.specs.Prelude.{ℕ, ⊤, All}
use Rattle.rinv_defs.specs.System.{space_count}
use Rattle.rinv_defs.specs.SystemForm.{IsSystem}
use Rattle.rinv_frac.specs.Fractions.{IsStored}
use Rattle.rinv_script.specs.declared.form.Query.{Query as StoredQuery}
use Rattle.rinv_script.specs.declared.form.Query.TheVariants as stored
use Rattle.rinv_script.specs.Queries.{Query, Script, for_laws, for_generators, whether_invariant, for_expression}

-- the query
abbrev pub query_of : StoredQuery → Query
query_of stored.Laws = for_laws
query_of stored.Generators = for_generators
query_of (stored.Invariant f) = whether_invariant f
query_of (stored.Rewrite f) = for_expression f

-- its fraction is in v variables, and as it is stored
abbrev pub IsStoredQuery : (p v : ℕ) → Query → Type 0
IsStoredQuery p v for_laws = ⊤
IsStoredQuery p v for_generators = ⊤
IsStoredQuery p v (whether_invariant f) = IsStored p v f
IsStoredQuery p v (for_expression f) = IsStored p v f

-- the system has its form, and so have the fractions, in the space's variables
pub record IsStoredScript (script : Script) : Type 0 where
  pub form : IsSystem script.told.system
  pub queries : All (IsStoredQuery script.told.system.p (space_count script.told.system)) script.queries
