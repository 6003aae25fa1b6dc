-- A script, and what it asks of its system.
--   asked-of, asked-back
use Rattle.std.proofs.Common.{◌≡◌, List, map, sym, subst}
use Rattle.rinv_text.specs.Told.{Told}
use Rattle.rinv_script.specs.declared.form.Query.{Query as StoredQuery}
use Rattle.rinv_script.specs.Queries.{Script}
use Rattle.rinv_script.specs.Stored.{query_of}
use Rattle.rinv_queries.specs.Commands.Script.{asking}

module _ (P : Script → Type 0) (told : Told) (items slice : List StoredQuery) (script : Script) where
  pub asked-of : asking told (map query_of items) ≡ script → slice ≡ items → P script → P (asking told (map query_of slice))
  asked-of seen same h = subst (λ (qs : List StoredQuery). P (asking told (map query_of qs))) (sym same) (subst P (sym seen) h)

  pub asked-back : asking told (map query_of items) ≡ script → slice ≡ items → P (asking told (map query_of slice)) → P script
  asked-back seen same h = subst P seen (subst (λ (qs : List StoredQuery). P (asking told (map query_of qs))) same h)
