use Rattle.std.proofs.Common.{◌+◌, map, sym, subst}
use Rattle.rinv_defs.specs.System.{space_count}
use Rattle.rinv_poly.proofs.Meets.{meet-weaker}
use Rattle.rinv_script.specs.declared.form.Query.{Query as StoredQuery}
use Rattle.rinv_script.specs.Stored.{IsStoredQuery, query_of}
use Rattle.rinv_queries.specs.Cuts.{IsMetAt, QueryMeets}
use Rattle.rinv_queries.specs.Known.{fractions_of, Suffices}
use Rattle.rinv_queries.proofs.KnownFacts.{known-laws}
use Rattle.rinv_queries.proofs.Pages.{image-holds}
use Rattle.rinv_bench.proofs.Outcomes.{none, one-more, all, met-at}
use Rattle.rinv_bench.proofs.answering.outcomes_of.Goals as goal

pub queries-init : goal.queries-init
queries-init c = none c.args.system.now.system (fractions_of c.args.known.now) c.args.queries.now _ c.new-outcomes.ensures.items

pub outcome-requires-clause-query : goal.outcome-requires-clause-query
outcome-requires-clause-query c =
    let s = c.args.system.now.system in
    subst (λ (q : StoredQuery). IsStoredQuery s.p (space_count s) (query_of q)) (sym c.index-queries-k.is)
    (image-holds (IsStoredQuery s.p (space_count s)) query_of c.args.queries.now c.queries.k _ c.queries-test.true c.requires.queries)

pub outcome-requires-clause-enough : goal.outcome-requires-clause-enough
outcome-requires-clause-enough c =
    subst (λ (q : StoredQuery). Suffices c.args.known.now (query_of q)) (sym c.index-queries-k.is)
    (image-holds (Suffices c.args.known.now) query_of c.args.queries.now c.queries.k _ c.queries-test.true c.requires.enough)

pub queries-preserved : goal.queries-preserved
queries-preserved c =
    one-more c.args.system.now.system (fractions_of c.args.known.now) c.args.queries.now c.queries.k _ c.index-queries-k.result c.queries.outcomes.items _ c.in-Ok.found
    c.queries-test.true c.index-queries-k.is c.in-Ok.ensures.answers c.in-Ok.ensures.stored c.in-Ok-push.ensures.items c.queries.invariant

pub returns-in-Err-clause-stop : goal.returns-in-Err-clause-stop
returns-in-Err-clause-stop c =
    let told = c.args.system.now in
    let queries = c.args.queries.now in
    c.cut.ensures told (map query_of queries) (known-laws told c.args.known.now c.requires.known)
    (meet-weaker (QueryMeets told (query_of c.index-queries-k.result)) (IsMetAt told (map query_of queries) (c.queries.k + 1))
    (λ x y h. met-at told queries c.queries.k _ c.index-queries-k.result x y c.queries-test.true c.index-queries-k.is h)
    c.in-Err.fault c.in-Err.ensures.degree)

pub returns-clause-answered : goal.returns-clause-answered
returns-clause-answered c = all c.args.system.now.system (fractions_of c.args.known.now) c.args.queries.now c.queries.k _ c.queries-test.false c.queries.invariant

pub returns-clause-stored : goal.returns-clause-stored
returns-clause-stored c = c.queries.invariant.stored
