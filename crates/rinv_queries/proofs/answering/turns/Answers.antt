use Rattle.std.proofs.Common.{◌≡◌, ◌∙◌, ◌+◌, ◌<◌, ◌≤◌, ◌++◌, ◌∷◌, [], ℕ, List, map, take, drop, length, sym, subst, ap, arith}
use Rattle.rinv_defs.specs.System.{space_count}
use Rattle.rinv_script.specs.declared.form.Query.{Query as StoredQuery}
use Rattle.rinv_script.specs.Queries.{Query}
use Rattle.rinv_script.specs.Stored.{IsStoredQuery, query_of}
use Rattle.rinv_queries.specs.Known.{fractions_of, Suffices}
use Rattle.rinv_queries.specs.Written.{IsPage, IsTurn}
use Rattle.rinv_queries.proofs.Pages.{image-holds, images-more, images-number, images-parted, page-begins, page-more}
use Rattle.rinv_queries.proofs.answering.turns.Goals as goal

pub queries-init : goal.queries-init
queries-init c = page-begins c.args.system.now.system (fractions_of c.args.known.now) c.args.page c.requires.fresh

pub turn-requires-clause-query : goal.turn-requires-clause-query
turn-requires-clause-query c =
    let s = c.args.system.now.system in
    let within : c.queries.k < length c.args.queries.now = omega (arith, c.queries-test.true, c.queries.auto.k-end) in
    subst (λ (q : StoredQuery). IsStoredQuery s.p (space_count s) (query_of q)) (sym c.index-queries-k.is) (image-holds (IsStoredQuery s.p (space_count s)) query_of c.args.queries.now c.queries.k _ within c.requires.queries)

pub turn-requires-clause-enough : goal.turn-requires-clause-enough
turn-requires-clause-enough c =
    let within : c.queries.k < length c.args.queries.now = omega (arith, c.queries-test.true, c.queries.auto.k-end) in
    subst (λ (q : StoredQuery). Suffices c.args.known.now (query_of q)) (sym c.index-queries-k.is) (image-holds (Suffices c.args.known.now) query_of c.args.queries.now c.queries.k _ within c.requires.enough)

pub returns-in-Err-Degree-clause-stop : goal.returns-in-Err-Degree-clause-stop
returns-in-Err-Degree-clause-stop c =
    let within : c.queries.k < length c.args.queries.now = omega (arith, c.queries-test.true, c.queries.auto.k-end) in
    let low : c.queries.k ≤ length c.args.queries.now = omega (arith, within) in
    rw (c.in-Err-Degree.left-is, c.in-Err-Degree.right-is) (record {
      before = map query_of (take c.queries.k c.args.queries.now);
      query = query_of c.index-queries-k.result;
      after = map query_of (drop (c.queries.k + 1) c.args.queries.now);
      whole = images-parted query_of c.args.queries.now c.queries.k _ within
          ∙ ap (λ (q : StoredQuery). map query_of (take c.queries.k c.args.queries.now) ++ query_of q ∷ map query_of (drop (c.queries.k + 1) c.args.queries.now)) (sym c.index-queries-k.is);
      number = ap (λ (n : ℕ). n + 1) (sym (images-number query_of c.args.queries.now c.queries.k low));
      meets = rw c.in-Err-Degree.field-0-is at c.in-Err-Degree.ensures.degree;
    })

pub queries-preserved : goal.queries-preserved
queries-preserved c =
    let s = c.args.system.now.system in
    let cs = fractions_of c.args.known.now in
    let within : c.queries.k < length c.args.queries.now = omega (arith, c.queries-test.true, c.queries.auto.k-end) in
    let low : c.queries.k ≤ length c.args.queries.now = omega (arith, within) in
    subst (λ (qs : List Query). IsPage s cs c.args.page.shown c.args.page.text.items qs c.turn.new.page)
    (sym (images-more query_of c.args.queries.now c.queries.k _ within
    ∙ ap (λ (q : StoredQuery). map query_of (take c.queries.k c.args.queries.now) ++ query_of q ∷ []) (sym c.index-queries-k.is)))
    (page-more s cs c.args.page.shown c.args.page.text.items (map query_of (take c.queries.k c.args.queries.now)) (query_of c.index-queries-k.result) c.queries.page _ c.queries.invariant
    (subst (λ (n : ℕ). IsTurn s cs n (query_of c.index-queries-k.result) c.queries.page c.turn.new.page) (ap (λ (n : ℕ). n + 1) (sym (images-number query_of c.args.queries.now c.queries.k low))) c.in-Ok.ensures.answered))
