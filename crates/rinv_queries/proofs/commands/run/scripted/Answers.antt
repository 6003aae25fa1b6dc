use Rattle.std.proofs.Common.{map}
use Rattle.rinv_script.specs.Stored.{query_of}
use Rattle.rinv_queries.specs.Known.{fractions_of}
use Rattle.rinv_queries.proofs.KnownFacts.{known-laws}
use Rattle.rinv_queries.proofs.Shown.{scripted-shown}
use Rattle.rinv_queries.proofs.commands.run.scripted.Goals as goal

pub returns-clause-shown : goal.returns-clause-shown
returns-clause-shown c =
    let told = c.args.system.now in
    scripted-shown told (map query_of c.args.queries.now) (fractions_of c.in_ok-known.known) c.in_ok-page.page c.extend_from_slice.new.self.items _ c.ending_of.result
    c.in_ok-extend_from_slice.ensures.items c.ending_of.ensures c.new.result.items c.need_generators-needed.result
    (known-laws told c.in_ok-known.known c.in_ok-known.ensures.known) c.need_generators-needed.ensures c.in_ok-known.ensures.complete c.new.ensures.items c.last_line.ensures c.in_ok-page.ensures.answered
