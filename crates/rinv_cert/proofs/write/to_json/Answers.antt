use Rattle.serde_json.specs.View.{view, members_view}
use Rattle.serde_json.specs.declared.value.Value.{Object}
use Rattle.serde_json.proofs.Views.{view-Object}
use Rattle.rinv_cert.specs.Seen.{plain}
use Rattle.rinv_cert.proofs.Texts.{text-written, text-denotes}
use Rattle.rinv_cert.proofs.write.to_json.Goals as goal

pub returns-clause-text : goal.returns-clause-text
returns-clause-text c = text-written (plain c.args.certificate.now) (members_view c.in_ok-members.members.entries) c.in_ok-members.ensures (view (Object c.in_ok-members.members)) (view-Object c.in_ok-members.members) c.in_ok-text.text.items c.in_ok-text.ensures.text

pub returns-clause-read_back : goal.returns-clause-read_back
returns-clause-read_back c = text-denotes (plain c.args.certificate.now) (members_view c.in_ok-members.members.entries) c.in_ok-members.ensures (view (Object c.in_ok-members.members)) (view-Object c.in_ok-members.members) c.in_ok-text.text.items c.in_ok-text.ensures.utf8 c.in_ok-text.ensures.reads_back
