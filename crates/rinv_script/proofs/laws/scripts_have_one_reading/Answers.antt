use Rattle.rinv_script.proofs.OneScript.{one_script_at_most}
use Rattle.rinv_script.proofs.laws.scripts_have_one_reading.Goals as goal

pub returns : goal.returns
returns c = one_script_at_most
