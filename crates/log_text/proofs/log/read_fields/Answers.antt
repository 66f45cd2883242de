use Rattle.log_text.proofs.LogLines.{no_three}
use Rattle.log_text.proofs.log.read_fields.Goals as goal

pub returns-in_default : goal.returns-in_default
returns-in_default c = record { gives = λ ps h e. no_three c.args.version c.args.count c.args.fields ps h e c.in_default.not-Three; few = tt }
