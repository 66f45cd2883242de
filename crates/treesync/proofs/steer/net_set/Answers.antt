use Rattle.std.proofs.Common.{◌≡◌}
use Rattle.treesync.proofs.SteerLemmas.{set_read, set_refused}
use Rattle.treesync.proofs.steer.net_set.Goals as goal

pub returns-in-Some : goal.returns-in-Some
returns-in-Some c = λ read h. set_refused (λ set cs. set ≡ cs) c.args.log.commands.broken c.args.log.commands.sum c.args.word c.in-Some.number read c.in-Some.is h.commands

pub returns : goal.returns
returns c = λ read h. set_read c.args.log.commands.broken c.args.log.commands.sum c.args.word c.in_ok-set-in-None.set read c.in-None.is (λ cs s. c.in_ok-set-in-None.ensures cs s) h.commands
