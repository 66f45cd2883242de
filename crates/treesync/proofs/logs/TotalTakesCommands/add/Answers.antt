use Rattle.std.proofs.Common.{◌≡◌, ◌+◌, Err, ap, arith, rules}
use Rattle.std.proofs.lemmas.Grind.{common_steps}
use Rattle.treesync.proofs.LogReading.{added, broken_now}
use Rattle.treesync.proofs.logs.TotalTakesCommands.add.Goals as goal

pub returns-in-Ok : goal.returns-in-Ok
returns-in-Ok c = λ cs h. added c.args.self.now.broken c.args.self.now.sum c.add.new.self cs c.args.command c.in-None.is (c.in-Ok.ensures.ok cs) h

pub returns-in-Err-Broken : goal.returns-in-Err-Broken
returns-in-Err-Broken c = λ cs h.
    let number : c.in-Some.number ≡ c.args.self.now.sum.count + 1 = first_of (search rules, grind (arith, common_steps)) in
    broken_now c.args.self.now.broken c.args.self.now.sum c.add.new.self cs c.args.command c.in-Some.number c.in-None.is number
    (λ stands taken. c.in-Err-Broken.ensures.broken cs stands (ap Err c.in-Err-Broken.field-0-is) taken) h
