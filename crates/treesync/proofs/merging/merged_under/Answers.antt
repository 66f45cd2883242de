use Rattle.std.proofs.Common.{◌≡◌, IfOk, length, subst}
use Rattle.treesync.specs.Checks.{Next}
use Rattle.treesync.specs.Joining.{AreJoined, AreLogFiles, IsJoined, IsLogs, log_limits}
use Rattle.treesync.specs.Merging.{AreAsked, IsMergedOf, UnderRules}
use Rattle.treesync.specs.declared.logs.TheConstants.{FULL_ALLOWANCE}
use Rattle.treesync.specs.declared.merging.MergedLogs.{MergedLogs}
use Rattle.treesync.proofs.CheckLemmas.{judged_handed_on, judged_next, then_judged}
use Rattle.treesync.proofs.TransitionLemmas.{joined_many}
use Rattle.treesync.proofs.merging.merged_under.Goals as goal

pub returns-in_err-joined-clause-answer : goal.returns-in_err-joined-clause-answer
returns-in_err-joined-clause-answer g c =
    then_judged AreLogFiles IsMergedOf (IsLogs FULL_ALLOWANCE c.args.names.now) (λ reads. Next (IsJoined c.args.names.now reads) (UnderRules AreAsked c.args.word c.args.rules.now)) (log_limits c.args.names.now)
    (g.F.Files.files c.args.files.now) (g.F.Files.files c.read_logs.new.files) c.in_ok-logs.logs c.from_residual-in_err-joined.result c.in_ok-logs.ensures.answer (λ reads h.
    judged_handed_on AreJoined IsMergedOf (IsJoined c.args.names.now reads) (UnderRules AreAsked c.args.word c.args.rules.now) c.in_err-joined.field-0.0 c.from_residual-in_err-joined.result c.from_residual-in_err-joined.ensures.1 (c.in_err-joined.ensures reads h))

pub returns-clause-answer : goal.returns-clause-answer
returns-clause-answer g c =
    then_judged AreLogFiles IsMergedOf (IsLogs FULL_ALLOWANCE c.args.names.now) (λ reads. Next (IsJoined c.args.names.now reads) (UnderRules AreAsked c.args.word c.args.rules.now)) (log_limits c.args.names.now)
    (g.F.Files.files c.args.files.now) (g.F.Files.files c.read_logs.new.files) c.in_ok-logs.logs c.merged.result c.in_ok-logs.ensures.answer (λ reads h.
    judged_next AreJoined IsMergedOf (IsJoined c.args.names.now reads) (UnderRules AreAsked c.args.word c.args.rules.now) c.in_ok-joined.joined c.merged.result (c.in_ok-joined.ensures reads h) (λ a s p. c.merged.ensures.merged a s))

pub returns-clause-many : goal.returns-clause-many
returns-clause-many g c =
    let read = c.in_ok-logs.ensures.answer.allowed in
    subst (λ n. IfOk c.merged.result (λ (merged : MergedLogs). length merged.logs.joint.sets ≡ n)) (joined_many c.args.names.now c.in_ok-logs.logs.items c.in_ok-joined.joined read.0 read.1 c.in_ok-logs.ensures.many (c.in_ok-joined.ensures read.0 read.1)) c.merged.ensures.many
