use Rattle.std.proofs.Common.{subst, sym}
use Rattle.treesync.specs.Joining.{AreJoined}
use Rattle.treesync.specs.Preferences.{IsRanked, RulesHold}
use Rattle.treesync.specs.Merging.{AreAsked, IsMergedOf}
use Rattle.treesync.proofs.CheckLemmas.{judged_handed_on, judged_next}
use Rattle.treesync.proofs.merging.merged.Goals as goal

pub returns-in_err-ranking-clause-merged : goal.returns-in_err-ranking-clause-merged
returns-in_err-ranking-clause-merged c = λ reads h.
    judged_handed_on (IsRanked c.args.rules.now) IsMergedOf (RulesHold c.args.word c.args.rules.now reads) (AreAsked c.args.rules.now)
    c.in_err-ranking.field-0.0 c.from_residual.result c.from_residual.ensures.1 (c.in_err-ranking.ensures.ranking reads h.joint)

pub returns-clause-merged : goal.returns-clause-merged
returns-clause-merged c = λ reads h.
    judged_next (IsRanked c.args.rules.now) IsMergedOf (RulesHold c.args.word c.args.rules.now reads) (AreAsked c.args.rules.now) c.in_ok-ranking.ranking c.first_merged.result (c.in_ok-ranking.ensures.ranking reads h.joint)
    (λ same r p. c.first_merged.ensures.merged same c.args.rules.now (subst (AreJoined c.args.logs) (sym p.0) h) c.in_ok-ranking.ensures.ranked)
