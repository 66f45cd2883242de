use Rattle.rounds.proofs.Sides.{first_drawn, first_fits, side_log}
use Rattle.rounds.proofs.rebasing.rebase.Goals as goal

pub transition-requires-clause-log : goal.transition-requires-clause-log
transition-requires-clause-log c = side_log c.args.side c.log_number.result _ c.log_number.ensures c.requires

pub transition-requires-clause-drawn : goal.transition-requires-clause-drawn
transition-requires-clause-drawn c =
    first_drawn c.args.joint.now c.args.rules.now c.in_ok-merger.merger (c.in_ok-merger.ensures c.args.rules.now c.in_ok-ranking.ensures.ranked) c.logs-logs.ensures.joint

pub transition-requires-clause-fits : goal.transition-requires-clause-fits
transition-requires-clause-fits c =
    first_fits c.args.joint.now c.args.rules.now c.in_ok-merger.merger (c.in_ok-merger.ensures c.args.rules.now c.in_ok-ranking.ensures.ranked)
