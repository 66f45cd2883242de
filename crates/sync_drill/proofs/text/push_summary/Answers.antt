use Rattle.sync_drill.proofs.Summing.{six_lines}
use Rattle.sync_drill.proofs.text.push_summary.Goals as goal

pub returns : goal.returns
returns c =
    six_lines _ _ _ _ _ _ _ _ _ _ _ _ _ c.in_ok-push_line.ensures c.in_ok-push_line-2.ensures c.in_ok-push_line-3.ensures
    c.in_ok-push_line-4.ensures c.in_ok-push_line-5.ensures c.in_ok-push_line-6.ensures
