use Rattle.std.proofs.Common.{inl, inr}
use Rattle.clash_list.proofs.Turning.{pairs_over, pairs_down}
use Rattle.clash_list.proofs.cursor.Cursor.next_pair.Goals as goal
use Rattle.clash_list.proofs.cursor.Cursor.next_pair.Goals.{then-self-logs-via-then-self-logs, then-self-logs-via-else-self-logs+then-self-logs-2}

pub returns-then-self-logs-clause-next : goal.returns-then-self-logs-clause-next
returns-then-self-logs-clause-next c clash = elim c.then-self-logs.branch [
  | then-self-logs-via-then-self-logs w ↦ pairs_over clash c.args.logs.now c.args.self.now.left c.args.self.now.right c.requires (inl w.if-self-logs.true)
  | then-self-logs-via-else-self-logs+then-self-logs-2 w ↦ pairs_over clash c.args.logs.now c.args.self.now.left c.args.self.now.right c.requires (inr w.if-self-logs-2.true)
]

pub returns-else-self-logs-3-clause-next : goal.returns-else-self-logs-3-clause-next
returns-else-self-logs-3-clause-next c clash = pairs_down clash c.args.logs.now c.args.self.now.left c.args.self.now.right c.if-self-logs.false c.if-self-logs-2.false c.if-self-logs-3.false
