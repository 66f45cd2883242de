use Rattle.std.proofs.Common.{inl, inr}
use Rattle.clash_list.proofs.Turning.{products_over}
use Rattle.clash_list.proofs.cursor.Cursor.next_product.Goals as goal
use Rattle.clash_list.proofs.cursor.Cursor.next_product.Goals.{then-self-lefts-via-then-self-lefts, then-self-lefts-via-else-self-lefts+then-self-rights}

pub returns-then-self-lefts-clause-next : goal.returns-then-self-lefts-clause-next
returns-then-self-lefts-clause-next c clash = elim c.then-self-lefts.branch [
  | then-self-lefts-via-then-self-lefts w ↦ products_over clash c.args.lefts.now c.args.rights.now c.args.self.now.left c.args.self.now.right c.requires (inl w.if-self-lefts.true)
  | then-self-lefts-via-else-self-lefts+then-self-rights w ↦ products_over clash c.args.lefts.now c.args.rights.now c.args.self.now.left c.args.self.now.right c.requires (inr w.if-self-rights.true)
]
