use Rattle.log_text.proofs.RowLines.{open_under, open_same, open_none}
use Rattle.log_text.proofs.snapshot.gives_parent.Goals as goal

pub returns-then-under : goal.returns-then-under
returns-then-under c =
    open_under c.args.rows.now c.in-Some.row.now c.args.path.now c.args.upper.now c.under.result c.in-Some.ensures.value c.requires.tree c.requires.follows c.requires.parent c.under.ensures c.if-under.true

pub returns-then-same : goal.returns-then-same
returns-then-same c =
    open_same c.args.rows.now c.in-Some.row.now c.args.path.now c.args.upper.now c.under.result c.same.result c.is_dir.result c.in-Some.ensures.value c.requires.tree c.requires.follows c.requires.parent
    c.under.ensures c.same.ensures c.if-under.false c.if-same.true c.is_dir.ensures

pub returns-else-same : goal.returns-else-same
returns-else-same c =
    open_none c.args.rows.now c.in-Some.row.now c.args.path.now c.args.upper.now c.under.result c.same.result c.in-Some.ensures.value c.requires.tree c.requires.follows c.requires.parent
    c.under.ensures c.same.ensures c.if-under.false c.if-same.false
