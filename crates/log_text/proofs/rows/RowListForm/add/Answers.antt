use Rattle.log_text.proofs.RowLines.{no_two, rows_more, rows_same}
use Rattle.log_text.proofs.rows.RowListForm.add.Goals as goal
use Rattle.log_text.proofs.rows.RowListForm.add.Goals.{in-Ok, in-Err}

pub invariant_of-self-after-push-8 : goal.invariant_of-self-after-push-8
invariant_of-self-after-push-8 c =
    elim c.match-push.branch [
      | in-Ok w ↦
          rows_more c.self.inside.version c.self.inside.rows.items c.push.new.self.items c.self.inside.parent c.read_row.new.directory c.in_ok-row-in-Two.row c.in-Two.path.now c.in-Two.value.now c.self.invariant c.in_ok-row-in-Two.ensures.gives
          c.in_ok-row-in-Two.ensures.few c.read_row.ensures.given w.in-Ok.ensures.items
      | in-Err w ↦ rows_same c.self.inside.rows.items c.push.new.self.items c.self.inside.parent c.read_row.new.directory c.self.invariant c.read_row.ensures.given w.in-Err.ensures.items
    ]

pub returns-in_default : goal.returns-in_default
returns-in_default c u xs ps same h e = (no_two xs.0 xs.1 c.args.fields ps h e c.in_default.not-Two, same)
