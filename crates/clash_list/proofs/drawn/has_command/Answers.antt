use Rattle.std.proofs.Common.{sym, ◌∙◌}
use Rattle.std.proofs.lemmas.Option.{slice_get-get_or}
use Rattle.clash_list.specs.DrawnAt.{is_same_as}
use Rattle.clash_list.proofs.Drawing.{same_as, found_same, searched}
use Rattle.clash_list.proofs.drawn.has_command.Goals as goal

pub command_of-requires : goal.command_of-requires
command_of-requires c = c.requires _ _ (slice_get-get_or c.args.picks.now c.picks.pick-index _ c.picks-test.true)

pub returns-then-same : goal.returns-then-same
returns-then-same c = sym (found_same c.args.joint.now.sets (is_same_as c.args.command.now) c.args.picks.now c.picks.pick-index _ c.command_of.result.now
    (slice_get-get_or c.args.picks.now c.picks.pick-index _ c.picks-test.true) c.command_of.ensures (sym (same_as c.same.result c.args.command.now c.command_of.result.now c.same.ensures) ∙ c.if-same.true))

pub picks-preserved : goal.picks-preserved
picks-preserved c = searched c.args.joint.now.sets c.args.picks.now c.picks.pick-index _ c.command_of.result.now
    (slice_get-get_or c.args.picks.now c.picks.pick-index _ c.picks-test.true) c.command_of.ensures c.args.command.now c.same.result (same_as c.same.result c.args.command.now c.command_of.result.now c.same.ensures) c.if-same.false c.picks.invariant
