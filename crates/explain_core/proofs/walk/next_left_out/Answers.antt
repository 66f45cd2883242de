use Rattle.std.proofs.Common.{sym, ◌∙◌}
use Rattle.refluent.specs.Drawn.{drawn_of}
use Rattle.explain_core.proofs.Listing.{drawn_is, drawn_pick, passed_over}
use Rattle.explain_core.proofs.walk.next_left_out.Goals as goal

pub command_at-requires : goal.command_at-requires
command_at-requires c = drawn_pick c.args.joint.now.sets c.args.drawn.now c.requires c.drawn.at c.entry.result c.entry.ensures

pub returns-then-not-has-clause-out : goal.returns-then-not-has-clause-out
returns-then-not-has-clause-out c low = (
  c.command_at.result.now,
  drawn_is c.args.joint.now.sets c.args.drawn.now c.requires c.drawn.at c.entry.result c.command_at.result.now c.entry.ensures c.command_at.ensures,
  sym c.has.ensures ∙ c.if-not-has.true,
)

pub drawn-preserved : goal.drawn-preserved
drawn-preserved c =
    let there = drawn_is c.args.joint.now.sets c.args.drawn.now c.requires c.drawn.at c.entry.result c.command_at.result.now c.entry.ensures c.command_at.ensures in
    sym (passed_over c.args.set.now (drawn_of c.args.joint.now.sets) c.drawn.at c.command_at.result.now there (sym c.has.ensures ∙ c.if-not-has.false)) ∙ c.drawn.invariant
