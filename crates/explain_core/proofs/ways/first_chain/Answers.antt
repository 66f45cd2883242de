use Rattle.std.proofs.Common.{ap, sym, subst, ◌∙◌, ◌≡◌, false, None}
use Rattle.std.proofs.lemmas.Option.{MatchOption-at_some}
use Rattle.sync_command.specs.Values.{is_empty}
use Rattle.sync_command.specs.Trees.{command_at}
use Rattle.explain_core.specs.Reasons.{AreAt}
use Rattle.pref_list.proofs.CallerLemmas.{path_within}
use Rattle.explain_core.proofs.Deciding.{chain_up, goes_up}
use Rattle.explain_core.proofs.Testing.{nothing_some}
use Rattle.explain_core.proofs.ways.first_chain.Goals as goal

pub way_up-requires-clause-place : goal.way_up-requires-clause-place
way_up-requires-clause-place c = path_within c.args.joint.now.nodes c.args.place c.args.command.now.node c.requires.place

pub returns-in-Some : goal.returns-in-Some
returns-in-Some c =
    let none : command_at c.args.set.now c.args.command.now.node ≡ None = nothing_some c.at.result (command_at c.args.set.now c.args.command.now.node) (c.at.ensures ∙ ap (command_at c.args.set.now) c.path.ensures) (sym c.is_some.ensures ∙ c.if-is_some.false) in
    let full : is_empty c.args.command.now.new ≡ false = ap is_empty (sym c.new_value.ensures) ∙ sym c.is_empty.ensures ∙ c.if-not-is_empty.true in
    let up = MatchOption-at_some _ _ c.in-Some.via c.in-Some.is (c.in_ok-via.ensures c.args.command.now.node c.requires.place) in
    subst (AreAt c.args.joint.now.nodes c.in-Some.via.items) (sym (chain_up c.args.joint.now c.args.set.now c.args.command.now none (goes_up c.args.joint.now c.args.set.now c.args.command.now full up.1))) up.0

pub first_left_under-requires-clause-place : goal.first_left_under-requires-clause-place
first_left_under-requires-clause-place c = path_within c.args.joint.now.nodes c.args.place c.args.command.now.node c.requires.place

pub way_down-requires-clause-under : goal.way_down-requires-clause-under
way_down-requires-clause-under c =
    let found = c.in-Some-first_left_under.ensures c.args.set.now c.args.command.now.node c.requires.nexts c.requires.place in
    (c.args.command.now.node, found.0, c.requires.place, found.1, found.3)
