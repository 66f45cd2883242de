use Rattle.std.proofs.Common.{◌≡◌, ap, sym, ◌∙◌, false}
use Rattle.std.proofs.lemmas.Bool.{both_ways}
use Rattle.sync_path.specs.Paths.{parent}
use Rattle.sync_command.specs.Maps.{at}
use Rattle.sync_command.specs.Trees.{IsTree}
use Rattle.sync_command.specs.Values.{is_empty}
use Rattle.apply_model.specs.Parents.{IsReady}
use Rattle.apply_model.proofs.Ready.{tree_is}
use Rattle.apply_model.proofs.Steps.{answered, below_takes, level, none_made, not_below, not_both, not_false, not_ready, not_true, ready_takes, refused, turned}
use Rattle.apply_model.proofs.tree_map.TreeMap.step_of.Goals as goal

pub returns-then-not-is_ready-clause-not_taken : goal.returns-then-not-is_ready-clause-not_taken
returns-then-not-is_ready-clause-not_taken c = let tree : IsTree (at c.args.self.now) = (tree_is c.self.inside.nodes.entries c.args.self.now c.self.view_is c.self.invariant).tree in
    refused _ (not_ready (at c.args.self.now) c.args.command.now tree (λ r. both_ways _ c.if-not-is_ready.true (c.is_ready.ensures.1 r)))

pub returns-then-was_empty-is_empty-clause-ok : goal.returns-then-was_empty-is_empty-clause-ok
returns-then-was_empty-is_empty-clause-ok c = let tree : IsTree (at c.args.self.now) = (tree_is c.self.inside.nodes.entries c.args.self.now c.self.view_is c.self.invariant).tree in
    let ready : IsReady (at c.args.self.now) c.args.command.now = c.is_ready.ensures.0 c.if-not-is_ready.false in
    let was : c.is_empty-was_empty.result ≡ is_empty c.args.command.now.old = c.is_empty-was_empty.ensures ∙ ap is_empty c.old.ensures in
    let now : c.is_empty.result ≡ is_empty c.args.command.now.new = c.is_empty.ensures ∙ ap is_empty c.new_value.ensures in
    let same : is_empty c.args.command.now.old ≡ is_empty c.args.command.now.new = sym was ∙ level _ _ c.if-was_empty-is_empty.true ∙ now in
    (ready_takes (at c.args.self.now) c.args.command.now tree ready (none_made _ _ same), same)

pub returns-then-was_empty-is_empty-clause-not_taken : goal.returns-then-was_empty-is_empty-clause-not_taken
returns-then-was_empty-is_empty-clause-not_taken c = answered _ _ (returns-then-was_empty-is_empty-clause-ok c).0

pub returns-then-not-was_empty-clause-ok : goal.returns-then-not-was_empty-clause-ok
returns-then-not-was_empty-clause-ok c = let tree : IsTree (at c.args.self.now) = (tree_is c.self.inside.nodes.entries c.args.self.now c.self.view_is c.self.invariant).tree in
    let ready : IsReady (at c.args.self.now) c.args.command.now = c.is_ready.ensures.0 c.if-not-is_ready.false in
    let was : c.is_empty-was_empty.result ≡ is_empty c.args.command.now.old = c.is_empty-was_empty.ensures ∙ ap is_empty c.old.ensures in
    let now : c.is_empty.result ≡ is_empty c.args.command.now.new = c.is_empty.ensures ∙ ap is_empty c.new_value.ensures in
    let full : is_empty c.args.command.now.old ≡ false = sym was ∙ c.if-not-was_empty.true in
    (ready_takes (at c.args.self.now) c.args.command.now tree ready (λ e f. not_both _ e full), (full, sym now ∙ not_false _ _ (turned _ _ c.if-was_empty-is_empty.false) c.if-not-was_empty.true, c.in-Ok.ensures ∙ ap parent c.path.ensures))

pub returns-then-not-was_empty-clause-not_taken : goal.returns-then-not-was_empty-clause-not_taken
returns-then-not-was_empty-clause-not_taken c = answered _ _ (returns-then-not-was_empty-clause-ok c).0

pub returns-then-is_dir_at-clause-ok : goal.returns-then-is_dir_at-clause-ok
returns-then-is_dir_at-clause-ok c = let tree : IsTree (at c.args.self.now) = (tree_is c.self.inside.nodes.entries c.args.self.now c.self.view_is c.self.invariant).tree in
    let ready : IsReady (at c.args.self.now) c.args.command.now = c.is_ready.ensures.0 c.if-not-is_ready.false in
    let was : c.is_empty-was_empty.result ≡ is_empty c.args.command.now.old = c.is_empty-was_empty.ensures ∙ ap is_empty c.old.ensures in
    let now : c.is_empty.result ≡ is_empty c.args.command.now.new = c.is_empty.ensures ∙ ap is_empty c.new_value.ensures in
    let up : c.in-Ok.above ≡ parent c.args.command.now.node = c.in-Ok.ensures ∙ ap parent c.path.ensures in (
      below_takes (at c.args.self.now) c.args.command.now tree ready ((c.is_dir_at.ensures c.args.command.now.node (c.as_ref.ensures.value ∙ up)).0 c.if-is_dir_at.true),
      (sym was ∙ c.if-not-was_empty.false, sym now ∙ not_true _ _ (turned _ _ c.if-was_empty-is_empty.false) c.if-not-was_empty.false, up),
    )

pub returns-then-is_dir_at-clause-not_taken : goal.returns-then-is_dir_at-clause-not_taken
returns-then-is_dir_at-clause-not_taken c = answered _ _ (returns-then-is_dir_at-clause-ok c).0

pub returns-else-is_dir_at-clause-not_taken : goal.returns-else-is_dir_at-clause-not_taken
returns-else-is_dir_at-clause-not_taken c = let tree : IsTree (at c.args.self.now) = (tree_is c.self.inside.nodes.entries c.args.self.now c.self.view_is c.self.invariant).tree in
    let ready : IsReady (at c.args.self.now) c.args.command.now = c.is_ready.ensures.0 c.if-not-is_ready.false in
    let was : c.is_empty-was_empty.result ≡ is_empty c.args.command.now.old = c.is_empty-was_empty.ensures ∙ ap is_empty c.old.ensures in
    let now : c.is_empty.result ≡ is_empty c.args.command.now.new = c.is_empty.ensures ∙ ap is_empty c.new_value.ensures in
    refused _ (not_below (at c.args.self.now) c.args.command.now tree (sym was ∙ c.if-not-was_empty.false) (sym now ∙ not_true _ _ (turned _ _ c.if-was_empty-is_empty.false) c.if-not-was_empty.false)
    (λ below. both_ways _ c.if-is_dir_at.false ((c.is_dir_at.ensures c.args.command.now.node (c.as_ref.ensures.value ∙ c.in-Ok.ensures ∙ ap parent c.path.ensures)).1 below)))
