use Rattle.std.proofs.Common.{◌≡◌, nat_eq, refl, subst, sym, true}
use Rattle.std.proofs.lemmas.Bool.{both_ways}
use Rattle.apply_model.proofs.Ready.{ready_alone, ready_dir, ready_none, ready_other}
use Rattle.apply_model.proofs.tree_map.TreeMap.is_ready.Goals as goal

pub returns-then-entry-eq0 : goal.returns-then-entry-eq0
returns-then-entry-eq0 c =
    ready_alone c.self.inside.nodes.entries c.args.self.now c.self.view_is c.self.invariant c.args.command.now c.path.result.now c.path.ensures c.old.result.now c.args.command.now.new c.old.ensures refl
    c.in-Some.entry.now c.in-Some.ensures.value (c.same.ensures.equal.0 c.if-same.true) c.if-entry-eq0.true _ (subst (λ k. nat_eq k 0 ≡ true) (sym c.if-entry-eq0.true) refl)

pub returns-else-entry-eq0 : goal.returns-else-entry-eq0
returns-else-entry-eq0 c =
    ready_dir c.self.inside.nodes.entries c.args.self.now c.self.view_is c.self.invariant c.args.command.now c.path.result.now c.path.ensures c.old.result.now c.new_value.result.now c.old.ensures c.new_value.ensures
    c.in-Some.entry.now c.in-Some.ensures.value (c.same.ensures.equal.0 c.if-same.true) c.if-entry-eq0.false c.is_dir.result c.is_dir.ensures

pub returns-else-same : goal.returns-else-same
returns-else-same c =
    ready_other c.self.inside.nodes.entries c.args.self.now c.self.view_is c.self.invariant c.args.command.now c.path.result.now c.path.ensures c.old.result.now c.args.command.now.new c.old.ensures refl
    c.in-Some.entry.now c.in-Some.ensures.value (λ e. both_ways _ c.if-same.false (c.same.ensures.equal.1 e)) c.same.result c.if-same.false

pub returns-in-None : goal.returns-in-None
returns-in-None c =
    ready_none c.self.inside.nodes.entries c.args.self.now c.self.view_is c.self.invariant c.args.command.now c.path.result.now c.path.ensures c.old-in-None.result.now c.args.command.now.new c.old-in-None.ensures refl
    c.in-None.ensures.value c.is_empty.result c.is_empty.ensures
