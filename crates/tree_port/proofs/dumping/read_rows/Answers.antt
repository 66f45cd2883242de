use Rattle.std.proofs.Common.{rules, ◌≡◌, ◌∙◌, [], Err, sym}
use Rattle.apply_model.specs.Entries.{store_of}
use Rattle.tree_port.specs.declared.faults.TreeFault.TheVariants.{Memory}
use Rattle.tree_port.proofs.Dumps.{memory_known, same_after, walk_begins, walk_goes_on, walk_is_whole, walk_passes, whole_memory, whole_refused}
use Rattle.tree_port.proofs.dumping.read_rows.Goals as goal

pub returns-in_err-push_all-clause-reading : goal.returns-in_err-push_all-clause-reading
returns-in_err-push_all-clause-reading g c =
    let e : c.from_residual-in_err-push_all.result ≡ Err Memory = search (rules, c.in_err-push_all.ensures.memory) in
    whole_memory _ _ _ e (same_after c.in_ok-roots_of.field-0 _ _ c.in_ok-roots_of.ensures.reading) c.in_ok-roots_of.ensures.reading.tree

pub returns-in_err-push_all-clause-answer : goal.returns-in_err-push_all-clause-answer
returns-in_err-push_all-clause-answer g c =
    let e : c.from_residual-in_err-push_all.result ≡ Err Memory = search (rules, c.in_err-push_all.ensures.memory) in
    memory_known (λ m rows. store_of rows.items ≡ m) _ _ e

pub nodes-init : goal.nodes-init
nodes-init g c =
    walk_begins c.in_ok-roots_of.field-0 _ _ c.new-rows.result.items c.in_ok-roots_of.field-0.items c.new-stack.result.items c.push_all.new.stack.items
    c.in_ok-roots_of.ensures.reading c.in_ok-roots_of.ensures.below c.in_ok-roots_of.ensures.answer c.new-rows.ensures.items c.new-stack.ensures.items c.in_ok-push_all.ensures.items

pub nodes-preserved-then-is_empty : goal.nodes-preserved-then-is_empty
nodes-preserved-then-is_empty g c =
    walk_passes _ _ _ c.nodes.rows.items c.nodes.stack.items c.pop.new.self.items c.in-Some.path c.in_ok-value.value c.nodes.invariant c.in-Some.ensures.items
    c.in_ok-value.ensures.reading c.in_ok-value.ensures.answer (sym c.is_empty.ensures ∙ c.if-is_empty.true)

pub returns-in_err-children_of-clause-reading : goal.returns-in_err-children_of-clause-reading
returns-in_err-children_of-clause-reading g c =
    let e : c.from_residual-in_err-children_of.result ≡ Err c.in_err-children_of.field-0.0 = search rules in
    whole_refused _ c.in_err-children_of.field-0.0 _ _ _ e
    (same_after c.in_ok-value.value _ _ c.in_ok-value.ensures.reading ∙ c.nodes.invariant.same) c.in_err-children_of.ensures.reading

pub returns-in_err-push_all-2-clause-reading : goal.returns-in_err-push_all-2-clause-reading
returns-in_err-push_all-2-clause-reading g c =
    let e : c.from_residual-in_err-push_all-2.result ≡ Err Memory = search (rules, c.in_err-push_all-2.ensures.memory) in
    whole_memory _ _ _ e
    (same_after c.in_ok-children_of.field-0 _ _ c.in_ok-children_of.ensures.reading ∙ same_after c.in_ok-value.value _ _ c.in_ok-value.ensures.reading ∙ c.nodes.invariant.same) c.nodes.invariant.trees

pub returns-in_err-push_all-2-clause-answer : goal.returns-in_err-push_all-2-clause-answer
returns-in_err-push_all-2-clause-answer g c =
    let e : c.from_residual-in_err-push_all-2.result ≡ Err Memory = search (rules, c.in_err-push_all-2.ensures.memory) in
    memory_known (λ m rows. store_of rows.items ≡ m) _ _ e

pub nodes-preserved : goal.nodes-preserved
nodes-preserved g c =
    walk_goes_on _ _ _ c.nodes.rows.items c.nodes.stack.items c.pop.new.self.items c.in-Some.path c.in_ok-value.value c.nodes.invariant c.in-Some.ensures.items
    c.in_ok-value.ensures.reading c.in_ok-value.ensures.answer
    c.in_ok-children_of.field-0 _ c.in_ok-children_of.field-0.items c.push_all-in-Some.new.stack.items c.push.new.self.items (sym c.is_empty.ensures ∙ c.if-is_empty.false)
    c.in_ok-children_of.ensures.reading c.in_ok-children_of.ensures.below c.in_ok-children_of.ensures.none c.in_ok-children_of.ensures.answer
    c.in_ok-push_all-2.ensures.items c.in_ok-push.ensures.items

pub returns-clause-answer : goal.returns-clause-answer
returns-clause-answer g c =
    let none : c.nodes.stack.items ≡ [] = search rules in
    walk_is_whole _ _ c.nodes.rows.items c.nodes.stack.items c.nodes.invariant none
