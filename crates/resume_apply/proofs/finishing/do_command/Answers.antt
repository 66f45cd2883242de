use Rattle.std.proofs.Common.{rules, ◌≡◌, Bool, Err, Ok, sym, ◌∙◌, subst, arith}
use Rattle.sync_command.specs.declared.values.Value.TheVariants.{Empty}
use Rattle.resume_apply.proofs.Stepping.{begin, can_direct, can_made, can_removed, can_removed_at, done_now, gone_now, holds_new, holds_not, lacks_on, never_gone, never_holds, put_now, put_on, put_refused, read_on, read_refused, removed_at, stands_now, start, step_direct, step_made, step_removed, sure_at, tree_on}
use Rattle.resume_apply.proofs.finishing.do_command.Goals as goal

pub returns-in_err-holds : goal.returns-in_err-holds
returns-in_err-holds g c =
    let e : c.from_residual.result ≡ Err c.in_err-holds.field-0.0 = search rules in
    read_refused _ _ _ _ 0 _ _ (begin _ _ c.holds.ensures.reading.tree c.requires) c.in_err-holds.ensures.reading (never_holds c.path-path.result.now c.new_value.result.now _ _ c.in_err-holds.ensures.answer) e

pub returns-then-branch : goal.returns-then-branch
returns-then-branch g c =
    let is = start c.args.command.now _ _ _ c.requires c.in_ok-holds.ensures.reading in
    done_now c.args.command.now _ _ 0 (omega arith) is (holds_new c.args.command.now _ _ _ _ _ c.path-path.ensures c.new_value.ensures c.if-branch.true c.in_ok-holds.ensures.reading.contents c.in_ok-holds.ensures.answer)

pub change-requires : goal.change-requires
change-requires g c =
    let is = start c.args.command.now _ _ _ c.requires c.in_ok-holds.ensures.reading in
    let sure = sure_at _ _ _ _ is in
    let lacks = holds_not c.args.command.now _ _ _ _ _ c.path-path.ensures c.new_value.ensures c.if-branch.false c.in_ok-holds.ensures.reading.contents c.in_ok-holds.ensures.answer in
    can_direct c.args.command.now _ (sym c.changes_kind.ensures ∙ c.if-not-changes_kind.true) sure lacks

pub returns-in_err-change : goal.returns-in_err-change
returns-in_err-change g c =
    let e : c.from_residual-in_err-change.result ≡ Err c.in_err-change.field-0.0 = search rules in
    let is = start c.args.command.now _ _ _ c.requires c.in_ok-holds.ensures.reading in
    let sure = sure_at _ _ _ _ is in
    let lacks = holds_not c.args.command.now _ _ _ _ _ c.path-path.ensures c.new_value.ensures c.if-branch.false c.in_ok-holds.ensures.reading.contents c.in_ok-holds.ensures.answer in
    put_refused c.args.command.now _ _ _ 0 _ _ _ is c.in_err-change.ensures.counts c.in_err-change.ensures.contents (step_direct c.args.command.now _ (sym c.changes_kind.ensures ∙ c.if-not-changes_kind.true) sure lacks) e

pub returns-then-not-changes_kind : goal.returns-then-not-changes_kind
returns-then-not-changes_kind g c =
    let is = start c.args.command.now _ _ _ c.requires c.in_ok-holds.ensures.reading in
    let sure = sure_at _ _ _ _ is in
    let lacks = holds_not c.args.command.now _ _ _ _ _ c.path-path.ensures c.new_value.ensures c.if-branch.false c.in_ok-holds.ensures.reading.contents c.in_ok-holds.ensures.answer in
    let next = put_on c.args.command.now _ _ _ 0 _ _ is c.in_ok-change.ensures.counts c.in_ok-change.ensures.contents (step_direct c.args.command.now _ (sym c.changes_kind.ensures ∙ c.if-not-changes_kind.true) sure lacks) in
    done_now c.args.command.now _ _ 1 (omega arith) next (put_now (Unit {0}) c.args.command.now.node c.args.command.now.new _ _ _ c.in_ok-change.ensures.contents)

pub returns-in_err-is_empty_at : goal.returns-in_err-is_empty_at
returns-in_err-is_empty_at g c =
    let e : c.from_residual-in_err-is_empty_at.result ≡ Err c.in_err-is_empty_at.field-0.0 = search rules in
    let is = start c.args.command.now _ _ _ c.requires c.in_ok-holds.ensures.reading in
    read_refused c.args.command.now _ _ _ 0 _ _ is c.in_err-is_empty_at.ensures.reading (never_gone c.path-path.result.now _ _ c.in_err-is_empty_at.ensures.answer) e

pub change-requires-then-branch-2 : goal.change-requires-then-branch-2
change-requires-then-branch-2 g c =
    let is = read_on c.args.command.now _ _ _ _ _ (start c.args.command.now _ _ _ c.requires c.in_ok-holds.ensures.reading) c.in_ok-is_empty_at.ensures.reading in
    let sure = sure_at _ _ _ _ is in
    let gone = gone_now c.args.command.now _ _ _ _ c.path-path.ensures c.if-branch-2.true c.in_ok-is_empty_at.ensures.reading.contents c.in_ok-is_empty_at.ensures.answer in
    can_made c.args.command.now _ (sym c.changes_kind.ensures ∙ c.if-not-changes_kind.false) sure gone

pub returns-in_err-change-2 : goal.returns-in_err-change-2
returns-in_err-change-2 g c =
    let e : c.from_residual-in_err-change-2.result ≡ Err c.in_err-change-2.field-0.0 = search rules in
    let is = read_on c.args.command.now _ _ _ _ _ (start c.args.command.now _ _ _ c.requires c.in_ok-holds.ensures.reading) c.in_ok-is_empty_at.ensures.reading in
    let gone = gone_now c.args.command.now _ _ _ _ c.path-path.ensures c.if-branch-2.true c.in_ok-is_empty_at.ensures.reading.contents c.in_ok-is_empty_at.ensures.answer in
    put_refused c.args.command.now _ _ _ 0 _ _ _ is c.in_err-change-2.ensures.counts c.in_err-change-2.ensures.contents (step_made c.args.command.now _ (sym c.changes_kind.ensures ∙ c.if-not-changes_kind.false) gone) e

pub returns-then-branch-2 : goal.returns-then-branch-2
returns-then-branch-2 g c =
    let is = read_on c.args.command.now _ _ _ _ _ (start c.args.command.now _ _ _ c.requires c.in_ok-holds.ensures.reading) c.in_ok-is_empty_at.ensures.reading in
    let gone = gone_now c.args.command.now _ _ _ _ c.path-path.ensures c.if-branch-2.true c.in_ok-is_empty_at.ensures.reading.contents c.in_ok-is_empty_at.ensures.answer in
    let next = put_on c.args.command.now _ _ _ 0 _ _ is c.in_ok-change-2.ensures.counts c.in_ok-change-2.ensures.contents (step_made c.args.command.now _ (sym c.changes_kind.ensures ∙ c.if-not-changes_kind.false) gone) in
    done_now c.args.command.now _ _ 1 (omega arith) next (put_now (Unit {0}) c.args.command.now.node c.args.command.now.new _ _ _ c.in_ok-change-2.ensures.contents)

pub remove-requires : goal.remove-requires
remove-requires g c =
    let is = read_on c.args.command.now _ _ _ _ _ (start c.args.command.now _ _ _ c.requires c.in_ok-holds.ensures.reading) c.in_ok-is_empty_at.ensures.reading in
    let sure = sure_at _ _ _ _ is in
    let lacks = holds_not c.args.command.now _ _ _ _ _ c.path-path.ensures c.new_value.ensures c.if-branch.false c.in_ok-holds.ensures.reading.contents c.in_ok-holds.ensures.answer in
    let lacks2 = lacks_on c.args.command.now _ _ c.in_ok-is_empty_at.ensures.reading.contents lacks in
    let stands = stands_now c.args.command.now _ _ _ _ c.path-path.ensures c.if-branch-2.false c.in_ok-is_empty_at.ensures.reading.contents c.in_ok-is_empty_at.ensures.answer in
    let tree = tree_on _ _ c.in_ok-is_empty_at.ensures.reading.contents c.in_ok-is_empty_at.ensures.reading.tree in
    can_removed_at c.args.command.now _ _ c.path-path.ensures (sym c.changes_kind.ensures ∙ c.if-not-changes_kind.false) tree (can_removed c.args.command.now _ (sym c.changes_kind.ensures ∙ c.if-not-changes_kind.false) tree sure lacks2 stands)

pub returns-in_err-remove : goal.returns-in_err-remove
returns-in_err-remove g c =
    let e : c.from_residual-in_err-remove.result ≡ Err c.in_err-remove.field-0.0 = search rules in
    let is = read_on c.args.command.now _ _ _ _ _ (start c.args.command.now _ _ _ c.requires c.in_ok-holds.ensures.reading) c.in_ok-is_empty_at.ensures.reading in
    let sure = sure_at _ _ _ _ is in
    let lacks = holds_not c.args.command.now _ _ _ _ _ c.path-path.ensures c.new_value.ensures c.if-branch.false c.in_ok-holds.ensures.reading.contents c.in_ok-holds.ensures.answer in
    let lacks2 = lacks_on c.args.command.now _ _ c.in_ok-is_empty_at.ensures.reading.contents lacks in
    let stands = stands_now c.args.command.now _ _ _ _ c.path-path.ensures c.if-branch-2.false c.in_ok-is_empty_at.ensures.reading.contents c.in_ok-is_empty_at.ensures.answer in
    put_refused c.args.command.now _ _ _ 0 Empty _ _ is c.in_err-remove.ensures.counts
    (removed_at c.args.command.now _ _ _ (Err c.in_err-remove.field-0.0) c.path-path.ensures c.in_err-remove.ensures.contents) (step_removed c.args.command.now _ (sym c.changes_kind.ensures ∙ c.if-not-changes_kind.false) sure lacks2 stands) e

pub change-requires-2 : goal.change-requires-2
change-requires-2 g c =
    let is = read_on c.args.command.now _ _ _ _ _ (start c.args.command.now _ _ _ c.requires c.in_ok-holds.ensures.reading) c.in_ok-is_empty_at.ensures.reading in
    let sure = sure_at _ _ _ _ is in
    let lacks = holds_not c.args.command.now _ _ _ _ _ c.path-path.ensures c.new_value.ensures c.if-branch.false c.in_ok-holds.ensures.reading.contents c.in_ok-holds.ensures.answer in
    let lacks2 = lacks_on c.args.command.now _ _ c.in_ok-is_empty_at.ensures.reading.contents lacks in
    let stands = stands_now c.args.command.now _ _ _ _ c.path-path.ensures c.if-branch-2.false c.in_ok-is_empty_at.ensures.reading.contents c.in_ok-is_empty_at.ensures.answer in
    let out = removed_at c.args.command.now _ _ _ (Ok c.in_ok-remove.field-0) c.path-path.ensures c.in_ok-remove.ensures.contents in
    let next = put_on c.args.command.now _ _ _ 0 Empty _ is c.in_ok-remove.ensures.counts out (step_removed c.args.command.now _ (sym c.changes_kind.ensures ∙ c.if-not-changes_kind.false) sure lacks2 stands) in
    let gone = put_now (Unit {0}) c.args.command.now.node Empty _ _ _ out in
    can_made c.args.command.now _ (sym c.changes_kind.ensures ∙ c.if-not-changes_kind.false) (sure_at _ _ _ _ next) gone

pub returns-in_err-change-3 : goal.returns-in_err-change-3
returns-in_err-change-3 g c =
    let e : c.from_residual-in_err-change-3.result ≡ Err c.in_err-change-3.field-0.0 = search rules in
    let is = read_on c.args.command.now _ _ _ _ _ (start c.args.command.now _ _ _ c.requires c.in_ok-holds.ensures.reading) c.in_ok-is_empty_at.ensures.reading in
    let sure = sure_at _ _ _ _ is in
    let lacks = holds_not c.args.command.now _ _ _ _ _ c.path-path.ensures c.new_value.ensures c.if-branch.false c.in_ok-holds.ensures.reading.contents c.in_ok-holds.ensures.answer in
    let lacks2 = lacks_on c.args.command.now _ _ c.in_ok-is_empty_at.ensures.reading.contents lacks in
    let stands = stands_now c.args.command.now _ _ _ _ c.path-path.ensures c.if-branch-2.false c.in_ok-is_empty_at.ensures.reading.contents c.in_ok-is_empty_at.ensures.answer in
    let out = removed_at c.args.command.now _ _ _ (Ok c.in_ok-remove.field-0) c.path-path.ensures c.in_ok-remove.ensures.contents in
    let next = put_on c.args.command.now _ _ _ 0 Empty _ is c.in_ok-remove.ensures.counts out (step_removed c.args.command.now _ (sym c.changes_kind.ensures ∙ c.if-not-changes_kind.false) sure lacks2 stands) in
    let gone = put_now (Unit {0}) c.args.command.now.node Empty _ _ _ out in
    put_refused c.args.command.now _ _ _ 1 _ _ _ next c.in_err-change-3.ensures.counts c.in_err-change-3.ensures.contents (step_made c.args.command.now _ (sym c.changes_kind.ensures ∙ c.if-not-changes_kind.false) gone) e

pub returns : goal.returns
returns g c =
    let is = read_on c.args.command.now _ _ _ _ _ (start c.args.command.now _ _ _ c.requires c.in_ok-holds.ensures.reading) c.in_ok-is_empty_at.ensures.reading in
    let sure = sure_at _ _ _ _ is in
    let lacks = holds_not c.args.command.now _ _ _ _ _ c.path-path.ensures c.new_value.ensures c.if-branch.false c.in_ok-holds.ensures.reading.contents c.in_ok-holds.ensures.answer in
    let lacks2 = lacks_on c.args.command.now _ _ c.in_ok-is_empty_at.ensures.reading.contents lacks in
    let stands = stands_now c.args.command.now _ _ _ _ c.path-path.ensures c.if-branch-2.false c.in_ok-is_empty_at.ensures.reading.contents c.in_ok-is_empty_at.ensures.answer in
    let out = removed_at c.args.command.now _ _ _ (Ok c.in_ok-remove.field-0) c.path-path.ensures c.in_ok-remove.ensures.contents in
    let next = put_on c.args.command.now _ _ _ 0 Empty _ is c.in_ok-remove.ensures.counts out (step_removed c.args.command.now _ (sym c.changes_kind.ensures ∙ c.if-not-changes_kind.false) sure lacks2 stands) in
    let gone = put_now (Unit {0}) c.args.command.now.node Empty _ _ _ out in
    let last = put_on c.args.command.now _ _ _ 1 _ _ next c.in_ok-change-3.ensures.counts c.in_ok-change-3.ensures.contents (step_made c.args.command.now _ (sym c.changes_kind.ensures ∙ c.if-not-changes_kind.false) gone) in
    done_now c.args.command.now _ _ 2 (omega arith) last (put_now (Unit {0}) c.args.command.now.node c.args.command.now.new _ _ _ c.in_ok-change-3.ensures.contents)
