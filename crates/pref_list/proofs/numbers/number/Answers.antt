use Rattle.std.proofs.Common.{ℕ, ◌≡◌, Some, subst}
use Rattle.pref_list.specs.Numbers.{numbered}
use Rattle.pref_list.proofs.Numbering.{added, added_number, added_kept}
use Rattle.pref_list.proofs.InOrder.{added_before, before_next_place}
use Rattle.pref_list.proofs.numbers.number.Goals as goal

pub returns-in_ok-number-in-None-clause-chained : goal.returns-in_ok-number-in-None-clause-chained
returns-in_ok-number-in-None-clause-chained c = added _ _ c.requires.joint.stands.order _ _ _ c.requires.chained _ _ _ c.command_at-command.ensures (c.requires.node _ c.command_at-command.ensures) c.requires.covered
    (subst (λ l. (m : ℕ) → numbered c.args.joint.now.sets l m ≡ Some c.command_at-command.result.now → ⊥) c.deref.ensures.value c.in-None.ensures.none) _ _ _ _ c.in_ok-number-in-None.ensures

pub returns-in_ok-number-in-None-clause-number : goal.returns-in_ok-number-in-None-clause-number
returns-in_ok-number-in-None-clause-number c = added_number _ _ _ _ _ _ _ _ _ _ c.in_ok-number-in-None.ensures

pub returns-in_ok-number-in-None-clause-kept : goal.returns-in_ok-number-in-None-clause-kept
returns-in_ok-number-in-None-clause-kept c = added_kept _ _ _ _ _ _ _ _ _ _ c.in_ok-number-in-None.ensures

pub returns-in_ok-number-in-None-clause-before : goal.returns-in_ok-number-in-None-clause-before
returns-in_ok-number-in-None-clause-before c = added_before _ _ _ _ _ _ _ _ _ c.in_ok-number-in-None.ensures c.requires.before

pub returns-in-Some-clause-before : goal.returns-in-Some-clause-before
returns-in-Some-clause-before c = before_next_place _ _ _ c.requires.before
