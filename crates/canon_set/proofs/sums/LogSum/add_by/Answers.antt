use Rattle.std.proofs.Common.{◌≡◌, true, subst}
use Rattle.sync_command.specs.Changes.{is_change}
use Rattle.canon_set.proofs.NetSets.{change_is, cannot_follow}
use Rattle.canon_set.proofs.sums.LogSum.add_by.Goals as goal

pub returns-then-not-can_follow-clause-broken : goal.returns-then-not-can_follow-clause-broken
returns-then-not-can_follow-clause-broken c cs st e = cannot_follow c.args.self.now cs st c.args.command c.can_follow.result (subst (λ x. is_change x ≡ true) c.command.view_is (change_is _ _ c.command.invariant)) (c.can_follow.ensures cs st) c.if-not-can_follow.true
