use Rattle.std.proofs.Common.{sym, ◌∙◌}
use Rattle.refluent.proofs.Listing.{lists_none, lists_put, none_there}
use Rattle.refluent.proofs.parts.lists_of.Goals as goal

pub claims-preserved-in-Continue-branch-2 : goal.claims-preserved-in-Continue-branch-2
claims-preserved-in-Continue-branch-2 c = lists_put c.claims.lists.items c.put.new.lists.items c.claims.yielded c.args.count c.in-Some.claim c.in-Some-command_of.command c.claims.invariant c.in_ok-put.ensures (sym c.command_of.ensures ∙ c.in-Some-command_of.is)

pub claims-preserved : goal.claims-preserved
claims-preserved c = lists_none c.claims.lists.items c.claims.yielded c.args.count c.in-Some.claim c.claims.invariant (none_there _ _ c.command_of.ensures c.in_default.not-Some)
