use Rattle.std.proofs.Common.{◌≡◌, ◌++◌, true, sym, subst, ap, ◌∙◌}
use Rattle.std.specs.List.{filter}
use Rattle.sync_command.specs.Trees.{one_each}
use Rattle.canon_set.specs.Sets.{IsFitting, canonical}
use Rattle.transition.specs.Parts.{is_missing}
use Rattle.transition.proofs.Made.{made_one, made_fitting, made_transition}
use Rattle.transition.proofs.transitions.transition.Goals as goal

pub from_parts-requires-clause-one : goal.from_parts-requires-clause-one
from_parts-requires-clause-one c =
    subst (λ l. one_each l ≡ true) (sym (c.in_ok-add_missing.ensures ∙ ap (λ l. l ++ filter (is_missing c.set-net.result.now) c.args.set.now) c.in_ok-commands.ensures))
    (made_one c.args.joint.now _ c.set-net.result.now c.args.set.now c.set-net.ensures c.requires.drawn c.requires.fits c.logs-logs.ensures.joint)

pub from_parts-requires-clause-fitting : goal.from_parts-requires-clause-fitting
from_parts-requires-clause-fitting c =
    subst IsFitting (sym (c.in_ok-add_missing.ensures ∙ ap (λ l. l ++ filter (is_missing c.set-net.result.now) c.args.set.now) c.in_ok-commands.ensures))
    (made_fitting c.args.joint.now _ c.set-net.result.now c.args.set.now c.set-net.ensures c.requires.drawn c.requires.fits c.logs-logs.ensures.joint)

pub returns : goal.returns
returns c = made_transition c.args.joint.now _ c.set-net.result.now c.args.set.now c.set-net.ensures c.requires.drawn c.requires.fits _
    (c.in_ok-transition.ensures ∙ ap canonical (c.in_ok-add_missing.ensures ∙ ap (λ l. l ++ filter (is_missing c.set-net.result.now) c.args.set.now) c.in_ok-commands.ensures))
