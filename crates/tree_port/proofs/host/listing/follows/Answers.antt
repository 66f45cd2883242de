use Rattle.std.proofs.Common.{◌∙◌, sym, ap}
use Rattle.std.specs.Ordering.{is_lt}
use Rattle.tree_port.proofs.Listed.{follows_by}
use Rattle.tree_port.proofs.host.listing.follows.Goals as goal

pub returns-else-place-eq0 : goal.returns-else-place-eq0
returns-else-place-eq0 c t = follows_by c.args.paths.now c.args.place c.index-paths-place.result c.index-paths-place-else-place-eq0.result c.index-paths-place.is c.index-paths-place-else-place-eq0.is c.requires
    (ap is_lt (sym c.cmp.ensures) ∙ sym c.is_lt.ensures ∙ t)
