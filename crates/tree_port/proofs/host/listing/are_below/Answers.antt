use Rattle.std.proofs.Common.{◌∙◌, sym, ap}
use Rattle.std.specs.Prelude.{option_copied}
use Rattle.sync_path.specs.Paths.{parent}
use Rattle.tree_port.proofs.Listed.{all_places, next_place, no_place}
use Rattle.tree_port.proofs.host.listing.are_below.Goals as goal

pub places-init : goal.places-init
places-init c = no_place (option_copied c.args.above) c.args.paths.now

pub places-preserved : goal.places-preserved
places-preserved c = next_place (option_copied c.args.above) c.args.paths.now c.places.place c.index-paths-place.result c.places-test.true (ap parent (sym c.index-paths-place.is) ∙ c.is_child.ensures c.if-not-is_child.false)
    (c.follows.ensures c.if-not-follows.false) c.places.invariant

pub returns : goal.returns
returns c t = all_places (option_copied c.args.above) c.args.paths.now c.places.place c.places-test.false c.places.invariant
