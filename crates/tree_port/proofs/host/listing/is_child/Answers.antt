use Rattle.std.proofs.Common.{◌∙◌, length, sym, ap}
use Rattle.std.specs.Prelude.{option_copied}
use Rattle.sync_path.proofs.CallerLemmas.{parent_none}
use Rattle.tree_port.proofs.Listed.{one_name}
use Rattle.tree_port.proofs.host.listing.is_child.Goals as goal

pub returns-in-None : goal.returns-in-None
returns-in-None c t = (parent_none c.args.path.now).1 (one_name c.depth.result (length c.args.path.now) c.depth.ensures.names t) ∙ ap option_copied (sym c.in-None.is)
