use Rattle.std.proofs.Common.{◌≡◌, length, take}
use Rattle.std.specs.HashMap as hash
use Rattle.sync_path.specs.Order.{path_eq}
use Rattle.apply_model.specs.Entries.{store_of}
use Rattle.apply_model.specs.Tables.{IsKept, map_of}
use Rattle.apply_model.proofs.tree_map.TreeMap.from_rows.Given as goal

-- the table keeps the map of the rows so far
abbrev pub invariant-rows : goal.invariant-rows
invariant-rows l = record {
  map : map_of l.nodes.entries ≡ store_of (take (length l.yielded) l.fn.rows.items);
  kept : IsKept (map_of l.nodes.entries) (hash.get path_eq l.nodes);
}
