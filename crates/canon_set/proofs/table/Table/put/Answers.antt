use Rattle.std.proofs.Common.{◌||◌, ◌++◌, ◌∷◌, [], Some, cond, not, length, refl, ap, ◌∙◌}
use Rattle.std.specs.Ordering.{is_eq}
use Rattle.sync_path.specs.Paths.{path_cmp}
use Rattle.sync_command.specs.Values.{is_dir}
use Rattle.canon_set.specs.declared.table.Touched.{Touched}
use Rattle.canon_set.specs.Tables.{place_of, touches_in, entry_at}
use Rattle.canon_set.proofs.TableMaps.{pushed_touch, pushed_entries}
use Rattle.canon_set.proofs.table.Table.put.Goals as goal

pub returns-clause-touched : goal.returns-clause-touched
returns-clause-touched c = let parts = c.into_parts-path in
    let w : Touched = record { first = parts.result.1; last = parts.result.2; left_dir = not c.is_dir.result || not c.is_dir-2.result; children = c.args.children } in
    pushed_touch c.args.self.now (record { touched = c.insert.new.self; above = c.args.self.now.above }) parts.result.0 w (ap (place_of (touches_in c.args.self.now)) parts.ensures.path ∙ c.requires.untouched) c.in-Ok.ensures.entries ∙
    (λ i. touches_in c.args.self.now ++ record {
      path = parts.ensures.path i;
      first = parts.ensures.old i;
      last = parts.ensures.new_value i;
      left_dir = not ((c.is_dir.ensures ∙ ap is_dir parts.ensures.old) i) || not ((c.is_dir-2.ensures ∙ ap is_dir parts.ensures.new_value) i);
    } ∷ [])

pub returns-clause-entries : goal.returns-clause-entries
returns-clause-entries c p = let parts = c.into_parts-path in
    let w : Touched = record { first = parts.result.1; last = parts.result.2; left_dir = not c.is_dir.result || not c.is_dir-2.result; children = c.args.children } in
    pushed_entries c.args.self.now (record { touched = c.insert.new.self; above = c.args.self.now.above }) parts.result.0 w (ap (place_of (touches_in c.args.self.now)) parts.ensures.path ∙ c.requires.untouched) c.in-Ok.ensures.entries refl c.in-Ok.ensures.updates.0 p ∙
    ap (λ q. cond (is_eq (path_cmp q p)) (Some (record { place = Some (length (touches_in c.args.self.now)); children = c.args.children })) (entry_at c.args.self.now p)) parts.ensures.path
