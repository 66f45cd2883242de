use Rattle.std.proofs.Common.{◌||◌, not, refl}
use Rattle.canon_set.specs.declared.table.Touched.{Touched}
use Rattle.canon_set.proofs.TableMaps.{renewed_touch, renewed_entries}
use Rattle.canon_set.proofs.table.Table.set_last.Goals as goal

pub returns-clause-touched : goal.returns-clause-touched
returns-clause-touched c = let v : Touched = c.pair_mut-touched.result.1.now in
    renewed_touch c.args.self.now c.args.place c.pair_mut-touched.result.0.now v (record { first = v.first; last = c.args.last; left_dir = v.left_dir || not c.is_dir.result; children = v.children }) c.args.last c.pair_mut-touched.ensures.value
    (λ i. record { path = c.pair_mut-touched.result.0.now; first = v.first; last = c.args.last; left_dir = v.left_dir || not (c.is_dir.ensures i) })

pub returns-clause-entries : goal.returns-clause-entries
returns-clause-entries c = let v : Touched = c.pair_mut-touched.result.1.now in
    renewed_entries c.args.self.now c.args.place c.pair_mut-touched.result.0.now v (record { first = v.first; last = c.args.last; left_dir = v.left_dir || not c.is_dir.result; children = v.children }) c.args.last c.pair_mut-touched.ensures.value
    (λ i. record { path = c.pair_mut-touched.result.0.now; first = v.first; last = c.args.last; left_dir = v.left_dir || not (c.is_dir.ensures i) }) c.pair_mut-touched.ensures.unique refl
