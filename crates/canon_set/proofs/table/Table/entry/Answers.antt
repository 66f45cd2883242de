use Rattle.std.proofs.Common.{sym, ◌∙◌}
use Rattle.canon_set.proofs.TableMaps.{place_index, known_touched, known_above, known_not}
use Rattle.canon_set.proofs.table.Table.entry.Goals as goal

pub returns-in-Some : goal.returns-in-Some
returns-in-Some c = sym (known_touched c.args.self.now c.args.path.now c.in-Some.place c.in-Some.touched.now (place_index c.args.self.now.touched.entries c.args.path.now ∙ sym c.in-Some.ensures.index) (sym c.in-Some.ensures.value))

pub returns-in-Some-get : goal.returns-in-Some-get
returns-in-Some-get c = sym (known_above c.args.self.now c.args.path.now c.in-Some-get.children.now (place_index c.args.self.now.touched.entries c.args.path.now ∙ sym c.in_default.ensures.index) (sym c.in-Some-get.ensures.value))

pub returns-in-None : goal.returns-in-None
returns-in-None c = sym (known_not c.args.self.now c.args.path.now (place_index c.args.self.now.touched.entries c.args.path.now ∙ sym c.in_default.ensures.index) (sym c.in-None.ensures.value))
