use Rattle.std.proofs.Common.{◌≡◌, ◌<◌, ◌≤◌, ◌+◌, ◌-◌, ◌^◌, ℕ, Some, None, sym, ap, subst, ◌∙◌, arith, refl}
use Rattle.std.specs.Prelude.{IsSome}
use Rattle.std.specs.HashMap.{get}
use Rattle.sync_path.specs.Order.{path_eq}
use Rattle.canon_set.specs.declared.table.Touched.{Touched}
use Rattle.canon_set.specs.Entries.{children_in}
use Rattle.canon_set.proofs.TableMaps.{place_index, known_touched, known_above, known_not, read_touched, count_touched, put_above, touches_kept}
use Rattle.canon_set.proofs.table.Table.count.Goals as goal

pub overflow_add-touched : goal.overflow_add-touched
overflow_add-touched c = let v : Touched = c.pair_mut-touched.result.1.now in
    let at = place_index c.args.self.now.touched.entries c.args.path.now ∙ sym c.in-Some.ensures.index in
    let e = known_touched c.args.self.now c.args.path.now c.in-Some.place v at (read_touched c.args.self.now c.args.path.now c.in-Some.place _ v c.pair_mut-touched.ensures.unique at c.pair_mut-touched.ensures.value) in
    let h : v.children + c.args.added < 2 ^ 64 = subst (λ n. n + c.args.added < 2 ^ 64) (ap children_in e) c.requires.few in omega (arith, h)

pub overflow_sub-touched : goal.overflow_sub-touched
overflow_sub-touched c = let v : Touched = c.pair_mut-touched.result.1.now in
    let at = place_index c.args.self.now.touched.entries c.args.path.now ∙ sym c.in-Some.ensures.index in
    let e = known_touched c.args.self.now c.args.path.now c.in-Some.place v at (read_touched c.args.self.now c.args.path.now c.in-Some.place _ v c.pair_mut-touched.ensures.unique at c.pair_mut-touched.ensures.value) in
    subst (λ n. c.args.taken ≤ n + c.args.added) (ap children_in e) c.requires.some

pub returns-in-Some-clause-known : goal.returns-in-Some-clause-known
returns-in-Some-clause-known c = let v : Touched = c.pair_mut-touched.result.1.now in
    let at = place_index c.args.self.now.touched.entries c.args.path.now ∙ sym c.in-Some.ensures.index in record {
      entry = record { place = Some c.in-Some.place; children = v.children };
      was = known_touched c.args.self.now c.args.path.now c.in-Some.place v at (read_touched c.args.self.now c.args.path.now c.in-Some.place _ v c.pair_mut-touched.ensures.unique at c.pair_mut-touched.ensures.value);
      now = count_touched c.args.self.now c.in-Some.place _ v (record { first = v.first; last = v.last; left_dir = v.left_dir; children = v.children + c.args.added - c.args.taken }) c.pair_mut-touched.ensures.unique c.pair_mut-touched.ensures.value refl c.args.path.now at;
    }

pub returns-in-Some-clause-touched : goal.returns-in-Some-clause-touched
returns-in-Some-clause-touched c = let v : Touched = c.pair_mut-touched.result.1.now in
    touches_kept c.args.self.now.touched.entries c.in-Some.place _ v (record { first = v.first; last = v.last; left_dir = v.left_dir; children = v.children + c.args.added - c.args.taken }) c.pair_mut-touched.ensures.value refl

pub overflow_add-children : goal.overflow_add-children
overflow_add-children c = let at = place_index c.args.self.now.touched.entries c.args.path.now ∙ sym c.get_index_of.ensures.index ∙ c.in_default.is in
    let e = known_above c.args.self.now c.args.path.now c.in-Some-get_mut.children.now at (sym c.in-Some-get_mut.ensures.value) in
    let h : c.in-Some-get_mut.children.now + c.args.added < 2 ^ 64 = subst (λ n. n + c.args.added < 2 ^ 64) (ap children_in e) c.requires.few in omega (arith, h)

pub returns-in-Some-get_mut-clause-known : goal.returns-in-Some-get_mut-clause-known
returns-in-Some-get_mut-clause-known c = let at = place_index c.args.self.now.touched.entries c.args.path.now ∙ sym c.get_index_of.ensures.index ∙ c.in_default.is in
    let n : ℕ = c.in-Some-get_mut.children.now + c.args.added - c.args.taken in
    let was : Some c.in-Some-get_mut.children.now ≡ get path_eq c.args.self.now.above c.args.path.now = c.in-Some-get_mut.ensures.value in let h = c.get_mut.follows.holds n in record {
      entry = record { place = None; children = c.in-Some-get_mut.children.now };
      was = known_above c.args.self.now c.args.path.now c.in-Some-get_mut.children.now at (sym was);
      now = put_above c.args.self.now c.args.path.now at (record { touched = c.args.self.now.touched; above = c.get_mut.follows.lender n }) n refl (h.3 (subst IsSome was refl)).0;
    }

pub returns-in-None-clause-unknown : goal.returns-in-None-clause-unknown
returns-in-None-clause-unknown c = let at = place_index c.args.self.now.touched.entries c.args.path.now ∙ sym c.get_index_of.ensures.index ∙ c.in_default.is in (
  known_not c.args.self.now c.args.path.now at (sym c.in-None.ensures.value),
  (λ i. record { touched = c.args.self.now.touched; above = c.get_mut.follows.holds-at-none i }),
)
