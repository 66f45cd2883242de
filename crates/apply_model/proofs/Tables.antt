-- A tree kept in a table: its map, and how that follows what the table holds.
use Rattle.std.proofs.Common.{◌≡◌, ◌⊎◌, inl, inr, ℕ, zero, suc, ◌+◌, ◌-◌, ◌<◌, Bool, true, false, not, cond, List, [], ◌∷◌, Option, Some, None, refl, sym, ap, ◌∙◌, subst, arith}
use Rattle.std.specs.Prelude.{if◌then◌else◌, is_some}
use Rattle.std.specs.FinMap as map
use Rattle.std.specs.FinMap.{get-empty, same_map}
use Rattle.std.specs.Map.{lookup}
use Rattle.sync_path.specs.Order.{path_cmp_exact, path_cmp_total, path_eq, path_eq_equiv}
use Rattle.sync_path.specs.Paths.{Node, parent, path_cmp, same_path}
use Rattle.sync_command.specs.Maps.{IsTreeMap, Store, at, store, value_or_empty}
use Rattle.sync_command.specs.Trees.{IsTree, put}
use Rattle.sync_command.specs.Values.{is_dir, is_empty}
use Rattle.sync_command.specs.declared.values.Value.{Value}
use Rattle.sync_command.specs.declared.values.Value.TheVariants.{Dir, Empty, File}
use Rattle.sync_path.proofs.CallerLemmas.{parent_apart, same_path_comm, same_path_is, same_path_refl, child_at, child_is, count_empty, count_less, count_more, count_same, count_some}
use Rattle.sync_command.proofs.CallerLemmas.{at-store, empty_is, empty_tree, full_from_dir, full_store, kept_put, put_apart, put_here}
use Rattle.apply_model.specs.declared.table.Entry.{Entry}
use Rattle.apply_model.specs.declared.table.Step.{Step}
use Rattle.apply_model.specs.declared.table.Step.TheVariants.{Make, Remove, Replace}
use Rattle.apply_model.specs.Steps.{IsStep, after_step}
use Rattle.apply_model.specs.Tables.{IsKept, Table, children_in, entry_with, is_full, map_of, recounted, revalued, value_in, with_child}
use Rattle.sync_path.specs.Children.{IsChildCount, is_child, is_parent}
use Rattle.apply_model.proofs.Steps.{below_from_put, not_both}

abbrev pub Entries : Type 0
Entries = List (Node × Entry)

-- ---- the map of some entries

-- the map holds at each node what the table's entry there gives
pub at-map_of : (es : Entries) (q : Node) → at (map_of es) q ≡ value_in (lookup (path_eq q) es)
unfolding same_path
at-map_of [] q = ap value_or_empty (get-empty path_cmp q)
at-map_of (e ∷ es) q = ap (λ t. t q) (at-store (map_of es) e.0 e.1.value) ∙ go (path_eq q e.0) (at-map_of es q)
  where
    go : (b : Bool) → at (map_of es) q ≡ value_in (lookup (path_eq q) es) → (if b then e.1.value else at (map_of es) q) ≡ value_in (cond b (Some e.1) (lookup (path_eq q) es))
    go true rec = refl
    go false rec = rec

-- no value in it is Empty
abbrev pub IsFull : Store → Type 0
IsFull m = (p : Node) → map.get m p ≡ Some Empty → ⊥

pub full-map_of : (es : Entries) → IsFull (map_of es)
full-map_of [] = empty_tree.full
full-map_of (e ∷ es) = full_store (map_of es) e.0 e.1.value (full-map_of es)

-- two maps that hold the same are one
pub same_full : (m n : Store) → IsFull m → IsFull n → ((q : Node) → at m q ≡ at n q) → m ≡ n
same_full m n f g same = same_map path_cmp_total path_cmp_exact m n (λ q. go (map.get m q) (map.get n q) (f q) (g q) (same q))
  where
    go : (o r : Option Value) → (o ≡ Some Empty → ⊥) → (r ≡ Some Empty → ⊥) → value_or_empty o ≡ value_or_empty r → o ≡ r
    go None None f g e = refl
    go None (Some v) f g e = absurd (g (ap Some (sym e)))
    go (Some v) None f g e = absurd (f (ap Some e))
    go (Some v) (Some w) f g e = ap Some e

-- the value that a map gives
abbrev pub held_value : Value → Option Value
held_value v = if is_empty v then None else Some v

pub get_held : (m : Store) → IsFull m → (q : Node) (v : Value) → at m q ≡ v → map.get m q ≡ held_value v
get_held m f q v e = go (map.get m q) (f q) e (is_empty v) (empty_is v) refl
  where
    go : (o : Option Value) → (o ≡ Some Empty → ⊥) → value_or_empty o ≡ v → (b : Bool) → (b ≡ true → v ≡ Empty) → is_empty v ≡ b → o ≡ (if b then None else Some v)
    go None f e true is same = refl
    go None f e false is same = absurd (not_both (is_empty v) (ap is_empty (sym e)) same)
    go (Some w) f e true is same = absurd (f (ap Some (e ∙ is refl)))
    go (Some w) f e false is same = ap Some e

-- entries that give the same values at each node have one map
pub same_values : (es fs : Entries) → ((q : Node) → lookup (path_eq q) fs ≡ lookup (path_eq q) es) → map_of fs ≡ map_of es
same_values es fs same = same_full _ _ (full-map_of fs) (full-map_of es) (λ q. at-map_of fs q ∙ ap value_in (same q) ∙ sym (at-map_of es q))

-- ---- one write to a table

pub path_eq-flip : (a q : Node) → path_eq a q ≡ same_path q a
unfolding same_path
path_eq-flip a q = path_eq_equiv.symm a q

module _ (old new : Table) (a : Node) (s v : Entry) (was : ◌≡◌ {A = Option Entry} (Some s) (old a)) (written_at : (q : Node) → new q ≡ cond (path_eq a q) (Some v) (old q)) where
  pub written : (f : Option Entry → Option Entry) → f (Some s) ≡ Some v → (p : Node) → new p ≡ (if same_path p a then f (old p) else old p)
  written f e p = written_at p ∙ ap (λ b. cond b (Some v) (old p)) (path_eq-flip a p) ∙ go (same_path p a) (same_path_is p a)
    where
      go : (b : Bool) → (b ≡ true → p ≡ a) → cond b (Some v) (old p) ≡ (if b then f (old p) else old p)
      go true is = sym (ap (λ r. f (old r)) (is refl) ∙ ap f (sym was) ∙ e)
      go false is = refl

  -- a write of what is there changes nothing
  pub written_same : s ≡ v → (p : Node) → new p ≡ old p
  written_same e p = written_at p ∙ ap (λ b. cond b (Some v) (old p)) (path_eq-flip a p) ∙ go (same_path p a) (same_path_is p a)
    where
      go : (b : Bool) → (b ≡ true → p ≡ a) → cond b (Some v) (old p) ≡ old p
      go true is = sym (ap old (is refl) ∙ sym was ∙ ap Some e)
      go false is = refl

pub unwritten : (old new : Table) (a : Node) → None ≡ old a → ((p : Node) → new p ≡ old p) → (f : Option Entry → Option Entry) → f None ≡ None → (p : Node) → new p ≡ (if same_path p a then f (old p) else old p)
unwritten old new a gone same f e p = same p ∙ go (same_path p a) (same_path_is p a)
  where
    go : (b : Bool) → (b ≡ true → p ≡ a) → old p ≡ (if b then f (old p) else old p)
    go true is = ap old (is refl) ∙ sym gone ∙ sym e ∙ ap f gone ∙ sym (ap (λ r. f (old r)) (is refl))
    go false is = refl

-- a write at the parent of the node, or none where it is a root, counts the node there
pub child_written : (more : Bool) (old new : Table) (n q : Node) → parent n ≡ Some q → ((p : Node) → new p ≡ (if same_path p q then recounted more (old p) else old p)) → (p : Node) → new p ≡ with_child more n old p
child_written more old new n q up written_at p = written_at p ∙ ap (λ b. if b then recounted more (old p) else old p) (same_path_comm p q)
    ∙ ap (λ o. if is_parent o p then recounted more (old p) else old p) (sym up)

pub root_written : (more : Bool) (old new : Table) (n : Node) → parent n ≡ None → ((p : Node) → new p ≡ old p) → (p : Node) → new p ≡ with_child more n old p
root_written more old new n up same p = same p ∙ ap (λ o. if is_parent o p then recounted more (old p) else old p) (sym up)

pub with_child_same : (more : Bool) (n : Node) (old new : Table) → ((p : Node) → old p ≡ new p) → (p : Node) → with_child more n old p ≡ with_child more n new p
with_child_same more n old new same p = ap (λ o. if is_child n p then recounted more o else o) (same p)

-- a node without children comes in after its parent has counted it
pub put_in : (old mid new : Table) (n : Node) (v : Value) → ((p : Node) → mid p ≡ with_child true n old p) → ((q : Node) → new q ≡ cond (path_eq n q) (entry_with v) (mid q)) →
    (p : Node) → new p ≡ (if same_path p n then entry_with v else with_child true n old p)
put_in old mid new n v counted written_at p = written_at p ∙ ap (λ b. cond b (entry_with v) (mid p)) (path_eq-flip n p) ∙ ap (λ o. if same_path p n then entry_with v else o) (counted p)

-- the same of a node that is emptied first; its parent is another
pub taken_out : (old mid new : Table) (n : Node) (v : Value) → ((p : Node) → mid p ≡ (if same_path p n then revalued v (old p) else old p)) → ((p : Node) → new p ≡ with_child false n mid p) →
    (p : Node) → new p ≡ (if same_path p n then revalued v (old p) else with_child false n old p)
taken_out old mid new n v emptied counted p = counted p ∙ go (same_path p n) (is_child n p) (emptied p) (both refl refl)
  where
    both : {b c : Bool} → same_path p n ≡ b → is_child n p ≡ c → b ≡ true → c ≡ true → ⊥
    both s e t u = not_both (same_path p n) (s ∙ t) (parent_apart p n (child_is n p (e ∙ u)))

    go : (b c : Bool) → mid p ≡ (if b then revalued v (old p) else old p) → (b ≡ true → c ≡ true → ⊥) → (if c then recounted false (mid p) else mid p) ≡ (if b then revalued v (old p) else (if c then recounted false (old p) else old p))
    go true true e f = absurd (f refl refl)
    go true false e f = e
    go false true e f = ap (recounted false) e
    go false false e f = e

-- ---- one change of a table

-- how the count of children goes on where one of them was full or not, and is
abbrev pub count_after : Bool → Bool → ℕ → ℕ
count_after true true k = k
count_after true false k = k - 1
count_after false true k = k + 1
count_after false false k = k

-- a table in which the node has another value, and its parent counts anew
pub record IsChanged (old new : Table) (n : Node) (v : Value) : Type 0 where
  pub value : value_in (new n) ≡ v
  pub values : (p : Node) → same_path p n ≡ false → value_in (new p) ≡ value_in (old p)
  pub above : (q : Node) → parent n ≡ Some q → children_in (new q) ≡ count_after (not (is_empty (value_in (old n)))) (not (is_empty v)) (children_in (old q))
  pub other : (q : Node) → (parent n ≡ Some q → ⊥) → children_in (new q) ≡ children_in (old q)

module _ (es fs : Entries) (n : Node) (v : Value) (change : IsChanged (λ q. lookup (path_eq q) es) (λ q. lookup (path_eq q) fs) n v) where
  changed_at : (q : Node) → at (map_of fs) q ≡ at (store (map_of es) n v) q
  changed_at q = at-map_of fs q ∙ go (same_path q n) refl ∙ ap (λ t. t q) (sym (at-store (map_of es) n v))
    where
      go : (b : Bool) → same_path q n ≡ b → value_in (lookup (path_eq q) fs) ≡ put (at (map_of es)) n v q
      go true s = ap (λ r. value_in (lookup (path_eq r) fs)) (same_path_is q n s) ∙ change.value ∙ sym (ap (λ b. if b then v else at (map_of es) q) s)
      go false s = change.values q s ∙ sym (at-map_of es q) ∙ sym (put_apart (at (map_of es)) n v q s)

  -- the map has the value at the node
  pub changed_map : map_of fs ≡ store (map_of es) n v
  changed_map = same_full _ _ (full-map_of fs) (full_store (map_of es) n v (full-map_of es)) changed_at

  full_here : is_full (map_of fs) n ≡ not (is_empty v)
  full_here = ap (λ w. not (is_empty w)) (changed_at n ∙ ap (λ t. t n) (at-store (map_of es) n v) ∙ put_here (at (map_of es)) n v)

  full_apart : (p : Node) → same_path p n ≡ false → is_full (map_of es) p ≡ is_full (map_of fs) p
  full_apart p s = sym (ap (λ w. not (is_empty w)) (changed_at p ∙ ap (λ t. t p) (at-store (map_of es) n v) ∙ put_apart (at (map_of es)) n v p s))

  full_before : is_full (map_of es) n ≡ not (is_empty (value_in (lookup (path_eq n) es)))
  full_before = ap (λ w. not (is_empty w)) (at-map_of es n)

  count_above : (q : Node) → parent n ≡ Some q → (k : ℕ) → IsChildCount (is_full (map_of es)) q k →
      IsChildCount (is_full (map_of fs)) q (count_after (not (is_empty (value_in (lookup (path_eq n) es)))) (not (is_empty v)) k)
  count_above q up k count = go (not (is_empty (value_in (lookup (path_eq n) es)))) (not (is_empty v)) full_before full_here
    where
      all_same : (a b : Bool) → is_full (map_of es) n ≡ a → is_full (map_of fs) n ≡ b → a ≡ b → (p : Node) → parent p ≡ Some q → is_full (map_of es) p ≡ is_full (map_of fs) p
      all_same a b was is same p e = pick (same_path p n) refl
        where
          pick : (s : Bool) → same_path p n ≡ s → is_full (map_of es) p ≡ is_full (map_of fs) p
          pick true s = ap (is_full (map_of es)) (same_path_is p n s) ∙ was ∙ same ∙ sym is ∙ sym (ap (is_full (map_of fs)) (same_path_is p n s))
          pick false s = full_apart p s

      go : (a b : Bool) → is_full (map_of es) n ≡ a → is_full (map_of fs) n ≡ b → IsChildCount (is_full (map_of fs)) q (count_after a b k)
      go true true was is = count_same _ _ q k count (all_same true true was is refl)
      go false false was is = count_same _ _ q k count (all_same false false was is refl)
      go false true was is = count_more _ _ q n k count up was is full_apart
      go true false was is = count_less _ _ q n k count up was is full_apart

  -- the table is kept right, where the change leaves a tree
  pub changed_kept : IsKept (map_of es) (λ q. lookup (path_eq q) es) → IsTree (put (at (map_of es)) n v) → IsKept (map_of fs) (λ q. lookup (path_eq q) fs)
  changed_kept kept tree = record {
    tree = subst IsTreeMap (sym changed_map) (kept_put (map_of es) n v kept.tree tree);
    counts = λ q. go q (is_child n q) refl;
  }
    where
      go : (q : Node) (b : Bool) → is_child n q ≡ b → IsChildCount (is_full (map_of fs)) q (children_in (lookup (path_eq q) fs))
      go q true e = let up : parent n ≡ Some q = child_is n q e in
          subst (IsChildCount (is_full (map_of fs)) q) (sym (change.above q up)) (count_above q up _ (kept.counts q))
      go q false e = subst (IsChildCount (is_full (map_of fs)) q) (sym (change.other q away))
          (count_same _ _ q _ (kept.counts q) (λ p up. full_apart p (apart p up (same_path p n) (same_path_is p n))))
        where
          away : parent n ≡ Some q → ⊥
          away up = not_both (is_child n q) (child_at n q up) e

          apart : (p : Node) → parent p ≡ Some q → (b : Bool) → (b ≡ true → p ≡ n) → b ≡ false
          apart p up true is = absurd (away (sym (ap parent (is refl)) ∙ up))
          apart p up false is = refl

-- ---- a step

some_entry : (o : Option Entry) → is_empty (value_in o) ≡ false → is_some o ≡ true
some_entry None e = cc
some_entry (Some s) e = refl

dir_entry : (o : Option Entry) → is_dir (value_in o) ≡ true → is_some o ≡ true
dir_entry None e = cc
dir_entry (Some s) e = refl

value-recounted : (more : Bool) (o : Option Entry) → value_in (recounted more o) ≡ value_in o
value-recounted more None = refl
value-recounted more (Some s) = refl

value-with_child : (more : Bool) (n : Node) (entry : Table) (p : Node) → value_in (with_child more n entry p) ≡ value_in (entry p)
value-with_child more n entry p = go (is_child n p)
  where
    go : (b : Bool) → value_in (if b then recounted more (entry p) else entry p) ≡ value_in (entry p)
    go true = value-recounted more (entry p)
    go false = refl

value-revalued : (v : Value) (o : Option Entry) → is_some o ≡ true → value_in (revalued v o) ≡ v
value-revalued v None e = cc
value-revalued v (Some s) e = refl

children-revalued : (v : Value) (o : Option Entry) → children_in (revalued v o) ≡ children_in o
children-revalued v None = refl
children-revalued v (Some s) = refl

children-recounted : (more : Bool) (o : Option Entry) → is_some o ≡ true → children_in (recounted more o) ≡ (if more then children_in o + 1 else children_in o - 1)
children-recounted more None e = cc
children-recounted more (Some s) e = refl

-- a node that is no child of another changes nothing there
no_child_of : (n q : Node) → (parent n ≡ Some q → ⊥) → is_child n q ≡ false
no_child_of n q up = go (is_child n q) (child_is n q)
  where
    go : (b : Bool) → (b ≡ true → parent n ≡ Some q) → b ≡ false
    go true f = absurd (up (f refl))
    go false f = refl

-- how counts go on, by what the node held and holds
count_at : (a b c d : Bool) (k : ℕ) → not a ≡ c → not b ≡ d → count_after c d k ≡ count_after (not a) (not b) k
count_at a b c d k e f = ap (λ x. count_after x d k) (sym e) ∙ ap (λ x. count_after (not a) x k) (sym f)

count_level : (b : Bool) (k : ℕ) → k ≡ count_after b b k
count_level true k = refl
count_level false k = refl

module _ (es : Entries) (n : Node) (v : Value) (kept : IsKept (map_of es) (λ q. lookup (path_eq q) es)) (tree : IsTree (put (at (map_of es)) n v)) where
  -- what is above a node that is full before or after has an entry
  above_some : (q : Node) → parent n ≡ Some q → is_empty (value_in (lookup (path_eq n) es)) ≡ false ⊎ is_empty v ≡ false → is_some (lookup (path_eq q) es) ≡ true
  above_some q up (inl full) = dir_entry (lookup (path_eq q) es) (sym (ap is_dir (at-map_of es q)) ∙ kept.tree.tree q n up (ap is_empty (at-map_of es n) ∙ full))
  above_some q up (inr full) = dir_entry (lookup (path_eq q) es) (sym (ap is_dir (at-map_of es q)) ∙ below_from_put (at (map_of es)) n v tree full q up)

  -- an empty node counts no children
  none_counted : is_empty (value_in (lookup (path_eq n) es)) ≡ true → children_in (lookup (path_eq n) es) ≡ 0
  none_counted empty = zero_of _ (λ some. clash (count_some (is_full (map_of es)) n _ (kept.counts n) some))
    where
      zero_of : (k : ℕ) → (0 < k → ⊥) → k ≡ 0
      zero_of zero f = refl
      zero_of (suc k) f = absurd (f (omega arith))

      hollow : (w : Value) → not (is_empty w) ≡ true → is_empty w ≡ false
      hollow Empty e = cc
      hollow (Dir l) e = refl
      hollow (File b) e = refl

      clash : (p : Node) × (parent p ≡ Some n) × (is_full (map_of es) p ≡ true) → ⊥
      clash (p, up, full) = not_both (is_empty (at (map_of es) n)) (ap is_empty (at-map_of es n) ∙ empty) (full_from_dir _ (kept.tree.tree n p up (hollow _ full)))

  made : (new : Table) → is_empty (value_in (lookup (path_eq n) es)) ≡ true → is_empty v ≡ false → ((p : Node) → new p ≡ (if same_path p n then entry_with v else with_child true n (λ q. lookup (path_eq q) es) p)) → IsChanged (λ q. lookup (path_eq q) es) new n v
  made new was now eq = record {
    value = ap value_in (here n (same_path_refl n));
    values = λ p apart. ap value_in (away p apart) ∙ value-with_child true n (λ q. lookup (path_eq q) es) p;
    above = λ q up. ap children_in (away q (parent_apart q n up)) ∙ ap (λ b. children_in (if b then recounted true (lookup (path_eq q) es) else lookup (path_eq q) es)) (child_at n q up)
        ∙ children-recounted true (lookup (path_eq q) es) (above_some q up (inr now)) ∙ count_at _ _ false true _ (ap not was) (ap not now);
    other = λ q up. pick q up (same_path q n) refl;
  }
    where
      here : (p : Node) → same_path p n ≡ true → new p ≡ entry_with v
      here p s = eq p ∙ ap (λ b. if b then entry_with v else with_child true n (λ q. lookup (path_eq q) es) p) s

      away : (p : Node) → same_path p n ≡ false → new p ≡ with_child true n (λ q. lookup (path_eq q) es) p
      away p s = eq p ∙ ap (λ b. if b then entry_with v else with_child true n (λ q. lookup (path_eq q) es) p) s

      pick : (q : Node) → (parent n ≡ Some q → ⊥) → (b : Bool) → same_path q n ≡ b → children_in (new q) ≡ children_in (lookup (path_eq q) es)
      pick q up true s = ap children_in (here q s) ∙ sym (none_counted was) ∙ ap (λ r. children_in (lookup (path_eq r) es)) (sym (same_path_is q n s))
      pick q up false s = ap children_in (away q s) ∙ ap (λ b. children_in (if b then recounted true (lookup (path_eq q) es) else lookup (path_eq q) es)) (no_child_of n q up)

  removed : (new : Table) → is_empty (value_in (lookup (path_eq n) es)) ≡ false → is_empty v ≡ true → ((p : Node) → new p ≡ (if same_path p n then revalued v (lookup (path_eq p) es) else with_child false n (λ q. lookup (path_eq q) es) p)) → IsChanged (λ q. lookup (path_eq q) es) new n v
  removed new was now eq = record {
    value = ap value_in (here n (same_path_refl n)) ∙ value-revalued v (lookup (path_eq n) es) (some_entry (lookup (path_eq n) es) was);
    values = λ p apart. ap value_in (away p apart) ∙ value-with_child false n (λ q. lookup (path_eq q) es) p;
    above = λ q up. ap children_in (away q (parent_apart q n up)) ∙ ap (λ b. children_in (if b then recounted false (lookup (path_eq q) es) else lookup (path_eq q) es)) (child_at n q up)
        ∙ children-recounted false (lookup (path_eq q) es) (above_some q up (inl was)) ∙ count_at _ _ true false _ (ap not was) (ap not now);
    other = λ q up. pick q up (same_path q n) refl;
  }
    where
      here : (p : Node) → same_path p n ≡ true → new p ≡ revalued v (lookup (path_eq p) es)
      here p s = eq p ∙ ap (λ b. if b then revalued v (lookup (path_eq p) es) else with_child false n (λ q. lookup (path_eq q) es) p) s

      away : (p : Node) → same_path p n ≡ false → new p ≡ with_child false n (λ q. lookup (path_eq q) es) p
      away p s = eq p ∙ ap (λ b. if b then revalued v (lookup (path_eq p) es) else with_child false n (λ q. lookup (path_eq q) es) p) s

      pick : (q : Node) → (parent n ≡ Some q → ⊥) → (b : Bool) → same_path q n ≡ b → children_in (new q) ≡ children_in (lookup (path_eq q) es)
      pick q up true s = ap children_in (here q s) ∙ children-revalued v (lookup (path_eq q) es)
      pick q up false s = ap children_in (away q s) ∙ ap (λ b. children_in (if b then recounted false (lookup (path_eq q) es) else lookup (path_eq q) es)) (no_child_of n q up)

  replaced : (new : Table) → is_empty (value_in (lookup (path_eq n) es)) ≡ is_empty v → ((p : Node) → new p ≡ (if same_path p n then revalued v (lookup (path_eq p) es) else lookup (path_eq p) es)) → IsChanged (λ q. lookup (path_eq q) es) new n v
  replaced new same eq = record {
    value = ap value_in (here n (same_path_refl n)) ∙ value (lookup (path_eq n) es) same;
    values = λ p apart. ap value_in (away p apart);
    above = λ q up. ap children_in (away q (parent_apart q n up)) ∙ count_level (not (is_empty v)) _ ∙ count_at _ _ (not (is_empty v)) (not (is_empty v)) _ (ap not same) refl;
    other = λ q up. pick q (same_path q n) refl;
  }
    where
      value : (o : Option Entry) → is_empty (value_in o) ≡ is_empty v → value_in (revalued v o) ≡ v
      value None e = sym (empty_is v (sym e))
      value (Some s) e = refl

      here : (p : Node) → same_path p n ≡ true → new p ≡ revalued v (lookup (path_eq p) es)
      here p s = eq p ∙ ap (λ b. if b then revalued v (lookup (path_eq p) es) else lookup (path_eq p) es) s

      away : (p : Node) → same_path p n ≡ false → new p ≡ lookup (path_eq p) es
      away p s = eq p ∙ ap (λ b. if b then revalued v (lookup (path_eq p) es) else lookup (path_eq p) es) s

      pick : (q : Node) (b : Bool) → same_path q n ≡ b → children_in (new q) ≡ children_in (lookup (path_eq q) es)
      pick q true s = ap children_in (here q s) ∙ children-revalued v (lookup (path_eq q) es)
      pick q false s = ap children_in (away q s)

  -- a step changes the node's value, and nothing else
  stepped : (step : Step) (new : Table) → IsStep step n (value_in (lookup (path_eq n) es)) v → ((p : Node) → new p ≡ after_step step n v (λ q. lookup (path_eq q) es) p) → IsChanged (λ q. lookup (path_eq q) es) new n v
  stepped (Make above) new is eq = made new is.0 is.1 eq
  stepped (Remove above) new is eq = removed new is.0 is.1 eq
  stepped Replace new is eq = replaced new is eq

-- a table after a step, in the tree that it keeps
module _ (es : Entries) (m : Store) (is : map_of es ≡ m) (kept : IsKept (map_of es) (λ q. lookup (path_eq q) es)) (fs : Entries) (step : Step) (n : Node) (v : Value)
    (from : IsStep step n (at m n) v) (tree : IsTree (put (at m) n v)) (eq : (p : Node) → lookup (path_eq p) fs ≡ after_step step n v (λ q. lookup (path_eq q) es) p) where
  tree_before : IsTree (put (at (map_of es)) n v)
  tree_before = subst (λ s. IsTree (put (at s) n v)) (sym is) tree

  step_change : IsChanged (λ q. lookup (path_eq q) es) (λ q. lookup (path_eq q) fs) n v
  step_change = stepped es n v kept tree_before step (λ q. lookup (path_eq q) fs) (subst (λ w. IsStep step n w v) (ap (λ s. at s n) (sym is) ∙ at-map_of es n) from) eq

  pub step_map : map_of fs ≡ store m n v
  step_map = changed_map es fs n v step_change ∙ ap (λ s. store s n v) is

  pub step_kept : IsKept (map_of fs) (λ q. lookup (path_eq q) fs)
  step_kept = changed_kept es fs n v step_change kept tree_before

-- the same table in another order of its entries
pub same_kept : (es fs : Entries) → ((q : Node) → lookup (path_eq q) fs ≡ lookup (path_eq q) es) → IsKept (map_of es) (λ q. lookup (path_eq q) es) → IsKept (map_of fs) (λ q. lookup (path_eq q) fs)
same_kept es fs same kept = record {
  tree = subst IsTreeMap (sym is) kept.tree;
  counts = λ q. subst (λ o. IsChildCount (is_full (map_of fs)) q (children_in o)) (sym (same q)) (subst (λ m. IsChildCount (is_full m) q (children_in (lookup (path_eq q) es))) (sym is) (kept.counts q));
}
  where
    is : map_of fs ≡ map_of es
    is = same_values es fs same

-- nothing is in the empty table
pub empty_kept : IsKept (map_of []) (λ q. None)
empty_kept = record { tree = empty_tree; counts = λ q. count_empty (is_full (map_of [])) q (λ p e. ap (λ v. not (is_empty v)) (at-map_of [] p)) }
