-- Reading calls one after another, and the walk of `dump`.
use Rattle.std.proofs.Common.{◌≡◌, true, false, List, [], ◌∷◌, ◌++◌, Option, Some, None, Result, Ok, Err, refl, sym, ap, subst, ◌∙◌, arith}
use Rattle.std.specs.Prelude.{⊤, reverse}
use Rattle.std.proofs.lemmas.List.{reverse-append, reverse-reverse}
use Rattle.sync_path.specs.Paths.{Node}
use Rattle.sync_command.specs.Maps.{IsTreeMap, Store, at}
use Rattle.sync_command.specs.Values.{is_dir, is_empty}
use Rattle.sync_command.specs.declared.commands.Row.{Row}
use Rattle.sync_command.specs.declared.values.Value.{Value}
use Rattle.apply_model.specs.Entries.{store_of}
use Rattle.tree_port.specs.Calls.{Finds, IsReading, IsWholeReading}
use Rattle.tree_port.specs.Conditions.{AreBelow, AreChildren}
use Rattle.tree_port.specs.States.{Counts, IfHeld, NoneFell, TreeState}
use Rattle.tree_port.specs.declared.faults.TreeFault.{TreeFault}
use Rattle.tree_port.specs.declared.faults.TreeFault.TheVariants.{Failed, Denied, Memory}
use Rattle.tree_port.proofs.PathOrder.{IsInOrder, order_at_start, order_by_passing, order_by_row}
use Rattle.tree_port.proofs.WholeTrees.{MissesNone, none_missed_at_end, none_missed_at_start, none_missed_by_passing, none_missed_by_row}

-- ---- states

-- a reading call that answered leaves all as it was
pub same_after : {T : Type 0} (x : T) (t u : TreeState) → IsReading (Ok x) t u → u ≡ t
same_after x t u r = λ i. record {
  contents = r.contents i;
  counts = record { faults = r.counts.done.faults i; denials = r.counts.done.denials i; out_of_memory = r.counts.done.out_of_memory i; changes = r.changes i };
}

none_fell : (a : Counts) → NoneFell a a
none_fell a = record { faults = omega arith; denials = omega arith; out_of_memory = omega arith; changes = omega arith }

-- memory ran out beside the tree
pub whole_memory : {T : Type 0} (r : Result T TreeFault) (t u : TreeState) → r ≡ Err Memory → u ≡ t → IfHeld t.contents IsTreeMap → IsWholeReading r t u
whole_memory {T} r t u is same tree = subst (λ r. IsWholeReading r t u) (sym is) (subst (IsWholeReading {T = T} (Err Memory) t) (sym same) (record {
  later = none_fell t.counts;
  done = tt;
  failed = λ e. cc;
  denied = λ e. cc;
  changes = refl;
  contents = refl;
  tree = tree;
}))

-- one call was refused
pub whole_refused : {T S : Type 0} (r : Result S TreeFault) (fault : TreeFault) (t u v : TreeState) → r ≡ Err fault → u ≡ t → IsReading {T = T} (Err fault) u v → IsWholeReading r t v
whole_refused {T} {S} r fault t u v is same reads = subst (λ r. IsWholeReading r t v) (sym is) (subst (λ t. IsWholeReading {T = S} (Err fault) t v) same (record {
  later = reads.counts.later;
  done = tt;
  failed = λ e. reads.counts.failed (the_same Failed e);
  denied = λ e. reads.counts.denied (the_same Denied e);
  changes = reads.changes;
  contents = reads.contents;
  tree = reads.tree;
}))
  where
    the_same : (other : TreeFault) → ◌≡◌ {A = Result S TreeFault} (Err fault) (Err other) → ◌≡◌ {A = Result T TreeFault} (Err fault) (Err other)
    the_same other e = cc

-- memory may run out whatever the tree holds
pub memory_known : {T : Type 0} (right : Store → T → Type 0) (r : Result T TreeFault) (t : Option Store) → r ≡ Err Memory → IfHeld t (λ m. Finds (right m) r)
memory_known right r None is = tt
memory_known {T} right r (Some m) is = subst (Finds {T = T} (right m)) (sym is) tt

-- ---- the walk

held_both : {P Q R : Store → Type 0} (t : Option Store) → IfHeld t P → IfHeld t Q → ((m : Store) → P m → Q m → R m) → IfHeld t R
held_both None p q f = tt
held_both (Some m) p q f = f m p q

held_before : (P : Store → Type 0) (t u : TreeState) → u ≡ t → IfHeld u.contents P → IfHeld t.contents P
held_before P t u same h = subst (λ s. IfHeld s.contents P) same h

-- the tree is as it was; the rows so far, and what is on the stack, the next one last
pub record IsWalked (before now : TreeState) (rows : List Row) (stack : List Node) : Type 0 where
  pub same : now ≡ before
  pub trees : IfHeld before.contents IsTreeMap
  pub order : IsInOrder rows (reverse stack)
  pub known : IfHeld before.contents (λ m. MissesNone m rows (reverse stack))

module _ {T : Type 0} (listed : T) (t u : TreeState) (rows : List Row) (found start stack : List Node) (reads : IsReading (Ok listed) t u) (below : AreBelow None found) (known : IfHeld t.contents (λ m. ⊤ × AreChildren (at m) None found)) (none : rows ≡ []) (bare : start ≡ []) (pushed : stack ≡ start ++ reverse found) where
  left : reverse stack ≡ found
  left = ap (λ l. reverse l) (pushed ∙ ap (λ l. l ++ reverse found) bare) ∙ reverse-reverse found

  pub walk_begins : IsWalked t u rows stack
  walk_begins = record {
    same = same_after listed t u reads;
    trees = reads.tree;
    order = subst (λ l. IsInOrder l (reverse stack)) (sym none) (subst (IsInOrder []) (sym left) (order_at_start found below));
    known = held_both t.contents known known (λ m are _. subst (λ l. MissesNone m l (reverse stack)) (sym none) (subst (MissesNone m []) (sym left) (none_missed_at_start m found are.1)));
  }

module _ (t u v : TreeState) (rows : List Row) (old stack : List Node) (n : Node) (value : Value) (walked : IsWalked t u rows old) (popped : old ≡ stack ++ n ∷ []) (reads : IsReading (Ok value) u v) (answer : IfHeld u.contents (λ m. ⊤ × (value ≡ at m n))) where
  pub still_same : v ≡ t
  still_same = same_after value u v reads ∙ walked.same

  held : IfHeld t.contents (λ m. ⊤ × (value ≡ at m n))
  held = held_before (λ m. ⊤ × (value ≡ at m n)) t u walked.same answer

  next : reverse old ≡ n ∷ reverse stack
  next = ap (λ l. reverse l) popped ∙ reverse-append stack (n ∷ [])

  order : IsInOrder rows (n ∷ reverse stack)
  order = subst (IsInOrder rows) next walked.order

  known : IfHeld t.contents (λ m. MissesNone m rows (n ∷ reverse stack))
  known = held_both t.contents walked.known walked.known (λ m w _. subst (MissesNone m rows) next w)

  -- the value is that of a known tree
  pub asks_right : IfHeld v.contents (λ m. IsTreeMap m × (value ≡ at m n))
  asks_right = subst (λ s. IfHeld s.contents (λ m. IsTreeMap m × (value ≡ at m n))) (sym still_same) (held_both t.contents walked.trees held (λ m tree is. (tree, is.1)))

  -- a node that is empty is passed over
  pub walk_passes : is_empty value ≡ true → IsWalked t v rows stack
  walk_passes nothing = record {
    same = still_same;
    trees = walked.trees;
    order = order_by_passing rows n (reverse stack) order;
    known = held_both t.contents held known (λ m is w. none_missed_by_passing m rows n (reverse stack) (sym (ap is_empty is.1) ∙ nothing) w);
  }

  -- a node that is not empty has its row, and its children come next
  pub walk_goes_on : {T : Type 0} (listed : T) (w : TreeState) (found more : List Node) (next_rows : List Row) → is_empty value ≡ false → IsReading (Ok listed) v w → AreBelow (Some n) found → (is_dir value ≡ false → found ≡ [])
      → IfHeld v.contents (λ m. ⊤ × AreChildren (at m) (Some n) found) → more ≡ stack ++ reverse found → next_rows ≡ rows ++ record { path = n; value = value } ∷ [] → IsWalked t w next_rows more
  walk_goes_on listed w found more next_rows full lists below none children pushed added = record {
    same = same_after listed v w lists ∙ still_same;
    trees = walked.trees;
    order = subst (λ l. IsInOrder next_rows l) (sym left) (subst (λ l. IsInOrder l (found ++ reverse stack)) (sym added) (order_by_row rows row (reverse stack) found full below none order));
    known = held_both t.contents facts known (λ m facts w.
        subst (λ l. MissesNone m next_rows l) (sym left) (subst (λ l. MissesNone m l (found ++ reverse stack)) (sym added) (none_missed_by_row m rows row (reverse stack) found facts.0 facts.1 w)));
  }
    where
      row : Row
      row = record { path = n; value = value }

      facts : IfHeld t.contents (λ m. (value ≡ at m n) × AreChildren (at m) (Some n) found)
      facts = held_both {R = λ m. (value ≡ at m n) × AreChildren (at m) (Some n) found} t.contents held (held_before (λ m. ⊤ × AreChildren (at m) (Some n) found) t v still_same children) (λ m is are. (is.1, are.1))

      left : reverse more ≡ found ++ reverse stack
      left = ap (λ l. reverse l) pushed ∙ reverse-append stack (reverse found) ∙ ap (λ l. l ++ reverse stack) (reverse-reverse found)

-- nothing is left on the stack
pub walk_is_whole : (t u : TreeState) (rows : List Row) (stack : List Node) → IsWalked t u rows stack → stack ≡ [] → IfHeld t.contents (λ m. ⊤ × (store_of rows ≡ m))
walk_is_whole t u rows stack walked none = held_both t.contents walked.trees walked.known (λ m tree w. (tt, none_missed_at_end m rows tree walked.order.tree (subst (λ l. MissesNone m rows (reverse l)) none w)))
