-- A walk over a whole tree of which it is known what it holds: no node is left out.
use Rattle.std.proofs.Common.{◌≡◌, ◌⊎◌, inl, inr, ℕ, zero, suc, ◌<◌, Bool, true, false, cond, ◌||◌, List, [], ◌∷◌, ◌++◌, length, Option, Some, None, refl, sym, ap, ◌∙◌, arith}
use Rattle.std.specs.Prelude.{map}
use Rattle.std.specs.List.{AllByRecursion, Contains}
use Rattle.std.specs.FinMap.{find, get-from_entries}
use Rattle.std.proofs.lemmas.Bool.{both_ways, or_cases, or_left, or_right}
use Rattle.sync_path.specs.Order.{path_cmp_total}
use Rattle.sync_path.specs.Paths.{Node, parent, path_cmp, same_path}
use Rattle.sync_path.proofs.CallerLemmas.{lists, lists-append, parent_shorter, same_path_at, same_path_is}
use Rattle.sync_command.specs.Maps.{IsTreeMap, Store, at, value_or_empty}
use Rattle.sync_command.specs.Rows.{IsRowTree}
use Rattle.sync_command.specs.Values.{is_empty}
use Rattle.sync_command.specs.declared.commands.Row.{Row}
use Rattle.sync_command.specs.declared.values.Value.TheVariants.{Empty}
use Rattle.sync_command.proofs.CallerLemmas.{empty_is, full_from_dir, same_store}
use Rattle.apply_model.specs.Entries.{entry_of, store_of}
use Rattle.apply_model.proofs.CallerLemmas.{rows_tree}
use Rattle.tree_port.specs.Conditions.{AreChildren}
use Rattle.tree_port.proofs.PathOrder.{each_append}

abbrev pub paths_of : List Row → List Node
paths_of rows = map (λ row. row.path) rows

-- there is a row of the node, or it is still to be asked
abbrev pub IsSeen : List Row → List Node → Node → Type 0
IsSeen rows left n = (lists (paths_of rows) n ≡ true) ⊎ (lists left n ≡ true)

-- The rows so far have what the tree holds, and of what the tree holds each root was seen, and each
-- child of a node that has a row.
pub record MissesNone (m : Store) (rows : List Row) (left : List Node) : Type 0 where
  pub right : AllByRecursion (λ row. row.value ≡ at m row.path) rows
  pub roots : (n : Node) → parent n ≡ None → is_empty (at m n) ≡ false → IsSeen rows left n
  pub children : (p n : Node) → parent n ≡ Some p → is_empty (at m n) ≡ false → lists (paths_of rows) p ≡ true → IsSeen rows left n

-- ---- members

listed : (ns : List Node) (n : Node) → Contains ns n → lists ns n ≡ true
listed [] n (k, low, is) = absurd (omega arith)
listed (x ∷ ns) n (zero, low, is) = or_left (same_path n x) (lists ns n) (same_path_at n x (sym is))
listed (x ∷ ns) n (suc k, low, is) = or_right (same_path n x) (lists ns n) (listed ns n (k, omega arith, is))

paths-push : (rows : List Row) (row : Row) → paths_of (rows ++ row ∷ []) ≡ paths_of rows ++ row.path ∷ []
paths-push [] row = refl
paths-push (x ∷ rows) row = ap (λ l. x.path ∷ l) (paths-push rows row)

rows_have : (rows : List Row) (row : Row) (n : Node) → lists (paths_of (rows ++ row ∷ [])) n ≡ (lists (paths_of rows) n || (same_path n row.path || false))
rows_have rows row n = ap (λ l. lists l n) (paths-push rows row) ∙ lists-append (paths_of rows) (row.path ∷ []) n

-- ---- the walk

pub none_missed_at_start : (m : Store) (found : List Node) → AreChildren (at m) None found → MissesNone m [] found
none_missed_at_start m found are = record {
  right = tt;
  roots = λ n e full. inr (listed found n ((are n).1 (e, full)));
  children = λ p n e full h. absurd (both_ways false refl h);
}

pub none_missed_by_passing : (m : Store) (rows : List Row) (n : Node) (rest : List Node) → is_empty (at m n) ≡ true → MissesNone m rows (n ∷ rest) → MissesNone m rows rest
none_missed_by_passing m rows n rest nothing w = record {
  right = w.right;
  roots = λ x e full. seen x full (w.roots x e full);
  children = λ p x e full h. seen x full (w.children p x e full h);
}
  where
    seen : (x : Node) → is_empty (at m x) ≡ false → IsSeen rows (n ∷ rest) x → IsSeen rows rest x
    seen x full (inl h) = inl h
    seen x full (inr h) = go (or_cases (same_path x n) (lists rest x) h)
      where
        go : (same_path x n ≡ true) ⊎ (lists rest x ≡ true) → IsSeen rows rest x
        go (inl s) = absurd (both_ways _ full (ap (λ y. is_empty (at m y)) (same_path_is x n s) ∙ nothing))
        go (inr h) = inr h

pub none_missed_by_row : (m : Store) (rows : List Row) (row : Row) (rest found : List Node) → row.value ≡ at m row.path → AreChildren (at m) (Some row.path) found → MissesNone m rows (row.path ∷ rest) → MissesNone m (rows ++ row ∷ []) (found ++ rest)
none_missed_by_row m rows row rest found is are w = record {
  right = each_append (λ row. row.value ≡ at m row.path) rows (row ∷ []) w.right (is, tt);
  roots = λ n e full. seen n (w.roots n e full);
  children = λ p n e full h. child p n e full (or_cases (lists (paths_of rows) p) (same_path p row.path || false) (sym (rows_have rows row p) ∙ h));
}
  where
    has_row : (n : Node) → (lists (paths_of rows) n || (same_path n row.path || false)) ≡ true → IsSeen (rows ++ row ∷ []) (found ++ rest) n
    has_row n h = inl (rows_have rows row n ∙ h)

    is_left : (n : Node) → (lists found n || lists rest n) ≡ true → IsSeen (rows ++ row ∷ []) (found ++ rest) n
    is_left n h = inr (lists-append found rest n ∙ h)

    seen : (n : Node) → IsSeen rows (row.path ∷ rest) n → IsSeen (rows ++ row ∷ []) (found ++ rest) n
    seen n (inl h) = has_row n (or_left (lists (paths_of rows) n) (same_path n row.path || false) h)
    seen n (inr h) = go (or_cases (same_path n row.path) (lists rest n) h)
      where
        go : (same_path n row.path ≡ true) ⊎ (lists rest n ≡ true) → IsSeen (rows ++ row ∷ []) (found ++ rest) n
        go (inl s) = has_row n (or_right (lists (paths_of rows) n) (same_path n row.path || false) (or_left (same_path n row.path) false s))
        go (inr h) = is_left n (or_right (lists found n) (lists rest n) h)

    child : (p n : Node) → parent n ≡ Some p → is_empty (at m n) ≡ false → (lists (paths_of rows) p ≡ true) ⊎ ((same_path p row.path || false) ≡ true) → IsSeen (rows ++ row ∷ []) (found ++ rest) n
    child p n e full (inl h) = seen n (w.children p n e full h)
    child p n e full (inr h) = go (or_cases (same_path p row.path) false h)
      where
        go : (same_path p row.path ≡ true) ⊎ (false ≡ true) → IsSeen (rows ++ row ∷ []) (found ++ rest) n
        go (inl s) = is_left n (or_left (lists found n) (lists rest n) (listed found n ((are n).1 (e ∙ ap (λ q. Some q) (same_path_is p row.path s), full))))
        go (inr h) = absurd (both_ways false refl h)

-- ---- its end

-- each node that is not empty has a row
all_listed : (k : ℕ) (m : Store) (rows : List Row) → IsTreeMap m → MissesNone m rows [] → (n : Node) → length n < k → is_empty (at m n) ≡ false → lists (paths_of rows) n ≡ true
all_listed zero m rows tree w n short full = absurd (omega arith)
all_listed (suc k) m rows tree w n short full = go (parent n) refl (all_listed k m rows tree w)
  where
    row_of : IsSeen rows [] n → lists (paths_of rows) n ≡ true
    row_of (inl h) = h
    row_of (inr h) = absurd (both_ways false refl h)

    go : (o : Option Node) → parent n ≡ o → ((q : Node) → length q < k → is_empty (at m q) ≡ false → lists (paths_of rows) q ≡ true) → lists (paths_of rows) n ≡ true
    go None e above = row_of (w.roots n e full)
    go (Some q) e above =
        let shorter = parent_shorter q n e in
        row_of (w.children q n e full (above q (omega (arith, shorter)) (full_from_dir (at m q) (tree.tree q n e full))))

found_value : (m : Store) (rows : List Row) → AllByRecursion (λ row. row.value ≡ at m row.path) rows → (p : Node) → (is_empty (at m p) ≡ false → lists (paths_of rows) p ≡ true) → value_or_empty (find path_cmp p (map entry_of rows)) ≡ at m p
unfolding same_path
found_value m [] right p full = go (is_empty (at m p)) refl
  where
    go : (b : Bool) → is_empty (at m p) ≡ b → Empty ≡ at m p
    go true e = sym (empty_is (at m p) e)
    go false e = absurd (both_ways false refl (full e))
found_value m (row ∷ rows) right p full = go (same_path p row.path) refl full (found_value m rows right.1 p)
  where
    go : (b : Bool) → same_path p row.path ≡ b → (is_empty (at m p) ≡ false → (b || lists (paths_of rows) p) ≡ true)
        → ((is_empty (at m p) ≡ false → lists (paths_of rows) p ≡ true) → value_or_empty (find path_cmp p (map entry_of rows)) ≡ at m p)
        → value_or_empty (cond b (Some row.value) (find path_cmp p (map entry_of rows))) ≡ at m p
    go true s full rec = right.0 ∙ sym (ap (at m) (same_path_is p row.path s))
    go false s full rec = rec full

-- the rows are those of the tree
pub none_missed_at_end : (m : Store) (rows : List Row) → IsTreeMap m → IsRowTree rows → MissesNone m rows [] → store_of rows ≡ m
none_missed_at_end m rows tree ordered w = same_store (store_of rows) m (rows_tree rows ordered) tree (λ p.
    ap value_or_empty (get-from_entries path_cmp_total (map entry_of rows) p) ∙ found_value m rows w.right p (all_listed (suc (length p)) m rows tree w p (omega arith)))
