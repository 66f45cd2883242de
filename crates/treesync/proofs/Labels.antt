-- What is printed in a version has only the labels of that version. The lemmas on maps and their rows, and on
-- commands and their net sets, are of a kind that the crates below may give: they are to be moved there.
use Rattle.std.proofs.Common.{◌≡◌, ◌&&◌, Bool, true, false, cond, if◌then◌else◌, List, [], ◌∷◌, map, Option, Some, None, refl, sym, ap, ◌∙◌}
use Rattle.std.specs.Prelude.{T}
use Rattle.std.specs.declared.cmp.Ordering.{Ordering}
use Rattle.std.specs.declared.cmp.Ordering.TheVariants.{Less, Equal, Greater}
use Rattle.std.specs.FinMap as map
use Rattle.std.specs.FinMap.{find, is_sorted, get-entries, entries_sorted, get-from_entries}
use Rattle.std.specs.FinMap.Entries.{below_all}
use Rattle.std.specs.List.{AllByRecursion, filter}
use Rattle.std.specs.Ordering.{is_eq, is_lt}
use Rattle.sync_path.specs.Order.{path_cmp_total}
use Rattle.sync_path.specs.Paths.{Node, path_cmp, same_path}
use Rattle.sync_path.proofs.CallerLemmas.{equal_is}
use Rattle.sync_command.specs.declared.commands.Row.{Row}
use Rattle.sync_command.specs.declared.values.Value.{Value}
use Rattle.sync_command.specs.declared.values.Value.TheVariants.{Empty}
use Rattle.sync_command.specs.declared.values.Version.{Version}
use Rattle.sync_command.specs.declared.values.Version.TheVariants.{One, Two}
use Rattle.sync_command.specs.Values.{is_of_version}
use Rattle.sync_command.specs.Changes.{Change, goes_before, inverse}
use Rattle.sync_command.specs.Maps.{Store, at, stored, value_or_empty}
use Rattle.sync_command.specs.Trees.{Holding, command_at, new_or, put, result_of}
use Rattle.sync_command.proofs.CallerLemmas.{at-stored}
use Rattle.apply_model.specs.Entries.{entry_of, row_of, rows_of, store_of}
use Rattle.canon_set.specs.Logs.{net, touches}
use Rattle.canon_set.specs.Sets.{canonical, put_in}
use Rattle.log_text.specs.Logs.{IsOfVersion}
use Rattle.log_text.specs.Snapshots.{IsRowOfVersion}
use Rattle.treesync.specs.Logs.{later_version}

-- ---- what a map holds, and its rows

below_is : (o : Ordering) → T (is_lt o) → o ≡ Less
below_is Less h = refl
below_is Equal h = absurd h
below_is Greater h = absurd h

first_holds : (a b : Bool) → T (a && b) → T a
first_holds true b p = tt
first_holds false b p = p

second_holds : (a b : Bool) → T (a && b) → T b
second_holds true b p = p
second_holds false b p = absurd p

-- no entry of those after a path has the path
skips : (q p : Node) (es : List (Node × Value)) → q ≡ p → T (below_all path_cmp p es) → find path_cmp q es ≡ None
skips q p [] e h = refl
skips q p (x ∷ es) e h =
    ap (λ o. cond (is_eq o) (Some x.1) (find path_cmp q es)) (ap (λ n. path_cmp n x.0) e ∙ below_is (path_cmp p x.0) (first_holds _ _ h)) ∙ skips q p es e (second_holds _ _ h)

module _ (ok : Value → Bool) where
  -- what is found later is found
  found_later : (q : Node) (v : Value) (e : Node × Value) (es : List (Node × Value)) (o : Ordering) → T (below_all path_cmp e.0 es) → path_cmp q e.0 ≡ o → find path_cmp q es ≡ Some v →
      find path_cmp q (e ∷ es) ≡ Some v
  found_later q v e es Less h i f = ap (λ o. cond (is_eq o) (Some e.1) (find path_cmp q es)) i ∙ f
  found_later q v e es Greater h i f = ap (λ o. cond (is_eq o) (Some e.1) (find path_cmp q es)) i ∙ f
  found_later q v e es Equal h i f =
      let none : find path_cmp q es ≡ None = skips q e.0 es ((equal_is q e.0).0 i) h in
      absurd (cc)

  each_found : (es : List (Node × Value)) → T (is_sorted path_cmp es) → ((q : Node) (v : Value) → find path_cmp q es ≡ Some v → ok v ≡ true) → AllByRecursion (λ e. ok e.1 ≡ true) es
  each_found [] s h = tt
  each_found (e ∷ es) s h = (
    h e.0 e.1 (ap (λ o. cond (is_eq o) (Some e.1) (find path_cmp e.0 es)) ((equal_is e.0 e.0).1 refl)),
    each_found es (second_holds _ _ s) (λ q v f. h q v (found_later q v e es (path_cmp q e.0) (first_holds _ _ s) refl f)),
  )

  rows_from_entries : (es : List (Node × Value)) → AllByRecursion (λ e. ok e.1 ≡ true) es → AllByRecursion (λ (row : Row). ok row.value ≡ true) (map row_of es)
  rows_from_entries [] h = tt
  rows_from_entries (e ∷ es) h = (h.0, rows_from_entries es h.1)

  -- the rows of a map whose values all pass
  held_rows : (m : Store) → ((p : Node) → ok (at m p) ≡ true) → AllByRecursion (λ (row : Row). ok row.value ≡ true) (rows_of m)
  held_rows m h =
      rows_from_entries (map.entries m) (each_found (map.entries m) (entries_sorted m) (λ q v f.
      ap (λ o. ok (value_or_empty o)) (sym f ∙ sym (get-entries m q)) ∙ h q))

  found_row : (b : Bool) (v : Value) (o : Option Value) → ok v ≡ true → ok (value_or_empty o) ≡ true → ok (value_or_empty (cond b (Some v) o)) ≡ true
  found_row true v o h g = h
  found_row false v o h g = g

  -- the values that the map of some rows holds
  rows_found : ok Empty ≡ true → (rows : List Row) → AllByRecursion (λ (row : Row). ok row.value ≡ true) rows → (q : Node) → ok (value_or_empty (find path_cmp q (map entry_of rows))) ≡ true
  rows_found none [] h q = none
  rows_found none (row ∷ rows) h q = found_row (is_eq (path_cmp q row.path)) row.value (find path_cmp q (map entry_of rows)) h.0 (rows_found none rows h.1 q)

  rows_held : ok Empty ≡ true → (rows : List Row) → AllByRecursion (λ (row : Row). ok row.value ≡ true) rows → (q : Node) → ok (at (store_of rows) q) ≡ true
  rows_held none rows h q = ap (λ o. ok (value_or_empty o)) (get-from_entries path_cmp_total (map entry_of rows) q) ∙ rows_found none rows h q

  put_held : (b : Bool) (v w : Value) → ok v ≡ true → ok w ≡ true → ok (if b then v else w) ≡ true
  put_held true v w h g = h
  put_held false v w h g = g

  -- and after commands whose new values pass
  result_held : (t : Holding) (cs : List Change) → ((p : Node) → ok (t p) ≡ true) → AllByRecursion (λ (c : Change). ok c.new ≡ true) cs → (p : Node) → ok (result_of t cs p) ≡ true
  result_held t [] h g p = h p
  result_held t (c ∷ cs) h g p = result_held (put t c.node c.new) cs (λ q. put_held (same_path q c.node) c.new (t q) g.0 (h q)) g.1 p

  rows_after : ok Empty ≡ true → (rows : List Row) (cs : List Change) → AllByRecursion (λ (row : Row). ok row.value ≡ true) rows → AllByRecursion (λ (c : Change). ok c.new ≡ true) cs →
      AllByRecursion (λ (row : Row). ok row.value ≡ true) (rows_of (stored (store_of rows) cs))
  rows_after none rows cs h g =
      held_rows (stored (store_of rows) cs) (λ p. ap (λ t. ok (t p)) (at-stored (store_of rows) cs) ∙ result_held (at (store_of rows)) cs (rows_held none rows h) g p)

-- ---- versions

empty_of : (version : Version) → is_of_version version Empty ≡ true
empty_of One = refl
empty_of Two = refl

pub first_of : (v w : Version) (x : Value) → is_of_version v x ≡ true → is_of_version (later_version v w) x ≡ true
first_of One One x h = h
first_of One Two x h = refl
first_of Two w x h = refl

pub second_of : (v w : Version) (x : Value) → is_of_version w x ≡ true → is_of_version (later_version v w) x ≡ true
second_of One w x h = h
second_of Two w x h = refl

rows_of_later : (v w : Version) (rows : List Row) → AllByRecursion (IsRowOfVersion v) rows → AllByRecursion (λ (row : Row). is_of_version (later_version v w) row.value ≡ true) rows
rows_of_later v w [] h = tt
rows_of_later v w (row ∷ rows) h = (first_of v w row.value h.0, rows_of_later v w rows h.1)

news_of_later : (v w : Version) (cs : List Change) → AllByRecursion (IsOfVersion w) cs → AllByRecursion (λ (c : Change). is_of_version (later_version v w) c.new ≡ true) cs
news_of_later v w [] h = tt
news_of_later v w (c ∷ cs) h = (second_of v w c.new h.0.new, news_of_later v w cs h.1)

-- the rows after a log can be printed in the later version of the two
pub after_printable : (v w : Version) (rows : List Row) (cs : List Change) → AllByRecursion (IsRowOfVersion v) rows → AllByRecursion (IsOfVersion w) cs →
    AllByRecursion (IsRowOfVersion (later_version v w)) (rows_of (stored (store_of rows) cs))
after_printable v w rows cs h g =
    rows_after (is_of_version (later_version v w)) (empty_of (later_version v w)) rows cs (rows_of_later v w rows h) (news_of_later v w cs g)

-- ---- net sets

module _ (P : Change → Type 0) where
  filtered : (b : Bool) (c : Change) (cs : List Change) → P c → AllByRecursion P cs → AllByRecursion P (cond b (c ∷ cs) cs)
  filtered true c cs p h = (p, h)
  filtered false c cs p h = h

  each_filtered : (test : Change → Bool) (cs : List Change) → AllByRecursion P cs → AllByRecursion P (filter test cs)
  each_filtered test [] h = tt
  each_filtered test (c ∷ cs) h = filtered (test c) c (filter test cs) h.0 (each_filtered test cs h.1)

  put_or_later : (b : Bool) (xs ys : List Change) → AllByRecursion P xs → AllByRecursion P ys → AllByRecursion P (if b then xs else ys)
  put_or_later true xs ys h g = h
  put_or_later false xs ys h g = g

  each_put_in : (c : Change) (cs : List Change) → P c → AllByRecursion P cs → AllByRecursion P (put_in c cs)
  each_put_in c [] p h = (p, tt)
  each_put_in c (d ∷ ds) p h = put_or_later (goes_before c d) (c ∷ (d ∷ ds)) (d ∷ put_in c ds) (p, h) (h.0, each_put_in c ds p h.1)

  pub each_canonical : (cs : List Change) → AllByRecursion P cs → AllByRecursion P (canonical cs)
  each_canonical [] h = tt
  each_canonical (c ∷ cs) h = each_put_in c (canonical cs) h.0 (each_canonical cs h.1)

-- the last value at a node is of the version
new_if : (version : Version) (b : Bool) (c : Change) (o : Option Change) (v : Value) → IsOfVersion version c → is_of_version version (new_or o v) ≡ true → is_of_version version (new_or (if b then Some c else o) v) ≡ true
new_if version true c o v p h = p.new
new_if version false c o v p h = h

last_of : (version : Version) (cs : List Change) (p : Node) (v : Value) → AllByRecursion (IsOfVersion version) cs → is_of_version version v ≡ true → is_of_version version (new_or (command_at cs p) v) ≡ true
last_of version [] p v h g = g
last_of version (c ∷ cs) p v h g = new_if version (same_path p c.node) c (command_at cs p) v h.0 (last_of version cs p v h.1 g)

touches_of : (version : Version) (cs : List Change) → AllByRecursion (IsOfVersion version) cs → AllByRecursion (IsOfVersion version) (touches cs)
touches_of version [] h = tt
touches_of version (c ∷ cs) h =
    let rest = touches_of version cs h.1 in
    (record { old = h.0.old; new = last_of version (touches cs) c.node c.new rest h.0.new }, each_filtered (IsOfVersion version) _ (touches cs) rest)

-- the net set of a log can be printed in the log's version
pub net_printable : (version : Version) (cs : List Change) → AllByRecursion (IsOfVersion version) cs → AllByRecursion (IsOfVersion version) (canonical (net cs))
net_printable version cs h = each_canonical (IsOfVersion version) (net cs) (each_filtered (IsOfVersion version) _ (touches cs) (touches_of version cs h))

-- and so can the inverse of a set that can
pub inverse_printable : (version : Version) (cs : List Change) → AllByRecursion (IsOfVersion version) cs → AllByRecursion (IsOfVersion version) (canonical (map inverse cs))
inverse_printable version cs h = each_canonical (IsOfVersion version) (map inverse cs) (turned cs h)
  where
    turned : (cs : List Change) → AllByRecursion (IsOfVersion version) cs → AllByRecursion (IsOfVersion version) (map inverse cs)
    turned [] h = tt
    turned (c ∷ cs) h = (record { old = h.0.new; new = h.0.old }, turned cs h.1)
