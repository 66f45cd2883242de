-- The lines of a snapshot: what follows from rows that are a tree in path order for the next row.
use Rattle.std.proofs.Common.{◌≡◌, ◌≢◌, ◌↔◌, ℕ, suc, ◌-◌, ◌<◌, ◌&&◌, ◌||◌, ◌⊎◌, inl, inr, Bool, true, false, IsTrue, nat_le, List, [], ◌∷◌, ◌++◌, length, length-append, sym, refl, ap, ◌∙◌, subst, append_assoc, append-nil, None, Some, Option, Err, Ok, Result, arith, MatchOption, Bor, not, cond, ⊎_elim}
use Rattle.std.specs.List.{slice_get}
use Rattle.std.specs.Ordering.{is_lt}
use Rattle.std.proofs.lemmas.Bool.{cases_Bool, both_ways}
use Rattle.std.proofs.lemmas.Bool.Decides.{nat_tests}
use Rattle.sync_path.specs.declared.faults.PathFault.{PathFault}
use Rattle.sync_path.specs.Reading.{path_of}
use Rattle.sync_command.specs.declared.values.ValueFault.{ValueFault}
use Rattle.sync_path.specs.Paths.{Node, parent, path_cmp, same_path, comes_before, IsUnder}
use Rattle.sync_path.proofs.CallerLemmas.{same_path_decides, contiguous, before_trans, IsUnder-parent, parent_is}
use Rattle.sync_command.specs.declared.commands.Row.{Row}
use Rattle.sync_command.specs.declared.values.Value.{Value}
use Rattle.sync_command.specs.Values.{is_dir, is_empty, value_of}
use Rattle.sync_command.specs.Rows.{is_after_rows, gives_dir, gives_parent, has_parent, IsNextRow, AreNextRows, IsRowTree}
use Rattle.log_text.specs.declared.faults.TextKind.{TextKind}
use Rattle.log_text.specs.declared.faults.TextKind.TheVariants as kind
use Rattle.log_text.specs.declared.frame.Fields.{Fields}
use Rattle.log_text.specs.declared.frame.Fields.TheVariants as fields
use Rattle.log_text.specs.Frame.{end_number}
use Rattle.sync_command.specs.declared.values.Version.{Version}
use Rattle.log_text.specs.declared.frame.TheConstants.{MAX_ITEMS}
use Rattle.log_text.specs.Snapshots.{row_of, row_from, row_fault, row_unless}
use Rattle.log_text.specs.Reading.{AreFields, IsGivenDir, with_kind}
use Rattle.log_text.specs.RowLists.{AreRows}

-- ---- tests

from_or : (a b : Bool) → (a || b) ≡ true → (a ≡ true) ⊎ (b ≡ true)
from_or true b e = inl refl
from_or false b e = inr e

from_and : (a b : Bool) → (a && b) ≡ true → (a ≡ true) × (b ≡ true)
from_and true b e = (refl, e)
from_and false b e = cc

or_right : (a b : Bool) → b ≡ true → (a || b) ≡ true
or_right true b e = refl
or_right false b e = e

or_left : (a b : Bool) → a ≡ true → (a || b) ≡ true
or_left true b e = refl
or_left false b e = cc

same_test : (a b : Bool) → (a ≡ true → b ≡ true) → (b ≡ true → a ≡ true) → a ≡ b
same_test true b f g = sym (f refl)
same_test false true f g = g refl
same_test false false f g = refl

-- ---- the last row

-- the last row comes after the others
last_apart : (rows : List Row) (r : Row) → Some r ≡ slice_get rows (length rows - 1) → (initial : List Row) × (rows ≡ initial ++ r ∷ [])
last_apart [] r e = absurd (never e)
  where
    never : ◌≡◌ {A = Option Row} (Some r) None → ⊥
    never e = cc
last_apart (x ∷ []) r e = ([], ap (λ y. y ∷ []) (same e))
  where
    same : ◌≡◌ {A = Option Row} (Some r) (Some x) → x ≡ r
    same e = cc
last_apart (x ∷ y ∷ rows) r e = on_top x (last_apart (y ∷ rows) r (e ∙ below x y rows))
  where
    on_top : (x : Row) → (initial : List Row) × (y ∷ rows ≡ initial ++ r ∷ []) → (initial : List Row) × (x ∷ y ∷ rows ≡ initial ++ r ∷ [])
    on_top x (initial, e) = (x ∷ initial, ap (λ l. x ∷ l) e)

    below : (x y : Row) (rows : List Row) → slice_get (x ∷ y ∷ rows) (length (x ∷ y ∷ rows) - 1) ≡ slice_get (y ∷ rows) (length (y ∷ rows) - 1)
    below x y rows =
        let one : length (x ∷ y ∷ rows) - 1 ≡ suc (length rows) = omega arith in
        let two : length (y ∷ rows) - 1 ≡ length rows = omega arith in
        ap (slice_get (x ∷ y ∷ rows)) one ∙ ap (slice_get (y ∷ rows)) (sym two)

follows_end : (initial : List Row) (r : Row) (n : Node) → is_after_rows (initial ++ r ∷ []) n ≡ comes_before r.path n
follows_end [] r n = refl
follows_end (x ∷ []) r n = refl
follows_end (x ∷ y ∷ initial) r n = follows_end (y ∷ initial) r n

pub follows_last : (rows : List Row) (r : Row) (n : Node) → Some r ≡ slice_get rows (length rows - 1) → is_lt (path_cmp r.path n) ≡ is_after_rows rows n
unfolding comes_before
follows_last rows r n e = let apart = last_apart rows r e in sym (ap (λ l. is_after_rows l n) apart.1 ∙ follows_end apart.0 r n)

-- ---- more rows

dir_end : (initial : List Row) (r : Row) (q : Node) → gives_dir (initial ++ r ∷ []) q ≡ true → (gives_dir initial q ≡ true) ⊎ ((r.path ≡ q) × (is_dir r.value ≡ true))
dir_end [] r q e = inr (go (from_or (same_path r.path q && is_dir r.value) false e))
  where
    go : ((same_path r.path q && is_dir r.value) ≡ true) ⊎ (false ≡ true) → (r.path ≡ q) × (is_dir r.value ≡ true)
    go (inl t) = let both = from_and (same_path r.path q) (is_dir r.value) t in ((same_path_decides r.path q).0 both.0, both.1)
    go (inr f) = cc
dir_end (x ∷ initial) r q e = go (from_or (same_path x.path q && is_dir x.value) (gives_dir (initial ++ r ∷ []) q) e) (dir_end initial r q)
  where
    more : (gives_dir initial q ≡ true) ⊎ ((r.path ≡ q) × (is_dir r.value ≡ true)) → (gives_dir (x ∷ initial) q ≡ true) ⊎ ((r.path ≡ q) × (is_dir r.value ≡ true))
    more (inl u) = inl (or_right (same_path x.path q && is_dir x.value) (gives_dir initial q) u)
    more (inr u) = inr u

    go : ((same_path x.path q && is_dir x.value) ≡ true) ⊎ (gives_dir (initial ++ r ∷ []) q ≡ true)
        → (gives_dir (initial ++ r ∷ []) q ≡ true → (gives_dir initial q ≡ true) ⊎ ((r.path ≡ q) × (is_dir r.value ≡ true)))
        → (gives_dir (x ∷ initial) q ≡ true) ⊎ ((r.path ≡ q) × (is_dir r.value ≡ true))
    go (inl t) later = inl (or_left (same_path x.path q && is_dir x.value) (gives_dir initial q) t)
    go (inr t) later = more (later t)

dir_kept : (initial added : List Row) (q : Node) → gives_dir initial q ≡ true → gives_dir (initial ++ added) q ≡ true
dir_kept [] added q e = cc
dir_kept (x ∷ initial) added q e = go (from_or (same_path x.path q && is_dir x.value) (gives_dir initial q) e) (dir_kept initial added q)
  where
    go : ((same_path x.path q && is_dir x.value) ≡ true) ⊎ (gives_dir initial q ≡ true) → (gives_dir initial q ≡ true → gives_dir (initial ++ added) q ≡ true) → gives_dir (x ∷ (initial ++ added)) q ≡ true
    go (inl t) later = or_left (same_path x.path q && is_dir x.value) (gives_dir (initial ++ added) q) t
    go (inr t) later = or_right (same_path x.path q && is_dir x.value) (gives_dir (initial ++ added) q) (later t)

dir_last : (initial : List Row) (r : Row) (q : Node) → r.path ≡ q → is_dir r.value ≡ true → gives_dir (initial ++ r ∷ []) q ≡ true
dir_last [] r q e d = rw ((same_path_decides r.path q).1 e, d) refl
dir_last (x ∷ initial) r q e d = or_right (same_path x.path q && is_dir x.value) (gives_dir (initial ++ r ∷ []) q) (dir_last initial r q e d)

-- ---- rows that are a tree in path order

-- one row more
next_rows_end : (before rows : List Row) (r : Row) → AreNextRows before rows → IsNextRow (before ++ rows) r → AreNextRows before (rows ++ r ∷ [])
next_rows_end before [] r h n = (subst (λ l. IsNextRow l r) (append-nil before) n, tt)
next_rows_end before (x ∷ rows) r (first, h) n = (first, next_rows_end (before ++ x ∷ []) rows r h (subst (λ l. IsNextRow l r) (sym (append_assoc before (x ∷ []) rows)) n))

-- the last row apart
next_rows_last : (before rows : List Row) (r : Row) → AreNextRows before (rows ++ r ∷ []) → AreNextRows before rows × IsNextRow (before ++ rows) r
next_rows_last before [] r (n, h) = (tt, subst (λ l. IsNextRow l r) (sym (append-nil before)) n)
next_rows_last before (x ∷ rows) r (first, h) =
    let rest = next_rows_last (before ++ x ∷ []) rows r h in
    ((first, rest.0), subst (λ l. IsNextRow l r) (append_assoc before (x ∷ []) rows) rest.1)

-- some row has the node
abbrev has_node : List Row → Node → Bool
has_node [] n = false
has_node (row ∷ rows) n = same_path row.path n || has_node rows n

node_end : (initial : List Row) (r : Row) (p : Node) → has_node (initial ++ r ∷ []) p ≡ true → (has_node initial p ≡ true) ⊎ (r.path ≡ p)
node_end [] r p e = go (from_or (same_path r.path p) false e)
  where
    go : (same_path r.path p ≡ true) ⊎ (false ≡ true) → (has_node [] p ≡ true) ⊎ (r.path ≡ p)
    go (inl t) = inr ((same_path_decides r.path p).0 t)
    go (inr f) = cc
node_end (x ∷ initial) r p e = go (from_or (same_path x.path p) (has_node (initial ++ r ∷ []) p) e) (node_end initial r p)
  where
    more : (has_node initial p ≡ true) ⊎ (r.path ≡ p) → (has_node (x ∷ initial) p ≡ true) ⊎ (r.path ≡ p)
    more (inl u) = inl (or_right (same_path x.path p) (has_node initial p) u)
    more (inr u) = inr u

    go : (same_path x.path p ≡ true) ⊎ (has_node (initial ++ r ∷ []) p ≡ true) → (has_node (initial ++ r ∷ []) p ≡ true → (has_node initial p ≡ true) ⊎ (r.path ≡ p))
        → (has_node (x ∷ initial) p ≡ true) ⊎ (r.path ≡ p)
    go (inl t) later = inl (or_left (same_path x.path p) (has_node initial p) t)
    go (inr t) later = more (later t)

node_from_dir : (rows : List Row) (q : Node) → gives_dir rows q ≡ true → has_node rows q ≡ true
node_from_dir [] q e = cc
node_from_dir (x ∷ rows) q e = go (from_or (same_path x.path q && is_dir x.value) (gives_dir rows q) e) (node_from_dir rows q)
  where
    go : ((same_path x.path q && is_dir x.value) ≡ true) ⊎ (gives_dir rows q ≡ true) → (gives_dir rows q ≡ true → has_node rows q ≡ true) → has_node (x ∷ rows) q ≡ true
    go (inl t) later = or_left (same_path x.path q) (has_node rows q) (from_and (same_path x.path q) (is_dir x.value) t).0
    go (inr t) later = or_right (same_path x.path q) (has_node rows q) (later t)

node_last : (initial : List Row) (r : Row) → has_node (initial ++ r ∷ []) r.path ≡ true
node_last [] r = or_left (same_path r.path r.path) false ((same_path_decides r.path r.path).1 refl)
node_last (x ∷ initial) r = or_right (same_path x.path r.path) (has_node (initial ++ r ∷ []) r.path) (node_last initial r)

-- what is under a path is a child of that path, or of one that is under it
parent_under : (p q : Node) → IsUnder p q → 0 < length q → (up : Node) × (parent p ≡ Some up) × ((up ≡ q) ⊎ IsUnder up q)
parent_under p q (rest, some, e) full = go rest some e
  where
    initial_of : (x : List ℕ) (rest : Node) → (initial : Node) × (y : List ℕ) × (x ∷ rest ≡ initial ++ y ∷ [])
    initial_of x [] = ([], x, refl)
    initial_of x (z ∷ rest) = let f = initial_of z rest in (x ∷ f.0, f.1, ap (λ l. x ∷ l) f.2)

    longer : (q initial : Node) → 0 < length q → 0 < length (q ++ initial)
    longer [] initial h = absurd (omega arith)
    longer (x ∷ q) initial h = omega arith

    up_way : (initial : Node) → (q ++ initial ≡ q) ⊎ IsUnder (q ++ initial) q
    up_way [] = inl (append-nil q)
    up_way (x ∷ initial) = inr (x ∷ initial, omega arith, refl)

    go : (rest : Node) → 0 < length rest → p ≡ q ++ rest → (up : Node) × (parent p ≡ Some up) × ((up ≡ q) ⊎ IsUnder up q)
    go [] some e = absurd (omega arith)
    go (x ∷ rest) some e =
        let f = initial_of x rest in
        let whole : p ≡ (q ++ f.0) ++ f.1 ∷ [] = e ∙ ap (λ l. q ++ l) f.2 ∙ sym (append_assoc q f.0 (f.1 ∷ [])) in
        (q ++ f.0, (parent_is p (q ++ f.0)).1 (f.1, longer q f.0 full, whole), up_way f.0)

-- what the definition gives for all rows before one
record IsClosed (rows : List Row) : Type 0 where
  above : (p q : Node) → has_node rows p ≡ true → IsUnder p q → 0 < length q → gives_dir rows q ≡ true
  below : (q n : Node) → gives_dir rows q ≡ true → is_after_rows rows n ≡ true → comes_before q n ≡ true

closed_none : IsClosed []
closed_none = record { above = λ p q h u f. absurd (both_ways false refl h); below = λ q n h b. absurd (both_ways false refl h) }

closed_end : (rows : List Row) (r : Row) → IsClosed rows → IsNextRow rows r → IsClosed (rows ++ r ∷ [])
closed_end rows r h n = record {
  above = λ p q has u full. higher p q (node_end rows r p has) u full;
  below = λ q m d b. lower q m (dir_end rows r q d) (sym (follows_end rows r m) ∙ b);
}
  where
    up_from : (q up : Node) → gives_dir rows up ≡ true → (up ≡ q) ⊎ IsUnder up q → 0 < length q → gives_dir rows q ≡ true
    up_from q up d (inl e) full = subst (λ x. gives_dir rows x ≡ true) e d
    up_from q up d (inr u) full = h.above up q (node_from_dir rows up d) u full

    higher : (p q : Node) → (has_node rows p ≡ true) ⊎ (r.path ≡ p) → IsUnder p q → 0 < length q → gives_dir (rows ++ r ∷ []) q ≡ true
    higher p q (inl has) u full = dir_kept rows (r ∷ []) q (h.above p q has u full)
    higher p q (inr e) u full =
        let way = parent_under r.path q (subst (λ x. IsUnder x q) (sym e) u) full in
        let given : gives_dir rows way.0 ≡ true = sym (ap (gives_parent rows) way.1) ∙ n.below in
        dir_kept rows (r ∷ []) q (up_from q way.0 given way.2 full)

    lower : (q m : Node) → (gives_dir rows q ≡ true) ⊎ ((r.path ≡ q) × (is_dir r.value ≡ true)) → comes_before r.path m ≡ true → comes_before q m ≡ true
    lower q m (inl d) b = before_trans q r.path m (h.below q r.path d n.after) b
    lower q m (inr (e, d)) b = subst (λ x. comes_before x m ≡ true) e b

closed_rows : (before rows : List Row) → IsClosed before → AreNextRows before rows → IsClosed (before ++ rows)
closed_rows before [] h n = subst IsClosed (sym (append-nil before)) h
closed_rows before (r ∷ rows) h (n, more) = subst IsClosed (append_assoc before (r ∷ []) rows) (closed_rows (before ++ r ∷ []) rows (closed_end before r h n) more)

closed : (rows : List Row) → IsRowTree rows → IsClosed rows
closed rows h = closed_rows [] rows closed_none h

-- ---- the parent of the next row

-- only the last row, or a directory above it, can be the parent of what follows
open_last : (rows : List Row) (r : Row) (n q : Node) (under same : Bool)
    → Some r ≡ slice_get rows (length rows - 1) → IsRowTree rows → is_after_rows rows n ≡ true → parent n ≡ Some q
    → IsTrue under ↔ IsUnder r.path q → IsTrue same ↔ (r.path ≡ q)
    → (under || (same && is_dir r.value)) ≡ gives_dir rows q
open_last rows r n q under same last tree after up is_under is_same =
    let apart = last_apart rows r last in
    let initial : List Row = apart.0 in
    let parts = next_rows_last [] initial r (subst IsRowTree apart.1 tree) in
    let initial_closed = closed initial parts.0 in
    let whole = closed_end initial r initial_closed parts.1 in
    let low : comes_before r.path n ≡ true = sym (ap (λ l. is_after_rows l n) apart.1 ∙ follows_end initial r n) ∙ after in
    let full = ((parent_is n q).0 up).1 in
    same_test (under || (same && is_dir r.value)) (gives_dir rows q)
    (λ t. subst (λ l. gives_dir l q ≡ true) (sym apart.1) (there initial whole.above full (from_or under (same && is_dir r.value) t)))
    (λ d. found initial initial_closed.below parts.1.after low (dir_end initial r q (subst (λ l. gives_dir l q ≡ true) apart.1 d)))
  where
    there : (initial : List Row) → ((p q : Node) → has_node (initial ++ r ∷ []) p ≡ true → IsUnder p q → 0 < length q → gives_dir (initial ++ r ∷ []) q ≡ true) → 0 < length q
        → (under ≡ true) ⊎ ((same && is_dir r.value) ≡ true) → gives_dir (initial ++ r ∷ []) q ≡ true
    there initial above full (inl t) = above r.path q (node_last initial r) (is_under.0 t) full
    there initial above full (inr t) = let both = from_and same (is_dir r.value) t in dir_last initial r q (is_same.0 both.0) both.1

    found : (initial : List Row) → ((q n : Node) → gives_dir initial q ≡ true → is_after_rows initial n ≡ true → comes_before q n ≡ true) → is_after_rows initial r.path ≡ true → comes_before r.path n ≡ true
        → (gives_dir initial q ≡ true) ⊎ ((r.path ≡ q) × (is_dir r.value ≡ true)) → (under || (same && is_dir r.value)) ≡ true
    found initial below after low (inl d) = or_left under (same && is_dir r.value) (is_under.1 (contiguous q r.path n (IsUnder-parent n q up) (below q r.path d after) low))
    found initial below after low (inr (e, d)) = or_right under (same && is_dir r.value) (rw (is_same.1 e, d) refl)

-- the same, as the tests come one after another
pub open_under : (rows : List Row) (r : Row) (n q : Node) (under : Bool)
    → Some r ≡ slice_get rows (length rows - 1) → IsRowTree rows → is_after_rows rows n ≡ true → parent n ≡ Some q → IsTrue under ↔ IsUnder r.path q → under ≡ true
    → under ≡ gives_dir rows q
open_under rows r n q under last tree after up is_under t =
    t ∙ sym (ap (λ b. b || (same_path r.path q && is_dir r.value)) t)
    ∙ open_last rows r n q under (same_path r.path q) last tree after up is_under (same_path_decides r.path q)

pub open_same : (rows : List Row) (r : Row) (n q : Node) (under same dir : Bool)
    → Some r ≡ slice_get rows (length rows - 1) → IsRowTree rows → is_after_rows rows n ≡ true → parent n ≡ Some q → IsTrue under ↔ IsUnder r.path q → IsTrue same ↔ (r.path ≡ q)
    → under ≡ false → same ≡ true → dir ≡ is_dir r.value → dir ≡ gives_dir rows q
open_same rows r n q under same dir last tree after up is_under is_same f t d =
    d ∙ sym (λ i. f i || (t i && is_dir r.value)) ∙ open_last rows r n q under same last tree after up is_under is_same

pub open_none : (rows : List Row) (r : Row) (n q : Node) (under same : Bool)
    → Some r ≡ slice_get rows (length rows - 1) → IsRowTree rows → is_after_rows rows n ≡ true → parent n ≡ Some q → IsTrue under ↔ IsUnder r.path q → IsTrue same ↔ (r.path ≡ q)
    → under ≡ false → same ≡ false → same ≡ gives_dir rows q
open_none rows r n q under same last tree after up is_under is_same f g =
    g ∙ sym (λ i. f i || (g i && is_dir r.value)) ∙ open_last rows r n q under same last tree after up is_under is_same

pub known_parent : (rows : List Row) (directory : Option Node) (n : Node) (r : Bool) → IsGivenDir rows directory → MatchOption directory (r ≡ false) (λ h. IsTrue r ↔ (parent n ≡ Some h)) → r ≡ true
    → true ≡ has_parent rows n
known_parent rows None n r h m t = absurd (both_ways r m t)
known_parent rows (Some q) n r h m t = sym (ap (gives_parent rows) (m.0 t) ∙ h)

pub no_parent : (rows : List Row) (n : Node) → None ≡ parent n → true ≡ has_parent rows n
no_parent rows n e = ap (gives_parent rows) e

pub some_parent : (rows : List Row) (n q : Node) (r : Bool) → Some q ≡ parent n → r ≡ gives_dir rows q → r ≡ has_parent rows n
some_parent rows n q r e d = d ∙ ap (gives_parent rows) e

-- a directory that the rows give stays one with a row more
given_kept : (rows later : List Row) (directory : Option Node) → IsGivenDir rows directory → IsGivenDir (rows ++ later) directory
given_kept rows later None h = tt
given_kept rows later (Some q) h = dir_kept rows later q h

-- ---- fields

-- a line that has not two fields
pub not_two : (version : Version) (before : List Row) (ps : List (List ℕ)) → length ps ≢ 2 → row_of version before ps ≡ Err kind.Fields
unfolding row_of
not_two version before [] h = refl
not_two version before (a ∷ []) h = refl
not_two version before (a ∷ b ∷ []) h = absurd (h refl)
not_two version before (a ∷ b ∷ c ∷ ps) h = refl

abbrev tested : Bool → Bool → Bool → Option TextKind
tested a b c = cond a (Some kind.Empty) (cond (not b) (Some kind.Order) (cond (not c) (Some kind.Parent) None))

-- a row that was read is one that may follow the rows before it
pub row_next : (before : List Row) (n : Node) (v : Value) (row : Row) → row_unless (row_fault before n v) n v ≡ Ok row → IsNextRow before row
row_next before n v row e = go (is_empty v) (is_after_rows before n) (has_parent before n) refl refl refl e
  where
    same : ◌≡◌ {A = Result Row TextKind} (Ok (record { path = n; value = v })) (Ok row) → ◌≡◌ {A = Row} (record { path = n; value = v }) row
    same e = cc

    go : (a b c : Bool) → a ≡ is_empty v → b ≡ is_after_rows before n → c ≡ has_parent before n → row_unless (tested a b c) n v ≡ Ok row → IsNextRow before row
    go true b c ea eb ec e = cc
    go false false c ea eb ec e = cc
    go false true false ea eb ec e = cc
    go false true true ea eb ec e = subst (λ r. IsNextRow before r) (same e) (record { full = sym ea; after = sym eb; below = sym ec })

-- ---- one row

from_kind : {X F : Type 0} (k : TextKind) (r : Result X F) (x : X) → with_kind k r ≡ Ok x → r ≡ Ok x
from_kind k (Ok y) x e = cc
from_kind k (Err f) x e = cc

pub row_errs : (version : Version) (before : List Row) (p v : List ℕ) (n : Node) (w : Value) (j k f : TextKind) → length before < MAX_ITEMS → with_kind j (path_of p) ≡ Ok n → with_kind k (value_of version v) ≡ Ok w → Some f ≡ row_fault before n w
    → row_of version before (p ∷ v ∷ []) ≡ Err f
unfolding row_of
row_errs version before p v n w j k f few e g h =
    let space : nat_le MAX_ITEMS (length before) ≡ false = grind (arith, nat_tests) in
    rw space ((λ i. row_from before (from_kind j (path_of p) n e i) (from_kind k (value_of version v) w g i)) ∙ ap (λ o. row_unless o n w) (sym h))

from_row : (before : List Row) (p : Result Node PathFault) (v : Result Value ValueFault) (row : Row) → row_from before p v ≡ Ok row → IsNextRow before row
from_row before (Err f) v row e = cc
from_row before (Ok n) (Err f) row e = cc
from_row before (Ok n) (Ok v) row e = row_next before n v row e

-- a line that is a row is one that may follow the rows before it
pub row_given : (version : Version) (before : List Row) (p v : List ℕ) (row : Row) → row_of version before (p ∷ v ∷ []) ≡ Ok row → IsNextRow before row
unfolding row_of
row_given version before p v row e =
    ⊎_elim
    (λ (t : nat_le MAX_ITEMS (length before) ≡ true). absurd (never (rw t at e)))
    (λ (f : nat_le MAX_ITEMS (length before) ≡ false). from_row before (path_of p) (value_of version v) row (rw f at e))
    (cases_Bool (nat_le MAX_ITEMS (length before)))
  where
    never : ◌≡◌ {A = Result Row TextKind} (Err kind.TooMany) (Ok row) → ⊥
    never e = cc

-- one row more
pub tree_end : (rows more : List Row) (row : Row) → IsRowTree rows → IsNextRow rows row → more ≡ rows ++ row ∷ [] → IsRowTree more
tree_end rows more row h n e = subst IsRowTree (sym e) (next_rows_end [] rows row h n)

pub given_more : (rows more later : List Row) (directory : Option Node) → IsGivenDir rows directory → more ≡ rows ++ later → IsGivenDir more directory
given_more rows more later directory h e = subst (λ l. IsGivenDir l directory) (sym e) (given_kept rows later directory h)

-- neither an end line nor two fields, as a fault
pub no_two : (version : Version) (rows : List Row) (fs : Fields) (ps : List (List ℕ)) → AreFields fs ps → end_number ps ≡ None → ((a b : Bor (List ℕ)) → fs ≡ fields.Two a b → ⊥) → row_of version rows ps ≡ Err kind.Fields
no_two version rows (fields.End n) ps h e t = absurd (some_not_none n.now (sym h ∙ e))
  where
    some_not_none : (n : List ℕ) → ◌≡◌ {A = Option (List ℕ)} (Some n) None → ⊥
    some_not_none n e = cc
no_two version rows (fields.Two a b) ps h e t = absurd (t a b refl)
no_two version rows (fields.Three a b c) ps h e t = let count : length ps ≡ 3 = ap length h in not_two version rows ps (λ two. omega arith)
no_two version rows fields.Other ps h e t = not_two version rows ps h.1

-- one row more
pub rows_more : (version : Version) (rows new : List Row) (kept next : Option Node) (row : Row) (path value : List ℕ) → AreRows rows kept → row_of version rows (path ∷ value ∷ []) ≡ Ok row → length rows < MAX_ITEMS → IsGivenDir rows next
    → new ≡ rows ++ row ∷ [] → AreRows new next
rows_more version rows new kept next row path value are given low directory more = record {
  few = let l = simp length-append at (ap length more) in omega (arith, l);
  tree = tree_end rows new row are.tree (row_given version rows path value row given) more;
  given = given_more rows new (row ∷ []) next directory more;
}

pub rows_same : (rows new : List Row) (kept next : Option Node) → AreRows rows kept → IsGivenDir rows next → new ≡ rows → AreRows new next
rows_same rows new kept next are directory same = subst (λ l. AreRows l next) (sym same) (record { few = are.few; tree = are.tree; given = directory })
