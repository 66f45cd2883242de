-- A walk over a tree in path order: the rows so far are a tree, and the nodes still to be asked can follow them.
use Rattle.std.proofs.Common.{◌≡◌, ◌⊎◌, inl, inr, suc, ◌<◌, Bool, true, false, ◌&&◌, ◌||◌, List, [], ◌∷◌, ◌++◌, length, get_or, Option, Some, None, refl, sym, ap, subst, ◌∙◌, arith, append_assoc, append-nil}
use Rattle.std.specs.Prelude.{⊤}
use Rattle.std.specs.List.{All, AllByRecursion}
use Rattle.std.proofs.lemmas.Bool.{and_from, both_ways, false_from_ne_true, or_left, or_right}
use Rattle.sync_path.specs.Paths.{Node, comes_before, is_under, parent, same_path}
use Rattle.sync_path.proofs.CallerLemmas.{before_total, contiguous, parent_before, parent_is, parent_shorter, same_path_is, same_path_refl, under_is, under_parent, under_shorter, under_split, under_up, HasParentUnder, IsUnder-parent}
use Rattle.sync_command.specs.Rows.{AreNextRows, IsNextRow, IsRowTree, gives_dir, gives_parent, has_parent, is_after_rows}
use Rattle.sync_command.specs.Values.{is_dir, is_empty}
use Rattle.sync_command.specs.declared.commands.Row.{Row}
use Rattle.tree_port.specs.Conditions.{AreBelow}

-- ---- each of a list

pub each_from : {A : Type 0} (P : A → Type 0) (xs : List A) → All P xs → AllByRecursion P xs
each_from P [] h = tt
each_from P (x ∷ xs) h = (h 0 x (omega arith), each_from P xs (λ k d low. h (suc k) d (omega arith)))

pub each_append : {A : Type 0} (P : A → Type 0) (xs ys : List A) → AllByRecursion P xs → AllByRecursion P ys → AllByRecursion P (xs ++ ys)
each_append P [] ys h g = g
each_append P (x ∷ xs) ys h g = (h.0, each_append P xs ys h.1 g)

pub each_then : {A : Type 0} (P Q : A → Type 0) → ((x : A) → P x → Q x) → (xs : List A) → AllByRecursion P xs → AllByRecursion Q xs
each_then P Q f [] h = tt
each_then P Q f (x ∷ xs) h = (f x h.0, each_then P Q f xs h.1)

each_both : {A : Type 0} (P Q R : A → Type 0) → ((x : A) → P x → Q x → R x) → (xs : List A) → AllByRecursion P xs → AllByRecursion Q xs → AllByRecursion R xs
each_both P Q R f [] h g = tt
each_both P Q R f (x ∷ xs) h g = (f x h.0 g.0, each_both P Q R f xs h.1 g.1)

-- ---- nodes one past another

-- the other node comes later, and is not under this one
pub record IsPast (n later : Node) : Type 0 where
  pub before : comes_before n later ≡ true
  pub apart : is_under later n ≡ false

-- each node is past those before it
abbrev pub ArePast : List Node → Type 0
ArePast [] = ⊤
ArePast (n ∷ ns) = AllByRecursion (IsPast n) ns × ArePast ns

-- no sibling is under another
not_under : (above : Option Node) (c d : Node) → parent c ≡ above → parent d ≡ above → is_under d c ≡ true → ⊥
not_under above c d ec ed u = go (under_split d c u)
  where
    go : HasParentUnder d c → ⊥
    go w = way w.way (parent_shorter w.up c (ec ∙ sym ed ∙ w.is))
      where
        way : (w.up ≡ c) ⊎ (is_under w.up c ≡ true) → length w.up < length c → ⊥
        way (inl e) s = let same = ap length e in omega (arith, same, s)
        way (inr v) s = let l = under_shorter w.up c v in omega (arith, l, s)

pub siblings : (above : Option Node) (found : List Node) → AreBelow above found → ArePast found
siblings above [] b = tt
siblings above (c ∷ found) b = (
  each_from (IsPast c) found (λ k d low. record {
    before = b.order 0 (suc k) d (omega arith) (omega arith);
    apart = false_from_ne_true _ (not_under above c (get_or found k d) (b.parents 0 d (omega arith)) (b.parents (suc k) d (omega arith)));
  }),
  siblings above found (record { order = λ i j d low high. b.order (suc i) (suc j) d (omega arith) (omega arith); parents = λ k d low. b.parents (suc k) d (omega arith) }),
)

-- what is past a node is past its children
child_past : (p c y : Node) → parent c ≡ Some p → IsPast p y → IsPast c y
child_past p c y e past = record {
  before = go (same_path c y) refl (comes_before c y) refl;
  apart = false_from_ne_true _ (λ u. both_ways _ past.apart (under_up y c p u e));
}
  where
    some : 0 < length p
    some = ((parent_is c p).0 e).1

    go : (s : Bool) → same_path c y ≡ s → (b : Bool) → comes_before c y ≡ b → b ≡ true
    go s same true before = refl
    go true same false before = absurd (both_ways _ past.apart (subst (λ q. is_under q p ≡ true) (same_path_is c y same) (under_parent p c e)))
    go false same false before = absurd (both_ways _ past.apart ((under_is y p some).1 (contiguous p y c (IsUnder-parent c p e) past.before (before_total c y same before))))

past_append : (p : Node) (found rest : List Node) → AllByRecursion (λ c. parent c ≡ Some p) found → AllByRecursion (IsPast p) rest → ArePast found → ArePast rest → ArePast (found ++ rest)
past_append p [] rest below past h g = g
past_append p (c ∷ found) rest below past h g = (
  each_append (IsPast c) found rest h.0 (each_then (IsPast p) (IsPast c) (λ y. child_past p c y below.0) rest past),
  past_append p found rest below.1 past h.1 g,
)

-- ---- one row more

-- a row of the node can follow these rows
pub record CanFollow (rows : List Row) (n : Node) : Type 0 where
  pub after : is_after_rows rows n ≡ true
  pub below : has_parent rows n ≡ true

one_more : (before rows : List Row) (row : Row) → AreNextRows before rows → IsNextRow (before ++ rows) row → AreNextRows before (rows ++ row ∷ [])
one_more before [] row h next = (subst (λ l. IsNextRow l row) (append-nil before) next, tt)
one_more before (x ∷ rows) row h next = (h.0, one_more (before ++ x ∷ []) rows row h.1 (subst (λ l. IsNextRow l row) (sym (append_assoc before (x ∷ []) rows)) next))

after_last : (rows : List Row) (row : Row) (n : Node) → is_after_rows (rows ++ row ∷ []) n ≡ comes_before row.path n
after_last [] row n = refl
after_last (x ∷ []) row n = refl
after_last (x ∷ (y ∷ rows)) row n = after_last (y ∷ rows) row n

gives_more : (rows : List Row) (row : Row) (q : Node) → gives_dir rows q ≡ true → gives_dir (rows ++ row ∷ []) q ≡ true
gives_more [] row q g = absurd (both_ways false refl g)
gives_more (x ∷ rows) row q g = go (same_path x.path q && is_dir x.value) g (gives_more rows row q)
  where
    go : (b : Bool) → (b || gives_dir rows q) ≡ true → (gives_dir rows q ≡ true → gives_dir (rows ++ row ∷ []) q ≡ true) → (b || gives_dir (rows ++ row ∷ []) q) ≡ true
    go true g more = refl
    go false g more = more g

parent_more : (rows : List Row) (row : Row) (o : Option Node) → gives_parent rows o ≡ true → gives_parent (rows ++ row ∷ []) o ≡ true
parent_more rows row None g = refl
parent_more rows row (Some q) g = gives_more rows row q g

gives_last : (rows : List Row) (row : Row) → is_dir row.value ≡ true → gives_dir (rows ++ row ∷ []) row.path ≡ true
gives_last [] row dir = or_left _ false (and_from _ _ (same_path_refl row.path) dir)
gives_last (x ∷ rows) row dir = or_right _ _ (gives_last rows row dir)

-- ---- the walk

-- the rows so far, and the nodes still to be asked, the next one first
pub record IsInOrder (rows : List Row) (left : List Node) : Type 0 where
  pub tree : IsRowTree rows
  pub follow : AllByRecursion (CanFollow rows) left
  pub past : ArePast left

pub order_at_start : (found : List Node) → AreBelow None found → IsInOrder [] found
order_at_start found b = record {
  tree = tt;
  follow = each_from (CanFollow []) found (λ k d low. record { after = refl; below = ap (gives_parent []) (b.parents k d low) });
  past = siblings None found b;
}

pub order_by_passing : (rows : List Row) (n : Node) (rest : List Node) → IsInOrder rows (n ∷ rest) → IsInOrder rows rest
order_by_passing rows n rest w = record { tree = w.tree; follow = w.follow.1; past = w.past.1 }

pub order_by_row : (rows : List Row) (row : Row) (rest found : List Node) → is_empty row.value ≡ false → AreBelow (Some row.path) found → (is_dir row.value ≡ false → found ≡ []) → IsInOrder rows (row.path ∷ rest) → IsInOrder (rows ++ row ∷ []) (found ++ rest)
order_by_row rows row rest found full b none w = record {
  tree = one_more [] rows row w.tree (record { full = full; after = w.follow.0.after; below = w.follow.0.below });
  follow = each_append (CanFollow (rows ++ row ∷ [])) found rest (children (is_dir row.value) refl) (each_both (CanFollow rows) (IsPast row.path) (CanFollow (rows ++ row ∷ [])) later rest w.follow.1 w.past.0);
  past = past_append row.path found rest parents w.past.0 (siblings (Some row.path) found b) w.past.1;
}
  where
    parents : AllByRecursion (λ c. parent c ≡ Some row.path) found
    parents = each_from (λ c. parent c ≡ Some row.path) found b.parents

    child : is_dir row.value ≡ true → (c : Node) → parent c ≡ Some row.path → CanFollow (rows ++ row ∷ []) c
    child dir c e = record {
      after = after_last rows row c ∙ parent_before row.path c e;
      below = ap (gives_parent (rows ++ row ∷ [])) e ∙ gives_last rows row dir;
    }

    children : (d : Bool) → is_dir row.value ≡ d → AllByRecursion (CanFollow (rows ++ row ∷ [])) found
    children true dir = each_then (λ c. parent c ≡ Some row.path) (CanFollow (rows ++ row ∷ [])) (child dir) found parents
    children false flat = subst (AllByRecursion (CanFollow (rows ++ row ∷ []))) (sym (none flat)) tt

    later : (y : Node) → CanFollow rows y → IsPast row.path y → CanFollow (rows ++ row ∷ []) y
    later y can past = record {
      after = after_last rows row y ∙ past.before;
      below = parent_more rows row (parent y) can.below;
    }
