-- What a table that is kept right says of its tree, and when a command can be done on it.
use Rattle.std.proofs.Common.{◌≡◌, ◌↔◌, ℕ, ◌<◌, ◌≤◌, length, Bool, true, false, not, ◌&&◌, ◌||◌, cond, IsTrue, [], ◌∷◌, Option, Some, None, refl, sym, ap, ◌∙◌, subst, arith}
use Rattle.std.specs.Prelude.{if◌then◌else◌}
use Rattle.std.specs.FinMap as map
use Rattle.std.specs.List.{AllByRecursion, IsDistinct}
use Rattle.std.specs.Map.{keys_of, lookup}
use Rattle.sync_path.specs.Order.{path_eq}
use Rattle.sync_path.specs.Paths.{Node, parent}
use Rattle.sync_path.proofs.CallerLemmas.{parent_none, same_path_at, same_path_is, child_at, child_is, count_none, count_some}
use Rattle.sync_command.proofs.CallerLemmas.{empty_is}
use Rattle.sync_command.specs.Changes.{Change}
use Rattle.sync_command.specs.Maps.{IsTreeMap, Store, at}
use Rattle.sync_command.specs.Trees.{Holding}
use Rattle.sync_command.specs.Values.{is_dir, is_empty}
use Rattle.sync_command.specs.declared.values.Value.{Value}
use Rattle.sync_command.specs.declared.values.Value.TheVariants.{Dir, Empty, File}
use Rattle.apply_model.specs.declared.table.Entry.{Entry}
use Rattle.apply_model.specs.Parents.{HoldsChild, IsBelowDir, IsReady}
use Rattle.apply_model.specs.Tables.{IsKept, any_dir_above, children_in, is_full, map_of, value_in}
use Rattle.sync_path.specs.Children.{is_child}
use Rattle.apply_model.proofs.Steps.{not_both, same_some}
use Rattle.apply_model.proofs.Tables.{Entries, at-map_of, full-map_of, get_held, held_value, path_eq-flip}

full_is : (v : Value) → not (is_empty v) ≡ true → is_empty v ≡ false
full_is Empty e = cc
full_is (Dir l) e = refl
full_is (File b) e = refl

-- ---- the entry of a parent

tied : (q k : Node) → path_eq q k ≡ true → q ≡ k
tied q k e = sym (same_path_is k q (sym (path_eq-flip q k) ∙ e))

ties : (q k : Node) → q ≡ k → path_eq q k ≡ true
ties q k e = path_eq-flip q k ∙ same_path_at k q (sym e)

-- the parent's entry is found where it is a directory
dir_found : (es : Entries) (n q : Node) → parent n ≡ Some q → is_dir (value_in (lookup (path_eq q) es)) ≡ true → any_dir_above n es ≡ true
dir_found [] n q up h = absurd (not_both false h refl)
dir_found (e ∷ es) n q up h = go (path_eq q e.0) (is_child n e.0) (λ s. child_at n e.0 (up ∙ ap Some (tied q e.0 s))) h (dir_found es n q up)
  where
    either : (a : Bool) → any_dir_above n es ≡ true → (a || any_dir_above n es) ≡ true
    either true k = refl
    either false k = k

    go : (b c : Bool) → (b ≡ true → c ≡ true) → is_dir (value_in (cond b (Some e.1) (lookup (path_eq q) es))) ≡ true → (is_dir (value_in (lookup (path_eq q) es)) ≡ true → any_dir_above n es ≡ true) →
        ((c && is_dir e.1.value) || any_dir_above n es) ≡ true
    go true c f h rec = ap (λ x. (x && is_dir e.1.value) || any_dir_above n es) (f refl) ∙ ap (λ x. x || any_dir_above n es) h
    go false c f h rec = either (c && is_dir e.1.value) (rec h)

gone : (k : Node) (es : Entries) → AllByRecursion (λ y. path_eq k y ≡ false) (keys_of es) → lookup (path_eq k) es ≡ None
gone k [] h = refl
gone k (e ∷ es) h = ap (λ b. cond b (Some e.1) (lookup (path_eq k) es)) h.0 ∙ gone k es h.1

found_dir : (es : Entries) (n q : Node) → parent n ≡ Some q → IsDistinct path_eq (keys_of es) → any_dir_above n es ≡ true → is_dir (value_in (lookup (path_eq q) es)) ≡ true
unfolding IsDistinct
found_dir [] n q up apart h = absurd (not_both false h refl)
found_dir (e ∷ es) n q up apart h = go (path_eq q e.0) (tied q e.0) (ties q e.0) (is_child n e.0) (λ c. same_some (sym up ∙ child_is n e.0 c)) h (found_dir es n q up apart.1)
  where
    nowhere : q ≡ e.0 → is_dir (value_in (lookup (path_eq q) es)) ≡ false
    nowhere is = ap (λ o. is_dir (value_in o)) (ap (λ r. lookup (path_eq r) es) is ∙ gone e.0 es apart.0)

    pick : q ≡ e.0 → (c d : Bool) → is_dir e.1.value ≡ d → ((c && d) || any_dir_above n es) ≡ true → (any_dir_above n es ≡ true → is_dir (value_in (lookup (path_eq q) es)) ≡ true) → is_dir e.1.value ≡ true
    pick is c true i h rec = i
    pick is true false i h rec = absurd (not_both (is_dir (value_in (lookup (path_eq q) es))) (rec h) (nowhere is))
    pick is false false i h rec = absurd (not_both (is_dir (value_in (lookup (path_eq q) es))) (rec h) (nowhere is))

    go : (b : Bool) → (b ≡ true → q ≡ e.0) → (q ≡ e.0 → b ≡ true) → (c : Bool) → (c ≡ true → q ≡ e.0) → ((c && is_dir e.1.value) || any_dir_above n es) ≡ true →
        (any_dir_above n es ≡ true → is_dir (value_in (lookup (path_eq q) es)) ≡ true) → is_dir (value_in (cond b (Some e.1) (lookup (path_eq q) es))) ≡ true
    go true s t c k h rec = pick (s refl) c (is_dir e.1.value) refl h rec
    go false s t true k h rec = absurd (not_both false (t (k refl)) refl)
    go false s t false k h rec = rec h

-- what the loop over the entries turns to
pub dir_here : (n : Node) (k : Node) (e : Entry) (es : Entries) → parent n ≡ Some k → is_dir e.value ≡ true → true ≡ any_dir_above n ((k, e) ∷ es)
dir_here n k e es up dir = sym (ap (λ b. (b && is_dir e.value) || any_dir_above n es) (child_at n k up) ∙ ap (λ b. b || any_dir_above n es) dir)

pub not_here : (n : Node) (k : Node) (e : Entry) (es : Entries) → (parent n ≡ Some k → is_dir e.value ≡ false) → any_dir_above n es ≡ any_dir_above n ((k, e) ∷ es)
not_here n k e es other = go (is_child n k) (child_is n k)
  where
    go : (b : Bool) → (b ≡ true → parent n ≡ Some k) → any_dir_above n es ≡ ((b && is_dir e.value) || any_dir_above n es)
    go true f = sym (ap (λ x. x || any_dir_above n es) (other (f refl)))
    go false f = refl

module _ (es : Entries) (m : Store) (is : map_of es ≡ m) where
  pub at_is : (q : Node) (o : Option Entry) → o ≡ lookup (path_eq q) es → at m q ≡ value_in o
  at_is q o found = ap (λ s. at s q) (sym is) ∙ at-map_of es q ∙ ap value_in (sym found)

  got : (q : Node) (o : Option Entry) → o ≡ lookup (path_eq q) es → map.get m q ≡ held_value (value_in o)
  got q o found = ap (λ s. map.get s q) (sym is) ∙ get_held (map_of es) (full-map_of es) q (value_in o) (ap (λ s. at s q) is ∙ at_is q o found)

  pub get_none : (q : Node) (o : Option Entry) → o ≡ lookup (path_eq q) es → is_empty (value_in o) ≡ true → None ≡ map.get m q
  get_none q o found e = sym (got q o found ∙ ap (λ b. if b then None else Some (value_in o)) e)

  pub get_some : (q : Node) (s : Entry) → Some s ≡ lookup (path_eq q) es → is_empty s.value ≡ false → Some s.value ≡ map.get m q
  get_some q s found e = sym (got q (Some s) found ∙ ap (λ b. if b then None else Some s.value) e)

  module _ (kept : IsKept (map_of es) (λ q. lookup (path_eq q) es)) where
    pub tree_is : IsTreeMap m
    tree_is = subst IsTreeMap is kept.tree

    -- no child where the entry counts none
    no_child : (q : Node) (o : Option Entry) → o ≡ lookup (path_eq q) es → children_in o ≡ 0 → ¬ HoldsChild (at m) q
    no_child q o found none (p, up, full) =
        let hollow : is_full (map_of es) p ≡ false = count_none (is_full (map_of es)) q (children_in (lookup (path_eq q) es)) (kept.counts q) (ap children_in (sym found) ∙ none) p up in
        not_both (is_full (map_of es) p) (ap (λ s. is_full s p) is ∙ ap not full) hollow

    some_child : (q : Node) (o : Option Entry) → o ≡ lookup (path_eq q) es → 0 < children_in o → HoldsChild (at m) q
    some_child q o found some =
        let child = count_some (is_full (map_of es)) q (children_in (lookup (path_eq q) es)) (kept.counts q) (subst (λ r. 0 < children_in r) found some) in
        (child.0, child.1, full_is (at m child.0) (sym (ap (λ s. is_full s child.0) is) ∙ child.2))

    module _ (c : Change) (n : Node) (node : n ≡ c.node) (old new : Value) (from : old ≡ c.old) (to : new ≡ c.new) where
      here : (o : Option Entry) → o ≡ lookup (path_eq n) es → o ≡ lookup (path_eq c.node) es
      here o found = found ∙ ap (λ q. lookup (path_eq q) es) node

      pub ready_alone : (s : Entry) → Some s ≡ lookup (path_eq n) es → s.value ≡ old → s.children ≡ 0 → (r : Bool) → r ≡ true → IsTrue r ↔ IsReady (at m) c
      ready_alone s found same none r on = (λ t. record { old = at_is c.node (Some s) (here (Some s) found) ∙ same ∙ from; free = λ flat. no_child c.node (Some s) (here (Some s) found) none }, λ k. on)

      pub ready_dir : (s : Entry) → Some s ≡ lookup (path_eq n) es → s.value ≡ old → (s.children ≡ 0 → ⊥) → (r : Bool) → r ≡ is_dir new → IsTrue r ↔ IsReady (at m) c
      ready_dir s found same some r dir = (
        λ t. record { old = at_is c.node (Some s) (here (Some s) found) ∙ same ∙ from; free = λ flat. absurd (not_both (is_dir c.new) (sym (dir ∙ ap is_dir to) ∙ t) flat) },
        λ k. dir ∙ ap is_dir to ∙ go (is_dir c.new) (λ flat. k.free flat (some_child c.node (Some s) (here (Some s) found) (more s.children some))),
      )
        where
          more : (k : ℕ) → (k ≡ 0 → ⊥) → 0 < k
          more k h = omega arith

          go : (b : Bool) → (b ≡ false → ⊥) → b ≡ true
          go true f = refl
          go false f = absurd (f refl)

      pub ready_other : (s : Entry) → Some s ≡ lookup (path_eq n) es → (s.value ≡ old → ⊥) → (r : Bool) → r ≡ false → IsTrue r ↔ IsReady (at m) c
      ready_other s found other r off = (λ t. absurd (not_both r t off), λ k. absurd (other (sym (at_is c.node (Some s) (here (Some s) found)) ∙ k.old ∙ sym from)))

      pub ready_none : None ≡ lookup (path_eq n) es → (r : Bool) → r ≡ is_empty old → IsTrue r ↔ IsReady (at m) c
      ready_none found r empty = (
        λ t. record { old = at_is c.node None (here None found) ∙ sym (empty_is c.old (sym (empty ∙ ap is_empty from) ∙ t)); free = λ flat. no_child c.node None (here None found) refl },
        λ k. empty ∙ ap is_empty (from ∙ sym k.old ∙ at_is c.node None (here None found)),
      )

    -- some entry gives the node's parent as a directory exactly where one is there
    pub dir_above : IsDistinct path_eq (keys_of es) → (n : Node) (r : Bool) → r ≡ any_dir_above n es → (length n ≡ 1 → ⊥) → 0 < length n → IsTrue r ↔ IsBelowDir (at m) n
    dir_above apart n r e deep some = (
      λ t q up. ap is_dir (at_is q (lookup (path_eq q) es) refl) ∙ found_dir es n q up apart (sym e ∙ t),
      λ h. e ∙ below (parent n) refl h,
    )
      where
        below : (o : Option Node) → parent n ≡ o → IsBelowDir (at m) n → any_dir_above n es ≡ true
        below None up h = let short : length n ≤ 1 = (parent_none n).0 up in absurd (deep (omega arith))
        below (Some q) up h = dir_found es n q up (sym (ap is_dir (at_is q (lookup (path_eq q) es) refl)) ∙ h q up)

-- a root needs no directory
pub below_root : (t : Holding) (n : Node) → length n ≡ 1 → IsBelowDir t n
below_root t n one q up = absurd (never (sym up ∙ (parent_none n).1 (omega arith)))
  where
    never : {p : Node} → ◌≡◌ {A = Option Node} (Some p) None → ⊥
    never e = cc
