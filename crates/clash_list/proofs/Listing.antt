-- The list of clashes is empty exactly where no two drawn commands clash.
use Rattle.std.proofs.Common.{◌≡◌, ◌↔◌, ℕ, zero, suc, ◌+◌, Bool, true, false, not, ◌||◌, ◌&&◌, List, [], ◌∷◌, ◌++◌, Option, Some, None, refl, sym, ap, subst, ◌∙◌, arith, ◌⊎◌, inl, inr}
use Rattle.std.specs.Prelude.{if◌then◌else◌, is_some}
use Rattle.std.specs.List.{filter, flat_map, list_any, slice_get}
use Rattle.sync_path.specs.Paths.{Node, same_path}
use Rattle.sync_path.proofs.CallerLemmas.{same_path_is, same_path_at}
use Rattle.sync_command.specs.Values.{is_dir, is_empty}
use Rattle.sync_command.specs.declared.commands.Row.{Row}
use Rattle.sync_command.specs.Changes.{Change, is_change, same_change}
use Rattle.sync_command.specs.Trees.{command_at, one_each}
use Rattle.sync_command.proofs.CallerLemmas.{command_at-node, one_each-filter, command_at-filter, passing, passing-is}
use Rattle.sync_path.specs.Children.{is_child}
use Rattle.canon_set.specs.Logs.{names, net, touches}
use Rattle.canon_set.specs.Leaving.{above}
use Rattle.canon_set.specs.Sets.{canonical}
use Rattle.canon_set.proofs.CallerLemmas.{one_each-canonical, one_each-touches, is_some-touches}
use Rattle.refluent.specs.CommonTrees.{least_common_tree}
use Rattle.refluent.specs.Clashes.{clashes_below, HasNoClash}
use Rattle.refluent.specs.Drawn.{in_turn, drawn_commands}
use Rattle.refluent.specs.Joints.{Joined, StandsForAll, concerns, net_sets}
use Rattle.refluent.specs.Sets.{is_in}
use Rattle.refluent.proofs.CallerLemmas.{in_from_at, at_from_in, is_in-append, is_in-without_repeats, same_change_is, same_change_at, same_change_refl, is_in-canonical, drawn_is, has_node}
use Rattle.clash_list.specs.declared.clashes.Clash.{Clash}
use Rattle.clash_list.specs.declared.clashes.Clash.TheVariants.{Same, Below}
use Rattle.clash_list.specs.declared.drawn.Kept.{Kept}
use Rattle.clash_list.specs.declared.drawn.Kept.TheVariants.{Every, NoDirectory, Something}
use Rattle.clash_list.specs.DrawnAt.{LogCommand, with_command, commands_from, is_other, first_of_each, drawn_at, logs_of, is_kept, logs_at, is_same_as}
use Rattle.clash_list.specs.ClashLists.{Placed, placed_from, pairs, products, same_at, below_at, clashes_at, clashes}

-- ---- lists

either : (a b : Bool) → (a || b) ≡ true → (a ≡ true) ⊎ (b ≡ true)
either true b e = inl refl
either false b e = inr e

right : (a b : Bool) → b ≡ true → (a || b) ≡ true
right true b e = refl
right false b e = e

neither_list : (xs ys : List Clash) → xs ++ ys ≡ [] → (xs ≡ []) × (ys ≡ [])
neither_list [] ys e = (refl, e)
neither_list (x ∷ xs) ys e = cc (e)

-- the commands of a list all have a property
pub data AllHave (P : LogCommand → Type 0) : List LogCommand → Type 0 where
  empty : AllHave P []
  each : (e : LogCommand) (es : List LogCommand) → P e → AllHave P es → AllHave P (e ∷ es)

weaker : (P Q : LogCommand → Type 0) → ((e : LogCommand) → P e → Q e) → (es : List LogCommand) → AllHave P es → AllHave Q es
weaker P Q f es empty = empty
weaker P Q f es (each e rest h hs) = each e rest (f e h) (weaker P Q f rest hs)

filtered : (P : LogCommand → Type 0) (f : LogCommand → Bool) (es : List LogCommand) → AllHave P es → AllHave (λ e. P e × (f e ≡ true)) (filter f es)
filtered P f es empty = empty
filtered P f es (each e rest h hs) = go (f e) refl (filtered P f rest hs)
  where
    go : (b : Bool) → f e ≡ b → AllHave (λ x. P x × (f x ≡ true)) (filter f rest) → AllHave (λ x. P x × (f x ≡ true)) (if b then e ∷ filter f rest else filter f rest)
    go true g ih = each e _ (h, g) ih
    go false g ih = ih

each_first : (P : LogCommand → Type 0) (ds : List LogCommand) → AllHave P ds → AllHave P (first_of_each ds)
each_first P ds empty = empty
each_first P ds (each d rest h hs) = each d _ h (weaker (λ e. P e × (is_other d e ≡ true)) P (λ e g. g.0) _ (filtered P (is_other d) _ (each_first P rest hs)))

-- ---- the drawn commands at a node

abbrev pub AreSingle : List (List Change) → Type 0
AreSingle [] = Unit {0}
AreSingle (set ∷ sets) = (one_each set ≡ true) × AreSingle sets

single_nets : (logs : List (List Change)) → AreSingle (net_sets logs)
single_nets [] = tt
single_nets (log ∷ logs) = (one_each-canonical (net log) (one_each-filter is_change (touches log) (one_each-touches log)), single_nets logs)

abbrev pub IsOf : List (List Change) → Node → LogCommand → Type 0
IsOf sets p e = (is_in (in_turn sets) e.change ≡ true) × (p ≡ e.change.node)

all_of : (log : ℕ) (sets : List (List Change)) (p : Node) → AllHave (IsOf sets p) (commands_from log sets p)
all_of log [] p = empty
all_of log (set ∷ sets) p = go (command_at set p) refl (weaker (IsOf sets p) (IsOf (set ∷ sets) p) later (commands_from (log + 1) sets p) (all_of (log + 1) sets p))
  where
    later : (e : LogCommand) → IsOf sets p e → IsOf (set ∷ sets) p e
    later e h = (is_in-append set (in_turn sets) e.change ∙ right (is_in set e.change) _ h.0, h.1)

    go : (o : Option Change) → command_at set p ≡ o → AllHave (IsOf (set ∷ sets) p) (commands_from (log + 1) sets p) → AllHave (IsOf (set ∷ sets) p) (with_command log o (commands_from (log + 1) sets p))
    go None e hs = hs
    go (Some c) e hs = each (record { log = log; change = c }) _ (is_in-append set (in_turn sets) c ∙ ap (λ b. b || is_in (in_turn sets) c) (in_from_at set p c e), command_at-node set p c e) hs

has_from : (log : ℕ) (sets : List (List Change)) (c : Change) → AreSingle sets → is_in (in_turn sets) c ≡ true → list_any (is_same_as c) (commands_from log sets c.node) ≡ true
has_from log [] c one e = cc (e)
has_from log (set ∷ sets) c one e = split (either (is_in set c) (is_in (in_turn sets) c) (sym (is_in-append set (in_turn sets) c) ∙ e)) (has_from (log + 1) sets c one.1)
  where
    skip : (o : Option Change) → list_any (is_same_as c) (commands_from (log + 1) sets c.node) ≡ true → list_any (is_same_as c) (with_command log o (commands_from (log + 1) sets c.node)) ≡ true
    skip None h = h
    skip (Some d) h = right (same_change c d) _ h

    split : (is_in set c ≡ true) ⊎ (is_in (in_turn sets) c ≡ true) → (is_in (in_turn sets) c ≡ true → list_any (is_same_as c) (commands_from (log + 1) sets c.node) ≡ true) → list_any (is_same_as c) (commands_from log (set ∷ sets) c.node) ≡ true
    split (inl h) rec = ap (λ o. list_any (is_same_as c) (with_command log o (commands_from (log + 1) sets c.node))) (at_from_in set one.0 c h) ∙ ap (λ b. b || list_any (is_same_as c) (commands_from (log + 1) sets c.node)) (same_change_refl c)
    split (inr h) rec = skip (command_at set c.node) (rec h)

-- leaving equal ones out leaves one
any_first : (c : Change) (ds : List LogCommand) → list_any (is_same_as c) ds ≡ true → list_any (is_same_as c) (first_of_each ds) ≡ true
any_first c [] e = e
any_first c (d ∷ ds) e = split (same_change c d.change) refl e (any_first c ds)
  where
    kept : same_change c d.change ≡ false → (xs : List LogCommand) → list_any (is_same_as c) xs ≡ true → list_any (is_same_as c) (filter (is_other d) xs) ≡ true
    kept other [] e = e
    kept other (x ∷ xs) e = go (same_change c x.change) refl (same_change x.change d.change) refl (kept other xs) e
      where
        go : (s : Bool) → same_change c x.change ≡ s → (t : Bool) → same_change x.change d.change ≡ t → (list_any (is_same_as c) xs ≡ true → list_any (is_same_as c) (filter (is_other d) xs) ≡ true) → (s || list_any (is_same_as c) xs) ≡ true →
            list_any (is_same_as c) (if not t then x ∷ filter (is_other d) xs else filter (is_other d) xs) ≡ true
        go true f false g ih e = ap (λ b. b || list_any (is_same_as c) (filter (is_other d) xs)) f
        go true f true g ih e = let h : same_change c d.change ≡ true = ap (λ y. same_change y d.change) (same_change_is c x.change f) ∙ g in cc (h, other)
        go false f false g ih e = right (same_change c x.change) _ (ih e)
        go false f true g ih e = ih e

    split : (s : Bool) → same_change c d.change ≡ s → (s || list_any (is_same_as c) ds) ≡ true → (list_any (is_same_as c) ds ≡ true → list_any (is_same_as c) (first_of_each ds) ≡ true) → (same_change c d.change || list_any (is_same_as c) (filter (is_other d) (first_of_each ds))) ≡ true
    split true f e ih = ap (λ b. b || list_any (is_same_as c) (filter (is_other d) (first_of_each ds))) f
    split false f e ih = right (same_change c d.change) _ (kept f (first_of_each ds) (ih e))

module _ (j : Joined) (logs : List (List Change)) (stands : StandsForAll j logs) where
  single : AreSingle j.sets
  single = subst AreSingle (sym stands.sets) (single_nets logs)

  abbrev pub IsDrawnAt : Node → LogCommand → Type 0
  IsDrawnAt p e = (is_in (drawn_commands logs) e.change ≡ true) × (p ≡ e.change.node)

  drawn_is_turn : (c : Change) → is_in (drawn_commands logs) c ≡ is_in (in_turn j.sets) c
  drawn_is_turn c = ap (λ l. is_in l c) (sym (drawn_is j logs stands)) ∙ is_in-without_repeats (in_turn j.sets) c

  all_drawn : (p : Node) → AllHave (IsDrawnAt p) (drawn_at j.sets p)
  all_drawn p = weaker (IsOf j.sets p) (IsDrawnAt p) (λ e h. (drawn_is_turn e.change ∙ h.0, h.1)) (drawn_at j.sets p) (each_first (IsOf j.sets p) (commands_from 1 j.sets p) (all_of 1 j.sets p))

  has_drawn : (c : Change) → is_in (drawn_commands logs) c ≡ true → list_any (is_same_as c) (drawn_at j.sets c.node) ≡ true
  has_drawn c e = any_first c (commands_from 1 j.sets c.node) (has_from 1 j.sets c single (sym (drawn_is_turn c) ∙ e))

-- ---- empty lists of clashes

pairs_empty : (make : ℕ → ℕ → Clash) (x y : ℕ) (ls : List ℕ) → pairs make (x ∷ y ∷ ls) ≡ [] → ⊥
pairs_empty make x y ls e = cc (e)

products_empty : (make : ℕ → ℕ → Clash) (x y : ℕ) (ls rs : List ℕ) → products make (x ∷ ls) (y ∷ rs) ≡ [] → ⊥
products_empty make x y ls rs e = cc (e)

no_rights : (make : ℕ → ℕ → Clash) (ls : List ℕ) → products make ls [] ≡ []
no_rights make [] = refl
no_rights make (l ∷ ls) = no_rights make ls

-- no clash at the nodes of rows is none at each of them
each_placed : (f : Placed → List Clash) (t : Placed → Bool) (from : ℕ) (rows : List Row) → flat_map f (filter t (placed_from from rows)) ≡ [] →
    (k : ℕ) (row : Row) → slice_get rows k ≡ Some row → ((n : ℕ) → t (record { place = n; path = row.path }) ≡ true) → (n : ℕ) × (f (record { place = n; path = row.path }) ≡ [])
each_placed f t from [] e k row at passes = cc (at)
each_placed f t from (r ∷ rows) e zero row at passes = (from, go (t (record { place = from; path = r.path })) (ap (λ x. t (record { place = from; path = x.path })) (same at) ∙ passes from) e)
  where
    same : Some r ≡ Some row → r ≡ row
    same e = cc

    go : (b : Bool) → b ≡ true → flat_map f (if b then record { place = from; path = r.path } ∷ filter t (placed_from (from + 1) rows) else filter t (placed_from (from + 1) rows)) ≡ [] → f (record { place = from; path = row.path }) ≡ []
    go true g e = ap (λ x. f (record { place = from; path = x.path })) (sym (same at)) ∙ (neither_list (f (record { place = from; path = r.path })) _ e).0
    go false g e = cc (g)
each_placed f t from (r ∷ rows) e (suc k) row at passes = go (t (record { place = from; path = r.path })) e (λ h. each_placed f t (from + 1) rows h k row at passes)
  where
    go : (b : Bool) → flat_map f (if b then record { place = from; path = r.path } ∷ filter t (placed_from (from + 1) rows) else filter t (placed_from (from + 1) rows)) ≡ [] → (flat_map f (filter t (placed_from (from + 1) rows)) ≡ [] → (n : ℕ) × (f (record { place = n; path = row.path }) ≡ [])) → (n : ℕ) × (f (record { place = n; path = row.path }) ≡ [])
    go true e rec = rec (neither_list (f (record { place = from; path = r.path })) _ e).1
    go false e rec = rec e

none_placed : (f : Placed → List Clash) (t : Placed → Bool) (from : ℕ) (rows : List Row) → ((at : Placed) → t at ≡ true → f at ≡ []) → flat_map f (filter t (placed_from from rows)) ≡ []
none_placed f t from [] h = refl
none_placed f t from (r ∷ rows) h = go (t (record { place = from; path = r.path })) refl (none_placed f t (from + 1) rows h)
  where
    go : (b : Bool) → t (record { place = from; path = r.path }) ≡ b → flat_map f (filter t (placed_from (from + 1) rows)) ≡ [] → flat_map f (if b then record { place = from; path = r.path } ∷ filter t (placed_from (from + 1) rows) else filter t (placed_from (from + 1) rows)) ≡ []
    go true g ih = (λ i. h (record { place = from; path = r.path }) g i ++ ih i)
    go false g ih = ih

every_passes : (ps : List Placed) → filter (λ at. true) ps ≡ ps
every_passes [] = refl
every_passes (p ∷ ps) = ap (λ l. p ∷ l) (every_passes ps)

every_kept : (ds : List LogCommand) → filter (λ d. is_kept Every d.change) ds ≡ ds
every_kept [] = refl
every_kept (d ∷ ds) = ap (λ l. d ∷ l) (every_kept ds)

-- the logs of the kept ones, where one of them is kept
kept_some : (kept : Kept) (c : Change) (ds : List LogCommand) → list_any (is_same_as c) ds ≡ true → is_kept kept c ≡ true → logs_of (filter (λ d. is_kept kept d.change) ds) ≡ [] → ⊥
kept_some kept c [] e k gone = cc (e)
kept_some kept c (d ∷ ds) e k gone = go (is_kept kept d.change) refl (either (same_change c d.change) (list_any (is_same_as c) ds) e) gone (λ f g. kept_some kept c ds f k g)
  where
    go : (b : Bool) → is_kept kept d.change ≡ b → (same_change c d.change ≡ true) ⊎ (list_any (is_same_as c) ds ≡ true) → logs_of (if b then d ∷ filter (λ d. is_kept kept d.change) ds else filter (λ d. is_kept kept d.change) ds) ≡ [] →
        (list_any (is_same_as c) ds ≡ true → logs_of (filter (λ d. is_kept kept d.change) ds) ≡ [] → ⊥) → ⊥
    go true f g gone rec = cc (gone)
    go false f (inr g) gone rec = rec g gone
    go false f (inl g) gone rec = let h : is_kept kept d.change ≡ true = ap (is_kept kept) (sym (same_change_is c d.change g)) ∙ k in cc (h, f)

-- of two different commands one is not the only one
two_logs : (make : ℕ → ℕ → Clash) (c d : Change) (ds : List LogCommand) → list_any (is_same_as c) ds ≡ true → list_any (is_same_as d) ds ≡ true → pairs make (logs_of ds) ≡ [] → same_change c d ≡ true
two_logs make c d [] e f gone = cc (e)
two_logs make c d (x ∷ []) e f gone = same_change_at c d (same_change_is c x.change (only (same_change c x.change) e) ∙ sym (same_change_is d x.change (only (same_change d x.change) f)))
  where
    only : (b : Bool) → (b || false) ≡ true → b ≡ true
    only true e = refl
    only false e = e
two_logs make c d (x ∷ y ∷ ds) e f gone = absurd (pairs_empty make x.log y.log (logs_of ds) gone)

net_names : (log : List Change) (c : Change) → is_in (canonical (net log)) c ≡ true → names log c.node ≡ true
net_names log c e =
    let one = one_each-filter is_change (touches log) (one_each-touches log) in
    let t : command_at (net log) c.node ≡ Some c = at_from_in (net log) one c (sym (is_in-canonical (net log) one c) ∙ e) in
    let p : passing is_change (command_at (touches log) c.node) ≡ Some c = sym (command_at-filter is_change (touches log) (one_each-touches log) c.node) ∙ t in
    sym (is_some-touches log c.node) ∙ ap is_some (passing-is is_change (command_at (touches log) c.node) c p)

-- the nodes of drawn commands are nodes of the joint
concerned : (logs : List (List Change)) (c : Change) → is_in (in_turn (net_sets logs)) c ≡ true → concerns logs c.node ≡ true
concerned [] c e = cc (e)
concerned (log ∷ logs) c e = split (either (is_in (canonical (net log)) c) (is_in (in_turn (net_sets logs)) c) (sym (is_in-append (canonical (net log)) (in_turn (net_sets logs)) c) ∙ e)) (concerned logs c)
  where
    split : (is_in (canonical (net log)) c ≡ true) ⊎ (is_in (in_turn (net_sets logs)) c ≡ true) → (is_in (in_turn (net_sets logs)) c ≡ true → concerns logs c.node ≡ true) → concerns (log ∷ logs) c.node ≡ true
    split (inl h) rec = ap (λ b. (b || above log c.node) || concerns logs c.node) (net_names log c h)
    split (inr h) rec = right (names log c.node || above log c.node) _ (rec h)

module _ (j : Joined) (logs : List (List Change)) (stands : StandsForAll j logs) where
  -- where nothing is listed no two drawn commands clash
  module _ (nothing : clashes j ≡ []) where
    node_none : (p : Node) → (k : ℕ) (row : Row) → slice_get j.nodes k ≡ Some row → p ≡ row.path → (n : ℕ) × (clashes_at j (record { place = n; path = p }) ≡ [])
    node_none p k row at is = let h = each_placed (clashes_at j) (λ at. true) 0 j.nodes (ap (flat_map (clashes_at j)) (every_passes (placed_from 0 j.nodes)) ∙ nothing) k row at (λ n. refl) in
        (h.0, ap (λ q. clashes_at j (record { place = h.0; path = q })) is ∙ h.1)

    row_of : (c : Change) → is_in (drawn_commands logs) c ≡ true → (k : ℕ) × (row : Row) × (slice_get j.nodes k ≡ Some row) × (c.node ≡ row.path)
    row_of c e = let h = has_node j logs stands c.node (concerned logs c (ap (λ sets. is_in (in_turn sets) c) (sym stands.sets) ∙ sym (drawn_is_turn j logs stands c) ∙ e)) in (h.0, record { path = c.node; value = least_common_tree logs c.node }, h.1, refl)

    at_node : (c : Change) → is_in (drawn_commands logs) c ≡ true → (n : ℕ) × (clashes_at j (record { place = n; path = c.node }) ≡ [])
    at_node c e = let r = row_of c e in node_none c.node r.0 r.1 r.2 r.3

    no_same : (c d : Change) → is_in (drawn_commands logs) c ≡ true → is_in (drawn_commands logs) d ≡ true → (same_path c.node d.node && not (same_change c d)) ≡ false
    no_same c d e f = go (same_path c.node d.node) refl
      where
        go : (b : Bool) → same_path c.node d.node ≡ b → (b && not (same_change c d)) ≡ false
        go false g = refl
        go true g =
            let n = at_node c e in
            let is = same_path_is c.node d.node g in
            let here = (neither_list (same_at j.sets (record { place = n.0; path = c.node })) _ n.1).0 in
            ap not (two_logs (Same n.0) c d (drawn_at j.sets c.node) (has_drawn j logs stands c e) (subst (λ q. list_any (is_same_as d) (drawn_at j.sets q) ≡ true) (sym is) (has_drawn j logs stands d f))
            (ap (λ ds. pairs (Same n.0) (logs_of ds)) (sym (every_kept (drawn_at j.sets c.node))) ∙ here))

    no_below : (c d : Change) → is_in (drawn_commands logs) c ≡ true → is_in (drawn_commands logs) d ≡ true → clashes_below c d ≡ false
    no_below c d e f = go (is_dir c.new) refl (is_child d.node c.node) refl (is_empty d.new) refl
      where
        go : (x : Bool) → is_dir c.new ≡ x → (y : Bool) → is_child d.node c.node ≡ y → (z : Bool) → is_empty d.new ≡ z → (not x && (y && not z)) ≡ false
        go true g y h z i = refl
        go false g false h z i = refl
        go false g true h true i = refl
        go false g true h false i =
            let n = at_node c e in
            let r = row_of d f in
            let under = (neither_list (same_at j.sets (record { place = n.0; path = c.node })) _ n.1).1 in
            let m = each_placed (below_at j.sets (record { place = n.0; path = c.node })) (λ at. is_child at.path c.node) 0 j.nodes under r.0 r.1 r.2 (λ k. ap (λ q. is_child q c.node) (sym r.3) ∙ h) in
            absurd (some_products (Below n.0 m.0) (logs_at NoDirectory j.sets c.node) (logs_at Something j.sets d.node)
            (kept_some NoDirectory c (drawn_at j.sets c.node) (has_drawn j logs stands c e) (ap not g))
            (kept_some Something d (drawn_at j.sets d.node) (has_drawn j logs stands d f) (ap not i))
            (ap (λ q. products (Below n.0 m.0) (logs_at NoDirectory j.sets c.node) (logs_at Something j.sets q)) r.3 ∙ m.1))
          where
            some_products : (make : ℕ → ℕ → Clash) (ls rs : List ℕ) → (ls ≡ [] → ⊥) → (rs ≡ [] → ⊥) → products make ls rs ≡ [] → ⊥
            some_products make [] rs x y e = x refl
            some_products make (l ∷ ls) [] x y e = y refl
            some_products make (l ∷ ls) (r ∷ rs) x y e = products_empty make l r ls rs e

    none_clash : HasNoClash (drawn_commands logs)
    none_clash c d e f = (λ i. no_same c d e f i || (no_below c d e f i || no_below d c f e i))

  -- where no two clash nothing is listed
  module _ (apart : HasNoClash (drawn_commands logs)) where
    neither : (a b c : Bool) → (a || (b || c)) ≡ false → (a ≡ false) × (b ≡ false)
    neither a b c e = grind arith

    one_at : (p : Node) (make : ℕ → ℕ → Clash) (ds : List LogCommand) → AllHave (IsDrawnAt j logs stands p) (first_of_each ds) → pairs make (logs_of (first_of_each ds)) ≡ []
    one_at p make [] all = refl
    one_at p make (d ∷ ds) all = go (filter (is_other d) (first_of_each ds)) (filtered (λ e. Unit {0}) (is_other d) (first_of_each ds) (anything (first_of_each ds))) all
      where
        anything : (es : List LogCommand) → AllHave (λ e. Unit {0}) es
        anything [] = empty
        anything (e ∷ es) = each e es tt (anything es)

        go : (es : List LogCommand) → AllHave (λ e. Unit {0} × (is_other d e ≡ true)) es → AllHave (IsDrawnAt j logs stands p) (d ∷ es) → pairs make (logs_of (d ∷ es)) ≡ []
        go [] other all = refl
        go (e ∷ es) (each _ _ h hs) (each _ _ a (each _ _ b bs)) =
            absurd (differ (same_path e.change.node d.change.node) (same_change e.change d.change) (same_path_at e.change.node d.change.node (sym b.1 ∙ a.1)) h.1 (neither (same_path e.change.node d.change.node && not (same_change e.change d.change)) (clashes_below e.change d.change) (clashes_below d.change e.change) (apart e.change d.change b.0 a.0)).0)
          where
            differ : (x y : Bool) → x ≡ true → not y ≡ true → (x && not y) ≡ false → ⊥
            differ x y e f g = grind arith

    -- a kept command, where a log is listed
    kept_one : (kept : Kept) (p : Node) (ds : List LogCommand) → AllHave (IsDrawnAt j logs stands p) ds → (logs_of (filter (λ d. is_kept kept d.change) ds) ≡ []) ⊎ ((c : Change) × (is_in (drawn_commands logs) c ≡ true) × (p ≡ c.node) × (is_kept kept c ≡ true))
    kept_one kept p ds all = go (filter (λ d. is_kept kept d.change) ds) (filtered (IsDrawnAt j logs stands p) (λ d. is_kept kept d.change) ds all)
      where
        go : (es : List LogCommand) → AllHave (λ e. IsDrawnAt j logs stands p e × (is_kept kept e.change ≡ true)) es → (logs_of es ≡ []) ⊎ ((c : Change) × (is_in (drawn_commands logs) c ≡ true) × (p ≡ c.node) × (is_kept kept c ≡ true))
        go [] all = inl refl
        go (e ∷ es) (each _ _ h hs) = inr (e.change, h.0.0, h.0.1, h.1)

    none_same : (at : Placed) → same_at j.sets at ≡ []
    none_same at = ap (λ ds. pairs (Same at.place) (logs_of ds)) (every_kept (drawn_at j.sets at.path)) ∙ one_at at.path (Same at.place) (commands_from 1 j.sets at.path) (all_drawn j logs stands at.path)

    none_under : (at child : Placed) → is_child child.path at.path ≡ true → below_at j.sets at child ≡ []
    none_under at child under = go (kept_one NoDirectory at.path (drawn_at j.sets at.path) (all_drawn j logs stands at.path)) (kept_one Something child.path (drawn_at j.sets child.path) (all_drawn j logs stands child.path))
      where
        differ : (x y z : Bool) → not x ≡ true → y ≡ true → not z ≡ true → (not x && (y && not z)) ≡ false → ⊥
        differ x y z e f g h = grind arith

        go : (logs_of (filter (λ d. is_kept NoDirectory d.change) (drawn_at j.sets at.path)) ≡ []) ⊎ ((c : Change) × (is_in (drawn_commands logs) c ≡ true) × (at.path ≡ c.node) × (is_kept NoDirectory c ≡ true)) →
            (logs_of (filter (λ d. is_kept Something d.change) (drawn_at j.sets child.path)) ≡ []) ⊎ ((c : Change) × (is_in (drawn_commands logs) c ≡ true) × (child.path ≡ c.node) × (is_kept Something c ≡ true)) → below_at j.sets at child ≡ []
        go (inl e) y = ap (λ ls. products (Below at.place child.place) ls (logs_at Something j.sets child.path)) e
        go (inr x) (inl e) = ap (products (Below at.place child.place) (logs_at NoDirectory j.sets at.path)) e ∙ no_rights (Below at.place child.place) (logs_at NoDirectory j.sets at.path)
        go (inr x) (inr y) = absurd (differ (is_dir x.0.new) (is_child y.0.node x.0.node) (is_empty y.0.new) x.3 ((λ i. is_child (sym y.2 i) (sym x.2 i)) ∙ under) y.3
            (neither (same_path x.0.node y.0.node && not (same_change x.0 y.0)) (clashes_below x.0 y.0) (clashes_below y.0 x.0) (apart x.0 y.0 x.1 y.1)).1)

    none_listed : clashes j ≡ []
    none_listed = ap (flat_map (clashes_at j)) (sym (every_passes (placed_from 0 j.nodes))) ∙ none_placed (clashes_at j) (λ at. true) 0 j.nodes (λ at e. at_none at)
      where
        at_none : (at : Placed) → clashes_at j at ≡ []
        at_none at = (λ i. none_same at i ++ none_placed (below_at j.sets at) (λ child. is_child child.path at.path) 0 j.nodes (λ child e. none_under at child e) i)

  pub listed_law : (clashes j ≡ []) ↔ HasNoClash (drawn_commands logs)
  listed_law = (none_clash, none_listed)
