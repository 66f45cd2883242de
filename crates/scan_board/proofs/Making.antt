-- A new board of a joint: its tables are those of the joint, and it is settled.
use Rattle.std.proofs.Common.{◌≡◌, ℕ, zero, suc, ◌<◌, ◌≤◌, Bool, true, false, not, refl, ap, sym, subst, ◌∙◌, arith, ◌⊎◌, inl, inr, List, [], ◌∷◌, length, map, Option, Some, None}
use Rattle.std.specs.Prelude.{◌&&◌, Vec, SomeIff, nat_eq, slice_index, unwrap_or}
use Rattle.std.specs.Global.{Global}
use Rattle.std.specs.List.{slice_get}
use Rattle.std.specs.Option.{option_map, option_and_then}
use Rattle.std.proofs.Math.ListN.{get_or-map}
use Rattle.std.proofs.lemmas.List.{length-map, get_or_past, get_or-map as get_or-map_within}
use Rattle.std.proofs.lemmas.Option.{slice_get_within}
use Rattle.sync_path.specs.Paths.{Node, parent, comes_before}
use Rattle.sync_path.proofs.CallerLemmas.{parent_before, before_asym, before_irrefl}
use Rattle.sync_command.specs.declared.values.Value.{Value}
use Rattle.sync_command.specs.Values.{kind_of}
use Rattle.sync_command.specs.Changes.{Change}
use Rattle.refluent.specs.Joints.{Joined, path_at, value_at}
use Rattle.refluent.specs.Picks.{IsParentPlace}
use Rattle.refluent.specs.declared.joint.Pick.{Pick}
use Rattle.pref_list.specs.Picks.{command_of}
use Rattle.pref_list.specs.Ranking.{set_from}
use Rattle.pref_list.specs.Numbers.{IsNodeAt, numbered, AreNumbered}
use Rattle.pref_list.proofs.CallerLemmas.{one_place, path_within, rising_at}
use Rattle.scan_board.specs.declared.board.Card.{Card}
use Rattle.scan_board.specs.declared.board.Spot.{Spot}
use Rattle.scan_board.specs.declared.board.Mark.{Mark}
use Rattle.scan_board.specs.declared.board.Mark.TheVariants.{Open, Taken, Blocked}
use Rattle.scan_board.specs.declared.building.Naming.{Naming}
use Rattle.scan_board.specs.declared.building.Families.{Families}
use Rattle.scan_board.specs.Columns.{IsColumn}
use Rattle.scan_board.specs.Linked.{option_at, through, IsLinked}
use Rattle.scan_board.specs.Named.{IsNamed}
use Rattle.scan_board.specs.Inside.{state_of}
use Rattle.scan_board.specs.Tables.{Tables, State, IsSound, IsBoard, count, numbers_of, items_or, node_of, next_of, leaves_of, starts_of, parent_of, child_of, sibling_of, first_of, mark_of, is_shut, is_bare, in_row, command_count, node_count}
use Rattle.scan_board.specs.Settling.{is_dir_kind, is_blocked_mark, keeps_dir, IsSettled}
use Rattle.scan_board.specs.Boards.{path_or, path_named, IsTableOf, IsBoardOf, IsFresh, IsNew}
use Rattle.scan_board.specs.Built.{IsKey, IsNamingOf, IsUp, IsFamiliesOf, IsCard, IsDirs, IsSpot, is_dir_of, no_spot}
use Rattle.scan_board.specs.Boards.{card_at, no_card}
use Rattle.scan_board.proofs.Counting.{count_same}
use Rattle.scan_board.proofs.Keys.{some_is, within, heads_long, index_long, keys_long, back_in, path_is, own_key, key_named}

three : (x y : ℕ) → (x < y) ⊎ ((x ≡ y) ⊎ (y < x))
three x y = grind arith

-- a board on which nothing was done is settled
new_settled : (s : State) (cards : List Card) → IsSound s.tables → IsFresh s → ((n : ℕ) → n < node_count s.tables → is_shut s n ≡ false) → ((n : ℕ) → n < node_count s.tables → is_bare s n ≡ false) → s.pile ≡ [] →
    ((i : ℕ) → node_of s.tables i ≡ (card_at cards i).node) → ((i : ℕ) → leaves_of s.tables i ≡ (card_at cards i).leaves) →
    ((n : ℕ) → n < node_count s.tables → slice_index s.dirs n ≡ count (is_dir_of cards n) (command_count s.tables)) → IsSettled s
new_settled s cards h fresh shut bare pile node leaves dirs = record {
  pile = pile;
  exact = record { blocked = (λ i l e. absurd (let z : Open ≡ Blocked = sym (fresh i l) ∙ e in cc (z))); clash = (λ i j l m e x. absurd (let z : Open ≡ Taken = sym (fresh j m) ∙ e in cc (z))) };
  dirs = (λ n l. dirs n l ∙ count_same (is_dir_of cards n) (keeps_dir s n) (command_count s.tables) (λ i a. same n i (fresh i a)));
  shut = record {
    row = (λ n i e l at y. absurd (no_shut n (subst (λ q. q < node_count s.tables) at (h.node_in i l)) e));
    parent = (λ n p l e f. absurd (no_shut n l e));
  };
  bare = record {
    row = (λ n i e l at y. absurd (no_bare n (let a : n < node_of s.tables i = h.parent_in (node_of s.tables i) n (h.node_in i l) at in let b : node_of s.tables i < node_count s.tables = h.node_in i l in omega arith) e));
    down = (λ n m e l at y. absurd (no_bare n (let a : n < m = h.parent_in m n l at in omega arith) e));
  };
}
  where
    no_shut : (n : ℕ) → n < node_count s.tables → is_shut s n ≡ true → ⊥
    no_shut n l e = let z : true ≡ false = sym e ∙ shut n l in cc (z)

    no_bare : (n : ℕ) → n < node_count s.tables → is_bare s n ≡ true → ⊥
    no_bare n l e = let z : true ≡ false = sym e ∙ bare n l in cc (z)

    and_true : (a b : Bool) → (a && b) ≡ (a && (b && true))
    and_true a true = refl
    and_true a false = refl

    same : (n i : ℕ) → mark_of s i ≡ Open → is_dir_of cards n i ≡ keeps_dir s n i
    same n i e = ap (λ (q : ℕ). nat_eq q n && is_dir_kind (card_at cards i).leaves) (sym (node i)) ∙ ap (λ k. in_row s.tables n i && is_dir_kind k) (sym (leaves i))
        ∙ and_true (in_row s.tables n i) (is_dir_kind (leaves_of s.tables i)) ∙ sym (ap (λ m. in_row s.tables n i && (is_dir_kind (leaves_of s.tables i) && not (is_blocked_mark m))) e)

-- a number in the third table is that of a pick
listed : (j : Joined) (n : Naming) → IsNamingOf j n → (log place i : ℕ) → slice_get (numbers_of n.numbers.lists.items log) place ≡ Some i → i < length n.numbers.picks.items
listed j n w zero place i e = cc (e)
listed j n w (suc l) place i e = go (slice_get n.numbers.lists.items l) refl e
  where
    low : (o : Option Pick) → slice_get n.numbers.picks.items i ≡ o → (c : Change) → option_and_then (command_of j.sets) o ≡ Some c → i < length n.numbers.picks.items
    low None f c g = cc (g)
    low (Some pick) f c g = slice_get_within n.numbers.picks.items i pick f

    go : (o : Option (Vec ℕ Global)) → slice_get n.numbers.lists.items l ≡ o → slice_get (items_or o) place ≡ Some i → i < length n.numbers.picks.items
    go None f g = cc (g)
    go (Some v) f g =
        let of = w.numbers.each l v f in
        let c = within (set_from j.sets l) place (rw (sym of.many) (slice_get_within v.items place i g)) in
        low (slice_get n.numbers.picks.items i) refl c.0 (of.each place i c.0 g c.1)

module _ (j : Joined) (n : Naming) (w : IsNamingOf j n) (f : Families) (v : IsFamiliesOf j n f) (cards : List Card) (x : IsColumn cards no_card (IsCard j n) (length n.numbers.picks.items))
    (dirs : List ℕ) (y : IsColumn dirs 0 (IsDirs cards) (length n.names.back.items)) (spots : List Spot) (z : IsColumn spots no_spot (IsSpot j n f dirs) (length n.names.back.items)) (pile : List ℕ) where
  abbrev b : Tables
  b = (state_of n.numbers cards spots pile).tables

  abbrev s : State
  s = state_of n.numbers cards spots pile

  node_is : (i : ℕ) → node_of b i ≡ (card_at cards i).node
  node_is i = get_or-map (λ (c : Card). c.node) cards i no_card

  leaves_is : (i : ℕ) → leaves_of b i ≡ (card_at cards i).leaves
  leaves_is i = get_or-map (λ (c : Card). c.leaves) cards i no_card

  count_is : command_count b ≡ length n.numbers.picks.items
  count_is = length-map cards (λ (c : Card). c.node) ∙ x.len

  names_is : node_count b ≡ length n.names.back.items
  names_is = length-map spots (λ (q : Spot). q.first) ∙ z.len

  in_picks : (i : ℕ) → i < command_count b → i < length n.numbers.picks.items
  in_picks i l = rw (sym count_is) l

  in_back : (i : ℕ) → i < node_count b → i < length n.names.back.items
  in_back i l = rw (sym names_is) l

  next_is : (i : ℕ) → i < length n.numbers.picks.items → next_of b i ≡ option_at n.rows.nexts.items i
  next_is i l = get_or-map (λ (c : Card). c.next) cards i no_card ∙ (x.at i l).next

  mark_is : (i : ℕ) → i < length n.numbers.picks.items → mark_of s i ≡ Open
  mark_is i l = get_or-map_within (λ (c : Card). c.mark) cards i no_card Blocked (rw x.len l) ∙ (x.at i l).mark

  starts_is : (i : ℕ) → i < length n.names.back.items → (u : Value) → value_at j.nodes (slice_index n.names.back.items i) ≡ Some u → starts_of b i ≡ kind_of u
  starts_is i l u e = get_or-map (λ (q : Spot). q.starts) spots i no_spot ∙ (z.at i l).starts u e

  parent_is : (i : ℕ) → i < length n.names.back.items → parent_of b i ≡ option_at f.parents.items i
  parent_is i l = get_or-map (λ (q : Spot). q.parent) spots i no_spot ∙ (z.at i l).parent

  child_is : (i : ℕ) → i < length n.names.back.items → child_of b i ≡ option_at f.kids.heads.items i
  child_is i l = get_or-map (λ (q : Spot). q.first_child) spots i no_spot ∙ (z.at i l).child

  sibling_is : (i : ℕ) → i < length n.names.back.items → sibling_of b i ≡ option_at f.kids.nexts.items i
  sibling_is i l = get_or-map (λ (q : Spot). q.next_child) spots i no_spot ∙ (z.at i l).sibling

  first_is : (i : ℕ) → i < length n.names.back.items → first_of b i ≡ unwrap_or (option_at n.rows.heads.items (slice_index n.names.back.items i)) 0
  first_is i l = get_or-map (λ (q : Spot). q.first) spots i no_spot ∙ (z.at i l).first

  -- the key of a command, and the number of its node
  record IsOwn (i : ℕ) : Type 0 where
    place : ℕ
    node : ℕ
    key : option_at n.keys.items i ≡ Some place
    low : node < length n.names.back.items
    back : slice_index n.names.back.items node ≡ place
    is : node_of b i ≡ node

  own : (i : ℕ) → i < length n.numbers.picks.items → IsOwn i
  own i l =
      let k = own_key j n w i l in
      let m = key_named j n w i k.0 l k.1 k.2 in
      record { place = k.0; node = m.0; key = k.1; low = m.2; back = m.3; is = node_is i ∙ (x.at i l).node ∙ ap (λ o. unwrap_or (through n.names.index.items o) 0) k.1 ∙ ap (λ o. unwrap_or o 0) m.1 }

  -- the key of a command is the place of its node
  key_is : (i : ℕ) → i < length n.numbers.picks.items → option_at n.keys.items i ≡ Some (slice_index n.names.back.items (node_of b i))
  key_is i l = let o = own i l in o.key ∙ ap Some (sym o.back) ∙ ap (λ q. Some (slice_index n.names.back.items q)) (sym o.is)

  same_node : (i k : ℕ) → i < length n.numbers.picks.items → k < length n.numbers.picks.items → option_at n.keys.items k ≡ option_at n.keys.items i → node_of b k ≡ node_of b i
  same_node i k li lk e = node_is k ∙ (x.at k lk).node ∙ ap (λ o. unwrap_or (through n.names.index.items o) 0) e ∙ sym ((x.at i li).node) ∙ sym (node_is i)

  -- the first command of a node
  record IsHead (i : ℕ) : Type 0 where
    head : ℕ
    at : option_at n.rows.heads.items (slice_index n.names.back.items i) ≡ Some head
    is : first_of b i ≡ head
    low : head < length n.numbers.picks.items
    key : option_at n.keys.items head ≡ Some (slice_index n.names.back.items i)

  head_of : (i : ℕ) → i < length n.names.back.items → IsHead i
  head_of i l = go (option_at n.rows.heads.items (slice_index n.names.back.items i)) refl
    where
      go : (o : Option ℕ) → option_at n.rows.heads.items (slice_index n.names.back.items i) ≡ o → IsHead i
      go None e = absurd (w.names.has_head i l e)
      go (Some p) e =
          let h = w.rows.head_at (slice_index n.names.back.items i) p (back_in j n w i l) e in
          record { head = p; at = e; is = first_is i l ∙ ap (λ o. unwrap_or o 0) e; low = rw (sym (keys_long j n w)) h.1; key = h.2 }

  head_node : (i : ℕ) → i < length n.names.back.items → node_of b (first_of b i) ≡ i
  head_node i l = let h = head_of i l in
      ap (λ q. node_of b q) h.is ∙ node_is h.head ∙ (x.at h.head h.low).node ∙ ap (λ o. unwrap_or (through n.names.index.items o) 0) h.key ∙ ap (λ o. unwrap_or o 0) (w.names.back_is i l)

  head_low : (i : ℕ) → i < length n.names.back.items → first_of b i < command_count b
  head_low i l = let h = head_of i l in rw (h.is, count_is) h.low

  -- what comes before the next one is a command
  below : (i k : ℕ) → i < length n.numbers.picks.items → k < unwrap_or (option_at n.rows.nexts.items i) (length n.keys.items) → k < length n.numbers.picks.items
  below i k l a = go (option_at n.rows.nexts.items i) refl a
    where
      go : (o : Option ℕ) → option_at n.rows.nexts.items i ≡ o → k < unwrap_or o (length n.keys.items) → k < length n.numbers.picks.items
      go None e c = rw (sym (keys_long j n w)) c
      go (Some p) e c = let h = w.rows.next_at i p (omega arith) (rw (keys_long j n w) l) e in let m : p < length n.numbers.picks.items = rw (sym (keys_long j n w)) h.0 in omega arith

  -- the parent of a node
  record HasUp (i p : ℕ) : Type 0 where
    path : Node
    up : Node
    here : path_at j.nodes (slice_index n.names.back.items i) ≡ Some path
    is : parent path ≡ Some up
    low : p < length n.names.back.items
    there : path_at j.nodes (slice_index n.names.back.items p) ≡ Some up

  up_of : (i p : ℕ) → i < length n.names.back.items → option_at f.parents.items i ≡ Some p → HasUp i p
  up_of i p l e = go (path_is j n w i l)
    where
      go : (q : Node) × (path_at j.nodes (slice_index n.names.back.items i) ≡ Some q) → HasUp i p
      go (q, here) = at (v.parents.at i l q here)
        where
          at : (o : Option ℕ) × IsParentPlace j.nodes (parent q) o × (option_at f.parents.items i ≡ through n.names.index.items o) → HasUp i p
          at (None, r, g) = absurd (let y : None ≡ Some p = sym g ∙ e in cc (y))
          at (Some a, r, g) = split (parent q) refl r
            where
              is : option_at n.names.index.items a ≡ Some p
              is = sym g ∙ e

              split : (m : Option Node) → parent q ≡ m → IsParentPlace j.nodes m (Some a) → HasUp i p
              split None k h = absurd (cc (h))
              split (Some up) k (c, same, found) =
                  let one : a ≡ c = some_is same in
                  let low : a < length n.rows.heads.items = rw (heads_long j n w) (path_within j.nodes a up (ap (path_at j.nodes) one ∙ found)) in
                  let m = w.names.index_at a p low is in
                  record { path = q; up = up; here = here; is = k; low = m.0; there = ap (path_at j.nodes) (m.1 ∙ one) ∙ found }

  parent_low : (i p : ℕ) → i < length n.names.back.items → option_at f.parents.items i ≡ Some p → p < i
  parent_low i p l e = go (three p i)
    where
      h : HasUp i p
      h = up_of i p l e

      before : comes_before h.up h.path ≡ true
      before = parent_before h.up h.path h.is

      clash : comes_before h.path h.up ≡ true → ⊥
      clash g = let q : comes_before h.up h.path ≡ false = before_asym h.path h.up g in let y : true ≡ false = sym before ∙ q in cc (y)

      go : (p < i) ⊎ ((p ≡ i) ⊎ (i < p)) → p < i
      go (inl a) = a
      go (inr (inl a)) = absurd (let same : h.up ≡ h.path = some_is (sym h.there ∙ ap (λ q. path_at j.nodes (slice_index n.names.back.items q)) a ∙ h.here) in
          let y : true ≡ false = sym before ∙ ap (λ q. comes_before q h.path) same ∙ before_irrefl h.path in cc (y))
      go (inr (inr a)) = absurd (clash (rising_at j.nodes w.joint.stands.order (slice_index n.names.back.items i) (slice_index n.names.back.items p) h.path h.up (w.names.rising i p a h.low) h.here h.there))

  parents_long : length f.parents.items ≡ node_count b
  parents_long = v.parents.len ∙ sym names_is

  in_parents : (m : ℕ) → m < node_count b → m < length f.parents.items
  in_parents m l = rw parents_long l

  of_parents : (m : ℕ) → m < length f.parents.items → m < node_count b
  of_parents m l = rw (sym parents_long) l

  parent_here : (m p : ℕ) → m < node_count b → parent_of b m ≡ Some p → option_at f.parents.items m ≡ Some p
  parent_here m p l e = sym (parent_is m (in_back m l)) ∙ e

  pub sound : IsSound b
  sound = record {
    leaves = length-map cards (λ (c : Card). c.leaves) ∙ sym (length-map cards (λ (c : Card). c.node));
    nexts = length-map cards (λ (c : Card). c.next) ∙ sym (length-map cards (λ (c : Card). c.node));
    starts = length-map spots (λ (q : Spot). q.starts) ∙ sym (length-map spots (λ (q : Spot). q.first));
    parents = length-map spots (λ (q : Spot). q.parent) ∙ sym (length-map spots (λ (q : Spot). q.first));
    children = length-map spots (λ (q : Spot). q.first_child) ∙ sym (length-map spots (λ (q : Spot). q.first));
    siblings = length-map spots (λ (q : Spot). q.next_child) ∙ sym (length-map spots (λ (q : Spot). q.first));
    number_in = (λ log place i e. rw count_is (listed j n w log place i e));
    node_in = (λ i l. let o = own i (in_picks i l) in rw (o.is, names_is) o.low);
    first_in = (λ i l. head_low i (in_back i l));
    first_at = (λ i l. head_node i (in_back i l));
    first_least = (λ i k l a e.
        let h = head_of i (in_back i l) in
        let lk : k < length n.numbers.picks.items = let m : first_of b i ≡ h.head = h.is in let q : h.head < length n.numbers.picks.items = h.low in omega arith in
        w.rows.head_least (slice_index n.names.back.items i) k (back_in j n w i (in_back i l)) (omega arith)
        (subst (λ o. k < unwrap_or o (length n.keys.items)) (sym h.at) (rw (sym h.is) a)) (key_is k lk ∙ ap (λ q. Some (slice_index n.names.back.items q)) e));
    next_in = (λ i l. subst (λ o. i < unwrap_or o (command_count b)) (sym (next_is i (in_picks i l))) (subst (λ (q : ℕ). i < unwrap_or (option_at n.rows.nexts.items i) q) (keys_long j n w ∙ sym count_is) (w.rows.next_in i (omega arith) (rw (keys_long j n w) (in_picks i l)))));
    next_at = (λ i k l e.
        let h = w.rows.next_at i k (omega arith) (rw (keys_long j n w) (in_picks i l)) (sym (next_is i (in_picks i l)) ∙ e) in
        let lk : k < length n.numbers.picks.items = rw (sym (keys_long j n w)) h.0 in
        (rw count_is lk, same_node i k (in_picks i l) lk h.1));
    next_least = (λ i k l a c e.
        let d : k < unwrap_or (option_at n.rows.nexts.items i) (length n.keys.items) = subst (λ (q : ℕ). k < unwrap_or (option_at n.rows.nexts.items i) q) (count_is ∙ sym (keys_long j n w)) (subst (λ o. k < unwrap_or o (command_count b)) (next_is i (in_picks i l)) c) in
        let lk : k < length n.numbers.picks.items = below i k (in_picks i l) d in
        w.rows.next_least i k (slice_index n.names.back.items (node_of b i)) (omega arith) (rw (keys_long j n w) (in_picks i l)) a d (key_is i (in_picks i l)) (key_is k lk ∙ ap (λ q. Some (slice_index n.names.back.items q)) e));
    parent_in = (λ i p l e. parent_low i p (in_back i l) (parent_here i p l e));
    child_at = (λ i m l e. let h = v.kids.head_at i m (in_back i l) (sym (child_is i (in_back i l)) ∙ e) in let lm : m < node_count b = of_parents m h.1 in (lm, parent_is m (in_back m lm) ∙ h.2));
    child_least = (λ i m l a e. v.kids.head_least i m (in_back i l) (omega arith)
        (subst (λ (q : ℕ). m < unwrap_or (option_at f.kids.heads.items i) q) (sym parents_long) (subst (λ o. m < unwrap_or o (node_count b)) (child_is i (in_back i l)) a)) (parent_here_any m i e));
    sibling_in = (λ m l. subst (λ o. m < unwrap_or o (node_count b)) (sym (sibling_is m (in_back m l))) (subst (λ (q : ℕ). m < unwrap_or (option_at f.kids.nexts.items m) q) parents_long (v.kids.next_in m (omega arith) (in_parents m l))));
    sibling_at = (λ m k l e. let h = v.kids.next_at m k (omega arith) (in_parents m l) (sym (sibling_is m (in_back m l)) ∙ e) in let lk : k < node_count b = of_parents k h.0 in (lk, parent_is k (in_back k lk) ∙ h.1 ∙ sym (parent_is m (in_back m l))));
    sibling_least = (λ m k p l a c e g. v.kids.next_least m k p (omega arith) (in_parents m l) a
        (subst (λ (q : ℕ). k < unwrap_or (option_at f.kids.nexts.items m) q) (sym parents_long) (subst (λ o. k < unwrap_or o (node_count b)) (sibling_is m (in_back m l)) c)) (parent_here_any m p e) (parent_here_any k p g));
  }
    where
      parent_here_any : (m p : ℕ) → parent_of b m ≡ Some p → option_at f.parents.items m ≡ Some p
      parent_here_any m p e = go (three m (length n.names.back.items))
        where
          past : length n.names.back.items ≤ m → parent_of b m ≡ Some p → ⊥
          past l e = let q : parent_of b m ≡ None = get_or-map (λ (t : Spot). t.parent) spots m no_spot ∙ ap (λ (t : Spot). t.parent) (get_or_past spots m no_spot (rw z.len l)) in let y : None ≡ Some p = sym q ∙ e in cc (y)

          go : (m < length n.names.back.items) ⊎ ((m ≡ length n.names.back.items) ⊎ (length n.names.back.items < m)) → option_at f.parents.items m ≡ Some p
          go (inl l) = sym (parent_is m l) ∙ e
          go (inr (inl l)) = absurd (past (omega arith) e)
          go (inr (inr l)) = absurd (past (omega arith) e)

  path_here : (i : ℕ) (p : Node) → path_at j.nodes (slice_index n.names.back.items i) ≡ Some p → path_named j.nodes n.names.back.items i ≡ p
  path_here i p e = ap path_or e

  above : (i p : ℕ) → i < length n.names.back.items → parent_of b i ≡ Some p → parent (path_named j.nodes n.names.back.items i) ≡ Some (path_named j.nodes n.names.back.items p)
  above i p l e = let h = up_of i p l (sym (parent_is i l) ∙ e) in ap parent (path_here i h.path h.here) ∙ h.is ∙ ap Some (sym (path_here p h.up h.there))

  root : (i p : ℕ) → i < length n.names.back.items → p < length n.names.back.items → parent (path_named j.nodes n.names.back.items i) ≡ Some (path_named j.nodes n.names.back.items p) → parent_of b i ≡ Some p
  root i p l m e = go (path_is j n w i l) (path_is j n w p m)
    where
      go : (q : Node) × (path_at j.nodes (slice_index n.names.back.items i) ≡ Some q) → (q : Node) × (path_at j.nodes (slice_index n.names.back.items p) ≡ Some q) → parent_of b i ≡ Some p
      go (q, here) (r, there) = at (v.parents.at i l q here)
        where
          is : parent q ≡ Some r
          is = ap parent (sym (path_here i q here)) ∙ e ∙ ap Some (path_here p r there)

          at : (o : Option ℕ) × IsParentPlace j.nodes (parent q) o × (option_at f.parents.items i ≡ through n.names.index.items o) → parent_of b i ≡ Some p
          at (o, found, g) = place (subst (λ m. IsParentPlace j.nodes m o) is found)
            where
              place : (a : ℕ) × (o ≡ Some a) × (path_at j.nodes a ≡ Some r) → parent_of b i ≡ Some p
              place (a, k, h) =
                  let same : a ≡ slice_index n.names.back.items p = one_place j.nodes w.joint.stands.order a (slice_index n.names.back.items p) r h there in
                  parent_is i l ∙ g ∙ ap (through n.names.index.items) k ∙ ap (option_at n.names.index.items) same ∙ w.names.back_is p m

  pub table : IsTableOf j b n.names.back.items
  table = record {
    sound = sound;
    numbers = w.numbers;
    commands = count_is;
    names = names_is;
    back_in = back_in j n w;
    rising = w.names.rising;
    node = (λ i c l e. let o = own i (in_picks i l) in let k = w.keys.at i (in_picks i l) c e in
        ap (λ q. path_at j.nodes (slice_index n.names.back.items q)) o.is ∙ ap (path_at j.nodes) (o.back ∙ some_is (sym o.key ∙ k.1)) ∙ k.2);
    leaves = (λ i c l e. leaves_is i ∙ (x.at i (in_picks i l)).leaves c e);
    starts = (λ i u l e. starts_is i l u e);
    above = above;
    root = root;
  }

  pub new_board : IsBoard s
  new_board = record {
    sound = sound;
    marks = length-map cards (λ (c : Card). c.mark) ∙ sym (length-map cards (λ (c : Card). c.node));
    dirs = length-map spots (λ (q : Spot). q.tally.dirs) ∙ sym (length-map spots (λ (q : Spot). q.first));
    shut = length-map spots (λ (q : Spot). q.tally.shut) ∙ sym (length-map spots (λ (q : Spot). q.first));
    bare = length-map spots (λ (q : Spot). q.tally.bare) ∙ sym (length-map spots (λ (q : Spot). q.first));
  }

  pub is_new : pile ≡ [] → IsNew j s
  is_new none = record {
    joint = w.joint;
    of = record { back = n.names.back.items; is = table };
    board = new_board;
    fresh = (λ i l. mark_is i (in_picks i l));
    settled = new_settled s cards sound (λ i l. mark_is i (in_picks i l))
        (λ i l. get_or-map (λ (q : Spot). q.tally.shut) spots i no_spot ∙ (z.at i (in_back i l)).shut)
        (λ i l. get_or-map (λ (q : Spot). q.tally.bare) spots i no_spot ∙ (z.at i (in_back i l)).bare)
        none node_is leaves_is
        (λ i l. get_or-map (λ (q : Spot). q.tally.dirs) spots i no_spot ∙ (z.at i (in_back i l)).dirs ∙ y.at i (in_back i l) ∙ ap (count (is_dir_of cards i)) (sym (length-map cards (λ (c : Card). c.node))));
  }

-- the node of each card is a named one
pub cards_low : (j : Joined) (n : Naming) → IsNamingOf j n → (cards : List Card) → IsColumn cards no_card (IsCard j n) (length n.numbers.picks.items) → (i : ℕ) → i < length cards → (card_at cards i).node < length n.names.back.items
cards_low j n w cards x i l =
    let low : i < length n.numbers.picks.items = rw (sym x.len) l in
    let k = own_key j n w i low in
    let m = key_named j n w i k.0 low k.1 k.2 in
    rw ((x.at i low).node ∙ ap (λ o. unwrap_or (through n.names.index.items o) 0) k.1 ∙ ap (λ o. unwrap_or o 0) m.1) m.2

-- the same, where the parts were handed on as slices
pub made : (j : Joined) (n : Naming) → IsNamingOf j n → (f : Families) → IsFamiliesOf j n f → (cards : List Card) → IsColumn cards no_card (IsCard j n) (length n.numbers.picks.items) →
    (given : List Card) (total : ℕ) (dirs : List ℕ) → given ≡ cards → total ≡ length n.names.back.items → IsColumn dirs 0 (IsDirs given) total →
    (counts : List ℕ) (spots : List Spot) → counts ≡ dirs → IsColumn spots no_spot (IsSpot j n f counts) (length n.names.back.items) → (pile : List ℕ) → pile ≡ [] → IsNew j (state_of n.numbers cards spots pile)
made j n w f v cards x given total dirs same long y counts spots all z pile none =
    is_new j n w f v cards x dirs (subst (λ (q : ℕ). IsColumn dirs 0 (IsDirs cards) q) long (subst (λ (l : List Card). IsColumn dirs 0 (IsDirs l) total) same y)) spots (subst (λ (l : List ℕ). IsColumn spots no_spot (IsSpot j n f l) (length n.names.back.items)) all z) pile none

-- a product that fits
pub product_is : (o : Option ℕ) (r n : ℕ) (P : Type 0) → o ≡ Some r → SomeIff o P n → r ≡ n
product_is None r n P e h = cc (e)
product_is (Some q) r n P e h = sym (some_is e) ∙ h.1
