-- The board of a joint is of the drawn commands of each common tree.
use Rattle.std.proofs.Common.{◌≡◌, ℕ, zero, suc, ◌<◌, true, false, ◌||◌, refl, ap, sym, subst, ◌∙◌, arith, ◌⊎◌, inl, inr, List, [], ◌∷◌, length, Option, Some, None}
use Rattle.std.specs.Prelude.{Bool, Vec, slice_index}
use Rattle.std.specs.Global.{Global}
use Rattle.std.specs.List.{slice_get}
use Rattle.std.specs.Option.{option_map, option_and_then}
use Rattle.std.proofs.lemmas.Option.{slice_get_cases, slice_get_within}
use Rattle.sync_path.specs.Paths.{Node, parent}
use Rattle.sync_command.specs.declared.values.Value.{Value}
use Rattle.sync_command.specs.declared.commands.Row.{Row}
use Rattle.sync_command.specs.Values.{kind_of}
use Rattle.sync_command.specs.Changes.{Change}
use Rattle.sync_command.specs.Maps.{Store, at}
use Rattle.refluent.specs.Sets.{is_in, without_repeats}
use Rattle.refluent.specs.CommonTrees.{IsCommonTree, least_common_tree}
use Rattle.refluent.specs.Drawn.{drawn_commands, drawn_of, in_turn}
use Rattle.refluent.specs.Joints.{Joined, StandsForAll, path_at, value_at}
use Rattle.refluent.specs.declared.joint.Pick.{Pick}
use Rattle.refluent.proofs.CallerLemmas.{IsDrawn, at_from_in, drawn_is, drawn_known, common_holding, is_in-append, is_in-without_repeats, least_law, node_is}
use Rattle.pref_list.specs.Picks.{command_of}
use Rattle.pref_list.specs.Ranking.{set_from, set_of}
use Rattle.pref_list.specs.Numbers.{numbered}
use Rattle.pref_list.proofs.CallerLemmas.{in_from_place, place_from_in, one_place, from_log}
use Rattle.scan_board.specs.Tables.{Tables, number_at, numbers_of, items_or, node_of, leaves_of, starts_of, parent_of, first_of, command_count, node_count}
use Rattle.scan_board.specs.Boards.{path_or, command_or, command_numbered, path_named, IsTableOf, IsBoardOf}
use Rattle.merge_core.proofs.DrawnBoards.{IsOf}

some_is : {X : Type 0} → {x y : X} → Some x ≡ Some y → x ≡ y
some_is e = cc

or_cases : (a b : Bool) → (a || b) ≡ true → (a ≡ true) ⊎ (b ≡ true)
or_cases true b e = inl refl
or_cases false b e = inr e

-- an element within a list
within : {X : Type 0} → (xs : List X) (i : ℕ) → i < length xs → (x : X) × (slice_get xs i ≡ Some x)
within [] i l = absurd (omega arith)
within (x ∷ xs) zero l = (x, refl)
within (x ∷ xs) (suc i) l = within xs i (omega arith)

-- a command in turn is one of a set
set_with : (sets : List (List Change)) (c : Change) → is_in (in_turn sets) c ≡ true → (k : ℕ) × (is_in (set_from sets k) c ≡ true)
set_with [] c e = cc (e)
set_with (set ∷ sets) c e = go (or_cases (is_in set c) (is_in (in_turn sets) c) (sym (is_in-append set (in_turn sets) c) ∙ e)) (set_with sets c)
  where
    later : (k : ℕ) × (is_in (set_from sets k) c ≡ true) → (k : ℕ) × (is_in (set_from (set ∷ sets) k) c ≡ true)
    later (k, f) = (suc k, f)

    go : (is_in set c ≡ true) ⊎ (is_in (in_turn sets) c ≡ true) → (is_in (in_turn sets) c ≡ true → (k : ℕ) × (is_in (set_from sets k) c ≡ true)) → (k : ℕ) × (is_in (set_from (set ∷ sets) k) c ≡ true)
    go (inl f) ih = (zero, f)
    go (inr f) ih = later (ih f)

set_low : (sets : List (List Change)) (k i : ℕ) (c : Change) → slice_get (set_from sets k) i ≡ Some c → k < length sets
set_low [] k i c e = cc (e)
set_low (set ∷ sets) zero i c e = omega arith
set_low (set ∷ sets) (suc k) i c e = let h : k < length sets = set_low sets k i c e in omega arith

three : (x y : ℕ) → (x < y) ⊎ ((x ≡ y) ⊎ (y < x))
three x y = grind arith

-- the number of a drawn command, at a place of a log's net set
pub record HasNumber (j : Joined) (b : Tables) (log place : ℕ) (c : Change) : Type 0 where
  pub number : ℕ
  pub at : number_at b log place ≡ Some number
  pub is : numbered j.sets b.numbers.picks.items number ≡ Some c

module _ (j : Joined) (b : Tables) (back : List ℕ) (h : IsTableOf j b back) where
  -- each number has its command
  pub command_is : (i : ℕ) → i < command_count b → (c : Change) × (numbered j.sets b.numbers.picks.items i ≡ Some c)
  command_is i l = go (within b.numbers.picks.items i (rw (sym h.commands) l))
    where
      go : (pick : Pick) × (slice_get b.numbers.picks.items i ≡ Some pick) → (c : Change) × (numbered j.sets b.numbers.picks.items i ≡ Some c)
      go (pick, e) = let m = h.numbers.least i pick e in (m.0, ap (option_and_then (command_of j.sets)) e ∙ m.1)

  pub number_low : (i : ℕ) (c : Change) → numbered j.sets b.numbers.picks.items i ≡ Some c → i < command_count b
  number_low i c e = go (slice_get b.numbers.picks.items i) refl e
    where
      go : (o : Option Pick) → slice_get b.numbers.picks.items i ≡ o → option_and_then (command_of j.sets) o ≡ Some c → i < command_count b
      go None f g = cc (g)
      go (Some pick) f g = rw h.commands (slice_get_within b.numbers.picks.items i pick f)

  pub has_number : (log place : ℕ) (c : Change) → slice_get (set_of j.sets log) place ≡ Some c → HasNumber j b log place c
  has_number zero place c e = cc (e)
  has_number (suc l) place c e = go (within b.numbers.lists.items l (rw h.numbers.many (set_low j.sets l place c e)))
    where
      go : (v : Vec ℕ Global) × (slice_get b.numbers.lists.items l ≡ Some v) → HasNumber j b (suc l) place c
      go (v, f) = at (within v.items place (rw (h.numbers.each l v f).many (slice_get_within (set_from j.sets l) place c e)))
        where
          at : (m : ℕ) × (slice_get v.items place ≡ Some m) → HasNumber j b (suc l) place c
          at (m, g) = record { number = m; at = ap (λ o. slice_get (items_or o) place) f ∙ g; is = (h.numbers.each l v f).each place m c g e }

  -- the command of a number is drawn, and each drawn command has a number
  pub number_drawn : (i : ℕ) (c : Change) → numbered j.sets b.numbers.picks.items i ≡ Some c → is_in (drawn_of j.sets) c ≡ true
  number_drawn i c e = go (slice_get b.numbers.picks.items i) e
    where
      go : (o : Option Pick) → option_and_then (command_of j.sets) o ≡ Some c → is_in (drawn_of j.sets) c ≡ true
      go None f = cc (f)
      go (Some pick) f = is_in-without_repeats (in_turn j.sets) c ∙ from_log j.sets pick.log c (in_from_place (set_of j.sets pick.log) pick.place c f)

  drawn_number : (c : Change) → is_in (drawn_of j.sets) c ≡ true → (i : ℕ) × (numbered j.sets b.numbers.picks.items i ≡ Some c)
  drawn_number c e = go (set_with j.sets c (sym (is_in-without_repeats (in_turn j.sets) c) ∙ e))
    where
      go : (k : ℕ) × (is_in (set_from j.sets k) c ≡ true) → (i : ℕ) × (numbered j.sets b.numbers.picks.items i ≡ Some c)
      go (k, f) = let p = place_from_in (set_from j.sets k) c f in let n = has_number (suc k) p.0 c p.1 in (n.number, n.is)

  pub numbered_is : (i : ℕ) (c : Change) → numbered j.sets b.numbers.picks.items i ≡ Some c → command_numbered j.sets b i ≡ c
  numbered_is i c e = ap command_or e

  pub own_number : (i : ℕ) → i < command_count b → numbered j.sets b.numbers.picks.items i ≡ Some (command_numbered j.sets b i)
  own_number i l = let m = command_is i l in m.1 ∙ ap Some (sym (numbered_is i m.0 m.1))

  pub number_once : (i k : ℕ) → i < command_count b → k < command_count b → command_numbered j.sets b i ≡ command_numbered j.sets b k → i ≡ k
  number_once i k li lk e = h.numbers.different i k (command_numbered j.sets b i) (own_number i li) (own_number k lk ∙ ap Some (sym e))

  in_back : (n : ℕ) → n < node_count b → n < length back
  in_back n l = rw (sym h.names) l

  -- the row of a named node
  row_of : (n : ℕ) → n < node_count b → (row : Row) × (slice_get j.nodes (slice_index back n) ≡ Some row)
  row_of n l = within j.nodes (slice_index back n) (h.back_in n (in_back n l))

  module _ (logs : List (List Change)) (m : Store) (stands : StandsForAll j logs) (common : IsCommonTree m logs) where
    known : (c : Change) → is_in (drawn_commands logs) c ≡ true → IsDrawn (at m) (drawn_commands logs) c
    known = drawn_known (at m) logs (common_holding logs stands.change m common)

    drawn_same : (c : Change) → is_in (drawn_of j.sets) c ≡ is_in (drawn_commands logs) c
    drawn_same c = ap (λ l. is_in l c) (drawn_is j logs stands)

    -- each common tree holds the old value of a drawn command
    held : (u : Store) → IsCommonTree u logs → (c : Change) → is_in (drawn_commands logs) c ≡ true → at u c.node ≡ c.old
    held u other c e = let k = drawn_known (at u) logs (common_holding logs stands.change u other) c e in k.fits.olds c.node c (at_from_in k.set k.fits.one c k.there)

    start : (n : ℕ) → n < node_count b → starts_of b n ≡ kind_of (at m (path_named j.nodes back n))
    start n l = go (row_of n l)
      where
        go : (row : Row) × (slice_get j.nodes (slice_index back n) ≡ Some row) → starts_of b n ≡ kind_of (at m (path_named j.nodes back n))
        go (row, e) =
            let i = first_of b n in
            let c = command_numbered j.sets b (first_of b n) in
            let path_is : path_named j.nodes back n ≡ row.path = ap path_or (ap (option_map (λ r. r.path)) e) in
            let named : path_at j.nodes (slice_index back n) ≡ Some c.node = subst (λ q. path_at j.nodes (slice_index back q) ≡ Some c.node) (h.sound.first_at n l) (h.node i c (h.sound.first_in n l) (own_number i (h.sound.first_in n l))) in
            let node_is_c : row.path ≡ c.node = some_is (sym (ap (option_map (λ r. r.path)) e) ∙ named) in
            let there : is_in (drawn_commands logs) c ≡ true = sym (drawn_same c) ∙ number_drawn i c (own_number i (h.sound.first_in n l)) in
            let least = least_law logs stands.change stands.common in
            let value : row.value ≡ c.old = (node_is j logs stands (slice_index back n) row e).1 ∙ ap (λ f. f row.path) (sym least.1) ∙ ap (at least.0) node_is_c ∙ held least.0 least.2 c there in
            h.starts n row.value (in_back n l) (ap (option_map (λ r. r.value)) e) ∙ ap kind_of (value ∙ sym (held m common c there) ∙ ap (at m) (sym (path_is ∙ node_is_c)))

    apart : (n k : ℕ) → n < node_count b → k < node_count b → path_named j.nodes back n ≡ path_named j.nodes back k → n ≡ k
    apart n k ln lk e = go (row_of n ln) (row_of k lk)
      where
        one : (p : Node) → path_at j.nodes (slice_index back n) ≡ Some p → path_at j.nodes (slice_index back k) ≡ Some p → n ≡ k
        one p f g = pick (three n k)
          where
            same : slice_index back n ≡ slice_index back k
            same = one_place j.nodes stands.order (slice_index back n) (slice_index back k) p f g

            pick : (n < k) ⊎ ((n ≡ k) ⊎ (k < n)) → n ≡ k
            pick (inl a) = absurd (let z : slice_index back n < slice_index back k = h.rising n k a (in_back k lk) in omega (arith, same))
            pick (inr (inl a)) = a
            pick (inr (inr a)) = absurd (let z : slice_index back k < slice_index back n = h.rising k n a (in_back n ln) in omega (arith, same))

        go : (row : Row) × (slice_get j.nodes (slice_index back n) ≡ Some row) → (row : Row) × (slice_get j.nodes (slice_index back k) ≡ Some row) → n ≡ k
        go (r, f) (s, g) =
            let a : path_at j.nodes (slice_index back n) ≡ Some r.path = ap (option_map (λ r. r.path)) f in
            let d : path_at j.nodes (slice_index back k) ≡ Some s.path = ap (option_map (λ r. r.path)) g in
            one r.path a (d ∙ ap Some (sym (ap path_or d) ∙ sym e ∙ ap path_or a))

    pub board_is_of : IsOf (at m) (drawn_commands logs) (command_numbered j.sets b) (path_named j.nodes back) b
    board_is_of = record {
      tree = common.tree.tree;
      known = known;
      here = (λ i l. sym (drawn_same (command_numbered j.sets b i)) ∙ number_drawn i (command_numbered j.sets b i) (own_number i l));
      all = (λ c e. let n = drawn_number c (drawn_same c ∙ e) in (n.0, number_low n.0 c n.1, numbered_is n.0 c n.1));
      once = number_once;
      node = (λ i l. sym (ap path_or (h.node i (command_numbered j.sets b i) l (own_number i l))));
      leaves = (λ i l. h.leaves i (command_numbered j.sets b i) l (own_number i l));
      starts = start;
      above = (λ n p l e. h.above n p (in_back n l) e);
      root = (λ n p l k e. h.root n p (in_back n l) (in_back p k) e);
      apart = apart;
    }
