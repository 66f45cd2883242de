-- The places of the nodes of the drawn commands, and the numbers of those nodes.
use Rattle.std.proofs.Common.{◌≡◌, ℕ, zero, suc, ◌<◌, refl, ap, sym, subst, ◌+◌, ◌∙◌, arith, ◌⊎◌, inl, inr, List, [], ◌∷◌, ◌++◌, length, slice_index_or, false, Option, Some, None}
use Rattle.std.specs.Prelude.{unwrap_or, slice_index, if◌then◌else◌}
use Rattle.std.specs.List.{slice_get}
use Rattle.std.specs.Option.{option_map, option_and_then}
use Rattle.std.proofs.lemmas.Option.{slice_get_within, slice_get-get_or}
use Rattle.sync_path.specs.Paths.{Node, parent}
use Rattle.sync_path.proofs.CallerLemmas.{parent_before, before_asym, before_irrefl}
use Rattle.sync_command.specs.Changes.{Change}
use Rattle.sync_command.specs.declared.commands.Row.{Row}
use Rattle.refluent.specs.declared.joint.Pick.{Pick}
use Rattle.refluent.specs.Joints.{Joined, path_at, value_at}
use Rattle.refluent.specs.Picks.{IsParentPlace}
use Rattle.pref_list.specs.Picks.{command_of}
use Rattle.pref_list.specs.Numbers.{IsNodeAt, IsPick, numbered, AreLeast}
use Rattle.pref_list.proofs.CallerLemmas.{pick_is, path_within}
use Rattle.scan_board.specs.Columns.{IsColumn}
use Rattle.scan_board.specs.Linked.{IsOptionWithin, option_at, through, IsLinked}
use Rattle.scan_board.specs.Named.{IsNamed}
use Rattle.sync_command.specs.Values.{kind_of}
use Rattle.scan_board.specs.declared.board.Card.{Card}
use Rattle.scan_board.specs.declared.board.Mark.TheVariants.{Open}
use Rattle.scan_board.specs.Built.{IsKey, IsNamingOf, IsUp, IsCard, IsSpot, no_spot}
use Rattle.scan_board.specs.Boards.{no_card}
use Rattle.scan_board.specs.declared.board.Spot.{Spot}
use Rattle.scan_board.specs.declared.building.Families.{Families}
use Rattle.sync_command.specs.declared.values.Value.{Value}
use Rattle.scan_board.proofs.Pushing.{column_next}
use Rattle.scan_board.specs.declared.building.Naming.{Naming}

pub some_is : {X : Type 0} → {x y : X} → Some x ≡ Some y → x ≡ y
some_is e = cc

pub within : {X : Type 0} → (xs : List X) (i : ℕ) → i < length xs → (x : X) × (slice_get xs i ≡ Some x)
within [] i l = absurd (omega arith)
within (x ∷ xs) zero l = (x, refl)
within (x ∷ xs) (suc i) l = within xs i (omega arith)

-- the command of each number
pub command_is : (sets : List (List Change)) (picks : List Pick) → AreLeast sets picks → (i : ℕ) → i < length picks → (c : Change) × (numbered sets picks i ≡ Some c)
command_is sets picks least i l = let w = within picks i l in let m = least i w.0 w.1 in (m.0, ap (option_and_then (command_of sets)) w.1 ∙ m.1)

pub pick_is_one : (sets : List (List Change)) (picks : List Pick) → AreLeast sets picks → (i : ℕ) (pick : Pick) → slice_get picks i ≡ Some pick → IsPick sets pick
pick_is_one sets picks least i pick e = let m = least i pick e in pick_is sets pick m.0 m.1

-- the key of a number is within the nodes
pub key_at : (j : Joined) (picks : List Pick) (keys : List (Option ℕ)) → AreLeast j.sets picks → IsColumn keys None (IsKey j picks) (length picks) → (i : ℕ) → i < length picks → (q : ℕ) × (option_at keys i ≡ Some q) × (q < length j.nodes)
key_at j picks keys least w i l = let c = command_is j.sets picks least i l in let k = w.at i l c.0 c.1 in (k.0, k.1, path_within j.nodes k.0 c.0.node k.2)

pub option_within : (o : Option ℕ) (q n : ℕ) → o ≡ Some q → q < n → IsOptionWithin o n
option_within o q n e l = subst (λ x. IsOptionWithin x n) (sym e) l

pub keys_within : (j : Joined) (picks : List Pick) (keys : List (Option ℕ)) → AreLeast j.sets picks → IsColumn keys None (IsKey j picks) (length picks) → (i : ℕ) → i < length keys → IsOptionWithin (option_at keys i) (length j.nodes)
keys_within j picks keys least w i l = let k = key_at j picks keys least w i (rw (sym w.len) l) in option_within (option_at keys i) k.0 (length j.nodes) k.1 k.2

-- the parent's place is within the nodes
pub parent_within : (rows : List Row) (up : Option Node) (o : Option ℕ) → IsParentPlace rows up o → IsOptionWithin o (length rows)
parent_within rows None o e = subst (λ x. IsOptionWithin x (length rows)) (sym e) tt
parent_within rows (Some q) o (i, e, at) = subst (λ x. IsOptionWithin x (length rows)) (sym e) (path_within rows i q at)

module _ (j : Joined) (n : Naming) (w : IsNamingOf j n) where
  pub heads_long : length n.rows.heads.items ≡ length j.nodes
  heads_long = w.rows.heads_len

  pub index_long : length n.names.index.items ≡ length j.nodes
  index_long = w.names.len ∙ w.rows.heads_len

  pub keys_long : length n.keys.items ≡ length n.numbers.picks.items
  keys_long = w.keys.len

  pub back_in : (i : ℕ) → i < length n.names.back.items → slice_index n.names.back.items i < length j.nodes
  back_in i l = rw (sym w.rows.heads_len) (w.names.back_in i l)

  pub path_is : (i : ℕ) → i < length n.names.back.items → (p : Node) × (path_at j.nodes (slice_index n.names.back.items i) ≡ Some p)
  path_is i l = let r = within j.nodes (slice_index n.names.back.items i) (back_in i l) in (r.0.path, ap (option_map (λ r. r.path)) r.1)

  pub own_key : (i : ℕ) → i < length n.numbers.picks.items → (q : ℕ) × (option_at n.keys.items i ≡ Some q) × (q < length j.nodes)
  own_key i l = key_at j n.numbers.picks.items n.keys.items w.numbers.least w.keys i l

  -- the node of a command is named
  pub key_named : (i q : ℕ) → i < length n.numbers.picks.items → option_at n.keys.items i ≡ Some q → q < length j.nodes → (m : ℕ) × (option_at n.names.index.items q ≡ Some m) × (m < length n.names.back.items) × (slice_index n.names.back.items m ≡ q)
  key_named i q l e lq = go (option_at n.names.index.items q) refl
    where
      Out : Type 0
      Out = (m : ℕ) × (option_at n.names.index.items q ≡ Some m) × (m < length n.names.back.items) × (slice_index n.names.back.items m ≡ q)

      low : q < length n.rows.heads.items
      low = rw heads_long lq

      none : option_at n.names.index.items q ≡ None → (o : Option ℕ) → option_at n.rows.heads.items q ≡ o → ⊥
      none f None g = w.rows.head_least q i lq (omega arith) (subst (λ o. i < unwrap_or o (length n.keys.items)) (sym g) (rw keys_long l)) e
      none f (Some p) g = w.names.named q p low g f

      go : (o : Option ℕ) → option_at n.names.index.items q ≡ o → Out
      go None f = absurd (none f (option_at n.rows.heads.items q) refl)
      go (Some m) f = let x = w.names.index_at q m low f in (m, f, x.0, x.1)

-- ---- one more of a column

pub key_next : (j : Joined) (picks : List Pick) (keys all : List (Option ℕ)) (k node : ℕ) (pick : Pick) → IsColumn keys None (IsKey j picks) k → slice_get picks k ≡ Some pick →
    ((c : Change) → command_of j.sets pick ≡ Some c → IsNodeAt j.nodes node c.node) → all ≡ keys ++ Some node ∷ [] → IsColumn all None (IsKey j picks) (k + 1)
key_next j picks keys all k node pick w at is e = subst (λ (x : List (Option ℕ)). IsColumn x None (IsKey j picks) (k + 1)) (sym e)
    (column_next keys (Some node) None (IsKey j picks) k w (λ c f. (node, refl, is c (sym (ap (option_and_then (command_of j.sets)) at) ∙ f))))

pub up_next : (j : Joined) (n : Naming) (parents all : List (Option ℕ)) (k place : ℕ) (o result : Option ℕ) → IsColumn parents None (IsUp j n) k → place ≡ slice_index n.names.back.items k →
    ((p : Node) → path_at j.nodes place ≡ Some p → IsParentPlace j.nodes (parent p) o) → result ≡ through n.names.index.items o → all ≡ parents ++ result ∷ [] → IsColumn all None (IsUp j n) (k + 1)
up_next j n parents all k place o result w here is r e = subst (λ (x : List (Option ℕ)). IsColumn x None (IsUp j n) (k + 1)) (sym e)
    (column_next parents result None (IsUp j n) k w (λ p f. (o, is p (ap (path_at j.nodes) here ∙ f), r)))

pub card_next : (j : Joined) (n : Naming) (cards all : List Card) (k : ℕ) (pick : Pick) (command : Change) (card : Card) (key node next : Option ℕ) → IsColumn cards no_card (IsCard j n) k → slice_get n.numbers.picks.items k ≡ Some pick → command_of j.sets pick ≡ Some command →
    card.node ≡ unwrap_or node 0 → node ≡ through n.names.index.items key → key ≡ option_at n.keys.items k → card.leaves ≡ kind_of command.new → card.next ≡ next → next ≡ option_at n.rows.nexts.items k → card.mark ≡ Open → all ≡ cards ++ card ∷ [] → IsColumn all no_card (IsCard j n) (k + 1)
card_next j n cards all k pick command card key node next w at of cn nn kn leaves cx nx mark e = subst (λ (x : List Card). IsColumn x no_card (IsCard j n) (k + 1)) (sym e)
    (column_next cards card no_card (IsCard j n) k w (record {
      node = cn ∙ ap (λ o. unwrap_or o 0) nn ∙ ap (λ o. unwrap_or (through n.names.index.items o) 0) kn;
      leaves = (λ c f. leaves ∙ ap (λ (d : Change). kind_of d.new) (some_is (sym of ∙ sym (ap (option_and_then (command_of j.sets)) at) ∙ f)));
      next = cx ∙ nx;
      mark = mark;
    }))

-- an element that was read within a list is the same, whatever stands past the end
pub read : {X : Type 0} → (xs : List X) (i : ℕ) (a d : X) → i < length xs → a ≡ slice_index_or xs i a → a ≡ slice_index_or xs i d
read {X = X} xs i a d l e = e ∙ same xs i l
  where
    same : (xs : List X) (i : ℕ) → i < length xs → slice_index_or xs i a ≡ slice_index_or xs i d
    same [] i l = absurd (omega arith)
    same (x ∷ xs) zero l = refl
    same (x ∷ xs) (suc i) l = same xs i (omega arith)

-- the parents are within the named nodes
pub parents_within : (j : Joined) (n : Naming) (w : IsNamingOf j n) (parents : List (Option ℕ)) → IsColumn parents None (IsUp j n) (length n.names.back.items) → (i : ℕ) → i < length parents → IsOptionWithin (option_at parents i) (length n.names.back.items)
parents_within j n w parents v i l = go (path_is j n w i (rw (sym v.len) l))
  where
    go : (p : Node) × (path_at j.nodes (slice_index n.names.back.items i) ≡ Some p) → IsOptionWithin (option_at parents i) (length n.names.back.items)
    go (p, here) = at (v.at i (rw (sym v.len) l) p here)
      where
        at : (q : Option ℕ) × IsParentPlace j.nodes (parent p) q × (option_at parents i ≡ through n.names.index.items q) → IsOptionWithin (option_at parents i) (length n.names.back.items)
        at (None, r, g) = subst (λ x. IsOptionWithin x (length n.names.back.items)) (sym g) tt
        at (Some a, r, g) = subst (λ x. IsOptionWithin x (length n.names.back.items)) (sym g) (named (option_at n.names.index.items a) refl)
          where
            named : (o : Option ℕ) → option_at n.names.index.items a ≡ o → IsOptionWithin o (length n.names.back.items)
            named None f = tt
            named (Some m) f = (w.names.index_at a m (rw heads_long_here (parent_within j.nodes (parent p) (Some a) r)) f).0
              where
                heads_long_here : length n.rows.heads.items ≡ length j.nodes
                heads_long_here = heads_long j n w

pub spot_next : (j : Joined) (n : Naming) (f : Families) (counts : List ℕ) (spots all : List Spot) (k : ℕ) (spot : Spot) (value : Value) → IsColumn spots no_spot (IsSpot j n f counts) k → value_at j.nodes (slice_index n.names.back.items k) ≡ Some value →
    spot.starts ≡ kind_of value → spot.parent ≡ option_at f.parents.items k → spot.first_child ≡ option_at f.kids.heads.items k → spot.next_child ≡ option_at f.kids.nexts.items k →
    spot.first ≡ unwrap_or (option_at n.rows.heads.items (slice_index n.names.back.items k)) 0 → spot.tally.dirs ≡ slice_index counts k → spot.tally.shut ≡ false → spot.tally.bare ≡ false → all ≡ spots ++ spot ∷ [] → IsColumn all no_spot (IsSpot j n f counts) (k + 1)
spot_next j n f counts spots all k spot value w is starts parent child sibling first dirs shut bare e = subst (λ (x : List Spot). IsColumn x no_spot (IsSpot j n f counts) (k + 1)) (sym e)
    (column_next spots spot no_spot (IsSpot j n f counts) k w (record {
      starts = (λ v g. starts ∙ ap kind_of (some_is (sym is ∙ g)));
      parent = parent;
      child = child;
      sibling = sibling;
      first = first;
      dirs = dirs;
      shut = shut;
      bare = bare;
    }))
