-- What is taken on a scanned board is the first merger.
use Rattle.std.proofs.Common.{◌≡◌, ℕ, ◌<◌, ◌≤◌, true, false, ◌||◌, refl, ap, sym, subst, ◌∙◌, arith, ◌⊎◌, inl, inr, List, [], ◌∷◌, length, zero, suc, Bool, Option, Some, None}
use Rattle.std.specs.Prelude.{if◌then◌else◌, Result, Ok, Err, IfOk}
use Rattle.sync_path.specs.declared.faults.NoMemory.{NoMemory}
use Rattle.std.specs.List.{slice_get}
use Rattle.std.proofs.lemmas.Option.{slice_get_within}
use Rattle.sync_path.specs.Paths.{Node}
use Rattle.sync_command.specs.Changes.{Change, same_change}
use Rattle.sync_command.specs.Trees.{Holding, command_at, one_each}
use Rattle.sync_command.specs.Maps.{Store, at}
use Rattle.sync_command.proofs.CallerLemmas.{command_at-node}
use Rattle.canon_set.specs.Sets.{IsFitting, canonical}
use Rattle.refluent.specs.Sets.{is_in}
use Rattle.refluent.specs.CommonTrees.{IsCommonTree}
use Rattle.refluent.specs.Drawn.{drawn_commands, drawn_of}
use Rattle.refluent.specs.Joints.{Joined, IsJoint, StandsForAll}
use Rattle.refluent.proofs.CallerLemmas.{at_from_in, in_from_at, same_change_is}
use Rattle.pref_list.specs.declared.rules.Rule.{Rule}
use Rattle.pref_list.specs.Ranking.{ranking}
use Rattle.scan_board.specs.declared.board.Mark.TheVariants.{Taken, Blocked}
use Rattle.scan_board.specs.Tables.{Tables, State, mark_of, command_count}
use Rattle.scan_board.specs.Boards.{command_numbered, path_named, IsBoardOf, taken_list, taken_commands}
use Rattle.merge_core.specs.FirstMergers.{IsFirstMerger, IsFirstMergerOf}
use Rattle.merge_core.specs.Boards.{IsMarked, IsScannedOf}
use Rattle.merge_core.specs.Taken.{IsSameSet}
use Rattle.merge_core.proofs.DrawnBoards.{IsOf}
use Rattle.merge_core.proofs.Beside.{lone, in_taken, from_taken}
use Rattle.merge_core.proofs.JointBoards.{board_is_of, own_number, number_drawn, number_once}
use Rattle.merge_core.proofs.Merged.{first_same, same_canonical}
use Rattle.merge_core.proofs.RankedNumbers.{few}

some_is : {X : Type 0} → {x y : X} → Some x ≡ Some y → x ≡ y
some_is e = cc

module _ (t : Holding) (drawn ranks : List Change) (cmd : ℕ → Change) (path : ℕ → Node) (s : State) (h : IsOf t drawn cmd path s.tables) (ms : List Change) (first : IsFirstMerger t drawn ranks ms) (marked : IsMarked cmd s ms) where
  -- what is Taken is in the merger, and the other way round
  in_merger : (i : ℕ) → i < command_count s.tables → mark_of s i ≡ Taken → is_in ms (cmd i) ≡ true
  in_merger i l e = go (marked i l)
    where
      go : ((mark_of s i ≡ Taken) × (is_in ms (cmd i) ≡ true)) ⊎ ((mark_of s i ≡ Blocked) × (is_in ms (cmd i) ≡ false)) → is_in ms (cmd i) ≡ true
      go (inl x) = x.1
      go (inr x) = absurd (let z : Taken ≡ Blocked = sym e ∙ x.0 in cc (z))

  is_taken : (i : ℕ) → i < command_count s.tables → is_in ms (cmd i) ≡ true → mark_of s i ≡ Taken
  is_taken i l e = go (marked i l)
    where
      go : ((mark_of s i ≡ Taken) × (is_in ms (cmd i) ≡ true)) ⊎ ((mark_of s i ≡ Blocked) × (is_in ms (cmd i) ≡ false)) → mark_of s i ≡ Taken
      go (inl x) = x.0
      go (inr x) = absurd (let z : true ≡ false = sym e ∙ x.1 in cc (z))

  one : one_each (taken_list cmd s (command_count s.tables)) ≡ true
  one = lone cmd s (command_count s.tables) (λ i k li lk a b e. h.once i k li lk (some_is (sym (at_from_in ms first.merger.fits.one (cmd i) (in_merger i li a)) ∙ ap (command_at ms) e ∙ at_from_in ms first.merger.fits.one (cmd k) (in_merger k lk b))))

  from_list : (c : Change) → is_in (taken_list cmd s (command_count s.tables)) c ≡ true → is_in ms c ≡ true
  from_list c e = go (from_taken cmd s (command_count s.tables) c e)
    where
      go : (j : ℕ) × (j < command_count s.tables) × (mark_of s j ≡ Taken) × (cmd j ≡ c) → is_in ms c ≡ true
      go (i, l, m, is) = subst (λ x. is_in ms x ≡ true) is (in_merger i l m)

  to_list : (c : Change) → is_in ms c ≡ true → is_in (taken_list cmd s (command_count s.tables)) c ≡ true
  to_list c e = go (h.all c (first.merger.within c e))
    where
      go : (i : ℕ) × (i < command_count s.tables) × (cmd i ≡ c) → is_in (taken_list cmd s (command_count s.tables)) c ≡ true
      go (i, l, is) = subst (λ x. is_in (taken_list cmd s (command_count s.tables)) x ≡ true) is (in_taken cmd s (command_count s.tables) i l (is_taken i l (subst (λ x. is_in ms x ≡ true) (sym is) e)))

  pub same_set : IsSameSet ms (taken_list cmd s (command_count s.tables))
  same_set = record { one = one; same = λ p. go p (command_at (taken_list cmd s (command_count s.tables)) p) refl (command_at ms p) refl }
    where
      go : (p : Node) (o : Option Change) → command_at (taken_list cmd s (command_count s.tables)) p ≡ o → (u : Option Change) → command_at ms p ≡ u → command_at (taken_list cmd s (command_count s.tables)) p ≡ command_at ms p
      go p None e None f = e ∙ sym f
      go p (Some c) e u f =
          let in_ms : is_in ms c ≡ true = from_list c (in_from_at (taken_list cmd s (command_count s.tables)) p c e) in
          let node : p ≡ c.node = command_at-node (taken_list cmd s (command_count s.tables)) p c e in
          e ∙ sym (ap (command_at ms) node ∙ at_from_in ms first.merger.fits.one c in_ms)
      go p None e (Some d) f =
          let there : is_in (taken_list cmd s (command_count s.tables)) d ≡ true = to_list d (in_from_at ms p d f) in
          let node : p ≡ d.node = command_at-node ms p d f in
          ap (command_at (taken_list cmd s (command_count s.tables))) node ∙ at_from_in (taken_list cmd s (command_count s.tables)) one d there ∙ sym f

module _ (j : Joined) (rules : List Rule) (s : State) (of : IsBoardOf j s.tables) (scanned : IsScannedOf j rules s) where
  taken_same : (logs : List (List Change)) (m : Store) → StandsForAll j logs → IsCommonTree m logs → (ms : List Change) × IsFirstMerger (at m) (drawn_commands logs) (ranking logs rules) ms × IsSameSet ms (taken_commands j.sets s)
  taken_same logs m stands common = let w = scanned logs m stands common in
      (w.0, w.1, same_set (at m) (drawn_commands logs) (ranking logs rules) (command_numbered j.sets s.tables) (path_named j.nodes of.back) s (board_is_of j s.tables of.back of.is logs m stands common) w.0 w.1 w.2)

  pub taken_one : IsJoint j → one_each (taken_commands j.sets s) ≡ true
  taken_one joint = (taken_same joint.logs joint.stands.common.map joint.stands joint.stands.common.common).2.one

  pub taken_fitting : IsJoint j → IsFitting (taken_commands j.sets s)
  taken_fitting joint = let common = joint.stands.common in let w = taken_same joint.logs common.map joint.stands common.common in record {
    map = common.map;
    tree = common.common.tree;
    fits = (first_same (at common.map) (drawn_commands joint.logs) (ranking joint.logs rules) w.0 (taken_commands j.sets s) w.2 w.1).merger.fits;
  }

  pub taken_first : (set : List Change) → set ≡ canonical (taken_commands j.sets s) → IsFirstMergerOf j rules set
  taken_first set is logs m stands common = let w = taken_same logs m stands common in
      subst (λ l. IsFirstMerger (at m) (drawn_commands logs) (ranking logs rules) l) (sym is) (first_same (at m) (drawn_commands logs) (ranking logs rules) w.0 (canonical (taken_commands j.sets s)) (same_canonical w.0 (taken_commands j.sets s) w.2) w.1)

pub first_ok : (j : Joined) (rules : List Rule) (s u : State) → IsBoardOf j s.tables → IsScannedOf j rules s → u ≡ s → (r : Result (List Change) NoMemory) →
    IfOk r (λ set. set ≡ canonical (taken_commands j.sets u)) → IfOk r (IsFirstMergerOf j rules)
first_ok j rules s u of scanned same (Ok set) h = taken_first j rules s of scanned set (h ∙ ap (λ (x : State). canonical (taken_commands j.sets x)) same)
first_ok j rules s u of scanned same (Err e) h = h

-- ---- how many commands there are

abbrev index_in : List Change → Change → ℕ
index_in [] c = 0
index_in (d ∷ ds) c = if same_change c d then 0 else suc (index_in ds c)

index_is : (ds : List Change) (c : Change) → is_in ds c ≡ true → slice_get ds (index_in ds c) ≡ Some c
index_is [] c e = cc (e)
index_is (d ∷ ds) c e = go (same_change c d) refl (index_is ds c) e
  where
    go : (b : Bool) → same_change c d ≡ b → (is_in ds c ≡ true → slice_get ds (index_in ds c) ≡ Some c) → (b || is_in ds c) ≡ true → slice_get (d ∷ ds) (if b then 0 else suc (index_in ds c)) ≡ Some c
    go true f ih e = ap Some (sym (same_change_is c d f))
    go false f ih e = ih e

pub count_drawn : (j : Joined) (b : Tables) → IsBoardOf j b → command_count b ≤ length (drawn_of j.sets)
count_drawn j b of = few (λ i. index_in (drawn_of j.sets) (command_numbered j.sets b i)) (command_count b) (length (drawn_of j.sets))
    (λ i l. slice_get_within (drawn_of j.sets) (index_in (drawn_of j.sets) (command_numbered j.sets b i)) (command_numbered j.sets b i) (here i l))
    (λ i k a l e. never i k a l e)
  where
    here : (i : ℕ) → i < command_count b → slice_get (drawn_of j.sets) (index_in (drawn_of j.sets) (command_numbered j.sets b i)) ≡ Some (command_numbered j.sets b i)
    here i l = index_is (drawn_of j.sets) (command_numbered j.sets b i) (number_drawn j b of.back of.is i (command_numbered j.sets b i) (own_number j b of.back of.is i l))

    never : (i k : ℕ) → i < k → k < command_count b → index_in (drawn_of j.sets) (command_numbered j.sets b i) ≡ index_in (drawn_of j.sets) (command_numbered j.sets b k) → ⊥
    never i k a l e =
        let same : command_numbered j.sets b i ≡ command_numbered j.sets b k = some_is (sym (here i (omega arith)) ∙ ap (slice_get (drawn_of j.sets)) e ∙ here k l) in
        let z : i ≡ k = number_once j b of.back of.is i k (omega arith) l same in omega arith
