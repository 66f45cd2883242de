-- Turns and scans of the board of a joint.
use Rattle.std.proofs.Common.{◌≡◌, ℕ, suc, ◌+◌, ◌*◌, ◌<◌, ◌≤◌, true, refl, ap, sym, subst, ◌∙◌, arith, List, [], length, Option, Some, None}
use Rattle.std.specs.Prelude.{IsTrue, is_some, slice_index}
use Rattle.std.specs.List.{slice_get}
use Rattle.std.proofs.lemmas.Option.{slice_get_within}
use Rattle.sync_command.specs.Changes.{Change}
use Rattle.sync_command.specs.Maps.{Store, at}
use Rattle.refluent.specs.CommonTrees.{IsCommonTree}
use Rattle.refluent.specs.Drawn.{drawn_commands}
use Rattle.refluent.specs.Joints.{Joined, IsJoint, StandsForAll}
use Rattle.refluent.specs.declared.joint.Pick.{Pick}
use Rattle.pref_list.specs.declared.rules.Rule.{Rule}
use Rattle.pref_list.specs.Ranking.{ranked, ranking}
use Rattle.pref_list.specs.Orders.{IsRankingOf}
use Rattle.scan_board.specs.declared.board.Mark.TheVariants.{Open, Taken, Blocked}
use Rattle.scan_board.specs.Tables.{Tables, State, number_at, mark_of, command_count, credit}
use Rattle.scan_board.specs.Settling.{IsSettled, IsMade}
use Rattle.scan_board.specs.Boards.{command_numbered, path_named, IsTableOf, IsBoardOf, IsNew}
use Rattle.merge_core.specs.FirstMergers.{IsFirstMerger}
use Rattle.merge_core.specs.Boards.{HasSet, IsTaken, IsSettledFor, IsSettledOf, IsMarked, IsScannedOf}
use Rattle.merge_core.proofs.Between.{made_of}
use Rattle.merge_core.proofs.Beside.{settled_from, settled_to}
use Rattle.merge_core.proofs.Turned.{turned}
use Rattle.merge_core.proofs.Greedily.{IsScan, scan_step, scan_ends, scan_cost}
use Rattle.merge_core.proofs.JointBoards.{board_is_of, number_low, has_number}
use Rattle.merge_core.proofs.RankedBoards.{numbers_by, numbers_long, placed, ranking_numbers, ranked_commands}

pub made_for : (j : Joined) (b : Tables) → IsJoint j → IsBoardOf j b → IsMade b
made_for j b joint of = let common = joint.stands.common in
    made_of (at common.map) (drawn_commands joint.logs) (command_numbered j.sets b) (path_named j.nodes of.back) b of.is.sound (board_is_of j b of.back of.is joint.logs common.map joint.stands common.common)

pub settled_on : (j : Joined) (s : State) → IsJoint j → IsBoardOf j s.tables → IsSettledOf j s → IsSettled s
settled_on j s joint of settled = let common = joint.stands.common in
    settled_from (at common.map) (drawn_commands joint.logs) (command_numbered j.sets s.tables) (path_named j.nodes of.back) s of.is.sound
    (board_is_of j s.tables of.back of.is joint.logs common.map joint.stands common.common) (settled joint.logs common.map joint.stands common.common)

-- the number at a place that has one
number_here : (b : Tables) (log place : ℕ) → IsTrue (is_some (number_at b log place)) → (own : ℕ) × (number_at b log place ≡ Some own)
number_here b log place e = go (number_at b log place) e
  where
    go : (o : Option ℕ) → is_some o ≡ true → (own : ℕ) × (o ≡ Some own)
    go None f = cc (f)
    go (Some i) f = (i, cc)

pub turned_for : (j : Joined) (s r : State) (log place : ℕ) → IsBoardOf j s.tables → IsTrue (is_some (number_at s.tables log place)) → r.tables ≡ s.tables → IsSettled r →
    ((own i : ℕ) → number_at s.tables log place ≡ Some own → i < command_count s.tables → (i ≡ own → ⊥) → mark_of r i ≡ Taken → mark_of s i ≡ Taken) →
    ((own : ℕ) → number_at s.tables log place ≡ Some own → (mark_of s own ≡ Open → ⊥) → r ≡ s) → IsSettledOf j s → IsSettledOf j r
turned_for j s r log place of there tables settled others stays old logs m stands common = go (number_here s.tables log place there)
  where
    go : (own : ℕ) × (number_at s.tables log place ≡ Some own) → IsSettledFor (at m) (drawn_commands logs) (command_numbered j.sets r.tables) r
    go (own, e) = subst (λ (b : Tables). IsSettledFor (at m) (drawn_commands logs) (command_numbered j.sets b) r) (sym tables)
        (turned s r own of.is.sound (subst (λ (b : Tables). IsTableOf j b of.back) (sym tables) of.is).sound (of.is.sound.number_in log place own e) tables settled (λ i. others own i e) (stays own e)
        (at m) (drawn_commands logs) (command_numbered j.sets s.tables) (path_named j.nodes of.back) (board_is_of j s.tables of.back of.is logs m stands common) (old logs m stands common))

module _ (j : Joined) (rules : List Rule) (s r u : State) (picks : List Pick) (k from to past : ℕ) (of : IsBoardOf j s.tables) (is : IsRankingOf j.sets rules picks)
    (pick : Pick) (here : slice_get picks k ≡ Some pick) (w : IsScan s r (numbers_by s.tables picks) k from to) where
  numbers_r : (own : ℕ) → number_at s.tables pick.log pick.place ≡ Some own → number_at r.tables pick.log pick.place ≡ Some own
  numbers_r own e = ap (λ (b : Tables). number_at b pick.log pick.place) w.tables ∙ e

  pub step_for : IsSettled u → u.tables ≡ r.tables →
      ((i : ℕ) → i < command_count r.tables → (mark_of r i ≡ Open → ⊥) → mark_of u i ≡ mark_of r i) →
      ((own i : ℕ) → number_at r.tables pick.log pick.place ≡ Some own → i < command_count r.tables → (i ≡ own → ⊥) → mark_of u i ≡ Taken → mark_of r i ≡ Taken) →
      ((own : ℕ) → number_at r.tables pick.log pick.place ≡ Some own → (mark_of r own ≡ Open → ⊥) → u ≡ r) →
      ((own : ℕ) → number_at r.tables pick.log pick.place ≡ Some own → mark_of r own ≡ Open → mark_of u own ≡ Taken) →
      past + credit u ≤ 2 + to + credit r → IsScan s u (numbers_by s.tables picks) (k + 1) from past
  step_for settled tables kept others stays taken cost =
      let p = placed j s.tables of.back of.is rules picks is k pick here in
      let own : slice_index (numbers_by s.tables picks) k ≡ p.number = p.index in
      let at : number_at r.tables pick.log pick.place ≡ Some (slice_index (numbers_by s.tables picks) k) = numbers_r (slice_index (numbers_by s.tables picks) k) (p.at ∙ ap Some (sym own)) in
      scan_step s r u (numbers_by s.tables picks) k from to past of.is.sound (ranking_numbers j s.tables of.back of.is rules picks is)
      (rw (numbers_long s.tables picks) (slice_get_within picks k pick here)) w settled tables kept
      (λ i. others (slice_index (numbers_by s.tables picks) k) i at) (stays (slice_index (numbers_by s.tables picks) k) at) (taken (slice_index (numbers_by s.tables picks) k) at) cost

pub scanned_for : (j : Joined) (rules : List Rule) (s r : State) (picks : List Pick) (k from to : ℕ) → IsBoardOf j s.tables → IsRankingOf j.sets rules picks → length picks ≤ k → IsScan s r (numbers_by s.tables picks) k from to → IsScannedOf j rules r
scanned_for j rules s r picks k from to of is all w logs m stands common =
    let ends = scan_ends s r (numbers_by s.tables picks) k from to of.is.sound (ranking_numbers j s.tables of.back of.is rules picks is) (rw (numbers_long s.tables picks) all) w
    (at m) (drawn_commands logs) (command_numbered j.sets s.tables) (path_named j.nodes of.back) (board_is_of j s.tables of.back of.is logs m stands common) in (
      ends.0,
      subst (λ l. IsFirstMerger (at m) (drawn_commands logs) l ends.0) (ranked_commands j s.tables of.back of.is rules picks is ∙ ap (λ sets. ranked sets rules) stands.sets) ends.1,
      subst (λ (b : Tables). IsMarked (command_numbered j.sets b) r ends.0) (sym w.tables) ends.2,
    )

pub cost_for : (j : Joined) (rules : List Rule) (s r : State) (picks : List Pick) (k from to : ℕ) → IsBoardOf j s.tables → IsRankingOf j.sets rules picks → k ≤ length picks → IsScan s r (numbers_by s.tables picks) k from to → to ≤ from + 20 * command_count s.tables
cost_for j rules s r picks k from to of is l w = scan_cost s r (numbers_by s.tables picks) k from to (ranking_numbers j s.tables of.back of.is rules picks is) (rw (numbers_long s.tables picks) l) w

-- a new board is settled for each common tree
pub settled_new : (j : Joined) (s : State) → IsNew j s → IsSettledOf j s
settled_new j s new logs m stands common =
    settled_to (at m) (drawn_commands logs) (command_numbered j.sets s.tables) (path_named j.nodes new.of.back) s new.of.is.sound (board_is_of j s.tables new.of.back new.of.is logs m stands common) new.settled none
  where
    none : HasSet (at m) (drawn_commands logs) (command_numbered j.sets s.tables) (command_count s.tables) (IsTaken s)
    none = record {
      set = [];
      within = (λ c e. cc (e));
      fits = record { one = refl; olds = (λ n c e. cc (e)); tree = common.tree.tree };
      has = (λ i l e. absurd (let z : Open ≡ Taken = sym (new.fresh i l) ∙ e in cc (z)));
    }
