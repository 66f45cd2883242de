-- A ranking of a joint lists each number of its board once.
use Rattle.std.proofs.Common.{◌≡◌, ℕ, zero, suc, ◌<◌, ◌≤◌, Bool, true, false, not, ◌&&◌, refl, ap, sym, subst, ◌∙◌, arith, List, [], ◌∷◌, ◌++◌, length, map, Option, Some, None}
use Rattle.std.specs.Prelude.{slice_index, IsTrue, is_some}
use Rattle.std.specs.List.{slice_get}
use Rattle.std.proofs.lemmas.List.{length-map}
use Rattle.std.proofs.lemmas.Option.{slice_get_within}
use Rattle.sync_path.proofs.CallerLemmas.{both}
use Rattle.sync_command.specs.Changes.{Change}
use Rattle.refluent.specs.Sets.{is_in, all_differ, IsSubset}
use Rattle.refluent.specs.Joints.{Joined}
use Rattle.refluent.specs.Drawn.{drawn_of, in_turn}
use Rattle.refluent.specs.declared.joint.Pick.{Pick}
use Rattle.pref_list.specs.declared.rules.Rule.{Rule}
use Rattle.pref_list.specs.Ranking.{ranked, expansions}
use Rattle.pref_list.specs.Picks.{command_of, ArePicksOf}
use Rattle.pref_list.specs.Numbers.{numbered}
use Rattle.pref_list.specs.Orders.{IsRankingOf}
use Rattle.refluent.proofs.CallerLemmas.{all_differ-without_repeats}
use Rattle.pref_list.proofs.CallerLemmas.{in_from_place, place_from_in, in_ranked}
use Rattle.scan_board.specs.Tables.{Tables, number_at, command_count}
use Rattle.scan_board.specs.Boards.{command_numbered, IsTableOf}
use Rattle.merge_core.proofs.Greedily.{IsRanking}
use Rattle.merge_core.proofs.JointBoards.{HasNumber, command_is, number_low, has_number, number_drawn, numbered_is, number_once}

abbrev pub number_or : Option ℕ → ℕ
number_or None = 0
number_or (Some i) = i

-- the numbers of picks
abbrev pub numbers_by : Tables → List Pick → List ℕ
numbers_by b picks = map (λ p. number_or (number_at b p.log p.place)) picks

pub numbers_long : (b : Tables) (picks : List Pick) → length (numbers_by b picks) ≡ length picks
numbers_long b picks = length-map picks (λ (p : Pick). number_or (number_at b p.log p.place))

some_is : {X : Type 0} → {x y : X} → Some x ≡ Some y → x ≡ y
some_is e = cc

-- each pick of a list of commands has its command
pick_of : (sets : List (List Change)) (picks : List Pick) (cs : List Change) → map (command_of sets) picks ≡ map Some cs → (k : ℕ) (p : Pick) → slice_get picks k ≡ Some p → (c : Change) × (command_of sets p ≡ Some c) × (slice_get cs k ≡ Some c)
pick_of sets [] cs e k p f = cc (f)
pick_of sets (q ∷ picks) [] e k p f = cc (e)
pick_of sets (q ∷ picks) (c ∷ cs) e zero p f = let h : command_of sets q ≡ Some c = cc in (c, ap (command_of sets) (sym (some_is f)) ∙ h, refl)
pick_of sets (q ∷ picks) (c ∷ cs) e (suc k) p f = let t : map (command_of sets) picks ≡ map Some cs = cc in pick_of sets picks cs t k p f

index_of : {X : Type 0} → (xs : List X) (f : X → ℕ) (k : ℕ) (x : X) → slice_get xs k ≡ Some x → slice_index (map f xs) k ≡ f x
index_of [] f k x e = cc (e)
index_of (y ∷ xs) f zero x e = ap f (some_is e)
index_of (y ∷ xs) f (suc k) x e = index_of xs f k x e

within : {X : Type 0} → (xs : List X) (i : ℕ) → i < length xs → (x : X) × (slice_get xs i ≡ Some x)
within [] i l = absurd (omega arith)
within (x ∷ xs) zero l = (x, refl)
within (x ∷ xs) (suc i) l = within xs i (omega arith)

-- of a list without repeats, equal elements are at one place
apart : (cs : List Change) → all_differ cs ≡ true → (j k : ℕ) (c : Change) → j < k → slice_get cs j ≡ Some c → slice_get cs k ≡ Some c → ⊥
apart [] d j k c l e f = cc (e)
apart (x ∷ cs) d j zero c l e f = absurd (omega arith)
apart (x ∷ cs) d zero (suc k) c l e f = clash (is_in cs x) (both (not (is_in cs x)) (all_differ cs) d).0 (ap (is_in cs) (some_is e) ∙ in_from_place cs k c f)
  where
    clash : (b : Bool) → not b ≡ true → b ≡ true → ⊥
    clash true e f = cc (e)
    clash false e f = cc (f)
apart (x ∷ cs) d (suc j) (suc k) c l e f = apart cs (both (not (is_in cs x)) (all_differ cs) d).1 j k c (omega arith) e f

module _ (j : Joined) (b : Tables) (back : List ℕ) (h : IsTableOf j b back) where
  pick_number : (p : Pick) (c : Change) → command_of j.sets p ≡ Some c → HasNumber j b p.log p.place c
  pick_number p c e = has_number j b back h p.log p.place c e

  -- the numbers of picks are those of their commands
  commands_are : (picks : List Pick) (cs : List Change) → map (command_of j.sets) picks ≡ map Some cs → map (command_numbered j.sets b) (numbers_by b picks) ≡ cs
  commands_are [] [] e = refl
  commands_are [] (c ∷ cs) e = cc (e)
  commands_are (p ∷ picks) [] e = cc (e)
  commands_are (p ∷ picks) (c ∷ cs) e =
      let first : command_of j.sets p ≡ Some c = cc in
      let rest : map (command_of j.sets) picks ≡ map Some cs = cc in
      let n = pick_number p c first in
      ap (λ x. command_numbered j.sets b x ∷ map (command_numbered j.sets b) (numbers_by b picks)) (ap number_or n.at) ∙ ap (λ x. x ∷ map (command_numbered j.sets b) (numbers_by b picks)) (numbered_is j b back h n.number c n.is)
      ∙ ap (λ l. c ∷ l) (commands_are picks cs rest)

  module _ (rules : List Rule) (picks : List Pick) (ranking : IsRankingOf j.sets rules picks) where
    -- the number at a place of the ranking
    pub record IsPlaced (k : ℕ) (pick : Pick) : Type 0 where
      pub command : Change
      pub number : ℕ
      pub at : number_at b pick.log pick.place ≡ Some number
      pub is : numbered j.sets b.numbers.picks.items number ≡ Some command
      pub ranks : slice_get (ranked j.sets rules) k ≡ Some command
      pub index : slice_index (numbers_by b picks) k ≡ number

    pub placed : (k : ℕ) (pick : Pick) → slice_get picks k ≡ Some pick → IsPlaced k pick
    placed k pick e =
        let c = pick_of j.sets picks (ranked j.sets rules) ranking.commands k pick e in
        let n = pick_number pick c.0 c.1 in
        record { command = c.0; number = n.number; at = n.at; is = n.is; ranks = c.2; index = index_of picks (λ p. number_or (number_at b p.log p.place)) k pick e ∙ ap number_or n.at }

    long : length (numbers_by b picks) ≡ length picks
    long = numbers_long b picks

    placed_at : (k : ℕ) → k < length (numbers_by b picks) → (p : Pick) × IsPlaced k p
    placed_at k l = let w = within picks k (rw (sym long) l) in (w.0, placed k w.0 w.1)

    once_all : all_differ (ranked j.sets rules) ≡ true
    once_all = all_differ-without_repeats (expansions j.sets rules ++ in_turn j.sets)

    pub ranking_numbers : IsRanking (command_count b) (numbers_by b picks)
    ranking_numbers = record {
      within = (λ k l. let w = placed_at k l in subst (λ x. x < command_count b) (sym w.1.index) (number_low j b back h w.1.number w.1.command w.1.is));
      once = (λ i k a l e. twice i k a (placed_at i (omega arith)) (placed_at k l) e);
      all = every;
    }
      where
        twice : (i k : ℕ) → i < k → (p : Pick) × IsPlaced i p → (p : Pick) × IsPlaced k p → slice_index (numbers_by b picks) i ≡ slice_index (numbers_by b picks) k → ⊥
        twice i k a (p, v) (q, w) e =
            let same : v.number ≡ w.number = sym v.index ∙ e ∙ w.index in
            let command : v.command ≡ w.command = some_is (sym v.is ∙ ap (numbered j.sets b.numbers.picks.items) same ∙ w.is) in
            apart (ranked j.sets rules) once_all i k w.command a (v.ranks ∙ ap Some command) w.ranks

        every : (i : ℕ) → i < command_count b → (k : ℕ) × (k < length (numbers_by b picks)) × (slice_index (numbers_by b picks) k ≡ i)
        every i l = go (command_is j b back h i l)
          where
            go : (c : Change) × (numbered j.sets b.numbers.picks.items i ≡ Some c) → (k : ℕ) × (k < length (numbers_by b picks)) × (slice_index (numbers_by b picks) k ≡ i)
            go (c, e) = at (place_from_in (ranked j.sets rules) c (in_ranked j.sets rules c (number_drawn j b back h i c e)))
              where
                at : (k : ℕ) × (slice_get (ranked j.sets rules) k ≡ Some c) → (k : ℕ) × (k < length (numbers_by b picks)) × (slice_index (numbers_by b picks) k ≡ i)
                at (k, f) =
                    let low : k < length picks = rw (sym (length-map picks (command_of j.sets)) ∙ ap length ranking.commands ∙ length-map (ranked j.sets rules) Some) (slice_get_within (ranked j.sets rules) k c f) in
                    let l2 : k < length (numbers_by b picks) = rw long low in
                    let w = placed_at k l2 in
                    let same : w.1.command ≡ c = some_is (sym w.1.ranks ∙ f) in
                    (k, l2, w.1.index ∙ h.numbers.different w.1.number i c (w.1.is ∙ ap Some same) e)

    pub ranked_commands : map (command_numbered j.sets b) (numbers_by b picks) ≡ ranked j.sets rules
    ranked_commands = commands_are picks (ranked j.sets rules) ranking.commands

    pub pick_placed : (k : ℕ) (pick : Pick) → slice_get picks k ≡ Some pick → IsTrue (is_some (number_at b pick.log pick.place))
    pick_placed k pick e = let w = placed k pick e in ap is_some w.at
