-- The nodes of drawn commands, and what a node holds that no log concerns.
use Rattle.std.proofs.Common.{◌≡◌, ℕ, zero, suc, ◌<◌, Bool, true, false, ◌||◌, List, [], ◌∷◌, length, Option, Some, None, refl, sym, ap, ◌∙◌, arith, ◌⊎◌, inl, inr}
use Rattle.std.specs.Prelude.{if◌then◌else◌}
use Rattle.std.specs.List.{slice_get, list_any}
use Rattle.std.specs.Option.{option_map}
use Rattle.sync_path.specs.Paths.{Node}
use Rattle.sync_command.specs.declared.values.Value.TheVariants.{Empty, Dir}
use Rattle.sync_command.specs.declared.commands.Row.{Row}
use Rattle.sync_command.specs.Values.{is_empty}
use Rattle.sync_command.specs.Changes.{Change}
use Rattle.canon_set.specs.Logs.{names}
use Rattle.canon_set.specs.Leaving.{above}
use Rattle.refluent.specs.Sets.{is_in}
use Rattle.refluent.specs.CommonTrees.{IsAmong, least_common_tree}
use Rattle.refluent.specs.Drawn.{drawn_commands, in_turn}
use Rattle.refluent.specs.Joints.{Joined, StandsForAll, IsJoint, concerns, path_at, value_at}
use Rattle.refluent.proofs.CallerLemmas.{drawn_is, is_in-append, is_in-without_repeats, node_is, untouched_law}
use Rattle.pref_list.specs.Ranking.{set_from}
use Rattle.pref_list.specs.Numbers.{IsNodeAt}
use Rattle.pref_list.proofs.CallerLemmas.{named, place_from_in}

cases_or : (a b : Bool) → (a || b) ≡ true → (a ≡ true) ⊎ (b ≡ true)
cases_or true b e = inl refl
cases_or false b e = inr e

-- ---- places

pub record RowAt (rows : List Row) (i : ℕ) (p : Node) : Type 0 where
  pub row : Row
  pub at : slice_get rows i ≡ Some row
  pub path : row.path ≡ p
  pub value : value_at rows i ≡ Some row.value

pub row_at : (rows : List Row) (i : ℕ) (p : Node) → path_at rows i ≡ Some p → RowAt rows i p
row_at rows i p e = go (slice_get rows i) refl e
  where
    same : {x y : Node} → Some x ≡ Some y → x ≡ y
    same e = cc

    go : (o : Option Row) → slice_get rows i ≡ o → option_map (λ (r : Row). r.path) o ≡ Some p → RowAt rows i p
    go None f e = cc (e)
    go (Some row) f e = record { row = row; at = f; path = same e; value = ap (option_map (λ r. r.value)) f }

pub some_at : {X : Type 0} (xs : List X) (i : ℕ) → i < length xs → (x : X) × (slice_get xs i ≡ Some x)
some_at [] i low = absurd (omega arith)
some_at (x ∷ xs) zero low = (x, refl)
some_at (x ∷ xs) (suc i) low = some_at xs i (omega arith)

-- ---- drawn commands

-- a command of one of the sets, by its place
pub record IsStanding (sets : List (List Change)) (c : Change) : Type 0 where
  pub set : ℕ
  pub place : ℕ
  pub there : slice_get (set_from sets set) place ≡ Some c

pub standing : (sets : List (List Change)) (c : Change) → is_in (in_turn sets) c ≡ true → IsStanding sets c
standing [] c e = cc (e)
standing (set ∷ sets) c e = go (cases_or (is_in set c) (is_in (in_turn sets) c) (sym (is_in-append set (in_turn sets) c) ∙ e)) (standing sets c)
  where
    go : (is_in set c ≡ true) ⊎ (is_in (in_turn sets) c ≡ true) → (is_in (in_turn sets) c ≡ true → IsStanding sets c) → IsStanding (set ∷ sets) c
    go (inl h) rec = let at = place_from_in set c h in record { set = 0; place = at.0; there = at.1 }
    go (inr h) rec = let r = rec h in record { set = suc r.set; place = r.place; there = r.there }

-- what is in one of the sets is in them in turn
pub in_turn_from : (sets : List (List Change)) (k : ℕ) (c : Change) → is_in (set_from sets k) c ≡ true → is_in (in_turn sets) c ≡ true
in_turn_from [] k c e = cc (e)
in_turn_from (set ∷ sets) zero c e = is_in-append set (in_turn sets) c ∙ left (is_in set c) (is_in (in_turn sets) c) e
  where
    left : (a b : Bool) → a ≡ true → (a || b) ≡ true
    left a b e = grind arith
in_turn_from (set ∷ sets) (suc k) c e = is_in-append set (in_turn sets) c ∙ right (is_in set c) (is_in (in_turn sets) c) (in_turn_from sets k c e)
  where
    right : (a b : Bool) → b ≡ true → (a || b) ≡ true
    right a b e = grind arith

module _ (j : Joined) (logs : List (List Change)) (stands : StandsForAll j logs) where
  joint : IsJoint j
  joint = record { logs = logs; stands = stands }

  pub drawn_in_turn : (c : Change) → is_in (drawn_commands logs) c ≡ is_in (in_turn j.sets) c
  drawn_in_turn c = ap (λ l. is_in l c) (sym (drawn_is j logs stands)) ∙ is_in-without_repeats (in_turn j.sets) c

  pub drawn_standing : (c : Change) → is_in (drawn_commands logs) c ≡ true → IsStanding j.sets c
  drawn_standing c e = standing j.sets c (sym (drawn_in_turn c) ∙ e)

  pub drawn_node : (c : Change) → is_in (drawn_commands logs) c ≡ true → (i : ℕ) × IsNodeAt j.nodes i c.node
  drawn_node c e = let s = drawn_standing c e in named j joint s.set s.place c s.there

  -- ---- values

  pub first_at : (i : ℕ) (p : Node) (at : RowAt j.nodes i p) → at.row.value ≡ least_common_tree logs p
  first_at i p at = (node_is j logs stands i at.row at.at).1 ∙ ap (least_common_tree logs) at.path

-- what no log concerns is empty
pub unconcerned : (logs : List (List Change)) (p : Node) → concerns logs p ≡ false → is_empty (least_common_tree logs p) ≡ true
unconcerned logs p e = ap is_empty (untouched_law logs p (none_names logs e) ∙ ap (λ b. if b then Dir [] else Empty) (none_above logs e))
  where
    neither : (a b c : Bool) → ((a || b) || c) ≡ false → (a ≡ false) × (b ≡ false) × (c ≡ false)
    neither false false c e = (refl, refl, e)
    neither false true c e = cc (e)
    neither true b c e = cc (e)

    none_names : (logs : List (List Change)) → concerns logs p ≡ false → (log : List Change) → IsAmong log logs → names log p ≡ false
    none_names [] e log i = absurd i
    none_names (l ∷ logs) e log (inl is) = ap (λ x. names x p) is ∙ (neither (names l p) (above l p) (concerns logs p) e).0
    none_names (l ∷ logs) e log (inr i) = none_names logs (neither (names l p) (above l p) (concerns logs p) e).2 log i

    none_above : (logs : List (List Change)) → concerns logs p ≡ false → list_any (λ log. above log p) logs ≡ false
    none_above [] e = refl
    none_above (l ∷ logs) e = let n = neither (names l p) (above l p) (concerns logs p) e in ap (λ b. b || list_any (λ log. above log p) logs) n.1 ∙ none_above logs n.2
