-- The drawn commands at a node, found among its net commands.
use Rattle.std.proofs.Common.{◌≡◌, ℕ, zero, suc, ◌+◌, ◌-◌, ◌<◌, ◌≤◌, Bool, true, false, not, ◌||◌, ◌&&◌, List, [], ◌∷◌, ◌++◌, length, take, Option, Some, None, refl, sym, ap, subst, ◌∙◌, arith, append-nil}
use Rattle.std.specs.Prelude.{IsTrue, ◌↔◌, if◌then◌else◌, cond, is_some}
use Rattle.std.specs.List.{filter, list_any, slice_get}
use Rattle.std.specs.Option.{option_and_then}
use Rattle.std.proofs.lemmas.List.{take_more, take_all, map-append}
use Rattle.std.proofs.lemmas.Option.{slice_get_within, get_or_from_slice_get}
use Rattle.std.proofs.lemmas.List.Elements.{filter-append}
use Rattle.sync_path.specs.Paths.{Node, same_path}
use Rattle.sync_command.specs.Changes.{Change, same_change}
use Rattle.sync_command.specs.Trees.{command_at}
use Rattle.refluent.specs.declared.joint.Pick.{Pick}
use Rattle.sync_command.specs.declared.commands.Row.{Row}
use Rattle.refluent.specs.Joints.{path_at}
use Rattle.refluent.proofs.CallerLemmas.{same_change_at, same_change_is}
use Rattle.refluent.specs.Picks.{place_in, picks_from, net_commands}
use Rattle.clash_list.specs.declared.drawn.Kept.{Kept}
use Rattle.clash_list.specs.DrawnAt.{LogCommand, with_command, commands_from, is_other, first_of_each, logs_of, is_kept, logs_in, command_by, IsPick, ArePicks, picked, is_same_as}

-- ---- the picks of a node

-- the command of a set at a node is at its place
place_has : (set : List Change) (p : Node) (c : Change) → command_at set p ≡ Some c → slice_get set (place_in set p) ≡ Some c
place_has [] p c e = cc (e)
place_has (d ∷ set) p c e = go (same_path p d.node) (place_has set p c) e
  where
    go : (b : Bool) → (command_at set p ≡ Some c → slice_get set (place_in set p) ≡ Some c) → (if b then Some d else command_at set p) ≡ Some c → slice_get (d ∷ set) (cond (not b) (1 + place_in set p) 0) ≡ Some c
    go true ih e = e
    go false ih e = ap (slice_get (d ∷ set)) one_on ∙ ih e
      where
        one_on : 1 + place_in set p ≡ suc (place_in set p)
        one_on = omega arith

module _ (sets : List (List Change)) (p : Node) where
  -- the sets from a log on are the rest of all
  abbrev pub AreRest : ℕ → List (List Change) → Type 0
  AreRest log rest = (k : ℕ) → slice_get rest k ≡ slice_get sets (log + k - 1)

  by_place : (log : ℕ) (set : List Change) (rest : List (List Change)) (c : Change) → 0 < log → AreRest log (set ∷ rest) → command_at set p ≡ Some c → command_by sets (record { log = log; place = place_in set p }) ≡ Some c
  by_place log set rest c low are e =
      let n : log + 0 - 1 ≡ log - 1 = omega arith in
      ap (option_and_then (λ s. slice_get s (place_in set p))) (ap (slice_get sets) (sym n) ∙ sym (are 0)) ∙ place_has set p c e

  later : (log : ℕ) (set : List Change) (rest : List (List Change)) → 0 < log → AreRest log (set ∷ rest) → AreRest (log + 1) rest
  later log set rest low are k = are (suc k) ∙ ap (slice_get sets) (let n : log + suc k - 1 ≡ log + 1 + k - 1 = omega arith in n)

  picked_from : (log : ℕ) (rest : List (List Change)) → 0 < log → AreRest log rest → picked sets (picks_from log rest p) ≡ commands_from log rest p
  picked_from log [] low are = refl
  picked_from log (set ∷ rest) low are = go (command_at set p) refl (picked_from (log + 1) rest (omega arith) (later log set rest low are))
    where
      go : (o : Option Change) → command_at set p ≡ o → picked sets (picks_from (log + 1) rest p) ≡ commands_from (log + 1) rest p →
          picked sets (if is_some o then record { log = log; place = place_in set p } ∷ picks_from (log + 1) rest p else picks_from (log + 1) rest p) ≡ with_command log o (commands_from (log + 1) rest p)
      go None e ih = ih
      go (Some c) e ih = (λ i. with_command log (by_place log set rest c low are e i) (ih i))

  all_picks : (log : ℕ) (rest : List (List Change)) → 0 < log → AreRest log rest → ArePicks sets (picks_from log rest p)
  all_picks log [] low are = λ i pick e. cc (e)
  all_picks log (set ∷ rest) low are = go (command_at set p) refl (all_picks (log + 1) rest (omega arith) (later log set rest low are))
    where
      same : {a b : Pick} → Some a ≡ Some b → a ≡ b
      same e = cc

      go : (o : Option Change) → command_at set p ≡ o → ArePicks sets (picks_from (log + 1) rest p) →
          ArePicks sets (if is_some o then record { log = log; place = place_in set p } ∷ picks_from (log + 1) rest p else picks_from (log + 1) rest p)
      go None e ih i pick f = ih i pick f
      go (Some c) e ih zero pick f = subst (IsPick sets) (same f) (record { counted = low; command = c; is = by_place log set rest c low are e })
      go (Some c) e ih (suc i) pick f = ih i pick f

  count_from : (log : ℕ) (rest : List (List Change)) → length (picks_from log rest p) ≤ length rest
  count_from log [] = omega arith
  count_from log (set ∷ rest) = go (is_some (command_at set p)) (count_from (log + 1) rest)
    where
      go : (b : Bool) → length (picks_from (log + 1) rest p) ≤ length rest → length (if b then record { log = log; place = place_in set p } ∷ picks_from (log + 1) rest p else picks_from (log + 1) rest p) ≤ suc (length rest)
      go true ih = omega arith
      go false ih = omega arith

  whole : AreRest 1 sets
  whole k = ap (slice_get sets) (let n : k ≡ 1 + k - 1 = omega arith in n)

  pub picked_all : picked sets (net_commands sets p) ≡ commands_from 1 sets p
  picked_all = picked_from 1 sets (omega arith) whole

  pub are_picks : ArePicks sets (net_commands sets p)
  are_picks = all_picks 1 sets (omega arith) whole

  pub few_picks : length (net_commands sets p) ≤ length sets
  few_picks = count_from 1 sets

-- ---- one more pick

picked-append : (sets : List (List Change)) (xs : List Pick) (pick : Pick) → picked sets (xs ++ pick ∷ []) ≡ picked sets xs ++ with_command pick.log (command_by sets pick) []
picked-append sets [] pick = refl
picked-append sets (x ∷ xs) pick = go (command_by sets x) (picked-append sets xs pick)
  where
    go : (o : Option Change) → picked sets (xs ++ pick ∷ []) ≡ picked sets xs ++ with_command pick.log (command_by sets pick) [] →
        with_command x.log o (picked sets (xs ++ pick ∷ [])) ≡ with_command x.log o (picked sets xs) ++ with_command pick.log (command_by sets pick) []
    go None ih = ih
    go (Some c) ih = ap (λ l. record { log = x.log; change = c } ∷ l) ih

-- one more command, unless an equal one is among them
first-append : (ds : List LogCommand) (e : LogCommand) → first_of_each (ds ++ e ∷ []) ≡ first_of_each ds ++ (if list_any (is_same_as e.change) ds then [] else e ∷ [])
first-append [] e = refl
first-append (d ∷ ds) e = ap (λ l. d ∷ filter (is_other d) l) (first-append ds e) ∙ ap (λ l. d ∷ l) (filter-append (is_other d) (first_of_each ds) (if list_any (is_same_as e.change) ds then [] else e ∷ []))
    ∙ ap (λ l. d ∷ (filter (is_other d) (first_of_each ds) ++ l)) (go (list_any (is_same_as e.change) ds))
  where
    found : (s : Bool) → ◌≡◌ {A = List LogCommand} [] (if s || true then [] else e ∷ [])
    found true = refl
    found false = refl

    new : (s : Bool) → ◌≡◌ {A = List LogCommand} (if not s then e ∷ [] else []) (if s || false then [] else e ∷ [])
    new true = refl
    new false = refl

    go : (b : Bool) → filter (is_other d) (if b then [] else e ∷ []) ≡ (if same_change e.change d.change || b then [] else e ∷ [])
    go true = found (same_change e.change d.change)
    go false = new (same_change e.change d.change)

any-append : (f : LogCommand → Bool) (ds : List LogCommand) (e : LogCommand) → list_any f (ds ++ e ∷ []) ≡ (list_any f ds || f e)
any-append f [] e = or_false (f e)
  where
    or_false : (b : Bool) → (b || false) ≡ b
    or_false true = refl
    or_false false = refl
any-append f (d ∷ ds) e = go (f d) (any-append f ds e)
  where
    go : (b : Bool) → list_any f (ds ++ e ∷ []) ≡ (list_any f ds || f e) → (b || list_any f (ds ++ e ∷ [])) ≡ ((b || list_any f ds) || f e)
    go true ih = refl
    go false ih = ih

-- ---- the loops

-- a test of equality, by what it says
pub same_as : (r : Bool) (c d : Change) → IsTrue r ↔ (c ≡ d) → r ≡ same_change c d
same_as r c d says = alike r (same_change c d) (λ e. same_change_at c d (says.0 e)) (λ e. says.1 (same_change_is c d e))
  where
    alike : (a b : Bool) → (a ≡ true → b ≡ true) → (b ≡ true → a ≡ true) → a ≡ b
    alike true b f g = sym (f refl)
    alike false true f g = g refl
    alike false false f g = refl

-- a pick that was found
pub found_same : (sets : List (List Change)) (f : LogCommand → Bool) (picks : List Pick) (i : ℕ) (pick : Pick) (c : Change) → slice_get picks i ≡ Some pick → command_by sets pick ≡ Some c → f (record { log = pick.log; change = c }) ≡ true → list_any f (picked sets picks) ≡ true
found_same sets f [] i pick c at of sure = cc (at)
found_same sets f (x ∷ picks) zero pick c at of sure =
    ap (λ y. list_any f (with_command y.log (command_by sets y) (picked sets picks))) (same at) ∙ ap (λ o. list_any f (with_command pick.log o (picked sets picks))) of ∙ ap (λ b. b || list_any f (picked sets picks)) sure
  where
    same : Some x ≡ Some pick → x ≡ pick
    same e = cc
found_same sets f (x ∷ picks) (suc i) pick c at of sure = later (command_by sets x) (found_same sets f picks i pick c at of sure)
  where
    or_true : (b c : Bool) → c ≡ true → (b || c) ≡ true
    or_true true c e = refl
    or_true false c e = e

    later : (o : Option Change) → list_any f (picked sets picks) ≡ true → list_any f (with_command x.log o (picked sets picks)) ≡ true
    later None ih = ih
    later (Some d) ih = or_true (f (record { log = x.log; change = d })) _ ih

module _ (sets : List (List Change)) (picks : List Pick) (i : ℕ) (pick : Pick) (c : Change) (at : slice_get picks i ≡ Some pick) (of : command_by sets pick ≡ Some c) where
  one_more : picked sets (take (i + 1) picks) ≡ picked sets (take i picks) ++ record { log = pick.log; change = c } ∷ []
  one_more = ap (picked sets) (take_more picks i pick (slice_get_within picks i pick at) ∙ ap (λ d. take i picks ++ d ∷ []) (get_or_from_slice_get picks i pick pick at)) ∙ picked-append sets (take i picks) pick ∙ ap (λ o. picked sets (take i picks) ++ with_command pick.log o []) of

  -- the search goes on
  pub searched : (d : Change) (same : Bool) → same ≡ same_change d c → same ≡ false → list_any (is_same_as d) (picked sets (take i picks)) ≡ false → list_any (is_same_as d) (picked sets (take (i + 1) picks)) ≡ false
  searched d same e differ before = ap (list_any (is_same_as d)) one_more ∙ any-append (is_same_as d) (picked sets (take i picks)) (record { log = pick.log; change = c }) ∙ (λ k. before k || (sym e ∙ differ) k)

  module _ (kept : Kept) (old : List ℕ) (before : old ≡ logs_of (filter (λ d. is_kept kept d.change) (first_of_each (picked sets (take i picks))))) where
    logs : List LogCommand → List ℕ
    logs ds = logs_of (filter (λ d. is_kept kept d.change) ds)

    logs-append : (ds es : List LogCommand) → logs_of (filter (λ d. is_kept kept d.change) (ds ++ es)) ≡ logs_of (filter (λ d. is_kept kept d.change) ds) ++ logs_of (filter (λ d. is_kept kept d.change) es)
    logs-append ds es = ap logs_of (filter-append (λ d. is_kept kept d.change) ds es) ∙ map-append (λ d. d.log) (filter (λ d. is_kept kept d.change) ds) (filter (λ d. is_kept kept d.change) es)

    has : Bool
    has = list_any (is_same_as c) (picked sets (take i picks))

    tail : (keep had : Bool) → logs_of (if had then [] else (if keep then record { log = pick.log; change = c } ∷ [] else [])) ≡ (if keep && not had then pick.log ∷ [] else [])
    tail true true = refl
    tail true false = refl
    tail false true = refl
    tail false false = refl

    push : (b : Bool) → logs_of (filter (λ d. is_kept kept d.change) (if b then [] else record { log = pick.log; change = c } ∷ [])) ≡ logs_of (if b then [] else (if is_kept kept c then record { log = pick.log; change = c } ∷ [] else []))
    push true = refl
    push false = refl

    -- one more log where the command is kept and new, and else none
    more_logs : (b : Bool) → b ≡ (is_kept kept c && not (list_any (is_same_as c) (picked sets (take i picks)))) →
        logs_of (filter (λ d. is_kept kept d.change) (first_of_each (picked sets (take (i + 1) picks)))) ≡ old ++ (if b then pick.log ∷ [] else [])
    more_logs b e = ap (λ ds. logs_of (filter (λ d. is_kept kept d.change) ds)) (ap first_of_each one_more ∙ first-append (picked sets (take i picks)) (record { log = pick.log; change = c }))
        ∙ logs-append (first_of_each (picked sets (take i picks))) (if list_any (is_same_as c) (picked sets (take i picks)) then [] else record { log = pick.log; change = c } ∷ [])
        ∙ ap (λ l. logs_of (filter (λ d. is_kept kept d.change) (first_of_each (picked sets (take i picks)))) ++ l) (push (list_any (is_same_as c) (picked sets (take i picks))) ∙ tail (is_kept kept c) (list_any (is_same_as c) (picked sets (take i picks))))
        ∙ (λ k. sym before k ++ (if sym e k then pick.log ∷ [] else []))

    pub one_log : (b : Bool) (new : List ℕ) → b ≡ (is_kept kept c && not (list_any (is_same_as c) (picked sets (take i picks)))) → b ≡ true → new ≡ old ++ pick.log ∷ [] →
        new ≡ logs_of (filter (λ d. is_kept kept d.change) (first_of_each (picked sets (take (i + 1) picks))))
    one_log b new e sure is = is ∙ ap (λ x. old ++ (if x then pick.log ∷ [] else [])) (sym sure) ∙ sym (more_logs b e)

    pub no_log : (b : Bool) → b ≡ (is_kept kept c && not (list_any (is_same_as c) (picked sets (take i picks)))) → b ≡ false →
        old ≡ logs_of (filter (λ d. is_kept kept d.change) (first_of_each (picked sets (take (i + 1) picks))))
    no_log b e differ = sym (append-nil old) ∙ ap (λ x. old ++ (if x then pick.log ∷ [] else [])) (sym differ) ∙ sym (more_logs b e)

-- all picks were looked at
pub all_logs : (rows : List Row) (sets : List (List Change)) (place n : ℕ) (p : Node) (picks : List Pick) (kept : Kept) (logs : List ℕ) → path_at rows place ≡ Some p → picks ≡ net_commands sets p → length picks ≤ n →
    logs ≡ logs_of (filter (λ d. is_kept kept d.change) (first_of_each (picked sets (take n picks)))) → logs ≡ logs_in kept sets (path_at rows place)
all_logs rows sets place n p picks kept found at are high e =
    e ∙ ap (λ ds. logs_of (filter (λ d. is_kept kept d.change) (first_of_each ds))) (ap (picked sets) (take_all n picks high ∙ are) ∙ picked_all sets p) ∙ ap (logs_in kept sets) (sym at)

from_take : (n : ℕ) (xs : List Pick) (i : ℕ) (x : Pick) → slice_get (take n xs) i ≡ Some x → slice_get xs i ≡ Some x
from_take zero xs i x e = cc (e)
from_take (suc n) [] i x e = cc (e)
from_take (suc n) (y ∷ xs) zero x e = e
from_take (suc n) (y ∷ xs) (suc i) x e = from_take n xs i x e

pub earlier_picks : (sets : List (List Change)) (picks : List Pick) (n : ℕ) → ArePicks sets picks → ArePicks sets (take n picks)
earlier_picks sets picks n are i pick e = are i pick (from_take n picks i pick e)
