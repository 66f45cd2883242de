-- The logs of a drill, step by step.
use Rattle.std.proofs.Common.{◌≡◌, ◌∙◌, ◌⊎◌, inl, inr, ◌<◌, ◌≤◌, ◌+◌, ◌-◌, Bool, true, false, not, Result, Ok, Err, refl, sym, ap, subst, ℕ, zero, suc, List, [], ◌∷◌, ◌++◌, length, arith}
use Rattle.std.specs.Prelude.{OnOk}
use Rattle.sync_path.specs.Paths.{Node}
use Rattle.sync_command.specs.declared.values.Value.{Value}
use Rattle.sync_command.specs.Values.{same_value}
use Rattle.sync_command.specs.Changes.{Change, is_change}
use Rattle.sync_command.specs.Maps.{Store, IsTreeMap, at, store}
use Rattle.sync_command.specs.Trees.{Holding, Takes, put}
use Rattle.sync_command.proofs.CallerLemmas.{at-store, same_value_is}
use Rattle.canon_set.specs.Sums.{Sum, StandsFor}
use Rattle.refluent.specs.CommonTrees.{HasCommonTree, IsAmong, IsCommonTree}
use Rattle.refluent.specs.Joints.{EachStandsFor}
use Rattle.sync_drill.specs.Draws.{state_after, state_after_steps, step_draws}
use Rattle.sync_drill.specs.DrillLogs.{AreLogs, IsDone, IsLog, drawn_command, drawn_path, wanted_value}
use Rattle.sync_drill.specs.declared.draws.StepDraws.{StepDraws}
use Rattle.sync_drill.specs.Walks.{IsAdded, IsCommandStep, IsLeft, IsStep, IsSumOfLog, IsWalked}

-- ---- lists

push_append : {A : Type 0} (xs : List A) (b : A) (rest : List A) → (xs ++ b ∷ []) ++ rest ≡ xs ++ b ∷ rest
push_append [] b rest = refl
push_append (a ∷ xs) b rest = ap (λ l. a ∷ l) (push_append xs b rest)

append_none : {A : Type 0} (xs : List A) → xs ++ [] ≡ xs
append_none [] = refl
append_none (a ∷ xs) = ap (λ l. a ∷ l) (append_none xs)

-- ---- one log

pub walk_first : (b m : Store) (x steps : ℕ) (s : Sum) → m ≡ b → StandsFor s [] → IsWalked (at b) x steps m s x steps
walk_first b m x steps s is stands = record {
  log = [];
  stands = stands;
  goes_on = λ rest h. subst (λ n. IsLog (at n) x steps rest) is h;
}

pub walk_begin : (b m : Store) (x steps i : ℕ) (s : Sum) → i ≡ 0 → m ≡ b → StandsFor s [] → IsWalked (at b) x steps m s x (steps - i)
walk_begin b m x steps i s zeroth is stands =
    subst (IsWalked (at b) x steps m s x) (let e : steps ≡ steps - i = omega (arith, zeroth) in e) (walk_first b m x steps s is stands)

pub walk_next : (t : Holding) (x steps : ℕ) (m n : Store) (s u : Sum) (now left : ℕ) → IsWalked t x steps m s now (suc left)
    → IsStep m s (drawn_command (at m) (step_draws now)) n u → IsWalked t x steps n u (state_after 5 now) left
walk_next t x steps m n s u now left w (inl (done, added)) =
    let c : Change = drawn_command (at m) (step_draws now) in
    record {
      log = w.log ++ c ∷ [];
      stands = added.log w.log w.stands;
      goes_on = λ rest h. subst (IsLog t x steps) (sym (push_append w.log c rest))
          (w.goes_on (c ∷ rest) (inl (
            done,
            (
              rest,
              refl,
              subst (λ v. IsLog v (state_after 5 now) left rest) (ap at added.tree ∙ at-store m c.node c.new) h,
            ),
          )));
    }
walk_next t x steps m n s u now left w (inr (not, same)) = record {
  log = w.log;
  stands = subst (λ v. StandsFor v w.log) (sym same.log) w.stands;
  goes_on = λ rest h. w.goes_on rest (inr (not, subst (λ v. IsLog (at v) (state_after 5 now) left rest) same.tree h));
}

pub walk_end : (t : Holding) (x steps : ℕ) (m : Store) (s : Sum) (now : ℕ) → IsWalked t x steps m s now 0 → IsSumOfLog t x steps s
walk_end t x steps m s now w = (w.log, w.stands, subst (IsLog t x steps) (append_none w.log) (w.goes_on [] refl))

-- a command that changes a value, done or not
pub step_of : (m n : Store) (s u : Sum) (c d : Change) → c ≡ d → is_change c ≡ true → IsCommandStep m s c n u → IsStep m s d n u
step_of m n s u c d same changes step = subst (λ x. IsStep m s x n u) same (by step)
  where
    by : IsCommandStep m s c n u → IsStep m s c n u
    by (inl (can, added)) = inl ((changes, can), added)
    by (inr (cannot, left)) = inr ((λ done. cannot done.1), left)

changed : (v w : Value) → (v ≡ w → ⊥) → not (same_value v w) ≡ true
changed v w other = by (same_value v w) refl
  where
    by : (b : Bool) → same_value v w ≡ b → not b ≡ true
    by true e = absurd (other (same_value_is v w e))
    by false e = refl

abbrev command_of : Node → Value → Value → Change
command_of p v w = record { node = p; old = v; new = w }

-- the drawn command, where it changes a value
pub step_done : (m n : Store) (s u : Sum) (x : ℕ) (d : StepDraws) (p : Node) (v w : Value) (c : Change) → d ≡ step_draws x → p ≡ drawn_path d → v ≡ at m p → w ≡ wanted_value d.value
    → c ≡ command_of p v w → (v ≡ w → ⊥) → IsCommandStep m s c n u → IsStep m s (drawn_command (at m) (step_draws x)) n u
step_done m n s u x d p v w c draws path held wanted is other step =
    step_of m n s u c (drawn_command (at m) (step_draws x))
    (is ∙ (λ i. command_of (path i) ((held ∙ ap (at m) path) i) (wanted i)) ∙ ap (drawn_command (at m)) draws)
    (ap is_change is ∙ changed v w other) step

pub on_ok : {T E : Type 0} (r : Result T E) (P Q : Type 0) → (P → Q) → OnOk r P → OnOk r Q
on_ok (Ok x) P Q f h = f h
on_ok (Err e) P Q f h = tt

-- the steps that are left, by how many were made
pub left_next : (i steps : ℕ) → i < steps → steps - i ≡ suc (steps - (i + 1))
left_next i steps h = omega (arith, h)

pub walk_turn : (t : Holding) (x steps : ℕ) (m n : Store) (s u : Sum) (now later i : ℕ) → i < steps → IsWalked t x steps m s now (steps - i)
    → later ≡ state_after 5 now → IsStep m s (drawn_command (at m) (step_draws now)) n u → IsWalked t x steps n u later (steps - (i + 1))
walk_turn t x steps m n s u now later i h w is step =
    subst (λ y. IsWalked t x steps n u y (steps - (i + 1))) (sym is)
    (walk_next t x steps m n s u now (steps - (i + 1)) (subst (IsWalked t x steps m s now) (left_next i steps h) w) step)

pub walk_over : (t : Holding) (x steps : ℕ) (m : Store) (s : Sum) (now i : ℕ) → steps ≤ i → IsWalked t x steps m s now (steps - i) → IsSumOfLog t x steps s
walk_over t x steps m s now i h w = walk_end t x steps m s now (subst (IsWalked t x steps m s now) (let e : steps - i ≡ 0 = omega (arith, h) in e) w)

-- the states that the steps left lead through
pub state_turn : (first now later i steps : ℕ) → i < steps → later ≡ state_after 5 now → state_after_steps (steps - i) now ≡ first → state_after_steps (steps - (i + 1)) later ≡ first
state_turn first now later i steps h is before =
    ap (state_after_steps (steps - (i + 1))) is ∙ sym (ap (λ n. state_after_steps n now) (left_next i steps h)) ∙ before

pub state_begin : (x i steps : ℕ) → i ≡ 0 → state_after_steps (steps - i) x ≡ state_after_steps steps x
state_begin x i steps zeroth = ap (λ n. state_after_steps n x) (let e : steps - i ≡ steps = omega (arith, zeroth) in e)

pub state_over : (first now i steps : ℕ) → steps ≤ i → state_after_steps (steps - i) now ≡ first → now ≡ first
state_over first now i steps h before = sym (ap (λ n. state_after_steps n now) (let e : steps - i ≡ 0 = omega (arith, h) in e)) ∙ before

-- ---- several logs

-- The sums of the first logs: with whatever the logs left are, they are the logs of the drill.
pub record AreWalked (t : Holding) (x steps count : ℕ) (sums : List Sum) (now left : ℕ) : Type 0 where
  pub made : List (List Change)
  pub stand : EachStandsFor sums made
  pub go_on : (rest : List (List Change)) → AreLogs t now steps left rest → AreLogs t x steps count (made ++ rest)

each_pushed : (sums : List Sum) (made : List (List Change)) (s : Sum) (log : List Change) → EachStandsFor sums made → StandsFor s log → EachStandsFor (sums ++ s ∷ []) (made ++ log ∷ [])
each_pushed [] [] s log each stands = (stands, tt)
each_pushed [] (other ∷ made) s log each stands = absurd each
each_pushed (r ∷ sums) [] s log each stands = absurd each
each_pushed (r ∷ sums) (other ∷ made) s log each stands = (each.0, each_pushed sums made s log each.1 stands)

pub logs_first : (t : Holding) (x steps count : ℕ) (sums : List Sum) → sums ≡ [] → AreWalked t x steps count sums x count
logs_first t x steps count sums is = record {
  made = [];
  stand = subst (λ l. EachStandsFor l []) (sym is) tt;
  go_on = λ rest h. h;
}

pub logs_begin : (t : Holding) (x steps count i : ℕ) (sums : List Sum) → i ≡ 0 → sums ≡ [] → AreWalked t x steps count sums x (count - i)
logs_begin t x steps count i sums zeroth is =
    subst (AreWalked t x steps count sums x) (let e : count ≡ count - i = omega (arith, zeroth) in e) (logs_first t x steps count sums is)

pub logs_turn : (t : Holding) (x steps count : ℕ) (sums more : List Sum) (s : Sum) (now later i : ℕ) → i < count → AreWalked t x steps count sums now (count - i)
    → later ≡ state_after_steps steps now → IsSumOfLog t now steps s → more ≡ sums ++ s ∷ [] → AreWalked t x steps count more later (count - (i + 1))
logs_turn t x steps count sums more s now later i h w is log pushed =
    let v = subst (AreWalked t x steps count sums now) (left_next i count h) w in
    record {
      made = v.made ++ log.0 ∷ [];
      stand = subst (λ l. EachStandsFor l (v.made ++ log.0 ∷ [])) (sym pushed) (each_pushed sums v.made s log.0 v.stand log.1);
      go_on = λ rest r. subst (AreLogs t x steps count) (sym (push_append v.made log.0 rest))
          (v.go_on (log.0 ∷ rest) (log.0, rest, refl, log.2, subst (λ y. AreLogs t y steps (count - (i + 1)) rest) is r));
    }

pub logs_over : (t : Holding) (x steps count : ℕ) (sums : List Sum) (now i : ℕ) → count ≤ i → AreWalked t x steps count sums now (count - i)
    → (made : List (List Change)) × EachStandsFor sums made × AreLogs t x steps count made
logs_over t x steps count sums now i h w =
    let v = subst (AreWalked t x steps count sums now) (let e : count - i ≡ 0 = omega (arith, h) in e) w in
    (v.made, v.stand, subst (AreLogs t x steps count) (append_none v.made) (v.go_on [] refl))

-- ---- the tree that they begin at takes them

log_taken : (t : Holding) (x steps : ℕ) (log : List Change) → IsLog t x steps log → Takes t log
log_taken t x zero log is = subst (Takes t) (sym is) tt
log_taken t x (suc steps) log (inl (done, (rest, is, h))) =
    let c : Change = drawn_command t (step_draws x) in
    subst (Takes t) (sym is) (done.1, log_taken (put t c.node c.new) (state_after 5 x) steps rest h)
log_taken t x (suc steps) log (inr (not, h)) = log_taken t (state_after 5 x) steps log h

logs_taken : (t : Holding) (x steps count : ℕ) (logs : List (List Change)) → AreLogs t x steps count logs → (log : List Change) → IsAmong log logs → Takes t log
logs_taken t x steps zero logs is log among = absurd (subst (IsAmong log) is among)
logs_taken t x steps (suc count) logs (first, rest, is, here, after) log among =
    by (subst (IsAmong log) is among) (logs_taken t (state_after_steps steps x) steps count rest after log)
  where
    by : IsAmong log (first ∷ rest) → (IsAmong log rest → Takes t log) → Takes t log
    by (inl same) others = subst (Takes t) (sym same) (log_taken t x steps first here)
    by (inr later) others = others later

pub base_common : (m : Store) (x steps count : ℕ) (logs : List (List Change)) → IsTreeMap m → AreLogs (at m) x steps count logs → IsCommonTree m logs
base_common m x steps count logs tree are = record { tree = tree; takes = logs_taken (at m) x steps count logs are }

pub has_common : (m : Store) (x steps count : ℕ) (logs : List (List Change)) → IsTreeMap m → AreLogs (at m) x steps count logs → HasCommonTree logs
has_common m x steps count logs tree are = record { map = m; common = base_common m x steps count logs tree are }
