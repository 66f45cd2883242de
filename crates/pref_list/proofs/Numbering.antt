-- Numbers of drawn commands.
use Rattle.std.proofs.Common.{◌≡◌, ◌↔◌, ℕ, zero, suc, ◌<◌, ◌≤◌, ◌+◌, ◌-◌, Bool, true, false, IsTrue, List, [], ◌∷◌, ◌++◌, get_or, length, length-append, Option, Some, None, refl, sym, ap, subst, ◌∙◌, arith, ◌⊎◌, inl, inr}
use Rattle.std.specs.List.{slice_get}
use Rattle.std.specs.Prelude.{slice_set}
use Rattle.std.specs.Option.{option_and_then}
use Rattle.std.proofs.lemmas.Option.{slice_get_within, slice_get-get_or}
use Rattle.std.proofs.lemmas.Bool.{cases_lt}
use Rattle.std.proofs.lemmas.List.{length-set}
use Rattle.sync_path.specs.Paths.{Node}
use Rattle.sync_command.specs.declared.commands.Row.{Row}
use Rattle.sync_command.specs.declared.values.Value.{Value}
use Rattle.sync_command.specs.Changes.{Change}
use Rattle.refluent.specs.Joints.{is_ascending}
use Rattle.refluent.specs.declared.joint.Pick.{Pick}
use Rattle.std.specs.Prelude.{if◌then◌else◌}
use Rattle.std.specs.Option.{option_map}
use Rattle.refluent.specs.Sets.{is_in}
use Rattle.refluent.specs.Joints.{path_at}
use Rattle.pref_list.specs.Picks.{command_of, log_of, first_with}
use Rattle.pref_list.proofs.Named.{in_from_place, place_from_in}
use Rattle.pref_list.specs.Ranking.{set_from, set_of}
use Rattle.pref_list.specs.Numbers.{IsNodeAt, IsPick, IsLastOf, Names, AreLinked, AreChained, AreCovered, AreDifferent, AreLeast, KeepNumbers, AddsPick, numbered}
use Rattle.pref_list.proofs.Ends.{last_or, first_part, at_end, set_or}
use Rattle.pref_list.proofs.Places.{one_place}

-- ---- picks

from_high : (sets : List (List Change)) (k i : ℕ) (c : Change) → slice_get (set_from sets k) i ≡ Some c → k < length sets
from_high [] k i c e = cc (e)
from_high (set ∷ sets) zero i c e = omega arith
from_high (set ∷ sets) (suc k) i c e = let h : k < length sets = from_high sets k i c e in omega arith

of_low : (sets : List (List Change)) (log i : ℕ) (c : Change) → slice_get (set_of sets log) i ≡ Some c → (0 < log) × (log ≤ length sets)
of_low sets zero i c e = cc (e)
of_low sets (suc k) i c e = (omega arith, let h : k < length sets = from_high sets k i c e in omega arith)

pub pick_is : (sets : List (List Change)) (pick : Pick) (c : Change) → command_of sets pick ≡ Some c → IsPick sets pick
pick_is sets pick c e = let h = of_low sets pick.log pick.place c e in record {
  low = h.0;
  high = h.1;
  place = slice_get_within (set_of sets pick.log) pick.place c e;
}

numbered_at : (sets : List (List Change)) (picks : List Pick) (m : ℕ) (pick : Pick) → slice_get picks m ≡ Some pick → numbered sets picks m ≡ command_of sets pick
numbered_at sets picks m pick e = ap (option_and_then (command_of sets)) e

-- the pick of a number
pub record IsPickAt (sets : List (List Change)) (picks : List Pick) (m : ℕ) (c : Change) : Type 0 where
  pub pick : Pick
  pub at : slice_get picks m ≡ Some pick
  pub of : command_of sets pick ≡ Some c

pub pick_at : (sets : List (List Change)) (picks : List Pick) (m : ℕ) (c : Change) → numbered sets picks m ≡ Some c → IsPickAt sets picks m c
pick_at sets picks m c e = go (slice_get picks m) refl e
  where
    go : (o : Option Pick) → slice_get picks m ≡ o → option_and_then (command_of sets) o ≡ Some c → IsPickAt sets picks m c
    go None f e = cc (e)
    go (Some pick) f e = record { pick = pick; at = f; of = e }

pub numbered_low : (sets : List (List Change)) (picks : List Pick) (m : ℕ) (c : Change) → numbered sets picks m ≡ Some c → m < length picks
numbered_low sets picks m c e = let p = pick_at sets picks m c e in slice_get_within picks m p.pick p.at

-- ---- the walk along a list of equal nodes

abbrev pub rest_of : Option ℕ → ℕ
rest_of None = 0
rest_of (Some m) = suc m

-- no number of the command is left out but those along the list from here
pub record IsFrom (sets : List (List Change)) (picks : List Pick) (c : Change) (at : Option ℕ) : Type 0 where
  pub bound : ℕ
  pub high : bound ≤ length picks
  pub last : IsLastOf sets picks c.node bound at
  pub rest : (m : ℕ) → bound ≤ m → numbered sets picks m ≡ Some c → ⊥

last_low : (sets : List (List Change)) (picks : List Pick) (p : Node) (bound m : ℕ) (at : Option ℕ) → at ≡ Some m → IsLastOf sets picks p bound at → m < bound
last_low sets picks p bound m None e h = cc (e)
last_low sets picks p bound m (Some k) e h = let s : k ≡ m = same e in let l : k < bound = h.0 in omega arith
  where
    same : Some k ≡ Some m → k ≡ m
    same e = cc

last_names : (sets : List (List Change)) (picks : List Pick) (p : Node) (bound m : ℕ) (at : Option ℕ) → at ≡ Some m → IsLastOf sets picks p bound at → Names sets picks m p
last_names sets picks p bound m None e h = cc (e)
last_names sets picks p bound m (Some k) e h = subst (λ n. Names sets picks n p) (same e) h.1
  where
    same : Some k ≡ Some m → k ≡ m
    same e = cc

last_rest : (sets : List (List Change)) (picks : List Pick) (p : Node) (bound m : ℕ) (at : Option ℕ) → at ≡ Some m → IsLastOf sets picks p bound at → (x : ℕ) (c : Change) → m < x → x < bound → numbered sets picks x ≡ Some c → c.node ≡ p → ⊥
last_rest sets picks p bound m None e h x c low high = cc (e)
last_rest sets picks p bound m (Some k) e h x c low high = h.2 x c (let s : k ≡ m = same e in omega arith) high
  where
    same : Some k ≡ Some m → k ≡ m
    same e = cc

none_left : (sets : List (List Change)) (picks : List Pick) (p : Node) (bound : ℕ) (at : Option ℕ) → at ≡ None → IsLastOf sets picks p bound at → (x : ℕ) (c : Change) → x < bound → numbered sets picks x ≡ Some c → c.node ≡ p → ⊥
none_left sets picks p bound None e h = h
none_left sets picks p bound (Some k) e h = cc (e)

-- the walk starts at the last number of the node
pub walk_start : (sets : List (List Change)) (picks : List Pick) (c : Change) (head : Option ℕ) → IsLastOf sets picks c.node (length picks) head → IsFrom sets picks c head
walk_start sets picks c head h = record {
  bound = length picks;
  high = omega arith;
  last = h;
  rest = λ m low e. let l : m < length picks = numbered_low sets picks m c e in absurd (omega arith);
}

module _ (sets : List (List Change)) (picks : List Pick) (nexts : List (Option ℕ)) (linked : AreLinked sets picks nexts) (c : Change) (at : Option ℕ) (from : IsFrom sets picks c at) (m : ℕ) (is : at ≡ Some m) where
  pub walk_low : m < length picks
  walk_low = let l : m < from.bound = last_low sets picks c.node from.bound m at is from.last in let h = from.high in omega arith

  pub walk_pick : (d : Pick) → IsPick sets (get_or picks m d)
  walk_pick d = let l = linked.least m (get_or picks m d) (slice_get-get_or picks m d walk_low) in pick_is sets (get_or picks m d) l.0 l.1

  pub walk_found : (d : Pick) (x : Change) (r : Bool) → command_of sets (get_or picks m d) ≡ Some x → IsTrue r ↔ (x ≡ c) → r ≡ true → numbered sets picks m ≡ Some c
  walk_found d x r e says right_r = numbered_at sets picks m (get_or picks m d) (slice_get-get_or picks m d walk_low) ∙ e ∙ ap Some (says.0 right_r)

  -- the command of the number names the node, so that the new values alone tell whether it is the one looked for
  pub walk_same : (d : Pick) (x : Change) (r : Bool) (v w : Value) → command_of sets (get_or picks m d) ≡ Some x → (x.node ≡ c.node → x.new ≡ c.new → x ≡ c) → v ≡ x.new → w ≡ c.new → IsTrue r ↔ (v ≡ w) → IsTrue r ↔ (x ≡ c)
  walk_same d x r v w e whole left right says = (λ t. whole node (sym left ∙ says.0 t ∙ right), λ is. says.1 (left ∙ ap (λ y. y.new) is ∙ sym right))
    where
      same : {a b : Change} → Some a ≡ Some b → a ≡ b
      same e = cc

      last : Names sets picks m c.node
      last = last_names sets picks c.node from.bound m at is from.last

      node : x.node ≡ c.node
      node = ap (λ y. y.node) (same (sym e ∙ sym (numbered_at sets picks m (get_or picks m d) (slice_get-get_or picks m d walk_low)) ∙ last.1)) ∙ last.2

  low_next : m < length nexts
  low_next = let l = walk_low in let e = linked.many in omega arith

  next_at : slice_get nexts m ≡ Some (get_or nexts m None)
  next_at = slice_get-get_or nexts m None low_next

  names : Names sets picks m c.node
  names = last_names sets picks c.node from.bound m at is from.last

  next_last : IsLastOf sets picks c.node m (get_or nexts m None)
  next_last = subst (λ p. IsLastOf sets picks p m (get_or nexts m None)) names.2 (linked.each m (get_or nexts m None) names.0 next_at names.1)

  pub walk_smaller : rest_of (get_or nexts m None) < rest_of at
  walk_smaller = subst (λ o. rest_of (get_or nexts m None) < rest_of o) (sym is) (go (get_or nexts m None) refl next_last)
    where
      go : (o : Option ℕ) → get_or nexts m None ≡ o → IsLastOf sets picks c.node m o → rest_of o < suc m
      go None f h = omega arith
      go (Some k) f h = let l : k < m = h.0 in omega arith

  pub walk_next : (d : Pick) (x : Change) (r : Bool) → command_of sets (get_or picks m d) ≡ Some x → IsTrue r ↔ (x ≡ c) → r ≡ false → IsFrom sets picks c (get_or nexts m None)
  walk_next d x r e says wrong_r = record {
    bound = m;
    high = let l = walk_low in omega arith;
    last = next_last;
    rest = λ n low f. split n f (cases_lt m n) low (cases_lt n from.bound);
  }
    where
      here : numbered sets picks m ≡ Some x
      here = numbered_at sets picks m (get_or picks m d) (slice_get-get_or picks m d walk_low) ∙ e

      same : Some x ≡ Some c → x ≡ c
      same e = cc

      split : (n : ℕ) → numbered sets picks n ≡ Some c → (m < n) ⊎ (n ≤ m) → m ≤ n → (n < from.bound) ⊎ (from.bound ≤ n) → ⊥
      split n f (inl more) low (inl high) = last_rest sets picks c.node from.bound m at is from.last n c more high f refl
      split n f (inl more) low (inr high) = from.rest n high f
      split n f (inr less) low b = let s : m ≡ n = omega arith in
          let t : r ≡ true = says.1 (same (sym here ∙ ap (numbered sets picks) s ∙ f)) in cc (t, wrong_r)

pub walk_over : (sets : List (List Change)) (picks : List Pick) (c : Change) (at : Option ℕ) → IsFrom sets picks c at → at ≡ None → (m : ℕ) → numbered sets picks m ≡ Some c → ⊥
walk_over sets picks c at from is m e = go (cases_lt m from.bound)
  where
    go : (m < from.bound) ⊎ (from.bound ≤ m) → ⊥
    go (inl low) = none_left sets picks c.node from.bound at is from.last m c low e refl
    go (inr high) = from.rest m high e

-- ---- one more number

pub path_within : (rows : List Row) (i : ℕ) (p : Node) → IsNodeAt rows i p → i < length rows
path_within rows i p e = go (slice_get rows i) refl e
  where
    go : (o : Option Row) → slice_get rows i ≡ o → option_map (λ (r : Row). r.path) o ≡ Some p → i < length rows
    go None f e = cc (e)
    go (Some row) f e = slice_get_within rows i row f

more_numbered : (sets : List (List Change)) (picks : List Pick) (pick : Pick) (m : ℕ) (c : Change) → numbered sets (picks ++ pick ∷ []) m ≡ Some c → (numbered sets picks m ≡ Some c) ⊎ ((m ≡ length picks) × (command_of sets pick ≡ Some c))
more_numbered sets picks pick m c e = let p = pick_at sets (picks ++ pick ∷ []) m c e in go p (last_or picks pick m p.pick p.at)
  where
    go : (p : IsPickAt sets (picks ++ pick ∷ []) m c) → (slice_get picks m ≡ Some p.pick) ⊎ ((m ≡ length picks) × (p.pick ≡ pick)) → (numbered sets picks m ≡ Some c) ⊎ ((m ≡ length picks) × (command_of sets pick ≡ Some c))
    go p (inl at) = inl (numbered_at sets picks m p.pick at ∙ p.of)
    go p (inr same) = inr (same.0, ap (command_of sets) (sym same.1) ∙ p.of)

pub keep_more : (sets : List (List Change)) (picks : List Pick) (pick : Pick) → KeepNumbers sets picks (picks ++ pick ∷ [])
keep_more sets picks pick m c e = let p = pick_at sets picks m c e in numbered_at sets (picks ++ pick ∷ []) m p.pick (first_part picks (pick ∷ []) m p.pick p.at) ∙ p.of

-- the last number of a node, as seen with one more pick
last_with : (sets : List (List Change)) (old new : List Pick) (p : Node) (b1 b2 : ℕ) (o : Option ℕ) → b1 ≤ b2 → KeepNumbers sets old new → ((x : ℕ) (d : Change) → x < b2 → numbered sets new x ≡ Some d → d.node ≡ p → (x < b1) × (numbered sets old x ≡ Some d)) → IsLastOf sets old p b1 o → IsLastOf sets new p b2 o
last_with sets old new p b1 b2 None le keep back h = λ x d low e f. let k = back x d low e f in h x d k.0 k.1 f
last_with sets old new p b1 b2 (Some m) le keep back h = (
  let l : m < b1 = h.0 in omega arith,
  (h.1.0, keep m h.1.0 h.1.1, h.1.2),
  λ x d low high e f. let k = back x d high e f in h.2 x d low k.0 k.1 f,
)

-- where no earlier set has the command, its log is the least that has it
least_log : (sets : List (List Change)) (k i : ℕ) (c : Change) → slice_get (set_from sets k) i ≡ Some c → ((l j : ℕ) → l < k → slice_get (set_from sets l) j ≡ Some c → ⊥) → first_with sets c ≡ k
least_log [] k i c e none = cc (e)
least_log (set ∷ sets) zero i c e none = ap (λ b. if b then zero else suc (first_with sets c)) (in_from_place set i c e)
least_log (set ∷ sets) (suc k) i c e none = go (is_in set c) refl (least_log sets k i c e (λ l j low f. none (suc l) j (omega arith) f))
  where
    go : (b : Bool) → is_in set c ≡ b → first_with sets c ≡ k → (if b then zero else suc (first_with sets c)) ≡ suc k
    go true f ih = let p = place_from_in set c f in absurd (none zero p.0 (omega arith) p.1)
    go false f ih = ap suc ih

module _ (sets : List (List Change)) (nodes : List Row) (ascending : is_ascending nodes ≡ true) (picks : List Pick) (heads nexts : List (Option ℕ)) (chained : AreChained sets nodes picks heads nexts)
    (node : ℕ) (pick : Pick) (c : Change) (of : command_of sets pick ≡ Some c) (at : IsNodeAt nodes node c.node) where
  pub node_low : node < length heads
  node_low = let l : node < length nodes = path_within nodes node c.node at in let e = chained.many in omega arith

  pub head_last : IsLastOf sets picks c.node (length picks) (get_or heads node None)
  head_last = chained.each node (get_or heads node None) c.node (slice_get-get_or heads node None node_low) at

  module _ (covered : AreCovered sets picks (pick.log - 1)) (none : (m : ℕ) → numbered sets picks m ≡ Some c → ⊥) where
    log_is : pick.log ≡ log_of sets c
    log_is = go pick.log refl
      where
        go : (log : ℕ) → pick.log ≡ log → pick.log ≡ log_of sets c
        go zero e = let n : set_of sets pick.log ≡ [] = ap (set_of sets) e in let l = (pick_is sets pick c of).low in absurd (omega arith)
        go (suc k) e = e ∙ ap suc (sym (least_log sets k pick.place c (ap (λ log. slice_get (set_of sets log) pick.place) (sym e) ∙ of) (λ l j low f. let m = covered l j c (omega arith) f in none m.0 m.1)))

    abbrev new_picks : List Pick
    new_picks = picks ++ pick ∷ []

    long : length new_picks ≡ length picks + 1
    long = length-append picks (pick ∷ [])

    added_node : (x : ℕ) (d : Change) → (x ≡ length picks) × (command_of sets pick ≡ Some d) → c.node ≡ d.node
    added_node x d h = ap (λ y. y.node) (same (sym of ∙ h.1))
      where
        same : Some c ≡ Some d → c ≡ d
        same e = cc

    module _ (head : Option ℕ) (before : slice_get heads node ≡ Some head) where
      abbrev new_heads : List (Option ℕ)
      new_heads = slice_set heads node (Some (length picks))

      abbrev new_nexts : List (Option ℕ)
      new_nexts = nexts ++ head ∷ []

      own_last : IsLastOf sets picks c.node (length picks) head
      own_last = chained.each node head c.node before at

      next_each : (m : ℕ) (o : Option ℕ) (d : Change) → slice_get new_nexts m ≡ Some o → numbered sets new_picks m ≡ Some d → IsLastOf sets new_picks d.node m o
      next_each m o d e f = go (last_or nexts head m o e)
        where
          kept : (x : ℕ) (y : Change) (b : ℕ) → b ≤ length picks → x < b → numbered sets new_picks x ≡ Some y → (x < b) × (numbered sets picks x ≡ Some y)
          kept x y b le low g = (low, split (more_numbered sets picks pick x y g))
            where
              split : (numbered sets picks x ≡ Some y) ⊎ ((x ≡ length picks) × (command_of sets pick ≡ Some y)) → numbered sets picks x ≡ Some y
              split (inl old) = old
              split (inr new) = let e = new.0 in absurd (omega arith)

          go : (slice_get nexts m ≡ Some o) ⊎ ((m ≡ length nexts) × (o ≡ head)) → IsLastOf sets new_picks d.node m o
          go (inl old) = let low : m < length nexts = slice_get_within nexts m o old in let many = chained.linked.many in
              last_with sets picks new_picks d.node m m o (omega arith) (keep_more sets picks pick) (λ x y l g h. kept x y m (omega arith) l g) (chained.linked.each m o d old (kept m d (length picks) (omega arith) (omega arith) f).1)
          go (inr new) = let many = chained.linked.many in let n : m ≡ length picks = new.0 ∙ many in
              let here : (numbered sets picks m ≡ Some d) ⊎ ((m ≡ length picks) × (command_of sets pick ≡ Some d)) = more_numbered sets picks pick m d f in
              let names : c.node ≡ d.node = own n here in
              subst (λ k. IsLastOf sets new_picks d.node k o) (sym n)
              (last_with sets picks new_picks d.node (length picks) (length picks) o (omega arith) (keep_more sets picks pick) (λ x y l g h. kept x y (length picks) (omega arith) l g)
              (subst (λ q. IsLastOf sets picks q (length picks) o) names (subst (λ q. IsLastOf sets picks c.node (length picks) q) (sym new.1) own_last)))
            where
              own : m ≡ length picks → (numbered sets picks m ≡ Some d) ⊎ ((m ≡ length picks) × (command_of sets pick ≡ Some d)) → c.node ≡ d.node
              own n (inl old) = let l : m < length picks = numbered_low sets picks m d old in absurd (omega arith)
              own n (inr h) = added_node m d h

      head_each : (place : ℕ) (o : Option ℕ) (p : Node) → slice_get new_heads place ≡ Some o → IsNodeAt nodes place p → IsLastOf sets new_picks p (length new_picks) o
      head_each place o p e at_p = go (set_or heads node (Some (length picks)) place o e)
        where
          same_node : Some c.node ≡ Some p → c.node ≡ p
          same_node e = cc

          go : ((place ≡ node) × (o ≡ Some (length picks))) ⊎ ((place ≡ node → ⊥) × (slice_get heads place ≡ Some o)) → IsLastOf sets new_picks p (length new_picks) o
          go (inl own) = subst (λ q. IsLastOf sets new_picks p (length new_picks) q) (sym own.1) (
            (let l = long in omega arith),
            (c, numbered_at sets new_picks (length picks) pick (at_end picks pick) ∙ of, same_node (sym at ∙ ap (λ k. path_at nodes k) (sym own.0) ∙ at_p)),
            λ x d low high f g. let l = long in absurd (omega arith),
          )
          go (inr other) = last_with sets picks new_picks p (length picks) (length new_picks) o (let l = long in omega arith) (keep_more sets picks pick)
              (λ x d low f g. back x d g (more_numbered sets picks pick x d f)) (chained.each place o p other.1 at_p)
            where
              back : (x : ℕ) (d : Change) → d.node ≡ p → (numbered sets picks x ≡ Some d) ⊎ ((x ≡ length picks) × (command_of sets pick ≡ Some d)) → (x < length picks) × (numbered sets picks x ≡ Some d)
              back x d g (inl old) = (numbered_low sets picks x d old, old)
              back x d g (inr new) = absurd (other.0 (one_place nodes ascending place node p at_p (at ∙ ap Some (added_node x d new ∙ g))))

      add_different : AreDifferent sets new_picks
      add_different m n d e f = go (more_numbered sets picks pick m d e) (more_numbered sets picks pick n d f)
        where
          same : Some c ≡ Some d → d ≡ c
          same e = cc

          go : (numbered sets picks m ≡ Some d) ⊎ ((m ≡ length picks) × (command_of sets pick ≡ Some d)) → (numbered sets picks n ≡ Some d) ⊎ ((n ≡ length picks) × (command_of sets pick ≡ Some d)) → m ≡ n
          go (inl a) (inl b) = chained.different m n d a b
          go (inl a) (inr b) = absurd (none m (a ∙ ap Some (same (sym of ∙ b.1))))
          go (inr a) (inl b) = absurd (none n (b ∙ ap Some (same (sym of ∙ a.1))))
          go (inr a) (inr b) = a.0 ∙ sym b.0

      add_least : AreLeast sets new_picks
      add_least m x e = go (last_or picks pick m x e)
        where
          go : (slice_get picks m ≡ Some x) ⊎ ((m ≡ length picks) × (x ≡ pick)) → (d : Change) × (command_of sets x ≡ Some d) × (x.log ≡ log_of sets d)
          go (inl old) = chained.linked.least m x old
          go (inr new) = (c, ap (command_of sets) new.1 ∙ of, ap (λ y. y.log) new.1 ∙ log_is)

      pub add_chained : AreChained sets nodes new_picks new_heads new_nexts
      add_chained = record {
        linked = record {
          many = length-append nexts (head ∷ []) ∙ (let m = chained.linked.many in let l = long in omega arith);
          each = next_each;
          least = add_least;
        };
        many = length-set heads node (Some (length picks)) ∙ chained.many;
        each = head_each;
        different = add_different;
      }

pub added : (sets : List (List Change)) (nodes : List Row) (ascending : is_ascending nodes ≡ true) (picks : List Pick) (heads nexts : List (Option ℕ)) → AreChained sets nodes picks heads nexts →
    (node : ℕ) (pick : Pick) (c : Change) → command_of sets pick ≡ Some c → IsNodeAt nodes node c.node → AreCovered sets picks (pick.log - 1) → ((m : ℕ) → numbered sets picks m ≡ Some c → ⊥) →
    (picks_after : List Pick) (heads_after nexts_after : List (Option ℕ)) (number : ℕ) → AddsPick picks heads nexts node pick picks_after heads_after nexts_after number → AreChained sets nodes picks_after heads_after nexts_after
added sets nodes ascending picks heads nexts chained node pick c of at covered none picks_after heads_after nexts_after number adds =
    subst (λ l. AreChained sets nodes l heads_after nexts_after) (sym adds.picks_are)
    (subst (λ l. AreChained sets nodes (picks ++ pick ∷ []) l nexts_after) (sym (adds.heads_are ∙ ap (λ n. slice_set heads node (Some n)) adds.number_is))
    (subst (λ l. AreChained sets nodes (picks ++ pick ∷ []) (slice_set heads node (Some (length picks))) l) (sym adds.nexts_are)
    (add_chained sets nodes ascending picks heads nexts chained node pick c of at covered none adds.head adds.before)))

pub added_number : (sets : List (List Change)) (picks : List Pick) (heads nexts : List (Option ℕ)) (node : ℕ) (pick : Pick) (picks_after : List Pick) (heads_after nexts_after : List (Option ℕ)) (number : ℕ) →
    AddsPick picks heads nexts node pick picks_after heads_after nexts_after number → numbered sets picks_after number ≡ command_of sets pick
added_number sets picks heads nexts node pick picks_after heads_after nexts_after number adds =
    ap (λ l. numbered sets l number) adds.picks_are ∙ ap (numbered sets (picks ++ pick ∷ [])) adds.number_is ∙ numbered_at sets (picks ++ pick ∷ []) (length picks) pick (at_end picks pick)

pub added_kept : (sets : List (List Change)) (picks : List Pick) (heads nexts : List (Option ℕ)) (node : ℕ) (pick : Pick) (picks_after : List Pick) (heads_after nexts_after : List (Option ℕ)) (number : ℕ) →
    AddsPick picks heads nexts node pick picks_after heads_after nexts_after number → KeepNumbers sets picks picks_after
added_kept sets picks heads nexts node pick picks_after heads_after nexts_after number adds = subst (KeepNumbers sets picks) (sym adds.picks_are) (keep_more sets picks pick)
