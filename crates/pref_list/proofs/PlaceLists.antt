-- Lists of the places of nodes, filled node by node.
use Rattle.std.proofs.Common.{◌≡◌, ℕ, zero, suc, ◌<◌, ◌≤◌, ◌+◌, ◌-◌, List, [], ◌∷◌, get_or, length, Some, refl, sym, ap, subst, ◌∙◌, true, arith, ◌⊎◌, inl, inr}
use Rattle.std.specs.Prelude.{Vec, slice_set, vec_len}
use Rattle.std.specs.Global.{Global}
use Rattle.std.specs.List.{slice_get}
use Rattle.std.specs.Vec.{with_item}
use Rattle.std.proofs.lemmas.Option.{slice_get_within, slice_get-get_or, slice_get_read}
use Rattle.std.proofs.lemmas.Bool.{cases_lt}
use Rattle.std.proofs.lemmas.List.{length-set}
use Rattle.sync_path.specs.Paths.{Node}
use Rattle.sync_command.specs.declared.commands.Row.{Row}
use Rattle.sync_command.specs.Changes.{Change}
use Rattle.sync_command.specs.Trees.{one_each}
use Rattle.refluent.specs.Joints.{Joined, IsJoint, path_at}
use Rattle.refluent.specs.Picks.{net_commands}
use Rattle.refluent.specs.declared.joint.Pick.{Pick}
use Rattle.pref_list.specs.Picks.{command_of}
use Rattle.pref_list.specs.Ranking.{set_from, set_of}
use Rattle.pref_list.specs.Numbers.{IsNodeAt, IsPick, AreAllNodesOf}
use Rattle.pref_list.proofs.Ends.{set_or}
use Rattle.pref_list.proofs.Named.{named}
use Rattle.pref_list.proofs.NetPicks.{PicksNode, net_picks_name, net_picks_have, one_each-set}
use Rattle.pref_list.proofs.Numbering.{path_within, pick_is}

-- one list for each set, as long as that
pub record AreAsLong (sets : List (List Change)) (lists : List (Vec ℕ Global)) : Type 0 where
  pub many : length lists ≡ length sets
  pub each : (l : ℕ) (places : Vec ℕ Global) → slice_get lists l ≡ Some places → length places.items ≡ length (set_from sets l)

-- the entry of a command is the place of its node
abbrev pub IsRightAt : List Row → List (List Change) → List (Vec ℕ Global) → ℕ → ℕ → Type 0
IsRightAt nodes sets lists l i =
    (places : Vec ℕ Global) (place : ℕ) (c : Change) → slice_get lists l ≡ Some places → slice_get places.items i ≡ Some place → slice_get (set_from sets l) i ≡ Some c → IsNodeAt nodes place c.node

-- the entries of the commands that name one of the first so many nodes are right
pub record FilledTo (nodes : List Row) (sets : List (List Change)) (lists : List (Vec ℕ Global)) (n : ℕ) : Type 0 where
  pub long : AreAsLong sets lists
  pub right : (k l i : ℕ) (c : Change) → k < n → slice_get (set_from sets l) i ≡ Some c → IsNodeAt nodes k c.node → IsRightAt nodes sets lists l i

-- and those of the first so many of these picks
pub record FilledWithin (nodes : List Row) (sets : List (List Change)) (lists : List (Vec ℕ Global)) (n : ℕ) (picks : List Pick) (m : ℕ) : Type 0 where
  pub before : FilledTo nodes sets lists n
  pub own : (k : ℕ) (pick : Pick) → k < m → slice_get picks k ≡ Some pick → IsRightAt nodes sets lists (pick.log - 1) pick.place

set_before : (sets : List (List Change)) (log : ℕ) → 0 < log → set_from sets (log - 1) ≡ set_of sets log
set_before sets zero low = absurd (omega arith)
set_before sets (suc l) low = ap (set_from sets) (let s : suc l - 1 ≡ l = omega arith in s)

-- ---- one entry

-- the list of the pick's log reaches to its place
pub record HasEntry (lists : List (Vec ℕ Global)) (pick : Pick) : Type 0 where
  pub counted : 0 < pick.log
  pub list : pick.log - 1 < length lists
  pub place : (places : Vec ℕ Global) → slice_get lists (pick.log - 1) ≡ Some places → pick.place < length places.items

has_entry : (sets : List (List Change)) (lists : List (Vec ℕ Global)) (pick : Pick) (c : Change) → AreAsLong sets lists → command_of sets pick ≡ Some c → HasEntry lists pick
has_entry sets lists pick c long of = record {
  counted = is.low;
  list = (let high = is.high in let low = is.low in let many = long.many in omega arith);
  place = λ places e.
      let many : length places.items ≡ length (set_of sets pick.log) = long.each (pick.log - 1) places e ∙ ap length (set_before sets pick.log is.low) in
      let low : pick.place < length (set_of sets pick.log) = is.place in
      omega arith;
}
  where
    is : IsPick sets pick
    is = pick_is sets pick c of

-- the entry of the pick is the place of the node, and all others are as before
record IsWritten (old new : List (Vec ℕ Global)) (pick : Pick) (node : ℕ) : Type 0 where
  before : Vec ℕ Global
  after : Vec ℕ Global
  at : slice_get old (pick.log - 1) ≡ Some before
  entry : after.items ≡ slice_set before.items pick.place node
  is : new ≡ slice_set old (pick.log - 1) after

module _ (sets : List (List Change)) (old new : List (Vec ℕ Global)) (pick : Pick) (node : ℕ) (written : IsWritten old new pick node) where
  split : (l : ℕ) (places : Vec ℕ Global) → slice_get new l ≡ Some places → ((l ≡ pick.log - 1) × (places ≡ written.after)) ⊎ ((l ≡ pick.log - 1 → ⊥) × (slice_get old l ≡ Some places))
  split l places e = set_or old (pick.log - 1) written.after l places (ap (λ lists. slice_get lists l) (sym written.is) ∙ e)

  long_after : AreAsLong sets old → AreAsLong sets new
  long_after long = record {
    many = ap length written.is ∙ length-set old (pick.log - 1) written.after ∙ long.many;
    each = λ l places e. go l places (split l places e);
  }
    where
      go : (l : ℕ) (places : Vec ℕ Global) → ((l ≡ pick.log - 1) × (places ≡ written.after)) ⊎ ((l ≡ pick.log - 1 → ⊥) × (slice_get old l ≡ Some places)) → length places.items ≡ length (set_from sets l)
      go l places (inl here) = ap (λ v. length v.items) here.1 ∙ ap length written.entry ∙ length-set written.before.items pick.place node ∙ long.each l written.before (ap (slice_get old) here.0 ∙ written.at)
      go l places (inr other) = long.each l places other.1

  module _ (nodes : List Row) (c : Change) (of : command_of sets pick ≡ Some c) (at : IsNodeAt nodes node c.node) where
    same : {a b : Change} → Some a ≡ Some b → a ≡ b
    same e = cc

    -- the new entry is right, and what was right is so still
    right_after : (l i : ℕ) → ((l ≡ pick.log - 1) × (i ≡ pick.place)) ⊎ IsRightAt nodes sets old l i → IsRightAt nodes sets new l i
    right_after l i known places place d e f g = go known (split l places e)
      where
        own : l ≡ pick.log - 1 → i ≡ pick.place → place ≡ node → IsNodeAt nodes place d.node
        own in_log in_set is =
            let there : slice_get (set_of sets pick.log) pick.place ≡ Some d = ap (λ set. slice_get set pick.place) (sym (set_before sets pick.log (pick_is sets pick c of).low)) ∙ (λ x. slice_get (set_from sets (sym in_log x)) (sym in_set x)) ∙ g in
            subst (λ k. IsNodeAt nodes k d.node) (sym is) (at ∙ ap (λ x. Some x.node) (same (sym of ∙ there)))

        entry : ((l ≡ pick.log - 1) × (i ≡ pick.place)) ⊎ IsRightAt nodes sets old l i → l ≡ pick.log - 1 →
            ((i ≡ pick.place) × (place ≡ node)) ⊎ ((i ≡ pick.place → ⊥) × (slice_get written.before.items i ≡ Some place)) → IsNodeAt nodes place d.node
        entry known in_log (inl here) = own in_log here.0 here.1
        entry (inl here) in_log (inr other) = absurd (other.0 here.1)
        entry (inr right) in_log (inr other) = right written.before place d (ap (slice_get old) in_log ∙ written.at) other.1 g

        go : ((l ≡ pick.log - 1) × (i ≡ pick.place)) ⊎ IsRightAt nodes sets old l i → ((l ≡ pick.log - 1) × (places ≡ written.after)) ⊎ ((l ≡ pick.log - 1 → ⊥) × (slice_get old l ≡ Some places)) → IsNodeAt nodes place d.node
        go known (inl here) = entry known here.0 (set_or written.before.items pick.place node i place (ap (λ l. slice_get l i) (sym written.entry) ∙ ap (λ v. slice_get v.items i) (sym here.1) ∙ f))
        go (inl here) (inr other) = absurd (other.0 here.0)
        go (inr right) (inr other) = right places place d other.1 f g

-- ---- the loops

-- a place among the items of a vector is below its length
pub below_len : {X : Type 0} (v : Vec X Global) (i : ℕ) → i < length v.items → i < vec_len v
below_len v i low = let many = v.ok.0 in omega arith

-- nothing is filled
pub none_filled : (nodes : List Row) (sets : List (List Change)) (lists : List (Vec ℕ Global)) → AreAsLong sets lists → FilledTo nodes sets lists 0
none_filled nodes sets lists long = record { long = long; right = λ k l i c low e at. absurd (omega arith) }

-- no pick of a node is written
pub none_within : (nodes : List Row) (sets : List (List Change)) (lists : List (Vec ℕ Global)) (n : ℕ) (picks : List Pick) → FilledTo nodes sets lists n → FilledWithin nodes sets lists n picks 0
none_within nodes sets lists n picks before = record { before = before; own = λ k pick low e. absurd (omega arith) }

-- the picks are those of the net commands that name the node at a place
pub record ArePicksAt (nodes : List Row) (sets : List (List Change)) (n : ℕ) (picks : List Pick) : Type 0 where
  pub node : Node
  pub at : IsNodeAt nodes n node
  pub are : picks ≡ net_commands sets node

pub picks_at : (nodes : List Row) (sets : List (List Change)) (n : ℕ) (picks : List Pick) → n < length nodes → ((p : Node) → path_at nodes n ≡ Some p → picks ≡ net_commands sets p) → ArePicksAt nodes sets n picks
picks_at nodes sets n picks low are = let own = stands nodes n low in record { node = own.0.path; at = own.1; are = are own.0.path own.1 }
  where
    stands : (rows : List Row) (i : ℕ) → i < length rows → (row : Row) × (path_at rows i ≡ Some row.path)
    stands [] i low = absurd (omega arith)
    stands (row ∷ rows) zero low = (row, refl)
    stands (row ∷ rows) (suc i) low = stands rows i (omega arith)

module _ (nodes : List Row) (sets : List (List Change)) (n : ℕ) (picks : List Pick) (own : ArePicksAt nodes sets n picks) where
  picks_name : (m : ℕ) (pick : Pick) → slice_get picks m ≡ Some pick → PicksNode sets own.node pick
  picks_name m pick e = net_picks_name sets own.node m pick (ap (λ l. slice_get l m) (sym own.are) ∙ e)

  -- the list of a pick's log reaches to its place
  pub pick_entry : (lists : List (Vec ℕ Global)) (m : ℕ) (d : Pick) → FilledWithin nodes sets lists n picks m → m < length picks → HasEntry lists (get_or picks m d)
  pick_entry lists m d filled low = let of = picks_name m (get_or picks m d) (slice_get-get_or picks m d low) in has_entry sets lists (get_or picks m d) of.command filled.before.long of.is

  written_within : (old new : List (Vec ℕ Global)) (m : ℕ) (pick : Pick) → FilledWithin nodes sets old n picks m → slice_get picks m ≡ Some pick → IsWritten old new pick n → FilledWithin nodes sets new n picks (m + 1)
  written_within old new m pick filled e written = record {
    before = record {
      long = long_after sets old new pick n written filled.before.long;
      right = λ k l i c low f g. kept l i (inr (filled.before.right k l i c low f g));
    };
    own = λ k other low f. go k other f (cases_lt k m) low;
  }
    where
      of : PicksNode sets own.node pick
      of = picks_name m pick e

      kept : (l i : ℕ) → ((l ≡ pick.log - 1) × (i ≡ pick.place)) ⊎ IsRightAt nodes sets old l i → IsRightAt nodes sets new l i
      kept = right_after sets old new pick n written nodes of.command of.is (own.at ∙ ap Some (sym of.names))

      same : {a b : Pick} → Some a ≡ Some b → a ≡ b
      same e = cc

      go : (k : ℕ) (other : Pick) → slice_get picks k ≡ Some other → (k < m) ⊎ (m ≤ k) → k < m + 1 → IsRightAt nodes sets new (other.log - 1) other.place
      go k other f (inl less) low = kept (other.log - 1) other.place (inr (filled.own k other less f))
      go k other f (inr more) low =
          let last : k ≡ m = omega arith in
          let is : other ≡ pick = same (sym f ∙ ap (slice_get picks) last ∙ e) in
          kept (other.log - 1) other.place (inl (ap (λ x. x.log - 1) is, ap (λ x. x.place) is))

  -- one more pick is written
  pub one_within : (old : List (Vec ℕ Global)) (m : ℕ) (d : Pick) (before : Vec ℕ Global) → FilledWithin nodes sets old n picks m → m < length picks → before ≡ get_or old ((get_or picks m d).log - 1) before →
      FilledWithin nodes sets (slice_set old ((get_or picks m d).log - 1) (with_item before (get_or picks m d).place n)) n picks (m + 1)
  one_within old m d before filled low is =
      written_within old (slice_set old ((get_or picks m d).log - 1) (with_item before (get_or picks m d).place n)) m (get_or picks m d) filled (slice_get-get_or picks m d low) (record {
        before = before;
        after = with_item before (get_or picks m d).place n;
        at = slice_get_read old (length old) ((get_or picks m d).log - 1) before refl (pick_entry old m d filled low).list is;
        entry = refl;
        is = refl;
      })

  -- all picks of the node are written
  pub one_node : (j : Joined) → IsJoint j → j.sets ≡ sets → (lists : List (Vec ℕ Global)) (m : ℕ) → length picks ≤ m → FilledWithin nodes sets lists n picks m → FilledTo nodes sets lists (n + 1)
  one_node j is of_joint lists m end filled = record {
    long = filled.before.long;
    right = λ k l i c low e f. go k l i c e f (cases_lt k n) low;
  }
    where
      same : {a b : Node} → Some a ≡ Some b → a ≡ b
      same e = cc

      once : (l : ℕ) → one_each (set_from sets l) ≡ true
      once l = subst (λ s. one_each (set_from s l) ≡ true) of_joint (one_each-set j is l)

      go : (k l i : ℕ) (c : Change) → slice_get (set_from sets l) i ≡ Some c → IsNodeAt nodes k c.node → (k < n) ⊎ (n ≤ k) → k < n + 1 → IsRightAt nodes sets lists l i
      go k l i c e f (inl less) low = filled.before.right k l i c less e f
      go k l i c e f (inr more) low =
          let last : k ≡ n = omega arith in
          let names : c.node ≡ own.node = same (sym f ∙ ap (path_at nodes) last ∙ own.at) in
          let pick = net_picks_have sets l i c (once l) e in
          let there : slice_get picks pick.0 ≡ Some (record { log = l + 1; place = i }) = ap (λ x. slice_get x pick.0) (own.are ∙ ap (net_commands sets) (sym names)) ∙ pick.1 in
          let low : pick.0 < m = (let w : pick.0 < length picks = slice_get_within picks pick.0 (record { log = l + 1; place = i }) there in omega arith) in
          subst (λ x. IsRightAt nodes sets lists x i) (let s : l + 1 - 1 ≡ l = omega arith in s) (filled.own pick.0 (record { log = l + 1; place = i }) low there)

-- the picks of all nodes are written
pub all_filled : (j : Joined) → IsJoint j → (lists : List (Vec ℕ Global)) (n : ℕ) → length j.nodes ≤ n → FilledTo j.nodes j.sets lists n → AreAllNodesOf j.nodes j.sets lists
all_filled j is lists n end filled = record {
  many = filled.long.many;
  each = λ l places e. record {
    many = filled.long.each l places e;
    each = λ i place c f g. right l i places place c e f g;
  };
}
  where
    right : (l i : ℕ) → IsRightAt j.nodes j.sets lists l i
    right l i places place c e f g =
        let own = named j is l i c g in
        filled.right own.0 l i c (let low : own.0 < length j.nodes = path_within j.nodes own.0 c.node own.1 in omega arith) g own.1 places place c e f g
