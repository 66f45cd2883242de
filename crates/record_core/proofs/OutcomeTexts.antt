-- The commands of an outcome have a text, where the script and the tree are of paths and values alone.
use Rattle.std.proofs.Common.{◌≡◌, ◌⊎◌, inl, inr, ℕ, suc, zero, ◌≤◌, Bool, true, false, not, ◌&&◌, ◌||◌, List, [], ◌∷◌, ◌++◌, length, length-append, drop, None, refl, sym, ap, subst, ◌∙◌, arith, nat_le, nat_lt}
use Rattle.std.specs.Prelude.{IsTrue, Result, if◌then◌else◌, map}
use Rattle.std.specs.List.{AllByRecursion, list_any}
use Rattle.std.proofs.lemmas.Bool.Decides.{nat_tests}
use Rattle.sync_path.specs.Names.{is_name}
use Rattle.sync_path.specs.Paths.{IsPath, Node, moved, same_path}
use Rattle.sync_path.specs.declared.names.TheConstants.{MAX_NAMES}
use Rattle.sync_path.proofs.CallerLemmas.{same_path_is, same_path_refl}
use Rattle.sync_command.specs.declared.values.Value.{Value}
use Rattle.sync_command.specs.declared.values.Value.TheVariants.{Empty, Dir, File}
use Rattle.sync_command.specs.declared.values.Version.{Version}
use Rattle.sync_command.specs.Values.{IsValue, is_empty, is_of_version, same_value}
use Rattle.sync_command.specs.Changes.{Change, is_change}
use Rattle.sync_command.specs.Maps.{IsTreeMap, Store, at, store, stored}
use Rattle.sync_command.specs.Trees.{Holding, Takes, put}
use Rattle.sync_command.proofs.CallerLemmas.{at-store, empty_is, kept_trees}
use Rattle.sync_port.specs.Ports.{SinkContents}
use Rattle.log_text.specs.Logs.{IsCommand, IsLog}
use Rattle.log_text.specs.declared.frame.TheConstants.{MAX_ITEMS}
use Rattle.record_core.specs.declared.faults.RecordFault.{RecordFault}
use Rattle.record_core.specs.declared.limits.TheConstants.{MAX_LOG_LEN}
use Rattle.record_core.specs.declared.ops.Op.{Op}
use Rattle.record_core.specs.declared.ops.Op.TheVariants as op
use Rattle.record_core.specs.Meanings.{backwards, commands_of, copied, emptied, first_that_applies, has_foreign_label, is_labelled, nodes_of, subtree, tests, to_value}
use Rattle.record_core.specs.Outcomes.{RecordsScript, outcome_of}
use Rattle.record_core.specs.Plans.{HasNames, is_deep}
use Rattle.record_core.specs.Recording.{IsClosed, LeavesOpen}
use Rattle.record_core.specs.Seals.{LeavesLog}
use Rattle.record_core.specs.Texts.{closed_text, is_within}
use Rattle.record_core.specs.Validity.{HoldsValue, HoldsValues, IsOp}
use Rattle.record_core.proofs.Ascending.{has, not_both, or_left, or_right}
use Rattle.record_core.proofs.Meant.{has_backwards}
use Rattle.record_core.proofs.OpenTexts.{leaves_closed_log, leaves_open_log, record_leaves}
use Rattle.record_core.proofs.Planned.{are_free}
use Rattle.record_core.proofs.SubtreeLemmas.{any_at, in_subtree}
use Rattle.record_core.proofs.Taken.{AreMeant, goes_on_taken, outcome_keeps, outcome_taken}

-- ---- lists

each_append : {A : Type 0} (P : A → Type 0) (xs ys : List A) → AllByRecursion P xs → AllByRecursion P ys → AllByRecursion P (xs ++ ys)
each_append P [] ys f g = g
each_append P (x ∷ xs) ys f g = (f.0, each_append P xs ys f.1 g)

each_drop : {A : Type 0} (P : A → Type 0) (k : ℕ) (xs : List A) → AllByRecursion P xs → AllByRecursion P (drop k xs)
each_drop P zero [] h = h
each_drop P zero (x ∷ xs) h = h
each_drop P (suc k) [] h = h
each_drop P (suc k) (x ∷ xs) h = each_drop P k xs h.1

each_map : (P : Change → Type 0) (f : Node → Change) (ns : List Node) → ((n : Node) → has ns n ≡ true → P (f n)) → AllByRecursion P (map f ns)
each_map P f [] h = tt
each_map P f (n ∷ ns) h = (h n (or_left (same_path n n) (has ns n) (same_path_refl n)), each_map P f ns (λ k i. h k (or_right (same_path k n) (has ns k) i)))

-- ---- values

-- each node holds a value, be it Empty
held_value : (t : Holding) → HoldsValues t → (n : Node) → IsValue (t n)
held_value t holds n = go (is_empty (t n)) refl
  where
    go : (b : Bool) → is_empty (t n) ≡ b → IsValue (t n)
    go true e = subst IsValue (sym (empty_is (t n) e)) tt
    go false e = (holds n e).value

-- what is not Empty differs from it
full_differs : (v : Value) → is_empty v ≡ false → (same_value v Empty ≡ false) × (same_value Empty v ≡ false)
full_differs Empty e = cc
full_differs (Dir label) e = (refl, refl)
full_differs (File bytes) e = (refl, refl)

-- a value that is put at a path
values_put : (t : Holding) (n : Node) (v : Value) → HoldsValues t → IsPath n → IsValue v → HoldsValues (put t n v)
values_put t n v holds path value p = go (same_path p n) refl
  where
    go : (s : Bool) → same_path p n ≡ s → is_empty (if s then v else t p) ≡ false → HoldsValue (put t n v) p
    go true s full = record {
      path = subst IsPath (sym (same_path_is p n s)) path;
      value = subst (λ b. IsValue (if b then v else t p)) (sym s) value;
    }
    go false s full = let h = holds p full in record { path = h.path; value = subst (λ b. IsValue (if b then v else t p)) (sym s) h.value }

-- commands that have a text leave values
values_stored : (version : Version) (m : Store) (cs : List Change) → AllByRecursion (IsCommand version) cs → HoldsValues (at m) → HoldsValues (at (stored m cs))
values_stored version m [] each holds = holds
values_stored version m (c ∷ cs) each holds =
    values_stored version (store m c.node c.new) cs each.1 (subst HoldsValues (sym (at-store m c.node c.new)) (values_put (at m) c.node c.new holds each.0.node each.0.new))

-- ---- moved paths

-- a moved path that is not too deep is a path
moved_path : (n p q : Node) → IsPath n → IsPath q → is_deep p q n ≡ false → IsPath (moved n p q)
moved_path n p q from to deep = record {
  some = let l = length-append q (drop (length p) n) in let s = to.some in omega (arith, l, s);
  deep = few (length (moved n p q)) deep;
  each = each_append (λ name. IsTrue (is_name name)) q (drop (length p) n) to.each (each_drop (λ name. IsTrue (is_name name)) (length p) n from.each);
}
  where
    few : (k : ℕ) → nat_lt MAX_NAMES k ≡ false → k ≤ MAX_NAMES
    few k e = grind (arith, nat_tests)

-- ---- commands

-- a path and two values that differ
record IsSaid (c : Change) : Type 0 where
  node : IsPath c.node
  old : IsValue c.old
  new : IsValue c.new
  differ : is_change c ≡ true

-- commands of paths and values that differ, none with a label that is foreign to the version
each_command : (version : Version) (cs : List Change) → AllByRecursion IsSaid cs → is_labelled version cs ≡ false → AllByRecursion (IsCommand version) cs
each_command version [] said plain = tt
each_command version (c ∷ cs) said plain =
    let p = neither (has_foreign_label version c) (is_labelled version cs) plain in
    let v = both (is_of_version version c.old) (is_of_version version c.new) p.0 in (
      record { node = said.0.node; old = said.0.old; new = said.0.new; differ = said.0.differ; of_version = record { old = v.0; new = v.1 } },
      each_command version cs said.1 p.1,
    )
  where
    neither : (a b : Bool) → (a || b) ≡ false → (a ≡ false) × (b ≡ false)
    neither true b e = cc
    neither false b e = (refl, e)

    both : (a b : Bool) → not (a && b) ≡ false → (a ≡ true) × (b ≡ true)
    both true true e = (refl, refl)
    both true false e = cc
    both false b e = cc

module _ (m : Store) (tree : IsTreeMap m) (holds : HoldsValues (at m)) where
  -- the one command of an operation
  one_said : (n : Node) (v : Value) → IsPath n → IsValue v → AllByRecursion IsSaid (to_value (nodes_of m) n v)
  one_said n v path value = go (same_value (at m n) v) refl
    where
      go : (s : Bool) → same_value (at m n) v ≡ s → AllByRecursion IsSaid (if s then [] else record { node = n; old = at m n; new = v } ∷ [])
      go true s = tt
      go false s = (record { node = path; old = held_value (at m) holds n; new = value; differ = ap not s }, tt)

  -- a subtree that is emptied
  emptied_said : (p : Node) → AllByRecursion IsSaid (map (emptied (at m)) (backwards (subtree (nodes_of m) p)))
  emptied_said p = each_map IsSaid (emptied (at m)) (backwards (subtree (nodes_of m) p)) (λ n h.
      let full = (in_subtree m tree p n (sym (has_backwards (subtree (nodes_of m) p) n) ∙ h)).0 in
      let at_n = holds n full in
      record { node = at_n.path; old = at_n.value; new = tt; differ = ap not (full_differs (at m n) full).0 })

  -- a subtree that is copied
  copied_said : (p q : Node) → IsPath q → list_any (is_deep p q) (subtree (nodes_of m) p) ≡ false → AllByRecursion IsSaid (map (copied (at m) p q) (subtree (nodes_of m) p))
  copied_said p q to shallow = each_map IsSaid (copied (at m) p q) (subtree (nodes_of m) p) (λ n h.
      let full = (in_subtree m tree p n h).0 in
      let at_n = holds n full in
      record { node = moved_path n p q at_n.path to (not_deep n h); old = tt; new = at_n.value; differ = ap not (full_differs (at m n) full).1 })
    where
      not_deep : (n : Node) → has (subtree (nodes_of m) p) n ≡ true → is_deep p q n ≡ false
      not_deep n h = go (is_deep p q n) refl
        where
          go : (b : Bool) → is_deep p q n ≡ b → b ≡ false
          go true e = absurd (not_both (list_any (is_deep p q) (subtree (nodes_of m) p)) (any_at (is_deep p q) (subtree (nodes_of m) p) n h e) shallow)
          go false e = refl

  -- the commands of an operation that no test refuses
  commands_said : (o : Op) → IsOp o → first_that_applies (tests (nodes_of m) o) ≡ None → AllByRecursion IsSaid (commands_of (nodes_of m) o)
  commands_said (op.Mkdir p) is e = one_said p (Dir []) is (tt, omega arith)
  commands_said (op.Put p bytes) is e = one_said p (File bytes) is.0 is.1
  commands_said (op.Del p) is e = one_said p Empty is tt
  commands_said (op.Label p label) is e = one_said p (Dir label) is.0 is.1
  commands_said (op.Deltree p) is e = emptied_said p
  commands_said (op.Copy p q) is e = copied_said p q is.1 (are_free m p q e).shallow
  commands_said (op.Move p q) is e =
      each_append IsSaid (map (copied (at m) p q) (subtree (nodes_of m) p)) (map (emptied (at m)) (backwards (subtree (nodes_of m) p)))
      (copied_said p q is.1 (are_free m p q e).shallow) (emptied_said p)

-- ---- an outcome

-- a path has a name
has_names : (o : Op) → IsOp o → HasNames o
has_names (op.Mkdir p) is = tt
has_names (op.Put p bytes) is = tt
has_names (op.Del p) is = tt
has_names (op.Label p label) is = tt
has_names (op.Deltree p) is = tt
has_names (op.Copy p q) is = (is.0.some, is.1.some)
has_names (op.Move p q) is = (is.0.some, is.1.some)

pub have_names : (script : List Op) → AllByRecursion IsOp script → AllByRecursion HasNames script
have_names [] each = tt
have_names (o ∷ script) each = (has_names o each.0, have_names script each.1)

-- a list within the limits is short enough
within_few : (version : Version) (cs : List Change) → is_within version cs ≡ true → length cs ≤ MAX_ITEMS
within_few version cs e = go (nat_le (length cs) MAX_ITEMS) refl e
  where
    few : nat_le (length cs) MAX_ITEMS ≡ true → length cs ≤ MAX_ITEMS
    few e = grind (arith, nat_tests)

    go : (b : Bool) → nat_le (length cs) MAX_ITEMS ≡ b → (b && nat_le (length (closed_text version cs)) MAX_LOG_LEN) ≡ true → length cs ≤ MAX_ITEMS
    go true e f = few e
    go false e f = absurd (not_both false f refl)

-- a list that has a text, and that the tree takes
record IsTakenLog (version : Version) (m : Store) (cs : List Change) : Type 0 where
  taken : Takes (at m) cs
  log : IsLog version cs

-- an operation more
log_keeps : (version : Version) (m : Store) → IsTreeMap m → HoldsValues (at m) → (done cs : List Change) (o : Op) → IsTakenLog version m done → IsOp o → AreMeant version (nodes_of (stored m done)) o cs
    → is_within version (done ++ cs) ≡ true → IsTakenLog version m (done ++ cs)
log_keeps version m tree holds done cs o before is meant within =
    let said = commands_said (stored m done) (kept_trees m done tree before.taken) (values_stored version m done before.log.each holds) o is meant.allowed in
    record {
      taken = goes_on_taken version m tree done cs o before.taken (has_names o is) meant;
      log = record {
        few = within_few version (done ++ cs) within;
        each = each_append (IsCommand version) done cs before.log.each (each_command version cs (subst (AllByRecursion IsSaid) meant.commands said) meant.plain);
      };
    }

-- the commands of an outcome have a text
pub outcome_log : (version : Version) (script : List Op) (m : Store) → IsTreeMap m → HoldsValues (at m) → AllByRecursion IsOp script → IsLog version (outcome_of version m script).commands
outcome_log version script m tree holds ops =
    (outcome_keeps (IsTakenLog version m) IsOp version m (log_keeps version m tree holds) [] 1 script ops (record { taken = tt; log = record { few = omega arith; each = tt } })).log

-- ---- a recording

-- what a recording leaves, cut short or closed, is an open log
pub outcome_leaves_log : (version : Version) (script : List Op) (w x : SinkContents) (m n : Store) → IsTreeMap m → HoldsValues (at m) → AllByRecursion IsOp script →
    IsClosed version (outcome_of version m script).commands w x m n ⊎ LeavesOpen version (outcome_of version m script).commands w x m n → LeavesLog (outcome_of version m script).commands w x m n
outcome_leaves_log version script w x m n tree holds ops left = go left (outcome_log version script m tree holds ops) (outcome_taken version script m tree (have_names script ops))
  where
    go : IsClosed version (outcome_of version m script).commands w x m n ⊎ LeavesOpen version (outcome_of version m script).commands w x m n →
        IsLog version (outcome_of version m script).commands → Takes (at m) (outcome_of version m script).commands → LeavesLog (outcome_of version m script).commands w x m n
    go (inl closed) log takes = leaves_closed_log version (outcome_of version m script).commands w x m n log takes closed
    go (inr cut) log takes = leaves_open_log version (outcome_of version m script).commands w x m n log takes cut

-- and so is what `record` leaves
pub record_leaves_log : (version : Version) (script : List Op) (result : Result ℕ RecordFault) (w x : SinkContents) (m n : Store) → IsTreeMap m → HoldsValues (at m) → AllByRecursion IsOp script →
    RecordsScript version script result w x m n → LeavesLog (outcome_of version m script).commands w x m n
record_leaves_log version script result w x m n tree holds ops records =
    record_leaves version script result w x m n (outcome_log version script m tree holds ops) (outcome_taken version script m tree (have_names script ops)) records
