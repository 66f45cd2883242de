-- The commands of an operation are taken by its tree, and those of an outcome by the first one.
use Rattle.std.proofs.Common.{◌≡◌, ℕ, ◌+◌, Bool, true, false, List, [], ◌∷◌, ◌++◌, Option, Some, None, Ok, Err, refl, sym, subst}
use Rattle.std.specs.Prelude.{Result, if◌then◌else◌}
use Rattle.std.specs.List.{AllByRecursion}
use Rattle.sync_path.specs.Paths.{Node}
use Rattle.sync_command.specs.declared.values.Value.{Value}
use Rattle.sync_command.specs.declared.values.Value.TheVariants.{Empty, Dir, File}
use Rattle.sync_command.specs.declared.values.Version.{Version}
use Rattle.sync_command.specs.Values.{same_value}
use Rattle.sync_command.specs.Changes.{Change}
use Rattle.sync_command.specs.Maps.{IsTreeMap, Store, at, stored}
use Rattle.sync_command.specs.Trees.{IsTree, Takes, put}
use Rattle.sync_command.proofs.CallerLemmas.{at-stored, kept_trees}
use Rattle.record_core.specs.declared.faults.Why.{Why}
use Rattle.record_core.specs.declared.faults.Why.TheVariants.{Labelled}
use Rattle.record_core.specs.declared.ops.Op.{Op}
use Rattle.record_core.specs.declared.ops.Op.TheVariants as op
use Rattle.record_core.specs.Meanings.{Nodes, commands_of, first_that_applies, is_labelled, meaning, nodes_of, subtree_copied, subtree_emptied, tests, to_value, unless}
use Rattle.record_core.specs.Outcomes.{Large, goes_on, outcome_from, outcome_of}
use Rattle.record_core.specs.Plans.{HasNames}
use Rattle.record_core.specs.Texts.{is_within}
use Rattle.record_core.proofs.Copies.{copies_taken}
use Rattle.record_core.proofs.Meant.{empties_taken, takes_append}
use Rattle.record_core.proofs.Planned.{are_free, del_tree, file_tree, label_tree, mkdir_tree, moved_taken}
use Rattle.record_core.proofs.ScriptRuns.{outcome_end, outcome_step}

-- ---- one operation

-- the one command from the value held to another, or none
one_taken : (m : Store) (n : Node) (v : Value) → IsTree (put (at m) n v) → Takes (at m) (to_value (nodes_of m) n v)
one_taken m n v tree = go (same_value (at m n) v)
  where
    go : (s : Bool) → Takes (at m) (if s then [] else record { node = n; old = at m n; new = v } ∷ [])
    go true = tt
    go false = (record { old = refl; tree = tree }, tt)

-- a tree takes the commands of an operation that no test refuses
pub commands_taken : (m : Store) → IsTreeMap m → (o : Op) → HasNames o → first_that_applies (tests (nodes_of m) o) ≡ None → Takes (at m) (commands_of (nodes_of m) o)
commands_taken m tree (op.Mkdir p) names e = one_taken m p (Dir []) (mkdir_tree m tree p e)
commands_taken m tree (op.Put p bytes) names e = one_taken m p (File bytes) (file_tree m tree p bytes e)
commands_taken m tree (op.Del p) names e = one_taken m p Empty (del_tree m tree p e)
commands_taken m tree (op.Label p label) names e = one_taken m p (Dir label) (label_tree m tree p label e)
commands_taken m tree (op.Deltree p) names e = empties_taken m tree p
commands_taken m tree (op.Copy p q) names e =
    let free = are_free m p q e in
    copies_taken m tree p q names.1 free.free free.above
commands_taken m tree (op.Move p q) names e =
    let free = are_free m p q e in
    takes_append (at m) (subtree_copied (nodes_of m) p q) (subtree_emptied (nodes_of m) p) (copies_taken m tree p q names.1 free.free free.above)
    (moved_taken m tree p q names.0 names.1 free.full free.outside free.free free.above)

-- the commands that an operation means
pub record AreMeant (version : Version) (s : Nodes) (o : Op) (cs : List Change) : Type 0 where
  pub allowed : first_that_applies (tests s o) ≡ None
  pub plain : is_labelled version cs ≡ false
  pub commands : commands_of s o ≡ cs

pub are_meant : (version : Version) (s : Nodes) (o : Op) (cs : List Change) → meaning version s o ≡ Ok cs → AreMeant version s o cs
are_meant version s o cs e = go (first_that_applies (tests s o)) refl e
  where
    labelled : (b : Bool) → is_labelled version (commands_of s o) ≡ b → (if b then Err Labelled else Ok (commands_of s o)) ≡ Ok cs → (is_labelled version cs ≡ false) × (commands_of s o ≡ cs)
    labelled true f e = cc
    labelled false f e = let same : commands_of s o ≡ cs = cc in (subst (λ l. is_labelled version l ≡ false) same f, same)

    go : (r : Option Why) → first_that_applies (tests s o) ≡ r → unless r version (commands_of s o) ≡ Ok cs → AreMeant version s o cs
    go None t e = let is = labelled (is_labelled version (commands_of s o)) refl e in record { allowed = t; plain = is.0; commands = is.1 }
    go (Some why) t e = cc

-- ---- an outcome

-- what each operation keeps, on the result of those before it, holds of the commands of an outcome
pub outcome_keeps : (P : List Change → Type 0) (Q : Op → Type 0) (version : Version) (m : Store)
    → ((done cs : List Change) (o : Op) → P done → Q o → AreMeant version (nodes_of (stored m done)) o cs → is_within version (done ++ cs) ≡ true → P (done ++ cs))
    → (done : List Change) (number : ℕ) (ops : List Op) → AllByRecursion Q ops → P done → P (outcome_from version m done number ops).commands
outcome_keeps P Q version m keeps done number [] each h = subst (λ r. P r.commands) (sym (outcome_end version m done number)) h
outcome_keeps P Q version m keeps done number (o ∷ ops) each h =
    subst (λ r. P r.commands) (sym (outcome_step version m done number o ops))
    (go (meaning version (nodes_of (stored m done)) o) refl (λ cs p. outcome_keeps P Q version m keeps cs (number + 1) ops each.1 p))
  where
    go : (r : Result (List Change) Why) → meaning version (nodes_of (stored m done)) o ≡ r → ((cs : List Change) → P cs → P (outcome_from version m cs (number + 1) ops).commands)
        → P (goes_on version done number r (λ cs. outcome_from version m cs (number + 1) ops)).commands
    go (Err why) e rec = h
    go (Ok cs) e rec = within (is_within version (done ++ cs)) refl
      where
        within : (b : Bool) → is_within version (done ++ cs) ≡ b → P (if b then outcome_from version m (done ++ cs) (number + 1) ops else record { commands = done; end = Large }).commands
        within true w = rec (done ++ cs) (keeps done cs o h each.0 (are_meant version (nodes_of (stored m done)) o cs e) w)
        within false w = h

-- a tree takes the commands of an operation on the result of those before it
pub goes_on_taken : (version : Version) (m : Store) → IsTreeMap m → (done cs : List Change) (o : Op) → Takes (at m) done → HasNames o → AreMeant version (nodes_of (stored m done)) o cs → Takes (at m) (done ++ cs)
goes_on_taken version m tree done cs o taken names meant = takes_append (at m) done cs taken
    (subst (λ t. Takes t cs) (at-stored m done) (subst (Takes (at (stored m done))) meant.commands (commands_taken (stored m done) (kept_trees m done tree taken) o names meant.allowed)))

-- the tree takes the commands of an outcome
pub outcome_taken : (version : Version) (script : List Op) (m : Store) → IsTreeMap m → AllByRecursion HasNames script → Takes (at m) (outcome_of version m script).commands
outcome_taken version script m tree names = outcome_keeps (Takes (at m)) HasNames version m (λ done cs o taken names meant within. goes_on_taken version m tree done cs o taken names meant) [] 1 script names tt
