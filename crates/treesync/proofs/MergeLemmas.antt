-- The text of a merger: its commands can be printed, and it is in the admissible order.
use Rattle.std.proofs.Common.{◌≡◌, ◌++◌, ◌||◌, Bool, true, false, ℕ, List, [], ◌∷◌, Ok, Vec, Global, refl, sym, ap, subst, ◌∙◌}
use Rattle.std.specs.List.{AllByRecursion}
use Rattle.sync_command.specs.Changes.{Change, is_canonical, same_change}
use Rattle.sync_command.specs.Trees.{one_each}
use Rattle.sync_command.specs.declared.values.Version.{Version}
use Rattle.sync_command.proofs.CallerLemmas.{canonical_unique}
use Rattle.canon_set.specs.Logs.{net}
use Rattle.canon_set.specs.Sets.{canonical}
use Rattle.canon_set.proofs.CallerLemmas.{command_at-canonical, is_canonical-canonical, one_each-canonical}
use Rattle.log_text.specs.Logs.{IsOfVersion, log_text}
use Rattle.refluent.specs.Drawn.{drawn_commands, nets_in_turn}
use Rattle.refluent.specs.Sets.{IsSubset, is_in}
use Rattle.refluent.proofs.CallerLemmas.{is_in-without_repeats, same_change_is, same_change_refl}
use Rattle.pref_list.specs.declared.rules.Rule.{Rule}
use Rattle.merge_core.specs.FirstMergers.{IsFirstMergerOf}
use Rattle.treesync.specs.Checks.{HasItems, IsJudged}
use Rattle.treesync.specs.Joining.{AreJoined, ArePrintable, commands_of, joint_version}
use Rattle.treesync.specs.Logs.{ReadLog, later_version}
use Rattle.treesync.specs.Merge.{IsFirstMergerFor, IsMergerText}
use Rattle.treesync.specs.declared.joining.JoinedLogs.{JoinedLogs}
use Rattle.treesync.proofs.Labels.{first_of, net_printable, second_of}

-- ---- each command of a set

module _ (P : Change → Type 0) where
  pub each_append : (cs ds : List Change) → AllByRecursion P cs → AllByRecursion P ds → AllByRecursion P (cs ++ ds)
  each_append [] ds h g = g
  each_append (c ∷ cs) ds h g = (h.0, each_append cs ds h.1 g)

  pub each_in : (cs : List Change) → AllByRecursion P cs → (c : Change) → is_in cs c ≡ true → P c
  each_in [] h c e = absurd (cc)
  each_in (d ∷ ds) h c e = here (same_change c d) refl (λ g. each_in ds h.1 c g) e
    where
      here : (b : Bool) → same_change c d ≡ b → (is_in ds c ≡ true → P c) → (b || is_in ds c) ≡ true → P c
      here true s later e = subst P (sym (same_change_is c d s)) h.0
      here false s later e = later e

  pub from_each : (cs : List Change) → ((c : Change) → is_in cs c ≡ true → P c) → AllByRecursion P cs
  from_each [] h = tt
  from_each (d ∷ ds) h = (h d (ap (λ b. b || is_in ds d) (same_change_refl d)), from_each ds (λ c e. h c (later c e)))
    where
      or_true : (b : Bool) → (b || true) ≡ true
      or_true true = refl
      or_true false = refl

      later : (c : Change) → is_in ds c ≡ true → is_in (d ∷ ds) c ≡ true
      later c e = ap (λ b. same_change c d || b) e ∙ or_true (same_change c d)

-- ---- versions

pub of_first : (v w : Version) (cs : List Change) → AllByRecursion (IsOfVersion v) cs → AllByRecursion (IsOfVersion (later_version v w)) cs
of_first v w [] h = tt
of_first v w (c ∷ cs) h = (record { old = first_of v w c.old h.0.old; new = first_of v w c.new h.0.new }, of_first v w cs h.1)

pub of_second : (v w : Version) (cs : List Change) → AllByRecursion (IsOfVersion w) cs → AllByRecursion (IsOfVersion (later_version v w)) cs
of_second v w [] h = tt
of_second v w (c ∷ cs) h = (record { old = second_of v w c.old h.0.old; new = second_of v w c.new h.0.new }, of_second v w cs h.1)

pub nets_printable : (reads : List ReadLog) → ArePrintable reads → AllByRecursion (IsOfVersion (joint_version reads)) (nets_in_turn (commands_of reads))
nets_printable [] h = tt
nets_printable (r ∷ reads) h =
    each_append (IsOfVersion (later_version r.version (joint_version reads))) (canonical (net r.commands)) (nets_in_turn (commands_of reads))
    (of_first r.version (joint_version reads) (canonical (net r.commands)) (net_printable r.version r.commands h.0))
    (of_second r.version (joint_version reads) (nets_in_turn (commands_of reads)) (nets_printable reads h.1))

drawn_printable : (reads : List ReadLog) (cs : List Change) → ArePrintable reads → IsSubset cs (drawn_commands (commands_of reads)) → AllByRecursion (IsOfVersion (joint_version reads)) cs
drawn_printable reads cs h part =
    from_each (IsOfVersion (joint_version reads)) cs (λ c e.
    each_in (IsOfVersion (joint_version reads)) (nets_in_turn (commands_of reads)) (nets_printable reads h) c (sym (is_in-without_repeats (nets_in_turn (commands_of reads)) c) ∙ part c e))

-- ---- a merger

pub canonical_same : (cs : List Change) → is_canonical cs ≡ true → one_each cs ≡ true → cs ≡ canonical cs
canonical_same cs order one = canonical_unique cs (canonical cs) order (is_canonical-canonical cs one) one (one_each-canonical cs one) (λ p. sym (command_at-canonical cs one p))

module _ (joined : JoinedLogs) (rules : List Rule) (set : List Change) (first : IsFirstMergerOf joined.joint rules set) (reads : List ReadLog) (h : AreJoined joined reads) where
  pub first_for : IsFirstMergerFor (commands_of reads) rules set
  first_for m common = first (commands_of reads) m h.joint common

  pub merger_printable : AllByRecursion (IsOfVersion joined.version) set
  merger_printable =
      subst (λ v. AllByRecursion (IsOfVersion v) set) (sym h.version)
      (drawn_printable reads set h.printable (first_for h.joint.common.map h.joint.common.common).merger.within)

  pub merger_printed : (text : Vec ℕ Global) → is_canonical set ≡ true → text.items ≡ log_text joined.version set → IsJudged HasItems (IsMergerText rules reads) (Ok text)
  merger_printed text order e = (
    text.items,
    refl,
    (
      set,
      first_for,
      e ∙ ap (λ v. log_text v set) h.version
          ∙ ap (log_text (joint_version reads)) (canonical_same set order (first_for h.joint.common.map h.joint.common.common).merger.fits.one),
    ),
  )
