-- The text of a transition: its commands can be printed.
use Rattle.std.proofs.Common.{◌≡◌, ◌<◌, ◌≤◌, true, ℕ, zero, suc, ◌-◌, List, [], ◌∷◌, length, Result, Ok, Err, Vec, Global, refl, sym, ap, subst, ◌∙◌, arith, inl, inr}
use Rattle.std.specs.List.{AllByRecursion}
use Rattle.std.proofs.lemmas.List.{length-map}
use Rattle.sync_command.specs.Values.{is_of_version}
use Rattle.sync_command.specs.Changes.{Change}
use Rattle.sync_command.specs.Maps.{Store, at}
use Rattle.canon_set.specs.Logs.{net}
use Rattle.canon_set.specs.Sets.{canonical}
use Rattle.log_text.specs.Logs.{IsOfVersion, log_text}
use Rattle.refluent.specs.CommonTrees.{IsAmong}
use Rattle.refluent.specs.Drawn.{drawn_commands, drawn_of, nets_in_turn}
use Rattle.refluent.specs.FirstDisagreements.{log_at}
use Rattle.refluent.specs.Sets.{IsSubset, is_in}
use Rattle.refluent.proofs.CallerLemmas.{IsCommon, common_holding, drawn_is, is_in-canonical, is_in-without_repeats, net_in}
use Rattle.pref_list.specs.declared.rules.Rule.{Rule}
use Rattle.merge_core.specs.FirstMergers.{IsFirstMergerOf}
use Rattle.transition.specs.Transitions.{FitsCommonTrees, IsMadeOfNets, IsNetCommand, transition}
use Rattle.transition.specs.Transitions as transitions
use Rattle.transition.proofs.CallerLemmas.{made_of_nets, one_each-transition}
use Rattle.treesync.specs.Checks.{HasItems, IsJudged}
use Rattle.treesync.specs.Joining.{AreJoined, EachStands, IsJoined, commands_of, joint_version}
use Rattle.treesync.specs.Logs.{IsLogFile, IsTotal, ReadLog}
use Rattle.treesync.specs.Transition.{IsTransitionFor, IsTransitionText}
use Rattle.treesync.specs.declared.joining.JoinedLogs.{JoinedLogs}
use Rattle.treesync.specs.declared.logs.LogFile.{LogFile}
use Rattle.treesync.specs.declared.logs.Total.{Total}
use Rattle.treesync.specs.declared.refusal.Refusal.{Refusal}
use Rattle.tool_words.specs.Words.{Operand}
use Rattle.treesync.proofs.MergeLemmas.{each_in, from_each, nets_printable}

-- ---- the number of a log

among_at : (logs : List (List Change)) (i : ℕ) → i < length logs → IsAmong (log_at logs i) logs
among_at [] i low = absurd (omega arith)
among_at (log ∷ logs) zero low = inl refl
among_at (log ∷ logs) (suc i) low = inr (among_at logs i (omega arith))

module _ (joined : JoinedLogs) (reads : List ReadLog) (h : AreJoined joined reads) where
  sets_many : length joined.joint.sets ≡ length (commands_of reads)
  sets_many = ap length h.joint.sets ∙ length-map (commands_of reads) (λ log. canonical (net log))

  -- ---- the merger

  module _ (rules : List Rule) (merger : List Change) (first : IsFirstMergerOf joined.joint rules merger) where
    within : IsSubset merger (drawn_commands (commands_of reads))
    within = (first (commands_of reads) h.joint.common.map h.joint h.joint.common.common).merger.within

    pub merger_drawn : IsSubset merger (drawn_of joined.joint.sets)
    merger_drawn c e = ap (λ l. is_in l c) (drawn_is joined.joint (commands_of reads) h.joint) ∙ within c e

    pub merger_fits : FitsCommonTrees joined.joint merger
    merger_fits logs m stands common = (first logs m stands common).merger.fits

    -- ---- its transition

    module _ (number : ℕ) (counted : 0 < number) (within_logs : number ≤ length joined.joint.sets) (set : List Change) (is : transitions.IsTransitionOf joined.joint number merger set) where
      for_logs : IsTransitionFor (commands_of reads) number merger set
      for_logs m common = is (commands_of reads) m h.joint common

      among : IsAmong (log_at (commands_of reads) (number - 1)) (commands_of reads)
      among = among_at (commands_of reads) (number - 1) (omega (arith, sets_many))

      -- net commands can be printed
      net_of_version : (c : Change) → IsNetCommand (commands_of reads) c → IsOfVersion (joint_version reads) c
      net_of_version c of =
          each_in (IsOfVersion (joint_version reads)) (nets_in_turn (commands_of reads)) (nets_printable reads h.printable) c
          (sym (is_in-without_repeats (nets_in_turn (commands_of reads)) c) ∙ net_in (at h.joint.common.map) (commands_of reads) holding of.log of.among c of.is)
        where
          holding : IsCommon (at h.joint.common.map) (commands_of reads)
          holding = common_holding (commands_of reads) h.joint.change h.joint.common.map h.joint.common.common

      made_of_version : (c : Change) → IsMadeOfNets (commands_of reads) c → IsOfVersion (joint_version reads) c
      made_of_version c (inl of) = net_of_version c of
      made_of_version c (inr (inl of)) = let v = net_of_version _ of in record { old = v.new; new = v.old }
      made_of_version c (inr (inr of)) =
          let v = net_of_version of.first of.from in
          let w = net_of_version of.second of.to in
          record { old = subst (λ x. is_of_version (joint_version reads) x ≡ true) (sym of.old) v.new; new = subst (λ x. is_of_version (joint_version reads) x ≡ true) (sym of.new) w.new }

      pub transition_printable : AllByRecursion (IsOfVersion joined.version) set
      transition_printable =
          subst (λ v. AllByRecursion (IsOfVersion v) set) (sym h.version)
          (from_each (IsOfVersion (joint_version reads)) set (λ c e.
          made_of_version c (made_of_nets (commands_of reads) h.joint.change m h.joint.common.common log among merger within c (sym (is_in-canonical (transition (at m) (net log) merger) (one_each-transition (at m) (net log) merger) c) ∙ ap (λ l. is_in l c) (sym here) ∙ e))))
        where
          m : Store
          m = h.joint.common.map

          log : List Change
          log = log_at (commands_of reads) (number - 1)

          here : set ≡ canonical (transition (at m) (net log) merger)
          here = for_logs m h.joint.common.common

      pub transition_printed : (text : Vec ℕ Global) → text.items ≡ log_text joined.version set → IsJudged HasItems (IsTransitionText number rules reads) (Ok text)
      transition_printed text e = (
        text.items,
        refl,
        (merger, set, (λ m common. first (commands_of reads) m h.joint common), for_logs, e ∙ ap (λ v. log_text v set) h.version),
      )

-- as many logs are joined as there are names
pub joined_many : (names : List Operand) (logs : List (LogFile Total)) (joined : JoinedLogs) (reads : List ReadLog) → EachStands (IsLogFile IsTotal) logs reads → length logs ≡ length names → IsJudged AreJoined (IsJoined names reads) (Ok joined) → length joined.joint.sets ≡ length names
joined_many names logs joined reads stand many j =
    sets_many joined j.0 j.1 ∙ ap (λ rs. length (commands_of rs)) (same j.2) ∙ length-map reads (λ read. read.commands) ∙ sym (stands_many logs reads stand) ∙ many
  where
    no_err : {r : Refusal} → ◌≡◌ {A = Result (List ReadLog) Refusal} (Ok j.0) (Err r) → j.0 ≡ reads
    no_err e = cc (e)

    same : IsJoined names reads (Ok j.0) → j.0 ≡ reads
    same (inl h) = no_err h.2
    same (inr h) = h.2.0 ∙ h.1.0

    stands_many : (logs : List (LogFile Total)) (reads : List ReadLog) → EachStands (IsLogFile IsTotal) logs reads → length logs ≡ length reads
    stands_many [] [] s = refl
    stands_many [] (read ∷ reads) s = absurd s
    stands_many (log ∷ logs) [] s = absurd s
    stands_many (log ∷ logs) (read ∷ reads) s = ap suc (stands_many logs reads s.1)
