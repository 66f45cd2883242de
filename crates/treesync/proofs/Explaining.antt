-- What a merger leaves out, explained: that the set is a merger, and the lines of its reasons.
use Rattle.std.proofs.Common.{◌≡◌, ◌+◌, ◌++◌, ◌<◌, true, ℕ, zero, suc, List, [], ◌∷◌, length, take, Ok, refl, sym, ap, ◌∙◌, arith, append_assoc, append-nil}
use Rattle.std.specs.List.{slice_index}
use Rattle.sync_command.specs.Changes.{Change, is_canonical}
use Rattle.sync_command.specs.declared.commands.Row.{Row}
use Rattle.explain_core.specs.Reasons.{IsMergerOf}
use Rattle.explain_core.specs.declared.reasons.Reason.{Reason}
use Rattle.merge_core.specs.FirstMergers.{IsFirstMergerOf}
use Rattle.pref_list.specs.declared.rules.Rule.{Rule}
use Rattle.refluent.specs.Joints.{path_at}
use Rattle.treesync.specs.Checks.{IsJudged}
use Rattle.treesync.specs.Conflicts.{node_text}
use Rattle.treesync.specs.Explain.{AreReasons, ShowsReasons, reason_lines, reason_lines_of, via_text}
use Rattle.treesync.specs.Joining.{AreJoined, commands_of}
use Rattle.treesync.specs.Logs.{ReadLog}
use Rattle.treesync.specs.Outputs.{ReasonLines}
use Rattle.treesync.specs.declared.joining.JoinedLogs.{JoinedLogs}
use Rattle.treesync.proofs.MergeLemmas.{canonical_same, first_for}

-- the first merger is a merger
pub merger_of : (joined : JoinedLogs) (rules : List Rule) (set : List Change) → IsFirstMergerOf joined.joint rules set → IsMergerOf joined.joint set
merger_of joined rules set first logs m stands common = (first logs m stands common).merger

-- its reasons are those that are asked for
pub merger_explained : (joined : JoinedLogs) (rules : List Rule) (set : List Change) → IsFirstMergerOf joined.joint rules set → is_canonical set ≡ true → (reads : List ReadLog) → AreJoined joined reads →
    IsJudged ShowsReasons (AreReasons rules reads) (Ok (joined.joint, set))
merger_explained joined rules set first order reads h = (
  ReasonLines (reason_lines joined.joint set),
  refl,
  (
    joined.joint,
    set,
    h.joint,
    first_for joined rules set first reads h,
    ap (λ (cs : List Change). ReasonLines (reason_lines joined.joint cs)) (canonical_same set order (first (commands_of reads) h.joint.common.map h.joint h.joint.common.common).merger.fits.one),
  ),
)

-- a line for each reason
pub reasons_lined : (nodes : List Row) (all : List Reason) → length (reason_lines_of nodes all) ≡ length all
reasons_lined nodes [] = refl
reasons_lined nodes (reason ∷ rest) = ap suc (reasons_lined nodes rest)

-- one more place of a chain
pub via_more : (nodes : List Row) (line : List ℕ) (via : List ℕ) (k : ℕ) → k < length via →
    (line ++ via_text nodes (take k via) ++ 32 ∷ []) ++ node_text (path_at nodes (slice_index via k)) ≡ line ++ via_text nodes (take (k + 1) via)
via_more nodes line via k low =
    append_assoc (line ++ via_text nodes (take k via)) (32 ∷ []) (node_text (path_at nodes (slice_index via k)))
    ∙ append_assoc line (via_text nodes (take k via)) (32 ∷ node_text (path_at nodes (slice_index via k)))
    ∙ ap (λ l. line ++ l) (more via k low)
    ∙ ap (λ n. line ++ via_text nodes (take n via)) (let e : suc k ≡ k + 1 = omega arith in e)
  where
    more : (via : List ℕ) (k : ℕ) → k < length via → via_text nodes (take k via) ++ 32 ∷ node_text (path_at nodes (slice_index via k)) ≡ via_text nodes (take (suc k) via)
    more [] k low = absurd (omega (arith, low))
    more (place ∷ via) zero low = sym (append-nil (32 ∷ node_text (path_at nodes place)))
    more (place ∷ via) (suc k) low =
        append_assoc (32 ∷ node_text (path_at nodes place)) (via_text nodes (take k via)) (32 ∷ node_text (path_at nodes (slice_index via k)))
        ∙ ap (λ l. (32 ∷ node_text (path_at nodes place)) ++ l) (more via k (omega (arith, low)))
