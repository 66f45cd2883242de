-- A drill has one summary, and one text.
use Rattle.std.proofs.Common.{◌≡◌, ◌∙◌, ◌++◌, ℕ, zero, suc, List, [], ◌∷◌, length, inl, inr, sym, ap, subst}
use Rattle.sync_command.specs.Changes.{Change}
use Rattle.sync_command.specs.Maps.{at, stored}
use Rattle.sync_command.specs.Trees.{Holding, put}
use Rattle.sync_command.proofs.CallerLemmas.{canonical_unique}
use Rattle.apply_model.specs.Entries.{rows_of}
use Rattle.refluent.specs.Drawn.{drawn_commands}
use Rattle.refluent.specs.Joints.{StandsForAll}
use Rattle.pref_list.specs.Ranking.{ranking}
use Rattle.pref_list.proofs.CallerLemmas.{drawn_ranked}
use Rattle.merge_core.specs.FirstMergers.{IsFirstMerger}
use Rattle.refluent.specs.Sets.{HaveSameCommands}
use Rattle.merge_core.proofs.CallerLemmas.{one_first}
use Rattle.clash_list.specs.ClashLists.{clashes}
use Rattle.sync_drill.specs.BaseTrees.{base_tree}
use Rattle.sync_drill.specs.Draws.{state_after, state_after_steps, step_draws}
use Rattle.sync_drill.specs.DrillLogs.{AreLogs, IsLog, drawn_command}
use Rattle.sync_drill.specs.Summaries.{IsDrillText, IsSummary, command_count, first_line, summary_lines, transition_count}
use Rattle.sync_drill.specs.declared.summary.Summary.{Summary}
use Rattle.treesync.proofs.JointNodes.{one_joint}
use Rattle.treesync.proofs.SameSets.{same_at}

-- the command of a step
abbrev command_of : Holding → ℕ → Change
command_of t x = drawn_command t (step_draws x)

-- a step is done or not, so that a log is determined
one_log : (t : Holding) (x steps : ℕ) (log other : List Change) → IsLog t x steps log → IsLog t x steps other → log ≡ other
one_log t x zero log other l m = l ∙ sym m
one_log t x (suc steps) log other (inl l) (inl m) =
    l.1.1 ∙ ap (λ rest. command_of t x ∷ rest) (one_log (put t (command_of t x).node (command_of t x).new) (state_after 5 x) steps l.1.0 m.1.0 l.1.2 m.1.2) ∙ sym m.1.1
one_log t x (suc steps) log other (inl l) (inr m) = absurd (m.0 l.0)
one_log t x (suc steps) log other (inr l) (inl m) = absurd (l.0 m.0)
one_log t x (suc steps) log other (inr l) (inr m) = one_log t (state_after 5 x) steps log other l.1 m.1

one_logs : (t : Holding) (x steps count : ℕ) (logs others : List (List Change)) → AreLogs t x steps count logs → AreLogs t x steps count others → logs ≡ others
one_logs t x steps zero logs others l m = l ∙ sym m
one_logs t x steps (suc count) logs others l m =
    l.2 ∙ (λ i. one_log t x steps l.0 m.0 l.3 m.3 i ∷ one_logs t (state_after_steps steps x) steps count l.1 m.1 l.4 m.4 i) ∙ sym m.2

module _ (seed logs steps : ℕ) (s r : Summary) (h : IsSummary seed logs steps s) (k : IsSummary seed logs steps r) where
  made : h.made ≡ k.made
  made = one_logs (at base_tree) seed steps logs h.made k.made h.are k.are

  joint : h.joint ≡ k.joint
  joint = one_joint h.joint k.joint k.made (subst (StandsForAll h.joint) made h.stands) k.stands

  abbrev IsFirst : List (List Change) → List Change → Type 0
  IsFirst made merger = IsFirstMerger (at base_tree) (drawn_commands made) (ranking made []) merger

  first : IsFirst k.made h.merger
  first = subst (λ made. IsFirst made h.merger) made h.first

  mergers : HaveSameCommands h.merger k.merger
  mergers = one_first (at base_tree) (drawn_commands k.made) (ranking k.made []) h.merger k.merger (drawn_ranked k.made []) first k.first

  merger : h.merger ≡ k.merger
  merger =
      canonical_unique h.merger k.merger h.order k.order first.merger.fits.one k.first.merger.fits.one
      (same_at h.merger k.merger first.merger.fits.one k.first.merger.fits.one mergers)

  pub one_summary : s ≡ r
  one_summary = λ i. record {
    commands = (h.commands ∙ ap command_count made ∙ sym k.commands) i;
    drawn = (h.drawn ∙ ap (λ logs. length (drawn_commands logs)) made ∙ sym k.drawn) i;
    clashes = (h.clashing ∙ ap (λ j. length (clashes j)) joint ∙ sym k.clashing) i;
    merger = (h.merged ∙ ap length merger ∙ sym k.merged) i;
    transitions = (h.transitions ∙ (λ j. transition_count (at base_tree) (merger j) (made j)) ∙ sym k.transitions) i;
    tree = (h.tree ∙ ap (λ set. length (rows_of (stored base_tree set))) merger ∙ sym k.tree) i;
  }

pub one_drill_text : (seed logs steps : ℕ) (text other : List ℕ) → IsDrillText seed logs steps text → IsDrillText seed logs steps other → text ≡ other
one_drill_text seed logs steps text other p q =
    p.2 ∙ ap (λ s. first_line seed logs steps ++ summary_lines s) (one_summary seed logs steps p.0 q.0 p.1 q.1) ∙ sym q.2
