-- The headline of rounds follows from what a run owes.
use Rattle.std.proofs.Common.{◌≡◌, ◌⊎◌, ◌-◌, ℕ, zero, suc, true, false, List, [], ◌∷◌, map, Option, None, Some, Result, Ok, Err, IfOk, inl, inr, refl, sym, ap, subst, ◌∙◌, arith}
use Rattle.std.specs.List.{list_all}
use Rattle.sync_command.specs.Changes.{Change}
use Rattle.sync_command.specs.Maps.{Store, at}
use Rattle.sync_command.specs.Trees.{Holding, after, one_each}
use Rattle.sync_port.specs.Ports.{FileContents, Names}
use Rattle.sync_port.proofs.CallerLemmas.{both_alone, both_more}
use Rattle.tree_port.specs.States.{TreeState}
use Rattle.canon_set.specs.Sets.{canonical}
use Rattle.canon_set.proofs.CallerLemmas.{command_at-canonical}
use Rattle.refluent.specs.CommonTrees.{AllChange, HasCommonTree, IsCommonTree, least_common_tree}
use Rattle.refluent.specs.Drawn.{drawn_commands}
use Rattle.refluent.specs.Sets.{HaveSameCommands}
use Rattle.refluent.proofs.CallerLemmas.{least_law}
use Rattle.pref_list.specs.Ranking.{ranking}
use Rattle.pref_list.specs.declared.rules.Rule.{Rule}
use Rattle.pref_list.proofs.CallerLemmas.{drawn_ranked}
use Rattle.merge_core.proofs.CallerLemmas.{one_first}
use Rattle.resume_apply.specs.declared.faults.ApplyFault.{ApplyFault}
use Rattle.resume_apply.specs.declared.faults.ApplyFault.TheVariants as apply
use Rattle.sync_round.specs.Rounding.{AtPlace, EachTree, IsCause, IsFound, IsPaidFor, Rounds}
use Rattle.sync_round.specs.Rounds.{AreOnTheirWay, AreReady, results, round_work, targets, transitions}
use Rattle.sync_round.specs.KnownRounds.{AreHeld, IsFirstUnready, IsRightAnswer, IsRoundAnswer, RoundsKnown, holdings}
use Rattle.sync_round.specs.declared.faults.RoundFault.{RoundFault}
use Rattle.sync_round.specs.declared.faults.RoundFault.TheVariants as fault
use Rattle.sync_round.proofs.CallerLemmas.{each_tree_law, none_unready, one_transitions, results_law}
use Rattle.tool_words.specs.Words.{Operand, Text}
use Rattle.treesync.specs.Checks.{FilesCounted, IsAllowed, IsCounted, IsOfJob, IsRight}
use Rattle.treesync.specs.Completeness.{HoldJoin}
use Rattle.treesync.specs.Ends.{Prints}
use Rattle.treesync.specs.Headline.{Gains, all_commands}
use Rattle.treesync.specs.Jobs.{Outside}
use Rattle.treesync.specs.Joining.{commands_of}
use Rattle.treesync.specs.Merge.{IsFirstMergerFor, IsMergerText}
use Rattle.treesync.specs.Outputs.{Output, WholeText, text_in}
use Rattle.treesync.specs.RoundHeadline.{AnswersRight, AnswersRound, CompletesOnTrees, GoOn, IsCountedByOne, IsRound, JoinsReplicas, KeepsUnreadyRound, MeetAt, ResumesRound, RoundCounted}
use Rattle.treesync.specs.Runs.{RanRound, Runs, RunsJob}
use Rattle.treesync.specs.Sync.{AreMergedLogs, CarriesRound, IsMergedBy, IsSync, IsSynced, Merged, merged_of, round_answer, synced_text}
use Rattle.treesync.specs.declared.logs.TheConstants.{FULL_ALLOWANCE}
use Rattle.treesync.specs.declared.refusal.Refusal.{Refusal}
use Rattle.treesync.specs.declared.refusal.Refusal.TheVariants.{InvalidArguments, OutOfMemory, CallFailed, Found}
use Rattle.treesync.specs.declared.refusal.Failure.{Failure}
use Rattle.treesync.specs.declared.refusal.Failure.TheVariants.{ReadFailed, TreeFailed, TreeDenied}
use Rattle.treesync.proofs.ApplyHeadline.{text_status}
use Rattle.treesync.proofs.CheckLemmas.{allowed_more, memory_allowed, refused, second}
use Rattle.treesync.proofs.HeadlineLemmas.{merge_right}
use Rattle.treesync.proofs.HeldLogs.{all_change_held, held_logs, held_preferences, ok_is, ok_no_err, one_recorded, one_rules, reads_of, same_commands}
use Rattle.treesync.proofs.SameSets.{same_at}
use Rattle.treesync.proofs.Syncing.{same_transitions}
use Rattle.treesync.proofs.MergedLogs.{refused_as}
use Rattle.treesync.proofs.Unique.{merge_one, sync_one}

-- ---- trees on their way

ways_ready : (sets : List (List Change)) (starts trees : List Holding) → AreOnTheirWay sets starts trees → AreReady sets trees
ways_ready [] [] [] h = tt
ways_ready [] [] (u ∷ trees) h = absurd h
ways_ready [] (t ∷ starts) trees h = absurd h
ways_ready (set ∷ sets) [] trees h = absurd h
ways_ready (set ∷ sets) (t ∷ starts) [] h = absurd h
ways_ready (set ∷ sets) (t ∷ starts) (u ∷ trees) h = (h.0.ready, ways_ready sets starts trees h.1)

ways_targets : (sets : List (List Change)) (starts trees : List Holding) → AreOnTheirWay sets starts trees → targets sets trees ≡ targets sets starts
ways_targets [] [] [] h = refl
ways_targets [] [] (u ∷ trees) h = absurd h
ways_targets [] (t ∷ starts) trees h = absurd h
ways_targets (set ∷ sets) [] trees h = absurd h
ways_targets (set ∷ sets) (t ∷ starts) [] h = absurd h
ways_targets (set ∷ sets) (t ∷ starts) (u ∷ trees) h = let rest = ways_targets sets starts trees h.1 in λ i. h.0.target i ∷ rest i

ways_on : (sets : List (List Change)) (starts trees others : List Holding) → AreOnTheirWay sets starts trees → AreOnTheirWay sets trees others → AreOnTheirWay sets starts others
ways_on [] [] [] others h g = g
ways_on [] [] (u ∷ trees) others h g = absurd h
ways_on [] (t ∷ starts) trees others h g = absurd h
ways_on (set ∷ sets) [] trees others h g = absurd h
ways_on (set ∷ sets) (t ∷ starts) [] others h g = absurd h
ways_on (set ∷ sets) (t ∷ starts) (u ∷ trees) [] h g = absurd g
ways_on (set ∷ sets) (t ∷ starts) (u ∷ trees) (v ∷ others) h g =
    (record { ready = g.0.ready; target = g.0.target ∙ h.0.target; elsewhere = λ p none. g.0.elsewhere p none ∙ h.0.elsewhere p none }, ways_on sets starts trees others h.1 g.1)

ready_ways : (sets : List (List Change)) (trees : List Holding) → AreReady sets trees → AreOnTheirWay sets trees trees
ready_ways [] [] h = tt
ready_ways [] (t ∷ trees) h = absurd h
ready_ways (set ∷ sets) [] h = absurd h
ready_ways (set ∷ sets) (t ∷ trees) h = (record { ready = h.0; target = refl; elsewhere = λ p none. refl }, ready_ways sets trees h.1)

-- trees that stay have paid
paid_still : (sets : List (List Change)) (trees : List TreeState) (maps : List Store) → AreHeld trees maps → AreReady sets (holdings maps) → EachTree IsPaidFor sets trees trees
paid_still [] [] [] held ready = tt
paid_still [] [] (m ∷ maps) held ready = absurd held
paid_still [] (tree ∷ trees) [] held ready = absurd held
paid_still [] (tree ∷ trees) (m ∷ maps) held ready = absurd ready
paid_still (set ∷ sets) [] [] held ready = absurd ready
paid_still (set ∷ sets) [] (m ∷ maps) held ready = absurd held
paid_still (set ∷ sets) (tree ∷ trees) [] held ready = absurd held
paid_still (set ∷ sets) (tree ∷ trees) (m ∷ maps) held ready = (both_alone _ tree.contents (λ m. omega arith), paid_still sets trees maps held.1 ready.1)

-- ---- one merger

module _ (logs : List (List Change)) (rules : List Rule) (tree : Store) (common : IsCommonTree tree logs) (one other : List Change) (first : IsFirstMergerFor logs rules one) (second : IsFirstMergerFor logs rules other) where
  same_commands_at : HaveSameCommands one other
  same_commands_at = one_first (at tree) (drawn_commands logs) (ranking logs rules) one other (drawn_ranked logs rules) (first tree common) (second tree common)

  same_sets : transitions (at tree) logs one ≡ transitions (at tree) logs other
  same_sets = same_transitions (at tree) one other (same_at one other (first tree common).merger.fits.one (second tree common).merger.fits.one same_commands_at) logs

-- what was merged is what the files hold
pub record IsMergedAs (logs : List (List Change)) (merger : List Change) (tree : Store) (merged : Merged) : Type 0 where
  pub common : IsCommonTree tree merged.logs
  pub sets : transitions (at tree) merged.logs merged.merger ≡ transitions (at tree) logs merger

module _ (held : Names) (prefs : Option Operand) (files : List Operand) (join : HoldJoin held prefs files) (logs : List (List Change)) (same : logs ≡ all_commands join.logs) (merger : List Change)
    (first : IsFirstMergerFor logs join.rules merger) (tree : Store) (common : IsCommonTree tree logs) where
  merged_with : (merged : Merged) (set : List Change) → IsFirstMergerFor logs join.rules set → merged ≡ merged_of logs set → IsMergedAs logs merger tree merged
  merged_with merged set f e = record {
    common = subst (IsCommonTree tree) (sym (ap (λ x. x.logs) e)) common;
    sets =
        ap (λ x. transitions (at tree) x.logs x.merger) e
        ∙ same_transitions (at tree) (canonical set) set (λ p. command_at-canonical set (f tree common).merger.fits.one p) logs
        ∙ same_sets logs join.rules tree common set merger f first;
  }

  merged_as : (merged : Merged) → AreMergedLogs prefs files held false (Ok merged) → IsMergedAs logs merger tree merged
  merged_as merged (inl h) = absurd (ok_no_err h.2)
  merged_as merged (inr (rules, p, inl h)) = absurd (ok_no_err h.2)
  merged_as merged (inr (rules, p, inr (reads, l, inl h))) = absurd (ok_no_err h.2)
  merged_as merged (inr (rules, p, inr (reads, l, inr (joined, inl j, m)))) = absurd (ok_no_err j.2)
  merged_as merged (inr (rules, p, inr (reads, l, inr (joined, inr j, inl m)))) = absurd (ok_no_err m.2)
  merged_as merged (inr (rules, p, inr (reads, l, inr (joined, inr j, inr m)))) =
      let found = held_logs held FULL_ALLOWANCE files reads l in
      let read : m.0 ≡ reads_of found.logs = m.1.0 ∙ (j.2.0 ∙ j.1.0) ∙ found.same in
      let there = one_recorded held files found.logs join.logs found.texts join.hold.texts in
      let is : commands_of m.0 ≡ logs = ap commands_of read ∙ same_commands found.logs ∙ ap all_commands there ∙ sym same in
      let under : rules ≡ join.rules = one_rules held prefs rules join.rules (held_preferences held prefs rules p) join.prefer in
      merged_with merged m.2.0 (subst (λ r. IsFirstMergerFor logs r m.2.0) under (subst (λ l. IsFirstMergerFor l rules m.2.0) is m.2.1)) (m.2.2 ∙ ap (λ l. merged_of l m.2.0) is)

  not_refused : (r : Refusal) → AreMergedLogs prefs files held false (Err r) → ⊥
  not_refused r e = let right = merge_right held prefs files join in ok_no_err (merge_one prefs files held (Ok right.0) (Err r) right.1 (refused_as IsMergedBy IsMergerText prefs files held false r (λ rules reads h. h) e))

-- ---- what becomes of the trees

-- trees that are known, and what a run leaves of them
pub record Left (sets : List (List Change)) (maps : List Store) (before now : Outside) (status : ℕ) : Type 0 where
  pub stores : List Store
  pub held : AreHeld now.trees stores
  pub unready : (AreReady sets (holdings maps) → ⊥) → stores ≡ maps
  pub way : AreReady sets (holdings maps) → AreOnTheirWay sets (holdings maps) (holdings stores)
  pub paid : AreReady sets (holdings maps) → EachTree IsPaidFor sets before.trees now.trees
  pub done : (status ≡ 0) ⊎ (status ≡ 4) → holdings stores ≡ targets sets (holdings maps)
  pub gains : status ≡ 0 → Gains (synced_text (round_work sets (holdings maps))) before.out now.out
  pub completes : AreReady sets (holdings maps) → CompletesOnTrees before now status

-- a call that failed was counted by its tree
counted_by : (place : ℕ) (sets : List (List Change)) (trees later : List TreeState) → AtPlace (IsCause apply.Failed) place sets trees later → IsCountedByOne trees later
counted_by zero (set ∷ sets) (tree ∷ trees) (now ∷ later) h = inl h
counted_by (suc place) (set ∷ sets) (tree ∷ trees) (now ∷ later) h = inr (counted_by place sets trees later h.1)
counted_by zero [] trees later h = absurd h
counted_by (suc place) [] trees later h = absurd h
counted_by zero (set ∷ sets) [] later h = absurd h
counted_by (suc place) (set ∷ sets) [] later h = absurd h
counted_by zero (set ∷ sets) (tree ∷ trees) [] h = absurd h
counted_by (suc place) (set ∷ sets) (tree ∷ trees) [] h = absurd h

module _ (sets : List (List Change)) (maps : List Store) (before now : Outside) (status : ℕ) (held : AreHeld before.trees maps) where
  -- ---- the logs were refused

  module _ (answer : Result Output Refusal) (prints : Prints answer status before.out now.out) (r : Refusal) (trees : now.trees ≡ before.trees) (is : answer ≡ Err r) where
    refused_prints : Prints (Err r) status before.out now.out
    refused_prints = subst (λ a. Prints a status before.out now.out) is prints

    no_output : (status ≡ 0) ⊎ (status ≡ 4) → ⊥
    no_output z = let t = text_status (Err r) status before.out now.out refused_prints z in ok_no_err (sym t.1)

    left_refused : (AreReady sets (holdings maps) → CompletesOnTrees before now status) → Left sets maps before now status
    left_refused completes = record {
      stores = maps;
      held = subst (λ t. AreHeld t maps) (sym trees) held;
      unready = λ never. refl;
      way = ready_ways sets (holdings maps);
      paid = λ ready. subst (EachTree IsPaidFor sets before.trees) (sym trees) (paid_still sets before.trees maps held ready);
      done = λ z. absurd (no_output z);
      gains = λ z. absurd (no_output (inl z));
      completes = completes;
    }

  -- ---- the trees were led

  module _ (folders : List Operand) (answer : Result Output Refusal) (prints : Prints answer status before.out now.out) (result : Result ℕ RoundFault)
      (answers : (answer ≡ round_answer folders result) ⊎ (answer ≡ Err OutOfMemory)) (each : list_all one_each sets ≡ true) (rounds : Rounds sets result before.trees now.trees) (of_known : RoundsKnown sets maps result now.trees) where
    -- an output is that of a round that was done
    done_with : (output : Output) → answer ≡ Ok output → (number : ℕ) × (result ≡ Ok number) × (output ≡ WholeText (synced_text number))
    done_with output e = by answers
      where
        of_result : (result : Result ℕ RoundFault) → round_answer folders result ≡ Ok output → (number : ℕ) × (result ≡ Ok number) × (output ≡ WholeText (synced_text number))
        of_result (Ok number) f = (number, refl, sym (ok_is f))
        of_result (Err why) f = absurd (ok_no_err (sym f))

        by : (answer ≡ round_answer folders result) ⊎ (answer ≡ Err OutOfMemory) → (number : ℕ) × (result ≡ Ok number) × (output ≡ WholeText (synced_text number))
        by (inl f) = of_result result (sym f ∙ e)
        by (inr f) = absurd (ok_no_err (sym e ∙ f))

    done_of_known : (number : ℕ) → result ≡ Ok number → AreReady sets (holdings maps) × (holdings of_known.maps ≡ targets sets (holdings maps)) × (number ≡ round_work sets (holdings maps))
    done_of_known number e =
        let right : IsRightAnswer sets maps (Ok number) = subst (IsRightAnswer sets maps) e of_known.answer in
        let at_end : holdings of_known.maps ≡ targets sets (holdings maps) = subst (λ (r : Result ℕ RoundFault). IfOk r (λ n. holdings of_known.maps ≡ targets sets (holdings maps))) e of_known.done in
        (right.0, at_end, right.1)

    led_done : (status ≡ 0) ⊎ (status ≡ 4) → holdings of_known.maps ≡ targets sets (holdings maps)
    led_done z =
        let t = text_status answer status before.out now.out prints z in
        let d = done_with t.0 t.1 in
        (done_of_known d.0 d.1).1

    led_gains : status ≡ 0 → Gains (synced_text (round_work sets (holdings maps))) before.out now.out
    led_gains z =
        let t = text_status answer status before.out now.out prints (inl z) in
        let d = done_with t.0 t.1 in
        let text : text_in t.0 ≡ synced_text (round_work sets (holdings maps)) = ap text_in d.2 ∙ ap synced_text (done_of_known d.0 d.1).2 in
        subst (λ text. Gains text before.out now.out) text (printed (t.0) (subst (λ a. Prints a status before.out now.out) t.1 prints))
      where
        printed : (output : Output) → Prints (Ok output) status before.out now.out → Gains (text_in output) before.out now.out
        printed output p = both_more before.out.contents now.out.contents p.1 (λ m k w. w.whole (omega (arith, z)))

    led_completes : AreReady sets (holdings maps) → CompletesOnTrees before now status
    led_completes ready trees_quiet files_quiet out_quiet = by answers
      where
        -- no tree is named that is ready, but for a call that failed
        named : (why : ApplyFault) (number : ℕ) → IsRightAnswer sets maps (Err (fault.Tree number why)) → why ≡ apply.Failed
        named why number (inl failed) = failed
        named why number (inr h) = absurd (none_unready why (number - 1) sets maps each ready h.1)

        of_text : (text : List ℕ) → Prints (Ok (WholeText text)) status before.out now.out → (status ≡ 0) ⊎ (status ≡ 16)
        of_text text (inl e, p) = inl e.0
        of_text text (inr e, p) = absurd (out_quiet e.1)

        of_result : (x : Result ℕ RoundFault) → result ≡ x → Prints (round_answer folders x) status before.out now.out → (status ≡ 0) ⊎ (status ≡ 16)
        of_result (Ok number) e p = of_text (synced_text number) p
        of_result (Err fault.Memory) e p = inr p.0
        of_result (Err (fault.Tree number why)) e p =
            let failed = named why number (subst (IsRightAnswer sets maps) e of_known.answer) in
            let stop = (subst (λ x. Rounds sets x before.trees now.trees) e rounds).ends in
            absurd (trees_quiet (counted_by (number - 1) sets before.trees now.trees (subst (λ w. AtPlace (IsCause w) (number - 1) sets before.trees now.trees) failed stop.here)))

        by : (answer ≡ round_answer folders result) ⊎ (answer ≡ Err OutOfMemory) → (status ≡ 0) ⊎ (status ≡ 16)
        by (inl e) = of_result result refl (subst (λ a. Prints a status before.out now.out) e prints)
        by (inr e) = inr ((subst (λ a. Prints a status before.out now.out) e prints).0)

    left_led : Left sets maps before now status
    left_led = record {
      stores = of_known.maps;
      held = of_known.held;
      unready = of_known.unready;
      way = of_known.way;
      paid = λ ready. rounds.paid;
      done = led_done;
      gains = led_gains;
      completes = led_completes;
    }

-- ---- the answer

first_found : (why : ApplyFault) (place : ℕ) (sets : List (List Change)) (maps : List Store) → IsFirstUnready why place sets maps → IsFound why
first_found why zero (set ∷ sets) (m ∷ maps) h = h.0
first_found why (suc place) (set ∷ sets) (m ∷ maps) h = first_found why place sets maps h.1
first_found why zero [] maps h = absurd h
first_found why (suc place) [] maps h = absurd h
first_found why zero (set ∷ sets) [] h = absurd h
first_found why (suc place) (set ∷ sets) [] h = absurd h

-- a fault of the trees that is no failed call is right
found_right : (why : ApplyFault) (number : ℕ) (sets : List (List Change)) (maps : List Store) → (why ≡ apply.Failed → ⊥) → IsRightAnswer sets maps (Err (fault.Tree number why)) → IsRoundAnswer sets maps (Err (fault.Tree number why))
found_right why number sets maps other (inl e) = absurd (other e)
found_right why number sets maps other (inr h) = h

module _ (folders : List Operand) (maps : List Store) (merged : Merged) (before now : Outside) (common : HasCommonTree merged.logs) (result : Result ℕ RoundFault)
    (leaves : (m : Store) → IsCommonTree m merged.logs → Rounds (transitions (at m) merged.logs merged.merger) result before.trees now.trees)
    (right : (m : Store) → IsCommonTree m merged.logs → IsRightAnswer (transitions (at m) merged.logs merged.merger) maps result) where
  abbrev by : Store → List (List Change)
  by m = transitions (at m) merged.logs merged.merger

  -- a call that failed was counted, and none was denied
  failed_counted : (number : ℕ) → result ≡ Err (fault.Tree number apply.Failed) → IsCountedByOne before.trees now.trees
  failed_counted number e =
      let rounds = subst (λ x. Rounds (by common.map) x before.trees now.trees) e (leaves common.map common.common) in
      counted_by (number - 1) (by common.map) before.trees now.trees rounds.ends.here

  never_denied : (number : ℕ) → result ≡ Err (fault.Tree number apply.Denied) → ⊥
  never_denied number e =
      let h = found_right apply.Denied number (by common.map) maps (λ f. cc (f)) (subst (IsRightAnswer (by common.map) maps) e (right common.map common.common)) in
      first_found apply.Denied (number - 1) (by common.map) maps h.1

  answered : (x : Result ℕ RoundFault) → result ≡ x → (names : Names) → IsRight (IsSynced folders maps merged) names (RoundCounted before now) (round_answer folders x)
  answered (Ok number) e names = λ m common. (Ok number, subst (IsRightAnswer (by m) maps) e (right m common), refl)
  answered (Err fault.Memory) e names = tt
  answered (Err (fault.Tree number (apply.Diverged p))) e names =
      λ m common. (Err (fault.Tree number (apply.Diverged p)), found_right (apply.Diverged p) number (by m) maps (λ f. cc (f)) (subst (IsRightAnswer (by m) maps) e (right m common)), refl)
  answered (Err (fault.Tree number (apply.Blocked p))) e names =
      λ m common. (Err (fault.Tree number (apply.Blocked p)), found_right (apply.Blocked p) number (by m) maps (λ f. cc (f)) (subst (IsRightAnswer (by m) maps) e (right m common)), refl)
  answered (Err (fault.Tree number apply.Failed)) e names = inr (failed_counted number e, (number, refl))
  answered (Err (fault.Tree number apply.Denied)) e names = absurd (never_denied number e)
  answered (Err (fault.Tree number apply.Memory)) e names = tt

  counted : (x : Result ℕ RoundFault) → result ≡ x → IsCounted (RoundCounted before now) (round_answer folders x)
  counted (Ok number) e = tt
  counted (Err fault.Memory) e = tt
  counted (Err (fault.Tree number (apply.Diverged p))) e = tt
  counted (Err (fault.Tree number (apply.Blocked p))) e = tt
  counted (Err (fault.Tree number apply.Failed)) e = failed_counted number e
  counted (Err (fault.Tree number apply.Denied)) e = absurd (never_denied number e)
  counted (Err (fault.Tree number apply.Memory)) e = tt

  round_allowed : (known : Option FileContents) → IsAllowed (IsSynced folders maps merged) known (RoundCounted before now) (round_answer folders result)
  round_allowed None = counted result refl
  round_allowed (Some k) = answered result refl k.held

files_among : (before now : Outside) (failure : Failure) → FilesCounted before.files now.files failure → RoundCounted before now failure
files_among before now (ReadFailed word) h = h
files_among before now (TreeFailed word) h = absurd h
files_among before now (TreeDenied word) h = absurd h

module _ (prefs : Option Operand) (folders files : List Operand) (words : List Text) (before now : Outside) (status : ℕ) (ran : RanRound prefs folders files words before now status) (maps : List Store) (held : AreHeld before.trees maps) where
  abbrev Allowed : Result Output Refusal → Type 0
  Allowed answer = IsAllowed (IsSync prefs folders files maps) before.files.contents (RoundCounted before now) answer

  answer_allowed : (merged : Result Merged Refusal) → IsAllowed (AreMergedLogs prefs files) before.files.contents (FilesCounted before.files now.files) merged → CarriesRound folders merged ran.answer before.trees now.trees → Allowed ran.answer
  answer_allowed (Err r) h does =
      subst Allowed (sym does.1)
      (refused (AreMergedLogs prefs files) (λ merged. IsSynced folders maps merged) (RoundCounted before now) before.files.contents r
      (allowed_more {X = Merged} (λ x a. x ≡ a) (AreMergedLogs prefs files) (FilesCounted before.files now.files) (RoundCounted before now) before.files.contents (Err r) (files_among before now) h))
  answer_allowed (Ok merged) h led = by_answer led.answers
    where
      by_answer : (ran.answer ≡ round_answer folders led.result) ⊎ (ran.answer ≡ Err OutOfMemory) → Allowed ran.answer
      by_answer (inl e) =
          subst Allowed (sym e)
          (second (AreMergedLogs prefs files) (λ merged. IsSynced folders maps merged) (RoundCounted before now) (FilesCounted before.files now.files) merged before.files.contents (round_answer folders led.result) h
          (round_allowed folders maps merged before now led.leads.common led.result led.leads.leaves (λ m common. (led.leads.of_known m common maps held).answer) before.files.contents))
      by_answer (inr e) = subst Allowed (sym e) (memory_allowed (IsSync prefs folders files maps) (RoundCounted before now) before.files.contents)

  answers_right : AnswersRight prefs folders files maps words before now status
  answers_right = record { answer = ran.answer; allowed = answer_allowed ran.finds.merged ran.finds.allowed ran.finds.carries; prints = ran.prints; says = ran.says }

-- ---- a run

module _ (words : List Text) (before now : Outside) (status : ℕ) (runs : Runs words before now status) (logs : List (List Change)) (merger : List Change) (tree : Store) (maps : List Store) (r : IsRound words before logs merger tree maps) where
  abbrev sets : List (List Change)
  sets = transitions (at tree) logs merger

  ran : RanRound r.prefs r.folders r.files words before now status
  ran = subst (λ j. RunsJob j words before now status) r.job runs.does

  read_so : (known : Option FileContents) (merged : Result Merged Refusal) → known ≡ Some r.contents → IsAllowed (AreMergedLogs r.prefs r.files) known (FilesCounted before.files now.files) merged →
      IsRight (AreMergedLogs r.prefs r.files) r.contents.held (FilesCounted before.files now.files) merged
  read_so known merged e h = subst (λ c. IsAllowed (AreMergedLogs r.prefs r.files) c (FilesCounted before.files now.files) merged) e h

  is_as : (merged : Merged) → AreMergedLogs r.prefs r.files r.contents.held false (Ok merged) → IsMergedAs logs merger tree merged
  is_as merged h = merged_as r.contents.held r.prefs r.files r.hold logs r.same merger r.first tree r.common merged h

  never : (refusal : Refusal) → AreMergedLogs r.prefs r.files r.contents.held false (Err refusal) → ⊥
  never refusal h = not_refused r.contents.held r.prefs r.files r.hold logs r.same merger r.first tree r.common refusal h

  completes_refused : (refusal : Refusal) → IsOfJob {X = Merged} (Err refusal) → IsRight (AreMergedLogs r.prefs r.files) r.contents.held (FilesCounted before.files now.files) (Err refusal) →
      Prints (Err refusal) status before.out now.out → CompletesOnTrees before now status
  completes_refused InvalidArguments job right p trees_quiet files_quiet out_quiet = absurd job
  completes_refused OutOfMemory job right p trees_quiet files_quiet out_quiet = inr p.0
  completes_refused (CallFailed failure) job (inl right) p trees_quiet files_quiet out_quiet = absurd (never (CallFailed failure) right)
  completes_refused (CallFailed (ReadFailed word)) job (inr right) p trees_quiet files_quiet out_quiet = absurd (files_quiet right.0)
  completes_refused (CallFailed (TreeFailed word)) job (inr right) p trees_quiet files_quiet out_quiet = absurd right.0
  completes_refused (CallFailed (TreeDenied word)) job (inr right) p trees_quiet files_quiet out_quiet = absurd right.0
  completes_refused (Found finding) job right p trees_quiet files_quiet out_quiet = absurd (never (Found finding) right)

  left : Left sets maps before now status
  left = by ran.finds.merged ran.finds.of_job (read_so before.files.contents ran.finds.merged r.known ran.finds.allowed) ran.finds.carries
    where
      by : (merged : Result Merged Refusal) → IsOfJob merged → IsRight (AreMergedLogs r.prefs r.files) r.contents.held (FilesCounted before.files now.files) merged → CarriesRound r.folders merged ran.answer before.trees now.trees →
          Left sets maps before now status
      by (Err refusal) job right does =
          left_refused sets maps before now status r.held ran.answer ran.prints refusal does.0 does.1
          (λ ready. completes_refused refusal job right (refused_prints sets maps before now status r.held ran.answer ran.prints refusal does.0 does.1))
      by (Ok merged) job right led =
          let is = is_as merged right in
          left_led sets maps before now status r.held r.folders ran.answer ran.prints led.result led.answers (one_transitions (at tree) logs merger)
          (subst (λ s. Rounds s led.result before.trees now.trees) is.sets (led.leads.leaves tree is.common))
          (subst (λ s. RoundsKnown s maps led.result now.trees) is.sets (led.leads.of_known tree is.common maps r.held))

  go_on : (starts : List Holding) → AreOnTheirWay sets starts (holdings maps) → GoOn sets starts maps before now status
  go_on starts way =
      let ready = ways_ready sets starts (holdings maps) way in
      record {
        stores = left.stores;
        held = left.held;
        way = ways_on sets starts (holdings maps) (holdings left.stores) way (left.way ready);
        paid = left.paid ready;
        target = λ z. left.done z ∙ ways_targets sets starts (holdings maps) way;
        gains = left.gains;
        completes = left.completes ready;
      }

  -- the results of the logs are ready
  module _ (change : AllChange logs) where
    least : (m : Store) × (at m ≡ least_common_tree logs) × IsCommonTree m logs
    least = least_law logs change (record { map = tree; common = r.common })

    of_least : transitions (least_common_tree logs) logs merger ≡ sets
    of_least =
        ap (λ t. transitions t logs merger) (sym least.1)
        ∙ each_tree_law logs change least.0 tree least.2 r.common merger (r.first tree r.common).merger.within

    results_goal : AreReady sets (results (at tree) logs) × (targets sets (results (at tree) logs) ≡ map {B = Holding} (λ log. after merger (at tree)) logs)
    results_goal =
        let first = (r.first tree r.common).merger in
        subst (λ s. AreReady s (results (at tree) logs) × (targets s (results (at tree) logs) ≡ map {B = Holding} (λ log. after merger (at tree)) logs)) of_least
        (results_law logs change tree r.common merger first.within first.fits)

    meet_at : AreOnTheirWay sets (results (at tree) logs) (holdings maps) → MeetAt (after merger (at tree)) logs before now status
    meet_at way =
        let on = go_on (results (at tree) logs) way in
        record { stores = on.stores; held = on.held; met = λ z. on.target z ∙ results_goal.1; completes = on.completes }

  change : AllChange logs
  change = subst AllChange (sym r.same) (all_change_held r.contents.held r.files r.hold.logs r.hold.hold.texts)

  meet_from : (holdings maps ≡ results (at tree) logs) ⊎ AreOnTheirWay sets (results (at tree) logs) (holdings maps) → MeetAt (after merger (at tree)) logs before now status
  meet_from (inl e) = meet_at change (subst (AreOnTheirWay sets (results (at tree) logs)) (sym e) (ready_ways sets (results (at tree) logs) (results_goal change).0))
  meet_from (inr way) = meet_at change way

  stay : (AreReady sets (holdings maps) → ⊥) → AreHeld now.trees maps
  stay unready = subst (AreHeld now.trees) (left.unready unready) left.held

module _ (words : List Text) (before now : Outside) (status : ℕ) (runs : Runs words before now status) where
  pub resumes_round : ResumesRound words before now status
  resumes_round logs merger tree maps starts r way = go_on words before now status runs logs merger tree maps r starts way

  pub joins_replicas : JoinsReplicas words before now status
  joins_replicas logs merger tree maps r began = meet_from words before now status runs logs merger tree maps r began

  pub keeps_unready_round : KeepsUnreadyRound words before now
  keeps_unready_round logs merger tree maps r unready = stay words before now status runs logs merger tree maps r unready

  pub answers_round : AnswersRound words before now status
  answers_round prefs folders files maps e held =
      (answers_right prefs folders files words before now status (subst (λ j. RunsJob j words before now status) e runs.does) maps held, sync_one prefs folders files maps)
