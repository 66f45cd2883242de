-- A log's net set that is ranked before all else is held by the first merger, and which logs are ranked so.
use Rattle.std.proofs.Common.{◌≡◌, ℕ, zero, suc, Bool, true, false, not, ◌&&◌, ◌||◌, List, [], ◌∷◌, ◌++◌, Some, refl, sym, ap, subst, ◌∙◌, arith, ◌⊎◌, inl, inr, append_assoc}
use Rattle.std.specs.Prelude.{if◌then◌else◌, is_none}
use Rattle.std.specs.List.{filter, list_any}
use Rattle.sync_path.specs.Paths.{same_path, is_under}
use Rattle.sync_path.proofs.CallerLemmas.{both, same_path_is}
use Rattle.sync_command.specs.Values.{is_empty, is_dir}
use Rattle.sync_command.specs.Changes.{Change, same_change}
use Rattle.sync_command.specs.Trees.{Holding, command_at, after, one_each, Fits}
use Rattle.sync_command.specs.Maps.{Store, at}
use Rattle.sync_command.proofs.CallerLemmas.{tree_above}
use Rattle.canon_set.specs.Logs.{net}
use Rattle.canon_set.specs.Sets.{canonical}
use Rattle.canon_set.proofs.CallerLemmas.{net_fits, one_each-canonical}
use Rattle.refluent.specs.CommonTrees.{IsAmong, AllChange, IsCommonTree}
use Rattle.refluent.specs.Drawn.{drawn_commands, in_turn}
use Rattle.refluent.specs.FirstDisagreements.{log_at}
use Rattle.refluent.specs.Joints.{net_sets}
use Rattle.refluent.specs.Sets.{is_in, IsSubset, all_differ, differs_from, without_repeats}
use Rattle.refluent.proofs.CallerLemmas.{after_some, at_from_in, fewer, is_in-canonical, more, same_change_at, same_change_is}
use Rattle.pref_list.specs.Ranking.{expansions, ranking, set_from}
use Rattle.pref_list.specs.declared.rules.Rule.{Rule}
use Rattle.pref_list.specs.declared.rules.Rule.TheVariants.{All}
use Rattle.pref_list.proofs.CallerLemmas.{drawn_ranked}
use Rattle.merge_core.specs.Conflicts.{bars_under, conflicts, greedy_scan}
use Rattle.merge_core.specs.FirstMergers.{IsFirstMerger}
use Rattle.merge_core.proofs.CallerLemmas.{greedy_law, one_first}
use Rattle.rounds.specs.Rebasing.{IsRankedFirst}
use Rattle.rounds.proofs.Undoing.{one_net}

pub is_or_not : (b : Bool) → (b ≡ true) ⊎ (b ≡ false)
is_or_not true = inl refl
is_or_not false = inr refl

not_true : (b : Bool) → not b ≡ true → b ≡ false
not_true b e = grind arith

-- ---- a set that fits and is ranked before all else is taken by the scan

module _ (t : Holding) (ws : List Change) (fits : Fits t ws) where
  bars_none : (c d : Change) → is_in ws c ≡ true → is_in ws d ≡ true → bars_under c d ≡ false
  bars_none c d i j = decide (is_or_not (bars_under c d))
    where
      decide : (bars_under c d ≡ true) ⊎ (bars_under c d ≡ false) → bars_under c d ≡ false
      decide (inr e) = e
      decide (inl e) =
          let parts = both (not (is_dir c.new)) (is_under d.node c.node && not (is_empty d.new)) e in
          let rest = both (is_under d.node c.node) (not (is_empty d.new)) parts.1 in
          let low : after ws t d.node ≡ d.new = after_some t ws d.node d (at_from_in ws fits.one d j) in
          let high : after ws t c.node ≡ c.new = after_some t ws c.node c (at_from_in ws fits.one c i) in
          let dir : is_dir c.new ≡ true = ap is_dir (sym high) ∙ tree_above (after ws t) fits.tree d.node c.node rest.0 (ap is_empty low ∙ not_true (is_empty d.new) rest.1) in
          let bare : is_dir c.new ≡ false = not_true (is_dir c.new) parts.0 in cc (dir, bare)

  no_conflict : (c d : Change) → is_in ws c ≡ true → is_in ws d ≡ true → conflicts c d ≡ false
  no_conflict c d i j = all (same_node (is_or_not (same_path c.node d.node))) (bars_none c d i j) (bars_none d c j i)
    where
      all : {x y z : Bool} → x ≡ false → y ≡ false → z ≡ false → (x || (y || z)) ≡ false
      all {x} {y} {z} e f g = grind arith

      same_node : (same_path c.node d.node ≡ true) ⊎ (same_path c.node d.node ≡ false) → (same_path c.node d.node && not (same_change d c)) ≡ false
      same_node (inr e) = ap (λ b. b && not (same_change d c)) e
      same_node (inl e) =
          let is : d ≡ c = some_is (sym (at_from_in ws fits.one d j) ∙ ap (command_at ws) (sym (same_path_is c.node d.node e)) ∙ at_from_in ws fits.one c i) in
          ap (λ b. b && not (same_change d c)) e ∙ ap not (same_change_at d c is)
        where
          some_is : Some d ≡ Some c → d ≡ c
          some_is e = cc

  free : (c : Change) → is_in ws c ≡ true → (taken : List Change) → IsSubset taken ws → list_any (conflicts c) taken ≡ false
  free c i [] part = refl
  free c i (d ∷ taken) part = let parts = fewer d taken ws part in ap (λ b. b || list_any (conflicts c) taken) (no_conflict c d i parts.0) ∙ free c i taken parts.1

  scan_keeps : (rs taken : List Change) (x : Change) → is_in taken x ≡ true → is_in (greedy_scan rs taken) x ≡ true
  scan_keeps [] taken x e = e
  scan_keeps (r ∷ rs) taken x e = go (scan_keeps rs taken x e) (scan_keeps rs (r ∷ taken) x (wider (same_change x r) (is_in taken x) e)) (list_any (conflicts r) taken)
    where
      wider : (a b : Bool) → b ≡ true → (a || b) ≡ true
      wider a b e = grind arith

      go : is_in (greedy_scan rs taken) x ≡ true → is_in (greedy_scan rs (r ∷ taken)) x ≡ true → (b : Bool) → is_in (if b then greedy_scan rs taken else greedy_scan rs (r ∷ taken)) x ≡ true
      go out kept true = out
      go out kept false = kept

  scan_takes : (ps rs taken : List Change) → IsSubset ps ws → IsSubset taken ws → IsSubset ps (greedy_scan (ps ++ rs) taken)
  scan_takes [] rs taken part has x e = cc (e)
  scan_takes (c ∷ ps) rs taken part has x e =
      let parts = fewer c ps ws part in
      let is : greedy_scan ((c ∷ ps) ++ rs) taken ≡ greedy_scan (ps ++ rs) (c ∷ taken) = ap (λ b. if b then greedy_scan (ps ++ rs) taken else greedy_scan (ps ++ rs) (c ∷ taken)) (free c parts.0 taken has) in
      subst (λ l. is_in l x ≡ true) (sym is) (split (scan_takes ps rs (c ∷ taken) parts.1 (more c taken ws parts.0 has) x) (cases (same_change x c) (is_in ps x) e))
    where
      cases : (a b : Bool) → (a || b) ≡ true → (a ≡ true) ⊎ (b ≡ true)
      cases true b e = inl refl
      cases false b e = inr e

      split : (is_in ps x ≡ true → is_in (greedy_scan (ps ++ rs) (c ∷ taken)) x ≡ true) → (same_change x c ≡ true) ⊎ (is_in ps x ≡ true) → is_in (greedy_scan (ps ++ rs) (c ∷ taken)) x ≡ true
      split rest (inl same) = scan_keeps (ps ++ rs) (c ∷ taken) x (ap (λ b. b || is_in taken x) same)
      split rest (inr there) = rest there

pub held_law : (logs : List (List Change)) → AllChange logs → (m : Store) → IsCommonTree m logs → (log : List Change) → IsAmong log logs → (rules : List Rule) →
    IsRankedFirst log logs rules → (ms : List Change) → IsFirstMerger (at m) (drawn_commands logs) (ranking logs rules) ms → IsSubset (net log) ms
held_law logs change m common log among rules first ms merger c there =
    (one_first (at m) (drawn_commands logs) (ranking logs rules) ms (greedy_scan (ranking logs rules) []) (drawn_ranked logs rules) merger (greedy_law logs change m common rules)).1 c
    (subst (λ l. is_in (greedy_scan l []) c ≡ true) (sym first.is)
    (scan_takes (at m) (net log) (net_fits (at m) log common.tree.tree (common.takes log among)).0 (canonical (net log)) first.rest [] (λ x i. sym (is_in-canonical (net log) (one_net log) x) ∙ i) (λ x i. cc (i)) c
    (is_in-canonical (net log) (one_net log) c ∙ there)))

-- ---- which logs are ranked first

flipped : (c d : Change) → same_change c d ≡ false → same_change d c ≡ false
flipped c d e = decide (is_or_not (same_change d c))
  where
    decide : (same_change d c ≡ true) ⊎ (same_change d c ≡ false) → same_change d c ≡ false
    decide (inr f) = f
    decide (inl f) = let g : same_change c d ≡ true = same_change_at c d (sym (same_change_is d c f)) in cc (e, g)

filter_prefix : (c : Change) (cs rest : List Change) → is_in cs c ≡ false → filter (differs_from c) (cs ++ rest) ≡ cs ++ filter (differs_from c) rest
filter_prefix c [] rest out = refl
filter_prefix c (d ∷ cs) rest out =
    let parts = neither (same_change c d) (is_in cs c) out in
    ap (λ b. if not b then d ∷ filter (differs_from c) (cs ++ rest) else filter (differs_from c) (cs ++ rest)) (flipped c d parts.0) ∙ ap (λ l. d ∷ l) (filter_prefix c cs rest parts.1)
  where
    neither : (a b : Bool) → (a || b) ≡ false → (a ≡ false) × (b ≡ false)
    neither a b e = grind arith

-- a list without repeats stays as it is where it stands first
prefix_stays : (cs ds : List Change) → all_differ cs ≡ true → (rest : List Change) × (without_repeats (cs ++ ds) ≡ cs ++ rest)
prefix_stays [] ds differ = (without_repeats ds, refl)
prefix_stays (c ∷ cs) ds differ =
    let parts = both (not (is_in cs c)) (all_differ cs) differ in
    let ih = prefix_stays cs ds parts.1 in
    (filter (differs_from c) ih.0, ap (λ l. c ∷ filter (differs_from c) l) ih.1 ∙ ap (λ l. c ∷ l) (filter_prefix c cs ih.0 (not_true (is_in cs c) parts.0)))

differ_from_one : (cs : List Change) → one_each cs ≡ true → all_differ cs ≡ true
differ_from_one [] one = refl
differ_from_one (c ∷ cs) one = let parts = both (is_none (command_at cs c.node)) (one_each cs) one in ap (λ b. not b && all_differ cs) (decide parts.1 parts.0 (is_or_not (is_in cs c))) ∙ differ_from_one cs parts.1
  where
    decide : one_each cs ≡ true → is_none (command_at cs c.node) ≡ true → (is_in cs c ≡ true) ⊎ (is_in cs c ≡ false) → is_in cs c ≡ false
    decide rest none (inr e) = e
    decide rest none (inl e) = let x : false ≡ true = ap is_none (sym (at_from_in cs rest c e)) ∙ none in cc (x)

differ_net : (log : List Change) → all_differ (canonical (net log)) ≡ true
differ_net log = differ_from_one (canonical (net log)) (one_each-canonical (net log) (one_net log))

-- without rules log 1 is
pub first_log_first : (log : List Change) (logs : List (List Change)) → IsRankedFirst log (log ∷ logs) []
first_log_first log logs = let prefix = prefix_stays (canonical (net log)) (in_turn (net_sets logs)) (differ_net log) in record { rest = prefix.0; is = prefix.1 }

-- the net set of the log of a number
set_at : (logs : List (List Change)) (place : ℕ) → set_from (net_sets logs) place ≡ canonical (net (log_at logs place))
set_at [] zero = refl
set_at [] (suc place) = refl
set_at (log ∷ logs) zero = refl
set_at (log ∷ logs) (suc place) = set_at logs place

-- under rules that begin with `all`, the log of that rule is
pub ruled_log_first : (logs : List (List Change)) (place : ℕ) (rules : List Rule) → IsRankedFirst (log_at logs place) logs (All (suc place) ∷ rules)
ruled_log_first logs place rules =
    let prefix = prefix_stays (canonical (net (log_at logs place))) (expansions (net_sets logs) rules ++ in_turn (net_sets logs)) (differ_net (log_at logs place)) in
    record {
      rest = prefix.0;
      is = ap (λ l. without_repeats ((l ++ expansions (net_sets logs) rules) ++ in_turn (net_sets logs))) (set_at logs place)
          ∙ ap without_repeats (append_assoc (canonical (net (log_at logs place))) (expansions (net_sets logs) rules) (in_turn (net_sets logs))) ∙ prefix.1;
    }
