-- The net sets of logs, and what they do one after another: what stands for them, and that it can be printed.
use Rattle.std.proofs.Common.{◌≡◌, ◌++◌, ◌<◌, ◌≤◌, ℕ, zero, suc, List, [], ◌∷◌, length, take, drop, get_or, Ok, Vec, Global, refl, sym, ap, subst, ◌∙◌, arith}
use Rattle.std.proofs.lemmas.List.{length-map}
use Rattle.std.specs.List.{AllByRecursion}
use Rattle.sync_command.specs.Changes.{Change}
use Rattle.canon_set.specs.Logs.{net}
use Rattle.canon_set.specs.Sets.{canonical}
use Rattle.canon_set.specs.Sums.{Sum, StandsFor}
use Rattle.log_text.specs.Logs.{IsOfVersion}
use Rattle.refluent.specs.Joints.{EachStandsFor, net_sets}
use Rattle.rounds.specs.Compositions.{StopsAt, chain_list, composition}
use Rattle.treesync.specs.Catchup.{AreNetsOf, nets_of}
use Rattle.treesync.specs.Checks.{IsJudged}
use Rattle.treesync.specs.Joining.{AreSumsOf, ArePrintable, EachStands, EachTaken, commands_of, joint_version}
use Rattle.treesync.specs.Logs.{ReadLog, later_version}
use Rattle.tool_words.specs.Words.{Operand}
use Rattle.treesync.proofs.JoinLemmas.{stands_at, taken_here, take_whole}
use Rattle.treesync.proofs.Labels.{each_canonical, net_printable}
use Rattle.treesync.proofs.MergeLemmas.{each_append, of_first, of_second}

-- ---- the net sets of sums

as_each : (sums : List Sum) (logs : List (List Change)) → EachStandsFor sums logs → EachStands StandsFor sums logs
as_each [] [] h = tt
as_each [] (log ∷ logs) h = absurd h
as_each (sum ∷ sums) [] h = absurd h
as_each (sum ∷ sums) (log ∷ logs) h = (h.0, as_each sums logs h.1)

sums_many : (sums : List Sum) (logs : List (List Change)) → EachStandsFor sums logs → length logs ≡ length sums
sums_many [] [] h = refl
sums_many [] (log ∷ logs) h = absurd h
sums_many (sum ∷ sums) [] h = absurd h
sums_many (sum ∷ sums) (log ∷ logs) h = ap suc (sums_many sums logs h.1)

net_dropped : (logs : List (List Change)) (n : ℕ) (log : List Change) → drop n logs ≡ log ∷ drop (suc n) logs → drop n (net_sets logs) ≡ canonical (net log) ∷ drop (suc n) (net_sets logs)
net_dropped [] zero log e = absurd (cc)
net_dropped [] (suc n) log e = absurd (cc)
net_dropped (l ∷ logs) zero log e = let same : l ≡ log = cc in ap (λ x. canonical (net x) ∷ net_sets logs) same
net_dropped (l ∷ logs) (suc n) log e = net_dropped logs n log e

-- the sets are those of the first of the logs that the sums stand for
abbrev pub NetsSoFar : List Sum → ℕ → List (List Change) → Type 0
NetsSoFar sums n sets = (logs : List (List Change)) → EachStandsFor sums logs → sets ≡ take n (net_sets logs)

pub no_nets : (sums : List Sum) (sets : List (List Change)) → sets ≡ [] → NetsSoFar sums 0 sets
no_nets sums sets e logs h = e

module _ (sums : List Sum) (n : ℕ) (sets : List (List Change)) (so_far : NetsSoFar sums n sets) where
  pub one_net : (sum : Sum) (set : List Change) → n < length sums → sum ≡ get_or sums n sum → ((cs : List Change) → StandsFor sum cs → set ≡ canonical (net cs)) → NetsSoFar sums (suc n) (sets ++ set ∷ [])
  one_net sum set low is nets logs h =
      let s = stands_at StandsFor sums logs n sum (as_each sums logs h) low in
      let here : set ≡ canonical (net s.0) = nets s.0 (subst (λ x. StandsFor x s.0) (sym is) s.1) in
      ap (λ l. l ++ set ∷ []) (so_far logs h) ∙ ap (λ x. take n (net_sets logs) ++ x ∷ []) here ∙ sym (taken_here (net_sets logs) n (canonical (net s.0)) (net_dropped logs n s.0 s.2))

  pub all_nets : length sums ≤ n → (logs : List (List Change)) → EachStandsFor sums logs → sets ≡ net_sets logs
  all_nets low logs h = so_far logs h ∙ take_whole (net_sets logs) n (omega (arith, length-map logs (λ log. canonical (net log)), sums_many sums logs h))

-- ---- those of logs

pub nets_of_sums : (files : List Operand) (reads : List ReadLog) (sums : Vec Sum Global) (sets : Vec (List Change) Global) → IsJudged AreSumsOf (EachTaken files reads) (Ok sums) →
    ((logs : List (List Change)) → EachStandsFor sums.items logs → sets.items ≡ net_sets logs) → IsJudged AreNetsOf (EachTaken files reads) (Ok sets)
nets_of_sums files reads sums sets s nets = (s.0, nets (commands_of s.0) s.1, s.2)

-- ---- what they do one after another

-- the chain list can be printed in the version of the logs
chain_printable : (reads : List ReadLog) → ArePrintable reads → AllByRecursion (IsOfVersion (joint_version reads)) (chain_list (nets_of reads))
chain_printable [] h = tt
chain_printable (r ∷ reads) h =
    each_append (IsOfVersion (later_version r.version (joint_version reads))) (canonical (canonical (net r.commands))) (chain_list (nets_of reads))
    (of_first r.version (joint_version reads) (canonical (canonical (net r.commands))) (each_canonical (IsOfVersion r.version) (canonical (net r.commands)) (net_printable r.version r.commands h.0)))
    (of_second r.version (joint_version reads) (chain_list (nets_of reads)) (chain_printable reads h.1))

pub composition_printable : (reads : List ReadLog) → ArePrintable reads → AllByRecursion (IsOfVersion (joint_version reads)) (canonical (composition (nets_of reads)))
composition_printable reads h = net_printable (joint_version reads) (chain_list (nets_of reads)) (chain_printable reads h)

-- the number of the set at which they stop is that of one of them
pub stop_within : (sets : List (List Change)) (number : ℕ) (node : List (List ℕ)) → StopsAt sets number node → (0 < number) × (number ≤ length sets)
stop_within sets number node s = (omega (arith, s.number_is), omega (arith, s.number_is, ap length s.sets_are, more s.before))
  where
    more : (before : List (List Change)) → length before < length (before ++ s.set ∷ s.behind)
    more [] = omega arith
    more (b ∷ before) = let m = more before in omega (arith, m)
