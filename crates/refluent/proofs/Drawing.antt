-- The drawn commands of logs that a tree takes: each is of the net set of one of them, and a drawn set that fits one common tree fits each.
use Rattle.std.proofs.Common.{◌≡◌, Bool, true, false, ◌||◌, List, [], ◌∷◌, Some, refl, sym, ap, ◌∙◌, arith, ◌⊎◌, inl, inr}
use Rattle.canon_set.specs.Logs.{net, all_change}
use Rattle.canon_set.specs.Sets.{canonical}
use Rattle.refluent.specs.CommonTrees.{IsAmong}
use Rattle.refluent.specs.Drawn.{nets_in_turn, drawn_commands}
use Rattle.refluent.specs.Sets.{is_in, IsSubset}
use Rattle.sync_command.specs.Changes.{Change}
use Rattle.sync_command.specs.Trees.{Holding, IsTree, Takes, command_at, Fits}
use Rattle.sync_path.specs.Paths.{Node}
use Rattle.refluent.proofs.EachTree.{IsDrawnOfBoth, fits_each}
use Rattle.refluent.proofs.Sets.{at_from_in, in_from_at, is_in-append, is_in-without_repeats}
use Rattle.canon_set.proofs.CallerLemmas.{net_fits, command_at-canonical, one_each-canonical}
use Rattle.sync_command.proofs.CallerLemmas.{command_at-node}

-- drawn: some set of drawn commands that fits has it
pub record IsDrawn (t : Holding) (drawn : List Change) (c : Change) : Type 0 where
  pub set : List Change
  pub fits : Fits t set
  pub part : IsSubset set drawn
  pub there : is_in set c ≡ true

-- a common tree of logs whose commands change something
pub record IsCommon (t : Holding) (logs : List (List Change)) : Type 0 where
  pub tree : IsTree t
  pub takes : (cs : List Change) → IsAmong cs logs → Takes t cs
  pub change : (cs : List Change) → IsAmong cs logs → all_change cs ≡ true

-- the log that a command in turn comes from
pub record IsFrom (logs : List (List Change)) (c : Change) : Type 0 where
  pub log : List Change
  pub among : IsAmong log logs
  pub there : is_in (canonical (net log)) c ≡ true

pub from_turn : (logs : List (List Change)) (c : Change) → is_in (nets_in_turn logs) c ≡ true → IsFrom logs c
from_turn [] c e = cc (e)
from_turn (cs ∷ logs) c e = split (cases _ _ (sym (is_in-append (canonical (net cs)) (nets_in_turn logs) c) ∙ e)) (from_turn logs c)
  where
    cases : (a b : Bool) → (a || b) ≡ true → (a ≡ true) ⊎ (b ≡ true)
    cases true b e = inl refl
    cases false b e = inr e

    split : (is_in (canonical (net cs)) c ≡ true) ⊎ (is_in (nets_in_turn logs) c ≡ true) → (is_in (nets_in_turn logs) c ≡ true → IsFrom logs c) → IsFrom (cs ∷ logs) c
    split (inl h) rec = record { log = cs; among = inl refl; there = h }
    split (inr h) rec = let f = rec h in record { log = f.log; among = inr f.among; there = f.there }

pub to_turn : (logs : List (List Change)) (log : List Change) (c : Change) → IsAmong log logs → is_in (canonical (net log)) c ≡ true → is_in (nets_in_turn logs) c ≡ true
to_turn [] log c i e = absurd i
to_turn (cs ∷ logs) log c (inl is) e = is_in-append (canonical (net cs)) (nets_in_turn logs) c ∙ ap (λ b. b || is_in (nets_in_turn logs) c) (ap (λ l. is_in (canonical (net l)) c) (sym is) ∙ e)
to_turn (cs ∷ logs) log c (inr i) e = is_in-append (canonical (net cs)) (nets_in_turn logs) c ∙ right _ _ (to_turn logs log c i e)
  where
    right : (a b : Bool) → b ≡ true → (a || b) ≡ true
    right a b e = grind arith

module _ (t : Holding) (logs : List (List Change)) (common : IsCommon t logs) where
  pub net_in : (log : List Change) → IsAmong log logs → IsSubset (net log) (drawn_commands logs)
  net_in log i c e = let fits = (net_fits t log common.tree (common.takes log i)).0 in
      is_in-without_repeats (nets_in_turn logs) c ∙ to_turn logs log c i (in_from_at (canonical (net log)) c.node c (command_at-canonical (net log) fits.one c.node ∙ at_from_in (net log) fits.one c e))

  -- each drawn command is of the net set of a log, which fits the common tree
  pub drawn_known : (c : Change) → is_in (drawn_commands logs) c ≡ true → IsDrawn t (drawn_commands logs) c
  drawn_known c e =
      let f = from_turn logs c (sym (is_in-without_repeats (nets_in_turn logs) c) ∙ e) in
      let fits = (net_fits t f.log common.tree (common.takes f.log f.among)).0 in
      record {
        set = net f.log;
        fits = fits;
        part = net_in f.log f.among;
        there = in_from_at (net f.log) c.node c (sym (command_at-canonical (net f.log) fits.one c.node) ∙ at_from_in (canonical (net f.log)) (one_each-canonical (net f.log) fits.one) c f.there);
      }

  -- the old value of a drawn command is held
  pub old_held : (ms : List Change) → IsSubset ms (drawn_commands logs) → (n : Node) (c : Change) → command_at ms n ≡ Some c → t n ≡ c.old
  old_held ms part n c e =
      let k : IsDrawn t (drawn_commands logs) c = drawn_known c (part c (in_from_at ms n c e)) in
      ap t (command_at-node ms n c e) ∙ k.fits.olds c.node c (at_from_in k.set k.fits.one c k.there)

-- A drawn set that fits one common tree fits each.
pub drawn_fits_each : (t u : Holding) (logs : List (List Change)) → IsCommon t logs → IsCommon u logs → (ms : List Change) → IsSubset ms (drawn_commands logs) → Fits t ms → Fits u ms
drawn_fits_each t u logs ct cu ms part fits = fits_each t u ms ct.tree cu.tree from fits
  where
    from : (p : Node) (c : Change) → command_at ms p ≡ Some c → IsDrawnOfBoth t u p c
    from p c e =
        let f = from_turn logs c (sym (is_in-without_repeats (nets_in_turn logs) c) ∙ part c (in_from_at ms p c e)) in
        let one = (net_fits t f.log ct.tree (ct.takes f.log f.among)).0.one in
        record {
          log = f.log;
          change = ct.change f.log f.among;
          first = ct.takes f.log f.among;
          second = cu.takes f.log f.among;
          there = ap (command_at (net f.log)) (command_at-node ms p c e) ∙ sym (command_at-canonical (net f.log) one c.node) ∙ at_from_in (canonical (net f.log)) (one_each-canonical (net f.log) one) c f.there;
        }
