-- The joint of logs that agree.
use Rattle.std.proofs.Common.{◌≡◌, ◌<◌, ◌≤◌, ℕ, suc, List, [], ◌∷◌, length, refl, sym, ap, subst, ◌∙◌, arith}
use Rattle.std.specs.Prelude.{Result, Err, Some}
use Rattle.std.specs.Result.{IsErrAnd}
use Rattle.std.specs.List.{slice_get}
use Rattle.refluent.specs.declared.faults.JoinFault.{JoinFault}
use Rattle.sync_command.specs.declared.commands.Row.{Row}
use Rattle.sync_command.specs.Changes.{Change}
use Rattle.canon_set.specs.Sums.{Sum}
use Rattle.refluent.specs.Joints.{AreSums, EachStandsFor, StandsForAll, net_sets}
use Rattle.refluent.specs.CommonTrees.{HasCommonTree}
use Rattle.refluent.specs.Comparisons.{IsAgreed}
use Rattle.refluent.specs.JointParts.{AreRowsOf, HasNets, sets_by}
use Rattle.refluent.specs.UniqueClaims.{AreUnique}
use Rattle.refluent.specs.declared.claims.Claim.{Claim}
use Rattle.refluent.specs.declared.table.Group.{Group}
use Rattle.refluent.proofs.Gathering.{each_length}
use Rattle.refluent.proofs.Nets.{nets}
use Rattle.refluent.specs.Drawn.{drawn_of}
use Rattle.refluent.specs.JointTables.{IsHeld}
use Rattle.refluent.specs.Numberings.{AreLinks, IsNumbered, all_changes}
use Rattle.refluent.specs.Picks.{net_commands}
use Rattle.refluent.specs.Sets.{without_repeats}
use Rattle.refluent.specs.Tables.{AreOrdered}
use Rattle.refluent.specs.declared.joint.Link.{Link}
use Rattle.refluent.specs.declared.numbering.Numbering.{Numbering}
use Rattle.refluent.proofs.Agreeing.{all_change_all}
use Rattle.refluent.proofs.NodeRows.{nodes_of}
use Rattle.refluent.proofs.DrawnCount.{drawn_count}
use Rattle.refluent.proofs.Linking.{all_picks, bounds_of, commands_of, parents_of, take_all}

length_sets : (logs : List (List Change)) (claims : List Claim) → length (net_sets logs) ≡ length logs
length_sets [] claims = refl
length_sets (cs ∷ logs) claims = ap suc (length_sets logs claims)

module _ (sums : List Sum) (claims : List Claim) (groups : List Group) (agreed : (logs : List (List Change)) → EachStandsFor sums logs → IsAgreed logs claims groups × HasCommonTree logs) (once : AreUnique claims) (count : ℕ) (many : count ≡ length sums) where
  pub have_nets : AreSums sums → HasNets claims count
  have_nets have = subst (HasNets claims) (each_length sums have.logs have.stand ∙ sym many) (nets sums have.logs claims have.stand (agreed have.logs have.stand).0.are once).0

  pub stands_for : (rows : List Row) → AreRowsOf claims groups rows → (sets : List (List Change)) → sets ≡ sets_by claims count → (logs : List (List Change)) → EachStandsFor sums logs → StandsForAll (record { sets = sets; nodes = rows }) logs
  stands_for rows made sets is logs stand = let a = agreed logs stand in let n = nodes_of sums logs stand claims groups a.0 rows made in record {
    change = all_change_all sums logs stand;
    common = a.1;
    sets = is ∙ ap (sets_by claims) (many ∙ sym (each_length sums logs stand)) ∙ (nets sums logs claims stand a.0.are once).1;
    order = n.order;
    nodes = n.nodes;
  }

  pub held : AreOrdered claims → AreSums sums → count ≤ 64 → (rows : List Row) → AreRowsOf claims groups rows → (sets : List (List Change)) → sets ≡ sets_by claims count →
      (links : List Link) → AreLinks claims groups links (length groups) → (n : Numbering) → IsNumbered claims (length claims) n → IsHeld sets rows links n.picks.items n.drawn
  held ordered have few rows made sets is links linked n numbered = let s = stands_for rows made sets is have.logs have.stand in let nets' = have_nets have in let table = (agreed have.logs have.stand).0.table in record {
    joint = record { logs = have.logs; stands = s };
    few = let a : length sets ≡ length have.logs = ap length s.sets ∙ length_sets have.logs claims in let b : length have.logs ≡ length sums = each_length sums have.logs have.stand in omega arith;
    many = linked.many ∙ sym made.many;
    parents = parents_of claims groups table rows made links linked;
    bounds = λ i row at. bounds_of claims groups table rows made links linked ordered n.picks.items (all_picks claims n numbered) i row at;
    commands = λ i row at. commands_of claims groups table rows made links linked ordered n.picks.items (all_picks claims n numbered) i row at count nets'.logs ∙ ap (λ l. net_commands l row.path) (sym is);
    counted = numbered.drawn ∙ ap (λ l. length (without_repeats (all_changes l))) (take_all claims) ∙ drawn_count claims ordered.unique count nets'.logs ∙ ap (λ l. length (drawn_of l)) (sym is);
  }

pub rows_here : (claims c1 : List Claim) (groups s1 : List Group) (rows : List Row) → c1 ≡ claims → s1 ≡ groups → AreRowsOf c1 s1 rows → AreRowsOf claims groups rows
rows_here claims c1 groups s1 rows e f h = subst (λ s. AreRowsOf claims s rows) f (subst (λ c. AreRowsOf c s1 rows) e h)

pub linked_here : (claims c1 : List Claim) (groups s1 : List Group) (links : List Link) → c1 ≡ claims → s1 ≡ groups → AreLinks c1 s1 links (length s1) → AreLinks claims groups links (length groups)
linked_here claims c1 groups s1 links e f h = subst (λ s. AreLinks claims s links (length s)) f (subst (λ c. AreLinks c s1 links (length s1)) e h)

pub numbered_here : (claims c1 : List Claim) (n : Numbering) → c1 ≡ claims → IsNumbered c1 (length c1) n → IsNumbered claims (length claims) n
numbered_here claims c1 n e h = subst (λ c. IsNumbered c (length c) n) e h

pub logs_here : (claims c1 : List Claim) (count : ℕ) → c1 ≡ claims → HasNets claims count → (k : ℕ) (c : Claim) → slice_get c1 k ≡ Some c → c.log < count
logs_here claims c1 count e h k c at = h.logs k c (ap (λ l. slice_get l k) (sym e) ∙ at)

pub err_same : {X Y : Type 0} (a b : JoinFault) → (let l : Result X JoinFault = Err a in l) ≡ Err b → (let r : Result Y JoinFault = Err a in r) ≡ Err b
err_same a b e = ap Err same
  where
    same : a ≡ b
    same = cc

pub err_by : {X : Type 0} (r : Result X JoinFault) (a b : JoinFault) → r ≡ Err b → IsErrAnd r (λ x. x ≡ a) → b ≡ a
err_by r a b is h = subst (λ x. IsErrAnd x (λ y. y ≡ a)) is h
