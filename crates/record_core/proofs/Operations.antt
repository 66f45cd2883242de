-- An operation: its plan, its size and its commands, and the operations one after another.
use Rattle.std.proofs.Common.{◌≡◌, inr, ℕ, Bool, true, false, List, [], ◌∷◌, ◌++◌, Option, Some, None, Ok, Err, refl, sym, ap, subst, ◌∙◌, arith, append_assoc}
use Rattle.std.specs.Prelude.{Result, if◌then◌else◌}
use Rattle.std.specs.List.{All}
use Rattle.sync_command.specs.declared.values.Version.{Version}
use Rattle.sync_command.specs.Changes.{Change}
use Rattle.sync_command.specs.Maps.{IsTreeMap, Store, at, stored}
use Rattle.std.proofs.lemmas.List.Elements.{All-cons}
use Rattle.sync_command.specs.Trees.{Holding, put}
use Rattle.sync_port.specs.States.{IfBoth}
use Rattle.sync_port.specs.Ports.{SinkContents}
use Rattle.sync_port.proofs.CallerLemmas.{both_more}
use Rattle.tree_port.specs.States.{IfHeld}
use Rattle.record_core.specs.declared.faults.RecordFault.{RecordFault}
use Rattle.record_core.specs.declared.faults.RecordFault.TheVariants.{OpRefused, TreeFailed, TreeDenied, WriteFault, TooLarge, Memory}
use Rattle.record_core.specs.declared.faults.Why.TheVariants.{Labelled}
use Rattle.record_core.specs.declared.log_size.LogSize.{LogSize}
use Rattle.record_core.specs.declared.ops.Op.{Op}
use Rattle.record_core.specs.declared.steps.Step.{Step}
use Rattle.record_core.specs.Meanings.{commands_of, first_that_applies, is_labelled, meaning, nodes_of, tests, unless}
use Rattle.record_core.specs.Plans.{AnswersOp, CarriesOutOp, HasNames, IsSizeOf, Measures, OfEachLog, OpGoesOn, OpIsCut, OpRecorded, steps_of}
use Rattle.record_core.specs.Recording.{CarriesOut, GoesOn, IsPartDone, IsRecorded, LeavesOpen, StopsInside}
use Rattle.record_core.specs.Steps.{AreSteady, CanWalk, IsFull, change_of, changes_of}
use Rattle.record_core.specs.Texts.{is_within}
use Rattle.record_core.proofs.OneCommand.{BothHeld, part_after, stored_more}
use Rattle.record_core.proofs.Planned.{can_walk, steps_commands}
use Rattle.record_core.proofs.Walks.{held_later}

-- ---- the plan

held_both : {P Q R : Store → Type 0} (t : Option Store) → IfHeld t P → IfHeld t Q → ((m : Store) → P m → Q m → R m) → IfHeld t R
held_both None p q f = tt
held_both (Some m) p q f = f m p q

abbrev pub IsPrepared : Op → List Step → Store → Type 0
IsPrepared o steps m = (first_that_applies (tests (nodes_of m) o) ≡ None) × (steps ≡ steps_of (nodes_of m) o) × HasNames o

commands_are : (m : Store) (o : Op) (steps : List Step) → steps ≡ steps_of (nodes_of m) o → commands_of (nodes_of m) o ≡ changes_of (at m) steps
commands_are m o steps e = sym (steps_commands m o) ∙ ap (changes_of (at m)) (sym e)

pub plan_labelled : (t u : Option Store) (version : Version) (number : ℕ) (o : Op) (steps l : List Step) (b : Bool) → u ≡ t → IfHeld t (IsPrepared o steps) → IfHeld u (λ m. b ≡ is_labelled version (changes_of (at m) l)) → l ≡ steps → b ≡ true
    → IfHeld t (λ m. (number ≡ number) × (meaning version (nodes_of m) o ≡ Err Labelled))
plan_labelled t u version number o steps l b same prepared labels e some = held_both t prepared (subst (λ c. IfHeld c (λ m. b ≡ is_labelled version (changes_of (at m) l))) same labels) (λ m p h. (
  refl,
  ap (λ o'. unless o' version (commands_of (nodes_of m) o)) p.0
      ∙ ap (λ c. if c then Err Labelled else Ok (commands_of (nodes_of m) o)) (ap (is_labelled version) (commands_are m o steps p.1 ∙ ap (changes_of (at m)) (sym e)) ∙ sym h ∙ some),
))

pub plan_made : (t u : Option Store) (version : Version) (o : Op) (steps l : List Step) (b : Bool) → u ≡ t → IfHeld t IsTreeMap → IfHeld t (IsPrepared o steps) → IfHeld u (λ m. b ≡ is_labelled version (changes_of (at m) l)) → l ≡ steps → b ≡ false
    → IfHeld t (λ m. (meaning version (nodes_of m) o ≡ Ok (changes_of (at m) steps)) × CanWalk m steps)
plan_made t u version o steps l b same trees prepared labels e none = held_both t trees (held_both {R = λ m. IsPrepared o steps m × (b ≡ is_labelled version (changes_of (at m) l))} t prepared (subst (λ c. IfHeld c (λ m. b ≡ is_labelled version (changes_of (at m) l))) same labels) (λ m p h. (p, h)))
    (λ m tree (p, h). (
      ap (λ o'. unless o' version (commands_of (nodes_of m) o)) p.0
          ∙ ap (λ c. if c then Err Labelled else Ok (commands_of (nodes_of m) o)) (ap (is_labelled version) (commands_are m o steps p.1 ∙ ap (changes_of (at m)) (sym e)) ∙ sym h ∙ none)
          ∙ ap Ok (commands_are m o steps p.1),
      subst (CanWalk m) (sym p.1) (can_walk m tree o p.2 p.0),
    ))

-- ---- the size

all_full : (t u : Holding) (steps : List Step) → AreSteady t u steps → All (IsFull t) steps
all_full t u [] h = λ k d low. absurd (omega (arith, low))
all_full t u (s ∷ steps) h = All-cons (IsFull t) s steps h.0 (all_full t (put u (change_of t s).node (change_of t s).new) steps h.2)

abbrev pub IsPlan : Version → Op → List Step → Store → Type 0
IsPlan version o steps m = (meaning version (nodes_of m) o ≡ Ok (changes_of (at m) steps)) × CanWalk m steps

pub plan_full : (t u : Option Store) (version : Version) (o : Op) (steps l : List Step) → u ≡ t → IfHeld t (IsPlan version o steps) → l ≡ steps → IfHeld u (λ m. All (IsFull (at m)) l)
plan_full t u version o steps l same plan e = subst (λ c. IfHeld c (λ m. All (IsFull (at m)) l)) (sym same) (held_both t plan plan (λ m p q. subst (All (IsFull (at m))) (sym e) (all_full (at m) (at m) steps p.1.steady)))

-- ---- the commands

-- what was planned and measured, and is recorded
op_recorded : (version : Version) (o : Op) (steps l : List Step) (size next : LogSize) (n : Store) (done : List Change) (R : List Change → Type 0) → l ≡ steps → IsPlan version o steps n → OfEachLog (Measures size (changes_of (at n) l)) size (Ok next)
    → IsSizeOf version done size → R (done ++ changes_of (at n) steps) → OpRecorded version o next done n R
op_recorded version o steps l size next n done R e plan sizes sized recorded = let fits = sizes version done sized in record {
  commands = changes_of (at n) steps;
  meant = record { means = plan.0; within = subst (λ z. is_within version (done ++ changes_of (at n) z) ≡ true) e fits.0 };
  recorded = recorded;
  sized = subst (λ z. IsSizeOf version (done ++ changes_of (at n) z) next) e fits.1;
}

-- the same, where it is cut short
op_stopped : (version : Version) (number : ℕ) (o : Op) (steps l : List Step) (size next old : LogSize) (fault : RecordFault) (n : Store) (done : List Change) (R C : List Change → Type 0) → l ≡ steps → IsPlan version o steps n
    → OfEachLog (Measures size (changes_of (at n) l)) size (Ok next) → StopsInside {T = Unit {0}} (Err fault) → IsSizeOf version done size → ((rest : List Change) → C (done ++ (changes_of (at n) steps ++ rest))) → AnswersOp version number o old (Err fault) done n R C
op_stopped version number o steps l size next old fault n done R C e plan sizes stops sized cut = go fault stops
  where
    is_cut : OpIsCut version o done n C
    is_cut = let fits = sizes version done sized in record {
      commands = changes_of (at n) steps;
      meant = record { means = plan.0; within = subst (λ z. is_within version (done ++ changes_of (at n) z) ≡ true) e fits.0 };
      cut = cut;
    }

    go : (fault : RecordFault) → StopsInside {T = Unit {0}} (Err fault) → AnswersOp version number o old (Err fault) done n R C
    go (OpRefused j why) stops = absurd stops
    go TooLarge stops = absurd stops
    go TreeDenied stops = absurd stops
    go WriteFault stops = inr is_cut
    go TreeFailed stops = inr is_cut
    go Memory stops = inr is_cut

-- the plan and its size, and what is known of the tree later
abbrev IsReady : Version → Op → List Step → List Step → LogSize → LogSize → Store → Type 0
IsReady version o steps l size next m = IsPlan version o steps m × OfEachLog (Measures size (changes_of (at m) l)) size (Ok next)

ready : (t u : Option Store) (version : Version) (o : Op) (steps l : List Step) (size next : LogSize) → u ≡ t → IfHeld t (IsPlan version o steps) → IfHeld u (λ m. OfEachLog (Measures size (changes_of (at m) l)) size (Ok next)) → IfHeld t (IsReady version o steps l size next)
ready t u version o steps l size next e plan sizes = held_both {R = IsReady version o steps l size next} t plan (subst (λ c. IfHeld c (λ m. OfEachLog (Measures size (changes_of (at m) l)) size (Ok next))) e sizes) (λ m p s. (p, s))

-- the same, and of the refusals that come before a first command none comes
stopping : (t u v : Option Store) (version : Version) (o : Op) (steps l : List Step) (size next : LogSize) (fault : RecordFault) → u ≡ t → v ≡ u → IfHeld t (IsPlan version o steps) → IfHeld u (λ m. OfEachLog (Measures size (changes_of (at m) l)) size (Ok next))
    → IfHeld v (λ m. StopsInside {T = Unit {0}} (Err fault)) → IfHeld t (λ m. IsReady version o steps l size next m × StopsInside {T = Unit {0}} (Err fault))
stopping t u v version o steps l size next fault eu ev plan sizes stops =
    held_both {R = λ m. IsReady version o steps l size next m × StopsInside {T = Unit {0}} (Err fault)} t (ready t u version o steps l size next eu plan sizes) (subst (λ c. IfHeld c (λ m. StopsInside {T = Unit {0}} (Err fault))) (ev ∙ eu) stops) (λ m p z. (p, z))

pub op_done : (a d : Option SinkContents) (t u v w : Option Store) (version : Version) (number : ℕ) (o : Op) (steps l k : List Step) (size next : LogSize) → u ≡ t → v ≡ u → l ≡ steps → k ≡ steps → IfHeld t (IsPlan version o steps)
    → IfHeld u (λ m. OfEachLog (Measures size (changes_of (at m) l)) size (Ok next)) → BothHeld a d v w (λ x y m n. GoesOn {T = Unit {0}} (changes_of (at m) k) (Ok tt) x y m n) → BothHeld a d t w (OpGoesOn version number o size next (Ok tt))
op_done a d t u v w version number o steps l k size next eu ev el ek plan sizes recorded = both_more a d (subst (λ c. BothHeld a d c w (λ x y m n. GoesOn {T = Unit {0}} (changes_of (at m) k) (Ok tt) x y m n)) (ev ∙ eu) recorded)
    (λ x y f. held_later t w (ready t u version o steps l size next eu plan sizes) f
    (λ n o' (p, s) g done w' m is sized.
    op_recorded version o steps l size next n done (λ cs. IsRecorded version cs w' y m o') el p s sized (subst (λ z. IsRecorded version (done ++ changes_of (at n) z) w' y m o') ek (g version done w' m is))))

pub op_done_tree : (t u v w : Option Store) (version : Version) (number : ℕ) (o : Op) (steps l k : List Step) (size next : LogSize) → u ≡ t → v ≡ u → l ≡ steps → k ≡ steps → IfHeld t (IsPlan version o steps)
    → IfHeld u (λ m. OfEachLog (Measures size (changes_of (at m) l)) size (Ok next)) → IfBoth v w (λ m n. CarriesOut {T = Unit {0}} (changes_of (at m) k) (Ok tt) m n) → IfBoth t w (CarriesOutOp version number o size next (Ok tt))
op_done_tree t u v w version number o steps l k size next eu ev el ek plan sizes made = held_later t w (ready t u version o steps l size next eu plan sizes) (subst (λ c. IfBoth c w (λ m n. CarriesOut {T = Unit {0}} (changes_of (at m) k) (Ok tt) m n)) (ev ∙ eu) made)
    (λ n o' (p, s) h done m is sized.
    op_recorded version o steps l size next n done (λ cs. o' ≡ stored m cs) el p s sized
    (subst (λ z. o' ≡ stored m (done ++ changes_of (at n) z)) ek (h ∙ ap (λ z. stored z (changes_of (at n) k)) is ∙ sym (stored_more m done (changes_of (at n) k)))))

pub op_cut : (a d : Option SinkContents) (t u v w : Option Store) (version : Version) (number : ℕ) (o : Op) (steps l k : List Step) (size next old : LogSize) (fault : RecordFault) (r : Result (Unit {0}) RecordFault) → u ≡ t → v ≡ u → l ≡ steps → k ≡ steps → IfHeld t (IsPlan version o steps)
    → IfHeld u (λ m. OfEachLog (Measures size (changes_of (at m) l)) size (Ok next)) → IfHeld v (λ m. StopsInside {T = Unit {0}} (Err fault)) → BothHeld a d v w (λ x y m n. GoesOn {T = Unit {0}} (changes_of (at m) k) (Err fault) x y m n) → r ≡ Err fault
    → BothHeld a d t w (OpGoesOn version number o size old r)
op_cut a d t u v w version number o steps l k size next old fault r eu ev el ek plan sizes stops recorded e = subst (λ r. BothHeld a d t w (OpGoesOn version number o size old r)) (sym e) (both_more a d (subst (λ c. BothHeld a d c w (λ x y m n. GoesOn {T = Unit {0}} (changes_of (at m) k) (Err fault) x y m n)) (ev ∙ eu) recorded)
    (λ x y f. held_later t w (stopping t u v version o steps l size next fault eu ev plan sizes stops) f
    (λ n o' (p, z) g done w' m is sized.
    op_stopped version number o steps l size next old fault n done (λ cs. IsRecorded version cs w' y m o') (λ cs. LeavesOpen version cs w' y m o') el p.0 p.1 z sized
    (λ rest. subst (λ z. LeavesOpen version (done ++ (changes_of (at n) z ++ rest)) w' y m o') ek (g version done w' m is rest)))))

pub op_cut_tree : (t u v w : Option Store) (version : Version) (number : ℕ) (o : Op) (steps l k : List Step) (size next old : LogSize) (fault : RecordFault) (r : Result (Unit {0}) RecordFault) → u ≡ t → v ≡ u → l ≡ steps → k ≡ steps → IfHeld t (IsPlan version o steps)
    → IfHeld u (λ m. OfEachLog (Measures size (changes_of (at m) l)) size (Ok next)) → IfHeld v (λ m. StopsInside {T = Unit {0}} (Err fault)) → IfBoth v w (λ m n. CarriesOut {T = Unit {0}} (changes_of (at m) k) (Err fault) m n) → r ≡ Err fault
    → IfBoth t w (CarriesOutOp version number o size old r)
op_cut_tree t u v w version number o steps l k size next old fault r eu ev el ek plan sizes stops made e = subst (λ r. IfBoth t w (CarriesOutOp version number o size old r)) (sym e)
    (held_later t w (stopping t u v version o steps l size next fault eu ev plan sizes stops) (subst (λ c. IfBoth c w (λ m n. CarriesOut {T = Unit {0}} (changes_of (at m) k) (Err fault) m n)) (ev ∙ eu) made)
    (λ n o' (p, z) h done m is sized.
    op_stopped version number o steps l size next old fault n done (λ cs. o' ≡ stored m cs) (λ cs. IsPartDone cs m o') el p.0 p.1 z sized
    (λ rest. part_after done (changes_of (at n) k) rest (done ++ (changes_of (at n) steps ++ rest)) m n o' (append_assoc done (changes_of (at n) k) rest ∙ ap (λ z. done ++ (changes_of (at n) z ++ rest)) ek) is h)))
