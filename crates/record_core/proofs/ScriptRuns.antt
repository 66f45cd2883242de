-- The operations of a script one after another.
use Rattle.std.proofs.Common.{◌≡◌, ◌⊎◌, inl, inr, ◌≤◌, ℕ, suc, zero, ◌+◌, ◌<◌, Bool, true, false, List, [], ◌∷◌, ◌++◌, length, get_or, drop, Option, Some, None, Ok, Err, refl, sym, ap, subst, ◌∙◌, arith, append_assoc, append-nil}
use Rattle.std.specs.Prelude.{⊤, Result, if◌then◌else◌, IsErrOf}
use Rattle.std.proofs.Math.Seq.{drop-cons}
use Rattle.sync_command.specs.declared.values.Version.{Version}
use Rattle.sync_command.specs.declared.values.Version.TheVariants.{One, Two}
use Rattle.sync_command.specs.Changes.{Change}
use Rattle.sync_command.specs.Maps.{Store, stored}
use Rattle.sync_port.specs.States.{IfBoth}
use Rattle.sync_port.specs.Ports.{SinkContents, SinkState}
use Rattle.sync_port.proofs.CallerLemmas.{both_alone, both_more, both_then}
use Rattle.tree_port.specs.States.{IfHeld, IfTreeKnown, NoneFell, TreeState}
use Rattle.record_core.specs.declared.faults.RecordFault.{RecordFault}
use Rattle.record_core.specs.declared.faults.RecordFault.TheVariants.{OpRefused, TreeFailed, TreeDenied, WriteFault, TooLarge, Memory}
use Rattle.record_core.specs.declared.faults.Why.{Why}
use Rattle.record_core.specs.declared.log_size.LogSize.{LogSize}
use Rattle.record_core.specs.declared.ops.Op.{Op}
use Rattle.record_core.specs.Meanings.{meaning, nodes_of}
use Rattle.record_core.specs.Outcomes.{AnswersAfter, AnswersOps, AnswersScript, AtEnd, CarriesOutOps, CarriesOutScript, ClosesAfter, EndsRefused, IsReached, Large, OpsGoOn, Outcome, RecordsScript, Refused, ScriptGoesOn, goes_on, outcome_from, outcome_of}
use Rattle.record_core.specs.Plans.{AnswersOp, CarriesOutOp, IsMeant, IsSizeOf, OpGoesOn, OpIsCut, OpRecorded}
use Rattle.record_core.specs.Recording.{Begins, Closes, HasCause, IfBothKnown, IsClosed, IsPartDone, IsRecorded, LeavesOpen}
use Rattle.record_core.specs.Texts.{is_within}
use Rattle.record_core.proofs.OneCommand.{BothHeld, part_of, stays_open, whole_done}
use Rattle.record_core.proofs.Walks.{fell_on, none_fell}

-- ---- outcomes

abbrev pub step_of : Version → Store → List Change → ℕ → Op → List Op → Outcome
step_of version m done number o ops = goes_on version done number (meaning version (nodes_of (stored m done)) o) (λ cs. outcome_from version m cs (number + 1) ops)

pub outcome_step : (version : Version) (m : Store) (done : List Change) (number : ℕ) (o : Op) (ops : List Op) → outcome_from version m done number (o ∷ ops) ≡ step_of version m done number o ops
unfolding outcome_from
outcome_step version m done number o ops = refl

pub outcome_end : (version : Version) (m : Store) (done : List Change) (number : ℕ) → outcome_from version m done number [] ≡ record { commands = done; end = AtEnd }
unfolding outcome_from
outcome_end version m done number = refl

-- the commands of an outcome go on after those before
extends : (version : Version) (m : Store) (done : List Change) (number : ℕ) (ops : List Op) → (rest : List Change) × ((outcome_from version m done number ops).commands ≡ done ++ rest)
extends version m done number [] = ([], ap (λ r. r.commands) (outcome_end version m done number) ∙ sym (append-nil done))
extends version m done number (o ∷ ops) =
    let r = go (meaning version (nodes_of (stored m done)) o) (λ cs. extends version m cs (number + 1) ops) in (r.0, ap (λ r. r.commands) (outcome_step version m done number o ops) ∙ r.1)
  where
    go : (r : Result (List Change) Why) → ((cs : List Change) → (rest : List Change) × ((outcome_from version m cs (number + 1) ops).commands ≡ cs ++ rest))
        → (rest : List Change) × ((goes_on version done number r (λ cs. outcome_from version m cs (number + 1) ops)).commands ≡ done ++ rest)
    go (Err why) rec = ([], sym (append-nil done))
    go (Ok cs) rec = within (is_within version (done ++ cs))
      where
        within : (b : Bool) → (rest : List Change) × ((if b then outcome_from version m (done ++ cs) (number + 1) ops else record { commands = done; end = Large }).commands ≡ done ++ rest)
        within true = let r = rec (done ++ cs) in (cs ++ r.0, r.1 ∙ append_assoc done cs r.0)
        within false = ([], sym (append-nil done))

-- ---- under way

-- the first k operations are recorded
pub record AreRecorded (version : Version) (script : List Op) (k : ℕ) (size : LogSize) (m : Store) (Recorded : List Change → Type 0) : Type 0 where
  pub done : List Change
  pub recorded : Recorded done
  pub sized : IsSizeOf version done size
  pub same : outcome_of version m script ≡ outcome_from version m done (k + 1) (drop k script)

abbrev pub Reaches : Version → List Op → ℕ → LogSize → LogSize → SinkContents → SinkContents → Store → Store → Type 0
Reaches version script k start size x y m n = (w : SinkContents) → IsRecorded version [] w x m m → IsSizeOf version [] start → AreRecorded version script k size m (λ cs. IsRecorded version cs w y m n)

-- the same of the tree alone
abbrev pub Made : Version → List Op → ℕ → LogSize → LogSize → Store → Store → Type 0
Made version script k start size m n = IsSizeOf version [] start → AreRecorded version script k size m (λ cs. n ≡ stored m cs)

pub record IsUnderWay (version : Version) (script : List Op) (k : ℕ) (start size : LogSize) (a b : SinkState) (t u : TreeState) : Type 0 where
  pub sink_later : a.faults ≤ b.faults
  pub sink_quiet : b.faults ≡ a.faults
  pub tree_later : NoneFell t.counts u.counts
  pub tree : IfTreeKnown t u (Made version script k start size)
  pub both : IfBothKnown a b t u (Reaches version script k start size)

pub script_begins : (version : Version) (script : List Op) (size : LogSize) (a : SinkState) (t : TreeState) → IsUnderWay version script 0 size size a a t t
script_begins version script size a t = record {
  sink_later = omega arith;
  sink_quiet = refl;
  tree_later = none_fell t.counts;
  tree = both_alone (Made version script 0 size size) t.contents (λ m sized. record { done = []; recorded = refl; sized = sized; same = refl });
  both = both_alone (λ x y. IfBoth t.contents t.contents (Reaches version script 0 size size x y)) a.contents
      (λ x. both_alone (Reaches version script 0 size size x x) t.contents (λ m w is sized. record { done = []; recorded = is; sized = sized; same = refl }));
}

-- the next operation and those after it
next_op : (script : List Op) (k : ℕ) (o : Op) → k < length script → o ≡ get_or script k o → drop k script ≡ o ∷ drop (suc k) script
next_op script k o low is = drop-cons script k o low ∙ ap (λ x. x ∷ drop (suc k) script) (sym is)

here_step : (version : Version) (script : List Op) (k : ℕ) (o : Op) (size : LogSize) (m n : Store) (R : List Change → Type 0) → k < length script → o ≡ get_or script k o → (r : AreRecorded version script k size m R) → n ≡ stored m r.done
    → outcome_of version m script ≡ goes_on version r.done (k + 1) (meaning version (nodes_of n) o) (λ cs. outcome_from version m cs ((k + 1) + 1) (drop (suc k) script))
here_step version script k o size m n R low is r tree =
    r.same ∙ ap (outcome_from version m r.done (k + 1)) (next_op script k o low is) ∙ outcome_step version m r.done (k + 1) o (drop (suc k) script)
    ∙ ap (λ s. goes_on version r.done (k + 1) (meaning version (nodes_of s) o) (λ cs. outcome_from version m cs ((k + 1) + 1) (drop (suc k) script))) (sym tree)

meant_step : (version : Version) (script : List Op) (k : ℕ) (o : Op) (size : LogSize) (m n : Store) (R : List Change → Type 0) → k < length script → o ≡ get_or script k o → (r : AreRecorded version script k size m R) → n ≡ stored m r.done → (cs : List Change)
    → IsMeant version o n r.done cs → outcome_of version m script ≡ outcome_from version m (r.done ++ cs) ((k + 1) + 1) (drop (suc k) script)
meant_step version script k o size m n R low is r tree cs meant =
    here_step version script k o size m n R low is r tree
    ∙ ap (λ x. goes_on version r.done (k + 1) x (λ cs. outcome_from version m cs ((k + 1) + 1) (drop (suc k) script))) meant.means
    ∙ ap (λ b. if b then outcome_from version m (r.done ++ cs) ((k + 1) + 1) (drop (suc k) script) else record { commands = r.done; end = Large }) meant.within

-- one operation more is recorded
one_on : (version : Version) (script : List Op) (k : ℕ) (o : Op) (size next : LogSize) (m n : Store) (B R : List Change → Type 0) → k < length script → o ≡ get_or script k o → (r : AreRecorded version script k size m B) → n ≡ stored m r.done
    → OpRecorded version o next r.done n R → AreRecorded version script (suc k) next m R
one_on version script k o size next m n B R low is r tree done = record {
  done = r.done ++ done.commands;
  recorded = done.recorded;
  sized = done.sized;
  same = meant_step version script k o size m n B low is r tree done.commands done.meant ∙ ap (λ i. outcome_from version m (r.done ++ done.commands) i (drop (suc k) script)) (one_more k);
}
  where
    one_more : (k : ℕ) → (k + 1) + 1 ≡ suc k + 1
    one_more k = omega arith

pub script_on : (version : Version) (script : List Op) (k j number : ℕ) (o : Op) (start size next : LogSize) (a b d : SinkState) (t u v : TreeState) → j ≡ suc k → number ≡ k + 1 → k < length script → o ≡ get_or script k o
    → IsUnderWay version script k start size a b t u → HasCause {T = Unit {0}} (Ok tt) b d u v → IfTreeKnown u v (CarriesOutOp version number o size next (Ok tt)) → IfBothKnown b d u v (OpGoesOn version number o size next (Ok tt)) → IsUnderWay version script j start next a d t v
script_on version script k j number o start size next a b d t u v ej en low is way cause made op = subst (λ j. IsUnderWay version script j start next a d t v) (sym ej) (record {
  sink_later = omega (arith, way.sink_later, cause.sink_later);
  sink_quiet = cause.sink_quiet ∙ way.sink_quiet;
  tree_later = fell_on t.counts u.counts v.counts way.tree_later cause.tree_later;
  tree = both_then t.contents u.contents v.contents way.tree made (λ m n n' f g sized.
      let r = f sized in one_on version script k o size next m n (λ cs. n ≡ stored m cs) (λ cs. n' ≡ stored m cs) low is r r.recorded (g r.done m r.recorded r.sized));
  both = both_then {P = λ x y. IfBoth t.contents u.contents (Reaches version script k start size x y)} {Q = λ y z. IfBoth u.contents v.contents (OpGoesOn version number o size next (Ok tt) y z)} a.contents b.contents d.contents way.both op
      (λ x y z p q. both_then t.contents u.contents v.contents p q (λ m n n' f g w begun sized.
      let r = f w begun sized in one_on version script k o size next m n (λ cs. IsRecorded version cs w y m n) (λ cs. IsRecorded version cs w z m n') low is r r.recorded.tree (g r.done w m r.recorded r.sized)));
})

-- a denial that a later tree, if it is known, rules out, is ruled out by the earlier one
pub before_denied : (version : Version) (script : List Op) (k : ℕ) (start size : LogSize) (fault : RecordFault) (r : Result (Unit {0}) RecordFault) (a b : SinkState) (t u : TreeState) → IsUnderWay version script k start size a b t u
    → IfHeld u.contents (λ n. IsErrOf {T = Unit {0}} (Err fault) TreeDenied → ⊥) → r ≡ Err fault → IfHeld t.contents (λ m. IsErrOf r TreeDenied → ⊥)
before_denied version script k start size fault r a b t u way h e = go t.contents u.contents way.tree h
  where
    go : (t u : Option Store) → IfBoth t u (Made version script k start size) → IfHeld u (λ n. IsErrOf {T = Unit {0}} (Err fault) TreeDenied → ⊥) → IfHeld t (λ m. IsErrOf r TreeDenied → ⊥)
    go None None k h = tt
    go None (Some n) k h = absurd k
    go (Some m) None k h = absurd k
    go (Some m) (Some n) k h = λ d. h (sym e ∙ d)

-- ---- where the operations end

left_open : (version : Version) (script : List Op) (k : ℕ) (o : Op) (size : LogSize) (m n : Store) (B R C : List Change → Type 0) → ((cs rest : List Change) → R cs → C (cs ++ rest)) → k < length script → o ≡ get_or script k o
    → (r : AreRecorded version script k size m B) → n ≡ stored m r.done → R r.done ⊎ OpIsCut version o r.done n C → C (outcome_of version m script).commands
left_open version script k o size m n B R C stays low is r tree (inl h) =
    let rest = extends version m r.done (k + 1) (drop k script) in
    subst C (sym (ap (λ r. r.commands) r.same ∙ rest.1)) (stays r.done rest.0 h)
left_open version script k o size m n B R C stays low is r tree (inr h) =
    let rest = extends version m (r.done ++ h.commands) ((k + 1) + 1) (drop (suc k) script) in
    subst C (sym (ap (λ r. r.commands) (meant_step version script k o size m n B low is r tree h.commands h.meant) ∙ rest.1 ∙ append_assoc r.done h.commands rest.0)) (h.cut rest.0)

-- the refusals after which the log is closed
abbrev pub IsClosing : RecordFault → Type 0
IsClosing (OpRefused j why) = Unit {0}
IsClosing TooLarge = Unit {0}
IsClosing TreeDenied = ⊥
IsClosing TreeFailed = ⊥
IsClosing WriteFault = ⊥
IsClosing Memory = ⊥

-- where n is the tree before the operation
stop : (version : Version) (script : List Op) (k number : ℕ) (o : Op) (size other : LogSize) (fault : RecordFault) (m n : Store) (B R C : List Change → Type 0) → ((cs rest : List Change) → R cs → C (cs ++ rest)) → number ≡ k + 1 → k < length script → o ≡ get_or script k o
    → (r : AreRecorded version script k size m B) → n ≡ stored m r.done → AnswersOp version number o other (Err fault) r.done n R C → AnswersOps version (outcome_of version m script) size (Err fault) R C
stop version script k number o size other (OpRefused j why) m n B R C stays en low is r tree h =
    let run : outcome_of version m script ≡ record { commands = r.done; end = Refused (k + 1) why } =
    here_step version script k o size m n B low is r tree ∙ ap (λ x. goes_on version r.done (k + 1) x (λ cs. outcome_from version m cs ((k + 1) + 1) (drop (suc k) script))) h.1.means in
    record {
      ends = ap (λ r. r.end) run ∙ ap (λ i. Refused i why) (sym (h.0 ∙ en));
      recorded = subst R (sym (ap (λ r. r.commands) run)) h.1.recorded;
      sized = subst (λ cs. IsSizeOf version cs size) (sym (ap (λ r. r.commands) run)) r.sized;
    }
stop version script k number o size other TooLarge m n B R C stays en low is r tree h =
    let run : outcome_of version m script ≡ record { commands = r.done; end = Large } =
    here_step version script k o size m n B low is r tree ∙ ap (λ x. goes_on version r.done (k + 1) x (λ cs. outcome_from version m cs ((k + 1) + 1) (drop (suc k) script))) h.means
    ∙ ap (λ b. if b then outcome_from version m (r.done ++ h.commands) ((k + 1) + 1) (drop (suc k) script) else record { commands = r.done; end = Large }) h.large in
    record {
      ends = ap (λ r. r.end) run;
      recorded = subst R (sym (ap (λ r. r.commands) run)) h.recorded;
      sized = subst (λ cs. IsSizeOf version cs size) (sym (ap (λ r. r.commands) run)) r.sized;
    }
stop version script k number o size other TreeDenied m n B R C stays en low is r tree h = h
stop version script k number o size other WriteFault m n B R C stays en low is r tree h = left_open version script k o size m n B R C stays low is r tree h
stop version script k number o size other TreeFailed m n B R C stays en low is r tree h = left_open version script k o size m n B R C stays low is r tree h
stop version script k number o size other Memory m n B R C stays en low is r tree h = left_open version script k o size m n B R C stays low is r tree h

pub ops_stop : (version : Version) (script : List Op) (k number : ℕ) (o : Op) (start size other last : LogSize) (fault : RecordFault) (result : Result (Unit {0}) RecordFault) (a b d : SinkState) (t u v : TreeState) → number ≡ k + 1 → k < length script → o ≡ get_or script k o
    → IsUnderWay version script k start size a b t u → HasCause {T = Unit {0}} (Err fault) b d u v → last ≡ size → IfBothKnown b d u v (OpGoesOn version number o size other (Err fault)) → result ≡ Err fault → IfBothKnown a d t v (OpsGoOn version script start last result)
ops_stop version script k number o start size other last fault result a b d t u v en low is way cause same op e = subst (λ r. IfBothKnown a d t v (OpsGoOn version script start last r)) (sym e)
    (both_then {P = λ x y. IfBoth t.contents u.contents (Reaches version script k start size x y)} {Q = λ y z. IfBoth u.contents v.contents (OpGoesOn version number o size other (Err fault) y z)} a.contents b.contents d.contents way.both op
    (λ x y z p q. both_then t.contents u.contents v.contents p q (λ m n n' f g w begun sized.
    let r = f w begun sized in
    subst (λ s. AnswersOps version (outcome_of version m script) s (Err fault) (λ cs. IsRecorded version cs w z m n') (λ cs. LeavesOpen version cs w z m n')) (sym same)
    (stop version script k number o size other fault m n (λ cs. IsRecorded version cs w y m n) (λ cs. IsRecorded version cs w z m n') (λ cs. LeavesOpen version cs w z m n') (λ cs rest h. stays_open version cs rest w z m n' h) en low is r r.recorded.tree
    (g r.done w m r.recorded r.sized)))))

pub ops_stop_tree : (version : Version) (script : List Op) (k number : ℕ) (o : Op) (start size other last : LogSize) (fault : RecordFault) (result : Result (Unit {0}) RecordFault) (a b : SinkState) (t u : TreeState) (v : Option Store) → number ≡ k + 1 → k < length script → o ≡ get_or script k o
    → IsUnderWay version script k start size a b t u → last ≡ size → IfBoth u.contents v (CarriesOutOp version number o size other (Err fault)) → result ≡ Err fault → IfBoth t.contents v (CarriesOutOps version script start last result)
ops_stop_tree version script k number o start size other last fault result a b t u v en low is way same made e = subst (λ r. IfBoth t.contents v (CarriesOutOps version script start last r)) (sym e)
    (both_then t.contents u.contents v way.tree made (λ m n n' f g sized.
    let r = f sized in
    subst (λ s. AnswersOps version (outcome_of version m script) s (Err fault) (λ cs. n' ≡ stored m cs) (λ cs. IsPartDone cs m n')) (sym same)
    (stop version script k number o size other fault m n (λ cs. n ≡ stored m cs) (λ cs. n' ≡ stored m cs) (λ cs. IsPartDone cs m n') (λ cs rest h. part_of cs rest m n' h) en low is r r.recorded (g r.done m r.recorded r.sized))))

drop_all : (l : List Op) (k : ℕ) → length l ≤ k → drop k l ≡ []
drop_all [] zero h = refl
drop_all [] (suc k) h = refl
drop_all (x ∷ l) zero h = absurd (omega (arith, h))
drop_all (x ∷ l) (suc k) h = drop_all l k (omega (arith, h))

-- all operations are recorded
at_end : (version : Version) (script : List Op) (k : ℕ) (size : LogSize) (m : Store) (R : List Change → Type 0) → length script ≤ k → AreRecorded version script k size m R → IsReached version (outcome_of version m script) AtEnd size R
at_end version script k size m R low r =
    let run : outcome_of version m script ≡ record { commands = r.done; end = AtEnd } = r.same ∙ ap (outcome_from version m r.done (k + 1)) (drop_all script k low) ∙ outcome_end version m r.done (k + 1) in
    record {
      ends = ap (λ r. r.end) run;
      recorded = subst R (sym (ap (λ r. r.commands) run)) r.recorded;
      sized = subst (λ cs. IsSizeOf version cs size) (sym (ap (λ r. r.commands) run)) r.sized;
    }

pub ops_done : (version : Version) (script : List Op) (k : ℕ) (start size : LogSize) (a b : SinkState) (t u : TreeState) → length script ≤ k → IsUnderWay version script k start size a b t u → IfBothKnown a b t u (OpsGoOn version script start size (Ok tt))
ops_done version script k start size a b t u low way = both_more a.contents b.contents way.both (λ x y p. both_more t.contents u.contents p (λ m n f w begun sized. at_end version script k size m (λ cs. IsRecorded version cs w y m n) low (f w begun sized)))

pub ops_done_tree : (version : Version) (script : List Op) (k : ℕ) (start size : LogSize) (a b : SinkState) (t u : TreeState) → length script ≤ k → IsUnderWay version script k start size a b t u → IfTreeKnown t u (CarriesOutOps version script start size (Ok tt))
ops_done_tree version script k start size a b t u low way = both_more t.contents u.contents way.tree (λ m n f sized. at_end version script k size m (λ cs. n ≡ stored m cs) low (f sized))

-- ---- the end line

pub closing_failed : (count : ℕ) (was fault e : RecordFault) (a b : Option SinkContents) → IsClosing was → fault ≡ was → (e ≡ WriteFault) ⊎ (e ≡ Memory) → IfBoth a b (Closes {T = Unit {0}} count (Err e)) → IfBoth a b (ClosesAfter count fault e)
closing_failed count was fault e a b closing is why h = subst (λ f. IfBoth a b (ClosesAfter count f e)) (sym is) (both_more a b h (λ x y c. go was closing (inr (why, c))))
  where
    go : {x y : SinkContents} (was : RecordFault) → IsClosing was → EndsRefused count was e x y → ClosesAfter count was e x y
    go (OpRefused j why) closing h = h
    go TooLarge closing h = h
    go TreeDenied closing h = absurd closing
    go TreeFailed closing h = absurd closing
    go WriteFault closing h = absurd closing
    go Memory closing h = absurd closing

pub started : (version : Version) (size : LogSize) → size.commands ≡ 0 → size.bytes ≡ 10 → IsSizeOf version [] size
started One size few bytes = record { commands = few; bytes = bytes }
started Two size few bytes = record { commands = few; bytes = bytes }

-- ---- the whole script

failed : (run : Outcome) (fault : RecordFault) (R C : List Change → Type 0) → (fault ≡ WriteFault) ⊎ (fault ≡ Memory) → C run.commands → AnswersScript run (Err fault) R C
failed run fault R C (inl e) h = subst (λ f. AnswersScript run (Err f) R C) (sym e) h
failed run fault R C (inr e) h = subst (λ f. AnswersScript run (Err f) R C) (sym e) h

pub script_closed : (version : Version) (script : List Op) (start size : LogSize) (count : ℕ) (a b d : Option SinkContents) (t u : Option Store) → IsSizeOf version [] start → count ≡ size.commands
    → BothHeld a b t u (OpsGoOn version script start size (Ok tt)) → IfBoth b d (Closes {T = Unit {0}} count (Ok tt)) → BothHeld a d t u (ScriptGoesOn version script (Ok count))
script_closed version script start size count a b d t u sized e ops closed = both_then {P = λ x y. IfBoth t u (OpsGoOn version script start size (Ok tt) x y)} a b d ops closed (λ x y z p c. both_more t u p (λ m n f w begun.
    let r = f w begun sized in
    let few = e ∙ r.sized.commands in
    (r.ends, (few, c version (outcome_of version m script).commands w m n (sym few) r.recorded))))

pub script_unclosed : (version : Version) (script : List Op) (start size : LogSize) (count : ℕ) (fault : RecordFault) (a b d : Option SinkContents) (t u : Option Store) → IsSizeOf version [] start → count ≡ size.commands → (fault ≡ WriteFault) ⊎ (fault ≡ Memory)
    → BothHeld a b t u (OpsGoOn version script start size (Ok tt)) → IfBoth b d (Closes {T = Unit {0}} count (Err fault)) → BothHeld a d t u (ScriptGoesOn version script (Err fault))
script_unclosed version script start size count fault a b d t u sized e why ops closed = both_then {P = λ x y. IfBoth t u (OpsGoOn version script start size (Ok tt) x y)} a b d ops closed (λ x y z p c. both_more t u p (λ m n f w begun.
    let r = f w begun sized in
    failed (outcome_of version m script) fault (λ cs. IsClosed version cs w z m n) (λ cs. LeavesOpen version cs w z m n) why (c version (outcome_of version m script).commands w m n (sym (e ∙ r.sized.commands)) r.recorded)))

after_fault : (version : Version) (script : List Op) (size : LogSize) (count : ℕ) (was fault : RecordFault) (w y z : SinkContents) (m n : Store) → count ≡ size.commands
    → AnswersOps version (outcome_of version m script) size (Err was) (λ cs. IsRecorded version cs w y m n) (λ cs. LeavesOpen version cs w y m n) → ClosesAfter count was fault y z → RecordsScript version script (Err fault) w z m n
after_fault version script size count was fault w y z m n e r c = go was r c
  where
    run : Outcome
    run = outcome_of version m script

    cut : (fault ≡ WriteFault) ⊎ (fault ≡ Memory) → LeavesOpen version run.commands w z m n → RecordsScript version script (Err fault) w z m n
    cut why h = failed run fault (λ cs. IsClosed version cs w z m n) (λ cs. LeavesOpen version cs w z m n) why h

    go : (was : RecordFault) → AnswersOps version run size (Err was) (λ cs. IsRecorded version cs w y m n) (λ cs. LeavesOpen version cs w y m n) → ClosesAfter count was fault y z → RecordsScript version script (Err fault) w z m n
    go (OpRefused j why) r (inl c) = subst (λ f. RecordsScript version script (Err f) w z m n) (sym c.0) (r.ends, c.1 version run.commands w m n (sym (e ∙ r.sized.commands)) r.recorded)
    go (OpRefused j why) r (inr c) = cut c.0 (c.1 version run.commands w m n (sym (e ∙ r.sized.commands)) r.recorded)
    go TooLarge r (inl c) = subst (λ f. RecordsScript version script (Err f) w z m n) (sym c.0) (r.ends, c.1 version run.commands w m n (sym (e ∙ r.sized.commands)) r.recorded)
    go TooLarge r (inr c) = cut c.0 (c.1 version run.commands w m n (sym (e ∙ r.sized.commands)) r.recorded)
    go TreeDenied r c = absurd r
    go TreeFailed r c = subst (λ f. RecordsScript version script (Err f) w z m n) (sym c.0) (subst (λ x. LeavesOpen version run.commands w x m n) (sym c.1) r)
    go WriteFault r c = subst (λ f. RecordsScript version script (Err f) w z m n) (sym c.0) (subst (λ x. LeavesOpen version run.commands w x m n) (sym c.1) r)
    go Memory r c = subst (λ f. RecordsScript version script (Err f) w z m n) (sym c.0) (subst (λ x. LeavesOpen version run.commands w x m n) (sym c.1) r)

pub script_ended : (version : Version) (script : List Op) (start size : LogSize) (count : ℕ) (was fault : RecordFault) (a b d : Option SinkContents) (t u : Option Store) → IsSizeOf version [] start → count ≡ size.commands
    → BothHeld a b t u (OpsGoOn version script start size (Err was)) → IfBoth b d (ClosesAfter count was fault) → BothHeld a d t u (ScriptGoesOn version script (Err fault))
script_ended version script start size count was fault a b d t u sized e ops closed = both_then {P = λ x y. IfBoth t u (OpsGoOn version script start size (Err was) x y)} a b d ops closed (λ x y z p c. both_more t u p (λ m n f w begun.
    after_fault version script size count was fault w y z m n e (f w begun sized) c))

pub script_unopened : (version : Version) (script : List Op) (fault : RecordFault) (a b : Option SinkContents) (t : Option Store) → fault ≡ WriteFault → IfBoth a b (Begins {T = Unit {0}} version (Err fault)) → BothHeld a b t t (RecordsScript version script (Err fault))
script_unopened version script fault a b t e begun = both_more a b begun (λ w x h. both_alone (RecordsScript version script (Err fault) w x) t (λ m.
    failed (outcome_of version m script) fault (λ cs. IsClosed version cs w x m m) (λ cs. LeavesOpen version cs w x m m) (inl e) (h (outcome_of version m script).commands m)))

pub script_opened : (version : Version) (script : List Op) (r : Result ℕ RecordFault) (a b d : Option SinkContents) (t u : Option Store) → IfBoth a b (Begins {T = Unit {0}} version (Ok tt)) → BothHeld b d t u (ScriptGoesOn version script r) → BothHeld a d t u (RecordsScript version script r)
script_opened version script r a b d t u begun rest = both_then {Q = λ y z. IfBoth t u (ScriptGoesOn version script r y z)} a b d begun rest (λ w y z h p. both_more t u p (λ m n f. f w (h m)))

-- ---- the whole script, by the tree alone

pub tree_closed : (version : Version) (script : List Op) (start size : LogSize) (count : ℕ) (t u : Option Store) → IsSizeOf version [] start → count ≡ size.commands → IfBoth t u (CarriesOutOps version script start size (Ok tt)) → IfBoth t u (CarriesOutScript version script (Ok count))
tree_closed version script start size count t u sized e made = both_more t u made (λ m n f. let r = f sized in (r.ends, (e ∙ r.sized.commands, r.recorded)))

cut_off : (run : Outcome) (fault : RecordFault) (m n : Store) → (fault ≡ WriteFault) ⊎ (fault ≡ Memory) → IsPartDone run.commands m n → AnswersScript run (Err fault) (λ cs. n ≡ stored m cs) (λ cs. IsPartDone cs m n)
cut_off run fault m n why h = failed run fault (λ cs. n ≡ stored m cs) (λ cs. IsPartDone cs m n) why h

pub tree_unclosed : (version : Version) (script : List Op) (start size : LogSize) (fault : RecordFault) (t u : Option Store) → IsSizeOf version [] start → (fault ≡ WriteFault) ⊎ (fault ≡ Memory)
    → IfBoth t u (CarriesOutOps version script start size (Ok tt)) → IfBoth t u (CarriesOutScript version script (Err fault))
tree_unclosed version script start size fault t u sized why made = both_more t u made (λ m n f. cut_off (outcome_of version m script) fault m n why (whole_done (outcome_of version m script).commands m n (f sized).recorded))

pub tree_ended : (version : Version) (script : List Op) (start size : LogSize) (was fault : RecordFault) (t u : Option Store) → IsSizeOf version [] start
    → IfBoth t u (CarriesOutOps version script start size (Err was)) → AnswersAfter was fault → IfBoth t u (CarriesOutScript version script (Err fault))
tree_ended version script start size was fault t u sized made after = both_more t u made (λ m n f. go m n was (f sized) after)
  where
    go : (m n : Store) (was : RecordFault) → AnswersOps version (outcome_of version m script) size (Err was) (λ cs. n ≡ stored m cs) (λ cs. IsPartDone cs m n) → AnswersAfter was fault → CarriesOutScript version script (Err fault) m n
    go m n (OpRefused j why) r (inl e) = subst (λ f. CarriesOutScript version script (Err f) m n) (sym e) (r.ends, r.recorded)
    go m n (OpRefused j why) r (inr e) = cut_off (outcome_of version m script) fault m n e (whole_done (outcome_of version m script).commands m n r.recorded)
    go m n TooLarge r (inl e) = subst (λ f. CarriesOutScript version script (Err f) m n) (sym e) (r.ends, r.recorded)
    go m n TooLarge r (inr e) = cut_off (outcome_of version m script) fault m n e (whole_done (outcome_of version m script).commands m n r.recorded)
    go m n TreeDenied r e = absurd r
    go m n TreeFailed r e = subst (λ f. CarriesOutScript version script (Err f) m n) (sym e) r
    go m n WriteFault r e = subst (λ f. CarriesOutScript version script (Err f) m n) (sym e) r
    go m n Memory r e = subst (λ f. CarriesOutScript version script (Err f) m n) (sym e) r

pub tree_unopened : (version : Version) (script : List Op) (fault : RecordFault) (t : Option Store) → fault ≡ WriteFault → IfBoth t t (CarriesOutScript version script (Err fault))
tree_unopened version script fault t e = both_alone (CarriesOutScript version script (Err fault)) t (λ m. cut_off (outcome_of version m script) fault m m (inl e) (part_of [] (outcome_of version m script).commands m m refl))
