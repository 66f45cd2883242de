-- What the touched nodes of a log show of its sealed list.
use Rattle.std.proofs.Common.{◌≡◌, ◌⊎◌, inl, inr, ◌<◌, ◌≤◌, get_or, ℕ, zero, suc, ◌-◌, Bool, true, false, List, [], ◌∷◌, ◌++◌, length, Option, Some, None, Ok, refl, sym, ap, subst, ◌∙◌, arith}
use Rattle.std.specs.Prelude.{if◌then◌else◌, slice_get, is_none, IsSome}
use Rattle.std.specs.Option.{option_map}
use Rattle.std.specs.List.{AllByRecursion}
use Rattle.std.proofs.lemmas.List.{length-map}
use Rattle.std.proofs.lemmas.Option.{slice_get-map, slice_get_cases}
use Rattle.sync_path.specs.Paths.{Node, comes_before, same_path}
use Rattle.sync_path.proofs.CallerLemmas.{same_path_at, same_path_is}
use Rattle.sync_command.specs.Changes.{Change}
use Rattle.sync_command.specs.Trees.{Holding, command_at, one_each}
use Rattle.sync_command.specs.Maps.{Store, at}
use Rattle.sync_command.proofs.CallerLemmas.{command_at-node}
use Rattle.canon_set.specs.Logs.{names, touches}
use Rattle.canon_set.specs.Sums.{Sum, StandsFor, table_of, touch_of}
use Rattle.canon_set.specs.declared.touches.Touch.{Touch}
use Rattle.canon_set.proofs.CallerLemmas.{named_touch, one_each-touches}
use Rattle.tree_port.specs.States.{IfHeld}
use Rattle.record_core.specs.declared.faults.SealFault.{SealFault}
use Rattle.record_core.specs.declared.faults.SealFault.TheVariants.{Text, Broken, Diverged, Failed, Denied, Memory}
use Rattle.record_core.specs.declared.sealing.Shown.{Shown}
use Rattle.record_core.specs.declared.sealing.Shown.TheVariants as shown
use Rattle.record_core.specs.Looks.{HoldsOld, IsAmong, IsDiverged, IsFirstOut, Shows, StandsWell, IsRightLook, open_command}
use Rattle.record_core.specs.Seals.{Diverges, FailsLog, FailsText, IsAllOrAllButLast, IsInOrder, IsLogOf, IsSealed, OpenLog, SealsLog}

-- ---- lists

some_is : {X : Type 0} {a b : X} → Some a ≡ Some b → a ≡ b
some_is e = cc

-- what is found at a node stands at some place
record IsListed (ds : List Change) (d : Change) : Type 0 where
  pub place : ℕ
  pub low : place < length ds
  pub is : slice_get ds place ≡ Some d

listed : (ds : List Change) (n : Node) (d : Change) → command_at ds n ≡ Some d → IsListed ds d
listed [] n d e = cc
listed (c ∷ ds) n d e = go (same_path n c.node) refl (listed ds n d)
  where
    after : IsListed ds d → IsListed (c ∷ ds) d
    after h = let low = h.low in record { place = suc h.place; low = omega arith; is = h.is }

    go : (b : Bool) → same_path n c.node ≡ b → (command_at ds n ≡ Some d → IsListed ds d) → IsListed (c ∷ ds) d
    go true h later = record { place = 0; low = omega arith; is = sym (ap (λ b. if b then Some c else command_at ds n) h) ∙ e }
    go false h later = after (later (sym (ap (λ b. if b then Some c else command_at ds n) h) ∙ e))

-- where each node has one command, each is found at its node
found_there : (ds : List Change) (j : ℕ) (d : Change) → one_each ds ≡ true → slice_get ds j ≡ Some d → command_at ds d.node ≡ Some d
found_there [] j d one e = cc
found_there (c ∷ ds) zero d one e = ap (λ b. if b then Some c else command_at ds d.node) (same_path_at d.node c.node (ap (λ (x : Change). x.node) (sym (some_is e)))) ∙ e
found_there (c ∷ ds) (suc j) d one e = go (same_path d.node c.node) refl (found_there ds j d (rest one) e)
  where
    rest : one_each (c ∷ ds) ≡ true → one_each ds ≡ true
    rest h = grind arith

    first : one_each (c ∷ ds) ≡ true → is_none (command_at ds c.node) ≡ true
    first h = grind arith

    clash : (o : Option Change) → o ≡ Some d → is_none o ≡ true → ⊥
    clash None f h = cc (f)
    clash (Some x) f h = cc (h)

    go : (b : Bool) → same_path d.node c.node ≡ b → command_at ds d.node ≡ Some d → (if same_path d.node c.node then Some c else command_at ds d.node) ≡ Some d
    go false h f = ap (λ b. if b then Some c else command_at ds d.node) h ∙ f
    go true h f = absurd (clash (command_at ds c.node) (ap (command_at ds) (sym (same_path_is d.node c.node h)) ∙ f) (first one))

-- a list without its last element
pub split_end : (cs : List Change) (c : Change) → slice_get cs (length cs - 1) ≡ Some c → (done : List Change) × (cs ≡ done ++ c ∷ [])
split_end [] c e = cc
split_end (d ∷ []) c e = ([], ap (λ x. x ∷ []) (some_is e))
split_end (d ∷ k ∷ cs) c e = let r = split_end (k ∷ cs) c (ap (slice_get (d ∷ k ∷ cs)) back ∙ e) in (d ∷ r.0, ap (λ l. d ∷ l) r.1)
  where
    back : suc (length (k ∷ cs) - 1) ≡ length (d ∷ k ∷ cs) - 1
    back = omega arith

pub end_is : (done : List Change) (c : Change) → slice_get (done ++ c ∷ []) (length (done ++ c ∷ []) - 1) ≡ Some c
end_is [] c = refl
end_is (d ∷ []) c = refl
end_is (d ∷ k ∷ done) c = ap (slice_get (d ∷ (k ∷ done ++ c ∷ []))) back ∙ end_is (k ∷ done) c
  where
    back : length (d ∷ (k ∷ done ++ c ∷ [])) - 1 ≡ suc (length (k ∷ done ++ c ∷ []) - 1)
    back = omega arith

pub prefix_passes : (P : Change → Type 0) (cs more : List Change) → AllByRecursion P (cs ++ more) → AllByRecursion P cs
prefix_passes P [] more h = tt
prefix_passes P (c ∷ cs) more h = (h.0, prefix_passes P cs more h.1)

-- ---- a log and its sum

module _ (s : Sum) (cs : List Change) (st : StandsFor s cs) where
  -- the touch of a touched node
  here : (n : Node) (d : Change) → command_at (touches cs) n ≡ Some d → IsAmong s.touched (length s.touched) (touch_of cs d)
  here n d e =
      let l = listed (touches cs) n d e in
      let low : l.place < length (table_of cs) = subst (λ k. l.place < k) (sym (length-map (touches cs) (touch_of cs))) l.low in
      subst (λ (xs : List Touch). IsAmong xs (length xs) (touch_of cs d)) (sym st.touched) (l.place, (low, slice_get-map (touch_of cs) (touches cs) l.place ∙ ap (option_map (touch_of cs)) l.is))

  -- the touched node at a place
  record IsAt (y : Touch) : Type 0 where
    pub change : Change
    pub at : command_at (touches cs) change.node ≡ Some change
    pub is : touch_of cs change ≡ y

  at_place : (place : ℕ) (y : Touch) → slice_get s.touched place ≡ Some y → IsAt y
  at_place place y e = go (slice_get (touches cs) place) refl (sym (slice_get-map (touch_of cs) (touches cs) place) ∙ ap (λ (xs : List Touch). slice_get xs place) (sym st.touched) ∙ e)
    where
      go : (o : Option Change) → slice_get (touches cs) place ≡ o → option_map (touch_of cs) o ≡ Some y → IsAt y
      go None f h = cc (h)
      go (Some d) f h = record { change = d; at = found_there (touches cs) place d (one_each-touches cs) f; is = some_is h }

-- the last command of a log without an end line
is_open : (ended : Bool) (cs : List Change) (c : Change) → open_command ended cs ≡ Some c → (ended ≡ false) × (slice_get cs (length cs - 1) ≡ Some c)
is_open true cs c e = cc (e)
is_open false cs c e = (refl, e)

-- the node of the open command, which holds its old value
record IsOpenAt (t : Holding) (ended : Bool) (cs : List Change) (n : Node) : Type 0 where
  pub last : Change
  pub no_end : ended ≡ false
  pub at_end : slice_get cs (length cs - 1) ≡ Some last
  pub node : n ≡ last.node
  pub old : t n ≡ last.old

open_at : (t : Holding) (ended : Bool) (cs : List Change) (n : Node) → HoldsOld t (open_command ended cs) n → IsOpenAt t ended cs n
open_at t ended cs n h = go (open_command ended cs) refl h
  where
    go : (o : Option Change) → open_command ended cs ≡ o → HoldsOld t o n → IsOpenAt t ended cs n
    go None e h = absurd h
    go (Some c) e h = let k = is_open ended cs c e in record { last = c; no_end = k.0; at_end = k.1; node = h.0; old = h.1 }

module _ (log : OpenLog) (s : Sum) (st : StandsFor s log.commands) (t : Holding) where
  abbrev all_touched : ℕ
  all_touched = length s.touched

  abbrev undone : Option Change
  undone = open_command log.ended log.commands

  sealed_whole : Shows t undone s.touched all_touched shown.Done → IsSealed log t log.commands
  sealed_whole shows = inl (refl, λ n d e. ap t (command_at-node (touches log.commands) n d e) ∙ shows (touch_of log.commands d) (here s log.commands st n d e))

  sealed_prefix : (rest : List Change) → ((c : Change) → open_command false log.commands ≡ Some c → log.commands ≡ rest ++ c ∷ []) → Shows t undone s.touched all_touched shown.Undone → IsSealed log t rest
  sealed_prefix rest prefix shows =
      let o = open_at t log.ended log.commands shows.0.0 shows.0.1 in
      inr (
        o.last,
        (
          record { all = prefix o.last o.at_end; no_end = o.no_end; old = sym (ap t o.node) ∙ o.old },
          λ n apart d e.
              well o.last o.at_end n apart d e (shows.1 (touch_of log.commands d) (here s log.commands st n d e)),
        ),
      )
    where
      well : (last : Change) → slice_get log.commands (length log.commands - 1) ≡ Some last → (n : Node) → same_path n last.node ≡ false → (d : Change) → command_at (touches log.commands) n ≡ Some d → StandsWell t undone (touch_of log.commands d) → t n ≡ d.new
      well last end n apart d e (inl h) = ap t (command_at-node (touches log.commands) n d e) ∙ h
      well last end n apart d e (inr h) =
          let o = open_at t log.ended log.commands d.node h in
          let one : o.last ≡ last = some_is (sym o.at_end ∙ end) in
          let same : same_path n last.node ≡ true = same_path_at n last.node (command_at-node (touches log.commands) n d e ∙ o.node ∙ ap (λ (c : Change). c.node) one) in
          cc

  -- a node in order stands well, and back
  stands_well : (y : Touch) → IsAt s log.commands st y → IsInOrder log t y.path → StandsWell t undone y
  stands_well y a (inl holds) = inl (holds a.change (ap (λ (x : Touch). command_at (touches log.commands) x.path) (sym a.is) ∙ a.at) ∙ ap (λ (x : Touch). x.last) a.is)
  stands_well y a (inr (done, (last, (node, un)))) =
      let end : slice_get log.commands (length log.commands - 1) ≡ Some last = ap (λ (l : List Change). slice_get l (length l - 1)) un.all ∙ end_is done last in
      let is : undone ≡ Some last = ap (λ b. open_command b log.commands) un.no_end ∙ end in
      inr (subst (λ o. HoldsOld t o y.path) (sym is) (node, ap t node ∙ un.old))

  in_order : (n : Node) (d : Change) → command_at (touches log.commands) n ≡ Some d → StandsWell t undone (touch_of log.commands d) → IsInOrder log t n
  in_order n d e (inl h) = inl (λ k f. ap t (command_at-node (touches log.commands) n d e) ∙ h ∙ ap (λ (c : Change). c.new) (some_is (sym e ∙ f)))
  in_order n d e (inr h) =
      let o = open_at t log.ended log.commands d.node h in
      let f = split_end log.commands o.last o.at_end in
      inr (f.0, (o.last, (command_at-node (touches log.commands) n d e ∙ o.node, record { all = f.1; no_end = o.no_end; old = sym (ap t o.node) ∙ o.old })))

  diverges : (y : Touch) → IsAt s log.commands st y → IsFirstOut t undone s.touched all_touched y → Diverges log t y.path
  diverges y a first = record {
    here = λ h. first.out (stands_well y a h);
    first = λ p bad. go p bad (command_at (touches log.commands) p) refl;
  }
    where
      go : (p : Node) → (IsInOrder log t p → ⊥) → (o : Option Change) → command_at (touches log.commands) p ≡ o → comes_before p y.path ≡ false
      go p bad None e = absurd (bad (inl (λ d f. cc (sym e ∙ f))))
      go p bad (Some d) e = ap (λ n. comes_before n y.path) (command_at-node (touches log.commands) p d e) ∙ first.first (touch_of log.commands d) (here s log.commands st p d e) (λ w. bad (in_order p d e w))

-- ---- the answers

-- the log that the code holds in pieces
stands_as : (log : OpenLog) (s : Sum) (cs ds : List Change) → log.commands ≡ cs → ds ≡ cs → StandsFor s ds → StandsFor s log.commands
stands_as log s cs ds e f st = subst (StandsFor s) (f ∙ sym e) st

undone_as : (log : OpenLog) (cs es : List Change) (ended : Bool) (u : Option Change) → log.commands ≡ cs → log.ended ≡ ended → es ≡ cs → u ≡ open_command ended es → u ≡ open_command log.ended log.commands
undone_as log cs es ended u e b f is = is ∙ ap (open_command ended) (f ∙ sym e) ∙ ap (λ x. open_command x log.commands) (sym b)

shows_as : (held : Option Store) (u v : Option Change) (xs : List Touch) (k : ℕ) (found wanted : Shown) → u ≡ v → found ≡ wanted → IfHeld held (λ m. IsRightLook (Shows (at m) u xs k) (Ok found)) → IfHeld held (λ m. Shows (at m) v xs k wanted)
shows_as held u v xs k found wanted e f h = subst (λ v. IfHeld held (λ m. Shows (at m) v xs k wanted)) e (subst (λ w. IfHeld held (λ m. Shows (at m) u xs k w)) f h)

held_as : {P Q : Store → Type 0} (held : Option Store) → ((m : Store) → P m → Q m) → IfHeld held P → IfHeld held Q
held_as None f h = tt
held_as (Some m) f h = f m h

pub all_done : (log : OpenLog) (cs ds es : List Change) (ended : Bool) (s : Sum) (u : Option Change) (found : Shown) (held : Option Store) → log.commands ≡ cs → log.ended ≡ ended → ds ≡ cs → es ≡ cs → StandsFor s ds → u ≡ open_command ended es → found ≡ shown.Done →
    IfHeld held (λ m. IsRightLook (Shows (at m) u s.touched (length s.touched)) (Ok found)) → SealsLog log held cs
all_done log cs ds es ended s u found held e b f g st is f' shows =
    let st' = stands_as log s cs ds e f st in
    record {
      taken = st'.taken;
      change = st'.change;
      which = inl (sym e);
      is_sealed = subst (λ l. IfHeld held (λ m. IsSealed log (at m) l)) e (held_as held (λ m h. sealed_whole log s st' (at m) h) (shows_as held u (open_command log.ended log.commands) s.touched (length s.touched) found shown.Done (undone_as log cs es ended u e b g is) f' shows));
    }

-- a log that has an open command, and the list without it
which_open : (log : OpenLog) (rest : List Change) → ((c : Change) → open_command false log.commands ≡ Some c → log.commands ≡ rest ++ c ∷ []) → IsSome (open_command log.ended log.commands) → IsAllOrAllButLast log rest
which_open log rest prefix some = go (open_command log.ended log.commands) refl some
  where
    go : (o : Option Change) → open_command log.ended log.commands ≡ o → IsSome o → IsAllOrAllButLast log rest
    go None e h = cc (h)
    go (Some c) e h = let k = is_open log.ended log.commands c e in inr (k.0, (c, prefix c k.1))

pub last_undone : (log : OpenLog) (cs ds es rest : List Change) (ended : Bool) (s : Sum) (u : Option Change) (found : Shown) (held : Option Store) → log.commands ≡ cs → log.ended ≡ ended → ds ≡ cs → es ≡ cs → StandsFor s ds → u ≡ open_command ended es → found ≡ shown.Undone →
    IfHeld held (λ m. IsRightLook (Shows (at m) u s.touched (length s.touched)) (Ok found)) → IsSome u → ((c : Change) → open_command false cs ≡ Some c → cs ≡ rest ++ c ∷ []) → SealsLog log held rest
last_undone log cs ds es rest ended s u found held e b f g st is f' shows some prefix =
    let st' = stands_as log s cs ds e f st in
    let last = subst (λ (l : List Change). (c : Change) → open_command false l ≡ Some c → l ≡ rest ++ c ∷ []) (sym e) prefix in
    record {
      taken = st'.taken;
      change = st'.change;
      which = which_open log rest last (subst IsSome (undone_as log cs es ended u e b g is) some);
      is_sealed = held_as held (λ m h. sealed_prefix log s st' (at m) rest last h)
          (shows_as held u (open_command log.ended log.commands) s.touched (length s.touched) found shown.Undone (undone_as log cs es ended u e b g is) f' shows);
    }

pub one_out : (log : OpenLog) (cs ds es : List Change) (ended : Bool) (s : Sum) (u : Option Change) (found : Shown) (place : ℕ) (held : Option Store) (fault : SealFault) → log.commands ≡ cs → log.ended ≡ ended → ds ≡ cs → es ≡ cs → StandsFor s ds → u ≡ open_command ended es →
    found ≡ shown.Out place → IfHeld held (λ m. IsRightLook (Shows (at m) u s.touched (length s.touched)) (Ok found)) → place < length s.touched → IsDiverged s.touched place fault → FailsLog log held fault
one_out log cs ds es ended s u found place held fault e b f g st is f' shows low div = go fault div
  where
    st' : StandsFor s log.commands
    st' = stands_as log s cs ds e f st

    there : (y : Touch) × (slice_get s.touched place ≡ Some y)
    there = pick (slice_get_cases s.touched place).1
      where
        pick : ((y : Touch) × (place < length s.touched) × (slice_get s.touched place ≡ Some y) × (get_or s.touched place y ≡ y)) ⊎ ((length s.touched ≤ place) × (slice_get s.touched place ≡ None)) → (y : Touch) × (slice_get s.touched place ≡ Some y)
        pick (inl h) = (h.0, h.2)
        pick (inr h) = let past = h.0 in absurd (omega arith)

    is_at : IsAt s log.commands st' there.0
    is_at = at_place s log.commands st' place there.0 there.1

    named : names log.commands there.0.path ≡ true
    named = ap (λ (x : Touch). names log.commands x.path) (sym is_at.is) ∙ named_touch log.commands is_at.change.node is_at.change is_at.at

    known : IfHeld held (λ m. Diverges log (at m) there.0.path)
    known = held_as held (λ m h. let same : h.0 ≡ there.0 = some_is (sym h.1.0 ∙ there.1) in diverges log s st' (at m) there.0 is_at (subst (λ y. IsFirstOut (at m) (open_command log.ended log.commands) s.touched (length s.touched) y) same h.1.1))
        (shows_as held u (open_command log.ended log.commands) s.touched (length s.touched) found (shown.Out place) (undone_as log cs es ended u e b g is) f' shows)

    go : (fault : SealFault) → IsDiverged s.touched place fault → FailsLog log held fault
    go (Text x) d = d
    go (Broken n) d = absurd d
    go (Diverged p) d = let same : there.0.path ≡ p = sym (d there.0 there.1) in
        (st'.taken, ap (names log.commands) (sym same) ∙ named, subst (λ n. IfHeld held (λ m. Diverges log (at m) n)) same known)
    go Failed d = absurd d
    go Denied d = absurd d
    go Memory d = tt

-- ---- the text

pub fails_text : (text : List ℕ) (log : OpenLog) (held : Option Store) (fault : SealFault) → IsLogOf text log → FailsLog log held fault → FailsText text held fault
fails_text text log held (Text f) is h = absurd h
fails_text text log held (Broken n) is h = (log, (is, h))
fails_text text log held (Diverged p) is h = (log, (is, h))
fails_text text log held Failed is h = (log, (is, h))
fails_text text log held Denied is h = (log, (is, h))
fails_text text log held Memory is h = tt
