-- How large a log becomes by the steps of an operation.
use Rattle.std.proofs.Common.{◌≡◌, ◌≤◌, ◌<◌, ◌+◌, ◌&&◌, ◌⊎◌, inl, inr, ℕ, suc, List, [], ◌∷◌, ◌++◌, length, length-append, get_or, drop, Bool, true, false, nat_le, Option, Some, None, Ok, Err, refl, sym, ap, subst, ◌∙◌, arith, append_assoc, append-nil}
use Rattle.std.specs.Prelude.{Result}
use Rattle.std.specs.List.{All}
use Rattle.std.proofs.lemmas.Bool.Decides.{nat_tests}
use Rattle.sync_command.specs.declared.values.Version.{Version}
use Rattle.sync_command.specs.Changes.{Change}
use Rattle.sync_command.specs.Maps.{Store, at}
use Rattle.tree_port.specs.States.{IfHeld, NoneFell, TreeState}
use Rattle.log_text.specs.Frame.{ended, end_line}
use Rattle.log_text.specs.declared.frame.TheConstants.{MAX_ITEMS}
use Rattle.record_core.specs.declared.faults.RecordFault.{RecordFault}
use Rattle.record_core.specs.declared.faults.RecordFault.TheVariants.{TooLarge, OpRefused, TreeDenied, TreeFailed, WriteFault, Memory}
use Rattle.record_core.specs.declared.limits.TheConstants.{MAX_LOG_LEN}
use Rattle.record_core.specs.declared.log_size.LogSize.{LogSize}
use Rattle.record_core.specs.declared.steps.Step.{Step}
use Rattle.record_core.specs.Plans.{AddsUp, IsSizeOf, Measures, OfEachLog}
use Rattle.record_core.specs.Reading.{ReadsTree}
use Rattle.record_core.specs.Steps.{IsFull, change_of, changes_of}
use Rattle.record_core.specs.Texts.{closed_text, end_line_of, is_within, line_of, lines_of, open_text}
use Rattle.record_core.proofs.OneCommand.{text_more, text_one}
use Rattle.record_core.proofs.Walks.{fell_on, first_all, first_more, first_of, none_fell, rest_of}

-- ---- past the limits

not_within : (a b : ℕ) → (MAX_ITEMS < a) ⊎ (MAX_LOG_LEN < b) → (nat_le a MAX_ITEMS && nat_le b MAX_LOG_LEN) ≡ false
not_within a b (inl h) = let f : nat_le a MAX_ITEMS ≡ false = grind (arith, nat_tests) in ap (λ t. t && nat_le b MAX_LOG_LEN) f
not_within a b (inr h) = let f : nat_le b MAX_LOG_LEN ≡ false = grind (arith, nat_tests) in ap (λ t. nat_le a MAX_ITEMS && t) f ∙ never (nat_le a MAX_ITEMS)
  where
    never : (b : Bool) → (b && false) ≡ false
    never true = refl
    never false = refl

within : (a b : ℕ) → a ≤ MAX_ITEMS → b ≤ MAX_LOG_LEN → (nat_le a MAX_ITEMS && nat_le b MAX_LOG_LEN) ≡ true
within a b h k = let f : nat_le a MAX_ITEMS ≡ true = grind (arith, nat_tests) in let g : nat_le b MAX_LOG_LEN ≡ true = grind (arith, nat_tests) in (λ i. f i && g i)

open_longer : (version : Version) (cs ds : List Change) → length (open_text version cs) ≤ length (closed_text version (cs ++ ds))
open_longer version cs ds =
    let l = length-append (open_text version (cs ++ ds)) (end_line_of (cs ++ ds)) in
    let k = ap length (text_more version cs ds) ∙ length-append (open_text version cs) (lines_of ds) in
    go (length (open_text version cs)) (length (lines_of ds)) (length (end_line_of (cs ++ ds))) (length (open_text version (cs ++ ds))) (length (closed_text version (cs ++ ds))) l k
  where
    go : (a b d e f : ℕ) → f ≡ e + d → e ≡ a + b → a ≤ f
    go a b d e f x y = omega arith

-- ---- one step

pub step_adds : (size next : LogSize) (c : Change) (n : ℕ) → n ≡ length (line_of c) → (next.commands ≡ size.commands + 1) × (next.bytes ≡ size.bytes + n) → OfEachLog (AddsUp size (c ∷ [])) size (Ok next)
step_adds size next c n is h version done s = record {
  commands = h.0 ∙ ap (λ k. k + 1) s.commands ∙ sym (length-append done (c ∷ []));
  bytes = h.1 ∙ (λ i. s.bytes i + is i) ∙ sym (ap length (text_one version done c) ∙ length-append (open_text version done) (line_of c));
}

pub step_too_large : (size : LogSize) (c : Change) (n : ℕ) → n ≡ length (line_of c) → (MAX_ITEMS < size.commands + 1) ⊎ (MAX_LOG_LEN < size.bytes + n) → OfEachLog (AddsUp size (c ∷ [])) size (Err TooLarge)
step_too_large size c n is h version done s rest = subst (λ l. is_within version l ≡ false) (append_assoc done (c ∷ []) rest) (not_within (length ((done ++ c ∷ []) ++ rest)) (length (closed_text version ((done ++ c ∷ []) ++ rest))) (go h))
  where
    many : (a b d e : ℕ) → e ≡ a + 1 → d ≡ e + b → a + 1 ≤ d
    many a b d e x y = omega arith

    over : (limit a b : ℕ) → limit < a → a ≤ b → limit < b
    over limit a b h k = omega arith

    go : (MAX_ITEMS < size.commands + 1) ⊎ (MAX_LOG_LEN < size.bytes + n) → (MAX_ITEMS < length ((done ++ c ∷ []) ++ rest)) ⊎ (MAX_LOG_LEN < length (closed_text version ((done ++ c ∷ []) ++ rest)))
    go (inl k) = inl (over MAX_ITEMS (size.commands + 1) (length ((done ++ c ∷ []) ++ rest)) k
        (subst (λ k. k + 1 ≤ length ((done ++ c ∷ []) ++ rest)) (sym s.commands) (many (length done) (length rest) (length ((done ++ c ∷ []) ++ rest)) (length (done ++ c ∷ [])) (length-append done (c ∷ [])) (length-append (done ++ c ∷ []) rest))))
    go (inr k) = inr (over MAX_LOG_LEN (size.bytes + n) (length (closed_text version ((done ++ c ∷ []) ++ rest))) k
        (subst (λ k. k ≤ length (closed_text version ((done ++ c ∷ []) ++ rest))) (ap length (text_one version done c) ∙ length-append (open_text version done) (line_of c) ∙ sym (λ i. s.bytes i + is i)) (open_longer version (done ++ c ∷ []) rest)))

pub held_map : {P Q : Store → Type 0} (t : Option Store) → IfHeld t P → ((m : Store) → P m → Q m) → IfHeld t Q
held_map None h f = tt
held_map (Some m) h f = f m h

pub step_known : (t : Option Store) (step : Step) (size : LogSize) (c : Change) (r : Result LogSize RecordFault) → IfHeld t (λ m. c ≡ change_of (at m) step) → OfEachLog (AddsUp size (c ∷ [])) size r
    → IfHeld t (λ m. OfEachLog (AddsUp size (change_of (at m) step ∷ [])) size r)
step_known t step size c r here h = held_map t here (λ m i. subst (λ d. OfEachLog (AddsUp size (d ∷ [])) size r) i h)

-- ---- the steps

-- the size with the commands of the first k steps
pub record IsAdded (steps : List Step) (k : ℕ) (size next : LogSize) (t u : TreeState) : Type 0 where
  pub later : NoneFell t.counts u.counts
  pub contents : u.contents ≡ t.contents
  pub known : IfHeld t.contents (λ m. OfEachLog (AddsUp size (first_of steps k m)) size (Ok next))

pub adding_begins : (steps : List Step) (size : LogSize) (t : TreeState) → IsAdded steps 0 size size t t
adding_begins steps size t = record {
  later = none_fell t.counts;
  contents = refl;
  known = go t.contents;
}
  where
    go : (t : Option Store) → IfHeld t (λ m. OfEachLog (AddsUp size []) size (Ok size))
    go None = tt
    go (Some m) = λ version done s. subst (λ l. IsSizeOf version l size) (sym (append-nil done)) s

pub step_full : (steps : List Step) (k : ℕ) (s : Step) (size next : LogSize) (t u : TreeState) → IfHeld t.contents (λ m. All (IsFull (at m)) steps) → IsAdded steps k size next t u → k < length steps → s ≡ get_or steps k s → IfHeld u.contents (λ m. IsFull (at m) s)
step_full steps k s size next t u full is low at_k = subst (λ c. IfHeld c (λ m. IsFull (at m) s)) (sym is.contents) (held_map t.contents full (λ m f. subst (IsFull (at m)) (sym at_k) (f k s low)))

adds_one : (size next : LogSize) (cs : List Change) (c : Change) (r : Result LogSize RecordFault) → OfEachLog (AddsUp size cs) size (Ok next) → OfEachLog (AddsUp next (c ∷ [])) next r → OfEachLog (AddsUp size (cs ++ c ∷ [])) size r
adds_one size next cs c r f g version done s = go r (g version (done ++ cs) (f version done s))
  where
    go : (r : Result LogSize RecordFault) → AddsUp next (c ∷ []) version (done ++ cs) r → AddsUp size (cs ++ c ∷ []) version done r
    go (Ok x) h = subst (λ l. IsSizeOf version l x) (append_assoc done cs (c ∷ [])) h
    go (Err TooLarge) h = λ rest. subst (λ l. is_within version l ≡ false) (append_assoc done cs (c ∷ rest) ∙ ap (λ l. done ++ l) (sym (append_assoc cs (c ∷ []) rest))) (h rest)
    go (Err (OpRefused k why)) h = h
    go (Err TreeDenied) h = h
    go (Err WriteFault) h = h
    go (Err TreeFailed) h = h
    go (Err Memory) h = h

adds_rest : (size : LogSize) (cs ds : List Change) (fault : RecordFault) → OfEachLog (AddsUp size cs) size (Err fault) → OfEachLog (AddsUp size (cs ++ ds)) size (Err fault)
adds_rest size cs ds fault f version done s = go fault (f version done s)
  where
    go : (fault : RecordFault) → AddsUp size cs version done (Err fault) → AddsUp size (cs ++ ds) version done (Err fault)
    go TooLarge h = λ rest. subst (λ l. is_within version (done ++ l) ≡ false) (sym (append_assoc cs ds rest)) (h (ds ++ rest))
    go (OpRefused k why) h = h
    go TreeDenied h = h
    go WriteFault h = h
    go TreeFailed h = h
    go Memory h = h

pub adding_on : {T : Type 0} (r : Result T RecordFault) (steps : List Step) (k j : ℕ) (s : Step) (size next more : LogSize) (t u v : TreeState) → j ≡ suc k → k < length steps → s ≡ get_or steps k s → IsAdded steps k size next t u → ReadsTree r u v
    → IfHeld u.contents (λ m. OfEachLog (AddsUp next (change_of (at m) s ∷ [])) next (Ok more)) → IsAdded steps j size more t v
adding_on r steps k j s size next more t u v e low at_k is reads h = subst (λ j. IsAdded steps j size more t v) (sym e) (record {
  later = fell_on t.counts u.counts v.counts is.later reads.later;
  contents = reads.contents ∙ is.contents;
  known = go t.contents is.known (subst (λ c. IfHeld c (λ m. OfEachLog (AddsUp next (change_of (at m) s ∷ [])) next (Ok more))) is.contents h);
})
  where
    go : (t : Option Store) → IfHeld t (λ m. OfEachLog (AddsUp size (first_of steps k m)) size (Ok next)) → IfHeld t (λ m. OfEachLog (AddsUp next (change_of (at m) s ∷ [])) next (Ok more)) → IfHeld t (λ m. OfEachLog (AddsUp size (first_of steps (suc k) m)) size (Ok more))
    go None f g = tt
    go (Some m) f g = subst (λ l. OfEachLog (AddsUp size l) size (Ok more)) (sym (first_more steps k s m low at_k)) (adds_one size next (first_of steps k m) (change_of (at m) s) (Ok more) f g)

pub adding_fails : (steps : List Step) (k : ℕ) (s : Step) (size next : LogSize) (fault : RecordFault) (r : Result LogSize RecordFault) (t u : TreeState) → k < length steps → s ≡ get_or steps k s → IsAdded steps k size next t u
    → IfHeld u.contents (λ m. OfEachLog (AddsUp next (change_of (at m) s ∷ [])) next (Err fault)) → r ≡ Err fault → IfHeld t.contents (λ m. OfEachLog (AddsUp size (changes_of (at m) steps)) size r)
adding_fails steps k s size next fault r t u low at_k is h e = go t.contents is.known (subst (λ c. IfHeld c (λ m. OfEachLog (AddsUp next (change_of (at m) s ∷ [])) next (Err fault))) is.contents h)
  where
    go : (t : Option Store) → IfHeld t (λ m. OfEachLog (AddsUp size (first_of steps k m)) size (Ok next)) → IfHeld t (λ m. OfEachLog (AddsUp next (change_of (at m) s ∷ [])) next (Err fault)) → IfHeld t (λ m. OfEachLog (AddsUp size (changes_of (at m) steps)) size r)
    go None f g = tt
    go (Some m) f g = subst (λ r. OfEachLog (AddsUp size (changes_of (at m) steps)) size r) (sym e)
        (subst (λ l. OfEachLog (AddsUp size l) size (Err fault)) (ap (λ l. l ++ changes_of (at m) (drop (suc k) steps)) (sym (first_more steps k s m low at_k)) ∙ rest_of steps (suc k) m)
        (adds_rest size (first_of steps k m ++ change_of (at m) s ∷ []) (changes_of (at m) (drop (suc k) steps)) fault (adds_one size next (first_of steps k m) (change_of (at m) s) (Err fault) f g)))

pub adding_done : (steps : List Step) (k : ℕ) (size next : LogSize) (t u : TreeState) → k ≡ length steps → IsAdded steps k size next t u → IfHeld t.contents (λ m. OfEachLog (AddsUp size (changes_of (at m) steps)) size (Ok next))
adding_done steps k size next t u e is = held_map t.contents is.known (λ m f. subst (λ l. OfEachLog (AddsUp size l) size (Ok next)) (ap (λ k. first_of steps k m) e ∙ first_all steps m) f)

-- ---- with the end line

end_size : (version : Version) (cs : List Change) (size : LogSize) (n : ℕ) → IsSizeOf version cs size → n ≡ length (ended (end_line size.commands)) → size.bytes + n ≡ length (closed_text version cs)
end_size version cs size n s e = (λ i. s.bytes i + (e ∙ ap (λ k. length (ended (end_line k))) s.commands) i) ∙ sym (length-append (open_text version cs) (end_line_of cs))

pub end_over : (version : Version) (cs : List Change) (size : LogSize) (n : ℕ) → n ≡ length (ended (end_line size.commands)) → MAX_LOG_LEN < size.bytes + n → IsSizeOf version cs size → is_within version (cs ++ []) ≡ false
end_over version cs size n e over s = subst (λ l. is_within version l ≡ false) (sym (append-nil cs)) (not_within (length cs) (length (closed_text version cs)) (inr (subst (λ k. MAX_LOG_LEN < k) (end_size version cs size n s e) over)))

pub end_within : (version : Version) (cs : List Change) (size : LogSize) (n : ℕ) → n ≡ length (ended (end_line size.commands)) → size.bytes + n ≤ MAX_LOG_LEN → size.commands ≤ MAX_ITEMS → IsSizeOf version cs size
    → (is_within version (cs ++ []) ≡ true) × IsSizeOf version (cs ++ []) size
end_within version cs size n e fits few s = subst (λ l. (is_within version l ≡ true) × IsSizeOf version l size) (sym (append-nil cs))
    (within (length cs) (length (closed_text version cs)) (subst (λ k. k ≤ MAX_ITEMS) s.commands few) (subst (λ k. k ≤ MAX_LOG_LEN) (end_size version cs size n s e) fits), s)

pub measured : (t : Option Store) (steps : List Step) (size next : LogSize) (r : Result LogSize RecordFault) → IfHeld t (λ m. OfEachLog (AddsUp size (changes_of (at m) steps)) size (Ok next))
    → ((version : Version) (cs : List Change) → IsSizeOf version cs next → Measures next [] version cs r) → IfHeld t (λ m. OfEachLog (Measures size (changes_of (at m) steps)) size r)
measured t steps size next r h f = held_map t h (λ m g version done s. go r version done (changes_of (at m) steps) (f version (done ++ changes_of (at m) steps) (g version done s)))
  where
    go : (r : Result LogSize RecordFault) (version : Version) (done cs : List Change) → Measures next [] version (done ++ cs) r → Measures size cs version done r
    go (Ok x) version done cs h = subst (λ l. (is_within version l ≡ true) × IsSizeOf version l x) (append-nil (done ++ cs)) h
    go (Err TooLarge) version done cs h = subst (λ l. is_within version l ≡ false) (append-nil (done ++ cs)) h
    go (Err (OpRefused k why)) version done cs h = h
    go (Err TreeDenied) version done cs h = h
    go (Err WriteFault) version done cs h = h
    go (Err TreeFailed) version done cs h = h
    go (Err Memory) version done cs h = h

pub unmeasured : (t : Option Store) (steps : List Step) (size : LogSize) (fault : RecordFault) → IfHeld t (λ m. OfEachLog (AddsUp size (changes_of (at m) steps)) size (Err fault)) → IfHeld t (λ m. OfEachLog (Measures size (changes_of (at m) steps)) size (Err fault))
unmeasured t steps size fault h = held_map t h (λ m g version done s. go fault version done (changes_of (at m) steps) (g version done s))
  where
    go : (fault : RecordFault) (version : Version) (done cs : List Change) → AddsUp size cs version done (Err fault) → Measures size cs version done (Err fault)
    go TooLarge version done cs h = subst (λ l. is_within version (done ++ l) ≡ false) (append-nil cs) (h [])
    go (OpRefused k why) version done cs h = h
    go TreeDenied version done cs h = h
    go WriteFault version done cs h = h
    go TreeFailed version done cs h = h
    go Memory version done cs h = h
