-- How clap walks over the plain words of a command that has operands alone.
--
-- A further command of a shape that stands here needs no lemma. A further shape needs, as those in
-- OneOperand and TwoOperands, the walk after each operand, and what is at fault where it ends.
use Rattle.std.proofs.Common.{◌≡◌, ◌∙◌, inl, inr, ◌==◌, ℕ, Bool, true, false, not, refl, sym, ap, ap₂, subst, List, [], ◌∷◌, Some, None, true≢false, is_some}
use Rattle.std.specs.List.{fold}
use Rattle.std.specs.Str.{bytes_eq}
use Rattle.clap.specs.Lexer.{long_of, short_of}
use Rattle.clap.specs.Walk.{Held, Row, Rule, Step, Text, Waiting, Walk, after_step, arg_by_index, finished, idle, option, positional, nothing_held, rows_after, rows_of, settled, to_positional, value, walk, walk_from, walked, word_met, first_of}
use Rattle.clap.specs.Simple.{App, HasMatchesOf, Shape, built, entered, is_simple, matches_of}
use Rattle.clap.specs.Kinds.{HasKind, IsAmong, Kinds, or_else}
use Rattle.clap.specs.Values.{kind_of}
use Rattle.clap.specs.Matches.{first_value, found_of}
use Rattle.clap.specs.Faults.{built_fault, check_fault, defaults_fault, entered_fault, fault_of, is_simple_and_free, settle_fault, step_fault, turn_fault, walk_fault}
use Rattle.clap.specs.declared.error.Error.{Error}
use Rattle.clap.specs.declared.error.kind.ErrorKind.{ErrorKind}
use Rattle.clap.specs.declared.error.kind.ErrorKind.TheVariants as kind
use Rattle.clap.specs.declared.parser.matches.ArgMatches.{ArgMatches}
use Rattle.clap.proofs.WalkLemmas.{first_value-rows}
use Rattle.clap.specs.declared.parser.matches.ValueSource.TheVariants.{CommandLine}
use Rattle.clap.specs.declared.builder.value_parser.Reading.TheVariants.{AsWritten}
use Rattle.tool_words.specs.Words.{is_plain}

-- the word is no `--`, no long and no short option
pub record IsPlainWord (w : Text) : Type 0 where
  pub dashes : bytes_eq w (45 ∷ 45 ∷ []) ≡ false
  pub long : long_of w ≡ None
  pub short : short_of w ≡ None

-- what is not so is false
pub is_not : (b : Bool) → not b ≡ true → b ≡ false
is_not true e = sym e
is_not false e = refl

-- a plain word is nothing else to clap
pub operand_plain : (w : Text) → is_plain w ≡ true → IsPlainWord w
operand_plain [] e = absurd (true≢false (sym e))
operand_plain (x ∷ xs) e =
    let no : (x == 45) ≡ false = is_not _ e in
    record { dashes = rw no refl; long = rw no refl; short = rw no refl }

-- the walk between two words, where no subcommand and no `--` was met
abbrev pub standing : Held → Waiting → ℕ → Walk
standing h waiting position = record {
  held = h;
  waiting = waiting;
  position = position;
  is_trailing = false;
  stopped = None;
}

-- no option waits for a value
abbrev pub is_between : Waiting → Bool
is_between (option id) = false
is_between _ = true

-- a plain word is met as a value
plain_met : (c : List Rule) (waiting : Waiting) (p : ℕ) (w : Text) (h : Held) → IsPlainWord w → is_between waiting ≡ true
    → word_met c [] false waiting p w h ≡ (h, value)
plain_met c idle p w h plain e = rw (plain.dashes, plain.long, plain.short) refl
plain_met c positional p w h plain e = rw (plain.dashes, plain.long, plain.short) refl
plain_met c (option id) p w h plain e = absurd (true≢false (sym e))

-- an operand goes to the positional at hand
pub operand_walked : (c : List Rule) (waiting : Waiting) (p : ℕ) (w : Text) (h : Held) → is_plain w ≡ true → is_between waiting ≡ true
    → walked c [] (standing h waiting p) w ≡ to_positional c (arg_by_index c p) w (standing h waiting p) h
unfolding walked
operand_walked c waiting p w h word e =
    ap (λ (m : Held × Step). after_step c w (standing h waiting p) m.0 m.1) (plain_met c waiting p w h (operand_plain w word) e)

-- and fails only where no positional takes it
plain_turn : (s : Shape) (waiting : Waiting) (p : ℕ) (w : Text) (h : Held) → IsPlainWord w → is_between waiting ≡ true
    → turn_fault s [] (standing h waiting p) w ≡ step_fault s p h value
plain_turn s idle p w h plain e = rw (plain.dashes, plain.long, plain.short) refl
plain_turn s positional p w h plain e = rw (plain.dashes, plain.long, plain.short) refl
plain_turn s (option id) p w h plain e = absurd (true≢false (sym e))

-- one more operand, which the positional at hand takes
pub operand_passes : (s : Shape) (waiting : Waiting) (p : ℕ) (w : Text) (rest : List Text) (h : Held) (next : Walk) → is_plain w ≡ true → is_between waiting ≡ true
    → step_fault s p h value ≡ [] → to_positional s.rules (arg_by_index s.rules p) w (standing h waiting p) h ≡ next
    → walk_fault s [] (standing h waiting p) (w ∷ rest) ≡ walk_fault s [] next rest
unfolding walk_fault
operand_passes s waiting p w rest h next word between passes is =
    ap₂ (λ (k : Kinds) (v : Walk). or_else k (walk_fault s [] v rest)) (plain_turn s waiting p w h (operand_plain w word) between ∙ passes) (operand_walked s.rules waiting p w h word between ∙ is)

-- an operand that no positional takes
pub operand_stray : (s : Shape) (waiting : Waiting) (p : ℕ) (w : Text) (rest : List Text) (h : Held) (k : ErrorKind) (ks : Kinds) → is_plain w ≡ true → is_between waiting ≡ true
    → step_fault s p h value ≡ k ∷ ks
    → walk_fault s [] (standing h waiting p) (w ∷ rest) ≡ k ∷ ks
unfolding walk_fault
operand_stray s waiting p w rest h k ks word between fails =
    ap (λ (x : Kinds). or_else x (walk_fault s [] (walked s.rules [] (standing h waiting p) w) rest)) (plain_turn s waiting p w h (operand_plain w word) between ∙ fails)

-- ---- a command with no subcommand

-- what fails after a walk that passed
abbrev pub end_fault : Shape → Held → Kinds
end_fault s end = or_else (settle_fault s.rules s.args_override_self end)
    (or_else (defaults_fault (settled s.rules end).rows s.rules) (check_fault s (finished s.rules end) false))

-- the command by itself
abbrev alone : Shape → App
alone s = record { top = s; subs = [] }

-- what fails in all, after a walk
abbrev after : Shape → Walk → Kinds → Kinds
after s end walking =
    or_else walking
    (or_else (entered_fault (alone s) end.stopped) (or_else (settle_fault s.rules s.args_override_self end.held)
    (or_else (defaults_fault (settled s.rules end.held).rows s.rules)
    (check_fault s (finished s.rules end.held) (is_some (entered (alone s) end.stopped))))))

-- after a walk that passed, only its end can fail
pub alone_ends : (s : Shape) (words : List Text) (h : Held) (waiting : Waiting) (p : ℕ)
    → walk s.rules [] nothing_held words ≡ standing h waiting p → walk_fault s [] (walk_from nothing_held) words ≡ []
    → built_fault (record { top = s; subs = [] }) nothing_held words ≡ end_fault s h
alone_ends s words h waiting p is passes = ap₂ (after s) is passes

-- after a walk that failed, its fault is that of the whole
pub alone_fails : (s : Shape) (words : List Text) (k : ErrorKind) (ks : Kinds)
    → walk_fault s [] (walk_from nothing_held) words ≡ k ∷ ks
    → built_fault (record { top = s; subs = [] }) nothing_held words ≡ k ∷ ks
alone_fails s words k ks fails = ap (after s (walk s.rules [] nothing_held words)) fails

-- ---- from the clauses of a parse

-- the kinds of error of an app as it was put together, at the words after the first
abbrev pub faults_at : App → List Text → Kinds
faults_at a rest = built_fault (built a) nothing_held rest

-- and its matches there
abbrev pub rows_at : App → List Text → List Row
rows_at a rest = rows_after (built a).top.rules [] rest

-- a fault is a fault
pub some_kind : (k : ErrorKind) (ks kinds : Kinds) → kinds ≡ k ∷ ks → kinds ≡ [] → ⊥
some_kind k ks kinds e f = cc

-- a parse that gave matches met no fault
pub no_fault : (a b : App) (words : List Text) → a ≡ b → is_simple_and_free b ≡ true → (is_simple_and_free a ≡ true → fault_of a words ≡ []) → fault_of b words ≡ []
no_fault a b words same free h = sym (ap (λ x. fault_of x words) same) ∙ h (ap is_simple_and_free same ∙ free)

-- a parse that gave an error other than out of memory met a fault
pub some_fault : (a b : App) (words : List Text) (e : Error) → a ≡ b → is_simple_and_free b ≡ true → (is_simple_and_free a ≡ true → HasKind (fault_of a words) e)
    → (kind_of e ≡ kind.OutOfMemory → ⊥) → fault_of b words ≡ [] → ⊥
some_fault a b words e same free h other none =
    elim (h (ap is_simple_and_free same ∙ free)) [
      | inl memory ↦ other memory
      | inr among ↦ subst (IsAmong (kind_of e)) (ap (λ x. fault_of x words) same ∙ none) among
    ]

-- the matches of a parse are those of its app, known in closed form
pub rows_are : (a b : App) (words : List Text) (m : ArgMatches) → a ≡ b → is_simple b ≡ true → HasMatchesOf a words m → rows_of (found_of m) ≡ matches_of b words
rows_are a b words m same simple h = (h (ap is_simple same ∙ simple)).0 ∙ ap (λ x. matches_of x words) same

-- and so is the value of an argument
pub value_is : (a b : App) (words : List Text) (m : ArgMatches) (id : Text) → a ≡ b → is_simple b ≡ true → HasMatchesOf a words m
    → first_value (found_of m) id ≡ first_of id (matches_of b words)
value_is a b words m id same simple h = first_value-rows (found_of m) id ∙ ap (first_of id) (rows_are a b words m same simple h)

-- ---- a walk, word by word

-- the walk over the words has come to stand before the rest of them, and nothing failed
pub record Stands (s : Shape) (words : List Text) (held : Held) (waiting : Waiting) (p : ℕ) (rest : List Text) : Type 0 where
  pub walks : walk s.rules [] nothing_held words ≡ fold (walked s.rules []) (standing held waiting p) rest
  pub faults : walk_fault s [] (walk_from nothing_held) words ≡ walk_fault s [] (standing held waiting p) rest

-- at the first word
pub stands_first : (s : Shape) (words : List Text) → Stands s words nothing_held idle 1 words
stands_first s words = record { walks = refl; faults = refl }

-- one more operand
pub stands_next : (s : Shape) (words : List Text) (h : Held) (waiting : Waiting) (p : ℕ) (w : Text) (rest : List Text) (now : Held) (then : Waiting) (q : ℕ)
    → Stands s words h waiting p (w ∷ rest) → is_plain w ≡ true → is_between waiting ≡ true
    → step_fault s p h value ≡ [] → to_positional s.rules (arg_by_index s.rules p) w (standing h waiting p) h ≡ standing now then q
    → Stands s words now then q rest
stands_next s words h waiting p w rest now then q before word between passes is = record {
  walks = before.walks ∙ ap (λ (v : Walk). fold (walked s.rules []) v rest) (operand_walked s.rules waiting p w h word between ∙ is);
  faults = before.faults ∙ operand_passes s waiting p w rest h (standing now then q) word between passes is;
}

-- at the end of the words: what is held
pub stands_walk : (s : Shape) (words : List Text) (h : Held) (waiting : Waiting) (p : ℕ) → Stands s words h waiting p []
    → rows_after s.rules [] words ≡ finished s.rules h
stands_walk s words h waiting p end = ap (λ (w : Walk). finished s.rules w.held) end.walks

-- at the end of the words: what is at fault
pub stands_fault : (s : Shape) (words : List Text) (h : Held) (waiting : Waiting) (p : ℕ) → Stands s words h waiting p []
    → built_fault (record { top = s; subs = [] }) nothing_held words ≡ end_fault s h
unfolding walk_fault
stands_fault s words h waiting p end = alone_ends s words h waiting p end.walks end.faults

-- one operand too many
pub stands_stray : (s : Shape) (words : List Text) (h : Held) (waiting : Waiting) (p : ℕ) (w : Text) (rest : List Text) (k : ErrorKind) (ks : Kinds)
    → Stands s words h waiting p (w ∷ rest) → is_plain w ≡ true → is_between waiting ≡ true → step_fault s p h value ≡ k ∷ ks
    → built_fault (record { top = s; subs = [] }) nothing_held words ≡ k ∷ ks
stands_stray s words h waiting p w rest k ks before word between fails =
    alone_fails s words k ks (before.faults ∙ operand_stray s waiting p w rest h k ks word between fails)

-- what an argument with these values has in the matches
abbrev pub row : Text → List Text → Row
row id values = record { id = id; values = values; count = None; source = Some CommandLine; reading = AsWritten }

-- a value of a positional is pending
abbrev pub reading : List Row → Text → Text → Held
reading rows id v = record { rows = rows; pending = Some (id, v ∷ []); skip = 0 }
