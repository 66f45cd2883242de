-- How clap walks over the value of an option, and over operands that one positional takes to the end.
use Rattle.std.proofs.Common.{◌≡◌, ◌∙◌, ℕ, true, false, refl, ap, ap₂, List, [], ◌∷◌, ◌++◌, option_map, append_assoc}
use Rattle.std.specs.List.{fold, list_all}
use Rattle.clap.specs.Walk.{all_of, arg_by_id, option_word, Held, Rule, Step, Text, Waiting, Walk, after_step, arg_by_index, option, positional, rows_of, to_positional, value, walk, walked, word_met}
use Rattle.clap.specs.Simple.{App, HasMatchesOf, Shape, is_simple, matches_of}
use Rattle.clap.specs.Kinds.{Kinds, or_else}
use Rattle.clap.specs.Matches.{found_of, matched_of, raw_values}
use Rattle.clap.specs.Faults.{step_fault, turn_fault, walk_fault}
use Rattle.clap.specs.declared.parser.matches.ArgMatches.{ArgMatches}
use Rattle.clap.proofs.WalkLemmas.{both, raw_values-rows}
use Rattle.tool_words.specs.Words.{is_plain}
use Rattle.tool_words.proofs.Walks.{Stands, operand_passes, operand_plain, operand_walked, rows_are, standing}

-- ---- an option that waits for its value

-- the word is the value of the option
pub value_walked : (c : List Rule) (id : Text) (p : ℕ) (w : Text) (h : Held) → is_plain w ≡ true
    → walked c [] (standing h (option id) p) w ≡ standing (option_word (arg_by_id c id) id w h).0 (option_word (arg_by_id c id) id w h).1 p
unfolding walked
value_walked c id p w h word =
    let plain = operand_plain w word in
    let met : word_met c [] false (option id) p w h ≡ ((option_word (arg_by_id c id) id w h).0, Rattle.clap.specs.Walk.next (option_word (arg_by_id c id) id w h).1) =
    rw (plain.dashes, plain.long, plain.short) refl in
    ap (λ (m : Held × Step). after_step c w (standing h (option id) p) m.0 m.1) met

pub value_passes : (s : Shape) (id : Text) (p : ℕ) (w : Text) (rest : List Text) (h : Held) (next : Walk) → is_plain w ≡ true
    → standing (option_word (arg_by_id s.rules id) id w h).0 (option_word (arg_by_id s.rules id) id w h).1 p ≡ next
    → walk_fault s [] (standing h (option id) p) (w ∷ rest) ≡ walk_fault s [] next rest
unfolding walk_fault
value_passes s id p w rest h next word is =
    let plain = operand_plain w word in
    let turn : turn_fault s [] (standing h (option id) p) w ≡ [] = rw (plain.dashes, plain.long, plain.short) refl in
    ap₂ (λ (k : Kinds) (v : Walk). or_else k (walk_fault s [] v rest)) turn (value_walked s.rules id p w h word ∙ is)

-- ---- a positional that takes each operand to the end

-- `held vs v` is held after the operands vs, which are used, and v, which is pending
module _ (s : Shape) (p : ℕ) (held : List Text → Text → Held)
    (passes : (vs : List Text) (v : Text) → step_fault s p (held vs v) value ≡ [])
    (more : (vs : List Text) (v w : Text)
    → to_positional s.rules (arg_by_index s.rules p) w (standing (held vs v) positional p) (held vs v) ≡ standing (held (vs ++ v ∷ []) w) positional p) where
  pub repeated : (vs : List Text) (v : Text) (rest : List Text) → list_all is_plain rest ≡ true
      → (us : List Text) × (u : Text) × (us ++ u ∷ [] ≡ vs ++ v ∷ rest)
      × (fold (walked s.rules []) (standing (held vs v) positional p) rest ≡ standing (held us u) positional p)
      × (walk_fault s [] (standing (held vs v) positional p) rest ≡ [])
  unfolding walk_fault
  repeated vs v [] e = (vs, v, refl, refl, refl)
  repeated vs v (w ∷ rest) e =
      let here = both _ _ e in
      let r = repeated (vs ++ v ∷ []) w rest here.1 in (
        r.0,
        r.1,
        r.2 ∙ append_assoc vs (v ∷ []) (w ∷ rest),
        ap (λ (x : Walk). fold (walked s.rules []) x rest) (operand_walked s.rules positional p w (held vs v) here.0 refl ∙ more vs v w) ∙ r.3,
        operand_passes s positional p w rest (held vs v) (standing (held (vs ++ v ∷ []) w) positional p) here.0 refl (passes vs v) (more vs v w) ∙ r.4,
      )

-- the values of an argument that takes several
pub values_are : (a b : App) (words : List Text) (m : ArgMatches) (id : Text) → a ≡ b → is_simple b ≡ true → HasMatchesOf a words m
    → option_map raw_values (matched_of (found_of m) id) ≡ all_of id (matches_of b words)
values_are a b words m id same simple h = raw_values-rows (found_of m) id ∙ ap (all_of id) (rows_are a b words m same simple h)

-- ---- the walk that stands before them

-- the value of an option
pub stands_value : (s : Shape) (words : List Text) (h : Held) (id : Text) (p : ℕ) (w : Text) (rest : List Text) (now : Held) (then : Waiting)
    → Stands s words h (option id) p (w ∷ rest) → is_plain w ≡ true
    → standing (option_word (arg_by_id s.rules id) id w h).0 (option_word (arg_by_id s.rules id) id w h).1 p ≡ standing now then p
    → Stands s words now then p rest
stands_value s words h id p w rest now then before word is = record {
  walks = before.walks ∙ ap (λ (v : Walk). fold (walked s.rules []) v rest) (value_walked s.rules id p w h word ∙ is);
  faults = before.faults ∙ value_passes s id p w rest h (standing now then p) word is;
}

-- operands to the end
pub stands_repeated : (s : Shape) (words : List Text) (p : ℕ) (held : List Text → Text → Held)
    → ((vs : List Text) (v : Text) → step_fault s p (held vs v) value ≡ [])
    → ((vs : List Text) (v w : Text)
    → to_positional s.rules (arg_by_index s.rules p) w (standing (held vs v) positional p) (held vs v) ≡ standing (held (vs ++ v ∷ []) w) positional p)
    → (v : Text) (rest : List Text) → Stands s words (held [] v) positional p rest → list_all is_plain rest ≡ true
    → (us : List Text) × (u : Text) × (us ++ u ∷ [] ≡ v ∷ rest) × Stands s words (held us u) positional p []
unfolding walk_fault
stands_repeated s words p held passes more v rest before all =
    let r = repeated s p held passes more [] v rest all in
    (r.0, r.1, r.2, record { walks = before.walks ∙ r.3; faults = before.faults ∙ r.4 })
