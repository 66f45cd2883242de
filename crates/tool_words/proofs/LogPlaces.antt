-- The logs are the last words, which gives the places of the operands before them.
use Rattle.std.proofs.Common.{◌≡◌, ◌∙◌, ◌<◌, ◌≤◌, ◌+◌, ◌-◌, refl, sym, ap, ap₂, subst, ℕ, zero, suc, true, false, List, [], ◌∷◌, Option, Some, None, true≢false, is_some, Bool, cond, option_map, option_and_then, length, drop, map, length-drop, arith}
use Rattle.std.proofs.lemmas.Option.{some_pair_parts}
use Rattle.std.specs.List.{list_all}
use Rattle.std.specs.Prelude.{codes}
use Rattle.std.specs.Str.{bytes_eq}
use Rattle.std.proofs.lemmas.Bool.{leb-true}
use Rattle.clap.proofs.WalkLemmas.{both}
use Rattle.tool_words.specs.Words.{Text, Operand, is_plain, numbered, operand_at, plain_of}
use Rattle.tool_words.specs.Logs.{Parts, is_log_count, parts_of, part_texts, prefs_logs, prefs_first_logs, only_logs, first_logs, first_and_logs, has_prefs_prefix}
use Rattle.tool_words.proofs.Places.{numbered_plain}
use Rattle.tool_words.proofs.Walks.{is_not}
use Rattle.tool_words.proofs.Numbered.{numbered_from, numbered_length}
use Rattle.tool_words.proofs.PrefsOption.{Opening, Parted, equals, file_of, parted, placed, plain, skipped, spelled, texts_placed, word}

-- The words have parts with these texts: the last words are the operands, and the one before them has the file.
pub record Placed (words : List Text) (file : Option Text) (texts : List Text) : Type 0 where
  pub within : length texts ≤ length words
  pub named : is_some file ≡ true → length texts + 1 < length words
  pub is : parts_of (numbered 1 (drop 1 words))
      ≡ Some (option_map (operand_at (length words - length texts - 1)) file, drop (length words - length texts) (numbered 0 words))

abbrev pub some_parts : Option Operand → List Operand → Option Parts
some_parts file operands = Some (file, operands)

placed_file : (o : Opening) → placed o ≡ option_map (operand_at (skipped o)) (file_of o)
placed_file plain = refl
placed_file (equals file) = refl
placed_file (word file) = refl

spelled_length : (o : Opening) (rest : List Text) → length (spelled o rest) ≡ skipped o + length rest
spelled_length plain rest = omega arith
spelled_length (equals file) rest = omega arith
spelled_length (word file) rest = omega arith

spelled_rest : (o : Opening) (rest : List Text) → drop (skipped o) (spelled o rest) ≡ rest
spelled_rest plain rest = refl
spelled_rest (equals file) rest = refl
spelled_rest (word file) rest = refl

named_by : (o : Opening) (count all : ℕ) → all ≡ suc (skipped o + count) → is_some (file_of o) ≡ true → count + 1 < all
named_by plain count all e h = absurd (true≢false (sym h))
named_by (equals file) count all e h = omega (arith, e)
named_by (word file) count all e h = omega (arith, e)

by_opening : (name : Text) (words : List Text) (p : Parted words) → Placed (name ∷ words) (file_of p.opening) p.rest
by_opening name words p =
    let o = p.opening in
    let rest = p.rest in
    let count : length words ≡ skipped o + length rest = ap length (sym p.spelt) ∙ spelled_length o rest in
    let first : length (name ∷ words) - length rest ≡ suc (skipped o) = omega (arith, count) in
    let before : length (name ∷ words) - length rest - 1 ≡ skipped o = omega (arith, count) in
    let last : drop (suc (skipped o)) (numbered 0 (name ∷ words)) ≡ numbered (suc (skipped o)) rest =
    numbered_from (skipped o) 1 words ∙ ap (λ w. numbered (1 + skipped o) (drop (skipped o) w)) (sym p.spelt)
    ∙ ap (numbered (1 + skipped o)) (spelled_rest o rest)
    ∙ ap (λ n. numbered n rest) (let e : 1 + skipped o ≡ suc (skipped o) = omega arith in e) in
    record {
      within = omega (arith, count);
      named = named_by o (length rest) (length (name ∷ words)) (omega (arith, count));
      is = p.is ∙ ap₂ some_parts
          (placed_file o ∙ ap (λ place. option_map (operand_at place) (file_of o)) (sym before))
          (sym last ∙ ap (λ n. drop n (numbered 0 (name ∷ words))) (sym first));
    }

pub placed_at : (words : List Text) (file : Option Text) (texts : List Text) → is_some (parts_of (numbered 1 (drop 1 words))) ≡ true
    → option_map part_texts (parts_of (numbered 1 (drop 1 words))) ≡ Some (file, texts) → Placed words file texts
placed_at [] file texts e same =
    let parts = some_pair_parts _ _ _ _ same in
    subst (λ f. Placed [] f texts) parts.0 (subst (Placed [] None) parts.1 (record { within = omega arith; named = λ h. absurd (true≢false (sym h)); is = refl }))
placed_at (name ∷ words) file texts e same =
    let p = parted words e in
    let parts = some_pair_parts _ _ _ _ (sym (texts_placed words p) ∙ same) in
    subst (λ f. Placed (name ∷ words) f texts) parts.0 (subst (Placed (name ∷ words) (file_of p.opening)) parts.1 (by_opening name words p))

-- so many operands are the logs, or there are none
last_count : (words : List Text) (count : ℕ) → count ≤ length words → length (drop (length words - count) (numbered 0 words)) ≡ count
last_count words count h =
    length-drop (length words - count) (numbered 0 words) ∙ ap (λ n. n - (length words - count)) (numbered_length 0 words) ∙ omega (arith, h)

pub logs_taken : (words : List Text) (file : Option Text) (texts : List Text) → Placed words file texts → is_log_count (length texts) ≡ true
    → prefs_logs (numbered 1 (drop 1 words))
    ≡ Some (option_map (operand_at (length words - length texts - 1)) file, drop (length words - length texts) (numbered 0 words))
logs_taken words file texts p e =
    rw (p.is, last_count words (length texts) p.within, e) refl

pub logs_refused : (words : List Text) (file : Option Text) (texts : List Text) → Placed words file texts → is_log_count (length texts) ≡ false
    → prefs_logs (numbered 1 (drop 1 words)) ≡ None
logs_refused words file texts p e = rw (p.is, last_count words (length texts) p.within, e) refl

pub is_some-map : {A B : Type 0} (f : A → B) (o : Option A) → is_some (option_map f o) ≡ is_some o
is_some-map f None = refl
is_some-map f (Some a) = refl

-- ---- a first operand, and logs

-- The same where one operand stands before the logs.
pub record PlacedFirst (words : List Text) (file : Option Text) (first : Text) (texts : List Text) : Type 0 where
  pub within : length texts + 1 ≤ length words
  pub named : is_some file ≡ true → length texts + 2 < length words
  pub is : parts_of (numbered 1 (drop 1 words))
      ≡ Some (option_map (operand_at (length words - length texts - 1 - 1)) file, operand_at (length words - length texts - 1) first ∷ drop (length words - length texts) (numbered 0 words))

abbrev top : List Text → Text
top [] = []
top (text ∷ texts) = text

-- the operands from one on, whose text is known
cut : (at place : ℕ) (words : List Text) (text : Text) (texts : List Text) → map (λ operand. operand.text) (drop at (numbered place words)) ≡ text ∷ texts
    → drop at (numbered place words) ≡ operand_at (place + at) text ∷ drop (suc at) (numbered place words)
cut zero place [] text texts e = absurd (omega (arith, ap length e))
cut zero place (w ∷ words) text texts e =
    ap₂ (λ (n : ℕ) (t : Text). operand_at n t ∷ numbered (suc place) words) (let p : place ≡ place + 0 = omega arith in p) (ap top e)
cut (suc at) place [] text texts e = absurd (omega (arith, ap length e))
cut (suc at) place (w ∷ words) text texts e =
    cut at (suc place) words text texts e
    ∙ ap (λ n. operand_at n text ∷ drop (suc at) (numbered (suc place) words)) (let p : suc place + at ≡ place + suc at = omega arith in p)

pub placed_first : (words : List Text) (file : Option Text) (first : Text) (texts : List Text) → is_some (parts_of (numbered 1 (drop 1 words))) ≡ true
    → option_map part_texts (parts_of (numbered 1 (drop 1 words))) ≡ Some (file, first ∷ texts) → PlacedFirst words file first texts
placed_first words file first texts e same =
    let p = placed_at words file (first ∷ texts) e same in
    let at = length words - length (first ∷ texts) in
    let shown = some_pair_parts _ _ _ _ (sym (ap (option_map part_texts) p.is) ∙ same) in
    let here : length words - length texts - 1 ≡ at = omega (arith, p.within) in
    let next : suc at ≡ length words - length texts = omega (arith, p.within) in
    record {
      within = omega (arith, p.within);
      named = λ h. omega (arith, p.named h);
      is = p.is ∙ ap₂ some_parts
          (ap (λ n. option_map (operand_at (n - 1)) file) (sym here))
          (cut at 0 words first texts shown.1
          ∙ ap₂ (λ m n. operand_at m first ∷ drop n (numbered 0 words)) (let z : 0 + at ≡ length words - length texts - 1 = omega (arith, here) in z) next);
    }

pub first_taken : (words : List Text) (file : Option Text) (first : Text) (texts : List Text) → PlacedFirst words file first texts → is_log_count (length texts) ≡ true
    → prefs_first_logs (numbered 1 (drop 1 words))
    ≡ Some (option_map (operand_at (length words - length texts - 1 - 1)) file, operand_at (length words - length texts - 1) first, drop (length words - length texts) (numbered 0 words))
first_taken words file first texts p e =
    rw (p.is, last_count words (length texts) (omega (arith, p.within)), e) refl

pub first_refused : (words : List Text) (file : Option Text) (first : Text) (texts : List Text) → PlacedFirst words file first texts → is_log_count (length texts) ≡ false
    → prefs_first_logs (numbered 1 (drop 1 words)) ≡ None
first_refused words file first texts p e = rw (p.is, last_count words (length texts) (omega (arith, p.within)), e) refl

-- ---- no option

-- plain words have themselves as their parts
plain_parts : (words : List Text) → list_all is_plain words ≡ true → parts_of (numbered 1 words) ≡ Some (None, numbered 1 words)
plain_parts [] e = refl
plain_parts (w ∷ rest) e =
    let h = both _ _ e in
    let all : list_all (λ operand. is_plain operand.text) (numbered 1 (w ∷ rest)) ≡ true = numbered_plain 1 (w ∷ rest) ∙ e in
    rw (no_prefs w h.0, no_prefix w h.0, all) refl
  where
    no_prefs : (w : Text) → is_plain w ≡ true → bytes_eq w (codes "--prefs") ≡ false
    no_prefs [] e = absurd (true≢false (sym e))
    no_prefs (x ∷ xs) e = rw (is_not _ e) refl

    no_prefix : (w : Text) → is_plain w ≡ true → has_prefs_prefix w ≡ false
    no_prefix [] e = absurd (true≢false (sym e))
    no_prefix (x ∷ xs) e = rw (is_not _ e) refl

all_plain : (words : List Text) → list_all is_plain words ≡ true → plain_of (numbered 1 words) ≡ Some (numbered 1 words)
all_plain words e = rw (numbered_plain 1 words ∙ e) refl

pub plain_logs : (words : List Text) → list_all is_plain words ≡ true
    → prefs_logs (numbered 1 words) ≡ option_map (λ logs. (None, logs)) (only_logs (numbered 1 words))
plain_logs words e = rw (plain_parts words e, all_plain words e) refl

pub plain_first_logs : (words : List Text) → list_all is_plain words ≡ true
    → prefs_first_logs (numbered 1 words) ≡ option_map (λ pair. (None, pair.0, pair.1)) (first_logs (numbered 1 words))
plain_first_logs words e = rw (plain_parts words e, all_plain words e) refl

-- ---- there are not many logs

abbrev logs_in : Option (Option Operand × Operand × List Operand) → ℕ
logs_in None = 0
logs_in (Some found) = length found.2

pub few_logs : (operands : List Operand) (file : Option Operand) (first : Operand) (logs : List Operand)
    → prefs_first_logs operands ≡ Some (file, first, logs) → length logs ≤ 64
few_logs operands file first logs e = by (parts_of operands) e
  where
    by : (parts : Option Parts) → option_and_then {U = Option Operand × Operand × List Operand} (λ (p : Parts). option_map (λ pair. (p.0, pair.0, pair.1)) (first_and_logs p.1)) parts ≡ Some (file, first, logs)
        → length logs ≤ 64
    by None e = absurd (cc)
    by (Some (f, [])) e = absurd (cc)
    by (Some (f, a ∷ rest)) e = go (is_log_count (length rest)) refl e
      where
        go : (b : Bool) → is_log_count (length rest) ≡ b
            → option_map {U = Option Operand × Operand × List Operand} (λ (pair : Operand × List Operand). (f, pair.0, pair.1)) (option_map (λ logs. (a, logs)) (cond b (Some rest) None)) ≡ Some (file, first, logs)
            → length logs ≤ 64
        go false is e = absurd (cc)
        go true is e =
            let same : length rest ≡ length logs = ap logs_in e in
            omega (arith, same, leb-true (length rest) 64 (both _ _ is).1)
