-- The lines of a script.
use Rattle.std.proofs.Common.{◌≡◌, ◌≢◌, ℕ, List, [], ◌∷◌, length, refl, ap, sym, ◌∙◌, subst, Option, Some, None, Result, Err, Bor}
use Rattle.sync_command.specs.declared.values.Version.{Version}
use Rattle.log_text.specs.declared.faults.LineFault.{LineFault}
use Rattle.log_text.specs.declared.faults.TextKind.TheVariants as kind
use Rattle.log_text.specs.declared.frame.Fields.{Fields}
use Rattle.log_text.specs.declared.frame.Fields.TheVariants as fields
use Rattle.log_text.specs.Frame.{end_number}
use Rattle.log_text.specs.Reading.{AreFields, GivesLine}
use Rattle.record_core.specs.declared.ops.Op.{Op}
use Rattle.record_core.specs.declared.words.ShortWord.{ShortWord}
use Rattle.record_core.specs.declared.words.LongWord.{LongWord}
use Rattle.record_core.specs.Scripts.{op_of, short_word, short_op, long_word, long_op}

-- two fields, of which the first is this word or none
pub op_of_two : (version : Version) (k : ℕ) (fs : Fields) (ps : List (List ℕ)) (a b : Bor (List ℕ)) (o : Option ShortWord) → AreFields fs ps → fs ≡ fields.Two a b → o ≡ short_word a.now
    → op_of version k ps ≡ short_op k o b.now
unfolding op_of
op_of_two version k fs ps a b o are is word = let two = subst (λ f. AreFields f ps) is are in ap (op_of version k) two.1 ∙ ap (λ o. short_op k o b.now) (sym word)

pub two_gives : (version : Version) (k : ℕ) (fs : Fields) (ps : List (List ℕ)) (a b : Bor (List ℕ)) (o : Option ShortWord) (r : Result Op LineFault) → AreFields fs ps → fs ≡ fields.Two a b → o ≡ short_word a.now
    → GivesLine r (short_op k o b.now) → GivesLine r (op_of version k ps)
two_gives version k fs ps a b o r are is word gives = subst (λ x. GivesLine r x) (sym (op_of_two version k fs ps a b o are is word)) gives

-- three fields, of which the first is this word or none
pub op_of_three : (version : Version) (k : ℕ) (fs : Fields) (ps : List (List ℕ)) (a b c : Bor (List ℕ)) (o : Option LongWord) → AreFields fs ps → fs ≡ fields.Three a b c → o ≡ long_word version a.now
    → op_of version k ps ≡ long_op version k o b.now c.now
unfolding op_of
op_of_three version k fs ps a b c o are is word = let three = subst (λ f. AreFields f ps) is are in ap (op_of version k) three ∙ ap (λ o. long_op version k o b.now c.now) (sym word)

pub three_gives : (version : Version) (k : ℕ) (fs : Fields) (ps : List (List ℕ)) (a b c : Bor (List ℕ)) (o : Option LongWord) (r : Result Op LineFault) → AreFields fs ps → fs ≡ fields.Three a b c → o ≡ long_word version a.now
    → GivesLine r (long_op version k o b.now c.now) → GivesLine r (op_of version k ps)
three_gives version k fs ps a b c o r are is word gives = subst (λ x. GivesLine r x) (sym (op_of_three version k fs ps a b c o are is word)) gives

-- a line that has neither two fields nor three
not_two_or_three : (version : Version) (k : ℕ) (ps : List (List ℕ)) → length ps ≢ 2 → length ps ≢ 3 → op_of version k ps ≡ Err kind.Fields
unfolding op_of
not_two_or_three version k [] two three = refl
not_two_or_three version k (a ∷ []) two three = refl
not_two_or_three version k (a ∷ b ∷ []) two three = absurd (two refl)
not_two_or_three version k (a ∷ b ∷ c ∷ []) two three = absurd (three refl)
not_two_or_three version k (a ∷ b ∷ c ∷ d ∷ ps) two three = refl

-- neither an end line nor two or three fields
pub no_op : (version : Version) (k : ℕ) (fs : Fields) (ps : List (List ℕ)) → AreFields fs ps → end_number ps ≡ None → ((a b : Bor (List ℕ)) → fs ≡ fields.Two a b → ⊥) → ((a b c : Bor (List ℕ)) → fs ≡ fields.Three a b c → ⊥)
    → op_of version k ps ≡ Err kind.Fields
no_op version k (fields.End n) ps h e two three = absurd (some_not_none n.now (sym h ∙ e))
  where
    some_not_none : (n : List ℕ) → ◌≡◌ {A = Option (List ℕ)} (Some n) None → ⊥
    some_not_none n e = cc
no_op version k (fields.Two a b) ps h e two three = absurd (two a b refl)
no_op version k (fields.Three a b c) ps h e two three = absurd (three a b c refl)
no_op version k fields.Other ps h e two three = not_two_or_three version k ps h.1 h.2
