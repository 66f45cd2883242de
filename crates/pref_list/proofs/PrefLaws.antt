-- The texts of preference lists.
use Rattle.std.proofs.Common.{◌≡◌, ℕ, ◌+◌, ◌<◌, ◌≤◌, Bool, true, false, nat_le, List, [], ◌∷◌, ◌++◌, length, codes, decimal, refl, sym, ap, subst, ◌∙◌, arith, ⊎_elim, Option, Some, None, Ok, Err, Result, append_assoc, append-nil, lit≤}
use Rattle.std.specs.List.{AllByRecursion, join_with_byte}
use Rattle.std.specs.Str.{bytes_eq}
use Rattle.std.proofs.lemmas.Bool.{cases_Bool}
use Rattle.std.proofs.lemmas.Bool.Decides.{nat_tests}
use Rattle.std.proofs.lemmas.Slice.Eq.{bytes_eq-Decides}
use Rattle.std.proofs.lemmas.List.Sums.{sum_by-append}
use Rattle.sync_path.specs.declared.faults.PathFault.{PathFault}
use Rattle.sync_path.specs.Paths.{Node, IsPath, parts, path_text}
use Rattle.sync_path.specs.Reading.{path_of}
use Rattle.sync_path.proofs.CallerLemmas.{read_is, text_back}
use Rattle.log_text.specs.declared.faults.TextFault.{TextFault}
use Rattle.log_text.specs.declared.faults.TextKind.{TextKind}
use Rattle.log_text.specs.declared.faults.TextKind.TheVariants as kind
use Rattle.log_text.specs.declared.frame.TheConstants.{MAX_ITEMS}
use Rattle.log_text.specs.Frame.{end_number, framed_of}
use Rattle.log_text.proofs.CallerLemmas.{IsClear, path_field, field_clear, clear_both, decimal_digits, digits_field, parts_clear, parts_only}
use Rattle.log_text.proofs.CallerLemmas.{IsRead, AreRead, IsSound, AreFine, joined, framed_back, framed_is, few_fine, each_fine, space_before}
use Rattle.pref_list.specs.declared.rules.Rule.{Rule}
use Rattle.pref_list.specs.declared.rules.Rule.TheVariants.{At, Under, All}
use Rattle.pref_list.specs.declared.rules.TheConstants.{MAX_WIDE}
use Rattle.pref_list.specs.Prefs.{prefs_first, rule_text, prefs_text, is_wide, wide_rules, IsLogNumber, IsRule, IsPrefs, log_number, rule_at, rule_of_all, with_space, with_wide_space, of_log, of_place, rule_of, prefs_head, judge_rule, without_head, prefs_of}
use Rattle.pref_list.proofs.Spelling.{number_is, number_back}

-- ---- one line is read

number_clear : (mark log : ℕ) → mark ≤ 32 → IsLogNumber log → IsClear mark (decimal log)
number_clear mark log low h = let high = h.high in field_clear mark (decimal log) low (digits_field (decimal log) (decimal_digits log (omega (arith, high))).low)

place_cut : (word : List ℕ) (log : ℕ) (p : Node) → IsClear 32 word → IsLogNumber log → parts 32 (word ++ 32 ∷ (decimal log ++ 32 ∷ path_text p)) ≡ word ∷ decimal log ∷ path_text p ∷ []
place_cut word log p clear h =
    parts_clear 32 word (decimal log ++ 32 ∷ path_text p) clear
    ∙ ap (λ ps. word ∷ ps)
    (parts_clear 32 (decimal log) (path_text p) (number_clear 32 log (lit≤ tt) h)
    ∙ ap (λ ps. decimal log ∷ ps) (parts_only 32 (path_text p) (field_clear 32 (path_text p) (lit≤ tt) (path_field p))))

log_cut : (word : List ℕ) (log : ℕ) → IsClear 32 word → IsLogNumber log → parts 32 (word ++ 32 ∷ decimal log) ≡ word ∷ decimal log ∷ []
log_cut word log clear h = parts_clear 32 word (decimal log) clear ∙ ap (λ ps. word ∷ ps) (parts_only 32 (decimal log) (number_clear 32 log (lit≤ tt) h))

place_clear : (log : ℕ) (p : Node) → IsLogNumber log → IsClear 10 (decimal log ++ 32 ∷ path_text p)
place_clear log p h = clear_both 10 (decimal log) (32 ∷ path_text p) (number_clear 10 log (lit≤ tt) h) (refl, field_clear 10 (path_text p) (lit≤ tt) (path_field p))

-- there is space for the rule after those before it
record HasSpace (before : List Rule) (rule : Rule) : Type 0 where
  all : length before < MAX_ITEMS
  wide : is_wide rule ≡ true → wide_rules before < MAX_WIDE

within : (most n : ℕ) → n < most → nat_le most n ≡ false
within most n h = grind (arith, nat_tests)

is_read : (before : List Rule) (rule : Rule) → HasSpace before rule → IsRule rule → IsRead (judge_rule tt) rule_text before rule
unfolding rule_of
is_read before (At log p) space (number, path) =
    let cut = place_cut (codes "at") log p (refl, (refl, tt)) number in
    record {
      line = (refl, (refl, (refl, place_clear log p number)));
      other = ap end_number cut;
      judged = ap (rule_of before) cut ∙ rw (within MAX_ITEMS (length before) space.all, number_back log number, text_back p path) refl;
    }
is_read before (Under log p) space (number, path) =
    let cut = place_cut (codes "under") log p (refl, (refl, (refl, (refl, (refl, tt))))) number in
    record {
      line = (refl, (refl, (refl, (refl, (refl, (refl, place_clear log p number))))));
      other = ap end_number cut;
      judged = ap (rule_of before) cut ∙ rw (within MAX_ITEMS (length before) space.all, within MAX_WIDE (wide_rules before) (space.wide refl), number_back log number, text_back p path) refl;
    }
is_read before (All log) space number =
    let cut = log_cut (codes "all") log (refl, (refl, (refl, tt))) number in
    record {
      line = (refl, (refl, (refl, (refl, number_clear 10 log (lit≤ tt) number))));
      other = ap end_number cut;
      judged = ap (rule_of before) cut ∙ rw (within MAX_ITEMS (length before) space.all, within MAX_WIDE (wide_rules before) (space.wide refl), number_back log number) refl;
    }

wide-append : (a b : List Rule) → wide_rules (a ++ b) ≡ wide_rules a + wide_rules b
wide-append a b = sum_by-append _ a b

wide_space : (before rules : List Rule) (rule : Rule) → wide_rules (before ++ rule ∷ rules) ≤ MAX_WIDE → is_wide rule ≡ true → wide_rules before < MAX_WIDE
wide_space before rules rule h wide =
    let all = wide-append before (rule ∷ rules) in
    let rest = wide-append (rule ∷ []) rules in
    let one : wide_rules (rule ∷ []) ≡ 1 = rw wide refl in
    omega (arith, all, rest, one, h)

are_read : (before rules : List Rule) → length (before ++ rules) ≤ MAX_ITEMS → wide_rules (before ++ rules) ≤ MAX_WIDE → AllByRecursion IsRule rules → AreRead (judge_rule tt) rule_text before rules
are_read before [] few narrow h = tt
are_read before (rule ∷ rules) few narrow (one, h) = (
  is_read before rule (record { all = space_before before rules rule few; wide = wide_space before rules rule narrow }) one,
  are_read (before ++ rule ∷ []) rules (subst (λ l. length l ≤ MAX_ITEMS) (sym (append_assoc before (rule ∷ []) rules)) few) (subst (λ l. wide_rules l ≤ MAX_WIDE) (sym (append_assoc before (rule ∷ []) rules)) narrow) h,
)

first_clear : IsClear 10 prefs_first
first_clear = (refl, (refl, (refl, (refl, (refl, (refl, (refl, (refl, (refl, (refl, (refl, tt)))))))))))

-- what is printed is read back
pub prefs_back : (rules : List Rule) → IsPrefs rules → prefs_of (parts 10 (prefs_text rules)) ≡ Ok rules
unfolding prefs_of prefs_text
prefs_back rules h =
    let few = h.few in
    ap without_head (framed_back judge_rule prefs_head (λ head. prefs_first) rule_text tt rules refl first_clear (omega (arith, few)) (are_read [] rules few h.narrow h.each))

-- ---- what is read has its text

record IsFine (head : Unit {0}) (before : List Rule) (rule : Rule) : Type 0 where
  space : HasSpace before rule
  valid : IsRule rule

same_rule : (a b : Rule) → ◌≡◌ {A = Result Rule TextKind} (Ok a) (Ok b) → a ≡ b
same_rule a b e = cc

not_ok : (f : TextKind) (rule : Rule) → ◌≡◌ {A = Result Rule TextKind} (Err f) (Ok rule) → ⊥
not_ok f rule e = cc

from_space : (before : List Rule) (read : Result Rule TextKind) (rule : Rule) → with_space before read ≡ Ok rule → (length before < MAX_ITEMS) × (read ≡ Ok rule)
from_space before read rule e =
    ⊎_elim
    (λ (t : nat_le MAX_ITEMS (length before) ≡ true). absurd (not_ok kind.TooMany rule (rw t at e)))
    (λ (f : nat_le MAX_ITEMS (length before) ≡ false). (grind (arith, nat_tests), rw f at e))
    (cases_Bool (nat_le MAX_ITEMS (length before)))

record HasWideSpace (before : List Rule) (read : Result Rule TextKind) (rule : Rule) : Type 0 where
  all : length before < MAX_ITEMS
  wide : wide_rules before < MAX_WIDE
  is : read ≡ Ok rule

from_wide_space : (before : List Rule) (read : Result Rule TextKind) (rule : Rule) → with_wide_space before read ≡ Ok rule → HasWideSpace before read rule
from_wide_space before read rule e =
    let space = from_space before _ rule e in
    ⊎_elim
    (λ (t : nat_le MAX_WIDE (wide_rules before) ≡ true). absurd (not_ok kind.TooWide rule (rw t at space.1)))
    (λ (f : nat_le MAX_WIDE (wide_rules before) ≡ false). record { all = space.0; wide = grind (arith, nat_tests); is = rw f at space.1 })
    (cases_Bool (nat_le MAX_WIDE (wide_rules before)))

-- a rule with a path is that of the fields
record IsPlace (log path : List ℕ) (make : ℕ → Node → Rule) (rule : Rule) : Type 0 where
  n : ℕ
  p : Node
  spelled : log ≡ decimal n
  text : path ≡ path_text p
  number : IsLogNumber n
  valid : IsPath p
  is : make n p ≡ rule

from_place : (make : ℕ → Node → Rule) (log path : List ℕ) (o : Option ℕ) (r : Result Node PathFault) (rule : Rule) → log_number log ≡ o → path_of path ≡ r → rule_at make o r ≡ Ok rule → IsPlace log path make rule
from_place make log path None r rule eo er e = absurd (not_ok kind.Number rule e)
from_place make log path (Some n) (Err f) rule eo er e = absurd (not_ok kind.Path rule e)
from_place make log path (Some n) (Ok p) rule eo er e =
    let number = number_is log n eo in
    let is = read_is path p er in
    record { n = n; p = p; spelled = number.0; text = is.1; number = number.1; valid = is.0; is = same_rule (make n p) rule e }

record IsWhole (log : List ℕ) (rule : Rule) : Type 0 where
  n : ℕ
  spelled : log ≡ decimal n
  number : IsLogNumber n
  is : All n ≡ rule

from_whole : (log : List ℕ) (o : Option ℕ) (rule : Rule) → log_number log ≡ o → rule_of_all o ≡ Ok rule → IsWhole log rule
from_whole log None rule eo e = absurd (not_ok kind.Number rule e)
from_whole log (Some n) rule eo e = let number = number_is log n eo in record { n = n; spelled = number.0; number = number.1; is = same_rule (All n) rule e }

word_is : (a b : List ℕ) → bytes_eq a b ≡ true → a ≡ b
word_is a b e = (bytes_eq-Decides a b).0 e

-- what the words of a line make: it is the rule's text
abbrev IsLine : List Rule → List (List ℕ) → Rule → Type 0
IsLine before ps rule = (join_with_byte 32 ps ≡ rule_text rule) × IsFine tt before rule

log_line : (before : List Rule) (word log : List ℕ) (rule : Rule) → of_log before word (log_number log) ≡ Ok rule → IsLine before (word ∷ log ∷ []) rule
log_line before word log rule e =
    ⊎_elim
    (λ (t : bytes_eq word (codes "all") ≡ true).
    let space = from_wide_space before (rule_of_all (log_number log)) rule (rw t at e) in
    let is = from_whole log (log_number log) rule refl space.is in
    let w = word_is word (codes "all") t in (
      (λ i. w i ++ 32 ∷ is.spelled i) ∙ ap rule_text is.is,
      subst (IsFine tt before) is.is (record { space = record { all = space.all; wide = λ h. space.wide }; valid = is.number }),
    ))
    (λ (f : bytes_eq word (codes "all") ≡ false). absurd (not_ok kind.Fields rule (rw f at e)))
    (cases_Bool (bytes_eq word (codes "all")))

under_line : (before : List Rule) (word log path : List ℕ) (rule : Rule) → bytes_eq word (codes "at") ≡ false → of_place before word (log_number log) (path_of path) ≡ Ok rule → IsLine before (word ∷ log ∷ path ∷ []) rule
under_line before word log path rule not e =
    ⊎_elim
    (λ (t : bytes_eq word (codes "under") ≡ true).
    let space = from_wide_space before (rule_at Under (log_number log) (path_of path)) rule (rw (not, t) at e) in
    let is = from_place Under log path (log_number log) (path_of path) rule refl refl space.is in
    let w = word_is word (codes "under") t in (
      (λ i. w i ++ 32 ∷ (is.spelled i ++ 32 ∷ is.text i)) ∙ ap rule_text is.is,
      subst (IsFine tt before) is.is (record { space = record { all = space.all; wide = λ h. space.wide }; valid = (is.number, is.valid) }),
    ))
    (λ (f : bytes_eq word (codes "under") ≡ false). absurd (not_ok kind.Fields rule (rw (not, f) at e)))
    (cases_Bool (bytes_eq word (codes "under")))

place_line : (before : List Rule) (word log path : List ℕ) (rule : Rule) → of_place before word (log_number log) (path_of path) ≡ Ok rule → IsLine before (word ∷ log ∷ path ∷ []) rule
place_line before word log path rule e =
    ⊎_elim
    (λ (t : bytes_eq word (codes "at") ≡ true).
    let space = from_space before (rule_at At (log_number log) (path_of path)) rule (rw t at e) in
    let is = from_place At log path (log_number log) (path_of path) rule refl refl space.1 in
    let w = word_is word (codes "at") t in (
      (λ i. w i ++ 32 ∷ (is.spelled i ++ 32 ∷ is.text i)) ∙ ap rule_text is.is,
      subst (IsFine tt before) is.is (record { space = record { all = space.0; wide = λ h. cc }; valid = (is.number, is.valid) }),
    ))
    (λ (f : bytes_eq word (codes "at") ≡ false). under_line before word log path rule f e)
    (cases_Bool (bytes_eq word (codes "at")))

line_is : (before : List Rule) (ps : List (List ℕ)) (rule : Rule) → rule_of before ps ≡ Ok rule → IsLine before ps rule
unfolding rule_of
line_is before [] rule e = absurd (not_ok kind.Fields rule e)
line_is before (w ∷ []) rule e = absurd (not_ok kind.Fields rule e)
line_is before (w ∷ log ∷ []) rule e = log_line before w log rule e
line_is before (w ∷ log ∷ path ∷ []) rule e = place_line before w log path rule e
line_is before (w ∷ log ∷ path ∷ x ∷ ps) rule e = absurd (not_ok kind.Fields rule e)

sound : (head : Unit {0}) → IsSound (judge_rule head) rule_text (IsFine head)
sound tt before line rule e =
    let is = line_is before (parts 32 line) rule e in
    (sym (joined 32 line) ∙ is.0, is.1)

narrow_fine : (before rules : List Rule) → wide_rules before ≤ MAX_WIDE → AreFine (IsFine tt) before rules → wide_rules (before ++ rules) ≤ MAX_WIDE
narrow_fine before [] narrow h = subst (λ l. wide_rules l ≤ MAX_WIDE) (sym (append-nil before)) narrow
narrow_fine before (rule ∷ rules) narrow (one, h) =
    subst (λ l. wide_rules l ≤ MAX_WIDE) (append_assoc before (rule ∷ []) rules) (narrow_fine (before ++ rule ∷ []) rules (one_more (is_wide rule) refl) h)
  where
    one_more : (b : Bool) → is_wide rule ≡ b → wide_rules (before ++ rule ∷ []) ≤ MAX_WIDE
    one_more true e =
        let space = one.space.wide e in
        let count : wide_rules (rule ∷ []) ≡ 1 = rw e refl in
        let all = wide-append before (rule ∷ []) in
        omega (arith, space, count, all)
    one_more false e =
        let count : wide_rules (rule ∷ []) ≡ 0 = rw e refl in
        let all = wide-append before (rule ∷ []) in
        omega (arith, count, all, narrow)

head_is : (line : List ℕ) (h : Unit {0}) → prefs_head line ≡ Some h → line ≡ prefs_first
head_is line h e =
    ⊎_elim
    (λ (t : bytes_eq line prefs_first ≡ true). word_is line prefs_first t)
    (λ (f : bytes_eq line prefs_first ≡ false). absurd (none (rw f at e)))
    (cases_Bool (bytes_eq line prefs_first))
  where
    none : ◌≡◌ {A = Option (Unit {0})} None (Some h) → ⊥
    none e = cc

with_its_head : (r : Result (Unit {0} × List Rule) TextFault) (rules : List Rule) → without_head r ≡ Ok rules → r ≡ Ok (tt, rules)
with_its_head (Ok (h, read)) rules e = ap (λ x. Ok (tt, x)) (same read rules e)
  where
    same : (a b : List Rule) → ◌≡◌ {A = Result (List Rule) TextFault} (Ok a) (Ok b) → a ≡ b
    same a b e = cc
with_its_head (Err f) rules e = cc

-- what is read has its text, and is in the limits
pub prefs_is : (text : List ℕ) (rules : List Rule) → prefs_of (parts 10 text) ≡ Ok rules → (text ≡ prefs_text rules) × IsPrefs rules
unfolding prefs_of prefs_text
prefs_is text rules e =
    let is = framed_is judge_rule prefs_head (λ head. prefs_first) rule_text IsFine head_is sound text tt rules (with_its_head (framed_of prefs_head judge_rule (parts 10 text)) rules e) in (
      is.0,
      record {
        few = few_fine (IsFine tt) (λ before rule h. h.space.all) [] rules (lit≤ tt) is.1;
        narrow = narrow_fine [] rules (lit≤ tt) is.1;
        each = each_fine (IsFine tt) IsRule (λ before rule h. h.valid) [] rules is.1;
      },
    )

same_lists : (a b : List Rule) (f : Result (List Rule) TextFault) → f ≡ Ok a → f ≡ Ok b → a ≡ b
same_lists a b f e h = same (sym e ∙ h)
  where
    same : ◌≡◌ {A = Result (List Rule) TextFault} (Ok a) (Ok b) → a ≡ b
    same e = cc

-- two lists with one text are equal
pub one_prefs : (a b : List Rule) → IsPrefs a → IsPrefs b → prefs_text a ≡ prefs_text b → a ≡ b
one_prefs a b ha hb e = same_lists a b (prefs_of (parts 10 (prefs_text b))) (ap (λ t. prefs_of (parts 10 t)) (sym e) ∙ prefs_back a ha) (prefs_back b hb)
