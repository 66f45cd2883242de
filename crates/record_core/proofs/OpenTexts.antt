-- The text of a log without its end line, and a text that was cut, as open logs.
use Rattle.std.proofs.Common.{◌≡◌, ◌⊎◌, inl, inr, ℕ, zero, suc, ◌+◌, ◌≤◌, Bool, true, false, cond, nat_eq, nat_lt, List, [], ◌∷◌, ◌++◌, length, take, Option, Some, None, Result, Ok, Err, refl, sym, ap, subst, ◌∙◌, arith, append_assoc, append-nil, length-append, unwrap_or}
use Rattle.std.specs.Prelude.{map, if◌then◌else◌, decimal, IsErr}
use Rattle.std.proofs.lemmas.List.{length-map}
use Rattle.std.proofs.lemmas.List.Sums.{sum_by-append}
use Rattle.std.proofs.lemmas.Bool.Decides.{nat_tests}
use Rattle.sync_path.specs.Paths.{parts}
use Rattle.sync_command.specs.declared.values.Value.{Value}
use Rattle.sync_command.specs.declared.values.Value.TheVariants as value
use Rattle.sync_command.specs.Values.{value_text}
use Rattle.sync_command.specs.declared.values.Version.{Version}
use Rattle.sync_command.specs.declared.values.Version.TheVariants.{One, Two}
use Rattle.sync_command.specs.Changes.{Change, change_text}
use Rattle.log_text.specs.declared.faults.TextFault.{TextFault}
use Rattle.log_text.specs.declared.faults.TextKind.{TextKind}
use Rattle.log_text.specs.declared.faults.TextKind.TheVariants as kind
use Rattle.log_text.specs.declared.frame.TheConstants.{MAX_ITEMS}
use Rattle.log_text.specs.Frame.{Judge, after_first, at_line, body_items, body_of, complete_items, end_line, end_number, ended, fault_at, framed_of, head_of, header_fault, items_after_first, items_at, unless, with_head}
use Rattle.log_text.specs.Logs.{IsLog, judge_change, log_first, log_of, log_text}
use Rattle.log_text.specs.OpenLogs.{IsOpenLog, ended_part}
use Rattle.log_text.specs.Pieces.{line_feeds}
use Rattle.log_text.specs.Versions.{version_of}
use Rattle.log_text.proofs.CallerLemmas.{IsClear, clear_both, decimal_digits, digits_field, field_clear, log_back, log_complete, parts_clear, parts_only, path_field}
use Rattle.log_text.specs.Logs.{IsCommand}
use Rattle.sync_command.specs.Maps.{Store, at, stored}
use Rattle.sync_command.specs.Trees.{Holding, Takes, put}
use Rattle.sync_port.specs.Ports.{SinkContents}
use Rattle.record_core.specs.declared.faults.RecordFault.{RecordFault}
use Rattle.record_core.specs.declared.faults.RecordFault.TheVariants.{OpRefused, TreeFailed, TreeDenied, WriteFault, TooLarge, Memory}
use Rattle.record_core.specs.declared.ops.Op.{Op}
use Rattle.record_core.specs.Outcomes.{RecordsScript, outcome_of}
use Rattle.record_core.specs.Recording.{AfterLines, InFirst, IsClosed, LeavesOpen}
use Rattle.record_core.specs.Seals.{IsAllOrAllButLast, IsLogOf, IsSealed, LeavesLog, OpenLog}
use Rattle.record_core.proofs.OneCommand.{text_one}
use Rattle.record_core.proofs.SealedLists.{prefix_passes}
use Rattle.record_core.proofs.SealLaws.{done_is_sealed}
use Rattle.record_core.specs.Texts.{closed_text, end_line_of, first_line, line_of, lines_of, open_text}

-- ---- what the end line takes away

module _ {X : Type 0} (judge : Judge X) where
  body_step : (xs : List X) (l : List ℕ) (ls : List (List ℕ)) (y : List ℕ) (rest : List (List ℕ)) →
      body_of judge xs (l ∷ (ls ++ y ∷ rest)) ≡ at_line xs (end_number (parts 32 l)) (judge xs (parts 32 l)) (ls ++ y ∷ rest) (λ x. body_of judge (xs ++ x ∷ []) (ls ++ y ∷ rest))
  unfolding body_of
  body_step xs l [] y rest = refl
  body_step xs l (k ∷ ls) y rest = refl

  body_end : (xs : List X) → body_of judge xs ([] ∷ []) ≡ Err (fault_at (length xs) kind.End)
  unfolding body_of
  body_end xs = refl

  items_step : (xs : List X) (l : List ℕ) (ls : List (List ℕ)) (y : List ℕ) (rest : List (List ℕ)) →
      body_items judge xs (l ∷ (ls ++ y ∷ rest)) ≡ items_at xs (end_number (parts 32 l)) (judge xs (parts 32 l)) (λ x. body_items judge (xs ++ x ∷ []) (ls ++ y ∷ rest))
  unfolding body_items
  items_step xs l [] y rest = refl
  items_step xs l (k ∷ ls) y rest = refl

  items_end : (xs : List X) → body_items judge xs ([] ∷ []) ≡ xs
  unfolding body_items
  items_end xs = refl

  -- without an end line the list is complete, and the end is missing
  record IsHalf (xs : List X) (ls : List (List ℕ)) (list : List X) : Type 0 where
    pub items : body_items judge xs (ls ++ [] ∷ []) ≡ list
    pub lost : body_of judge xs (ls ++ [] ∷ []) ≡ Err (fault_at (length list) kind.End)

  unless_is : (o : Option TextFault) (xs ys : List X) → unless o xs ≡ Ok ys → ys ≡ xs
  unless_is None xs ys h = cc
  unless_is (Some f) xs ys h = cc (h)

  not_both : (f : TextFault) (r : Result (List X) TextFault) (ys : List X) → r ≡ Err f → r ≡ Ok ys → ⊥
  not_both f r ys e h = cc (sym e ∙ h)

  half : (ls : List (List ℕ)) (xs : List X) (e : List ℕ) (list : List X) → body_of judge xs (ls ++ e ∷ [] ∷ []) ≡ Ok list → length list ≡ length xs + length ls → IsHalf xs ls list
  half [] xs e list is long = go (end_number (parts 32 e)) (judge xs (parts 32 e)) (sym (body_step xs e [] [] []) ∙ is)
    where
      go : (o : Option (List ℕ)) (r : Result X TextKind) → at_line xs o r ([] ∷ []) (λ x. body_of judge (xs ++ x ∷ []) ([] ∷ [])) ≡ Ok list → IsHalf xs [] list
      go (Some number) r h = subst (IsHalf xs []) (sym (unless_is _ xs list h)) (record { items = items_end xs; lost = body_end xs })
      go None (Ok x) h = absurd (not_both _ _ list (body_end (xs ++ x ∷ [])) h)
      go None (Err f) h = absurd (not_both _ _ list refl h)
  half (l ∷ ls) xs e list is long =
      go (end_number (parts 32 l)) refl (judge xs (parts 32 l)) refl (sym (body_step xs l ls e ([] ∷ [])) ∙ is) (λ x h k. half ls (xs ++ x ∷ []) e list h k)
    where
      count : (x : X) → length list ≡ length (xs ++ x ∷ []) + length ls
      count x = let more = length-append xs (x ∷ []) in omega (arith, more, long)

      not_here : list ≡ xs → ⊥
      not_here same = let size = ap length same in omega (arith, size, long)

      go : (o : Option (List ℕ)) → end_number (parts 32 l) ≡ o → (r : Result X TextKind) → judge xs (parts 32 l) ≡ r → at_line xs o r (ls ++ e ∷ [] ∷ []) (λ x. body_of judge (xs ++ x ∷ []) (ls ++ e ∷ [] ∷ [])) ≡ Ok list →
          ((x : X) → body_of judge (xs ++ x ∷ []) (ls ++ e ∷ [] ∷ []) ≡ Ok list → length list ≡ length (xs ++ x ∷ []) + length ls → IsHalf (xs ++ x ∷ []) ls list) → IsHalf xs (l ∷ ls) list
      go (Some number) eo r er h rec = absurd (not_here (unless_is _ xs list h))
      go None eo (Err f) er h rec = absurd (not_both _ _ list refl h)
      go None eo (Ok x) er h rec =
          let i = rec x h (count x) in
          record {
            items = items_step xs l ls [] [] ∙ ap (λ o. items_at xs o (judge xs (parts 32 l)) (λ x. body_items judge (xs ++ x ∷ []) (ls ++ [] ∷ []))) eo
                ∙ ap (λ r. items_at xs None r (λ x. body_items judge (xs ++ x ∷ []) (ls ++ [] ∷ []))) er ∙ i.items;
            lost = body_step xs l ls [] [] ∙ ap (λ o. at_line xs o (judge xs (parts 32 l)) (ls ++ [] ∷ []) (λ x. body_of judge (xs ++ x ∷ []) (ls ++ [] ∷ []))) eo
                ∙ ap (λ r. at_line xs None r (ls ++ [] ∷ []) (λ x. body_of judge (xs ++ x ∷ []) (ls ++ [] ∷ []))) er ∙ i.lost;
          }

-- ---- the lines of a text

value_clear : (v : Value) → IsClear 10 (value_text v)
value_clear value.Empty = (refl, tt)
value_clear (value.Dir []) = (refl, tt)
value_clear (value.Dir (b ∷ label)) = (refl, (refl, field_clear 10 _ (omega arith) (path_field ((b ∷ label) ∷ []))))
value_clear (value.File bytes) = (refl, (refl, field_clear 10 _ (omega arith) (path_field (bytes ∷ []))))

change_clear : (c : Change) → IsClear 10 (change_text c)
change_clear c = clear_both 10 _ (32 ∷ value_text c.new) (clear_both 10 _ (32 ∷ value_text c.old) (field_clear 10 _ (omega arith) (path_field c.node)) (refl, value_clear c.old)) (refl, value_clear c.new)

first_clear : (version : Version) → IsClear 10 (log_first version)
first_clear One = (refl, (refl, (refl, (refl, (refl, (refl, (refl, (refl, (refl, tt)))))))))
first_clear Two = (refl, (refl, (refl, (refl, (refl, (refl, (refl, (refl, (refl, tt)))))))))

end_clear : (n : ℕ) → n ≤ MAX_ITEMS → IsClear 10 (end_line n)
end_clear n few = (refl, (refl, (refl, (refl, field_clear 10 (decimal n) (omega arith) (digits_field (decimal n) (decimal_digits n (omega (arith, few))).low)))))

-- a line with its line feed is cut off
cut_off : (a rest : List ℕ) → IsClear 10 a → parts 10 (ended a ++ rest) ≡ a ∷ parts 10 rest
cut_off a rest clear = ap (parts 10) (append_assoc a (10 ∷ []) rest) ∙ parts_clear 10 a rest clear

parts_lines : (cs : List Change) (rest : List ℕ) → parts 10 (lines_of cs ++ rest) ≡ map change_text cs ++ parts 10 rest
parts_lines [] rest = refl
parts_lines (c ∷ cs) rest = ap (parts 10) (append_assoc (line_of c) (lines_of cs) rest) ∙ cut_off (change_text c) (lines_of cs ++ rest) (change_clear c) ∙ ap (λ l. change_text c ∷ l) (parts_lines cs rest)

parts_open : (version : Version) (cs : List Change) (rest : List ℕ) → parts 10 (open_text version cs ++ rest) ≡ log_first version ∷ (map change_text cs ++ parts 10 rest)
parts_open version cs rest = ap (parts 10) (append_assoc (first_line version) (lines_of cs) rest) ∙ cut_off (log_first version) (lines_of cs ++ rest) (first_clear version) ∙ ap (λ l. log_first version ∷ l) (parts_lines cs rest)

open_lines : (version : Version) (cs : List Change) → parts 10 (open_text version cs) ≡ log_first version ∷ (map change_text cs ++ [] ∷ [])
open_lines version cs = ap (parts 10) (sym (append-nil (open_text version cs))) ∙ parts_open version cs [] ∙ ap (λ l. log_first version ∷ (map change_text cs ++ l)) (parts_only 10 [] tt)

pub closed_is : (version : Version) (cs : List Change) → log_text version cs ≡ closed_text version cs
unfolding log_text
closed_is version cs = sym (append_assoc (first_line version) (lines_of cs) (end_line_of cs))

closed_lines : (version : Version) (cs : List Change) → length cs ≤ MAX_ITEMS → parts 10 (log_text version cs) ≡ log_first version ∷ (map change_text cs ++ end_line (length cs) ∷ [] ∷ [])
closed_lines version cs few =
    ap (parts 10) (closed_is version cs) ∙ parts_open version cs (end_line_of cs)
    ∙ ap (λ l. log_first version ∷ (map change_text cs ++ l)) (parts_clear 10 (end_line (length cs)) [] (end_clear (length cs) few) ∙ ap (λ l. end_line (length cs) ∷ l) (parts_only 10 [] tt))

-- ---- the first line

framed_step : {H X : Type 0} (first : List ℕ → Option H) (judge : H → Judge X) (l : List ℕ) (ls : List (List ℕ)) (y : List ℕ) (rest : List (List ℕ)) →
    framed_of first judge (l ∷ (ls ++ y ∷ rest)) ≡ after_first (first l) (λ head. with_head head (body_of (judge head) [] (ls ++ y ∷ rest)))
unfolding framed_of
framed_step first judge l [] y rest = refl
framed_step first judge l (k ∷ ls) y rest = refl

complete_step : {H X : Type 0} (first : List ℕ → Option H) (judge : H → Judge X) (l : List ℕ) (ls : List (List ℕ)) (y : List ℕ) (rest : List (List ℕ)) →
    complete_items first judge (l ∷ (ls ++ y ∷ rest)) ≡ items_after_first (first l) (λ head. body_items (judge head) [] (ls ++ y ∷ rest))
unfolding complete_items
complete_step first judge l [] y rest = refl
complete_step first judge l (k ∷ ls) y rest = refl

head_step : {H : Type 0} (first : List ℕ → Option H) (l : List ℕ) (ls : List (List ℕ)) (y : List ℕ) (rest : List (List ℕ)) → head_of first (l ∷ (ls ++ y ∷ rest)) ≡ first l
unfolding head_of
head_step first l [] y rest = refl
head_step first l (k ∷ ls) y rest = refl

is_first : (version : Version) → version_of log_first (log_first version) ≡ Some version
is_first One = refl
is_first Two = refl

is_ok : (a b : Version × List Change) → ◌≡◌ {A = Result (Version × List Change) TextFault} (Ok a) (Ok b) → a ≡ b
is_ok a b e = cc

body_ok : (version : Version) (r : Result (List Change) TextFault) (cs : List Change) → with_head version r ≡ Ok (version, cs) → r ≡ Ok cs
body_ok version (Ok xs) cs h = ap (λ (p : Version × List Change). Ok p.1) (is_ok (version, xs) (version, cs) h)
body_ok version (Err f) cs h = cc (h)

whole_body : (version : Version) (cs : List Change) → IsLog version cs → body_of (judge_change version) [] (map change_text cs ++ end_line (length cs) ∷ [] ∷ []) ≡ Ok cs
unfolding log_of
whole_body version cs is = body_ok version _ cs
    (sym (ap (λ o. after_first o (λ head. with_head head (body_of (judge_change head) [] (map change_text cs ++ end_line (length cs) ∷ [] ∷ [])))) (is_first version))
    ∙ sym (framed_step (version_of log_first) judge_change (log_first version) (map change_text cs) (end_line (length cs)) ([] ∷ []))
    ∙ ap (framed_of (version_of log_first) judge_change) (sym (closed_lines version cs is.few)) ∙ log_back version cs is)

half_log : (version : Version) (cs : List Change) → IsLog version cs → IsHalf (judge_change version) [] (map change_text cs) cs
half_log version cs is = half (judge_change version) (map change_text cs) [] (end_line (length cs)) cs (whole_body version cs is) (sym (length-map cs change_text) ∙ from_none (length (map change_text cs)))
  where
    from_none : (n : ℕ) → n ≡ length {A = Change} [] + n
    from_none n = omega arith

-- ---- line feeds

feeds_append : (a b : List ℕ) → line_feeds (a ++ b) ≡ line_feeds a + line_feeds b
feeds_append a b = sum_by-append (λ x. cond (nat_eq x 10) 1 0) a b

feeds_clear : (a : List ℕ) → IsClear 10 a → line_feeds a ≡ 0
feeds_clear [] h = refl
feeds_clear (x ∷ a) (f, h) = rw f (feeds_clear a h)

feeds_line : (a : List ℕ) → IsClear 10 a → line_feeds (ended a) ≡ 1
feeds_line a h = feeds_append a (10 ∷ []) ∙ ap (λ n. n + 1) (feeds_clear a h)

feeds_lines : (cs : List Change) → line_feeds (lines_of cs) ≡ length cs
feeds_lines [] = refl
feeds_lines (c ∷ cs) = feeds_append (line_of c) (lines_of cs) ∙ ap (λ n. n + line_feeds (lines_of cs)) (feeds_line (change_text c) (change_clear c)) ∙ ap (λ n. 1 + n) (feeds_lines cs) ∙ one_more (length cs)
  where
    one_more : (n : ℕ) → 1 + n ≡ suc n
    one_more n = omega arith

feeds_open : (version : Version) (cs : List Change) → line_feeds (open_text version cs) ≡ 1 + length cs
feeds_open version cs = feeds_append (first_line version) (lines_of cs) ∙ ap (λ n. n + line_feeds (lines_of cs)) (feeds_line (log_first version) (first_clear version)) ∙ ap (λ n. 1 + n) (feeds_lines cs)

-- ---- open logs

is_fault : (a b : TextFault) → ◌≡◌ {A = Result (Version × List Change) TextFault} (Err a) (Err b) → a ≡ b
is_fault a b h = cc

lost_end : (version : Version) (cs : List Change) → IsLog version cs → log_of (parts 10 (open_text version cs)) ≡ Err (fault_at (length cs) kind.End)
unfolding log_of
lost_end version cs is =
    ap (framed_of (version_of log_first) judge_change) (open_lines version cs) ∙ framed_step (version_of log_first) judge_change (log_first version) (map change_text cs) [] []
    ∙ ap (λ o. after_first o (λ head. with_head head (body_of (judge_change head) [] (map change_text cs ++ [] ∷ [])))) (is_first version)
    ∙ ap (with_head version) (half_log version cs is).lost

pub open_is : (version : Version) (cs : List Change) → IsLog version cs → IsOpenLog (open_text version cs) version cs false
open_is version cs is = record {
  first = sym (ap (λ o. unwrap_or o One) (ap (head_of (version_of log_first)) (open_lines version cs) ∙ head_step (version_of log_first) (log_first version) (map change_text cs) [] [] ∙ is_first version));
  complete_commands = ap (complete_items (version_of log_first) judge_change) (open_lines version cs) ∙ complete_step (version_of log_first) judge_change (log_first version) (map change_text cs) [] []
      ∙ ap (λ o. items_after_first o (λ head. body_items (judge_change head) [] (map change_text cs ++ [] ∷ []))) (is_first version) ∙ (half_log version cs is).items;
  right = λ f h. no_fault f h.1 (is_fault f (fault_at (length cs) kind.End) (sym h.0 ∙ lost_end version cs is));
  end = failed (log_of (parts 10 (open_text version cs))) (lost_end version cs is);
}
  where
    no_fault : (f : TextFault) → (f.kind ≡ kind.After) ⊎ (f.line ≤ line_feeds (open_text version cs)) → f ≡ fault_at (length cs) kind.End → ⊥
    no_fault f (inl after) e = let k : kind.After ≡ kind.End = sym after ∙ ap (λ (x : TextFault). x.kind) e in cc (k)
    no_fault f (inr low) e = let at = ap (λ (x : TextFault). x.line) e in let feeds = feeds_open version cs in absurd (omega (arith, at, feeds, low))

    failed : (r : Result (Version × List Change) TextFault) → r ≡ Err (fault_at (length cs) kind.End) → IsErr r
    failed r e = subst IsErr (sym e) refl

pub closed_log : (version : Version) (cs : List Change) → IsLog version cs → IsOpenLog (closed_text version cs) version cs true
closed_log version cs is = subst (λ text. IsOpenLog text version cs true) (closed_is version cs) (record {
  first = sym (ap (λ o. unwrap_or o One) (log_complete (log_text version cs) version cs back).1);
  complete_commands = (log_complete (log_text version cs) version cs back).0;
  right = λ f h. wrong f (sym back ∙ h.0);
  end = back;
})
  where
    back : log_of (parts 10 (log_text version cs)) ≡ Ok (version, cs)
    back = log_back version cs is

    wrong : (f : TextFault) → ◌≡◌ {A = Result (Version × List Change) TextFault} (Ok (version, cs)) (Err f) → ⊥
    wrong f h = cc

-- no line at all
none_parts : parts 10 [] ≡ [] ∷ []
none_parts = parts_only 10 [] tt

none_first : head_of (version_of log_first) ([] ∷ []) ≡ None
unfolding head_of
none_first = refl

none_complete : complete_items (version_of log_first) judge_change ([] ∷ []) ≡ []
unfolding complete_items
none_complete = refl

none_log : log_of ([] ∷ []) ≡ Err header_fault
unfolding log_of framed_of
none_log = refl

pub nothing_is : IsOpenLog [] One [] false
nothing_is = record {
  first = sym (ap (λ ps. unwrap_or (head_of (version_of log_first) ps) One) none_parts ∙ ap (λ o. unwrap_or o One) none_first);
  complete_commands = ap (complete_items (version_of log_first) judge_change) none_parts ∙ none_complete;
  right = λ f h. no_fault f h.1 (is_fault f header_fault (sym h.0 ∙ header));
  end = subst IsErr (sym header) refl;
}
  where
    header : log_of (parts 10 []) ≡ Err header_fault
    header = ap log_of none_parts ∙ none_log

    no_fault : (f : TextFault) → (f.kind ≡ kind.After) ⊎ (f.line ≤ line_feeds []) → f ≡ header_fault → ⊥
    no_fault f (inl after) e = let k : kind.After ≡ kind.Header = sym after ∙ ap (λ (x : TextFault). x.kind) e in cc (k)
    no_fault f (inr low) e = let at = ap (λ (x : TextFault). x.line) e in absurd (omega (arith, at, low))

-- ---- the ended part of a text

ended_clear : (b : List ℕ) → IsClear 10 b → ended_part b ≡ []
unfolding ended_part
ended_clear [] h = refl
ended_clear (x ∷ b) h = ap (λ n. if nat_lt 0 n then x ∷ ended_part b else []) (feeds_clear (x ∷ b) h)

one_feed : (b : List ℕ) → IsClear 10 b → line_feeds (10 ∷ b) ≡ 1
one_feed b h = feeds_append (10 ∷ []) b ∙ ap (λ n. 1 + n) (feeds_clear b h)

ended_at : (a b : List ℕ) → IsClear 10 b → ended_part (a ++ 10 ∷ b) ≡ a ++ 10 ∷ []
unfolding ended_part
ended_at [] b h = ap (λ n. if nat_lt 0 n then 10 ∷ ended_part b else []) (one_feed b h) ∙ ap (λ l. 10 ∷ l) (ended_clear b h)
ended_at (x ∷ a) b h =
    let more : line_feeds (x ∷ (a ++ 10 ∷ b)) ≡ line_feeds (x ∷ a) + 1 = feeds_append (x ∷ a) (10 ∷ b) ∙ ap (λ n. line_feeds (x ∷ a) + n) (one_feed b h) in
    let some : nat_lt 0 (line_feeds (x ∷ (a ++ 10 ∷ b))) ≡ true = ap (nat_lt 0) more ∙ above (line_feeds (x ∷ a)) in
    ap (λ t. if t then x ∷ ended_part (a ++ 10 ∷ b) else []) some ∙ ap (λ l. x ∷ l) (ended_at a b h)
  where
    above : (n : ℕ) → nat_lt 0 (n + 1) ≡ true
    above n = grind (arith, nat_tests)

ends_feed : (cs : List Change) (pre : List ℕ) → (a : List ℕ) × (ended pre ++ lines_of cs ≡ ended a)
ends_feed [] pre = (pre, append-nil (ended pre))
ends_feed (c ∷ cs) pre =
    let r = ends_feed cs (ended pre ++ change_text c) in
    (r.0, sym (append_assoc (ended pre) (line_of c) (lines_of cs)) ∙ ap (λ l. l ++ lines_of cs) (sym (append_assoc (ended pre) (change_text c) (10 ∷ []))) ∙ r.1)

pub ended_open : (version : Version) (cs : List Change) (b : List ℕ) → IsClear 10 b → ended_part (open_text version cs ++ b) ≡ open_text version cs
ended_open version cs b h =
    let e = ends_feed cs (log_first version) in
    ap (λ t. ended_part (t ++ b)) e.1 ∙ ap ended_part (append_assoc e.0 (10 ∷ []) b) ∙ ended_at e.0 b h ∙ sym e.1

pub ended_closed : (version : Version) (cs : List Change) → ended_part (closed_text version cs) ≡ closed_text version cs
ended_closed version cs =
    let whole : closed_text version cs ≡ (open_text version cs ++ end_line (length cs)) ++ 10 ∷ [] = sym (append_assoc (open_text version cs) (end_line (length cs)) (10 ∷ [])) in
    ap ended_part whole ∙ ended_at (open_text version cs ++ end_line (length cs)) [] tt ∙ sym whole

-- the first bytes of a line have no line feed, or are all of it
cut_line : (body : List ℕ) (size : ℕ) → IsClear 10 body → IsClear 10 (take size (ended body)) ⊎ (take size (ended body) ≡ ended body)
cut_line body zero h = inl tt
cut_line [] (suc size) h = inr (ap (λ l. 10 ∷ l) (nothing size))
  where
    nothing : (k : ℕ) → ◌≡◌ {A = List ℕ} (take k []) []
    nothing zero = refl
    nothing (suc k) = refl
cut_line (x ∷ body) (suc size) (f, h) = go (cut_line body size h)
  where
    go : IsClear 10 (take size (ended body)) ⊎ (take size (ended body) ≡ ended body) → IsClear 10 (x ∷ take size (ended body)) ⊎ (x ∷ take size (ended body) ≡ x ∷ ended body)
    go (inl k) = inl (f, k)
    go (inr e) = inr (ap (λ l. x ∷ l) e)

-- ---- what a recording leaves

takes_prefix : (t : Holding) (cs more : List Change) → Takes t (cs ++ more) → Takes t cs
takes_prefix t [] more h = tt
takes_prefix t (c ∷ cs) more h = (h.0, takes_prefix (put t c.node c.new) cs more h.1)

log_prefix : (version : Version) (cs more : List Change) → IsLog version (cs ++ more) → IsLog version cs
log_prefix version cs more is = let few = is.few in let size = length-append cs more in record { few = omega (arith, few, size); each = prefix_passes (IsCommand version) cs more is.each }

left : (cs : List Change) (w x : SinkContents) (m n : Store) (gained : List ℕ) (log : OpenLog) (rest done : List Change) → x.written ≡ w.written ++ gained → IsLogOf gained log → cs ≡ log.commands ++ rest → IsAllOrAllButLast log done → n ≡ stored m done → Takes (at m) cs → LeavesLog cs w x m n
left cs w x m n gained log rest done written read prefix which tree takes = record {
  gained = gained;
  written = written;
  log = log;
  read = read;
  rest = rest;
  prefix = prefix;
  done = done;
  which = which;
  tree = tree;
  is_sealed = subst (λ (s : Store). IsSealed log (at s) done) (sym tree) (done_is_sealed m log done (takes_prefix (at m) log.commands rest (subst (Takes (at m)) prefix takes)) which);
}

abbrev open_of : Bool → Version → List Change → OpenLog
open_of ended version cs = record { version = version; commands = cs; ended = ended }

-- the lines of `done` alone
lines_left : (version : Version) (cs done rest : List Change) (b : List ℕ) (w x : SinkContents) (m n : Store) → IsLog version cs → Takes (at m) cs → cs ≡ done ++ rest → IsClear 10 b → x.written ≡ w.written ++ (open_text version done ++ b) → n ≡ stored m done → LeavesLog cs w x m n
lines_left version cs done rest b w x m n is takes all clear written tree =
    left cs w x m n (open_text version done ++ b) (open_of false version done) rest done written
    (subst (λ t. IsOpenLog t version done false) (sym (ended_open version done b clear)) (open_is version done (log_prefix version done rest (subst (IsLog version) all is)))) all (inl refl) tree takes

-- a closed log
closed_left : (version : Version) (cs done : List Change) (w x : SinkContents) (m n : Store) → IsLog version cs → Takes (at m) cs → cs ≡ done ++ [] → x.written ≡ w.written ++ closed_text version done → n ≡ stored m done → LeavesLog cs w x m n
closed_left version cs done w x m n is takes all written tree =
    left cs w x m n (closed_text version done) (open_of true version done) [] done written
    (subst (λ t. IsOpenLog t version done true) (sym (ended_closed version done)) (closed_log version done (log_prefix version done [] (subst (IsLog version) all is)))) all (inl refl) tree takes

-- the line of one command more
line_left : (version : Version) (cs done rest : List Change) (c : Change) (w x : SinkContents) (m n : Store) → IsLog version cs → Takes (at m) cs → cs ≡ done ++ (c ∷ rest) → x.written ≡ w.written ++ (open_text version done ++ line_of c) → n ≡ stored m done → LeavesLog cs w x m n
line_left version cs done rest c w x m n is takes all written tree =
    let more : cs ≡ (done ++ c ∷ []) ++ rest = all ∙ sym (append_assoc done (c ∷ []) rest) in
    let text : open_text version done ++ line_of c ≡ open_text version (done ++ c ∷ []) ++ [] = sym (append-nil (open_text version (done ++ c ∷ [])) ∙ text_one version done c) in
    left cs w x m n (open_text version (done ++ c ∷ []) ++ []) (open_of false version (done ++ c ∷ [])) rest done (written ∙ ap (λ t. w.written ++ t) text)
    (subst (λ t. IsOpenLog t version (done ++ c ∷ []) false) (sym (ended_open version (done ++ c ∷ []) [] tt)) (open_is version (done ++ c ∷ []) (log_prefix version (done ++ c ∷ []) rest (subst (IsLog version) more is)))) more (inr (refl, (c, refl))) tree takes

-- nothing but the first bytes of the first line
first_left : (cs : List Change) (b : List ℕ) (w x : SinkContents) (m n : Store) → Takes (at m) cs → IsClear 10 b → x.written ≡ w.written ++ b → n ≡ m → LeavesLog cs w x m n
first_left cs b w x m n takes clear written tree =
    left cs w x m n b (open_of false One []) cs [] written (subst (λ t. IsOpenLog t One [] false) (sym (ended_clear b clear)) nothing_is) refl (inl refl) tree takes

pub leaves_open_log : (version : Version) (cs : List Change) (w x : SinkContents) (m n : Store) → IsLog version cs → Takes (at m) cs → LeavesOpen version cs w x m n → LeavesLog cs w x m n
leaves_open_log version cs w x m n is takes (InFirst size written tree) = go (cut_line (log_first version) size (first_clear version))
  where
    go : IsClear 10 (take size (first_line version)) ⊎ (take size (first_line version) ≡ first_line version) → LeavesLog cs w x m n
    go (inl clear) = first_left cs (take size (first_line version)) w x m n takes clear written tree
    go (inr whole) = lines_left version cs [] cs [] w x m n is takes refl tt
        (written ∙ ap (λ t. w.written ++ t) (whole ∙ sym (append-nil (first_line version ++ []) ∙ append-nil (first_line version)))) tree
leaves_open_log version cs w x m n is takes (AfterLines done [] size all written covers tree) = go (cut_line (end_line (length done)) size (end_clear (length done) (log_prefix version done [] (subst (IsLog version) all is)).few))
  where
    go : IsClear 10 (take size (end_line_of done)) ⊎ (take size (end_line_of done) ≡ end_line_of done) → LeavesLog cs w x m n
    go (inl clear) = lines_left version cs done [] (take size (end_line_of done)) w x m n is takes all clear written tree
    go (inr whole) = closed_left version cs done w x m n is takes all (written ∙ ap (λ t. w.written ++ (open_text version done ++ t)) whole) tree
leaves_open_log version cs w x m n is takes (AfterLines done (c ∷ rest) size all written covers tree) = go (cut_line (change_text c) size (change_clear c))
  where
    go : IsClear 10 (take size (line_of c)) ⊎ (take size (line_of c) ≡ line_of c) → LeavesLog cs w x m n
    go (inl clear) = lines_left version cs done (c ∷ rest) (take size (line_of c)) w x m n is takes all clear written tree
    go (inr whole) = line_left version cs done rest c w x m n is takes all (written ∙ ap (λ t. w.written ++ (open_text version done ++ t)) whole) tree

pub leaves_closed_log : (version : Version) (cs : List Change) (w x : SinkContents) (m n : Store) → IsLog version cs → Takes (at m) cs → IsClosed version cs w x m n → LeavesLog cs w x m n
leaves_closed_log version cs w x m n is takes h = closed_left version cs cs w x m n is takes (sym (append-nil cs)) h.gained h.tree

pub record_leaves : (version : Version) (script : List Op) (result : Result ℕ RecordFault) (w x : SinkContents) (m n : Store) → IsLog version (outcome_of version m script).commands → Takes (at m) (outcome_of version m script).commands →
    RecordsScript version script result w x m n → LeavesLog (outcome_of version m script).commands w x m n
record_leaves version script (Ok count) w x m n is takes h = leaves_closed_log version (outcome_of version m script).commands w x m n is takes h.1.1
record_leaves version script (Err (OpRefused number why)) w x m n is takes h = leaves_closed_log version (outcome_of version m script).commands w x m n is takes h.1
record_leaves version script (Err TooLarge) w x m n is takes h = leaves_closed_log version (outcome_of version m script).commands w x m n is takes h.1
record_leaves version script (Err TreeDenied) w x m n is takes h = absurd h
record_leaves version script (Err TreeFailed) w x m n is takes h = leaves_open_log version (outcome_of version m script).commands w x m n is takes h
record_leaves version script (Err WriteFault) w x m n is takes h = leaves_open_log version (outcome_of version m script).commands w x m n is takes h
record_leaves version script (Err Memory) w x m n is takes h = leaves_open_log version (outcome_of version m script).commands w x m n is takes h
