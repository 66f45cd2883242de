-- The answer of `conflicts LOG...`: a line for each clash of the drawn commands, in order.
use Rattle.std.specs.Prelude.{◌≡◌, ◌++◌, ℕ, List, [], ◌∷◌, map, codes, decimal, Option, None, Some, Result, Ok, Err}
use Rattle.sync_path.specs.Paths.{Node, path_text}
use Rattle.sync_command.specs.declared.commands.Row.{Row}
use Rattle.log_text.specs.Frame.{ended}
use Rattle.refluent.specs.Joints.{Joined, path_at}
use Rattle.clash_list.specs.ClashLists.{clashes}
use Rattle.clash_list.specs.declared.clashes.Clash.{Clash}
use Rattle.clash_list.specs.declared.clashes.Clash.TheVariants.{Same, Below}
use Rattle.tool_words.specs.Words.{Operand}
use Rattle.treesync.specs.Checks.{Check, Judged, Next, Then}
use Rattle.treesync.specs.Joining.{IsJoined, IsJointOf, IsLogs}
use Rattle.treesync.specs.Logs.{ReadLog}
use Rattle.treesync.specs.Outputs.{ClashLines, Output}
use Rattle.treesync.specs.declared.logs.TheConstants.{FULL_ALLOWANCE}
use Rattle.treesync.specs.declared.refusal.Refusal.{Refusal}

-- ---- lines

abbrev pub node_text : Option Node → List ℕ
node_text None = []
node_text (Some p) = path_text p

-- ` LEFT RIGHT`, the logs of the two commands
abbrev pub logs_text : ℕ → ℕ → List ℕ
logs_text left right = 32 ∷ (decimal left ++ (32 ∷ decimal right))

-- `same PATH LEFT RIGHT`, or `below PATH CHILD LEFT RIGHT`
abbrev pub clash_text : List Row → Clash → List ℕ
clash_text nodes (Same node left right) = codes "same " ++ (node_text (path_at nodes node) ++ logs_text left right)
clash_text nodes (Below node child left right) =
    codes "below " ++ (node_text (path_at nodes node) ++ (32 ∷ (node_text (path_at nodes child) ++ logs_text left right)))

abbrev pub lines_of : List Row → List Clash → List (List ℕ)
lines_of nodes clashes = map (λ clash. ended (clash_text nodes clash)) clashes

-- the lines of all clashes of a joint
abbrev pub clash_lines : Joined → List (List ℕ)
clash_lines joint = lines_of joint.nodes (clashes joint)

-- ---- the answer

-- what a joint shows of its logs
abbrev pub ShowsClashes : Joined → Output → Type 0
ShowsClashes joint output = output ≡ ClashLines (clash_lines joint)

-- what is printed of logs that some tree takes together
abbrev pub AreClashes : List ReadLog → Result Output Refusal → Type 0
AreClashes reads (Ok output) = (joint : Joined) × IsJointOf joint reads × ShowsClashes joint output
AreClashes reads (Err r) = ⊥

abbrev pub IsConflicts : List Operand → Check Output
IsConflicts files = Then (IsLogs FULL_ALLOWANCE files) (λ reads. Judged (Next (IsJoined files reads) AreClashes))
